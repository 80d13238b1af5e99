use Rattle.std.proofs.Common.{[], ◌∷◌, ◌++◌, List, sym, ap, subst, ◌∙◌, append_assoc, string_cmp}
use Rattle.std.specs.List.Sorted.{IsStrictlySortedBy}
use Rattle.std.specs.Map.{keys_of}
use Rattle.serde_json.specs.View.{members_view}
use Rattle.serde_json.proofs.Views.{Entry}
use Rattle.yp_data_json.specs.Holding.{MembersHaveNamesOnce}
use Rattle.yp_data_json.proofs.Names.{sorted_rest, names_in_front}
use Rattle.yp_data_json.proofs.holding.+names.Goals as goal

pub member_names_stand_once-loop-value-preserved : goal.member_names_stand_once-loop-value-preserved
member_names_stand_once-loop-value-preserved t c =
    let l = c.loop-value in
    let e : Entry = (c.in-Some.field-0-0.now, c.in-Some.value.now) in
    let rest = c.next.new.self in
    let done = l.invariant.0.0 in
    let left = c.in-Some.ensures.steps in
    let sorted = subst (λ (es : List Entry). IsStrictlySortedBy string_cmp (keys_of es)) left l.invariant.1 in (
      (done ++ e ∷ [], l.invariant.0.1 ∙ ap (λ es. done ++ es) left ∙ sym (append_assoc done (e ∷ []) rest)),
      sorted_rest e rest sorted,
      λ later. l.invariant.2 (subst (λ (es : List Entry). MembersHaveNamesOnce (members_view es)) (sym left) (names_in_front e rest sorted c.names_stand_once.ensures later)),
    )
