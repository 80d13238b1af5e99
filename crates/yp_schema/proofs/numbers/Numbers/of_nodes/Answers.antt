use Rattle.std.proofs.Common.{◌≡◌, [], ◌∷◌, ◌++◌, sym, ap, ◌∙◌, subst, append_assoc, arith}
use Rattle.std.specs.List.Sorted.{IsStrictlySortedBy}
use Rattle.std.specs.Map.{keys_of}
use Rattle.yp_schema.specs.declared.listing.Listed.{Listed}
use Rattle.yp_names.specs.Names.{Names, names_cmp}
use Rattle.yp_schema.proofs.Numbering.{path_last, length_more}
use Rattle.yp_schema.proofs.numbers.Numbers.of_nodes.Goals as goal

pub loop-path-preserved : goal.loop-path-preserved
loop-path-preserved c =
    let l = c.loop-path in
    let done = l.invariant.0 in
    let e : Names × Listed = (c.in-Some.path.now, c.in-Some.field-0-1.now) in
    let left = c.next.new.self in
    let all : c.args.nodes.now.entries ≡ done ++ e ∷ left = l.invariant.1 ∙ ap (λ es. done ++ es) c.in-Some.ensures.steps in
    let sorted = subst (λ es. IsStrictlySortedBy names_cmp (keys_of es)) all c.iter-path-items.ensures.ordered in (
      done ++ e ∷ [],
      all ∙ sym (append_assoc done (e ∷ []) left),
      c.in_ok-insert.ensures.entries ∙ rw (l.invariant.2, c.in_ok-copy.ensures) (path_last 0 done e left l.place (l.invariant.3 ∙ omega arith) sorted),
      rw l.invariant.3 (length_more done e),
    )
