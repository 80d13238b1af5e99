-- What a worker keeps from entry to entry.
use Rattle.std.proofs.Common.{◌≡◌, ◌∙◌, refl, sym, ap, subst, Bool, true, false, cond, List, [], ◌∷◌, ◌++◌, length, Option, Some, None, arith}
use Rattle.std.specs.Prelude.{◌==◌, IfSome}
use Rattle.std.specs.List.{AllByRecursion}
use Rattle.std.proofs.lemmas.Option.{none-some, same_Some}
use Rattle.yp_base.specs.declared.path.Seg.{Seg}
use Rattle.yp_base.specs.declared.row.Row.{Row}
use Rattle.yp_base.specs.declared.row.Value.{Value}
use Rattle.yp_base.specs.Rows.{AreInOrder, value_at}
use Rattle.yp_schema.specs.declared.schema.SchemaNode.{SchemaNode}
use Rattle.yp_tree.specs.Alike.{same_rows}
use Rattle.yp_changes.specs.declared.changed.ChangedRow.{ChangedRow}
use Rattle.yp_changes.specs.ChangeLaws.{alike_is, change_in, changed_at}
use Rattle.yp_changes.specs.Changes.{are_alike, change_of, changed_rows}
use Rattle.yp_journal.specs.History.{JournalState}
use Rattle.yp_worker.specs.declared.contents.Selected.{Selected}
use Rattle.yp_worker.specs.Contents.{AreSelected}

-- where there is no change the values are one
none_changed : (b : Bool) (change : ChangedRow) → cond b None (Some change) ≡ None → b ≡ true
none_changed true change e = refl
none_changed false change e = absurd (none-some change (sym e))

unchanged : (path : List Seg) (one other : Option Value) → change_of path one other ≡ None → one ≡ other
unchanged path one other none = alike_is one other (none_changed (are_alike one other) (record { path = path; old = one; new = other }) none)

-- rows of which none is changed stay
pub rows_stay : (before after : List Row) → AreInOrder before → AreInOrder after → changed_rows before after ≡ [] → after ≡ before
rows_stay before after one other none = sym (same_rows before after one other (λ path. unchanged path (value_at path before) (value_at path after) (sym (changed_at before after path) ∙ ap (change_in path) none)))

-- what is selected stays so where rows, policy and receivers stay
pub selected_still : (nodes : List SchemaNode) (before after : JournalState) (contents : List Selected) → after.rows ≡ before.rows → after.policy ≡ before.policy → after.receivers ≡ before.receivers → AreSelected nodes before contents → AreSelected nodes after contents
selected_still nodes before after contents rows policy receivers are =
    subst (λ (rs : List Row). AreSelected nodes (record after { rows = rs }) contents) (sym rows)
    (subst (λ p. AreSelected nodes (record after { rows = before.rows; policy = p }) contents) (sym policy)
    (subst (λ rs. AreSelected nodes (record after { rows = before.rows; policy = before.policy; receivers = rs }) contents) (sym receivers) are))

-- what holds of some and of one more holds of all
pub all_added : {X : Type 0} (P : X → Type 0) (xs : List X) (x : X) → AllByRecursion P xs → P x → AllByRecursion P (xs ++ x ∷ [])
all_added P [] x all one = (one, tt)
all_added P (y ∷ xs) x all one = (all.0, all_added P xs x all.1 one)

-- a list without items
pub none_there : {X : Type 0} (xs : List X) → (length xs == 0) ≡ true → xs ≡ []
none_there [] e = refl
none_there (x ∷ xs) e = absurd (grind (arith, e))

-- what holds of the one that is there
pub some_has : {X : Type 0} (P : X → Type 0) (o : Option X) (x : X) → IfSome o P → o ≡ Some x → P x
some_has P None x has is = absurd (none-some x is)
some_has P (Some y) x has is = subst P (same_Some y x is) has
