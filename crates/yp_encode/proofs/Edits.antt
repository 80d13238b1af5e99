-- Edits that are made one after another.
use Rattle.std.proofs.Common.{◌≡◌, ℕ, ◌+◌, ◌<◌, List, ◌∷◌, length, drop, get_or, sym, ap, subst, ◌∙◌}
use Rattle.std.specs.List.{AllByRecursion}
use Rattle.std.proofs.lemmas.List.{drop_more}
use Rattle.yp_base.specs.declared.notice.Change.{Change}
use Rattle.yp_schema.specs.declared.schema.SchemaNode.{SchemaNode}
use Rattle.yp_encode.specs.Sendable.{IsSendableChange}

first_left : (P : Change → Type 0) (i : ℕ) (changes : List Change) (change : Change) → drop i changes ≡ change ∷ drop (i + 1) changes → AllByRecursion P (drop i changes) → P change × AllByRecursion P (drop (i + 1) changes)
first_left P i changes change is all = subst (AllByRecursion P) is all

-- the change at an index is the first that is left
pub left_at : (i : ℕ) (changes : List Change) (change : Change) → i < length changes → change ≡ get_or changes i change → drop i changes ≡ change ∷ drop (i + 1) changes
left_at i changes change within is = drop_more changes i change within ∙ ap (λ x. x ∷ drop (i + 1) changes) (sym is)

pub sendable_here : (nodes : List SchemaNode) (i : ℕ) (changes : List Change) (change : Change) → i < length changes → change ≡ get_or changes i change
    → AllByRecursion (IsSendableChange nodes) (drop i changes) → IsSendableChange nodes change × AllByRecursion (IsSendableChange nodes) (drop (i + 1) changes)
sendable_here nodes i changes change within is all = first_left (IsSendableChange nodes) i changes change (left_at i changes change within is) all
