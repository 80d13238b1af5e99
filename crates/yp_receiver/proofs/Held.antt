-- Rows of a subscription that are written where they are held.
use Rattle.std.proofs.Common.{◌≡◌, ℕ, Bool, List, [], ◌∷◌, Some, None, refl, sym, ap, ◌∙◌, cond}
use Rattle.std.specs.BTreeMap.{insert_entry, is_at}
use Rattle.std.specs.List.Sorted.{IsStrictlySortedBy}
use Rattle.std.specs.Map.{keys_of, lookup, set_value}
use Rattle.std.specs.Ordering.{nat_cmp, is_eq, match_ordering}
use Rattle.std.specs.Prelude.{Result, Ok, Err, OnOk}
use Rattle.std.specs.declared.cmp.Ordering.{Ordering}
use Rattle.std.specs.declared.cmp.Ordering.TheVariants.{Less, Equal, Greater}
use Rattle.std.proofs.lemmas.Cmp.{nat_cmp_total}
use Rattle.std.proofs.lemmas.Map.{NonePasses}
use Rattle.std.proofs.lemmas.Map.Entries.{none_below_head}
use Rattle.std.proofs.lemmas.Map.Keys.{sorted_tail}

pub when_ok : {X E : Type 0} {A C : Type 0} (r : Result X E) → OnOk r A → (A → C) → OnOk r C
when_ok (Ok x) a f = f a
when_ok (Err e) a f = tt

module _ {X : Type 0} where
  none_found : (test : ℕ → Bool) (es : List (ℕ × X)) → NonePasses test es → lookup test es ≡ None
  none_found test [] none = refl
  none_found test (e ∷ es) none = ap (λ b. cond b (Some e.1) (lookup test es)) none.0 ∙ none_found test es none.1

  found_at : (o : Ordering) (id : ℕ) (old rows : X) (e : ℕ × X) (es : List (ℕ × X)) → nat_cmp id e.0 ≡ o → IsStrictlySortedBy nat_cmp (keys_of (e ∷ es))
      → cond (is_eq o) (Some e.1) (lookup (is_at (nat_cmp id)) es) ≡ Some old
      → (lookup (is_at (nat_cmp id)) es ≡ Some old → set_value (is_at (nat_cmp id)) es rows ≡ insert_entry nat_cmp es id rows)
      → cond (is_eq o) ((e.0, rows) ∷ es) (e ∷ set_value (is_at (nat_cmp id)) es rows) ≡ match_ordering o ((id, rows) ∷ e ∷ es) ((e.0, rows) ∷ es) (e ∷ insert_entry nat_cmp es id rows)
  found_at Less id old rows e es is sorted found later =
      let none = none_below_head nat_cmp_total id e es sorted is in
      let wrong : None ≡ Some old = sym (none_found (is_at (nat_cmp id)) es none.1) ∙ found in
      cc
  found_at Equal id old rows e es is sorted found later = refl
  found_at Greater id old rows e es is sorted found later = ap (λ (rest : List (ℕ × X)). e ∷ rest) (later found)

  -- to write where an id is found is to set it
  pub set_there : (id : ℕ) (old rows : X) (es : List (ℕ × X)) → IsStrictlySortedBy nat_cmp (keys_of es) → lookup (is_at (nat_cmp id)) es ≡ Some old
      → set_value (is_at (nat_cmp id)) es rows ≡ insert_entry nat_cmp es id rows
  set_there id old rows [] sorted found = let wrong : None ≡ Some old = found in cc
  set_there id old rows (e ∷ es) sorted found =
      found_at (nat_cmp id e.0) id old rows e es refl sorted found (set_there id old rows es (sorted_tail nat_cmp e.0 (keys_of es) sorted))
