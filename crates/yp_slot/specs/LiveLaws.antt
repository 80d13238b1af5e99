-- What follows of what is found by an id among live subscriptions.
use Rattle.std.proofs.Common.{◌≡◌, ℕ, refl, sym, ap, subst, ◌∙◌, Bool, true, false, List, [], ◌∷◌, Some}
use Rattle.std.specs.Prelude.{nat_eq, if◌then◌else◌}
use Rattle.std.specs.List.{AllByRecursion}
use Rattle.std.proofs.lemmas.Bool.{eqb-true}
use Rattle.yp_registry.specs.Registry.{live_at}
use Rattle.yp_terms.specs.Terms.{Terms}

-- what is found has what all have
pub found_has : (P : Terms → Type 0) (id : ℕ) (live : List Terms) (terms : Terms) → AllByRecursion P live → live_at id live ≡ Some terms → P terms
found_has P id [] terms all e = absurd cc
found_has P id (first ∷ live) terms all e = by (nat_eq id first.id) e (found_has P id live terms all.1)
  where
    by : (b : Bool) → (if b then Some first else live_at id live) ≡ Some terms → (live_at id live ≡ Some terms → P terms) → P terms
    by true e later = let same : first ≡ terms = cc in subst P same all.0
    by false e later = later e

-- and what is found has the id
pub found_id : (id : ℕ) (live : List Terms) (terms : Terms) → live_at id live ≡ Some terms → terms.id ≡ id
found_id id [] terms e = absurd cc
found_id id (first ∷ live) terms e = by (nat_eq id first.id) refl e (found_id id live terms)
  where
    by : (b : Bool) → nat_eq id first.id ≡ b → (if b then Some first else live_at id live) ≡ Some terms → (live_at id live ≡ Some terms → terms.id ≡ id) → terms.id ≡ id
    by true is e later = let same : first ≡ terms = cc in ap (λ (t : Terms). t.id) (sym same) ∙ sym (eqb-true id first.id is)
    by false is e later = later e
