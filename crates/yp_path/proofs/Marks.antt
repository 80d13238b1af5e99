use Rattle.std.proofs.Common.{◌≡◌, ℕ, ◌<◌, ◌+◌, ◌==◌, List, [], ◌∷◌, length, drop, Bool, true, false, refl, ap, Option, Some, None, MatchOption, Bor}
use Rattle.std.specs.Str.Pattern.{FindsCharPrefix}
use Rattle.std.proofs.lemmas.Str.Pattern.{strip_prefix_char}
use Rattle.std.proofs.lemmas.Bool.{eqb-true}
use Rattle.yp_base.specs.Cuts.{begins}

no_begin_at : (t : Bool) (mark b : ℕ) (bs : List ℕ) → (b == mark) ≡ t → ((rest : List ℕ) → b ∷ bs ≡ mark ∷ rest → ⊥) → t ≡ false
no_begin_at true mark b bs is not_so = absurd (not_so bs (ap (λ n. n ∷ bs) (eqb-true b mark is)))
no_begin_at false mark b bs is not_so = refl

no_begin : (mark : ℕ) (bs : List ℕ) → ((rest : List ℕ) → bs ≡ mark ∷ rest → ⊥) → begins mark bs ≡ false
no_begin mark [] not_so = refl
no_begin mark (b ∷ bs) not_so = no_begin_at (b == mark) mark b bs refl not_so

weaken : (mark : ℕ) (bs : List ℕ) (r : Option (Bor (List ℕ))) → MatchOption r ((rest : List ℕ) → bs ≡ mark ∷ rest → ⊥) (λ x. bs ≡ mark ∷ x.now) → MatchOption r (begins mark bs ≡ false) (λ x. bs ≡ mark ∷ x.now)
weaken mark bs None h = no_begin mark bs h
weaken mark bs (Some x) h = h

pub begins_not : (mark : ℕ) (bs : List ℕ) (r : Option (Bor (List ℕ))) → MatchOption r (FindsCharPrefix mark bs None) (λ x. (n : ℕ) × FindsCharPrefix mark bs (Some n) × (x.now ≡ drop n bs) × (length x.now + n ≡ length bs)) → mark < 128
    → MatchOption r (begins mark bs ≡ false) (λ x. bs ≡ mark ∷ x.now)
begins_not mark bs r h small = weaken mark bs r (strip_prefix_char mark bs r h small)
