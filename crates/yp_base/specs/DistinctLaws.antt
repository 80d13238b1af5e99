-- What follows of texts of which none stands twice, as they are taken one after another.
use Rattle.std.proofs.Common.{◌≡◌, ℕ, List, [], ◌∷◌, ◌++◌, refl, sym, ap, ◌∙◌, Bool, true, false, true≢false, not, ◌&&◌, ◌||◌}
use Rattle.std.proofs.lemmas.Bool.{and_parts, and_from, or_parts}
use Rattle.std.proofs.Math.Bool.{and-false}
use Rattle.yp_base.specs.PathLaws.{or_turned, texts_turned}
use Rattle.yp_base.specs.Types.{same_text, is_among, are_distinct}

-- a text is among these and one more
pub among_more : (text key : List ℕ) (texts : List (List ℕ)) → is_among text (texts ++ key ∷ []) ≡ (same_text key text || is_among text texts)
among_more text key [] = ap (λ b. b || false) (texts_turned text key)
among_more text key (other ∷ texts) = ap (λ b. same_text text other || b) (among_more text key texts) ∙ or_turned (same_text text other) (same_text key text) (is_among text texts)

-- one more text, which isn't among distinct ones
pub distinct_more : (key : List ℕ) (texts : List (List ℕ)) → are_distinct texts ≡ true → is_among key texts ≡ false → are_distinct (texts ++ key ∷ []) ≡ true
distinct_more key [] distinct fresh = refl
distinct_more key (text ∷ texts) distinct fresh =
    let parts = and_parts (not (is_among text texts)) (are_distinct texts) distinct in
    let apart = or_parts (same_text key text) (is_among key texts) fresh in
    and_from (not (is_among text (texts ++ key ∷ []))) (are_distinct (texts ++ key ∷ []))
    (ap not (among_more text key texts ∙ ap (λ b. b || is_among text texts) apart.0) ∙ parts.0)
    (distinct_more key texts parts.1 apart.1)

-- one that is among them
pub not_distinct : (key : List ℕ) (texts : List (List ℕ)) → is_among key texts ≡ true → are_distinct (texts ++ key ∷ []) ≡ false
not_distinct key [] among = absurd (true≢false (sym among))
not_distinct key (text ∷ texts) among =
    elim (same_text key text) as (λ b. same_text key text ≡ b → (b || is_among key texts) ≡ true → are_distinct (text ∷ (texts ++ key ∷ [])) ≡ false) [
      | true ↦ λ same h. ap (λ b. not b && are_distinct (texts ++ key ∷ [])) (among_more text key texts ∙ ap (λ b. b || is_among text texts) same)
      | false ↦ λ same h. ap (λ b. not (is_among text (texts ++ key ∷ [])) && b) (not_distinct key texts h) ∙ and-false (not (is_among text (texts ++ key ∷ [])))
    ] refl among

-- a text that is among some is among more
pub among_stays : (text : List ℕ) (texts more : List (List ℕ)) → is_among text texts ≡ true → is_among text (texts ++ more) ≡ true
among_stays text [] more among = absurd (true≢false (sym among))
among_stays text (other ∷ texts) more among =
    elim (same_text text other) as (λ b. (b || is_among text texts) ≡ true → (b || is_among text (texts ++ more)) ≡ true) [
      | true ↦ λ h. refl
      | false ↦ λ h. among_stays text texts more h
    ] among

-- with more texts they are distinct no more than before
pub never_again : (texts more : List (List ℕ)) → are_distinct texts ≡ false → are_distinct (texts ++ more) ≡ false
never_again [] more not = absurd (true≢false not)
never_again (text ∷ texts) more isnt =
    elim (is_among text texts) as (λ b. is_among text texts ≡ b → (not b && are_distinct texts) ≡ false → are_distinct (text ∷ (texts ++ more)) ≡ false) [
      | true ↦ λ among h. ap (λ b. not b && are_distinct (texts ++ more)) (among_stays text texts more among)
      | false ↦ λ among h. ap (λ b. not (is_among text (texts ++ more)) && b) (never_again texts more h) ∙ and-false (not (is_among text (texts ++ more)))
    ] refl isnt

-- whether one is new tells whether it was seen
pub told_new : (new seen among : Bool) → new ≡ not seen → seen ≡ among → new ≡ true → among ≡ false
told_new new true among told is h = absurd (true≢false (sym h ∙ told))
told_new new false among told is h = sym is

pub told_old : (new seen among : Bool) → new ≡ not seen → seen ≡ among → new ≡ false → among ≡ true
told_old new true among told is h = sym is
told_old new false among told is h = absurd (true≢false (sym told ∙ h))
