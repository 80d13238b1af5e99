use Rattle.std.proofs.Common.{◌≡◌, ℕ, suc, ◌<◌, ◌+◌, ◌==◌, List, [], ◌∷◌, ◌++◌, length, take, drop, get_or, true, false, ◌&&◌, refl, sym, ap, ◌∙◌, arith, append-nil}
use Rattle.std.proofs.Math.Seq.{take-suc, drop-cons, take-length}
use Rattle.yp_path.specs.declared.mark.Place.{Place}
use Rattle.yp_path.specs.declared.mark.Place.TheVariants.{Outside}
use Rattle.yp_base.specs.Cuts.{onto_first}
use Rattle.yp_path.specs.RulePaths.{next_place, is_unquoted, pieces}

-- bytes in front of the first text
abbrev pub onto_all : List ℕ → List (List ℕ) → List (List ℕ)
onto_all [] texts = texts
onto_all (b ∷ bs) texts = onto_first b (onto_all bs texts)

pub onto_one : (front : List ℕ) (b : ℕ) (texts : List (List ℕ)) → onto_all (front ++ b ∷ []) texts ≡ onto_all front (onto_first b texts)
onto_one [] b texts = refl
onto_one (c ∷ front) b texts = ap (onto_first c) (onto_one front b texts)

pub onto_some : (front text : List ℕ) (texts : List (List ℕ)) → onto_all front (text ∷ texts) ≡ (front ++ text) ∷ texts
onto_some [] text texts = refl
onto_some (b ∷ front) text texts = ap (onto_first b) (onto_some front text texts)

module _ (mark : ℕ) (place : Place) (text : List ℕ) (whole : List (List ℕ)) (i : ℕ) where
  abbrev Holds : Type 0
  Holds = whole ≡ onto_all (take i text) (pieces mark place (drop i text))

  pub go_on : Holds → i < length text → (get_or text i 0 == mark && is_unquoted place) ≡ false
      → whole ≡ onto_all (take (i + 1) text) (pieces mark (next_place place (get_or text i 0)) (drop (i + 1) text))
  go_on is h out =
      let b = get_or text i 0 in
      let rest = drop (suc i) text in
      let next : i + 1 ≡ suc i = omega arith in
      let front : take (suc i) text ≡ take i text ++ b ∷ [] = take-suc text i 0 h in
      let back : drop i text ≡ b ∷ rest = drop-cons text i 0 h in
      let step : pieces mark place (b ∷ rest) ≡ onto_first b (pieces mark (next_place place b) rest) = rw out refl in
      is ∙ ap (λ l. onto_all (take i text) (pieces mark place l)) back ∙ ap (onto_all (take i text)) step
      ∙ sym (onto_one (take i text) b (pieces mark (next_place place b) rest))
      ∙ ap (λ l. onto_all l (pieces mark (next_place place b) rest)) (sym front)
      ∙ ap (λ n. onto_all (take n text) (pieces mark (next_place place b) (drop n text))) (sym next)

  pub cut_here : Holds → i < length text → (get_or text i 0 == mark && is_unquoted place) ≡ true
      → whole ≡ take i text ∷ pieces mark Outside (drop (i + 1) text)
  cut_here is h cuts =
      let b = get_or text i 0 in
      let rest = drop (suc i) text in
      let next : i + 1 ≡ suc i = omega arith in
      let back : drop i text ≡ b ∷ rest = drop-cons text i 0 h in
      let step : pieces mark place (b ∷ rest) ≡ [] ∷ pieces mark Outside rest = rw cuts refl in
      is ∙ ap (λ l. onto_all (take i text) (pieces mark place l)) back ∙ ap (onto_all (take i text)) step
      ∙ onto_some (take i text) [] (pieces mark Outside rest)
      ∙ ap (λ l. l ∷ pieces mark Outside rest) (append-nil (take i text))
      ∙ ap (λ n. take i text ∷ pieces mark Outside (drop n text)) (sym next)

  pub no_cut : Holds → i ≡ length text → whole ≡ text ∷ []
  no_cut is h =
      let ends : drop (length text) text ≡ [] = drop_all text in
      is ∙ ap (λ n. onto_all (take n text) (pieces mark place (drop n text))) h
      ∙ ap (λ l. onto_all (take (length text) text) (pieces mark place l)) ends
      ∙ ap (λ l. onto_all l ([] ∷ [])) (take-length text)
      ∙ onto_some text [] []
      ∙ ap (λ l. l ∷ []) (append-nil text)
    where
      drop_all : (l : List ℕ) → drop (length l) l ≡ []
      drop_all [] = refl
      drop_all (x ∷ l) = drop_all l
