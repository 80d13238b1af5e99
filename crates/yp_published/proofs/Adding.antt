-- The exchange that adds an item keeps the rule.
use Rattle.std.proofs.Common.{◌≡◌, ℕ, ◌+◌, ◌<◌, ◌≤◌, ◌==◌, Bool, true, false, List, [], ◌∷◌, ◌++◌, length, refl, ap, sym, subst, ◌∙◌, arith, inl, length-append, None}
use Rattle.std.proofs.lemmas.List.{append-nil}
use Rattle.std.proofs.lemmas.Bool.Decides.{nat_tests}
use mathlib.Core.List.{IsPrefix}
use prog.Atomic.{either}
use Rattle.logbook.specs.Pages.{Cell, cell, keeps, no_nib, step, Moves, Goes}
use Rattle.yp_published.specs.declared.history.Item.{Item}
use Rattle.yp_published.specs.Histories.{has_end, EndsOnce}
use Rattle.yp_published.specs.Rules.{IsKept, AddsToAll}
use Rattle.yp_published.proofs.Fronts.{prefix_whole, once_more}

abbrev pub shown : List Item → List Item
shown items = []

abbrev pub moved : List Item → List Item → ℕ → Type 0
moved xs ys n = Unit {0}

adds_goes : (log v : List Item) (ask : Item) (old : ℕ) → old ≤ length v → (length v ≡ old → has_end v ≡ false) → EndsOnce log → IsPrefix v log
    → (b : Bool) → (length log == old) ≡ b
    → Goes IsKept shown moved 0 (v, (no_nib, None)) (λ n. either (n == old) (old + 1) n) (AddsToAll (step 0 old (old + 1) ask) (v, (no_nib, None))) ((length log, true) ∷ (0, true) ∷ []) log
adds_goes log v ask old le goes_on once pre true is =
    let here : length log ≡ old = grind (arith, nat_tests) in
    let same : v ≡ log = prefix_whole v log pre (omega arith) in
    let len : length v ≡ old = ap length same ∙ here in
    let once' : EndsOnce (log ++ ask ∷ []) = once_more log ask once (ap has_end (sym same) ∙ goes_on len) in
    let n : either (length log == old) (old + 1) (length log) ≡ length (log ++ ask ∷ []) = rw is (omega (arith, length-append log (ask ∷ []))) in (
      keeps,
      ask ∷ [],
      None,
      tt,
      record { words = ap (λ (k : ℕ). (k, true) ∷ (0, true) ∷ []) n; once = once' },
      inl (refl, refl),
      rw is (ap (λ w. w ++ ask ∷ []) (sym same), len),
    )
adds_goes log v ask old le goes_on once pre false is =
    let all : log ++ [] ≡ log = append-nil log in
    let once' : EndsOnce (log ++ []) = subst EndsOnce (sym all) once in
    let n : either (length log == old) (old + 1) (length log) ≡ length (log ++ []) = rw is (ap length (sym all)) in (
      keeps,
      [],
      None,
      tt,
      record { words = ap (λ (k : ℕ). (k, true) ∷ (0, true) ∷ []) n; once = once' },
      inl (refl, refl),
      rw is tt,
    )

-- whatever the history is, the exchange adds the item to all that was seen, or finds that the history has another length
pub adds_moves : (v : List Item) (ask : Item) (old : ℕ) → old ≤ length v → (length v ≡ old → has_end v ≡ false)
    → Moves IsKept shown moved 0 (v, (no_nib, None)) (λ n. either (n == old) (old + 1) n) (AddsToAll (step 0 old (old + 1) ask) (v, (no_nib, None)))
adds_moves v ask old le goes_on cs log kept pre away =
    let P : List Cell → Type 0 = λ c. (0 < length c) × ((cell c 0).1 ≡ true) × Goes IsKept shown moved 0 (v, (no_nib, None)) (λ n. either (n == old) (old + 1) n) (AddsToAll (step 0 old (old + 1) ask) (v, (no_nib, None))) c log in
    subst P (sym kept.words) (omega arith, refl, adds_goes log v ask old le goes_on kept.once pre (length log == old) refl)
