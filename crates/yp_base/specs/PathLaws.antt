-- What holds of paths, and of the texts and numbers in them.
use Rattle.std.proofs.Common.{◌≡◌, ◌||◌, ◌&&◌, ℕ, List, [], ◌∷◌, ◌++◌, Bool, true, false, true≢false, Option, Some, None, refl, sym, ap, ◌∙◌}
use Rattle.std.proofs.lemmas.Bool.{and_parts, and_from, eqb-true}
use Rattle.std.proofs.lemmas.Cmp.{tied_itself}
use Rattle.std.proofs.lemmas.Map.Views.{tells_apart}
use Rattle.std.proofs.lemmas.Slice.Eq.{bytes_eq-Decides}
use Rattle.std.specs.Cmp.Lexicographic.{slice_cmp, nat_list_eq_equiv, nat_list_cmp_total}
use Rattle.std.specs.List.{AllByRecursion}
use Rattle.std.specs.Ordering.{is_eq, is_gt, ordering_reverse, is_lt, nat_cmp}
use Rattle.std.specs.declared.cmp.Ordering.{Ordering}
use Rattle.std.specs.declared.cmp.Ordering.TheVariants.{Less, Equal, Greater}
use Rattle.yp_base.specs.declared.path.Seg.{Seg}
use Rattle.yp_base.specs.Order.{is_within, segment_cmp, path_cmp}
use Rattle.yp_base.specs.OrderLaws.{segments_total, paths_total}
use Rattle.yp_base.specs.Types.{same_text}
use Rattle.yp_base.specs.Paths.{same_number, is_covered}
use Rattle.yp_base.specs.Exact.{segments_decide, paths_exact}
use Rattle.yp_base.specs.Prefixes.{front_not_after, fronts_together}

pub less_turned : (one two : List Seg) → path_cmp one two ≡ Less → path_cmp two one ≡ Greater
less_turned one two h = paths_total.antisymm two one ∙ ap ordering_reverse h

pub greater_turned : (one two : List Seg) → path_cmp one two ≡ Greater → path_cmp two one ≡ Less
greater_turned one two h = paths_total.antisymm two one ∙ ap ordering_reverse h

-- paths that tie are one
pub are_one : (one two : List Seg) → is_eq (path_cmp one two) ≡ true → one ≡ two
are_one one two h = tells_apart paths_exact one two h

pub ties_itself : (path : List Seg) → is_eq (path_cmp path path) ≡ true
ties_itself path = ap is_eq (tied_itself paths_total path)

pub tie_reverse : (o : Ordering) → is_eq (ordering_reverse o) ≡ is_eq o
tie_reverse Less = refl
tie_reverse Equal = refl
tie_reverse Greater = refl

-- paths tie whichever comes first
pub tie_turned : (one two : List Seg) → is_eq (path_cmp one two) ≡ is_eq (path_cmp two one)
tie_turned one two = ap is_eq (paths_total.antisymm one two) ∙ tie_reverse (path_cmp two one)

-- a path is before each of these
abbrev pub IsBefore : List Seg → List (List Seg) → Type 0
IsBefore path paths = AllByRecursion (λ other. path_cmp path other ≡ Less) paths

-- a path that is before another is before all that the other is before
pub before_all : (one two : List Seg) (paths : List (List Seg)) → path_cmp one two ≡ Less → IsBefore two paths → IsBefore one paths
before_all one two [] less all = tt
before_all one two (path ∷ paths) less all = (paths_total.trans one two path less all.0, before_all one two paths less all.1)

-- an order that is told as less is less
pub less_told : (o : Ordering) → is_lt o ≡ true → o ≡ Less
less_told Less h = refl
less_told Equal h = absurd (true≢false (sym h))
less_told Greater h = absurd (true≢false (sym h))

pub within_itself : (path : List Seg) → is_within path path ≡ true
within_itself [] = refl
within_itself (seg ∷ path) = and_from _ _ (ap is_eq (tied_itself segments_total seg)) (within_itself path)

pub within_through : (one two three : List Seg) → is_within one two ≡ true → is_within two three ≡ true → is_within one three ≡ true
within_through [] two three h k = refl
within_through (a ∷ one) [] three h k = cc
within_through (a ∷ one) (b ∷ two) [] h k = cc
within_through (a ∷ one) (b ∷ two) (c ∷ three) h k =
    let upper = and_parts (is_eq (segment_cmp a b)) (is_within one two) h in
    let lower = and_parts (is_eq (segment_cmp b c)) (is_within two three) k in
    elim (segment_cmp a b) as (λ r. segment_cmp a b ≡ r → is_eq r ≡ true → is_within (a ∷ one) (c ∷ three) ≡ true) [
      | Less ↦ λ e m. cc
      | Equal ↦ λ e m. and_from _ _ (ap is_eq (segments_total.congr a b c e) ∙ lower.0) (within_through one two three upper.1 lower.1)
      | Greater ↦ λ e m. cc
    ] refl upper.0

-- what follows a path in one at or below it
pub within_rest : (above path : List Seg) → is_within above path ≡ true → (rest : List Seg) × (path ≡ above ++ rest)
within_rest [] path h = (path, refl)
within_rest (s ∷ above) [] h = absurd (true≢false (sym h))
within_rest (s ∷ above) (t ∷ path) h =
    let parts = and_parts (is_eq (segment_cmp s t)) (is_within above path) h in
    let later = within_rest above path parts.1 in
    let same : s ≡ t = (segments_decide s t).0 parts.0 in
    (later.0, ap (λ xs. t ∷ xs) later.1 ∙ ap (λ (x : Seg). x ∷ (above ++ later.0)) (sym same))

-- a path that goes on from one at or below another is so too
pub within_longer : (above path more : List Seg) → is_within above path ≡ true → is_within above (path ++ more) ≡ true
within_longer [] path more h = refl
within_longer (s ∷ above) [] more h = absurd (true≢false (sym h))
within_longer (s ∷ above) (t ∷ path) more h =
    let parts = and_parts (is_eq (segment_cmp s t)) (is_within above path) h in
    and_from _ _ parts.0 (within_longer above path more parts.1)

pub within_not_after : (above path : List Seg) → is_within above path ≡ true → is_gt (path_cmp above path) ≡ false
within_not_after above path h = front_not_after segment_cmp above path h

pub within_together : (above path later : List Seg) → is_gt (path_cmp above path) ≡ false → is_within above path ≡ false → is_gt (path_cmp path later) ≡ false → is_within above later ≡ false
within_together above path later from apart after = fronts_together segments_total above path later from apart after

pub texts_same : (one two : List ℕ) → same_text one two ≡ true → one ≡ two
texts_same one two = (bytes_eq-Decides one two).0

pub texts_told : (one two : List ℕ) → one ≡ two → same_text one two ≡ true
texts_told one two = (bytes_eq-Decides one two).1

pub texts_itself : (text : List ℕ) → same_text text text ≡ true
texts_itself = nat_list_eq_equiv.refl

pub texts_turned : (one two : List ℕ) → same_text one two ≡ same_text two one
texts_turned = nat_list_eq_equiv.symm

pub numbers_same : (one two : Option ℕ) → same_number one two ≡ true → one ≡ two
numbers_same None None h = refl
numbers_same None (Some y) h = cc
numbers_same (Some x) None h = cc
numbers_same (Some x) (Some y) h = ap (λ n. Some n) (eqb-true x y h)

-- the first two of three that any may be told, turned round
pub or_turned : (a b c : Bool) → (a || (b || c)) ≡ (b || (a || c))
or_turned true true c = refl
or_turned true false c = refl
or_turned false b c = refl

-- of two paths that a third is at or below, one is at or below the other
pub within_one : (one two path : List Seg) → is_within one path ≡ true → is_within two path ≡ true → is_within one two ≡ false → is_within two one ≡ true
within_one [] two path first second apart = absurd (true≢false apart)
within_one (a ∷ one) [] path first second apart = refl
within_one (a ∷ one) (b ∷ two) [] first second apart = absurd (true≢false (sym first))
within_one (a ∷ one) (b ∷ two) (c ∷ path) first second apart =
    let upper = and_parts (is_eq (segment_cmp a c)) (is_within one path) first in
    let lower = and_parts (is_eq (segment_cmp b c)) (is_within two path) second in
    let same : a ≡ b = (segments_decide a c).0 upper.0 ∙ sym ((segments_decide b c).0 lower.0) in
    let forth : is_eq (segment_cmp a b) ≡ true = (segments_decide a b).1 same in
    let back : is_eq (segment_cmp b a) ≡ true = (segments_decide b a).1 (sym same) in
    and_from (is_eq (segment_cmp b a)) (is_within two one) back (within_one one two path upper.1 lower.1 (rest (is_eq (segment_cmp a b)) (is_within one two) forth apart))
  where
    rest : (same within : Bool) → same ≡ true → (same && within) ≡ false → within ≡ false
    rest true within is h = h
    rest false within is h = absurd (true≢false (sym is))

-- the order of texts turned round
pub less_text_turned : (one two : List ℕ) → slice_cmp nat_cmp one two ≡ Less → slice_cmp nat_cmp two one ≡ Greater
less_text_turned one two h = nat_list_cmp_total.antisymm two one ∙ ap ordering_reverse h

-- what is at or below a covered path is covered
pub covered_below : (above : Option (List Seg)) (path below : List Seg) → is_covered above path ≡ true → is_within path below ≡ true → is_covered above below ≡ true
covered_below None path below covered within = absurd (true≢false (sym covered))
covered_below (Some above) path below covered within = within_through above path below covered within
