-- Values of a type can be written.
use Rattle.std.proofs.Common.{Some, ◌≡◌, ℕ, suc, ◌-◌, ◌^◌, ◌==◌, ◌&&◌, List, [], ◌∷◌, true, length, nat_le, nat_eq, refl, ap, ◌∙◌}
use Rattle.std.proofs.lemmas.Bool.{and_parts, eqb-true}
use Rattle.yp_base.specs.declared.atom.Atom.{Atom}
use Rattle.yp_base.specs.declared.atom.Atom.TheVariants.{Bool as Truth, Int, Uint, Dec, Text}
use Rattle.yp_base.specs.declared.leaf_type.LeafType.{LeafType}
use Rattle.yp_base.specs.declared.leaf_type.LeafType.TheVariants.{Bool as TruthType, Int as IntType, Uint as UintType, Dec as DecType, Text as TextType, Names, Empty}
use Rattle.yp_base.specs.Types.{same_text, is_among, is_short, are_short, are_rising, are_names, is_type}
use Rattle.yp_value.specs.Texts.{atom_in, fits, is_between, is_writable}
use Rattle.yp_value.specs.TextLaws.{or_else, read_fits}

same_length : (a b : List ℕ) → same_text a b ≡ true → length a ≡ length b
same_length [] [] e = refl
same_length [] (y ∷ ys) e = cc
same_length (x ∷ xs) [] e = cc
same_length (x ∷ xs) (y ∷ ys) e = ap suc (same_length xs ys (and_parts (nat_eq x y) (same_text xs ys) e).1)

short_among : (text : List ℕ) (names : List (List ℕ)) → are_short names ≡ true → is_among text names ≡ true → is_short text ≡ true
short_among text [] short e = cc
short_among text (name ∷ names) short e =
    let parts = and_parts (is_short name) (are_short names) short in
    or_else (is_short text ≡ true) (same_text text name) (is_among text names) (λ same. ap (λ k. nat_le k 256) (same_length text name same) ∙ parts.0) (λ among. short_among text names parts.1 among) e

short_names : (names : List (List ℕ)) → are_names names ≡ true → are_short names ≡ true
short_names [] e = cc
short_names (name ∷ names) e = (and_parts (are_rising (name ∷ names)) (are_short (name ∷ names)) e).1

pub fits_writable : (ty : LeafType) (a : Atom) → is_type ty ≡ true → fits ty a ≡ true → is_writable a ≡ true
fits_writable ty (Truth b) t e = refl
fits_writable ty (Int n) t e = refl
fits_writable ty (Uint n) t e = refl
fits_writable TruthType (Dec p u) t e = cc
fits_writable (IntType bits) (Dec p u) t e = cc
fits_writable (UintType bits) (Dec p u) t e = cc
fits_writable (DecType places) (Dec p u) t e =
    let parts = and_parts (p == places) (is_between (2 ^ 63) (2 ^ 63 - 1) u) e in
    let same : p ≡ places = eqb-true p places parts.0 in
    ap (λ k. nat_le 1 k && nat_le k 18) same ∙ t
fits_writable TextType (Dec p u) t e = cc
fits_writable (Names names) (Dec p u) t e = cc
fits_writable Empty (Dec p u) t e = cc
fits_writable TruthType (Text s) t e = cc
fits_writable (IntType bits) (Text s) t e = cc
fits_writable (UintType bits) (Text s) t e = cc
fits_writable (DecType places) (Text s) t e = cc
fits_writable TextType (Text s) t e = e
fits_writable (Names names) (Text s) t e = short_among s names (short_names names t) e
fits_writable Empty (Text s) t e = cc

-- what was read of a type can be written
pub read_writable : (ty : LeafType) (text : List ℕ) (a : Atom) → is_type ty ≡ true → atom_in ty text ≡ Some a → is_writable a ≡ true
read_writable ty text a t e = fits_writable ty a t (read_fits ty text a e)
