-- Values of a type: what is read fits, and what is written is read again.
use Rattle.std.proofs.Common.{◌≡◌, ℕ, zero, suc, ◌<◌, ◌≤◌, ◌-◌, ◌^◌, ◌==◌, ◌&&◌, ◌||◌, List, Bool, true, false, cond, Option, Some, None, option_map, option_and_then, nat_le, refl, sym, ap, ◌∙◌, subst, arith}
use Rattle.std.specs.Prelude.{ℤ, pos, negsuc, unsigned_abs}
use Rattle.std.proofs.lemmas.Bool.{and_parts, leb-true, le-leb, eqb-true, eq-eqb}
use Rattle.yp_base.specs.declared.atom.Atom.{Atom}
use Rattle.yp_base.specs.declared.atom.Atom.TheVariants.{Bool as Truth, Int, Uint, Dec, Text}
use Rattle.yp_base.specs.declared.leaf_type.LeafType.{LeafType}
use Rattle.yp_base.specs.declared.leaf_type.LeafType.TheVariants.{Bool as TruthType, Int as IntType, Uint as UintType, Dec as DecType, Text as TextType, Names, Empty}
use Rattle.yp_base.specs.Types.{is_type, is_width, is_short, is_among}
use Rattle.yp_value.specs.Texts.{cut_sign, magnitude_in, around_point, units_around, signed_in, number_in, decimal_in, is_between, truth_in, atom_in, atom_text, fits, fits_bool, fits_int, fits_uint, fits_dec, fits_text, fits_names}
use Rattle.yp_value.specs.ReadAgain.{number_again, decimal_again}

-- ---- what is read fits

kept_at : (t : Bool) (z : ℤ) (p : ℤ → Bool) (y : ℤ) → p y ≡ t → cond t (Some y) None ≡ Some z → p z ≡ true
kept_at true z p y is e = let same : y ≡ z = cc in ap p (sym same) ∙ is
kept_at false z p y is e = cc

zero_kept : (t : Bool) (z : ℤ) (p : ℤ → Bool) (y : ℤ) → p y ≡ true → cond t (Some y) None ≡ Some z → p z ≡ true
zero_kept true z p y is e = let same : y ≡ z = cc in ap p (sym same) ∙ is
zero_kept false z p y is e = cc

between_signed : (low high : ℕ) (negative : Bool) (n : ℕ) (z : ℤ) → signed_in low high negative n ≡ Some z → is_between low high z ≡ true
between_signed low high true zero z e = zero_kept (nat_le 0 low) z (is_between low high) (pos 0) (le-leb 0 high (omega arith)) e
between_signed low high true (suc n) z e = kept_at (nat_le (suc n) low) z (is_between low high) (negsuc n) refl e
between_signed low high false n z e = kept_at (nat_le n high) z (is_between low high) (pos n) refl e

between_read : (low high : ℕ) (negative : Bool) (o : Option ℕ) (z : ℤ) → option_and_then (signed_in low high negative) o ≡ Some z → is_between low high z ≡ true
between_read low high negative None z e = cc
between_read low high negative (Some n) z e = between_signed low high negative n z e

-- an atom that is made of what was read
pub made_of : {X : Type 0} (f : X → Atom) (p : Atom → Bool) (o : Option X) (a : Atom) → ((x : X) → o ≡ Some x → p (f x) ≡ true) → option_map f o ≡ Some a → p a ≡ true
made_of f p None a h e = cc
made_of f p (Some x) a h e = let same : f x ≡ a = cc in ap p (sym same) ∙ h x refl

kept_text : (t : Bool) (p : Atom → Bool) (text : List ℕ) (a : Atom) → p (Text text) ≡ t → cond t (Some (Text text)) None ≡ Some a → p a ≡ true
kept_text true p text a is e = let same : Text text ≡ a = cc in ap p (sym same) ∙ is
kept_text false p text a is e = cc

-- no number below zero is one of a type without sign
pub size_between : (high : ℕ) (z : ℤ) → is_between 0 high z ≡ true → nat_le (unsigned_abs z) high ≡ true
size_between high (pos n) e = e
size_between high (negsuc n) e = absurd (omega (arith, leb-true (suc n) 0 e))

same_places : (places : ℕ) → (places == places) ≡ true
same_places places = eq-eqb places places refl

-- what is read is a value of the type
pub read_fits : (ty : LeafType) (text : List ℕ) (a : Atom) → atom_in ty text ≡ Some a → fits ty a ≡ true
read_fits TruthType text a e = made_of (λ b. Truth b) fits_bool (truth_in text) a (λ b is. refl) e
read_fits (IntType bits) text a e = made_of (λ n. Int n) (fits_int bits) (number_in (2 ^ (bits - 1)) (2 ^ (bits - 1) - 1) text) a (λ z is. between_read (2 ^ (bits - 1)) (2 ^ (bits - 1) - 1) (cut_sign text).0 (magnitude_in (cut_sign text).1) z is) e
read_fits (UintType bits) text a e = made_of (λ n. Uint (unsigned_abs n)) (fits_uint bits) (number_in 0 (2 ^ bits - 1) text) a (λ z is. size_between (2 ^ bits - 1) z (between_read 0 (2 ^ bits - 1) (cut_sign text).0 (magnitude_in (cut_sign text).1) z is)) e
read_fits (DecType places) text a e =
    made_of (λ units. Dec places units) (fits_dec places) (decimal_in places text) a
    (λ z is. ap (λ t. t && is_between (2 ^ 63) (2 ^ 63 - 1) z) (same_places places) ∙ between_read (2 ^ 63) (2 ^ 63 - 1) (cut_sign (around_point text).0).0 (units_around places ((cut_sign (around_point text).0).1, (around_point text).1)) z is) e
read_fits TextType text a e = kept_text (is_short text) fits_text text a refl e
read_fits (Names names) text a e = kept_text (is_among text names) (fits_names names) text a refl e
read_fits Empty text a e = cc

-- ---- what is written is read again

pub or_else : (P : Type 0) (s t : Bool) → (s ≡ true → P) → (t ≡ true → P) → (s || t) ≡ true → P
or_else P true t one two e = one refl
or_else P false t one two e = two e

at_width : (P : ℕ → Type 0) (bits k : ℕ) → P k → (bits == k) ≡ true → P bits
at_width P bits k here is = let same : k ≡ bits = sym (eqb-true bits k is) in subst P same here

-- what holds of 8, 16, 32 and 64 bits holds of each width
pub each_width : (P : ℕ → Type 0) → P 8 → P 16 → P 32 → P 64 → (bits : ℕ) → is_width bits ≡ true → P bits
each_width P a b c d bits e =
    or_else (P bits) (bits == 8 || bits == 16 || bits == 32) (bits == 64)
    (λ h. or_else (P bits) (bits == 8 || bits == 16) (bits == 32) (λ i. or_else (P bits) (bits == 8) (bits == 16) (at_width P bits 8 a) (at_width P bits 16 b) i) (at_width P bits 32 c) h)
    (at_width P bits 64 d) e

-- the bounds of each width fit 64 bits
pub widths_fit : (bits : ℕ) → is_width bits ≡ true → (2 ^ (bits - 1) ≤ 2 ^ 63) × (2 ^ bits - 1 < 2 ^ 64)
widths_fit = each_width (λ bits. (2 ^ (bits - 1) ≤ 2 ^ 63) × (2 ^ bits - 1 < 2 ^ 64)) (omega arith, omega arith) (omega arith, omega arith) (omega arith, omega arith) (omega arith, omega arith)

width_fits : (bits : ℕ) → is_width bits ≡ true → (2 ^ (bits - 1) < 2 ^ 64) × (2 ^ bits - 1 < 2 ^ 64)
width_fits = each_width (λ bits. (2 ^ (bits - 1) < 2 ^ 64) × (2 ^ bits - 1 < 2 ^ 64)) (omega arith, omega arith) (omega arith, omega arith) (omega arith, omega arith) (omega arith, omega arith)

pub text_again : (ty : LeafType) (a : Atom) → is_type ty ≡ true → fits ty a ≡ true → atom_in ty (atom_text a) ≡ Some a
text_again TruthType (Truth true) t e = refl
text_again TruthType (Truth false) t e = refl
text_again TruthType (Int n) t e = cc
text_again TruthType (Uint n) t e = cc
text_again TruthType (Dec p u) t e = cc
text_again TruthType (Text s) t e = cc
text_again (IntType bits) (Truth b) t e = cc
text_again (IntType bits) (Int n) t e =
    let range = width_fits bits t in
    ap (option_map (λ n. Int n)) (number_again (2 ^ (bits - 1)) (2 ^ (bits - 1) - 1) n range.0 (omega (arith, range.0)) e)
text_again (IntType bits) (Uint n) t e = cc
text_again (IntType bits) (Dec p u) t e = cc
text_again (IntType bits) (Text s) t e = cc
text_again (UintType bits) (Truth b) t e = cc
text_again (UintType bits) (Int n) t e = cc
text_again (UintType bits) (Uint n) t e =
    let range = width_fits bits t in
    ap (option_map (λ n. Uint (unsigned_abs n))) (number_again 0 (2 ^ bits - 1) (pos n) (omega arith) range.1 e)
text_again (UintType bits) (Dec p u) t e = cc
text_again (UintType bits) (Text s) t e = cc
text_again (DecType places) (Truth b) t e = cc
text_again (DecType places) (Int n) t e = cc
text_again (DecType places) (Uint n) t e = cc
text_again (DecType places) (Dec p u) t e =
    let ends = and_parts (nat_le 1 places) (nat_le places 18) t in
    let parts = and_parts (p == places) (is_between (2 ^ 63) (2 ^ 63 - 1) u) e in
    let same : p ≡ places = eqb-true p places parts.0 in
    let some : 1 ≤ p = omega (arith, leb-true 1 places ends.0) in
    ap (λ k. option_map (λ units. Dec k units) (decimal_in k (atom_text (Dec p u)))) (sym same) ∙ ap (option_map (λ units. Dec p units)) (decimal_again p u some parts.1)
text_again (DecType places) (Text s) t e = cc
text_again TextType (Truth b) t e = cc
text_again TextType (Int n) t e = cc
text_again TextType (Uint n) t e = cc
text_again TextType (Dec p u) t e = cc
text_again TextType (Text s) t e = ap (λ b. cond b (Some (Text s)) None) e
text_again (Names names) (Truth b) t e = cc
text_again (Names names) (Int n) t e = cc
text_again (Names names) (Uint n) t e = cc
text_again (Names names) (Dec p u) t e = cc
text_again (Names names) (Text s) t e = ap (λ b. cond b (Some (Text s)) None) e
text_again Empty a t e = cc
