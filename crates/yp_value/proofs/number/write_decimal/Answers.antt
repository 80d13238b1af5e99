use Rattle.std.proofs.Common.{arith, ◌≡◌, ◌∙◌, ◌<◌, ◌^◌, subst, sym, ap, w64, ℤ}
use Rattle.std.specs.Prelude.{unsigned_abs}
use Rattle.std.proofs.lemmas.Int.{ints, to_z-of_z}
use Rattle.std.specs.Str.{IsAscii}
use Rattle.std.proofs.lemmas.Str.{IsUtf8-from_ascii}
use Rattle.yp_value.specs.Texts.{decimal_text}
use Rattle.yp_value.proofs.Written.{ascii_decimal}
use Rattle.yp_value.proofs.number.write_decimal.Goals as goal

pub unwrap-requires : goal.unwrap-requires
unwrap-requires c =
    let small : unsigned_abs c.args.units < 2 ^ 64 = omega (arith, ints) in
    let text : c.in_ok-bytes.bytes.items ≡ decimal_text c.args.units c.args.places = c.in_ok-bytes.ensures ∙ ap (λ (z : ℤ). decimal_text z c.args.places) (to_z-of_z w64 c.args.units c.ranges.units) in
    c.from_utf8.ensures.succeeds (IsUtf8-from_ascii c.in_ok-bytes.bytes.items (subst IsAscii (sym text) (ascii_decimal c.args.units c.args.places small)))
