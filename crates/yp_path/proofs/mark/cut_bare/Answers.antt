use Rattle.std.proofs.Common.{◌≡◌, ℕ, List, ◌<◌, length, get_or, arith, sym, ap, ◌∙◌}
use Rattle.std.proofs.lemmas.Str.{IsCharBoundary-after_ascii}
use Rattle.yp_path.proofs.mark.cut_bare.Goals as goal

pub range_from-requires : goal.range_from-requires
range_from-requires c =
    let same = c.as_bytes.ensures.value in
    let long = ap (λ (l : List ℕ). length l) same in
    let inside : c.in-Some.i < length c.args.text.now = omega (arith, c.in-Some.ensures.0, long) in
    let is : get_or c.args.text.now c.in-Some.i 0 ≡ c.args.mark = sym (ap (λ (l : List ℕ). get_or l c.in-Some.i 0) same) ∙ c.in-Some.ensures.1 in
    let ascii : get_or c.args.text.now c.in-Some.i 0 < 128 = omega (arith, is, c.requires) in
    λ _. IsCharBoundary-after_ascii c.args.text.now c.in-Some.i c.utf8.text inside ascii
