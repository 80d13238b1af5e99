use Rattle.std.proofs.Common.{rules, ℕ, List}
use Rattle.std.specs.Ordering.{is_lt, nat_cmp}
use Rattle.std.specs.Cmp.Lexicographic.{slice_cmp}
use Rattle.std.proofs.lemmas.List.Sorted.{answers_always}
use Rattle.yp_value.proofs.ByteOrder.{rising_told}
use Rattle.yp_value.proofs.enumeration.are_rising.Goals as goal

-- each call tells whether a text comes before the next
pub returns : goal.returns
returns c =
    rising_told c.args.texts.now c.is_sorted_by.result
    (c.is_sorted_by.ensures.cases (λ (x y : List ℕ). is_lt (slice_cmp nat_cmp x y)) (answers_always _ _ _ (λ f a r g called. search rules)))
