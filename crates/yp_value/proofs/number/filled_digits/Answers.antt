use Rattle.std.proofs.Common.{◌++◌, ◌-◌, ◌∙◌, ap, length, replicate}
use Rattle.yp_value.proofs.number.filled_digits.Goals as goal

pub returns : goal.returns
returns c =
    let text = c.as_bytes-digits.ensures.value ∙ c.in_ok-text.ensures.ok in
    let zeros = c.in_ok-filled.ensures.items_if_clones_equal (λ y same. same) ∙ ap (λ k. replicate k 48) (c.saturating_sub-zeros.ensures ∙ ap (λ k. c.args.count - k) (ap length text)) in
    c.in_ok-extend_from_slice.ensures.items ∙ (λ i. zeros i ++ text i)
