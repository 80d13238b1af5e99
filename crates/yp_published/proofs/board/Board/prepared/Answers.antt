use Rattle.std.proofs.Common.{◌≡◌, false, Some, ap, sym, ◌∙◌}
use Rattle.yp_published.specs.Histories.{after_op}
use Rattle.yp_published.proofs.Views.{next_is}
use Rattle.yp_published.proofs.board.Board.prepared.Goals as goal

pub invariant_of-op : goal.invariant_of-op
invariant_of-op g c =
    let front = c.self.inside.front in
    let goes_on : front.ended ≡ false = sym c.has_ended.ensures ∙ c.if-has_ended.false in
    let next = next_is front c.in_ok-after.after c.args.entry c.in_ok-after.ensures.0 c.in_ok-after.ensures.1 goes_on in (
      ap (λ k. k.ended) c.again.ensures ∙ goes_on,
      c.again-2.ensures ∙ (next ∙ ap (λ k. after_op k (Some c.args.entry)) (sym c.again.ensures)),
    )
