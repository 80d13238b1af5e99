use Rattle.std.proofs.Common.{ℕ, List, ◌∙◌, ap, sym, subst}
use Rattle.yp_base.specs.declared.row.Row.{Row}
use Rattle.yp_receiver.specs.Held.{IsTaken, told}
use Rattle.yp_listeners.proofs.listener.Listener.take.Goals as goal

pub returns-in_ok-push-in-Ok-clause-heard : goal.returns-in_ok-push-in-Ok-clause-heard
returns-in_ok-push-in-Ok-clause-heard c =
    let nodes = c.args.schema.now in
    let line : List ℕ = c.args.packet.line in
    let before : List (ℕ × List Row) = c.args.self.now.heard in
    let after : List (ℕ × List Row) = c.take_line-told.new.self in
    let taken : IsTaken nodes line before after = subst (λ (bytes : List ℕ). IsTaken nodes bytes before after) (c.as_bytes-bytes.ensures.value ∙ c.as_str.ensures) c.in-Ok.ensures.taken in
    taken.leaves ∙ sym (ap (λ answer. told answer before) taken.tells)
