use Rattle.std.proofs.Common.{◌≡◌, ◌∙◌, ◌++◌, ◌∷◌, [], Bool, sym, ap}
use Rattle.yp_queue.specs.declared.packet.Packet.{Packet}
use Rattle.yp_offer_log.specs.declared.logged.Logged.TheVariants as logs
use Rattle.yp_live.specs.Desks.{DeskState, desk_offered, desk_served}
use Rattle.yp_live.specs.contracts.desk.Desk.{the_view}
use Rattle.yp_live.proofs.Accepting.{accepted}
use Rattle.yp_live.proofs.desk.Desk.offer.Goals as goal

pub returns-in_ok-take_one-in-Took-clause-state : goal.returns-in_ok-take_one-in-Took-clause-state
returns-in_ok-take_one-in-Took-clause-state c =
    let desk : DeskState = the_view c.self.inside in
    let sent = c.args.sent in
    let given : Packet = record { sub = sent.packet.sub; position = sent.packet.position; kind = sent.packet.kind; line = c.in_ok-copy.field-0 } in
    let same : given ≡ sent.packet = λ i. record { sub = sent.packet.sub; position = sent.packet.position; kind = sent.packet.kind; line = c.in_ok-copy.ensures i } in
    let log : c.push.new.self.items ≡ desk.log ++ logs.Line sent.packet.kind sent.packet.line ∷ [] =
    c.in_ok-push-in-Took.ensures.items ∙ (λ i. c.reserve.ensures.items i ++ logs.Line sent.packet.kind sent.packet.line ∷ []) in
    let left : DeskState = record desk { log = c.push.new.self.items; queue = c.offer.new.self; waiting = c.push_back.new.self.items } in
    c.in_ok-take_one-in-Took.ensures
    ∙ (ap (λ (b : Bool). desk_served b left) (sym c.if-self.true)
    ∙ (accepted desk given sent.packet sent.notice c.args.at c.self.inside.waiting.capacity c.push.new.self.items c.offer.new.self c.push_back.new.self.items same c.in-Took.ensures.answer
    c.self.invariant.0 c.self.invariant.1 log c.in-Took.ensures.state (ap (λ b. b.items) c.push_back.ensures.items)
    ∙ ap (desk_offered sent.packet sent.notice c.args.at) c.self.view_is))

pub returns-else-self-clause-state : goal.returns-else-self-clause-state
returns-else-self-clause-state c =
    let desk : DeskState = the_view c.self.inside in
    let sent = c.args.sent in
    let given : Packet = record { sub = sent.packet.sub; position = sent.packet.position; kind = sent.packet.kind; line = c.in_ok-copy.field-0 } in
    let same : given ≡ sent.packet = λ i. record { sub = sent.packet.sub; position = sent.packet.position; kind = sent.packet.kind; line = c.in_ok-copy.ensures i } in
    let log : c.push.new.self.items ≡ desk.log ++ logs.Line sent.packet.kind sent.packet.line ∷ [] =
    c.in_ok-push-in-Took.ensures.items ∙ (λ i. c.reserve.ensures.items i ++ logs.Line sent.packet.kind sent.packet.line ∷ []) in
    let left : DeskState = record desk { log = c.push.new.self.items; queue = c.offer.new.self; waiting = c.push_back.new.self.items } in
    ap (λ (b : Bool). desk_served b left) (sym c.if-self.false)
    ∙ (accepted desk given sent.packet sent.notice c.args.at c.self.inside.waiting.capacity c.push.new.self.items c.offer.new.self c.push_back.new.self.items same c.in-Took.ensures.answer
    c.self.invariant.0 c.self.invariant.1 log c.in-Took.ensures.state (ap (λ b. b.items) c.push_back.ensures.items)
    ∙ ap (desk_offered sent.packet sent.notice c.args.at) c.self.view_is)
