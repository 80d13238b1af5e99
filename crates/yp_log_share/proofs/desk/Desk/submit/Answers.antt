use Rattle.std.proofs.Common.{◌+◌, length, refl, ap, sym, ◌∙◌}
use Rattle.yp_journal.specs.declared.entry.Entry.{Entry}
use Rattle.yp_journal.specs.History.{next_state}
use Rattle.yp_log_share.specs.declared.seat.Call.{Call}
use Rattle.yp_log_share.proofs.Calls.{goes_on, position_next, one_longer, stands_on, one_call_more}
use Rattle.yp_log_share.proofs.desk.Desk.submit.Goals as goal

pub invariant_of-self-2 : goal.invariant_of-self-2
invariant_of-self-2 g c =
    let added = c.in-Some.ensures.added in
    let after = added.1 ∙ added.0 in
    let known = c.self.inside.board.known in
    let before = (c.self.invariant.0 c.if-self.false).1 in
    let state = c.in_ok-stamp.ensures.state ∙ ap (λ nodes. next_state nodes c.self.inside.state c.args.command.now) c.requires.schema in
    let next = state ∙ ap (λ command. next_state g.J.Naming.nodes c.self.inside.state command) (sym (ap (λ (e : Entry). e.command) c.in_ok-entry.ensures.entry)) in (
      λ here. (added.2, goes_on g.J.Naming.nodes g.J.Naming.opening c.self.inside.state c.accept.new.self known c.add.new.self.known _ before next after),
      c.add-2.ensures.total ∙ (ap (λ total. total + 1) c.self.invariant.1 ∙ sym (one_longer known c.add.new.self.known _ after)),
      c.in_ok-stamp.ensures.receivers ∙ c.self.invariant.2,
      c.self.invariant.3,
      c.self.invariant.4,
    )

pub invariant_of-seat-2 : goal.invariant_of-seat-2
invariant_of-seat-2 g c =
    let added = c.in-Some.ensures.added in
    let known = c.self.inside.board.known in
    let before = (c.self.invariant.0 c.if-self.false).1 in
    let position = g.J.Naming.opening.position + 1 in
    let at = c.position-position.ensures.count ∙ (c.in_ok-stamp.ensures.position ∙ position_next g.J.Naming.nodes g.J.Naming.opening c.self.inside.state known before) in
    let call = c.in_ok-entry.ensures.call in
    let pushed = c.push_reserved.ensures.items in
    let kept = c.in_ok-reserve.ensures.items in
    let more = one_call_more c.seat.inside.calls.items c.reserve.new.self.items c.push_reserved.new.self.items _ pushed kept in (
      c.seat.invariant.0,
      c.seat.invariant.1,
      stands_on c.seat.inside.lane position c.seat.inside.calls.items c.reserve.new.self.items c.push_reserved.new.self.items c.seat.inside.front known c.in-Some.front _ _ pushed kept added.0 added.3 (ap (λ (e : Entry). e.lane) c.in_ok-entry.ensures.entry) c.seat.invariant.2
          (ap (λ (k : Call). k.index) call) (ap (λ (k : Call). k.position) call ∙ at) (ap (λ (k : Call). k.command) call) (ap (λ (k : Call). k.reply) call),
      c.add-2.ensures.parts ∙ c.seat.invariant.3,
      c.add-2.ensures.amount ∙ (ap (λ amount. amount + 1) c.seat.invariant.4 ∙ sym more),
    )

pub returns-clause-position : goal.returns-clause-position
returns-clause-position g c =
    let known = c.self.inside.board.known in
    let before = (c.self.invariant.0 c.if-self.false).1 in
    let at = c.position-position.ensures.count ∙ (c.in_ok-stamp.ensures.position ∙ position_next g.J.Naming.nodes g.J.Naming.opening c.self.inside.state known before) in
    at ∙ ap (λ s. g.J.Naming.opening.position + 1 + length s.known.entries) c.self.view_is
