use Rattle.std.proofs.Common.{◌≡◌, List, [], ◌∷◌, ◌++◌, length, slice_get, sym, ap, ◌∙◌}
use Rattle.yp_journal.specs.declared.receiver.ReceiverInfo.{ReceiverInfo}
use Rattle.yp_command.proofs.ListLaws.{gathered_more, gathered_all}
use Rattle.yp_command.proofs.receivers.Receivers.list.Goals as goal

pub loop-receiver-preserved : goal.loop-receiver-preserved
loop-receiver-preserved c =
    let done : List ReceiverInfo = c.loop-receiver.list.items in
    let at : c.len.result ≡ length done = c.len.ensures ∙ c.loop-receiver.list.ok.0 in
    gathered_more c.args.self.now done c.push.new.self.items c.in-Some.receiver.now c.loop-receiver.invariant (ap (slice_get c.args.self.now) (sym at) ∙ sym c.in-Some.ensures)
    (c.in_ok-push.ensures.items ∙ ap (λ (receiver : ReceiverInfo). done ++ receiver ∷ []) c.in_ok-copy.ensures)

pub returns : goal.returns
returns c =
    let done : List ReceiverInfo = c.loop-receiver.list.items in
    let at : c.len.result ≡ length done = c.len.ensures ∙ c.loop-receiver.list.ok.0 in
    c.from_vec.ensures ∙ gathered_all c.args.self.now done c.loop-receiver.invariant (ap (slice_get c.args.self.now) (sym at) ∙ sym c.in_default.ensures)
