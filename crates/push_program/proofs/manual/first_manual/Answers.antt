use Rattle.std.proofs.Common.{◌≡◌, ◌∙◌, Some, None, slice_get, sym, ap, arith}
use Rattle.std.proofs.lemmas.Option.{slice_get_past}
use Rattle.push_program.proofs.ManualLaws.{found, none_left, passed}
use Rattle.push_program.proofs.manual.first_manual.Goals as goal
use Rattle.push_program.proofs.manual.first_manual.Goals.{else-loop-number-test, then-loop-number-test+in_default}

pub returns-then-not-receiver : goal.returns-then-not-receiver
returns-then-not-receiver c =
    let there : slice_get c.args.receivers.now c.loop-number.number ≡ Some c.in-Some.receiver.now = sym c.in-Some.ensures in
    ap (λ name. Some name) c.in_ok-copy.ensures ∙ sym (c.loop-number.invariant ∙ found c.args.receivers.now c.loop-number.number c.in-Some.receiver.now there c.if-not-receiver.true)

pub loop-number-preserved : goal.loop-number-preserved
loop-number-preserved c =
    let there : slice_get c.args.receivers.now c.loop-number.number ≡ Some c.in-Some.receiver.now = sym c.in-Some.ensures in
    c.loop-number.invariant ∙ passed c.args.receivers.now c.loop-number.number c.in-Some.receiver.now there c.if-not-receiver.false

pub returns : goal.returns
returns c =
    let past : slice_get c.args.receivers.now c.loop-number.number ≡ None = elim c.loop-number-test.branch [
      | else-loop-number-test w ↦ slice_get_past c.args.receivers.now c.loop-number.number (omega (arith, w.loop-number-test.false, c.len-number-end.ensures))
      | then-loop-number-test+in_default w ↦ sym w.in_default.ensures
    ] in
    sym (c.loop-number.invariant ∙ none_left c.args.receivers.now c.loop-number.number past)
