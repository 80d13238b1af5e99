use Rattle.std.proofs.Common.{◌≡◌, ◌∙◌, ◌+◌, ◌++◌, ◌∷◌, [], List, append_assoc, ap, length, subst, sym, arith}
use Rattle.std.specs.List.{AllByRecursion}
use Rattle.std.proofs.lemmas.List.{append-nil, nil_from_length}
use Rattle.std.specs.Vec.Iter.{into_iter_items}
use Rattle.yp_journal.specs.declared.command.Command.{Command}
use Rattle.yp_journal.specs.History.{MayCome}
use Rattle.yp_turns.specs.declared.turns.Turn.{Turn}
use Rattle.yp_turns.specs.Turns.{turns_of}
use Rattle.yp_concurrent.specs.Running.{HasTaken}
use Rattle.yp_concurrent.proofs.Going.{nothing_taken, taken_both}
use Rattle.yp_concurrent.proofs.outside.take_all.Goals as goal

pub loop-command-init : goal.loop-command-init
loop-command-init c =
    let s = c.args.setting.now in
    let is : into_iter_items c.into_iter-command-iterator.result ≡ c.args.commands = c.into_iter-command-iterator.ensures.into_iter_gives.0 ∙ c.in_ok-command-items.ensures in
    let count = ap (λ (commands : List Command). length commands) is in
    record {
      done = [];
      all = ap (λ (commands : List Command). turns_of 0 c.args.first commands) is;
      taken = λ entries at. nothing_taken s.schema.now s.start.now s.receivers.now s.workers entries c.args.standing.now at;
      may = subst (AllByRecursion (MayCome s.schema.now s.receivers.now)) (sym is) c.requires.commands;
      index = omega (arith, count);
      room = omega (arith, count);
    }

pub take_one-requires-clause-standing : goal.take_one-requires-clause-standing
take_one-requires-clause-standing c =
    let here = c.requires.standing in
    let taken = c.loop-command.invariant.taken here.entries here.is in
    record { entries = here.entries ++ taken.more; is = taken.is }

pub take_one-requires-clause-command : goal.take_one-requires-clause-command
take_one-requires-clause-command c =
    let s = c.args.setting.now in
    (subst (AllByRecursion (MayCome s.schema.now s.receivers.now)) c.in-Some.ensures.steps.0 c.loop-command.invariant.may).0

pub take_one-requires-clause-room : goal.take_one-requires-clause-room
take_one-requires-clause-room c =
    let count = ap (λ (commands : List Command). length commands) c.in-Some.ensures.steps.0 in
    omega (arith, count, c.loop-command.invariant.room, c.requires.room)

pub overflow_add-index : goal.overflow_add-index
overflow_add-index c =
    let count = ap (λ (commands : List Command). length commands) c.in-Some.ensures.steps.0 in
    omega (arith, count, c.loop-command.invariant.index, c.requires.numbers)

pub loop-command-preserved : goal.loop-command-preserved
loop-command-preserved c =
    let s = c.args.setting.now in
    let inv = c.loop-command.invariant in
    let index = c.loop-command.index in
    let command : Command = c.in-Some.command in
    let rest : List Command = into_iter_items c.next.new.self in
    let cut : into_iter_items c.loop-command.command-iterator ≡ command ∷ rest = c.in-Some.ensures.steps.0 in
    let count = ap (λ (commands : List Command). length commands) cut in
    record {
      done = inv.done ++ turns_of 0 index (command ∷ []);
      all = append_assoc inv.done (turns_of 0 index (command ∷ [])) (turns_of 0 (index + 1) rest) ∙ (ap (λ (commands : List Command). inv.done ++ turns_of 0 index commands) (sym cut) ∙ inv.all);
      taken = λ entries at.
          taken_both s.schema.now s.start.now s.receivers.now s.workers entries inv.done (turns_of 0 index (command ∷ [])) c.loop-command.standing c.take_one.new.standing (inv.taken entries at) c.in_ok-take_one.ensures.taken;
      may = (subst (AllByRecursion (MayCome s.schema.now s.receivers.now)) cut inv.may).1;
      index = omega (arith, count, inv.index);
      room = omega (arith, count, inv.room, c.in_ok-take_one.ensures.count);
    }

pub returns : goal.returns
returns c = λ entries at.
    let s = c.args.setting.now in
    let inv = c.loop-command.invariant in
    let none : into_iter_items c.loop-command.command-iterator ≡ [] = nil_from_length _ (sym c.loop-command.command-iterator.rest.ok.0 ∙ c.in-None.ensures.steps.0) in
    let all : inv.done ≡ turns_of 0 c.args.first c.args.commands = sym (append-nil inv.done) ∙ (ap (λ (commands : List Command). inv.done ++ turns_of 0 c.loop-command.index commands) (sym none) ∙ inv.all) in
    subst (λ (turns : List Turn). HasTaken s.schema.now s.start.now s.receivers.now s.workers entries turns c.loop-command.standing) all (inv.taken entries at)
