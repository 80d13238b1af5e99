use Rattle.std.proofs.Common.{◌≡◌, ◌∙◌, ◌+◌, ◌++◌, ◌∷◌, [], List, ap, length, sym, arith}
use Rattle.std.proofs.lemmas.List.{append-nil, append_assoc, nil_from_length}
use Rattle.std.specs.Vec.Iter.{into_iter_items}
use Rattle.yp_journal.specs.declared.command.Command.{Command}
use Rattle.yp_turns.specs.declared.turns.Turn.{Turn}
use Rattle.yp_turns.specs.Turns.{turns_of}
use Rattle.yp_turns.proofs.turns.push_turns.Goals as goal

pub overflow_add-index : goal.overflow_add-index
overflow_add-index c =
    let count = ap (λ (commands : List Command). length commands) c.in-Some.ensures.steps.0 in
    omega (arith, count, c.loop-command.invariant.index, c.requires)

pub loop-command-preserved : goal.loop-command-preserved
loop-command-preserved c =
    let inv = c.loop-command.invariant in
    let lane = c.args.lane in
    let index = c.loop-command.index in
    let turns : List Turn = c.loop-command.turns.items in
    let rest : List Command = into_iter_items c.next.new.self in
    let cut : into_iter_items c.loop-command.command-iterator ≡ c.in-Some.command ∷ rest = c.in-Some.ensures.steps.0 in
    let count = ap (λ (commands : List Command). length commands) cut in
    record {
      index = omega (arith, count, inv.index);
      turns = ap (λ (those : List Turn). those ++ turns_of lane (index + 1) rest) c.in_ok-push.ensures.items
          ∙ (append_assoc turns (record { lane = lane; index = index; command = c.in-Some.command } ∷ []) (turns_of lane (index + 1) rest)
          ∙ (ap (λ (commands : List Command). turns ++ turns_of lane index commands) (sym cut) ∙ inv.turns));
    }

pub returns : goal.returns
returns c =
    let inv = c.loop-command.invariant in
    let turns : List Turn = c.loop-command.turns.items in
    let none : into_iter_items c.loop-command.command-iterator ≡ [] = nil_from_length _ (sym c.loop-command.command-iterator.rest.ok.0 ∙ c.in-None.ensures.steps.0) in
    sym (append-nil turns) ∙ (ap (λ (commands : List Command). turns ++ turns_of c.args.lane c.loop-command.index commands) (sym none) ∙ inv.turns)
