use Rattle.std.proofs.Common.{◌≡◌, ◌≤◌, List, length, arith, ap, subst, sym, ◌∙◌}
use Rattle.std.specs.Prelude.{All}
use Rattle.yp_journal.specs.declared.command.Command.{Command}
use Rattle.yp_journal.specs.declared.receiver.ReceiverInfo.{ReceiverInfo}
use Rattle.yp_journal.specs.History.{MayCome}
use Rattle.yp_script.specs.Script.{count_commands}
use Rattle.world_cases.specs.Companions.{Accompanies}
use Rattle.world_cases.proofs.Commands.{commands_length, in_order, may_come}
use Rattle.world_cases.proofs.run.Run.open.Goals as goal

pub returns : goal.returns
returns c =
    let script = c.args.script in
    let workers = c.in_ok-companions.companions.workers.items in
    let commands : List Command = c.in_ok-commands.commands.items in
    let listed : commands ≡ in_order script = c.in_ok-commands.ensures in
    let same : c.in_ok-world.world.state.receivers ≡ script.receivers = c.in_ok-world.ensures.receivers ∙ c.items.ensures ∙ c.in_ok-receivers.ensures in
    let beside : c.items-2.result.now ≡ script.receivers = c.items-2.ensures ∙ c.in_ok-receivers.ensures in
    let most : count_commands script ≤ 100000 = c.requires.count in
    record {
      world = c.in_ok-world.ensures.world;
      commands = subst (λ (receivers : List ReceiverInfo). All (MayCome script.schema receivers) commands) (sym same)
          (subst (λ (those : List Command). All (MayCome script.schema script.receivers) those) (sym listed) (may_come script c.requires.commands));
      few = omega (arith, ap length listed, commands_length script, most);
      companions = subst (λ (receivers : List ReceiverInfo). All (Accompanies script.schema receivers) workers) (beside ∙ sym same) c.in_ok-companions.ensures.stand;
    }
