-- Cases as they run.
use Rattle.std.specs.Prelude.{◌<◌, ◌^◌, All, length}
use Rattle.yp_journal.specs.History.{MayCome}
use Rattle.yp_slot.specs.declared.settling.Settled.{Settled}
use Rattle.yp_slot.specs.declared.settling.Settled.TheVariants.{Took, Full}
use Rattle.yp_core.specs.Worlds.{IsSomeWorld}
use Rattle.world_cases.specs.declared.run.Run.{Run}
use Rattle.world_cases.specs.Companions.{Accompanies}

-- the answer that a queue didn't give
abbrev pub other_answer : Settled → Settled
other_answer Took = Full
other_answer Full = Took

-- a world stands for some entries and events, the commands may come in its journal, and its workers' companions follow a journal of its receivers
pub record IsRunning (run : Run) : Type 0 where
  pub world : IsSomeWorld run.schema run.world
  pub commands : All (MayCome run.schema run.world.state.receivers) run.commands.items
  pub few : length run.commands.items < 2 ^ 31
  pub companions : All (Accompanies run.schema run.world.state.receivers) run.companions.workers.items
