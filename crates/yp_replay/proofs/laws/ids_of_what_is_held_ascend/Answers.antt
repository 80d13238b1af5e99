use Rattle.yp_replay.proofs.Held.{ids_ascend}
use Rattle.yp_replay.proofs.laws.ids_of_what_is_held_ascend.Goals as goal

pub returns : goal.returns
returns c = ids_ascend
