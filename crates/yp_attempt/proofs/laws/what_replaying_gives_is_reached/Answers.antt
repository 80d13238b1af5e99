use Rattle.yp_attempt.proofs.OwnAttempts.{replay_is_reached}
use Rattle.yp_attempt.proofs.laws.what_replaying_gives_is_reached.Goals as goal

pub returns : goal.returns
returns c = replay_is_reached
