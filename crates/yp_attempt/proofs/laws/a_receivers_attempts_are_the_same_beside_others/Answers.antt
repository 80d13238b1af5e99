use Rattle.yp_attempt.proofs.OwnAttempts.{own_attempts}
use Rattle.yp_attempt.proofs.laws.a_receivers_attempts_are_the_same_beside_others.Goals as goal

pub returns : goal.returns
returns c = own_attempts
