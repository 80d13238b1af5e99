use Rattle.yp_mirror.proofs.Promises.{stamps_rise}
use Rattle.yp_mirror.proofs.laws.full_answers_come_at_rising_stamps.Goals as goal

pub returns : goal.returns
returns c = stamps_rise c.every_run_of_a_receiver_is_linked.ensures
