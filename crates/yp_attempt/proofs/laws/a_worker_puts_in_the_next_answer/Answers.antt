use Rattle.yp_attempt.proofs.WorkerSteps.{settles_answer}
use Rattle.yp_attempt.proofs.laws.a_worker_puts_in_the_next_answer.Goals as goal

pub returns : goal.returns
returns c = settles_answer
