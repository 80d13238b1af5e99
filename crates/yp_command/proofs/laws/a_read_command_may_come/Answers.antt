use Rattle.yp_command.proofs.Coming.{may_come}
use Rattle.yp_command.proofs.laws.a_read_command_may_come.Goals as goal

pub returns : goal.returns
returns c = may_come c.a_read_policy_is_of_its_schema.ensures
