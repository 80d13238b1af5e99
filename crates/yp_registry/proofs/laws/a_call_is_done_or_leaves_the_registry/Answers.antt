use Rattle.yp_registry.proofs.Further.{refused_leaves, done_leaves}
use Rattle.yp_registry.proofs.laws.a_call_is_done_or_leaves_the_registry.Goals as goal

pub returns-clause-refused : goal.returns-clause-refused
returns-clause-refused c = refused_leaves

pub returns-clause-done : goal.returns-clause-done
returns-clause-done c = done_leaves
