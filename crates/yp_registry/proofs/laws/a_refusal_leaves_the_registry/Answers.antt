use Rattle.yp_registry.proofs.Rising.{refusal_leaves}
use Rattle.yp_registry.proofs.laws.a_refusal_leaves_the_registry.Goals as goal

pub returns : goal.returns
returns c = refusal_leaves
