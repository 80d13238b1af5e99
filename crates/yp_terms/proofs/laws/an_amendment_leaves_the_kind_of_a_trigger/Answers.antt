use Rattle.yp_terms.proofs.Amended.{kind_stays}
use Rattle.yp_terms.proofs.laws.an_amendment_leaves_the_kind_of_a_trigger.Goals as goal

pub returns : goal.returns
returns c = kind_stays
