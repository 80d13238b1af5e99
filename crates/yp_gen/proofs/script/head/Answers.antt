use Rattle.std.proofs.Common.{refl}
use Rattle.yp_gen.specs.Scripts.{setting_text, subscriptions_text}
use Rattle.yp_gen.proofs.script.head.Goals as goal

pub returns : goal.returns
unfolding setting_text subscriptions_text
returns c = refl
