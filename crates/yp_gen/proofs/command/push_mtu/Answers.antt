use Rattle.std.proofs.Common.{◌∙◌, append_assoc}
use Rattle.std.proofs.lemmas.Result.{on_ok_weaker}
use Rattle.yp_gen.specs.Commands.{value_of}
use Rattle.yp_gen.proofs.command.push_mtu.Goals as goal

pub returns : goal.returns
unfolding value_of
returns c = on_ok_weaker c.write.result (λ is. is ∙ simp append_assoc) c.write.ensures.bytes
