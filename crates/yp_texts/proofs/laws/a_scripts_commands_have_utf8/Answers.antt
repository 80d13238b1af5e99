use Rattle.yp_texts.proofs.Scripts.{script_utf8}
use Rattle.yp_texts.proofs.laws.a_scripts_commands_have_utf8.Goals as goal

pub returns : goal.returns
returns c bytes script is = script_utf8 bytes script is
