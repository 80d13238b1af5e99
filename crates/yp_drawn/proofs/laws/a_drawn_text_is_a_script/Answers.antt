use Rattle.yp_drawn.proofs.Scripts.{text_is_script, commands_counted}
use Rattle.yp_drawn.proofs.laws.a_drawn_text_is_a_script.Goals as goal

pub returns : goal.returns
returns c = record {
  script = text_is_script;
  commands = commands_counted;
}
