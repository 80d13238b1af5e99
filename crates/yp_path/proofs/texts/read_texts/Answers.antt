use Rattle.yp_path.proofs.Bare.{bare_keys}
use Rattle.yp_path.proofs.texts.read_texts.Goals as goal

pub returns-in-None : goal.returns-in-None
returns-in-None c = bare_keys c.args.keys.now c.utf8.keys c.in-None.ensures
