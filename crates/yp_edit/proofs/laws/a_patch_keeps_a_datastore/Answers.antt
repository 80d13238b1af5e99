use Rattle.yp_edit.proofs.Keeping.{patch_keeps}
use Rattle.yp_edit.proofs.laws.a_patch_keeps_a_datastore.Goals as goal

pub returns : goal.returns
returns c = patch_keeps c.what_is_read_is_whole.ensures
