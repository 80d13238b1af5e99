use Rattle.yp_replay.proofs.Held.{held_writable}
use Rattle.yp_replay.proofs.laws.what_is_held_can_be_written.Goals as goal

pub returns : goal.returns
returns c = held_writable c.read_text_fits.ensures c.what_is_read_is_whole.ensures
