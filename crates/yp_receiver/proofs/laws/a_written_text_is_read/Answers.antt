use Rattle.yp_receiver.proofs.Texts.{written_text_again}
use Rattle.yp_receiver.proofs.laws.a_written_text_is_read.Goals as goal

pub returns : goal.returns
returns c = written_text_again
