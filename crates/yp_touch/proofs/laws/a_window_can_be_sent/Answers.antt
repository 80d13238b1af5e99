use Rattle.yp_touch.proofs.Windowed.{window_sendable}
use Rattle.yp_touch.proofs.laws.a_window_can_be_sent.Goals as goal

pub returns : goal.returns
returns c nodes excluded first later = window_sendable excluded first later nodes
