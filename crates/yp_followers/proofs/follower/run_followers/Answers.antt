use denote.Param.Send.{sendable}
use Rattle.std.proofs.Crossing.{crosses}
use Rattle.yp_published.proofs.reader.LogReader.TheSendSync as reader
use Rattle.yp_followers.proofs.Crossing.{worker_send}
use Rattle.yp_followers.proofs.outbox.Outbox.TheSendSync as outbox
use Rattle.yp_followers.proofs.follower.run_followers.Goals as goal

pub for_each_mut-requires-send-T : goal.for_each_mut-requires-send-T
for_each_mut-requires-send-T g c κs within = search (reader.the_send, worker_send, outbox.the_send, crosses, sendable) depth 60 fits 20000
