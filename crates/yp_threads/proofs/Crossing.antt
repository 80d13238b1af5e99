-- The jobs of workers and of their receivers may go to another thread: their workers hold filters, which hold themselves, so the check does not find it.
use denote.RattleType.{RattleType}
use denote.Param.Send.{IsSend, sendable}
use Rattle.std.proofs.Crossing.{crosses}
use Rattle.core.specs.declared.ledger.Ledger as ledger
use Rattle.yp_published.specs.declared.history.Naming as naming
use Rattle.yp_published.proofs.reader.LogReader.TheSendSync as reader
use Rattle.yp_followers.proofs.Crossing.{worker_send}
use Rattle.yp_followers.proofs.outbox.Outbox.TheSendSync as outbox
use Rattle.yp_followers.specs.contracts.follower.FollowerJob
use Rattle.yp_takers.proofs.taker.TakerJob.TheSendSync as taker
use Rattle.yp_handover.specs.contracts.group.Group
use Rattle.yp_handover.specs.contracts.handing.Jobs

pub group_send : IsSend Group.the_row
group_send = search (taker.the_send, crosses, sendable) depth 60 fits 20000

module _ (T : RattleType) (g : naming.Ghosts T.Denot) (l : ledger.Ghosts T.Denot) where
  pub follower_send : IsSend (FollowerJob.the_row T g l)
  follower_send = search (reader.the_send, worker_send, outbox.the_send, crosses, sendable) depth 60 fits 20000

  pub jobs_send : IsSend (Jobs.the_row T g l)
  jobs_send = search (follower_send, group_send, crosses, sendable) depth 60 fits 20000
