use Rattle.yp_attempt.specs.Attempts.{replay}
use Rattle.std.proofs.Common.{[], ◌∷◌, take}
use Rattle.yp_attempt.specs.Runs.{first_run}
use Rattle.yp_moment.specs.Entries.{moments_of}
use Rattle.yp_moment.specs.Windows.{recorded}
use Rattle.yp_hearing.proofs.Interleaved.{first_can}
use Rattle.yp_hearing.proofs.laws.every_interleaving_is_heard.Goals as goal

pub returns : goal.returns
returns c nodes receivers entries start can begins workers events some appended receiver there =
    let served = c.every_interleaving_serves_each_receiver.ensures nodes receivers entries can.schema can.legal workers events some appended receiver there in
    let past = take served.standing.position entries in
    let answers = served.delivery.answers in
    let run = (replay recorded (receiver ∷ []) first_run (moments_of nodes receivers past) answers).run in
    let heard = c.every_run_of_a_receiver_is_heard.ensures in
    let first = first_can nodes receivers entries served.standing.position can in
    record {
      delivery = served.delivery;
      standing = served.standing;
      are = served.are;
      heard = heard.heard nodes receivers past receiver answers run start first served.reaches begins served.delivery.taken served.delivery.queue served.accepted;
      mirrored = heard.mirrors nodes receivers past receiver answers run start first served.reaches begins served.delivery.taken served.delivery.queue served.accepted served.serves.mirrors;
    }
