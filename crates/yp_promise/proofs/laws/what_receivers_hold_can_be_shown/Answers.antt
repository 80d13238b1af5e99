use Rattle.std.proofs.Common.{sym}
use Rattle.std.proofs.lemmas.List.{take-append-drop}
use Rattle.yp_attempt.specs.Attempts.{own_run, taken_of}
use Rattle.yp_promise.specs.Serving.{run_of}
use Rattle.yp_promise.specs.Shown.{count_taken, got_by, kept_for, offered_to}
use Rattle.yp_promise.proofs.laws.what_receivers_hold_can_be_shown.Goals as goal

pub returns : goal.returns
returns c nodes receivers entries receiver schema legal there =
    let served = run_of nodes receivers entries in
    c.every_run_of_a_receiver_serves_it.ensures.shown nodes receivers entries receiver (own_run receiver served.run) schema legal (c.a_receivers_part_of_a_serial_run_is_its_own_run.ensures.reaches nodes receivers entries receiver schema legal there)
    (got_by receiver served) (kept_for receiver served) (sym (take-append-drop (count_taken receiver served) (taken_of (offered_to receiver served))))
