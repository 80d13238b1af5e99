use Rattle.std.proofs.Common.{sym}
use Rattle.std.proofs.lemmas.List.{take-append-drop}
use Rattle.yp_attempt.specs.Attempts.{answers_in, own_run, taken_of}
use Rattle.yp_promise.specs.Serving.{run_of}
use Rattle.yp_promise.specs.Shown.{count_taken, got_by, kept_for, offered_to}
use Rattle.yp_hearing.proofs.laws.each_line_is_heard_as_its_notification.Goals as goal

pub returns : goal.returns
returns c nodes receivers entries receiver start can there begins =
    let served = run_of nodes receivers entries in
    let taken = taken_of (offered_to receiver served) in
    c.every_run_of_a_receiver_is_heard.ensures.heard nodes receivers entries receiver (answers_in (offered_to receiver served)) (own_run receiver served.run) start can
    (c.a_receivers_part_of_a_serial_run_is_its_own_run.ensures.reaches nodes receivers entries receiver can.schema can.legal there) begins (got_by receiver served) (kept_for receiver served) (sym (take-append-drop (count_taken receiver served) taken))
