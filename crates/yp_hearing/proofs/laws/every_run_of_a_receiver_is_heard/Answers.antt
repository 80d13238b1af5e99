use Rattle.std.proofs.Common.{ap, ◌∙◌, ◌++◌, ◌∷◌, []}
use Rattle.yp_attempt.specs.Attempts.{taken_of}
use Rattle.yp_receiver.specs.Held.{held_of}
use Rattle.yp_hearing.proofs.Heard.{first_heard, first_received, parted}
use Rattle.yp_hearing.proofs.laws.every_run_of_a_receiver_is_heard.Goals as goal

pub returns : goal.returns
returns c =
    let tells = c.lines_tell_their_notices.ensures in
    let told = c.what_a_receiver_is_sent_is_told.ensures in
    record {
      heard = λ nodes receivers entries receiver answers run start can reaches begins got waiting accepted.
          first_heard nodes start (taken_of run.done) got waiting (c.a_written_line_is_heard.ensures nodes start) can.schema begins (told nodes receivers entries receiver answers run can reaches) accepted;
      holds = λ nodes receivers entries receiver answers run start can reaches begins got waiting accepted.
          first_received nodes start (taken_of run.done) got waiting (tells nodes start) can.schema begins (told nodes receivers entries receiver answers run can reaches) accepted;
      mirrors = λ nodes receivers entries receiver answers run start can reaches begins got waiting accepted mirrors id ask gives mirrored before update after parts is.
          let taken = taken_of run.done in
          let lines = first_received nodes start taken (before ++ update ∷ []) (after ++ waiting) (tells nodes start) can.schema begins (told nodes receivers entries receiver answers run can reaches) (parted taken got waiting before update after accepted parts) in
          ap (held_of id) lines ∙ mirrors id ask gives mirrored before update after parts is;
    }
