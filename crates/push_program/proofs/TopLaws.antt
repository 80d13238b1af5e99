-- What a job makes of what was read, in the words of all that the source had.
use Rattle.std.proofs.Common.{◌≡◌, ℕ, ◌+◌, zero, suc, List, [], ◌∷◌, take, drop, Bool, true, false, true≢false, Option, Some, None, Result, Ok, Err, refl, sym, ap, ◌∙◌, subst}
use Rattle.std.specs.Prelude.{IfSome}
use Rattle.yp_io.specs.Whole.{ReadsWhole}
use Rattle.yp_command.specs.declared.fault.ScriptKind.{ScriptKind}
use Rattle.yp_replay.specs.declared.fault.StreamKind.{StreamKind}
use Rattle.yp_replay.specs.Replay.{replayed, stream_found, stream_replayed}
use Rattle.yp_base.specs.Results.{◌>>=◌}
use Rattle.yp_script.specs.Lines.{byte_limit}
use Rattle.yp_script.specs.Script.{script_in, script_of}
use Rattle.yp_script.specs.Stream.{stream_of}
use Rattle.yp_concurrent.specs.Promise.{TellsBeside}
use Rattle.yp_live.specs.Promise.{Tells}
use Rattle.push_program.specs.declared.fault.NoText.{NoText}
use Rattle.push_program.specs.declared.fault.NoText.TheVariants as reasons
use Rattle.push_program.specs.declared.job.Job.{Job}
use Rattle.push_program.specs.declared.job.Job.TheVariants.{Run, Live, Replay, Gen, Trial}
use Rattle.push_program.specs.declared.top.Status.{Status}
use Rattle.push_program.specs.declared.top.Status.TheVariants.{Done, BadWords, BadScript, BadStream, Manual, ReadFault, WriteFault, NoMemory}
use Rattle.push_program.specs.Answers.{Answers, AnswersJob, ReadsNothing, Streams, WritesNothing}
use Rattle.push_program.specs.Jobs.{HasManual, HasScriptFault, HasStreamFault, IsText, IsTextOf, manual_of, reads}
use Rattle.push_program.specs.Making.{AnswersBytes, AnswersMade, LeavesSink, Makes, Writing, status_of}

take_twice : (n : ℕ) (xs : List ℕ) → take n (take n xs) ≡ take n xs
take_twice zero xs = refl
take_twice (suc n) [] = refl
take_twice (suc n) (x ∷ xs) = ap (λ t. x ∷ t) (take_twice n xs)

-- the streams of a call, by those of its sink
abbrev pub writing_of : Streams → Writing
writing_of s = record { before = s.written_before; after = s.written_after; faults_before = s.write_faults_before; faults_after = s.write_faults_after }

-- ---- what was read

-- the source was read to its end, or one byte past the most
pub reads_all : (left after : Option (List ℕ)) (bytes : List ℕ) (over : Bool) → IfSome left (λ before. ReadsWhole byte_limit before after bytes over) → IfSome left (λ before. after ≡ Some (drop (byte_limit + 1) before))
reads_all None after bytes over read = read
reads_all (Some before) after bytes over read = read.rest

module _ (before bytes : List ℕ) (after : Option (List ℕ)) (over : Bool) (read : ReadsWhole byte_limit before after bytes over) where
  -- the script of what was read is that of all
  same_script : script_in bytes ≡ script_in before
  same_script = ap script_in read.front ∙ ap script_of (take_twice (byte_limit + 1) before)

  -- and so is the stream
  same_stream : replayed bytes ≡ replayed before
  same_stream = ap replayed read.front ∙ ap (λ (text : List ℕ). stream_found (stream_of text) >>= stream_replayed) (take_twice (byte_limit + 1) before)

  -- the text that tells of what was read tells of all
  told_of : (text : List ℕ) → Tells bytes text → Tells before text
  told_of text told = record {
    script = told.script;
    entries = told.entries;
    read = sym same_script ∙ told.read;
    served = told.served;
    report = told.report;
  }

  -- and so does one that tells of a run by threads
  told_beside_of : (workers : ℕ) (text : List ℕ) → TellsBeside workers bytes text → TellsBeside workers before text
  told_beside_of workers text told = record {
    script = told.script;
    entries = told.entries;
    runs = told.runs;
    read = sym same_script ∙ told.read;
    served = told.served;
    report = told.report;
  }

text_read : (job : Job) (left after : Option (List ℕ)) (bytes text : List ℕ) (over : Bool) → IfSome left (λ before. ReadsWhole byte_limit before after bytes over) → IsText job bytes text → IsTextOf job left text
text_read Run None after bytes text over read is = read
text_read Run (Some before) after bytes text over read is = told_of before bytes after over read text is
text_read (Live workers) None after bytes text over read is = read
text_read (Live workers) (Some before) after bytes text over read is =
    (sym (ap manual_of (same_script before bytes after over read)) ∙ is.0, told_beside_of before bytes after over read workers text is.1)
text_read Replay None after bytes text over read is = read
text_read Replay (Some before) after bytes text over read is = sym (same_stream before bytes after over read) ∙ is
text_read (Gen seed size) left after bytes text over read is = is
text_read (Trial seed size) left after bytes text over read is = is

script_fault_read : (job : Job) (left after : Option (List ℕ)) (bytes : List ℕ) (over : Bool) (line : ℕ) (kind : ScriptKind) → IfSome left (λ before. ReadsWhole byte_limit before after bytes over)
    → HasScriptFault job bytes line kind → IfSome left (λ before. HasScriptFault job before line kind)
script_fault_read job None after bytes over line kind read is = read
script_fault_read Run (Some before) after bytes over line kind read is = sym (same_script before bytes after over read) ∙ is
script_fault_read (Live workers) (Some before) after bytes over line kind read is = sym (same_script before bytes after over read) ∙ is
script_fault_read Replay (Some before) after bytes over line kind read is = sym (same_stream before bytes after over read) ∙ is
script_fault_read (Gen seed size) (Some before) after bytes over line kind read is = absurd is
script_fault_read (Trial seed size) (Some before) after bytes over line kind read is = absurd is

stream_fault_read : (job : Job) (left after : Option (List ℕ)) (bytes : List ℕ) (over : Bool) (line : ℕ) (kind : StreamKind) → IfSome left (λ before. ReadsWhole byte_limit before after bytes over)
    → HasStreamFault job bytes line kind → IfSome left (λ before. HasStreamFault job before line kind)
stream_fault_read job None after bytes over line kind read is = read
stream_fault_read Run (Some before) after bytes over line kind read is = absurd is
stream_fault_read (Live workers) (Some before) after bytes over line kind read is = absurd is
stream_fault_read Replay (Some before) after bytes over line kind read is = sym (same_stream before bytes after over read) ∙ is
stream_fault_read (Gen seed size) (Some before) after bytes over line kind read is = absurd is
stream_fault_read (Trial seed size) (Some before) after bytes over line kind read is = absurd is

manual_read : (workers : ℕ) (left after : Option (List ℕ)) (bytes : List ℕ) (over : Bool) (name : List ℕ) → IfSome left (λ before. ReadsWhole byte_limit before after bytes over)
    → HasManual (Live workers) bytes name → IfSome left (λ before. HasManual (Live workers) before name)
manual_read workers None after bytes over name read is = read
manual_read workers (Some before) after bytes over name read is = sym (ap manual_of (same_script before bytes after over read)) ∙ is

-- ---- texts, and why there is none

-- why there is no text, before anything was written
reason_answers : (job : Job) (bytes : List ℕ) (w : Writing) (reason : NoText) → Makes job bytes (Err reason) → LeavesSink w → AnswersBytes job bytes w (status_of reason)
reason_answers job bytes w (reasons.Script line kind) is stays = (is, stays)
reason_answers job bytes w (reasons.Stream line kind) is stays = (is, stays)
reason_answers job bytes w (reasons.Manual name) is stays = (is, stays)
reason_answers job bytes w reasons.Memory is stays = stays

-- what is answered with what a job makes is what the job answers with the bytes
pub made_answers : (job : Job) (bytes : List ℕ) (w : Writing) (made : Result (List ℕ) NoText) (status : Status) → Makes job bytes made → AnswersMade made w status → AnswersBytes job bytes w status
made_answers job bytes w (Ok text) Done is h = (text, (is, h.0, h.1))
made_answers job bytes w (Ok text) BadWords is h = absurd h
made_answers job bytes w (Ok text) (BadScript line kind) is h = absurd h
made_answers job bytes w (Ok text) (BadStream line kind) is h = absurd h
made_answers job bytes w (Ok text) (Manual name) is h = absurd h
made_answers job bytes w (Ok text) ReadFault is h = absurd h
made_answers job bytes w (Ok text) WriteFault is h = (text, (is, h.0, h.1))
made_answers job bytes w (Ok text) NoMemory is h = absurd h
made_answers job bytes w (Err reason) status is h = subst (λ (t : Status). AnswersBytes job bytes w t) (sym h.0) (reason_answers job bytes w reason is h.1)

-- memory ran out before anything was done
pub memory_answers : (asked : Option Job) (s : Streams) → ReadsNothing s → WritesNothing s → Answers asked s NoMemory
memory_answers None s reads writes = (reads, writes)
memory_answers (Some Run) s reads writes = (reads.1, writes)
memory_answers (Some (Live workers)) s reads writes = (reads.1, writes)
memory_answers (Some Replay) s reads writes = (reads.1, writes)
memory_answers (Some (Gen seed size)) s reads writes = (reads, writes)
memory_answers (Some (Trial seed size)) s reads writes = (reads, writes)

-- ---- jobs that read

-- what is answered with what was read is what the job answers
pub with_reading : (job : Job) (s : Streams) (bytes : List ℕ) (over : Bool) (status : Status) → reads job ≡ true → IfSome s.left_before (λ before. ReadsWhole byte_limit before s.left_after bytes over)
    → s.read_faults_after ≡ s.read_faults_before → AnswersBytes job bytes (writing_of s) status → AnswersJob job s status
with_reading (Gen seed size) s bytes over status reader read quiet h = absurd (true≢false (sym reader))
with_reading (Trial seed size) s bytes over status reader read quiet h = absurd (true≢false (sym reader))
with_reading Run s bytes over Done reader read quiet h =
    ((reads_all s.left_before s.left_after bytes over read, quiet), (h.0, (text_read Run s.left_before s.left_after bytes h.0 over read h.1.0, h.1.1)), h.1.2)
with_reading Run s bytes over BadWords reader read quiet h = absurd h
with_reading Run s bytes over (BadScript line kind) reader read quiet h =
    (refl, (reads_all s.left_before s.left_after bytes over read, quiet), script_fault_read Run s.left_before s.left_after bytes over line kind read h.0, h.1)
with_reading Run s bytes over (BadStream line kind) reader read quiet h = absurd h.0
with_reading Run s bytes over (Manual name) reader read quiet h = absurd h.0
with_reading Run s bytes over ReadFault reader read quiet h = absurd h
with_reading Run s bytes over WriteFault reader read quiet h =
    ((reads_all s.left_before s.left_after bytes over read, quiet), (h.0, (text_read Run s.left_before s.left_after bytes h.0 over read h.1.0, h.1.1)), h.1.2)
with_reading Run s bytes over NoMemory reader read quiet h = (quiet, h)
with_reading (Live workers) s bytes over Done reader read quiet h =
    ((reads_all s.left_before s.left_after bytes over read, quiet), (h.0, (text_read (Live workers) s.left_before s.left_after bytes h.0 over read h.1.0, h.1.1)), h.1.2)
with_reading (Live workers) s bytes over BadWords reader read quiet h = absurd h
with_reading (Live workers) s bytes over (BadScript line kind) reader read quiet h =
    (refl, (reads_all s.left_before s.left_after bytes over read, quiet), script_fault_read (Live workers) s.left_before s.left_after bytes over line kind read h.0, h.1)
with_reading (Live workers) s bytes over (BadStream line kind) reader read quiet h = absurd h.0
with_reading (Live workers) s bytes over (Manual name) reader read quiet h =
    (workers, refl, (reads_all s.left_before s.left_after bytes over read, quiet), manual_read workers s.left_before s.left_after bytes over name read h.0, h.1)
with_reading (Live workers) s bytes over ReadFault reader read quiet h = absurd h
with_reading (Live workers) s bytes over WriteFault reader read quiet h =
    ((reads_all s.left_before s.left_after bytes over read, quiet), (h.0, (text_read (Live workers) s.left_before s.left_after bytes h.0 over read h.1.0, h.1.1)), h.1.2)
with_reading (Live workers) s bytes over NoMemory reader read quiet h = (quiet, h)
with_reading Replay s bytes over Done reader read quiet h =
    ((reads_all s.left_before s.left_after bytes over read, quiet), (h.0, (text_read Replay s.left_before s.left_after bytes h.0 over read h.1.0, h.1.1)), h.1.2)
with_reading Replay s bytes over BadWords reader read quiet h = absurd h
with_reading Replay s bytes over (BadScript line kind) reader read quiet h =
    (refl, (reads_all s.left_before s.left_after bytes over read, quiet), script_fault_read Replay s.left_before s.left_after bytes over line kind read h.0, h.1)
with_reading Replay s bytes over (BadStream line kind) reader read quiet h =
    (refl, (reads_all s.left_before s.left_after bytes over read, quiet), stream_fault_read Replay s.left_before s.left_after bytes over line kind read h.0, h.1)
with_reading Replay s bytes over (Manual name) reader read quiet h = absurd h.0
with_reading Replay s bytes over ReadFault reader read quiet h = absurd h
with_reading Replay s bytes over WriteFault reader read quiet h =
    ((reads_all s.left_before s.left_after bytes over read, quiet), (h.0, (text_read Replay s.left_before s.left_after bytes h.0 over read h.1.0, h.1.1)), h.1.2)
with_reading Replay s bytes over NoMemory reader read quiet h = (quiet, h)

-- ---- jobs that don't

pub without_reading : (job : Job) (s : Streams) (bytes : List ℕ) (status : Status) → reads job ≡ false → ReadsNothing s → AnswersBytes job bytes (writing_of s) status → AnswersJob job s status
without_reading Run s bytes status not read h = absurd (true≢false not)
without_reading (Live workers) s bytes status not read h = absurd (true≢false not)
without_reading Replay s bytes status not read h = absurd (true≢false not)
without_reading (Gen seed size) s bytes Done not read h = (read, (h.0, (h.1.0, h.1.1)), h.1.2)
without_reading (Gen seed size) s bytes BadWords not read h = absurd h
without_reading (Gen seed size) s bytes (BadScript line kind) not read h = absurd h.0
without_reading (Gen seed size) s bytes (BadStream line kind) not read h = absurd h.0
without_reading (Gen seed size) s bytes (Manual name) not read h = absurd h.0
without_reading (Gen seed size) s bytes ReadFault not read h = absurd h
without_reading (Gen seed size) s bytes WriteFault not read h = (read, (h.0, (h.1.0, h.1.1)), h.1.2)
without_reading (Gen seed size) s bytes NoMemory not read h = (read, h)
without_reading (Trial seed size) s bytes Done not read h = (read, (h.0, (h.1.0, h.1.1)), h.1.2)
without_reading (Trial seed size) s bytes BadWords not read h = absurd h
without_reading (Trial seed size) s bytes (BadScript line kind) not read h = absurd h.0
without_reading (Trial seed size) s bytes (BadStream line kind) not read h = absurd h.0
without_reading (Trial seed size) s bytes (Manual name) not read h = absurd h.0
without_reading (Trial seed size) s bytes ReadFault not read h = absurd h
without_reading (Trial seed size) s bytes WriteFault not read h = (read, (h.0, (h.1.0, h.1.1)), h.1.2)
without_reading (Trial seed size) s bytes NoMemory not read h = (read, h)
