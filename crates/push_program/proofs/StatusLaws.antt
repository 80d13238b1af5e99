-- What each status tells a caller follows from the one relation of a call.
use Rattle.std.proofs.Common.{◌≡◌, ℕ, ◌+◌, true, false, true≢false, List, [], Option, Some, None, drop, Result, Ok, Err, refl, sym, ap, ◌∙◌, subst}
use Rattle.std.specs.Prelude.{IfSome}
use Rattle.yp_command.specs.declared.fault.ScriptKind.{ScriptKind}
use Rattle.yp_replay.specs.declared.fault.ReplayFault.{ReplayFault}
use Rattle.yp_replay.specs.declared.fault.ReplayFault.TheVariants as replays
use Rattle.yp_replay.specs.declared.fault.StreamKind.{StreamKind}
use Rattle.yp_replay.specs.LimitLaws.{nothing_behind_replay}
use Rattle.yp_replay.specs.Replay.{replayed}
use Rattle.yp_script.specs.declared.script.Script.{Script}
use Rattle.yp_script.specs.Faults.{LineFault}
use Rattle.yp_script.specs.LimitLaws.{nothing_behind}
use Rattle.yp_script.specs.Lines.{byte_limit}
use Rattle.yp_script.specs.Script.{script_in}
use Rattle.push_program.specs.declared.job.Job.{Job}
use Rattle.push_program.specs.declared.job.Job.TheVariants.{Run, Live, Replay, Gen, Trial}
use Rattle.push_program.specs.declared.top.Status.{Status}
use Rattle.push_program.specs.declared.top.Status.TheVariants.{Done, BadWords, BadScript, BadStream, Manual, ReadFault, WriteFault, NoMemory}
use Rattle.push_program.specs.Answers.{Answers, AnswersJob, Fits, FitsLive, FitsReplay, FitsScript, IsComplete, ReadsAll, ReadsNothing, Streams, TellsReading, TellsWords, TellsWriting, WritesPrefix, WritesText, tells_no_writing, tells_whole_reading}
use Rattle.push_program.specs.Jobs.{HasManual, HasScriptFault, HasStreamFault, IsTextOf, manual_of, reads}

-- a job that reads
abbrev pub Reader : Job → Type 0
Reader job = reads job ≡ true

-- what the words ask for
of_job : (asked : Option Job) (job : Job) (s : Streams) (status : Status) → asked ≡ Some job → Answers asked s status → AnswersJob job s status
of_job asked job s status is h = subst (λ (a : Option Job). Answers a s status) is h

pub words_told : (asked : Option Job) (s : Streams) (status : Status) → Answers asked s status → TellsWords status asked
words_told None s Done h = absurd h
words_told None s BadWords h = refl
words_told None s (BadScript line kind) h = absurd h
words_told None s (BadStream line kind) h = absurd h
words_told None s (Manual name) h = absurd h
words_told None s ReadFault h = absurd h
words_told None s WriteFault h = absurd h
words_told None s NoMemory h = tt
words_told (Some job) s Done h = (job, refl)
words_told (Some job) s BadWords h = absurd h
words_told (Some job) s (BadScript line kind) h = (job, refl, h.0)
words_told (Some job) s (BadStream line kind) h = ap (λ (j : Job). Some j) h.0
words_told (Some job) s (Manual name) h = (h.0, ap (λ (j : Job). Some j) h.1)
words_told (Some job) s ReadFault h = (job, refl, h.0)
words_told (Some job) s WriteFault h = (job, refl)
words_told (Some job) s NoMemory h = tt

pub unread_told : (asked : Option Job) (s : Streams) (status : Status) → Answers asked s status → status ≡ BadWords → s.left_after ≡ s.left_before
unread_told None s status h is = (subst (λ (t : Status). Answers None s t) is h).0.0
unread_told (Some job) s status h is = absurd (subst (λ (t : Status). AnswersJob job s t) is h)

-- a job that doesn't read
aside_job : (job : Job) (s : Streams) (status : Status) → reads job ≡ false → AnswersJob job s status → ReadsNothing s
aside_job Run s status not h = absurd (true≢false not)
aside_job (Live workers) s status not h = absurd (true≢false not)
aside_job Replay s status not h = absurd (true≢false not)
aside_job (Gen seed size) s Done not h = h.0
aside_job (Gen seed size) s BadWords not h = absurd h
aside_job (Gen seed size) s (BadScript line kind) not h = absurd (true≢false (sym h.0 ∙ not))
aside_job (Gen seed size) s (BadStream line kind) not h = absurd (true≢false (sym (ap reads h.0) ∙ not))
aside_job (Gen seed size) s (Manual name) not h = absurd (true≢false (sym (ap reads h.1) ∙ not))
aside_job (Gen seed size) s ReadFault not h = absurd (true≢false (sym h.0 ∙ not))
aside_job (Gen seed size) s WriteFault not h = h.0
aside_job (Gen seed size) s NoMemory not h = h.0
aside_job (Trial seed size) s Done not h = h.0
aside_job (Trial seed size) s BadWords not h = absurd h
aside_job (Trial seed size) s (BadScript line kind) not h = absurd (true≢false (sym h.0 ∙ not))
aside_job (Trial seed size) s (BadStream line kind) not h = absurd (true≢false (sym (ap reads h.0) ∙ not))
aside_job (Trial seed size) s (Manual name) not h = absurd (true≢false (sym (ap reads h.1) ∙ not))
aside_job (Trial seed size) s ReadFault not h = absurd (true≢false (sym h.0 ∙ not))
aside_job (Trial seed size) s WriteFault not h = h.0
aside_job (Trial seed size) s NoMemory not h = h.0

pub aside_told : (asked : Option Job) (s : Streams) (status : Status) → Answers asked s status → (job : Job) → asked ≡ Some job → reads job ≡ false → ReadsNothing s
aside_told asked s status h job is not = aside_job job s status not (of_job asked job s status is h)

pub done_told : (asked : Option Job) (s : Streams) (status : Status) → Answers asked s status → (job : Job) → asked ≡ Some job → status ≡ Done → WritesText job s.left_before s.written_before s.written_after
done_told asked s status h job is done = (subst (λ (t : Status). AnswersJob job s t) done (of_job asked job s status is h)).1

-- what a job that reads has read, where it read all
whole_reading : (job : Job) (s : Streams) (status : Status) → Reader job → AnswersJob job s status → tells_whole_reading status ≡ true → ReadsAll s
whole_reading Run s Done reader h is = h.0
whole_reading (Live workers) s Done reader h is = h.0
whole_reading Replay s Done reader h is = h.0
whole_reading (Gen seed size) s status reader h is = absurd (true≢false (sym reader))
whole_reading (Trial seed size) s status reader h is = absurd (true≢false (sym reader))
whole_reading Run s BadWords reader h is = absurd h
whole_reading (Live workers) s BadWords reader h is = absurd h
whole_reading Replay s BadWords reader h is = absurd h
whole_reading Run s (BadScript line kind) reader h is = h.1
whole_reading (Live workers) s (BadScript line kind) reader h is = h.1
whole_reading Replay s (BadScript line kind) reader h is = h.1
whole_reading Run s (BadStream line kind) reader h is = h.1
whole_reading (Live workers) s (BadStream line kind) reader h is = h.1
whole_reading Replay s (BadStream line kind) reader h is = h.1
whole_reading Run s (Manual name) reader h is = h.2
whole_reading (Live workers) s (Manual name) reader h is = h.2
whole_reading Replay s (Manual name) reader h is = h.2
whole_reading Run s ReadFault reader h is = absurd (true≢false (sym is))
whole_reading (Live workers) s ReadFault reader h is = absurd (true≢false (sym is))
whole_reading Replay s ReadFault reader h is = absurd (true≢false (sym is))
whole_reading Run s WriteFault reader h is = h.0
whole_reading (Live workers) s WriteFault reader h is = h.0
whole_reading Replay s WriteFault reader h is = h.0
whole_reading Run s NoMemory reader h is = absurd (true≢false (sym is))
whole_reading (Live workers) s NoMemory reader h is = absurd (true≢false (sym is))
whole_reading Replay s NoMemory reader h is = absurd (true≢false (sym is))

pub read_told : (asked : Option Job) (s : Streams) (status : Status) → Answers asked s status → (job : Job) → asked ≡ Some job → Reader job → tells_whole_reading status ≡ true
    → IfSome s.left_before (λ bytes. s.left_after ≡ Some (drop (byte_limit + 1) bytes))
read_told asked s status h job is reader whole = (whole_reading job s status reader (of_job asked job s status is h) whole).0

-- nothing was left behind a text
ended : (job : Job) (left after : Option (List ℕ)) (text : List ℕ) → Reader job → IfSome left (λ bytes. after ≡ Some (drop (byte_limit + 1) bytes)) → IsTextOf job left text
    → IfSome left (λ bytes. after ≡ Some [])
ended Run None after text reader read h = read
ended Run (Some bytes) after text reader read h = read ∙ ap (λ (rest : List ℕ). Some rest) (nothing_behind bytes h.script h.read)
ended (Live workers) None after text reader read h = read
ended (Live workers) (Some bytes) after text reader read h = read ∙ ap (λ (rest : List ℕ). Some rest) (nothing_behind bytes h.1.script h.1.read)
ended Replay None after text reader read h = read
ended Replay (Some bytes) after text reader read h = read ∙ ap (λ (rest : List ℕ). Some rest) (nothing_behind_replay bytes text h)
ended (Gen seed size) left after text reader read h = absurd (true≢false (sym reader))
ended (Trial seed size) left after text reader read h = absurd (true≢false (sym reader))

pub end_told : (asked : Option Job) (s : Streams) (status : Status) → Answers asked s status → (job : Job) → asked ≡ Some job → Reader job → status ≡ Done → IfSome s.left_before (λ bytes. s.left_after ≡ Some [])
end_told asked s status h job is reader done =
    let said : AnswersJob job s Done = subst (λ (t : Status). AnswersJob job s t) done (of_job asked job s status is h) in
    ended job s.left_before s.left_after said.1.0 reader (whole_reading job s Done reader said refl).0 said.1.1.0

pub script_told : (asked : Option Job) (s : Streams) (status : Status) → Answers asked s status → (job : Job) → asked ≡ Some job → (line : ℕ) (kind : ScriptKind) → status ≡ BadScript line kind
    → IfSome s.left_before (λ bytes. HasScriptFault job bytes line kind)
script_told asked s status h job is line kind bad = (subst (λ (t : Status). AnswersJob job s t) bad (of_job asked job s status is h)).2

pub stream_told : (asked : Option Job) (s : Streams) (status : Status) → Answers asked s status → (job : Job) → asked ≡ Some job → (line : ℕ) (kind : StreamKind) → status ≡ BadStream line kind
    → IfSome s.left_before (λ bytes. HasStreamFault job bytes line kind)
stream_told asked s status h job is line kind bad = (subst (λ (t : Status). AnswersJob job s t) bad (of_job asked job s status is h)).2

pub manual_told : (asked : Option Job) (s : Streams) (status : Status) → Answers asked s status → (job : Job) → asked ≡ Some job → (name : List ℕ) → status ≡ Manual name
    → IfSome s.left_before (λ bytes. HasManual job bytes name)
manual_told asked s status h job is name manual = (subst (λ (t : Status). AnswersJob job s t) manual (of_job asked job s status is h)).3

-- ---- faults of the source and the sink

-- no read failed
quiet : (job : Job) (s : Streams) → AnswersJob job s Done → s.read_faults_after ≡ s.read_faults_before
quiet Run s h = h.0.1
quiet (Live workers) s h = h.0.1
quiet Replay s h = h.0.1
quiet (Gen seed size) s h = h.0.1
quiet (Trial seed size) s h = h.0.1

quiet_front : (job : Job) (s : Streams) → AnswersJob job s WriteFault → s.read_faults_after ≡ s.read_faults_before
quiet_front Run s h = h.0.1
quiet_front (Live workers) s h = h.0.1
quiet_front Replay s h = h.0.1
quiet_front (Gen seed size) s h = h.0.1
quiet_front (Trial seed size) s h = h.0.1

quiet_memory : (job : Job) (s : Streams) → AnswersJob job s NoMemory → s.read_faults_after ≡ s.read_faults_before
quiet_memory Run s h = h.0
quiet_memory (Live workers) s h = h.0
quiet_memory Replay s h = h.0
quiet_memory (Gen seed size) s h = h.0.1
quiet_memory (Trial seed size) s h = h.0.1

pub reading_told : (asked : Option Job) (s : Streams) (status : Status) → Answers asked s status → TellsReading status s.read_faults_before s.read_faults_after
reading_told None s Done h = absurd h
reading_told None s BadWords h = h.0.1
reading_told None s (BadScript line kind) h = absurd h
reading_told None s (BadStream line kind) h = absurd h
reading_told None s (Manual name) h = absurd h
reading_told None s ReadFault h = absurd h
reading_told None s WriteFault h = absurd h
reading_told None s NoMemory h = h.0.1
reading_told (Some job) s Done h = quiet job s h
reading_told (Some job) s BadWords h = absurd h
reading_told (Some job) s (BadScript line kind) h = h.1.1
reading_told (Some job) s (BadStream line kind) h = h.1.1
reading_told (Some job) s (Manual name) h = h.2.1
reading_told (Some job) s ReadFault h = h.1
reading_told (Some job) s WriteFault h = quiet_front job s h
reading_told (Some job) s NoMemory h = quiet_memory job s h

pub writing_told : (asked : Option Job) (s : Streams) (status : Status) → Answers asked s status → TellsWriting status s.write_faults_before s.write_faults_after
writing_told None s Done h = absurd h
writing_told None s BadWords h = h.1.1
writing_told None s (BadScript line kind) h = absurd h
writing_told None s (BadStream line kind) h = absurd h
writing_told None s (Manual name) h = absurd h
writing_told None s ReadFault h = absurd h
writing_told None s WriteFault h = absurd h
writing_told None s NoMemory h = h.1.1
writing_told (Some job) s Done h = h.2
writing_told (Some job) s BadWords h = absurd h
writing_told (Some job) s (BadScript line kind) h = h.3.1
writing_told (Some job) s (BadStream line kind) h = h.3.1
writing_told (Some job) s (Manual name) h = h.4.1
writing_told (Some job) s ReadFault h = h.2.1
writing_told (Some job) s WriteFault h = h.2
writing_told (Some job) s NoMemory h = h.1.1

pub front_told : (asked : Option Job) (s : Streams) (status : Status) → Answers asked s status → (job : Job) → asked ≡ Some job → status ≡ WriteFault → WritesPrefix job s.left_before s.written_before s.written_after
front_told asked s status h job is front = (subst (λ (t : Status). AnswersJob job s t) front (of_job asked job s status is h)).1

pub unwritten_told : (asked : Option Job) (s : Streams) (status : Status) → Answers asked s status → tells_no_writing status ≡ true → s.written_after ≡ s.written_before
unwritten_told None s Done h is = absurd h
unwritten_told None s BadWords h is = h.1.0
unwritten_told None s (BadScript line kind) h is = absurd h
unwritten_told None s (BadStream line kind) h is = absurd h
unwritten_told None s (Manual name) h is = absurd h
unwritten_told None s ReadFault h is = absurd h
unwritten_told None s WriteFault h is = absurd h
unwritten_told None s NoMemory h is = h.1.0
unwritten_told (Some job) s Done h is = absurd (true≢false (sym is))
unwritten_told (Some job) s BadWords h is = absurd h
unwritten_told (Some job) s (BadScript line kind) h is = h.3.0
unwritten_told (Some job) s (BadStream line kind) h is = h.3.0
unwritten_told (Some job) s (Manual name) h is = h.4.0
unwritten_told (Some job) s ReadFault h is = h.2.0
unwritten_told (Some job) s WriteFault h is = absurd (true≢false (sym is))
unwritten_told (Some job) s NoMemory h is = h.1.0

-- ---- completeness

fits_done : (job : Job) (left : Option (List ℕ)) (text : List ℕ) → IsTextOf job left text → Fits job left Done
fits_done Run None text h = tt
fits_done Run (Some bytes) text h = subst (λ (r : Result Script LineFault). FitsScript r Done) (sym h.read) tt
fits_done (Live workers) None text h = tt
fits_done (Live workers) (Some bytes) text h = subst (λ (r : Result Script LineFault). FitsLive r Done) (sym h.1.read) (sym (ap manual_of h.1.read) ∙ h.0)
fits_done Replay None text h = tt
fits_done Replay (Some bytes) text h = subst (λ (r : Result (List ℕ) ReplayFault). FitsReplay r Done) (sym h) tt
fits_done (Gen seed size) left text h = tt
fits_done (Trial seed size) left text h = tt

fits_script : (job : Job) (left : Option (List ℕ)) (line : ℕ) (kind : ScriptKind) → Reader job → IfSome left (λ bytes. HasScriptFault job bytes line kind) → Fits job left (BadScript line kind)
fits_script Run None line kind reader h = tt
fits_script Run (Some bytes) line kind reader h = subst (λ (r : Result Script LineFault). FitsScript r (BadScript line kind)) (sym h) refl
fits_script (Live workers) None line kind reader h = tt
fits_script (Live workers) (Some bytes) line kind reader h = subst (λ (r : Result Script LineFault). FitsLive r (BadScript line kind)) (sym h) refl
fits_script Replay None line kind reader h = tt
fits_script Replay (Some bytes) line kind reader h = subst (λ (r : Result (List ℕ) ReplayFault). FitsReplay r (BadScript line kind)) (sym h) (refl, refl)
fits_script (Gen seed size) left line kind reader h = absurd (true≢false (sym reader))
fits_script (Trial seed size) left line kind reader h = absurd (true≢false (sym reader))

fits_stream : (left : Option (List ℕ)) (line : ℕ) (kind : StreamKind) → IfSome left (λ bytes. HasStreamFault Replay bytes line kind) → Fits Replay left (BadStream line kind)
fits_stream None line kind h = tt
fits_stream (Some bytes) line kind h = subst (λ (r : Result (List ℕ) ReplayFault). FitsReplay r (BadStream line kind)) (sym h) (refl, refl)

-- a script of which this is the first receiver that takes by command
manual_script : (r : Result Script LineFault) (name : List ℕ) → manual_of r ≡ Some name → FitsLive r (Manual name)
manual_script (Ok script) name is = is
manual_script (Err fault) name is = absurd cc

fits_manual : (workers : ℕ) (left : Option (List ℕ)) (name : List ℕ) → IfSome left (λ bytes. HasManual (Live workers) bytes name) → Fits (Live workers) left (Manual name)
fits_manual workers None name h = tt
fits_manual workers (Some bytes) name h = manual_script (script_in bytes) name h

script_memory : (r : Result Script LineFault) → FitsScript r NoMemory
script_memory (Ok script) = tt
script_memory (Err fault) = tt

live_memory : (r : Result Script LineFault) → FitsLive r NoMemory
live_memory (Ok script) = tt
live_memory (Err fault) = tt

replay_memory : (r : Result (List ℕ) ReplayFault) → FitsReplay r NoMemory
replay_memory (Ok text) = tt
replay_memory (Err (replays.Script line kind)) = tt
replay_memory (Err (replays.Stream line kind)) = tt
replay_memory (Err replays.Memory) = tt

fits_memory : (job : Job) (left : Option (List ℕ)) → Fits job left NoMemory
fits_memory Run None = tt
fits_memory Run (Some bytes) = script_memory (script_in bytes)
fits_memory (Live workers) None = tt
fits_memory (Live workers) (Some bytes) = live_memory (script_in bytes)
fits_memory Replay None = tt
fits_memory Replay (Some bytes) = replay_memory (replayed bytes)
fits_memory (Gen seed size) left = tt
fits_memory (Trial seed size) left = tt

pub complete_told : (asked : Option Job) (s : Streams) (status : Status) → Answers asked s status → IsComplete asked s status
complete_told asked s status h job is reads_well writes_well = by status (of_job asked job s status is h)
  where
    by : (t : Status) → AnswersJob job s t → Fits job s.left_before t
    by Done said = fits_done job s.left_before said.1.0 said.1.1.0
    by BadWords said = absurd said
    by (BadScript line kind) said = fits_script job s.left_before line kind said.0 said.2
    by (BadStream line kind) said =
        subst (λ (j : Job). Fits j s.left_before (BadStream line kind)) (sym said.0)
        (fits_stream s.left_before line kind (subst (λ (j : Job). IfSome s.left_before (λ bytes. HasStreamFault j bytes line kind)) said.0 said.2))
    by (Manual name) said =
        subst (λ (j : Job). Fits j s.left_before (Manual name)) (sym said.1)
        (fits_manual said.0 s.left_before name (subst (λ (j : Job). IfSome s.left_before (λ bytes. HasManual j bytes name)) said.1 said.3))
    by ReadFault said = absurd (reads_well said.1)
    by WriteFault said = absurd (writes_well said.2)
    by NoMemory said = fits_memory job s.left_before
