-- What a status says of what was asked for, the source and the sink.
use Rattle.std.specs.Prelude.{◌≡◌, ℕ, ◌+◌, List, ◌++◌, drop, Bool, true, false, Option, None, Some, IfSome, Result, Ok, Err}
use Rattle.yp_io.specs.Causes.{Rose}
use Rattle.yp_io.specs.Whole.{AppendsPrefix}
use Rattle.yp_replay.specs.declared.fault.ReplayFault.{ReplayFault}
use Rattle.yp_replay.specs.declared.fault.ReplayFault.TheVariants as replays
use Rattle.yp_replay.specs.Replay.{replayed}
use Rattle.yp_script.specs.declared.script.Script.{Script}
use Rattle.yp_script.specs.Faults.{LineFault}
use Rattle.yp_script.specs.Lines.{byte_limit}
use Rattle.yp_script.specs.Script.{script_in}
use Rattle.push_program.specs.declared.job.Job.{Job}
use Rattle.push_program.specs.declared.job.Job.TheVariants.{Run, Live, Replay, Gen, Trial}
use Rattle.push_program.specs.declared.top.Status.{Status}
use Rattle.push_program.specs.declared.top.Status.TheVariants.{Done, BadWords, BadScript, BadStream, Manual, ReadFault, WriteFault, NoMemory}
use Rattle.push_program.specs.Jobs.{HasManual, HasScriptFault, HasStreamFault, IsTextOf, first_manual, reads}

-- ---- the streams

-- what a call took and gave: what was left before and after, what was written before and after, and the counts of faults
pub record Streams : Type 0 where
  pub left_before : Option (List ℕ)
  pub left_after : Option (List ℕ)
  pub written_before : Option (List ℕ)
  pub written_after : Option (List ℕ)
  pub read_faults_before : ℕ
  pub read_faults_after : ℕ
  pub write_faults_before : ℕ
  pub write_faults_after : ℕ

-- the source was read to its end, or one byte past the most that a script has; that byte is a fault of its line
abbrev pub ReadsAll : Streams → Type 0
ReadsAll s = IfSome s.left_before (λ bytes. s.left_after ≡ Some (drop (byte_limit + 1) bytes)) × (s.read_faults_after ≡ s.read_faults_before)

-- the source is as it was
abbrev pub ReadsNothing : Streams → Type 0
ReadsNothing s = (s.left_after ≡ s.left_before) × (s.read_faults_after ≡ s.read_faults_before)

-- nothing was written
abbrev pub WritesNothing : Streams → Type 0
WritesNothing s = (s.written_after ≡ s.written_before) × (s.write_faults_after ≡ s.write_faults_before)

-- a text of a job was written, whole
abbrev pub WritesText : Job → Option (List ℕ) → Option (List ℕ) → Option (List ℕ) → Type 0
WritesText job left before after = (text : List ℕ) × (IsTextOf job left text × IfSome before (λ written. after ≡ Some (written ++ text)))

-- a prefix of such a text was written
abbrev pub WritesPrefix : Job → Option (List ℕ) → Option (List ℕ) → Option (List ℕ) → Type 0
WritesPrefix job left before after = (text : List ℕ) × (IsTextOf job left text × IfSome before (λ written. AppendsPrefix written after text))

-- ---- the answers

-- what a job reads before it writes
abbrev pub ReadsFor : Job → Streams → Type 0
ReadsFor Run s = ReadsAll s
ReadsFor (Live workers) s = ReadsAll s
ReadsFor Replay s = ReadsAll s
ReadsFor (Gen seed size) s = ReadsNothing s
ReadsFor (Trial seed size) s = ReadsNothing s

-- where memory ran out no read failed, and a job that doesn't read left the source as it was
abbrev pub ReadsSome : Job → Streams → Type 0
ReadsSome Run s = s.read_faults_after ≡ s.read_faults_before
ReadsSome (Live workers) s = s.read_faults_after ≡ s.read_faults_before
ReadsSome Replay s = s.read_faults_after ≡ s.read_faults_before
ReadsSome (Gen seed size) s = ReadsNothing s
ReadsSome (Trial seed size) s = ReadsNothing s

-- what a status says of a job that was done
abbrev pub AnswersJob : Job → Streams → Status → Type 0
AnswersJob job s Done = ReadsFor job s × WritesText job s.left_before s.written_before s.written_after × (s.write_faults_after ≡ s.write_faults_before)
AnswersJob job s BadWords = ⊥
AnswersJob job s (BadScript line kind) = (reads job ≡ true) × ReadsAll s × IfSome s.left_before (λ bytes. HasScriptFault job bytes line kind) × WritesNothing s
AnswersJob job s (BadStream line kind) = (job ≡ Replay) × ReadsAll s × IfSome s.left_before (λ bytes. HasStreamFault job bytes line kind) × WritesNothing s
AnswersJob job s (Manual name) = (workers : ℕ) × (job ≡ Live workers) × ReadsAll s × IfSome s.left_before (λ bytes. HasManual job bytes name) × WritesNothing s
AnswersJob job s ReadFault = (reads job ≡ true) × Rose s.read_faults_before s.read_faults_after × WritesNothing s
AnswersJob job s WriteFault = ReadsFor job s × WritesPrefix job s.left_before s.written_before s.written_after × Rose s.write_faults_before s.write_faults_after
AnswersJob job s NoMemory = ReadsSome job s × WritesNothing s

-- what it says of words that ask for this, or for nothing
abbrev pub Answers : Option Job → Streams → Status → Type 0
Answers None s Done = ⊥
Answers None s BadWords = ReadsNothing s × WritesNothing s
Answers None s (BadScript line kind) = ⊥
Answers None s (BadStream line kind) = ⊥
Answers None s (Manual name) = ⊥
Answers None s ReadFault = ⊥
Answers None s WriteFault = ⊥
Answers None s NoMemory = ReadsNothing s × WritesNothing s
Answers (Some job) s status = AnswersJob job s status

-- ---- what each status tells a caller, clause by clause

-- whether words are bad by a status, by what they ask for; where memory ran out nothing is said of them
abbrev pub TellsWords : Status → Option Job → Type 0
TellsWords Done asked = (job : Job) × (asked ≡ Some job)
TellsWords BadWords asked = asked ≡ None
TellsWords (BadScript line kind) asked = (job : Job) × (asked ≡ Some job) × (reads job ≡ true)
TellsWords (BadStream line kind) asked = asked ≡ Some Replay
TellsWords (Manual name) asked = (workers : ℕ) × (asked ≡ Some (Live workers))
TellsWords ReadFault asked = (job : Job) × (asked ≡ Some job) × (reads job ≡ true)
TellsWords WriteFault asked = (job : Job) × (asked ≡ Some job)
TellsWords NoMemory asked = Unit {0}

-- whether a job read the source to its end, or past the most that a script has, if it reads
abbrev pub tells_whole_reading : Status → Bool
tells_whole_reading Done = true
tells_whole_reading BadWords = false
tells_whole_reading (BadScript line kind) = true
tells_whole_reading (BadStream line kind) = true
tells_whole_reading (Manual name) = true
tells_whole_reading ReadFault = false
tells_whole_reading WriteFault = true
tells_whole_reading NoMemory = false

-- the count of the source's faults rose at ReadFault, and there alone
abbrev pub TellsReading : Status → ℕ → ℕ → Type 0
TellsReading Done before now = now ≡ before
TellsReading BadWords before now = now ≡ before
TellsReading (BadScript line kind) before now = now ≡ before
TellsReading (BadStream line kind) before now = now ≡ before
TellsReading (Manual name) before now = now ≡ before
TellsReading ReadFault before now = Rose before now
TellsReading WriteFault before now = now ≡ before
TellsReading NoMemory before now = now ≡ before

-- the count of the sink's faults rose at WriteFault, and there alone
abbrev pub TellsWriting : Status → ℕ → ℕ → Type 0
TellsWriting Done before now = now ≡ before
TellsWriting BadWords before now = now ≡ before
TellsWriting (BadScript line kind) before now = now ≡ before
TellsWriting (BadStream line kind) before now = now ≡ before
TellsWriting (Manual name) before now = now ≡ before
TellsWriting ReadFault before now = now ≡ before
TellsWriting WriteFault before now = Rose before now
TellsWriting NoMemory before now = now ≡ before

-- whether nothing was written
abbrev pub tells_no_writing : Status → Bool
tells_no_writing Done = false
tells_no_writing BadWords = true
tells_no_writing (BadScript line kind) = true
tells_no_writing (BadStream line kind) = true
tells_no_writing (Manual name) = true
tells_no_writing ReadFault = true
tells_no_writing WriteFault = false
tells_no_writing NoMemory = true

-- a count that did not rise
abbrev pub Stays : ℕ → ℕ → Type 0
Stays before now = Rose before now → ⊥

-- ---- completeness

-- the script of these bytes was run, or its first fault was told, unless memory ran out
abbrev pub FitsScript : Result Script LineFault → Status → Type 0
FitsScript (Ok script) Done = Unit {0}
FitsScript (Ok script) NoMemory = Unit {0}
FitsScript (Err fault) (BadScript line kind) = fault ≡ record { line = line; kind = kind }
FitsScript (Err fault) NoMemory = Unit {0}
FitsScript read status = ⊥

-- the same of a script that was to be run by threads; where one of its receivers takes by command, the first of these was told, and nothing was run
abbrev pub FitsLive : Result Script LineFault → Status → Type 0
FitsLive (Ok script) Done = first_manual script.receivers ≡ None
FitsLive (Ok script) (Manual name) = first_manual script.receivers ≡ Some name
FitsLive (Ok script) NoMemory = Unit {0}
FitsLive (Err fault) (BadScript line kind) = fault ≡ record { line = line; kind = kind }
FitsLive (Err fault) NoMemory = Unit {0}
FitsLive read status = ⊥

-- the same of a stream that was replayed
abbrev pub FitsReplay : Result (List ℕ) ReplayFault → Status → Type 0
FitsReplay (Ok text) Done = Unit {0}
FitsReplay (Ok text) NoMemory = Unit {0}
FitsReplay (Err (replays.Script line kind)) (BadScript there other) = (there ≡ line) × (other ≡ kind)
FitsReplay (Err (replays.Stream line kind)) (BadStream there other) = (there ≡ line) × (other ≡ kind)
FitsReplay (Err fault) NoMemory = Unit {0}
FitsReplay read status = ⊥

-- what needs no reading was written, unless memory ran out
abbrev pub IsDone : Status → Type 0
IsDone Done = Unit {0}
IsDone NoMemory = Unit {0}
IsDone status = ⊥

abbrev pub Fits : Job → Option (List ℕ) → Status → Type 0
Fits Run left status = IfSome left (λ bytes. FitsScript (script_in bytes) status)
Fits (Live workers) left status = IfSome left (λ bytes. FitsLive (script_in bytes) status)
Fits Replay left status = IfSome left (λ bytes. FitsReplay (replayed bytes) status)
Fits (Gen seed size) left status = IsDone status
Fits (Trial seed size) left status = IsDone status

-- good words, and no fault of source or sink: the answer is that of the job and of the bytes, where these are told
abbrev pub IsComplete : Option Job → Streams → Status → Type 0
IsComplete asked s status = (job : Job) → asked ≡ Some job → Stays s.read_faults_before s.read_faults_after → Stays s.write_faults_before s.write_faults_after → Fits job s.left_before status
