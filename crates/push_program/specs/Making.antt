-- What a job makes of the bytes that were read for it, and what is answered with it.
use Rattle.std.specs.Prelude.{◌≡◌, ℕ, ◌<◌, ◌≤◌, List, ◌++◌, Option, Some, IfSome, Result, Ok, Err}
use Rattle.yp_io.specs.Causes.{Rose}
use Rattle.yp_io.specs.Whole.{AppendsPrefix}
use Rattle.push_program.specs.declared.fault.NoText.{NoText}
use Rattle.push_program.specs.declared.fault.NoText.TheVariants as reasons
use Rattle.push_program.specs.declared.job.Job.{Job}
use Rattle.push_program.specs.declared.job.Job.TheVariants.{Run, Live, Replay, Gen, Trial}
use Rattle.push_program.specs.declared.top.Status.{Status}
use Rattle.push_program.specs.declared.top.Status.TheVariants.{Done, BadWords, BadScript, BadStream, Manual, ReadFault, WriteFault, NoMemory}
use Rattle.push_program.specs.Jobs.{HasManual, HasScriptFault, HasStreamFault, IsText}

-- threads have a worker to run; a script is drawn with some commands, and not too many
abbrev pub HasSize : Job → Type 0
HasSize Run = Unit {0}
HasSize (Live workers) = 0 < workers
HasSize Replay = Unit {0}
HasSize (Gen seed size) = (1 ≤ size) × (size ≤ 10000)
HasSize (Trial seed size) = (1 ≤ size) × (size ≤ 10000)

-- the text of a job, or why what was read has none
abbrev pub Makes : Job → List ℕ → Result (List ℕ) NoText → Type 0
Makes job bytes (Ok text) = IsText job bytes text
Makes job bytes (Err (reasons.Script line kind)) = HasScriptFault job bytes line kind
Makes job bytes (Err (reasons.Stream line kind)) = HasStreamFault job bytes line kind
Makes job bytes (Err (reasons.Manual name)) = HasManual job bytes name
Makes job bytes (Err reasons.Memory) = Unit {0}

-- how a call ends that has no text
abbrev pub status_of : NoText → Status
status_of (reasons.Script line kind) = BadScript line kind
status_of (reasons.Stream line kind) = BadStream line kind
status_of (reasons.Manual name) = Manual name
status_of reasons.Memory = NoMemory

-- what was written before and after, and the counts of the sink's faults
pub record Writing : Type 0 where
  pub before : Option (List ℕ)
  pub after : Option (List ℕ)
  pub faults_before : ℕ
  pub faults_after : ℕ

abbrev pub LeavesSink : Writing → Type 0
LeavesSink w = (w.after ≡ w.before) × (w.faults_after ≡ w.faults_before)

-- what a status says of a text that was made, or of why there is none
abbrev pub AnswersMade : Result (List ℕ) NoText → Writing → Status → Type 0
AnswersMade (Ok text) w Done = IfSome w.before (λ written. w.after ≡ Some (written ++ text)) × (w.faults_after ≡ w.faults_before)
AnswersMade (Ok text) w WriteFault = IfSome w.before (λ written. AppendsPrefix written w.after text) × Rose w.faults_before w.faults_after
AnswersMade (Ok text) w status = ⊥
AnswersMade (Err reason) w status = (status ≡ status_of reason) × LeavesSink w

-- what a status says of a job, where just these bytes were read for it
abbrev pub AnswersBytes : Job → List ℕ → Writing → Status → Type 0
AnswersBytes job bytes w Done = (text : List ℕ) × (IsText job bytes text × IfSome w.before (λ written. w.after ≡ Some (written ++ text)) × (w.faults_after ≡ w.faults_before))
AnswersBytes job bytes w BadWords = ⊥
AnswersBytes job bytes w (BadScript line kind) = HasScriptFault job bytes line kind × LeavesSink w
AnswersBytes job bytes w (BadStream line kind) = HasStreamFault job bytes line kind × LeavesSink w
AnswersBytes job bytes w (Manual name) = HasManual job bytes name × LeavesSink w
AnswersBytes job bytes w ReadFault = ⊥
AnswersBytes job bytes w WriteFault = (text : List ℕ) × (IsText job bytes text × IfSome w.before (λ written. AppendsPrefix written w.after text) × Rose w.faults_before w.faults_after)
AnswersBytes job bytes w NoMemory = LeavesSink w
