-- What is asked of the program: what it reads for it, what it may write, and which faults it tells.
use Rattle.std.specs.Prelude.{◌≡◌, ℕ, List, [], Bool, true, false, ◌∷◌, Option, None, Some, IfSome, Result, Ok, Err, if◌then◌else◌, option_map}
use Rattle.yp_command.specs.declared.fault.ScriptKind.{ScriptKind}
use Rattle.yp_concurrent.specs.Promise.{TellsBeside}
use Rattle.yp_gen.specs.Scripts.{script_text}
use Rattle.yp_journal.specs.declared.receiver.ReceiverInfo.{ReceiverInfo}
use Rattle.yp_live.specs.Promise.{Sums, Tells}
use Rattle.yp_replay.specs.declared.fault.ReplayFault.TheVariants as replays
use Rattle.yp_replay.specs.declared.fault.StreamKind.{StreamKind}
use Rattle.yp_replay.specs.Replay.{replayed}
use Rattle.yp_script.specs.declared.script.Script.{Script}
use Rattle.yp_script.specs.Faults.{LineFault}
use Rattle.yp_script.specs.Script.{script_in}
use Rattle.yp_words.specs.declared.words.Mode.{Mode}
use Rattle.yp_words.specs.declared.words.Mode.TheVariants as modes
use Rattle.yp_words.specs.declared.words.Words.{Words}
use Rattle.yp_words.specs.Words.{words_in}
use Rattle.push_program.specs.declared.job.Job.{Job}
use Rattle.push_program.specs.declared.job.Job.TheVariants.{Run, Live, Replay, Gen, Trial}

-- ---- words

abbrev pub job_of : Mode → Words → Job
job_of modes.Run words = Run
job_of modes.Live words = Live words.workers
job_of modes.Replay words = Replay
job_of modes.Gen words = Gen words.seed words.size
job_of modes.Trial words = Trial words.seed words.size

-- what words ask for, where they are good
abbrev pub job_in : List (List ℕ) → Option Job
job_in words = option_map (λ (said : Words). job_of said.mode said) (words_in words)

-- ---- receivers that take by command

-- the name of the first receiver, in the order of declaration, that takes by command
abbrev pub first_manual : List ReceiverInfo → Option (List ℕ)
first_manual [] = None
first_manual (receiver ∷ receivers) = if receiver.auto then first_manual receivers else Some receiver.name

-- the same of a script that was read
abbrev pub manual_of : Result Script LineFault → Option (List ℕ)
manual_of (Ok script) = first_manual script.receivers
manual_of (Err fault) = None

-- the same of bytes that are a script
abbrev pub manual_in : List ℕ → Option (List ℕ)
manual_in bytes = manual_of (script_in bytes)

-- ---- what a job reads and writes

-- whether it is done by threads
abbrev pub needs_threads : Job → Bool
needs_threads Run = false
needs_threads (Live workers) = true
needs_threads Replay = false
needs_threads (Gen seed size) = false
needs_threads (Trial seed size) = false

-- whether it reads the source
abbrev pub reads : Job → Bool
reads Run = true
reads (Live workers) = true
reads Replay = true
reads (Gen seed size) = false
reads (Trial seed size) = false

-- a text that a job may write, where it reads just these bytes, or none; threads take for receivers that take by themselves alone
abbrev pub IsText : Job → List ℕ → List ℕ → Type 0
IsText Run bytes text = Tells bytes text
IsText (Live workers) bytes text = (manual_in bytes ≡ None) × TellsBeside workers bytes text
IsText Replay bytes text = replayed bytes ≡ Ok text
IsText (Gen seed size) bytes text = text ≡ script_text seed size
IsText (Trial seed size) bytes text = Sums (script_text seed size) text

-- the same by what a source had left, where that is told; a job that doesn't read has its text whatever was left
abbrev pub IsTextOf : Job → Option (List ℕ) → List ℕ → Type 0
IsTextOf Run left text = IfSome left (λ bytes. IsText Run bytes text)
IsTextOf (Live workers) left text = IfSome left (λ bytes. IsText (Live workers) bytes text)
IsTextOf Replay left text = IfSome left (λ bytes. IsText Replay bytes text)
IsTextOf (Gen seed size) left text = IsText (Gen seed size) [] text
IsTextOf (Trial seed size) left text = IsText (Trial seed size) [] text

-- ---- faults of what is read

-- a line of a script, or of the first lines of a stream, has this fault, and is the first with one
abbrev pub HasScriptFault : Job → List ℕ → ℕ → ScriptKind → Type 0
HasScriptFault Run bytes line kind = script_in bytes ≡ Err (record { line = line; kind = kind })
HasScriptFault (Live workers) bytes line kind = script_in bytes ≡ Err (record { line = line; kind = kind })
HasScriptFault Replay bytes line kind = replayed bytes ≡ Err (replays.Script line kind)
HasScriptFault (Gen seed size) bytes line kind = ⊥
HasScriptFault (Trial seed size) bytes line kind = ⊥

-- a notification line of a stream has this fault, and is the first with one
abbrev pub HasStreamFault : Job → List ℕ → ℕ → StreamKind → Type 0
HasStreamFault Run bytes line kind = ⊥
HasStreamFault (Live workers) bytes line kind = ⊥
HasStreamFault Replay bytes line kind = replayed bytes ≡ Err (replays.Stream line kind)
HasStreamFault (Gen seed size) bytes line kind = ⊥
HasStreamFault (Trial seed size) bytes line kind = ⊥

-- a script that is to be run by threads has a receiver that takes by command, and the first of these has this name
abbrev pub HasManual : Job → List ℕ → List ℕ → Type 0
HasManual Run bytes name = ⊥
HasManual (Live workers) bytes name = manual_in bytes ≡ Some name
HasManual Replay bytes name = ⊥
HasManual (Gen seed size) bytes name = ⊥
HasManual (Trial seed size) bytes name = ⊥
