-- The serial run of a journal: one worker serves all receivers, each by a queue of its places; a receiver takes each packet at once, or what its commands take.
use Rattle.std.specs.Prelude.{◌≡◌, ℕ, zero, suc, ◌==◌, List, [], length, Bool, false, Option, Some, None, if◌then◌else◌}
use Rattle.std.specs.List.{slice_get}
use Rattle.yp_schema.specs.declared.schema.SchemaNode.{SchemaNode}
use Rattle.yp_journal.specs.declared.command.Command.{Command}
use Rattle.yp_journal.specs.declared.command.Command.TheVariants.{Tick, Edit, Rules, Establish, Modify, Delete, Kill, Resync, Configure, Reconfigure, Unconfigure, Take}
use Rattle.yp_journal.specs.declared.entry.Entry.{Entry}
use Rattle.yp_journal.specs.declared.receiver.ReceiverInfo.{ReceiverInfo}
use Rattle.yp_journal.specs.History.{first_state, state_of}
use Rattle.yp_attempt.specs.Attempts.{answers_in, replay}
use Rattle.yp_attempt.specs.Runs.{Reaches, first_run, waits}
use Rattle.yp_attempt.specs.Workers.{numbers_of}
use Rattle.yp_serial.specs.DueTicks.{HaveDueTicks}
use Rattle.yp_serial.specs.Posts.{Queueing}
use Rattle.yp_serial.specs.Serial.{Served, Taking, all_offered, serial_run, served_advanced}
use Rattle.yp_moment.specs.Entries.{moment_of, moments_of}
use Rattle.yp_moment.specs.Windows.{recorded}

-- ---- queues

-- how many packets a receiver's queue holds
abbrev pub places_of : Option ReceiverInfo → ℕ
places_of None = 0
places_of (Some receiver) = receiver.places

-- whether it takes each packet at once
abbrev pub takes_itself : Option ReceiverInfo → Bool
takes_itself None = false
takes_itself (Some receiver) = receiver.auto

-- the same of receivers by their numbers, as they are declared
abbrev pub queueing_of : List ReceiverInfo → Queueing
queueing_of receivers = record {
  places = λ number. places_of (slice_get receivers number);
  automatic = λ number. takes_itself (slice_get receivers number);
}

-- ---- takes

-- how many packets a receiver takes at most by a command
abbrev pub taken_by : Command → ℕ → ℕ
taken_by (Tick tick) number = 0
taken_by (Edit patch) number = 0
taken_by (Rules policy) number = 0
taken_by (Establish by ask) number = 0
taken_by (Modify by id amend) number = 0
taken_by (Delete by id) number = 0
taken_by (Kill by id) number = 0
taken_by (Resync by id) number = 0
taken_by (Configure id receivers ask) number = 0
taken_by (Reconfigure id amend) number = 0
taken_by (Unconfigure id) number = 0
taken_by (Take receiver count) number = if receiver == number then count else 0

-- and by an entry
abbrev pub taken_in : Option Entry → ℕ → ℕ
taken_in None number = 0
taken_in (Some entry) number = taken_by entry.command number

-- the entry at a position, from 1 on
abbrev pub entry_at : ℕ → List Entry → Option Entry
entry_at zero entries = None
entry_at (suc n) entries = slice_get entries n

-- what receivers take by the entries of a journal
abbrev pub taking_of : List Entry → Taking
taking_of entries = λ n number. taken_in (entry_at n entries) number

-- ---- the run

-- the numbers of all receivers
abbrev pub all_numbers : List ReceiverInfo → List ℕ
all_numbers receivers = numbers_of 0 1 (length receivers)

-- the serial run of a journal
abbrev pub run_of : List SchemaNode → List ReceiverInfo → List Entry → Served
run_of nodes receivers entries = serial_run recorded (all_numbers receivers) (queueing_of receivers) (taking_of entries) (moments_of nodes receivers entries)

-- where it stands once it took one entry more, before anything is offered
abbrev pub run_entered : List SchemaNode → List ReceiverInfo → List Entry → Entry → Served
run_entered nodes receivers entries entry =
    served_advanced recorded (all_numbers receivers) (λ n number. taken_by entry.command number) (moment_of nodes (state_of nodes (first_state receivers) entries) entry) (run_of nodes receivers entries)

-- a serial run on its way through the offers that come after the last entry of a journal: the entries and the answers so far lead to it, each trigger has its due ticks, and once all is offered it is the run of the journal
pub record IsServing (nodes : List SchemaNode) (receivers : List ReceiverInfo) (entries : List Entry) (served : Served) : Type 0 where
  pub reaches : Reaches recorded (all_numbers receivers) (moments_of nodes receivers entries) (answers_in served.run.done) served.run
  pub ticks : HaveDueTicks served.run.standing.tracks
  pub ends : all_offered recorded (queueing_of receivers) served ≡ run_of nodes receivers entries

-- a serial run is complete: its answers lead over all entries of the journal, and at its end nothing is offered any more
pub record IsComplete (nodes : List SchemaNode) (receivers : List ReceiverInfo) (entries : List Entry) (served : Served) : Type 0 where
  pub all : replay recorded (all_numbers receivers) first_run (moments_of nodes receivers entries) (answers_in served.run.done) ≡ record { run = served.run; rest = []; left = [] }
  pub idle : waits recorded served.run ≡ None
