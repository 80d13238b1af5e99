-- What is promised of the lines of a receiver however writers, workers and receivers interleave.
use Rattle.std.specs.Prelude.{ℕ, ◌<◌, List, length, take}
use Rattle.std.specs.List.{AllByRecursion}
use Rattle.yp_schema.specs.declared.schema.SchemaNode.{SchemaNode}
use Rattle.yp_journal.specs.declared.entry.Entry.{Entry}
use Rattle.yp_journal.specs.declared.receiver.ReceiverInfo.{ReceiverInfo}
use Rattle.yp_attempt.specs.Runs.{Standing}
use Rattle.yp_promise.specs.Interleaving.{AppendAll, setup_of, world_after}
use Rattle.yp_world.specs.Holding.{AreOf}
use Rattle.yp_world.specs.World.{Delivery, Event}
use Rattle.yp_hearing.specs.Hearing.{IsHeardAsMade, LinesMirror}

-- after these events each line that a receiver took is heard as just the notification that was made; and after the line of each update of a mirrored subscription the tree of the lines' bytes so far is what is selected at the update's position, by the entries that the receiver's worker absorbed
pub record IsHeardAfter (nodes : List SchemaNode) (receivers : List ReceiverInfo) (workers : ℕ) (entries : List Entry) (events : List Event) (receiver start : ℕ) : Type 0 where
  pub delivery : Delivery
  pub standing : Standing
  pub are : AreOf (setup_of receivers workers) (world_after receivers workers events) receiver delivery standing
  pub heard : AllByRecursion (IsHeardAsMade nodes start) delivery.taken
  pub mirrored : LinesMirror nodes receivers (take standing.position entries) receiver start delivery.taken

-- the same of each receiver, by each interleaving of a journal, with one worker or more
abbrev pub EachInterleavingIsHeard : List SchemaNode → List ReceiverInfo → List Entry → ℕ → Type 0
EachInterleavingIsHeard nodes receivers entries start = (workers : ℕ) (events : List Event) → 0 < workers → AppendAll nodes receivers workers entries events
    → (receiver : ℕ) → receiver < length receivers → IsHeardAfter nodes receivers workers entries events receiver start
