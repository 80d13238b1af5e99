-- Receivers that take each packet at once, and the worker that serves them (RFC 8639 sections 2.4 and 2.7, RFC 8641 section 3.1).
use Rattle.std.specs.Prelude.{◌≡◌, ℕ, ◌+◌, ◌≤◌, ◌==◌, Bool, true, false, List, [], ◌∷◌, ◌++◌, map}
use Rattle.std.specs.List.{AllByRecursion}
use Rattle.yp_schema.specs.declared.schema.SchemaNode.{SchemaNode}
use Rattle.yp_journal.specs.declared.entry.Entry.{Entry}
use Rattle.yp_journal.specs.declared.receiver.ReceiverInfo.{ReceiverInfo}
use Rattle.yp_queue.specs.declared.packet.Packet.{Packet}
use Rattle.yp_attempt.specs.Attempts.{answers_in, of_receiver, taken_of}
use Rattle.yp_attempt.specs.Runs.{Reaches, Run}
use Rattle.yp_attempt.specs.Tracks.{Attempt, Took}
use Rattle.yp_serial.specs.Weights.{weights}
use Rattle.yp_moment.specs.Entries.{moments_of}
use Rattle.yp_moment.specs.Windows.{recorded}
use Rattle.yp_receiver.specs.Held.{lines_heard}
use Rattle.yp_worker.specs.declared.worker.Worker.{Worker}
use Rattle.yp_worker.specs.Packets.{packet_of}
use Rattle.yp_worker.specs.Workers.{IsIdleWorkerOf, IsWorkerOf}
use Rattle.yp_offer_log.specs.declared.logged.Logged.TheVariants as logs
use Rattle.yp_offer_log.specs.Logs.{logged}
use Rattle.yp_listeners.specs.declared.listener.Listener.{Listener}

-- what a listener has of the attempts of its worker: its log tells of all that are for it, and it holds what the lines tell of all that were accepted
pub record IsListenerOf (nodes : List SchemaNode) (start : ℕ) (done : List Attempt) (listener : Listener) : Type 0 where
  pub log : listener.log.items ≡ map (logged nodes start) (of_receiver listener.receiver done)
  pub heard : listener.heard ≡ lines_heard nodes [] (map (λ n. (packet_of nodes start n.sub n.made).line) (taken_of (of_receiver listener.receiver done)))

-- the numbers of listeners, in order
abbrev pub numbers_in : List Listener → List ℕ
numbers_in listeners = map (λ listener. listener.receiver) listeners

-- a worker has served its listeners: it stands for these entries with the answers of a run, and each listener has what the run offered to it
pub record HasServed (nodes : List SchemaNode) (start : ℕ) (receivers : List ReceiverInfo) (mine : List ℕ) (entries : List Entry) (run : Run) (worker : Worker) (listeners : List Listener) : Type 0 where
  pub stands : IsWorkerOf nodes start receivers mine entries (answers_in run.done) worker
  pub reaches : Reaches recorded mine (moments_of nodes receivers entries) (answers_in run.done) run
  pub each : AllByRecursion (IsListenerOf nodes start run.done) listeners

-- it has, and has nothing to offer
pub record IsServed (nodes : List SchemaNode) (start : ℕ) (receivers : List ReceiverInfo) (mine : List ℕ) (entries : List Entry) (run : Run) (worker : Worker) (listeners : List Listener) : Type 0 where
  pub idle : IsIdleWorkerOf nodes start receivers mine entries (answers_in run.done) worker
  pub reaches : Reaches recorded mine (moments_of nodes receivers entries) (answers_in run.done) run
  pub each : AllByRecursion (IsListenerOf nodes start run.done) listeners

-- a run went on from another by attempts that were all accepted
pub record OnlyTook (before after : Run) : Type 0 where
  pub more : List Attempt
  pub done : after.done ≡ before.done ++ more
  pub took : AllByRecursion (λ a. a.answer ≡ Took) more

-- the worker has served its listeners after an entry more, by attempts that were all accepted
pub record IsServedOn (nodes : List SchemaNode) (start : ℕ) (receivers : List ReceiverInfo) (mine : List ℕ) (entries : List Entry) (before : Run) (worker : Worker) (listeners : List Listener) : Type 0 where
  pub run : Run
  pub only : OnlyTook before run
  pub served : IsServed nodes start receivers mine entries run worker listeners

-- ---- whatever the entries

-- it has served its listeners over some entries, and has nothing to offer
pub record IsReady (nodes : List SchemaNode) (worker : Worker) (listeners : List Listener) : Type 0 where
  pub start : ℕ
  pub receivers : List ReceiverInfo
  pub mine : List ℕ
  pub entries : List Entry
  pub run : Run
  pub served : IsServed nodes start receivers mine entries run worker listeners

-- so it has, and may have something to offer
pub record IsServing (nodes : List SchemaNode) (worker : Worker) (listeners : List Listener) : Type 0 where
  pub start : ℕ
  pub receivers : List ReceiverInfo
  pub mine : List ℕ
  pub entries : List Entry
  pub run : Run
  pub served : HasServed nodes start receivers mine entries run worker listeners

-- ---- packets

-- a listener took a packet: it kept the line, and heard it
pub record HasTaken (nodes : List SchemaNode) (packet : Packet) (before after : Listener) : Type 0 where
  pub receiver : after.receiver ≡ before.receiver
  pub log : after.log.items ≡ before.log.items ++ logs.Line packet.kind packet.line ∷ []
  pub heard : after.heard ≡ lines_heard nodes before.heard (packet.line ∷ [])

-- it took one that is for it, and is as it was before if it is for another
abbrev pub TakesIf : Bool → List SchemaNode → Packet → Listener → Listener → Type 0
TakesIf true nodes packet before after = HasTaken nodes packet before after
TakesIf false nodes packet before after = after ≡ before

-- each listener with a number took a packet, and the others are as they were before
abbrev pub WereGiven : List SchemaNode → ℕ → Packet → List Listener → List Listener → Type 0
WereGiven nodes number packet [] [] = Unit {0}
WereGiven nodes number packet [] (after ∷ afters) = ⊥
WereGiven nodes number packet (before ∷ befores) [] = ⊥
WereGiven nodes number packet (before ∷ befores) (after ∷ afters) = TakesIf (number == before.receiver) nodes packet before after × WereGiven nodes number packet befores afters

-- ---- offers

-- how many offers may still come where a run stands
abbrev pub offers_left : Run → ℕ
offers_left run = weights recorded run.standing.stamp run.standing.tracks

-- at least so many offers came since a run stood there, and all were accepted
pub record GoesOn (nodes : List SchemaNode) (start : ℕ) (receivers : List ReceiverInfo) (mine : List ℕ) (entries : List Entry) (before : Run) (count : ℕ) (worker : Worker) (listeners : List Listener) : Type 0 where
  pub run : Run
  pub only : OnlyTook before run
  pub fewer : offers_left run + count ≤ offers_left before
  pub served : HasServed nodes start receivers mine entries run worker listeners

-- they came and more may come, or nothing is offered any more
abbrev pub GoesOnIf : Bool → List SchemaNode → ℕ → List ReceiverInfo → List ℕ → List Entry → Run → ℕ → Worker → List Listener → Type 0
GoesOnIf true nodes start receivers mine entries before count worker listeners = GoesOn nodes start receivers mine entries before count worker listeners
GoesOnIf false nodes start receivers mine entries before count worker listeners = IsServedOn nodes start receivers mine entries before worker listeners
