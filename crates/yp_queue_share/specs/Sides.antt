-- What each side of a queue between two threads knows, and what its calls tell.
use Rattle.std.specs.Prelude.{◌≡◌, ℕ, Bool, true, false, List, [], ◌∷◌, ◌++◌, length, Option, Some, None}
use mathlib.Core.Option.{some}
use lib.ListN.{get_elem?}
use Rattle.atomic_table.specs.Seated.{TableId}
use Rattle.yp_base.specs.Counts.{one_more}
use Rattle.yp_queue.specs.declared.packet.Packet.{Packet}
use Rattle.yp_queue.specs.declared.packet.Offered.{Offered}
use Rattle.yp_queue.specs.declared.packet.Offered.TheVariants.{Took, Full}
use Rattle.yp_queue_share.specs.declared.line.Side.{Side}

-- ---- the rule

abbrev pub side : Bool → Bool → List Packet → List Packet → Side
side sends takes sent taken = record { sends = sends; takes = takes; sent = sent; taken = taken }

abbrev pub sends_one : Side → Packet → Side
sends_one v packet = side v.sends v.takes (v.sent ++ packet ∷ []) v.taken

abbrev pub takes_one : Side → Packet → Side
takes_one v packet = side v.sends v.takes v.sent (v.taken ++ packet ∷ [])

-- the one that sends is the first, and knows all that was sent; the one that takes knows all that was taken
pub record Knows (sent taken : List Packet) (taker port : ℕ) (v : Side) : Type 0 where
  pub sends : v.sends ≡ true → (port ≡ 0) × (v.sent ≡ sent)
  pub takes : v.takes ≡ true → (port ≡ taker) × (v.taken ≡ taken)

-- what was taken and what the queue holds are what was sent, in order
pub record AreInOrder (items : List Packet) (sides : List Side) : Type 0 where
  pub all_sent : List Packet
  pub all_taken : List Packet
  pub taker : ℕ
  pub whole : all_sent ≡ all_taken ++ items
  pub known : (port : ℕ) (v : Side) → get_elem? sides port ≡ some v → Knows all_sent all_taken taker port v

-- the last of what was sent
abbrev pub HoldsLast : List Packet → List Packet → Type 0
HoldsLast sent items = (before : List Packet) × (sent ≡ before ++ items)

-- ---- the sender's side

-- of which queue it is, how many packets that holds at most, the packets that it took, and how many it refused
pub record Sending : Type 0 where
  pub queue : TableId
  pub places : ℕ
  pub sent : List Packet
  pub refused : ℕ

-- as many packets as the queue has places could stand there, the last of those that were sent: so many at least were sent. That just these stood there at that moment no value keeps
abbrev pub WasFull : Sending → Type 0
WasFull sending = (items : List Packet) × (length items ≡ sending.places) × HoldsLast sending.sent items

-- what an offer tells
abbrev pub Offers : Sending → Packet → Offered → Sending → Type 0
Offers before packet Took after = after ≡ record before { sent = before.sent ++ packet ∷ [] }
Offers before packet (Full back) after = (back ≡ packet) × (after ≡ record before { refused = one_more before.refused }) × WasFull before

-- ---- the taker's side

-- of which queue it is, and the packets that it gave
pub record Taking : Type 0 where
  pub queue : TableId
  pub taken : List Packet

-- what taking tells
abbrev pub Takes : Taking → Option Packet → Taking → Type 0
Takes before None after = after ≡ before
Takes before (Some packet) after = after ≡ record before { taken = before.taken ++ packet ∷ [] }

-- ---- both sides

-- the sides of one queue for so many packets, before anything was sent
pub record AreFresh (count : ℕ) (sending : Sending) (taking : Taking) : Type 0 where
  pub one : taking.queue ≡ sending.queue
  pub places : sending.places ≡ count
  pub sent : sending.sent ≡ []
  pub refused : sending.refused ≡ 0
  pub taken : taking.taken ≡ []

-- what a queue comes to: its places, what was sent, how many offers it refused, and what was not taken
pub record Ending : Type 0 where
  pub places : ℕ
  pub sent : List Packet
  pub refused : ℕ
  pub rest : List Packet

-- what the two sides of a queue come to
pub record AreDrained (sending : Sending) (taking : Taking) (ending : Ending) : Type 0 where
  pub places : ending.places ≡ sending.places
  pub sent : ending.sent ≡ sending.sent
  pub refused : ending.refused ≡ sending.refused
  pub whole : sending.sent ≡ taking.taken ++ ending.rest
