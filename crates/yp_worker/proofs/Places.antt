-- The place of the slot that made an offer.
use Rattle.std.proofs.Common.{◌≡◌, ◌∙◌, sym, ap, subst, ℕ, zero, suc, ◌<◌, List, [], ◌∷◌, ◌++◌, length, get_or, Option, Some, arith}
use Rattle.yp_schema.specs.declared.schema.SchemaNode.{SchemaNode}
use Rattle.yp_journal.specs.History.{JournalState}
use Rattle.yp_attempt.specs.Tracks.{Track}
use Rattle.yp_slot.specs.declared.records.Record.{Record}
use Rattle.yp_roster.specs.declared.roster.Offer.{Offer}
use Rattle.yp_slot.specs.declared.slot.Slot.{Slot}
use Rattle.yp_roster.specs.Ordered.{AreSlotsOf}
use Rattle.yp_slot.specs.Slots.{IsSlotOf}
use Rattle.yp_worker.specs.declared.worker.Out.{Out}

-- a slot is there
pub place_there : (nodes : List SchemaNode) (state : JournalState) (slots : List Slot) (before : List Track) (track : Track) (after : List Track) → AreSlotsOf nodes state slots (before ++ track ∷ after) → length before < length slots
place_there nodes state [] [] track after are = absurd are
place_there nodes state [] (one ∷ before) track after are = absurd are
place_there nodes state (slot ∷ slots) [] track after are = omega arith
place_there nodes state (slot ∷ slots) (one ∷ before) track after are = let less = place_there nodes state slots before track after are.1 in omega (arith, less)

-- the slot at a place stands for the track there
pub slot_at : (nodes : List SchemaNode) (state : JournalState) (before : List Track) (place : ℕ) (slots : List Slot) (track : Track) (after : List Track) (slot : Slot) → length before ≡ place → AreSlotsOf nodes state slots (before ++ track ∷ after) → slot ≡ get_or slots place slot
    → IsSlotOf nodes state slot track
slot_at nodes state [] zero [] track after slot count are is = absurd are
slot_at nodes state [] zero (first ∷ slots) track after slot count are is = subst (λ (s : Slot). IsSlotOf nodes state s track) (sym is) are.0
slot_at nodes state [] (suc place) slots track after slot count are is = absurd (omega (arith, count))
slot_at nodes state (one ∷ before) zero slots track after slot count are is = absurd (omega (arith, count))
slot_at nodes state (one ∷ before) (suc place) [] track after slot count are is = absurd are
slot_at nodes state (one ∷ before) (suc place) (first ∷ slots) track after slot count are is = slot_at nodes state before place slots track after slot (omega (arith, count)) are.1 is

-- what an option has is one thing
pub same_some : {X : Type 0} (o : Option X) (one other : X) → o ≡ Some one → o ≡ Some other → one ≡ other
same_some o one other e f = let both : Some one ≡ Some other = sym e ∙ f in cc

abbrev pub with_out : Option Record → Out → Offer
with_out changes out = record { place = out.place; item = out.item; changes = changes }

-- an offer of which this is out
pub offer_out : (offer : Offer) (out : Out) → (record { place = offer.place; item = offer.item }) ≡ out → offer ≡ with_out offer.changes out
offer_out offer out e = ap (with_out offer.changes) e
