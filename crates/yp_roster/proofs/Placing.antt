-- Slots at their places, and the tracks that they stand for.
use Rattle.std.proofs.Common.{◌≡◌, ℕ, zero, suc, ◌+◌, ◌<◌, refl, sym, ap, subst, ◌∙◌, List, [], ◌∷◌, ◌++◌, map, length, take, drop, get_or, Option, Some, None, arith, append_assoc, length-append}
use Rattle.std.specs.Prelude.{slice_set}
use Rattle.std.specs.List.{AllByRecursion}
use Rattle.std.proofs.lemmas.List.{length-map}
use Rattle.yp_schema.specs.declared.schema.SchemaNode.{SchemaNode}
use Rattle.yp_feed.specs.declared.item.Item.{Item}
use Rattle.yp_journal.specs.History.{JournalState}
use Rattle.yp_attempt.specs.ListLaws.{all_append}
use Rattle.yp_attempt.specs.Runs.{found_in, first_offer}
use Rattle.yp_attempt.specs.Tracks.{Track, offered_item}
use Rattle.yp_moment.specs.Windows.{recorded}
use Rattle.yp_slot.specs.declared.slot.Looked.{Looked}
use Rattle.yp_slot.specs.declared.slot.Slot.{Slot}
use Rattle.yp_roster.specs.Rosters.{ready_at, IsLookedTo, IsTurnOf}
use Rattle.yp_roster.specs.Ordered.{AreSlotsOf}
use Rattle.yp_slot.specs.Slots.{IsSlotOf, IsLook}

module _ (nodes : List SchemaNode) (state : JournalState) where
  -- there are as many slots as tracks
  pub as_many_slots : (slots : List Slot) (tracks : List Track) → AreSlotsOf nodes state slots tracks → length slots ≡ length tracks
  as_many_slots [] [] are = refl
  as_many_slots [] (track ∷ tracks) are = absurd are
  as_many_slots (slot ∷ slots) [] are = absurd are
  as_many_slots (slot ∷ slots) (track ∷ tracks) are = let rest = as_many_slots slots tracks are.1 in omega (arith, rest)

  -- the slot at a place stands for the track there
  pub slot_there : (done : List Track) (place : ℕ) (slots : List Slot) (track : Track) (more : List Track) (slot : Slot) → length done ≡ place → AreSlotsOf nodes state slots (done ++ track ∷ more) → slot ≡ get_or slots place slot → IsSlotOf nodes state slot track
  slot_there [] zero [] track more slot count are is = absurd are
  slot_there [] zero (first ∷ slots) track more slot count are is = subst (λ (s : Slot). IsSlotOf nodes state s track) (sym is) are.0
  slot_there [] (suc place) slots track more slot count are is = absurd (omega (arith, count))
  slot_there (one ∷ done) zero slots track more slot count are is = absurd (omega (arith, count))
  slot_there (one ∷ done) (suc place) [] track more slot count are is = absurd are
  slot_there (one ∷ done) (suc place) (first ∷ slots) track more slot count are is = slot_there done place slots track more slot (omega (arith, count)) are.1 is

  -- another slot in its place stands for another track there
  pub slot_put : (done : List Track) (place : ℕ) (slots : List Slot) (track other : Track) (more : List Track) (new : Slot) → length done ≡ place → AreSlotsOf nodes state slots (done ++ track ∷ more) → IsSlotOf nodes state new other
      → AreSlotsOf nodes state (slice_set slots place new) (done ++ other ∷ more)
  slot_put [] zero [] track other more new count are is = absurd are
  slot_put [] zero (first ∷ slots) track other more new count are is = (is, are.1)
  slot_put [] (suc place) slots track other more new count are is = absurd (omega (arith, count))
  slot_put (one ∷ done) zero slots track other more new count are is = absurd (omega (arith, count))
  slot_put (one ∷ done) (suc place) [] track other more new count are is = absurd are
  slot_put (one ∷ done) (suc place) (first ∷ slots) track other more new count are is = (are.0, slot_put done place slots track other more new (omega (arith, count)) are.1 is)

  -- without it they stand for the other tracks
  pub slot_gone : (done : List Track) (place : ℕ) (slots : List Slot) (track : Track) (more : List Track) (new : Slot) → length done ≡ place → AreSlotsOf nodes state slots (done ++ track ∷ more)
      → AreSlotsOf nodes state (take place (slice_set slots place new) ++ drop (place + 1) (slice_set slots place new)) (done ++ more)
  slot_gone [] zero [] track more new count are = absurd are
  slot_gone [] zero (first ∷ slots) track more new count are = are.1
  slot_gone [] (suc place) slots track more new count are = absurd (omega (arith, count))
  slot_gone (one ∷ done) zero slots track more new count are = absurd (omega (arith, count))
  slot_gone (one ∷ done) (suc place) [] track more new count are = absurd are
  slot_gone (one ∷ done) (suc place) (first ∷ slots) track more new count are =
      let next : suc place + 1 ≡ suc (place + 1) = omega arith in
      let rest = slot_gone done place slots track more new (omega (arith, count)) are.1 in
      subst (λ (n : ℕ). AreSlotsOf nodes state (first ∷ (take place (slice_set slots place new) ++ drop n (first ∷ slice_set slots place new))) (one ∷ (done ++ more))) (sym next) (are.0, rest)

  -- each slot stands for a track
  pub slot_at : (place : ℕ) (slots : List Slot) (tracks : List Track) (slot : Slot) → AreSlotsOf nodes state slots tracks → place < length slots → slot ≡ get_or slots place slot → (track : Track) × IsSlotOf nodes state slot track
  slot_at place [] tracks slot are within is = absurd (omega (arith, within))
  slot_at zero (first ∷ slots) [] slot are within is = absurd are
  slot_at zero (first ∷ slots) (track ∷ tracks) slot are within is = (track, subst (λ (s : Slot). IsSlotOf nodes state s track) (sym is) are.0)
  slot_at (suc place) (first ∷ slots) [] slot are within is = absurd are
  slot_at (suc place) (first ∷ slots) (track ∷ tracks) slot are within is = slot_at place slots tracks slot are.1 (omega (arith, within)) is

  -- another slot in its place that stands for what it stood for
  pub slot_same : (place : ℕ) (slots : List Slot) (tracks : List Track) (slot new : Slot) → place < length slots → slot ≡ get_or slots place slot → ((track : Track) → IsSlotOf nodes state slot track → IsSlotOf nodes state new track)
      → AreSlotsOf nodes state slots tracks → AreSlotsOf nodes state (slice_set slots place new) tracks
  slot_same place [] tracks slot new within is on are = absurd (omega (arith, within))
  slot_same zero (first ∷ slots) [] slot new within is on are = absurd are
  slot_same zero (first ∷ slots) (track ∷ tracks) slot new within is on are = (on track (subst (λ (s : Slot). IsSlotOf nodes state s track) (sym is) are.0), are.1)
  slot_same (suc place) (first ∷ slots) [] slot new within is on are = absurd are
  slot_same (suc place) (first ∷ slots) (track ∷ tracks) slot new within is on are = (are.0, slot_same place slots tracks slot new (omega (arith, within)) is on are.1)

  -- ---- a look in order

  turn_by : (tracks done more : List Track) (place : ℕ) (slots : List Slot) (slot new : Slot) (found : Looked) → tracks ≡ done ++ more → length done ≡ place → AreSlotsOf nodes state slots (map (ready_at state) done ++ more)
      → AllByRecursion (λ track. offered_item recorded state.stamp track ≡ None) (map (ready_at state) done) → place < length slots → slot ≡ get_or slots place slot → IsLook nodes state (ready_at state) slot new found
      → IsTurnOf nodes state tracks place (slice_set slots place new) found
  turn_by tracks done [] place slots slot new found parts count kept idle within is look =
      let many = as_many_slots slots (map (ready_at state) done ++ []) kept in
      absurd (omega (arith, many, within, count, length-append (map (ready_at state) done) [], length-map done (ready_at state)))
  turn_by tracks done (track ∷ more) place slots slot new found parts count kept idle within is look =
      let there : length (map (ready_at state) done) ≡ place = length-map done (ready_at state) ∙ count in
      let after = look track (slot_there (map (ready_at state) done) place slots track more slot there kept is) in
      record {
        done = done;
        track = track;
        more = more;
        parts = parts;
        count = count;
        kept = slot_put (map (ready_at state) done) place slots track (ready_at state track) more new there kept after.0;
        idle = idle;
        offer = after.1;
      }

  pub turns : (tracks : List Track) (place : ℕ) (slots : List Slot) (slot new : Slot) (found : Looked) → IsLookedTo nodes state tracks place slots → place < length slots → slot ≡ get_or slots place slot → IsLook nodes state (ready_at state) slot new found
      → IsTurnOf nodes state tracks place (slice_set slots place new) found
  turns tracks place slots slot new found looked = turn_by tracks looked.done looked.more place slots slot new found looked.parts looked.count looked.kept looked.idle

  slot_by : (done more : List Track) (place : ℕ) (slots : List Slot) (slot : Slot) → length done ≡ place → AreSlotsOf nodes state slots (map (ready_at state) done ++ more) → place < length slots → slot ≡ get_or slots place slot → (track : Track) × IsSlotOf nodes state slot track
  slot_by done [] place slots slot count kept within is =
      let many = as_many_slots slots (map (ready_at state) done ++ []) kept in
      absurd (omega (arith, many, within, count, length-append (map (ready_at state) done) [], length-map done (ready_at state)))
  slot_by done (track ∷ more) place slots slot count kept within is = (track, slot_there (map (ready_at state) done) place slots track more slot (length-map done (ready_at state) ∙ count) kept is)

  -- the slot whose turn it is stands for a track
  pub turn_slot : (tracks : List Track) (place : ℕ) (slots : List Slot) (slot : Slot) → IsLookedTo nodes state tracks place slots → place < length slots → slot ≡ get_or slots place slot → (track : Track) × IsSlotOf nodes state slot track
  turn_slot tracks place slots slot looked = slot_by looked.done looked.more place slots slot looked.count looked.kept

  -- one that offers nothing is passed
  pub turn_on : (tracks : List Track) (place : ℕ) (slots : List Slot) (found : Looked) → IsTurnOf nodes state tracks place slots found → found.item ≡ None → IsLookedTo nodes state tracks (place + 1) slots
  turn_on tracks place slots found turn none = record {
    done = turn.done ++ turn.track ∷ [];
    more = turn.more;
    parts = turn.parts ∙ sym (append_assoc turn.done (turn.track ∷ []) turn.more);
    count = length-append turn.done (turn.track ∷ []) ∙ ap (λ (n : ℕ). n + 1) turn.count;
    kept = subst (λ (ts : List Track). AreSlotsOf nodes state slots ts) (shift turn.done turn.track turn.more) turn.kept;
    idle = subst (λ (ts : List Track). AllByRecursion (λ track. offered_item recorded state.stamp track ≡ None) ts) (sym (last turn.done turn.track))
        (all_append (λ track. offered_item recorded state.stamp track ≡ None) (map (ready_at state) turn.done) (ready_at state turn.track ∷ []) turn.idle (sym turn.offer.item ∙ none, tt));
  }
    where
      shift : (done : List Track) (track : Track) (more : List Track) → map (ready_at state) done ++ ready_at state track ∷ more ≡ map (ready_at state) (done ++ track ∷ []) ++ more
      shift [] track more = refl
      shift (one ∷ done) track more = ap (λ (ts : List Track). ready_at state one ∷ ts) (shift done track more)

      last : (done : List Track) (track : Track) → map (ready_at state) (done ++ track ∷ []) ≡ map (ready_at state) done ++ ready_at state track ∷ []
      last [] track = refl
      last (one ∷ done) track = ap (λ (ts : List Track). ready_at state one ∷ ts) (last done track)

-- ---- first offers

-- tracks that offer nothing
pub none_offered : (stamp : ℕ) (tracks : List Track) → AllByRecursion (λ track. offered_item recorded stamp track ≡ None) tracks → first_offer recorded stamp tracks ≡ None
none_offered stamp [] idle = refl
none_offered stamp (track ∷ tracks) idle = λ i. found_in (idle.0 i) track tracks (none_offered stamp tracks idle.1 i)

-- tracks of which one offers an item, and those before it nothing
pub first_found : (stamp : ℕ) (before : List Track) (track : Track) (after : List Track) (item : Item) → AllByRecursion (λ other. offered_item recorded stamp other ≡ None) before → offered_item recorded stamp track ≡ Some item
    → first_offer recorded stamp (before ++ track ∷ after) ≡ Some (record { before = before; track = track; item = item; after = after })
first_found stamp [] track after item idle offers = ap (λ (o : Option Item). found_in o track after (first_offer recorded stamp after)) offers
first_found stamp (one ∷ before) track after item idle offers = λ i. found_in (idle.0 i) one (before ++ track ∷ after) (first_found stamp before track after item idle.1 offers i)
