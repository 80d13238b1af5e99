-- What a roster stands for after looks, and after an answer.
use Rattle.std.proofs.Common.{◌≡◌, ℕ, ◌+◌, ◌≤◌, refl, sym, ap, subst, ◌∙◌, Bool, true, false, List, [], ◌∷◌, ◌++◌, map, length, take, drop, Some, arith, length-append, append-nil}
use Rattle.std.specs.Prelude.{if◌then◌else◌, slice_set}
use Rattle.std.proofs.lemmas.List.{length-map}
use Rattle.yp_schema.specs.declared.schema.SchemaNode.{SchemaNode}
use Rattle.yp_feed.specs.declared.item.Item.{Item}
use Rattle.yp_journal.specs.History.{JournalState}
use Rattle.yp_attempt.specs.Content.{Content, IsLawful}
use Rattle.yp_attempt.specs.Moments.{Moment}
use Rattle.yp_attempt.specs.Runs.{Standing, first_offer, unless_ended}
use Rattle.yp_attempt.specs.Tracks.{Answer, Track}
use Rattle.yp_attempt.specs.Workers.{Stands, all_ready, answered_alone, puts, ready}
use Rattle.yp_moment.specs.Windows.{recorded}
use Rattle.yp_roster.specs.declared.roster.Offer.{Offer}
use Rattle.yp_slot.specs.declared.slot.Looked.{Looked}
use Rattle.yp_slot.specs.declared.slot.Slot.{Slot}
use Rattle.yp_roster.specs.Rosters.{ready_at, standing_at, IsFoundAt, IsIdleAt, IsLookedTo, IsRosterAt, IsTurnOf}
use Rattle.yp_roster.specs.Ordered.{AreSlotsOf}
use Rattle.yp_slot.specs.Slots.{IsSlotOf}
use Rattle.yp_roster.proofs.Placing.{as_many_slots, slot_put, slot_gone, none_offered, first_found}

-- the laws of looks and answers that are rested on
pub record LooksChangeNothing : Type 0 where
  pub looks : (c : Content) (receivers : List ℕ) (past : List Moment) (answers : List Answer) (standing : Standing) (tracks : List Track)
      → map (ready c standing.position standing.stamp) tracks ≡ all_ready c standing
      → Stands c receivers past answers standing → Stands c receivers past answers (record standing { tracks = tracks })
  pub looked_twice : (c : Content) → IsLawful c → (n stamp : ℕ) (looked others : List Track)
      → map (ready c n stamp) (map (ready c n stamp) looked ++ others) ≡ map (ready c n stamp) (looked ++ others)

abbrev first_or : Track → List Track → Track
first_or track [] = track
first_or track (first ∷ tracks) = first

module _ (lawful : IsLawful recorded) (laws : LooksChangeNothing) (state : JournalState) where
  -- a second look changes nothing
  pub twice : (track : Track) → ready_at state (ready_at state track) ≡ ready_at state track
  twice track = ap (first_or track) (laws.looked_twice recorded lawful state.position state.stamp (track ∷ []) [])

  -- what was looked at, with others
  again : (done rest others : List Track) → map (ready_at state) rest ≡ map (ready_at state) others → map (ready_at state) (map (ready_at state) done ++ rest) ≡ map (ready_at state) (done ++ others)
  again [] rest others same = same
  again (one ∷ done) rest others same = λ i. twice one i ∷ again done rest others same i

  looked_part : (done rest : List Track) → map (ready_at state) (map (ready_at state) done ++ rest) ≡ map (ready_at state) done ++ map (ready_at state) rest
  looked_part [] rest = refl
  looked_part (one ∷ done) rest = λ i. twice one i ∷ looked_part done rest i

  pub looked_all : (done : List Track) → map (ready_at state) (map (ready_at state) done) ≡ map (ready_at state) done
  looked_all [] = refl
  looked_all (one ∷ done) = λ i. twice one i ∷ looked_all done i

  after_again : (before after : List Track) → map (ready_at state) (before ++ after) ≡ map (ready_at state) (before ++ map (ready_at state) after)
  after_again [] after = sym (looked_all after)
  after_again (one ∷ before) after = ap (λ (ts : List Track). ready_at state one ∷ ts) (after_again before after)

  module _ (nodes : List SchemaNode) (mine : List ℕ) (past : List Moment) (answers : List Answer) where
    -- other tracks that are the same once they are looked at
    pub stands_by : (tracks others : List Track) → map (ready_at state) others ≡ map (ready_at state) tracks → Stands recorded mine past answers (standing_at state tracks) → Stands recorded mine past answers (standing_at state others)
    stands_by tracks others same stands = laws.looks recorded mine past answers (standing_at state tracks) others same stands

    -- the turn of a slot that offers an item
    pub found_at : (before : List Slot) (place : ℕ) (slots : List Slot) (found : Looked) (item : Item) → (roster : IsRosterAt nodes state mine past answers before) → IsTurnOf nodes state roster.tracks place slots found → found.item ≡ Some item
        → IsFoundAt nodes state mine past answers (record { place = place; item = item; changes = found.changes }) slots
    found_at before place slots found item roster turn is =
        let done = map (ready_at state) turn.done in
        let track = ready_at state turn.track in
        let rest : map (ready_at state) (track ∷ turn.more) ≡ map (ready_at state) (turn.track ∷ turn.more) = λ i. twice turn.track i ∷ map (ready_at state) turn.more in
        record {
          before = done;
          track = track;
          after = turn.more;
          stands = stands_by roster.tracks (done ++ track ∷ turn.more) (again turn.done (track ∷ turn.more) (turn.track ∷ turn.more) rest ∙ ap (map (ready_at state)) (sym turn.parts)) roster.stands;
          kept = turn.kept;
          place = length-map turn.done (ready_at state) ∙ turn.count;
          first =
              ap (first_offer recorded state.stamp) (looked_part turn.done (track ∷ turn.more) ∙ ap (λ (t : Track). done ++ t ∷ map (ready_at state) turn.more) (twice turn.track))
              ∙ first_found state.stamp done track (map (ready_at state) turn.more) item turn.idle (sym turn.offer.item ∙ is);
          made = record { item = sym is ∙ turn.offer.item; changes = λ are. turn.offer.changes (is ∙ are); offered = turn.offer.offered };
        }

    nothing_more : (done more : List Track) (slots : List Slot) → AreSlotsOf nodes state slots (map (ready_at state) done ++ more) → length slots ≤ length done → more ≡ []
    nothing_more done [] slots kept past_all = refl
    nothing_more done (track ∷ more) slots kept past_all =
        let many = as_many_slots nodes state slots (map (ready_at state) done ++ track ∷ more) kept in
        absurd (omega (arith, many, past_all, length-append (map (ready_at state) done) (track ∷ more), length-map done (ready_at state)))

    -- all slots were looked at, and none offers anything
    pub idle_at : (before : List Slot) (place : ℕ) (slots : List Slot) → (roster : IsRosterAt nodes state mine past answers before) → IsLookedTo nodes state roster.tracks place slots → length slots ≤ place → IsIdleAt nodes state mine past answers slots
    idle_at before place slots roster looked past_all =
        let done = map (ready_at state) looked.done in
        let none : looked.more ≡ [] = nothing_more looked.done looked.more slots looked.kept (omega (arith, past_all, looked.count)) in
        let all : roster.tracks ≡ looked.done = looked.parts ∙ ap (λ (ts : List Track). looked.done ++ ts) none ∙ append-nil looked.done in
        record {
          tracks = done;
          stands = stands_by roster.tracks done (looked_all looked.done ∙ ap (map (ready_at state)) (sym all)) roster.stands;
          kept = subst (λ (ts : List Track). AreSlotsOf nodes state slots ts) (ap (λ (ts : List Track). done ++ ts) none ∙ append-nil done) looked.kept;
          looked = looked_all looked.done;
          none = none_offered state.stamp done looked.idle;
        }

    -- ---- answers

    module _ (slots : List Slot) (offer : Offer) (answer : Answer) (found : IsFoundAt nodes state mine past answers offer slots)
        (put : Stands recorded mine past (answers ++ answer ∷ []) (puts (record (standing_at state (found.before ++ found.track ∷ found.after)) { tracks = map (ready_at state) (found.before ++ found.track ∷ found.after) }) (record { before = found.before; track = found.track; item = offer.item; after = map (ready_at state) found.after }) answer)) where
      settled_by : (here : List Track) → unless_ended (answered_alone state.position state.stamp found.track offer.item answer) ≡ here
          → Stands recorded mine past (answers ++ answer ∷ []) (standing_at state (found.before ++ (here ++ map (ready_at state) found.after)))
      settled_by here is = subst (λ (ts : List Track). Stands recorded mine past (answers ++ answer ∷ []) (standing_at state (found.before ++ (ts ++ map (ready_at state) found.after)))) is put

      -- the slot goes on
      pub settled_on : (new : Slot) → (answered_alone state.position state.stamp found.track offer.item answer).feed.ended ≡ false → IsSlotOf nodes state new (answered_alone state.position state.stamp found.track offer.item answer)
          → IsRosterAt nodes state mine past (answers ++ answer ∷ []) (slice_set slots offer.place new)
      settled_on new lives is =
          let track = answered_alone state.position state.stamp found.track offer.item answer in
          record {
            tracks = found.before ++ track ∷ found.after;
            stands = laws.looks recorded mine past (answers ++ answer ∷ []) (standing_at state (found.before ++ track ∷ map (ready_at state) found.after)) (found.before ++ track ∷ found.after)
                (one_more found.before track found.after) (settled_by (track ∷ []) (ap (λ (b : Bool). if b then [] else track ∷ []) lives));
            kept = slot_put nodes state found.before offer.place slots found.track track found.after new found.place found.kept is;
          }
        where
          one_more : (before : List Track) (track : Track) (after : List Track) → map (ready_at state) (before ++ track ∷ after) ≡ map (ready_at state) (before ++ track ∷ map (ready_at state) after)
          one_more [] track after = ap (λ (ts : List Track). ready_at state track ∷ ts) (sym (looked_all after))
          one_more (one ∷ before) track after = ap (λ (ts : List Track). ready_at state one ∷ ts) (one_more before track after)

      -- the slot is gone
      pub settled_gone : (new : Slot) (left : List Slot) → (answered_alone state.position state.stamp found.track offer.item answer).feed.ended ≡ true
          → left ≡ take offer.place (slice_set slots offer.place new) ++ drop (offer.place + 1) (slice_set slots offer.place new)
          → IsRosterAt nodes state mine past (answers ++ answer ∷ []) left
      settled_gone new left ends is =
          let track = answered_alone state.position state.stamp found.track offer.item answer in
          record {
            tracks = found.before ++ found.after;
            stands = laws.looks recorded mine past (answers ++ answer ∷ []) (standing_at state (found.before ++ map (ready_at state) found.after)) (found.before ++ found.after)
                (after_again found.before found.after) (settled_by [] (ap (λ (b : Bool). if b then [] else track ∷ []) ends));
            kept = subst (λ (those : List Slot). AreSlotsOf nodes state those (found.before ++ found.after)) (sym is) (slot_gone nodes state found.before offer.place slots found.track found.after new found.place found.kept);
          }
