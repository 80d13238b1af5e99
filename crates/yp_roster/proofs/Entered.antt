-- Slots that went on by an entry, one after another.
use Rattle.std.proofs.Common.{◌≡◌, ℕ, zero, suc, ◌+◌, ◌<◌, ◌≤◌, refl, sym, ap, subst, ◌∙◌, Bool, true, false, not, List, [], ◌∷◌, map, length, get_or, arith}
use Rattle.std.specs.Prelude.{◌==◌, filter, if◌then◌else◌, slice_set}
use Rattle.std.specs.List.{AllByRecursion}
use Rattle.yp_schema.specs.declared.schema.SchemaNode.{SchemaNode}
use Rattle.yp_feed.specs.Machine.{FeedState}
use Rattle.yp_patch.specs.declared.patch.Patch.{Patch}
use Rattle.yp_nacm.specs.declared.policy.Policy.{Policy}
use Rattle.yp_journal.specs.declared.command.Command.{Command}
use Rattle.yp_journal.specs.declared.command.Command.TheVariants.{Tick, Edit, Rules, Establish, Modify, Delete, Kill, Resync, Configure, Reconfigure, Unconfigure, Take}
use Rattle.yp_journal.specs.History.{JournalState, next_state, rules_at}
use Rattle.yp_attempt.specs.Moments.{Act, Drops, is_kept_by}
use Rattle.yp_attempt.specs.Tracks.{Track}
use Rattle.yp_slot.specs.declared.following.Entered.{Entered}
use Rattle.yp_slot.specs.declared.slot.Slot.{Slot}
use Rattle.yp_slot.specs.Slots.{IsSlotOf}
use Rattle.yp_slot.specs.Steps.{IsEntered, LeavesSelections, entered_moment, entered_track, touches}
use Rattle.yp_roster.specs.Ordered.{AreSlotsOf}
use Rattle.yp_roster.specs.Passed.{AreEnteredTo}

module _ (e : Entered) (before : JournalState) where
  -- the slot at the place stands for a track still
  pub slot_entered : (place : ℕ) (slots : List Slot) (tracks : List Track) (slot : Slot) → AreEnteredTo e before place slots tracks → place < length slots → slot ≡ get_or slots place slot → (track : Track) × IsSlotOf e.present.schema.now before slot track
  slot_entered zero [] tracks slot are within is = absurd (omega (arith, within))
  slot_entered zero (first ∷ slots) [] slot are within is = absurd are
  slot_entered zero (first ∷ slots) (track ∷ tracks) slot are within is = (track, subst (λ (s : Slot). IsSlotOf e.present.schema.now before s track) (sym is) are.0)
  slot_entered (suc place) [] tracks slot are within is = absurd (omega (arith, within))
  slot_entered (suc place) (first ∷ slots) [] slot are within is = absurd are
  slot_entered (suc place) (first ∷ slots) (track ∷ tracks) slot are within is = slot_entered place slots tracks slot are.1 (omega (arith, within)) is

  entered_next : (P : Track → Type 0) (place : ℕ) (slots : List Slot) (tracks : List Track) (slot new : Slot) → AllByRecursion P tracks → AreEnteredTo e before place slots tracks → place < length slots → slot ≡ get_or slots place slot
      → ((track : Track) → P track → IsSlotOf e.present.schema.now before slot track → IsSlotOf e.present.schema.now e.present.state.now new (entered_track e before track))
      → AreEnteredTo e before (suc place) (slice_set slots place new) tracks
  entered_next P zero [] tracks slot new all are within is on = absurd (omega (arith, within))
  entered_next P zero (first ∷ slots) [] slot new all are within is on = absurd are
  entered_next P zero (first ∷ slots) (track ∷ tracks) slot new all are within is on = (on track all.0 (subst (λ (s : Slot). IsSlotOf e.present.schema.now before s track) (sym is) are.0), are.1)
  entered_next P (suc place) [] tracks slot new all are within is on = absurd (omega (arith, within))
  entered_next P (suc place) (first ∷ slots) [] slot new all are within is on = absurd are
  entered_next P (suc place) (first ∷ slots) (track ∷ tracks) slot new all are within is on = (are.0, entered_next P place slots tracks slot new all.1 are.1 (omega (arith, within)) is on)

  -- one slot more went on, where what holds of all tracks tells how
  pub entered_where : (P : Track → Type 0) (place : ℕ) (slots : List Slot) (tracks : List Track) (slot new : Slot) → AllByRecursion P tracks → AreEnteredTo e before place slots tracks → place < length slots → slot ≡ get_or slots place slot
      → ((track : Track) → P track → IsSlotOf e.present.schema.now before slot track → IsSlotOf e.present.schema.now e.present.state.now new (entered_track e before track))
      → AreEnteredTo e before (place + 1) (slice_set slots place new) tracks
  entered_where P place slots tracks slot new all are within is on =
      let next : suc place ≡ place + 1 = omega arith in
      subst (λ (n : ℕ). AreEnteredTo e before n (slice_set slots place new) tracks) next (entered_next P place slots tracks slot new all are within is on)

  all_units : (tracks : List Track) → AllByRecursion (λ track. Unit {0}) tracks
  all_units [] = tt
  all_units (track ∷ tracks) = (tt, all_units tracks)

  -- one slot more went on
  pub entered_on : (place : ℕ) (slots : List Slot) (tracks : List Track) (slot new : Slot) → AreEnteredTo e before place slots tracks → place < length slots → slot ≡ get_or slots place slot
      → ((track : Track) → IsSlotOf e.present.schema.now before slot track → IsSlotOf e.present.schema.now e.present.state.now new (entered_track e before track))
      → AreEnteredTo e before (place + 1) (slice_set slots place new) tracks
  entered_on place slots tracks slot new are within is on = entered_where (λ track. Unit {0}) place slots tracks slot new (all_units tracks) are within is (λ track _. on track)

  -- all did
  pub entered_all : (place : ℕ) (slots : List Slot) (tracks : List Track) → AreEnteredTo e before place slots tracks → length slots ≤ place → AreSlotsOf e.present.schema.now e.present.state.now slots (map (entered_track e before) tracks)
  entered_all zero [] [] are past_all = tt
  entered_all zero [] (track ∷ tracks) are past_all = absurd are
  entered_all zero (first ∷ slots) tracks are past_all = absurd (omega (arith, past_all))
  entered_all (suc place) [] [] are past_all = tt
  entered_all (suc place) [] (track ∷ tracks) are past_all = absurd are
  entered_all (suc place) (first ∷ slots) [] are past_all = absurd are
  entered_all (suc place) (first ∷ slots) (track ∷ tracks) are past_all = (are.0, entered_all place slots tracks are.1 (omega (arith, past_all)))

-- ---- entries that leave all slots

-- the law of them that is rested on
abbrev pub QuietEntriesLeave : Type 0
QuietEntriesLeave = (e : Entered) (before : JournalState) → LeavesSelections e before → (slot : Slot) (track : Track) → touches (entered_moment e before).act slot.feed.sub ≡ false
    → IsSlotOf e.present.schema.now before slot track → IsSlotOf e.present.schema.now e.present.state.now slot (entered_track e before track)

-- an entry that leaves the rows and the rules, and does nothing to feeds, leaves each slot
pub pass_quietly : QuietEntriesLeave → (e : Entered) (before : JournalState) → LeavesSelections e before → ((id : ℕ) → touches (entered_moment e before).act id ≡ false)
    → (slots : List Slot) (tracks : List Track) → AreSlotsOf e.present.schema.now before slots tracks → AreSlotsOf e.present.schema.now e.present.state.now slots (map (entered_track e before) tracks)
pass_quietly law e before leaves none [] [] are = tt
pass_quietly law e before leaves none [] (track ∷ tracks) are = absurd are
pass_quietly law e before leaves none (slot ∷ slots) [] are = absurd are
pass_quietly law e before leaves none (slot ∷ slots) (track ∷ tracks) are = (law e before leaves slot track (none slot.feed.sub) are.0, pass_quietly law e before leaves none slots tracks are.1)

-- each command but a patch and a policy leaves the rows, and what users may read
unmoved_by : (nodes : List SchemaNode) (before : JournalState) (command : Command) → ((patch : Patch) → command ≡ Edit patch → ⊥) → ((policy : Policy) → command ≡ Rules policy → ⊥)
    → ((next_state nodes before command).rows ≡ before.rows) × ((number : ℕ) → rules_at (next_state nodes before command) number ≡ rules_at before number)
unmoved_by nodes before (Edit patch) no_patch no_rules = absurd (no_patch patch refl)
unmoved_by nodes before (Rules policy) no_patch no_rules = absurd (no_rules policy refl)
unmoved_by nodes before (Tick tick) no_patch no_rules = (refl, λ number. refl)
unmoved_by nodes before (Establish by ask) no_patch no_rules = (refl, λ number. refl)
unmoved_by nodes before (Modify by id amend) no_patch no_rules = (refl, λ number. refl)
unmoved_by nodes before (Delete by id) no_patch no_rules = (refl, λ number. refl)
unmoved_by nodes before (Kill by id) no_patch no_rules = (refl, λ number. refl)
unmoved_by nodes before (Resync by id) no_patch no_rules = (refl, λ number. refl)
unmoved_by nodes before (Configure id names ask) no_patch no_rules = (refl, λ number. refl)
unmoved_by nodes before (Reconfigure id amend) no_patch no_rules = (refl, λ number. refl)
unmoved_by nodes before (Unconfigure id) no_patch no_rules = (refl, λ number. refl)
unmoved_by nodes before (Take receiver count) no_patch no_rules = (refl, λ number. refl)

pub leaves_by : (e : Entered) (before : JournalState) → IsEntered e before → ((patch : Patch) → e.entry.now.command ≡ Edit patch → ⊥) → ((policy : Policy) → e.entry.now.command ≡ Rules policy → ⊥) → LeavesSelections e before
leaves_by e before entered no_patch no_rules =
    let left = unmoved_by e.present.schema.now before e.entry.now.command no_patch no_rules in
    record {
      entered = entered;
      rows = ap (λ (s : JournalState). s.rows) entered.after ∙ left.0;
      rules = λ number. ap (λ (s : JournalState). rules_at s number) entered.after ∙ left.1 number;
    }

-- ---- tracks that an act leaves

-- all of them, where it drops none
pub kept_all : (act : Act) → ((track : Track) → is_kept_by act track ≡ true) → (tracks : List Track) → filter (is_kept_by act) tracks ≡ tracks
kept_all act kept [] = refl
kept_all act kept (track ∷ tracks) = ap (λ (b : Bool). if b then track ∷ filter (is_kept_by act) tracks else filter (is_kept_by act) tracks) (kept track) ∙ ap (λ (ts : List Track). track ∷ ts) (kept_all act kept tracks)

-- those that are left are left
pub all_kept : (act : Act) (tracks : List Track) → AllByRecursion (λ track. is_kept_by act track ≡ true) (filter (is_kept_by act) tracks)
all_kept act [] = tt
all_kept act (track ∷ tracks) = by (is_kept_by act track) refl (all_kept act tracks)
  where
    by : (b : Bool) → is_kept_by act track ≡ b → AllByRecursion (λ other. is_kept_by act other ≡ true) (filter (is_kept_by act) tracks)
        → AllByRecursion (λ other. is_kept_by act other ≡ true) (if b then track ∷ filter (is_kept_by act) tracks else filter (is_kept_by act) tracks)
    by true is rest = (is, rest)
    by false is rest = rest

-- where a subscription is dropped, its slots go with its tracks
pub dropped : (nodes : List SchemaNode) (state : JournalState) (id : ℕ) (slots : List Slot) (tracks : List Track) → AreSlotsOf nodes state slots tracks
    → AreSlotsOf nodes state (filter (λ slot. not (slot.feed.sub == id)) slots) (filter (is_kept_by (Drops id)) tracks)
dropped nodes state id [] [] are = tt
dropped nodes state id [] (track ∷ tracks) are = absurd are
dropped nodes state id (slot ∷ slots) [] are = absurd are
dropped nodes state id (slot ∷ slots) (track ∷ tracks) are =
    subst (λ (b : Bool). AreSlotsOf nodes state (if not (slot.feed.sub == id) then slot ∷ filter (λ other. not (other.feed.sub == id)) slots else filter (λ other. not (other.feed.sub == id)) slots) (if b then track ∷ filter (is_kept_by (Drops id)) tracks else filter (is_kept_by (Drops id)) tracks))
    (ap (λ (f : FeedState). not (f.sub == id)) are.0.feed) (by (not (slot.feed.sub == id)) (dropped nodes state id slots tracks are.1))
  where
    by : (b : Bool) → AreSlotsOf nodes state (filter (λ other. not (other.feed.sub == id)) slots) (filter (is_kept_by (Drops id)) tracks)
        → AreSlotsOf nodes state (if b then slot ∷ filter (λ other. not (other.feed.sub == id)) slots else filter (λ other. not (other.feed.sub == id)) slots) (if b then track ∷ filter (is_kept_by (Drops id)) tracks else filter (is_kept_by (Drops id)) tracks)
    by true rest = (are.0, rest)
    by false rest = rest
