-- Slots that were looked at and offer nothing.
use Rattle.std.proofs.Common.{◌≡◌, ℕ, zero, suc, ◌+◌, ◌<◌, ◌≤◌, refl, sym, ap, subst, ◌∙◌, List, [], ◌∷◌, ◌++◌, length, take, drop, None, arith}
use Rattle.std.specs.Prelude.{slice_set}
use Rattle.std.specs.List.{AllByRecursion}
use Rattle.yp_schema.specs.declared.schema.SchemaNode.{SchemaNode}
use Rattle.yp_journal.specs.History.{JournalState}
use Rattle.yp_attempt.specs.ListLaws.{all_append}
use Rattle.yp_attempt.specs.Tracks.{Track, offered_item}
use Rattle.yp_moment.specs.Windows.{recorded}
use Rattle.yp_slot.specs.declared.slot.Slot.{Slot}
use Rattle.yp_roster.specs.Rosters.{AreQuietTo, IsLookedTo, ready_at}
use Rattle.yp_slot.specs.Slots.{IsQuiet, IsSlotOf}
use Rattle.yp_roster.specs.Ordered.{AreSlotsOf}
use Rattle.yp_roster.proofs.Classed.{put_taken}

-- the law of quiet slots that is rested on
abbrev pub QuietSlotsWereLookedAt : Type 0
QuietSlotsWereLookedAt = (nodes : List SchemaNode) (state : JournalState) (slot : Slot) (track : Track) → IsQuiet state slot → IsSlotOf nodes state slot track → (ready_at state track ≡ track) × (offered_item recorded state.stamp track ≡ None)

-- the first slots are those that were looked at
pub looked_so_far : QuietSlotsWereLookedAt → (nodes : List SchemaNode) (state : JournalState) (place : ℕ) (slots : List Slot) (tracks : List Track) → place ≤ length slots → AreQuietTo state place slots → AreSlotsOf nodes state slots tracks → IsLookedTo nodes state tracks place slots
looked_so_far law nodes state zero slots tracks within quiet are = record { done = []; more = tracks; parts = refl; count = refl; kept = are; idle = tt }
looked_so_far law nodes state (suc place) [] tracks within quiet are = absurd (omega (arith, within))
looked_so_far law nodes state (suc place) (slot ∷ slots) [] within quiet are = absurd are
looked_so_far law nodes state (suc place) (slot ∷ slots) (track ∷ tracks) within quiet are =
    let rest = looked_so_far law nodes state place slots tracks (omega (arith, within)) quiet.1 are.1 in
    let here = law nodes state slot track quiet.0 are.0 in
    let count = rest.count in
    record {
      done = track ∷ rest.done;
      more = rest.more;
      parts = ap (λ (ts : List Track). track ∷ ts) rest.parts;
      count = omega (arith, count);
      kept = (subst (λ (t : Track). IsSlotOf nodes state slot t) (sym here.0) are.0, rest.kept);
      idle = (ap (offered_item recorded state.stamp) here.0 ∙ here.1, rest.idle);
    }

-- those before a place stay where another is put there
pub put_before : (n : ℕ) (slots : List Slot) (place : ℕ) (new : Slot) → n ≤ place → take n (slice_set slots place new) ≡ take n slots
put_before zero slots place new within = none_taken (slice_set slots place new) ∙ sym (none_taken slots)
  where
    none_taken : (those : List Slot) → take zero those ≡ []
    none_taken [] = refl
    none_taken (slot ∷ those) = refl
put_before (suc n) slots zero new within = absurd (omega (arith, within))
put_before (suc n) [] (suc place) new within = refl
put_before (suc n) (first ∷ slots) (suc place) new within = ap (λ (those : List Slot). first ∷ those) (put_before n slots place new (omega (arith, within)))

-- and where the one there goes
pub gone_before : (n : ℕ) (slots : List Slot) (place : ℕ) → n ≤ place → take n (take place slots ++ drop (suc place) slots) ≡ take n slots
gone_before zero slots place within = none_taken (take place slots ++ drop (suc place) slots) ∙ sym (none_taken slots)
  where
    none_taken : (those : List Slot) → take zero those ≡ []
    none_taken [] = refl
    none_taken (slot ∷ those) = refl
gone_before (suc n) slots zero within = absurd (omega (arith, within))
gone_before (suc n) [] (suc place) within = refl
gone_before (suc n) (first ∷ slots) (suc place) within = ap (λ (those : List Slot). first ∷ those) (gone_before n slots place (omega (arith, within)))

-- fewer of them are quiet too
pub quiet_fewer : (state : JournalState) (n m : ℕ) (slots : List Slot) → n ≤ m → AreQuietTo state m slots → AreQuietTo state n slots
quiet_fewer state zero m [] within quiet = tt
quiet_fewer state zero m (slot ∷ slots) within quiet = tt
quiet_fewer state (suc n) zero slots within quiet = absurd (omega (arith, within))
quiet_fewer state (suc n) (suc m) [] within quiet = tt
quiet_fewer state (suc n) (suc m) (slot ∷ slots) within quiet = (quiet.0, quiet_fewer state n m slots (omega (arith, within)) quiet.1)

-- one more is, at its place
pub quiet_next : (state : JournalState) (slots : List Slot) (place : ℕ) (new : Slot) → place < length slots → IsQuiet state new → AreQuietTo state place slots → AreQuietTo state (place + 1) (slice_set slots place new)
quiet_next state slots place new within is quiet =
    let next : suc place ≡ place + 1 = omega arith in
    subst (λ (n : ℕ). AreQuietTo state n (slice_set slots place new)) next
    (subst (λ (those : List Slot). AllByRecursion (IsQuiet state) those) (sym (put_taken slots place new within)) (all_append (IsQuiet state) (take place slots) (new ∷ []) quiet (is, tt)))

-- none of them are
pub quiet_none : (state : JournalState) (slots : List Slot) → AreQuietTo state 0 slots
quiet_none state [] = tt
quiet_none state (slot ∷ slots) = tt

pub put_length : (slots : List Slot) (place : ℕ) (new : Slot) → length (slice_set slots place new) ≡ length slots
put_length [] zero new = refl
put_length [] (suc place) new = refl
put_length (first ∷ slots) zero new = refl
put_length (first ∷ slots) (suc place) new = let rest = put_length slots place new in omega (arith, rest)
