-- New slots at the place of their subscription's id.
use Rattle.std.proofs.Common.{◌≡◌, ℕ, suc, ◌+◌, ◌≤◌, refl, sym, ap, subst, ◌∙◌, Bool, true, false, not, List, [], ◌∷◌, ◌++◌, map, length, take, drop, arith, Some, None}
use Rattle.std.specs.Prelude.{cond, filter, if◌then◌else◌, nat_le, nat_lt}
use Rattle.std.specs.List.{AllByRecursion, position, position_or_len}
use Rattle.std.proofs.lemmas.Bool.{leb-false, leb-true, lt-ltb, ltb-false}
use Rattle.yp_schema.specs.declared.schema.SchemaNode.{SchemaNode}
use Rattle.yp_feed.specs.Machine.{FeedState}
use Rattle.yp_journal.specs.History.{JournalState}
use Rattle.yp_attempt.specs.Runs.{AreById}
use Rattle.yp_attempt.specs.Tracks.{Track}
use Rattle.yp_slot.specs.declared.classes.Class.{Class}
use Rattle.yp_slot.specs.declared.slot.Slot.{Slot}
use Rattle.yp_slot.specs.Classes.{HasClass, KeepNumbers, member_of}
use Rattle.yp_roster.specs.Ordered.{AreClassesOf, AreSlotsOf}
use Rattle.yp_roster.specs.Passed.{place_from, with_new, with_tracks}
use Rattle.yp_roster.proofs.Begun.{slots_joined}
use Rattle.yp_roster.proofs.Classed.{classes_still, members_dropped, members_joined, members_taken}

-- ---- the first place

pub some_place : {X : Type 0} (test : X → Bool) (xs : List X) (place : ℕ) → position test xs ≡ Some place → place ≡ position_or_len test xs
some_place test xs place found =
    elim (nat_lt (position_or_len test xs) (length xs)) as (λ (is : Bool). nat_lt (position_or_len test xs) (length xs) ≡ is → cond is (Some (position_or_len test xs)) None ≡ Some place → place ≡ position_or_len test xs) [
      | true ↦ λ is there. cc
      | false ↦ λ is there. cc
    ] refl found

pub place_within : {X : Type 0} (test : X → Bool) (xs : List X) → position_or_len test xs ≤ length xs
place_within test [] = omega arith
place_within {X} test (x ∷ xs) = by (test x) (place_within test xs)
  where
    by : (b : Bool) → position_or_len test xs ≤ length xs → cond (not b) (1 + position_or_len test xs) 0 ≤ suc (length xs)
    by true le = omega arith
    by false le = omega (arith, le)

pub no_place : {X : Type 0} (test : X → Bool) (xs : List X) → position test xs ≡ None → length xs ≡ position_or_len test xs
no_place test xs none =
    elim (nat_lt (position_or_len test xs) (length xs)) as (λ (is : Bool). nat_lt (position_or_len test xs) (length xs) ≡ is → cond is (Some (position_or_len test xs)) None ≡ None → length xs ≡ position_or_len test xs) [
      | true ↦ λ is there. cc
      | false ↦ λ is there.
          let past : length xs ≤ position_or_len test xs = ltb-false _ _ is in
          let within = place_within test xs in
          omega (arith, past, within)
    ] refl none

-- ---- slots and tracks there

not_lt : (a b : ℕ) → b ≤ a → nat_lt a b ≡ false
not_lt a b le = grind (arith, le)

-- all tracks from an id on
all_from : (id : ℕ) (low : ℕ) (tracks : List Track) → id ≤ low → AllByRecursion (λ (t : Track). low ≤ t.feed.sub) tracks → (filter (λ (t : Track). nat_lt t.feed.sub id) tracks ≡ []) × (filter (λ (t : Track). not (nat_lt t.feed.sub id)) tracks ≡ tracks)
all_from id low [] le all = (refl, refl)
all_from id low (t ∷ tracks) le all =
    let above : id ≤ t.feed.sub = omega (arith, le, all.0) in
    let none = not_lt t.feed.sub id above in
    let rest = all_from id low tracks le all.1 in (
      ap (λ (b : Bool). if b then t ∷ filter (λ (u : Track). nat_lt u.feed.sub id) tracks else filter (λ (u : Track). nat_lt u.feed.sub id) tracks) none ∙ rest.0,
      ap (λ (b : Bool). if not b then t ∷ filter (λ (u : Track). not (nat_lt u.feed.sub id)) tracks else filter (λ (u : Track). not (nat_lt u.feed.sub id)) tracks) none ∙ ap (λ (ts : List Track). t ∷ ts) rest.1,
    )

module _ (nodes : List SchemaNode) (state : JournalState) (id : ℕ) (new : List Slot) (started : List Track) (begun : AreSlotsOf nodes state new started) where
  -- new slots in their place stand for new tracks there
  pub put_there : (slots : List Slot) (tracks : List Track) → AreById tracks → AreSlotsOf nodes state slots tracks → AreSlotsOf nodes state (with_new id new slots) (with_tracks id started tracks)
  put_there [] [] by_id are = slots_joined nodes state new [] started [] begun tt
  put_there [] (track ∷ tracks) by_id are = absurd are
  put_there (slot ∷ slots) [] by_id are = absurd are
  put_there (slot ∷ slots) (track ∷ tracks) by_id are =
      by (nat_le id slot.feed.sub) refl (put_there slots tracks by_id.1 are.1)
    where
      by : (b : Bool) → nat_le id slot.feed.sub ≡ b → AreSlotsOf nodes state (with_new id new slots) (with_tracks id started tracks)
          → AreSlotsOf nodes state (take (cond (not b) (1 + place_from id slots) 0) (slot ∷ slots) ++ (new ++ drop (cond (not b) (1 + place_from id slots) 0) (slot ∷ slots))) (with_tracks id started (track ∷ tracks))
      by true is rest =
          let above : id ≤ track.feed.sub = subst (λ (f : FeedState). id ≤ f.sub) are.0.feed (leb-true id slot.feed.sub is) in
          let all = all_from id track.feed.sub (track ∷ tracks) above (omega arith, by_id.0) in
          subst (λ (ts : List Track). AreSlotsOf nodes state (new ++ slot ∷ slots) ts) (λ i. sym all.0 i ++ (started ++ sym all.1 i)) (slots_joined nodes state new (slot ∷ slots) started (track ∷ tracks) begun are)
      by false is rest =
          let below : nat_lt track.feed.sub id ≡ true = subst (λ (f : FeedState). nat_lt f.sub id ≡ true) are.0.feed (lt-ltb slot.feed.sub id (leb-false id slot.feed.sub is)) in
          let next : suc (place_from id slots) ≡ 1 + place_from id slots = omega arith in
          let tracks_are : with_tracks id started (track ∷ tracks) ≡ track ∷ with_tracks id started tracks =
          λ i. (if below i then track ∷ filter (λ (t : Track). nat_lt t.feed.sub id) tracks else filter (λ (t : Track). nat_lt t.feed.sub id) tracks)
          ++ (started ++ (if not (below i) then track ∷ filter (λ (t : Track). not (nat_lt t.feed.sub id)) tracks else filter (λ (t : Track). not (nat_lt t.feed.sub id)) tracks)) in
          subst (λ (ts : List Track). AreSlotsOf nodes state (take (1 + place_from id slots) (slot ∷ slots) ++ (new ++ drop (1 + place_from id slots) (slot ∷ slots))) ts) (sym tracks_are)
          (subst (λ (k : ℕ). AreSlotsOf nodes state (take k (slot ∷ slots) ++ (new ++ drop k (slot ∷ slots))) (track ∷ with_tracks id started tracks)) next (are.0, rest))

-- ---- classes

pub put_classed : (nodes : List SchemaNode) (state : JournalState) (before after : List Class) (id : ℕ) (new slots : List Slot) → KeepNumbers before after → AreClassesOf nodes state before slots → AreClassesOf nodes state after new → AreClassesOf nodes state after (with_new id new slots)
put_classed nodes state before after id new slots keep old begun =
    let P = HasClass state after in
    let there : AllByRecursion P (map member_of slots) = classes_still state before after (map member_of slots) keep old.each in
    let place = place_from id slots in
    record {
      fit = begun.fit;
      each = members_joined P (take place slots) (new ++ drop place slots) (members_taken P place slots there) (members_joined P new (drop place slots) begun.each (members_dropped P place slots there));
    }
