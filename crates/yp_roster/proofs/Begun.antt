-- Slots of a subscription that starts.
use Rattle.std.proofs.Common.{◌≡◌, ℕ, ◌+◌, ◌<◌, refl, sym, ap, subst, ◌∙◌, Bool, true, false, true≢false, ◌||◌, List, [], ◌∷◌, ◌++◌, map, length, drop, get_or, append_assoc, append-nil, ◌≤◌}
use Rattle.std.specs.Prelude.{◌==◌, if◌then◌else◌, filter}
use Rattle.std.specs.List.{AllByRecursion, list_any}
use Rattle.std.proofs.lemmas.Bool.{eqb-true}
use Rattle.std.proofs.lemmas.List.{drop_more, drop_all}
use Rattle.yp_schema.specs.declared.schema.SchemaNode.{SchemaNode}
use Rattle.yp_terms.specs.Terms.{Terms}
use Rattle.yp_journal.specs.History.{JournalState}
use Rattle.yp_attempt.specs.Moments.{Moment, new_track}
use Rattle.yp_attempt.specs.Tracks.{Track}
use Rattle.yp_slot.specs.declared.slot.Slot.{Slot}
use Rattle.yp_roster.specs.Ordered.{AreSlotsOf}
use Rattle.yp_slot.specs.Slots.{IsSlotOf}
use Rattle.yp_roster.specs.Passed.{new_tracks}
use Rattle.yp_slot.specs.Steps.{names_of}

-- a receiver that is named is there
pub named_there : (count receiver : ℕ) (receivers : List ℕ) → AllByRecursion (λ other. other < count) receivers → list_any (λ other. other == receiver) receivers ≡ true → receiver < count
named_there count receiver [] all e = absurd (true≢false (sym e))
named_there count receiver (first ∷ receivers) all e = by (first == receiver) refl e (named_there count receiver receivers all.1)
  where
    by : (b : Bool) → (first == receiver) ≡ b → (b || list_any (λ other. other == receiver) receivers) ≡ true → (list_any (λ other. other == receiver) receivers ≡ true → receiver < count) → receiver < count
    by true is e later = let same : first ≡ receiver = eqb-true first receiver is in subst (λ n. n < count) same all.0
    by false is e later = later e

-- ---- slots one after another

module _ (nodes : List SchemaNode) (state : JournalState) where
  -- slots with others after them
  pub slots_joined : (slots more : List Slot) (tracks others : List Track) → AreSlotsOf nodes state slots tracks → AreSlotsOf nodes state more others → AreSlotsOf nodes state (slots ++ more) (tracks ++ others)
  slots_joined [] more [] others are rest = rest
  slots_joined [] more (track ∷ tracks) others are rest = absurd are
  slots_joined (slot ∷ slots) more [] others are rest = absurd are
  slots_joined (slot ∷ slots) more (track ∷ tracks) others are rest = (are.0, slots_joined slots more tracks others are.1 rest)

  module _ (m : Moment) (n : ℕ) (terms : Terms) where
    -- the slot for a receiver that is named
    pub begun_one : (slots : List Slot) (tracks : List Track) (slot : Slot) (receiver : ℕ) → names_of terms receiver ≡ true → AreSlotsOf nodes state slots tracks → IsSlotOf nodes state slot (new_track m n terms.id terms.trigger terms.configured receiver)
        → AreSlotsOf nodes state (slots ++ slot ∷ []) (tracks ++ new_tracks m n terms (receiver ∷ []))
    begun_one slots tracks slot receiver named are is =
        let one : new_tracks m n terms (receiver ∷ []) ≡ new_track m n terms.id terms.trigger terms.configured receiver ∷ [] =
        ap (λ (b : Bool). map (new_track m n terms.id terms.trigger terms.configured) (if b then receiver ∷ [] else [])) named in
        subst (λ (ts : List Track). AreSlotsOf nodes state (slots ++ slot ∷ []) (tracks ++ ts)) (sym one) (slots_joined slots (slot ∷ []) tracks (new_track m n terms.id terms.trigger terms.configured receiver ∷ []) are (is, tt))

    new_more : (receiver : ℕ) (receivers : List ℕ) → new_tracks m n terms (receiver ∷ receivers) ≡ new_tracks m n terms (receiver ∷ []) ++ new_tracks m n terms receivers
    new_more receiver receivers = by (names_of terms receiver)
      where
        by : (b : Bool) → map (new_track m n terms.id terms.trigger terms.configured) (if b then receiver ∷ filter (names_of terms) receivers else filter (names_of terms) receivers)
            ≡ map (new_track m n terms.id terms.trigger terms.configured) (if b then receiver ∷ [] else []) ++ new_tracks m n terms receivers
        by true = refl
        by false = refl

    -- the slots of so many receivers were added
    pub record IsBegun (mine : List ℕ) (tracks : List Track) (place : ℕ) (slots : List Slot) : Type 0 where
      pub done : List Track
      pub kept : AreSlotsOf nodes state slots (tracks ++ done)
      pub left : done ++ new_tracks m n terms (drop place mine) ≡ new_tracks m n terms mine

    pub begun_none : (mine : List ℕ) (tracks : List Track) (slots : List Slot) → AreSlotsOf nodes state slots tracks → IsBegun mine tracks 0 slots
    begun_none mine tracks slots are = record { done = []; kept = subst (λ (ts : List Track). AreSlotsOf nodes state slots ts) (sym (append-nil tracks)) are; left = refl }

    pub begun_on : (mine : List ℕ) (tracks : List Track) (place : ℕ) (slots new : List Slot) (receiver : ℕ) → (begun : IsBegun mine tracks place slots) → place < length mine → receiver ≡ get_or mine place 0
        → AreSlotsOf nodes state new ((tracks ++ begun.done) ++ new_tracks m n terms (receiver ∷ [])) → IsBegun mine tracks (place + 1) new
    begun_on mine tracks place slots new receiver begun within is are =
        let one = new_tracks m n terms (receiver ∷ []) in
        record {
          done = begun.done ++ one;
          kept = subst (λ (ts : List Track). AreSlotsOf nodes state new ts) (append_assoc tracks begun.done one) are;
          left =
              append_assoc begun.done one (new_tracks m n terms (drop (place + 1) mine))
              ∙ ap (λ (ts : List Track). begun.done ++ ts) (sym (new_more receiver (drop (place + 1) mine)) ∙ ap (new_tracks m n terms) (ap (λ (r : ℕ). r ∷ drop (place + 1) mine) is ∙ sym (drop_more mine place 0 within)))
              ∙ begun.left;
        }

    pub begun_all : (mine : List ℕ) (tracks : List Track) (place : ℕ) (slots : List Slot) → IsBegun mine tracks place slots → length mine ≤ place → AreSlotsOf nodes state slots (tracks ++ new_tracks m n terms mine)
    begun_all mine tracks place slots begun past_all =
        let all : begun.done ≡ new_tracks m n terms mine = sym (append-nil begun.done) ∙ ap (λ (rs : List ℕ). begun.done ++ new_tracks m n terms rs) (sym (drop_all place mine past_all)) ∙ begun.left in
        subst (λ (ts : List Track). AreSlotsOf nodes state slots (tracks ++ ts)) all begun.kept
