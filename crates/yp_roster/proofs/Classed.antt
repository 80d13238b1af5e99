-- The classes of slots, and the records and the steps of classes.
use Rattle.std.proofs.Common.{◌≡◌, ℕ, zero, suc, ◌+◌, ◌<◌, ◌≤◌, refl, sym, ap, subst, ◌∙◌, Bool, true, List, [], ◌∷◌, ◌++◌, map, length, take, drop, get_or, Some, arith}
use Rattle.std.specs.Prelude.{slice_set, ◌||◌}
use Rattle.std.specs.List.{AllByRecursion, slice_get}
use Rattle.std.proofs.lemmas.Bool.{or_right}
use Rattle.std.proofs.lemmas.List.{drop_more}
use Rattle.yp_schema.specs.declared.schema.SchemaNode.{SchemaNode}
use Rattle.yp_touch.specs.declared.root.Root.{Root}
use Rattle.yp_journal.specs.History.{JournalState, rules_at}
use Rattle.yp_slot.specs.declared.classes.Class.{Class}
use Rattle.yp_roster.specs.declared.roster.Roster.{Roster}
use Rattle.yp_slot.specs.declared.slot.Slot.{Slot}
use Rattle.yp_slot.specs.Classes.{AreClasses, HasClass, IsClassOf, KeepNumbers, Member, look_back, looks_back, member_of}
use Rattle.yp_roster.specs.Ordered.{AreClassedTo, AreClassesOf, HaveClasses}
use Rattle.yp_slot.specs.Records.{AreTold}
use Rattle.yp_roster.specs.Rosters.{AreQuietTo, IsClassed}
use Rattle.yp_roster.specs.Passed.{AreStepsOf}
use Rattle.yp_slot.specs.Steps.{IsStepOf}

-- ---- lists

-- what holds of all that is left holds of the next one, and of all after it
pub next_of : {X : Type 0} (P : X → Type 0) (xs : List X) (i : ℕ) (x : X) → i < length xs → x ≡ get_or xs i x → AllByRecursion P (drop i xs) → P x × AllByRecursion P (drop (i + 1) xs)
next_of P xs i x less is all = subst (AllByRecursion P) (drop_more xs i x less ∙ ap (λ y. y ∷ drop (i + 1) xs) (sym is)) all

-- ---- members

-- what holds of slots as members holds of the one at a place
pub member_there : (P : Member → Type 0) (slots : List Slot) (place : ℕ) (slot : Slot) → AllByRecursion P (map member_of slots) → place < length slots → slot ≡ get_or slots place slot → P (member_of slot)
member_there P [] place slot all within is = absurd (omega (arith, within))
member_there P (first ∷ slots) zero slot all within is = subst (λ (s : Slot). P (member_of s)) (sym is) all.0
member_there P (first ∷ slots) (suc place) slot all within is = member_there P slots place slot all.1 (omega (arith, within)) is

-- another slot at a place that is the same as a member
pub members_put : (slots : List Slot) (place : ℕ) (slot new : Slot) → place < length slots → slot ≡ get_or slots place slot → member_of new ≡ member_of slot → map member_of (slice_set slots place new) ≡ map member_of slots
members_put [] place slot new within is same = absurd (omega (arith, within))
members_put (first ∷ slots) zero slot new within is same = ap (λ (m : Member). m ∷ map member_of slots) (same ∙ ap member_of is)
members_put (first ∷ slots) (suc place) slot new within is same = ap (λ (ms : List Member). member_of first ∷ ms) (members_put slots place slot new (omega (arith, within)) is same)

pub members_joined : (P : Member → Type 0) (slots more : List Slot) → AllByRecursion P (map member_of slots) → AllByRecursion P (map member_of more) → AllByRecursion P (map member_of (slots ++ more))
members_joined P [] more all rest = rest
members_joined P (slot ∷ slots) more all rest = (all.0, members_joined P slots more all.1 rest)

pub members_taken : (P : Member → Type 0) (n : ℕ) (slots : List Slot) → AllByRecursion P (map member_of slots) → AllByRecursion P (map member_of (take n slots))
members_taken P zero [] all = tt
members_taken P zero (slot ∷ slots) all = tt
members_taken P (suc n) [] all = tt
members_taken P (suc n) (slot ∷ slots) all = (all.0, members_taken P n slots all.1)

pub members_dropped : (P : Member → Type 0) (n : ℕ) (slots : List Slot) → AllByRecursion P (map member_of slots) → AllByRecursion P (map member_of (drop n slots))
members_dropped P zero [] all = tt
members_dropped P zero (slot ∷ slots) all = all
members_dropped P (suc n) [] all = tt
members_dropped P (suc n) (slot ∷ slots) all = members_dropped P n slots all.1

-- some slots go
pub members_gone : (P : Member → Type 0) (from to : ℕ) (slots : List Slot) → AllByRecursion P (map member_of slots) → AllByRecursion P (map member_of (take from slots ++ drop to slots))
members_gone P from to slots all = members_joined P (take from slots) (drop to slots) (members_taken P from slots all) (members_dropped P to slots all)

pub put_taken : (slots : List Slot) (place : ℕ) (new : Slot) → place < length slots → take (suc place) (slice_set slots place new) ≡ take place slots ++ new ∷ []
put_taken [] place new within = absurd (omega (arith, within))
put_taken (first ∷ []) zero new within = refl
put_taken (first ∷ (second ∷ slots)) zero new within = refl
put_taken (first ∷ slots) (suc place) new within = ap (λ (those : List Slot). first ∷ those) (put_taken slots place new (omega (arith, within)))

-- ---- the classes of slots

module _ (state : JournalState) where
  pub class_still : (before after : List Class) (member : Member) → KeepNumbers before after → HasClass state before member → HasClass state after member
  class_still before after member keep has = record { class = has.class; there = keep member.class has.class has.there; shared = has.shared }

  -- each has the class that it had, where classes keep their numbers
  pub classes_still : (before after : List Class) (members : List Member) → KeepNumbers before after → AllByRecursion (HasClass state before) members → AllByRecursion (HasClass state after) members
  classes_still before after [] keep have = tt
  classes_still before after (member ∷ members) keep have = (class_still before after member keep have.0, classes_still before after members keep have.1)

  -- slots that are the same as members
  pub same_members : (classes : List Class) (slots new : List Slot) → map member_of new ≡ map member_of slots → HaveClasses state classes slots → HaveClasses state classes new
  same_members classes slots new same have = subst (λ (those : List Member). AllByRecursion (HasClass state classes) those) (sym same) have

module _ (nodes : List SchemaNode) (state : JournalState) where
  -- no slots have no classes
  pub none_classed : (classes : List Class) (slots : List Slot) → classes ≡ [] → slots ≡ [] → AreClassesOf nodes state classes slots
  none_classed classes slots first second =
      subst (λ (those : List Slot). AreClassesOf nodes state classes those) (sym second)
      (subst (λ (those : List Class). AreClassesOf nodes state those []) (sym first) (record { fit = tt; each = tt }))

  -- one slot more, with its class
  pub classed_more : (before after : List Class) (slots : List Slot) (slot : Slot) → KeepNumbers before after → (AreClasses nodes (length state.receivers) before → AreClasses nodes (length state.receivers) after) → HasClass state after (member_of slot)
      → AreClassesOf nodes state before slots → AreClassesOf nodes state after (slots ++ slot ∷ [])
  classed_more before after slots slot keep fit has are = record {
    fit = fit are.fit;
    each = members_joined (HasClass state after) slots (slot ∷ []) (classes_still state before after (map member_of slots) keep are.each) (has, tt);
  }

  pub classed_next : (before after : List Class) (slots : List Slot) (place : ℕ) (new : Slot) → KeepNumbers before after → (AreClasses nodes (length state.receivers) before → AreClasses nodes (length state.receivers) after) → HasClass state after (member_of new) → place < length slots
      → AreClassedTo nodes state before place slots → AreClassedTo nodes state after (place + 1) (slice_set slots place new)
  classed_next before after slots place new keep fit has within are =
      let next : suc place ≡ place + 1 = omega arith in
      subst (λ (n : ℕ). AreClassesOf nodes state after (take n (slice_set slots place new))) next
      (subst (λ (those : List Slot). AreClassesOf nodes state after those) (sym (put_taken slots place new within)) (classed_more before after (take place slots) new keep fit has are))

  -- slots that are the same as members, of the same classes, with records that are theirs
  pub still_classed : (old new : Roster) → map member_of new.slots.items ≡ map member_of old.slots.items → new.classes.all ≡ old.classes.all → AreTold nodes state new.classes.all.items new.classes.told.items → new.looked ≤ length new.slots.items → AreQuietTo state new.looked new.slots.items → IsClassed nodes state old → IsClassed nodes state new
  still_classed old new same all told within quiet classed = record {
    classes = subst (λ (classes : List Class). AreClassesOf nodes state classes new.slots.items) (sym (ap (λ those. those.items) all))
        (record { fit = classed.classes.fit; each = same_members state old.classes.all.items old.slots.items new.slots.items same classed.classes.each });
    told = told;
    within = within;
    quiet = quiet;
  }

-- the receivers and the rules of two states
module _ (nodes : List SchemaNode) (before after : JournalState) (rules : (number : ℕ) → rules_at before number ≡ rules_at after number) where
  pub class_alike : (class : Class) (member : Member) → IsClassOf before class member → IsClassOf after class member
  class_alike class member shares = record { filter = shares.filter; rules = sym (rules class.first) ∙ shares.rules ∙ rules member.receiver; on_change = shares.on_change }

  members_alike : (classes : List Class) (members : List Member) → AllByRecursion (HasClass before classes) members → AllByRecursion (HasClass after classes) members
  members_alike classes [] have = tt
  members_alike classes (member ∷ members) have =
      (record { class = have.0.class; there = have.0.there; shared = class_alike have.0.class member have.0.shared }, members_alike classes members have.1)

  -- the classes of one are those of the other, where users read alike
  pub classes_alike : (classes : List Class) (slots : List Slot) → after.receivers ≡ before.receivers → AreClassesOf nodes before classes slots → AreClassesOf nodes after classes slots
  classes_alike classes slots receivers are = record {
    fit = subst (λ (n : ℕ). AreClasses nodes n classes) (sym (ap length receivers)) are.fit;
    each = members_alike classes (map member_of slots) are.each;
  }

-- ---- the steps of classes

module _ (nodes : List SchemaNode) (before after : JournalState) where
  -- the step of the class of a number
  pub step_there : (classes : List Class) (steps : List (List Root)) (number : ℕ) (class : Class) → AreStepsOf nodes before after classes steps → slice_get classes number ≡ Some class
      → (step : List Root) × (slice_get steps number ≡ Some step) × IsStepOf nodes before after class step
  step_there [] steps number class are there = absurd cc
  step_there (c ∷ classes) [] number class are there = absurd are
  step_there (c ∷ classes) (step ∷ steps) zero class are there =
      let one : c ≡ class = cc in
      (step, refl, subst (λ (those : Class). IsStepOf nodes before after those step) one are.0)
  step_there (c ∷ classes) (step ∷ steps) (suc number) class are there = step_there classes steps number class are.1 there

  -- one class more, with its step
  pub steps_more : (classes : List Class) (steps : List (List Root)) (class : Class) (step : List Root) → AreStepsOf nodes before after classes steps → IsStepOf nodes before after class step
      → AreStepsOf nodes before after (classes ++ class ∷ []) (steps ++ step ∷ [])
  steps_more [] [] class step are is = (is, tt)
  steps_more [] (s ∷ steps) class step are is = absurd are
  steps_more (c ∷ classes) [] class step are is = absurd are
  steps_more (c ∷ classes) (s ∷ steps) class step are is = (are.0, steps_more classes steps class step are.1 is)

-- where one of some classes looks back, they do
pub one_looks_back : (classes : List Class) (i : ℕ) (class : Class) → i < length classes → class ≡ get_or classes i class → looks_back class ≡ true → look_back classes ≡ true
one_looks_back [] i class within is back = absurd (omega (arith, within))
one_looks_back (first ∷ classes) zero class within is back = ap (λ (c : Class). looks_back c || look_back classes) (sym is) ∙ ap (λ (b : Bool). b || look_back classes) back
one_looks_back (first ∷ classes) (suc i) class within is back = or_right (looks_back first) (look_back classes) (one_looks_back classes i class (omega (arith, within)) is back)
