-- The classes of slots, and the records and the steps of classes.
use Rattle.std.proofs.Common.{◌≡◌, ℕ, zero, suc, refl, sym, ap, subst, ◌∙◌, List, [], ◌∷◌, ◌++◌, length, get_or, Some}
use Rattle.std.specs.List.{slice_get}
use Rattle.std.proofs.lemmas.Option.{same_Some}
use Rattle.yp_base.specs.declared.notice.Kinds.{Kinds}
use Rattle.yp_base.specs.declared.notice.Change.{Change}
use Rattle.yp_schema.specs.declared.schema.SchemaNode.{SchemaNode}
use Rattle.yp_filter.specs.View.{filter_view}
use Rattle.yp_nacm.specs.Decision.{is_readable}
use Rattle.yp_kept.specs.Selection.{selection}
use Rattle.yp_touch.specs.declared.root.Root.{Root}
use Rattle.yp_touch.specs.Absorbed.{absorbed, recorded as record_of_roots}
use Rattle.yp_journal.specs.History.{JournalState}
use Rattle.yp_attempt.specs.Tracks.{excluded_kinds}
use Rattle.yp_slot.specs.declared.classes.Class.{Class}
use Rattle.yp_slot.specs.declared.records.Told.{Told}
use Rattle.yp_slot.specs.declared.slot.Slot.{Slot}
use Rattle.yp_slot.specs.Classes.{HasClass, IsClassOf, KeepNumbers, member_of}
use Rattle.yp_slot.specs.Records.{IsRecord, IsTold, record_for}
use Rattle.yp_slot.specs.Slots.{record_at}
use Rattle.yp_slot.specs.Steps.{step_of}

-- ---- lists

-- what is added has the next number
pub added_last : {X : Type 0} (xs : List X) (x : X) → slice_get (xs ++ x ∷ []) (length xs) ≡ Some x
added_last [] x = refl
added_last (y ∷ xs) x = added_last xs x

-- the one at a place
pub was_there : {X : Type 0} (xs : List X) (i : ℕ) (x y : X) → x ≡ get_or xs i x → slice_get xs i ≡ Some y → x ≡ y
was_there [] i x y is there = absurd cc
was_there (z ∷ xs) zero x y is there = let one : z ≡ y = cc in is ∙ one
was_there (z ∷ xs) (suc i) x y is there = was_there xs i x y is there

-- what was there keeps its place where one is added
pub keep_more : (classes : List Class) (class : Class) → KeepNumbers classes (classes ++ class ∷ [])
keep_more [] class number other there = absurd cc
keep_more (c ∷ classes) class zero other there = there
keep_more (c ∷ classes) class (suc number) other there = keep_more classes class number other there

-- ---- the records of classes

-- the record of a class is that of each of its slots with the same places, without the same kinds of edits
pub record_shared : (nodes : List SchemaNode) (state : JournalState) (class : Class) (slot : Slot) (excluded : Kinds) (roots : List Root) → IsClassOf state class (member_of slot)
    → record_for nodes state (filter_view class.filter) class.first excluded roots ≡ record_for nodes state (filter_view slot.filter) slot.feed.receiver excluded roots
record_shared nodes state class slot excluded roots shares = λ i. record_of_roots excluded roots (selection nodes (shares.filter i) (λ path. is_readable nodes (shares.rules i) path) state.rows)

-- a record that a class was told is that of a slot of it with the same places, without the same kinds of edits
module _ (nodes : List SchemaNode) (state : JournalState) (classes : List Class) (slot : Slot) (has : HasClass state classes (member_of slot)) (one : Told) (number : one.class ≡ slot.class) (kinds : one.excluded ≡ excluded_kinds slot.feed.trigger) (places : one.touched ≡ slot.touched) where
  pub told_again : IsTold nodes state classes one → IsRecord nodes state.position (record_at nodes state slot) one.made
  told_again told =
      let same : told.class ≡ has.class = same_Some told.class has.class (sym told.there ∙ ap (slice_get classes) number ∙ has.there) in
      let made : record_for nodes state (filter_view told.class.filter) told.class.first one.excluded one.touched ≡ record_at nodes state slot =
      (λ i. record_for nodes state (filter_view (same i).filter) (same i).first (kinds i) (places i)) ∙ record_shared nodes state has.class slot (excluded_kinds slot.feed.trigger) slot.touched has.shared in
      subst (λ (changes : List Change). IsRecord nodes state.position changes one.made) made told.record_is

  pub told_first : IsRecord nodes state.position (record_at nodes state slot) one.made → IsTold nodes state classes one
  told_first is =
      let made : record_for nodes state (filter_view has.class.filter) has.class.first one.excluded one.touched ≡ record_at nodes state slot =
      (λ i. record_for nodes state (filter_view has.class.filter) has.class.first (kinds i) (places i)) ∙ record_shared nodes state has.class slot (excluded_kinds slot.feed.trigger) slot.touched has.shared in
      record {
        class = has.class;
        there = ap (slice_get classes) number ∙ has.there;
        record_is = subst (λ (changes : List Change). IsRecord nodes state.position changes one.made) (sym made) is;
      }

-- ---- the steps of classes

-- the step of a class is that of each of its slots
pub step_shared : (nodes : List SchemaNode) (before after : JournalState) (class : Class) (slot : Slot) → IsClassOf after class (member_of slot)
    → step_of nodes before after (filter_view class.filter) class.first ≡ step_of nodes before after (filter_view slot.filter) slot.feed.receiver
step_shared nodes before after class slot shares =
    λ i. absorbed [] (selection nodes (shares.filter i) (λ path. is_readable nodes (shares.rules i) path) before.rows) (selection nodes (shares.filter i) (λ path. is_readable nodes (shares.rules i) path) after.rows)
