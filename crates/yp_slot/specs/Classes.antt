-- The classes of slots: what the slots of a class share.
use Rattle.std.specs.Prelude.{◌≡◌, ℕ, ◌<◌, ◌&&◌, List, true, false, Bool, Some}
use Rattle.std.specs.List.{AllByRecursion, list_any, slice_get}
use Rattle.yp_base.specs.declared.notice.Trigger.{Trigger}
use Rattle.yp_schema.specs.declared.schema.SchemaNode.{SchemaNode}
use Rattle.yp_filter.specs.Filters.{Asked, all_rows, of_set}
use Rattle.yp_filter.specs.Fits.{filter_fits}
use Rattle.yp_filter.specs.View.{filter_view}
use Rattle.yp_feed.specs.Machine.{is_on_change}
use Rattle.yp_journal.specs.History.{JournalState, rules_at}
use Rattle.yp_slot.specs.declared.classes.Class.{Class}
use Rattle.yp_slot.specs.declared.slot.Slot.{Slot}

-- ---- classes

-- a class for one of so many receivers: its filter is of the schema
pub record IsClass (nodes : List SchemaNode) (count : ℕ) (class : Class) : Type 0 where
  pub filter : filter_fits nodes (filter_view class.filter) ≡ true
  pub first : class.first < count

abbrev pub AreClasses : List SchemaNode → ℕ → List Class → Type 0
AreClasses nodes count classes = AllByRecursion (IsClass nodes count) classes

-- classes that keep their numbers where others are added
abbrev pub KeepNumbers : List Class → List Class → Type 0
KeepNumbers before after = (number : ℕ) (class : Class) → slice_get before number ≡ Some class → slice_get after number ≡ Some class

-- whether a filter may leave out a row that may be read
abbrev pub is_filtered : Asked → Bool
is_filtered all_rows = false
is_filtered (of_set set) = true

-- whether a class sends on change what a filter selects: to tell what a step moves there, the rows before it are looked at
abbrev pub looks_back : Class → Bool
looks_back class = class.on_change && is_filtered (filter_view class.filter)

-- whether one of some classes does
abbrev pub look_back : List Class → Bool
look_back classes = list_any looks_back classes

-- ---- the slots of classes

-- what a slot is as one of its class: the number of the class, what its filter asks for, the receiver and the trigger
pub record Member : Type 0 where
  pub class : ℕ
  pub asked : Asked
  pub receiver : ℕ
  pub trigger : Trigger

abbrev pub member_of : Slot → Member
member_of slot = record { class = slot.class; asked = filter_view slot.filter; receiver = slot.feed.receiver; trigger = slot.feed.trigger }

-- a class that says what one asks for, under the rules of its receiver's user, and sends on change where it does
pub record IsClassOf (state : JournalState) (class : Class) (member : Member) : Type 0 where
  pub filter : filter_view class.filter ≡ member.asked
  pub rules : rules_at state class.first ≡ rules_at state member.receiver
  pub on_change : class.on_change ≡ is_on_change member.trigger

-- its number is that of such a class
pub record HasClass (state : JournalState) (classes : List Class) (member : Member) : Type 0 where
  pub class : Class
  pub there : slice_get classes member.class ≡ Some class
  pub shared : IsClassOf state class member
