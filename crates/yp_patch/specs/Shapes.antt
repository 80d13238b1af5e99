-- The form of a patch in JSON (RFC 8072 section 3), of members and nothing else.
use Rattle.std.specs.Prelude.{◌≡◌, ℕ, ◌+◌, ◌==◌, ◌&&◌, ◌||◌, List, [], ◌∷◌, Bool, true, false, not, Option, Some, None, is_some, option_map, option_and_then, map, Result, Ok, Err, if◌then◌else◌, codes}
use Rattle.serde_json.specs.Data.{Data, null, boolean, number, string, array, object, Items, no_items, item, Members}
use Rattle.serde_json.specs.Find.{get_member, as_str, as_object, as_array}
use Rattle.serde_json.specs.Events.{members_len}
use Rattle.yp_value.specs.Json.{text_member}
use Rattle.yp_base.specs.Types.{same_text, are_distinct}
use Rattle.yp_patch.specs.declared.fault.PatchFault.{PatchFault}
use Rattle.yp_patch.specs.declared.fault.PatchFault.TheVariants.{Shape, Memory}
use Rattle.yp_patch.specs.declared.patch.EditOp.{EditOp}
use Rattle.yp_patch.specs.declared.patch.EditOp.TheVariants.{Create, Delete, Insert, Merge, Move, Replace, Remove}
use Rattle.yp_patch.specs.declared.patch.Place.{Place}
use Rattle.yp_patch.specs.declared.patch.Place.TheVariants.{Before, After, First, Last}
use Rattle.yp_patch.specs.declared.patch.Edit.{Edit}
use Rattle.yp_patch.specs.declared.patch.Patch.{Patch}

-- ---- what a call answers

-- what is answered is what the reading gives, but where memory ran out
abbrev pub ReadsAs : {X : Type 0} → Result X PatchFault → Option X → Type 0
ReadsAs (Ok x) read = read ≡ Some x
ReadsAs (Err Shape) read = read ≡ None
ReadsAs (Err Memory) read = Unit {0}

-- ---- members

-- a member that may be left out, read where it stands
abbrev pub optional : {X : Type 0} → (Data → Option X) → Option Data → Option (Option X)
optional read None = Some None
optional read (Some d) = option_map (λ x. Some x) (read d)

abbrev pub some_text : List ℕ → Members → Option (Option (List ℕ))
some_text name ms = optional as_str (get_member name ms)

-- one for each that is there
abbrev pub one_if : {X : Type 0} → Option X → ℕ
one_if None = 0
one_if (Some x) = 1

-- ---- edits

-- the operation of this name (RFC 8072 section 2.5)
abbrev pub op_named : List ℕ → Option EditOp
op_named name =
    if same_text name (codes "create") then Some Create else (if same_text name (codes "delete") then Some Delete
    else (if same_text name (codes "insert") then Some Insert else (if same_text name (codes "merge") then Some Merge
    else (if same_text name (codes "move") then Some Move else (if same_text name (codes "replace") then Some Replace
    else (if same_text name (codes "remove") then Some Remove else None))))))

abbrev pub op_in : Members → Option EditOp
op_in ms = option_and_then op_named (text_member (codes "operation") ms)

-- the place of this name
abbrev pub place_named : List ℕ → Option Place
place_named name =
    if same_text name (codes "before") then Some Before else (if same_text name (codes "after") then Some After
    else (if same_text name (codes "first") then Some First else (if same_text name (codes "last") then Some Last else None)))

abbrev pub some_place : Members → Option (Option Place)
some_place ms = optional (λ d. option_and_then place_named (as_str d)) (get_member (codes "where") ms)

-- whether an edit of an operation has a value
abbrev pub has_value : EditOp → Bool
has_value Create = true
has_value Delete = false
has_value Insert = true
has_value Merge = true
has_value Move = false
has_value Replace = true
has_value Remove = false

-- whether it may have a place
abbrev pub may_have_place : EditOp → Bool
may_have_place Create = false
may_have_place Delete = false
may_have_place Insert = true
may_have_place Merge = false
may_have_place Move = true
may_have_place Replace = false
may_have_place Remove = false

-- whether a place is one beside an entry
abbrev pub is_beside : Option Place → Bool
is_beside None = false
is_beside (Some Before) = true
is_beside (Some After) = true
is_beside (Some First) = false
is_beside (Some Last) = false

abbrev pub is_alike : Bool → Bool → Bool
is_alike true b = b
is_alike false b = not b

-- a value exactly when the operation has one, a place only when it may have one, a point exactly when the place is beside an entry
abbrev pub has_parts : Edit → Bool
has_parts edit =
    is_alike (is_some edit.value) (has_value edit.op) && is_alike (is_some edit.point) (is_beside edit.place) && (may_have_place edit.op || not (is_some edit.place))

-- how many members an edit of these parts has
abbrev pub parts_of : Edit → ℕ
parts_of edit = 3 + one_if edit.point + one_if edit.place + one_if edit.value

-- an edit of these parts, where an object of so many members has no others
abbrev pub edit_of : ℕ → Edit → Option Edit
edit_of count edit = if has_parts edit then (if count == parts_of edit then Some edit else None) else None

-- the edit that an object is
abbrev pub edit_in : Members → Option Edit
edit_in ms =
    option_and_then (λ id. option_and_then (λ op. option_and_then (λ target. option_and_then (λ point. option_and_then (λ place.
    edit_of (members_len ms) (record { id = id; op = op; target = target; point = point; place = place; value = get_member (codes "value") ms }))
    (some_place ms)) (some_text (codes "point") ms)) (text_member (codes "target") ms)) (op_in ms)) (text_member (codes "edit-id") ms)

-- the edits that the items of an array are
abbrev pub edits_in : Items → Option (List Edit)
edits_in no_items = Some []
edits_in (item d ds) = option_and_then (λ edit. option_map (λ edits. edit ∷ edits) (edits_in ds)) (option_and_then edit_in (as_object d))

-- ---- patches

abbrev pub ids_of : List Edit → List (List ℕ)
ids_of edits = map (λ edit. edit.id) edits

-- edits whose ids are distinct
abbrev pub distinct : List Edit → Option (List Edit)
distinct edits = if are_distinct (ids_of edits) then Some edits else None

-- the edits that a member is; where it is left out there are none
abbrev pub some_edits : Option Data → Option (List Edit)
some_edits None = Some []
some_edits (Some d) = option_and_then distinct (option_and_then edits_in (as_array d))

-- how many members a patch has that has no others
abbrev pub members_of_patch : Members → ℕ
members_of_patch ms = 1 + one_if (get_member (codes "comment") ms) + one_if (get_member (codes "edit") ms)

-- the patch that an object is
abbrev pub patch_of : Members → Option Patch
patch_of ms =
    option_and_then (λ id. option_and_then (λ comment. option_and_then (λ edits.
    if members_len ms == members_of_patch ms then Some (record { id = id; edits = edits }) else None)
    (some_edits (get_member (codes "edit") ms))) (some_text (codes "comment") ms)) (text_member (codes "patch-id") ms)

-- the members of an object of one member, where that has this name and is an object
abbrev pub sole : List ℕ → Data → Option Members
sole name (object ms) = if members_len ms == 1 then option_and_then as_object (get_member name ms) else None
sole name null = None
sole name (boolean b) = None
sole name (number n) = None
sole name (string s) = None
sole name (array ds) = None

-- the patch that JSON is
abbrev pub patch_in : Data → Option Patch
patch_in d = option_and_then patch_of (sole (codes "ietf-yang-patch:yang-patch") d)
