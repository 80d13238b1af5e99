-- The bodies of notices in JSON, each of its members and nothing else (RFC 8641 section 3.7, RFC 8639 section 2.7, RFC 8072 section 2).
-- Targets are texts yet and data is JSON yet: `Grammar.antt` reads them.
use Rattle.std.specs.Prelude.{ℕ, ◌-◌, ◌^◌, ◌==◌, ◌&&◌, List, [], ◌∷◌, Bool, true, false, Option, Some, None, option_map, option_and_then, map, if◌then◌else◌, unsigned_abs, codes, decimal}
use Rattle.serde_json.specs.Data.{Data, Items, no_items, item, Members}
use Rattle.serde_json.specs.Events.{members_len}
use Rattle.serde_json.specs.Find.{get_member, as_number, as_u64, as_object, as_array}
use Rattle.yp_value.specs.Json.{text_member, is_null_array}
use Rattle.yp_value.specs.Texts.{below, number_in}
use Rattle.yp_base.specs.Types.{same_text, are_distinct}
use Rattle.yp_decode.specs.declared.edits.Operation.{Operation}
use Rattle.yp_decode.specs.declared.edits.Operation.TheVariants.{Create, Delete, Replace}
use Rattle.yp_decode.specs.declared.envelope.StateChange.{StateChange}
use Rattle.yp_decode.specs.declared.envelope.StateChange.TheVariants.{Started, Modified, Suspended, Resumed, Terminated}
use Rattle.yp_decode.specs.Envelope.{only_in}

-- the number of a subscription, of 32 bits; a float is no whole number
abbrev pub id_in : Members → Option ℕ
id_in ms = option_and_then (below (2 ^ 32)) (option_and_then as_u64 (option_and_then as_number (get_member (codes "id") ms)))

-- ---- full updates

pub record FullBody : Type 0 where
  pub id : ℕ
  pub contents : Data

-- `id` and `datastore-contents`
abbrev pub full_in : Members → Option FullBody
full_in ms =
    if members_len ms == 2
    then option_and_then (λ id. option_map (λ contents. record { id = id; contents = contents }) (get_member (codes "datastore-contents") ms)) (id_in ms)
    else None

-- ---- edits

-- an edit: its id, the text of its target, and what it does there
pub record EditBody : Type 0 where
  pub id : List ℕ
  pub target : List ℕ
  pub operation : Operation Data

-- the operation of a name, with the value that it carries: a publisher creates, deletes and replaces
abbrev pub operation_named : List ℕ → Option Data → Option (Operation Data)
operation_named name value =
    if same_text name (codes "create") then option_map Create value
    else (if same_text name (codes "delete") then Some Delete
    else (if same_text name (codes "replace") then option_map Replace value
    else None))

-- how many members an edit has: `edit-id`, `operation` and `target`, and `value` where one is carried
abbrev pub members_of : {V : Type 0} → Operation V → ℕ
members_of (Create value) = 4
members_of Delete = 3
members_of (Replace value) = 4

abbrev pub operation_in : Members → Option (Operation Data)
operation_in ms = option_and_then (λ name. operation_named name (get_member (codes "value") ms)) (text_member (codes "operation") ms)

-- an edit of so many members, where it has no others
abbrev pub edit_of : ℕ → EditBody → Option EditBody
edit_of count edit = if count == members_of edit.operation then Some edit else None

-- the edit that an object is
abbrev pub edit_in : Members → Option EditBody
edit_in ms =
    option_and_then (λ id. option_and_then (λ target. option_and_then (λ operation.
    edit_of (members_len ms) (record { id = id; target = target; operation = operation }))
    (operation_in ms)) (text_member (codes "target") ms)) (text_member (codes "edit-id") ms)

-- the edits that the items of an array are
abbrev pub edits_in : Items → Option (List EditBody)
edits_in no_items = Some []
edits_in (item json more) = option_and_then (λ edit. option_map (λ edits. edit ∷ edits) (edits_in more)) (option_and_then edit_in (as_object json))

abbrev pub ids_of : List EditBody → List (List ℕ)
ids_of edits = map (λ edit. edit.id) edits

-- edits whose ids are distinct
abbrev pub distinct_edits : List EditBody → Option (List EditBody)
distinct_edits edits = if are_distinct (ids_of edits) then Some edits else None

-- ---- change updates

pub record PatchBody : Type 0 where
  pub id : ℕ
  pub edits : List EditBody

-- the number of 64 bits of which a text is the canonical one: its digits, without a zero in front of others (RFC 7950 section 9.2.2)
abbrev pub canonical_in : List ℕ → Option ℕ
canonical_in text = option_and_then (λ n. if same_text (decimal n) text then Some n else None) (option_map (λ n. unsigned_abs n) (number_in 0 (2 ^ 64 - 1) text))

abbrev pub patch_id_in : Members → Option ℕ
patch_id_in ms = option_and_then canonical_in (text_member (codes "patch-id") ms)

abbrev pub all_edits_in : Members → Option (List EditBody)
all_edits_in ms = option_and_then distinct_edits (option_and_then edits_in (option_and_then as_array (get_member (codes "edit") ms)))

-- `patch-id` and `edit`
abbrev pub patch_in : Members → Option PatchBody
patch_in ms =
    if members_len ms == 2
    then option_and_then (λ id. option_map (λ edits. record { id = id; edits = edits }) (all_edits_in ms)) (patch_id_in ms)
    else None

pub record ChangesBody : Type 0 where
  pub id : ℕ
  pub patch : PatchBody
  pub incomplete : Bool

-- whether it is marked that changes are missing; the mark is of type empty
abbrev pub is_marked : Option Data → Option Bool
is_marked None = Some false
is_marked (Some json) = if is_null_array json then Some true else None

abbrev pub members_of_changes : Bool → ℕ
members_of_changes false = 2
members_of_changes true = 3

-- the patch that is the one member `yang-patch` of `datastore-changes`
abbrev pub patch_of : Members → Option PatchBody
patch_of ms = option_and_then patch_in (option_and_then (only_in (codes "yang-patch")) (get_member (codes "datastore-changes") ms))

abbrev pub changes_of : ℕ → ChangesBody → Option ChangesBody
changes_of count changes = if count == members_of_changes changes.incomplete then Some changes else None

-- `id` and `datastore-changes`, and `incomplete-update` where changes are missing
abbrev pub changes_in : Members → Option ChangesBody
changes_in ms =
    option_and_then (λ id. option_and_then (λ incomplete. option_and_then (λ patch.
    changes_of (members_len ms) (record { id = id; patch = patch; incomplete = incomplete }))
    (patch_of ms)) (is_marked (get_member (codes "incomplete-update") ms))) (id_in ms)

-- ---- changes of state

-- the reason that a change of state has
abbrev pub reason_of : StateChange → Option (List ℕ)
reason_of Started = None
reason_of Modified = None
reason_of Suspended = Some (codes "ietf-subscribed-notifications:unsupportable-volume")
reason_of Resumed = None
reason_of Terminated = Some (codes "ietf-subscribed-notifications:no-such-subscription")

abbrev pub is_text : List ℕ → Option (List ℕ) → Bool
is_text word None = false
is_text word (Some text) = same_text text word

-- whether there is one member besides `id` where there is a reason, and that is it, and else none
abbrev pub gives_reason : Option (List ℕ) → Members → Bool
gives_reason None ms = members_len ms == 1
gives_reason (Some reason) ms = members_len ms == 2 && is_text reason (text_member (codes "reason") ms)

-- the number of the subscription whose state changed
abbrev pub state_in : StateChange → Members → Option ℕ
state_in state ms = if gives_reason (reason_of state) ms then id_in ms else None
