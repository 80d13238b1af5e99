-- The line of a notification: `{"ietf-restconf:notification":{"eventTime":T,NAME:BODY}}` (RFC 8040 section 6.4, RFC 8641 section 3.7, RFC 8639 section 2.7).
use Rattle.std.specs.Prelude.{ℕ, ◌+◌, List, [], ◌∷◌, Bool, true, false, codes, decimal}
use Rattle.serde_json.specs.Data.{unsigned, Data, null, number, string, array, object, Items, no_items, item, Members, no_members, member}
use Rattle.serde_json.specs.Written.{compact_text}
use Rattle.yp_base.specs.declared.notice.ChangeKind.{ChangeKind}
use Rattle.yp_base.specs.declared.notice.ChangeKind.TheVariants.{Create, Delete, Insert, Move, Replace}
use Rattle.yp_base.specs.declared.notice.Change.{Change}
use Rattle.yp_base.specs.declared.notice.Notice.{Notice}
use Rattle.yp_base.specs.declared.notice.Notice.TheVariants.{Full, Changes, Started, Modified, Suspended, Resumed, Terminated}
use Rattle.yp_schema.specs.declared.schema.SchemaNode.{SchemaNode}
use Rattle.yp_path.specs.Targets.{target_text}
use Rattle.yp_data_json.specs.Writing.{rows_json}
use Rattle.yp_time.specs.Instants.{event_text}

-- ---- change updates (RFC 8072 section 2)

abbrev pub operation_word : ChangeKind → List ℕ
operation_word Create = codes "create"
operation_word Delete = codes "delete"
operation_word Insert = codes "insert"
operation_word Move = codes "move"
operation_word Replace = codes "replace"

-- what is created or replaced carries its value
abbrev pub carries_value : ChangeKind → Bool
carries_value Create = true
carries_value Delete = false
carries_value Insert = false
carries_value Move = false
carries_value Replace = true

abbrev pub value_member : Bool → Data → Members
value_member true value = member (codes "value") value no_members
value_member false value = no_members

-- the edit of a change; edits are counted
abbrev pub edit_data : List SchemaNode → ℕ → Change → Data
edit_data nodes n change = object
    (member (codes "edit-id") (string (decimal n))
    (member (codes "operation") (string (operation_word change.kind))
    (member (codes "target") (string (target_text nodes change.target))
    (value_member (carries_value change.kind) (rows_json nodes change.target change.rows)))))

abbrev pub edits_from : List SchemaNode → ℕ → List Change → Items
edits_from nodes n [] = no_items
edits_from nodes n (change ∷ changes) = item (edit_data nodes n change) (edits_from nodes (n + 1) changes)

-- an update that lacks some changes says so
abbrev pub mark : Bool → Members
mark false = no_members
mark true = member (codes "incomplete-update") (array (item null no_items)) no_members

abbrev pub patch_data : List SchemaNode → ℕ → List Change → Data
patch_data nodes patch_id changes = object (member (codes "yang-patch") (object
    (member (codes "edit") (array (edits_from nodes 1 changes)) (member (codes "patch-id") (string (decimal patch_id)) no_members))) no_members)

-- ---- notices

abbrev pub id_member : ℕ → Members → Members
id_member id more = member (codes "id") (number (unsigned id)) more

abbrev pub reason_member : List ℕ → Members
reason_member reason = member (codes "reason") (string reason) no_members

abbrev pub name_of : Notice → List ℕ
name_of (Full id rows) = codes "ietf-yang-push:push-update"
name_of (Changes id patch_id changes incomplete) = codes "ietf-yang-push:push-change-update"
name_of (Started id) = codes "ietf-subscribed-notifications:subscription-started"
name_of (Modified id) = codes "ietf-subscribed-notifications:subscription-modified"
name_of (Suspended id) = codes "ietf-subscribed-notifications:subscription-suspended"
name_of (Resumed id) = codes "ietf-subscribed-notifications:subscription-resumed"
name_of (Terminated id) = codes "ietf-subscribed-notifications:subscription-terminated"

abbrev pub body_of : List SchemaNode → Notice → Members
body_of nodes (Full id rows) = member (codes "datastore-contents") (rows_json nodes [] rows) (id_member id no_members)
body_of nodes (Changes id patch_id changes incomplete) = member (codes "datastore-changes") (patch_data nodes patch_id changes) (id_member id (mark incomplete))
body_of nodes (Started id) = id_member id no_members
body_of nodes (Modified id) = id_member id no_members
body_of nodes (Suspended id) = id_member id (reason_member (codes "ietf-subscribed-notifications:unsupportable-volume"))
body_of nodes (Resumed id) = id_member id no_members
body_of nodes (Terminated id) = id_member id (reason_member (codes "ietf-subscribed-notifications:no-such-subscription"))

abbrev pub notification_data : List SchemaNode → ℕ → ℕ → Notice → Data
notification_data nodes start tick notice = object (member (codes "ietf-restconf:notification") (object
    (member (codes "eventTime") (string (event_text start tick)) (member (name_of notice) (object (body_of nodes notice)) no_members))) no_members)

-- the line of a notice that was made at a tick
abbrev pub line_of : List SchemaNode → ℕ → ℕ → Notice → List ℕ
line_of nodes start tick notice = compact_text (notification_data nodes start tick notice)
