-- The report of a run, as a value and as a text: the replies by position, then for each receiver what it took, where its queue was full and what it holds, and `end`.
use Rattle.std.specs.Prelude.{ℕ, ◌+◌, List, [], ◌∷◌, ◌++◌, map, false, true, Option, Some, None, codes, decimal}
use Rattle.std.specs.List.{flat_map}
use Rattle.serde_json.specs.Data.{Data, boolean, number, unsigned, string, object, Members, no_members, member}
use Rattle.serde_json.specs.Written.{compact_text}
use Rattle.yp_base.specs.declared.row.Row.{Row}
use Rattle.yp_schema.specs.declared.schema.SchemaNode.{SchemaNode}
use Rattle.yp_data_json.specs.Writing.{rows_json}
use Rattle.yp_edit.specs.declared.fault.Tag.{Tag}
use Rattle.yp_edit.specs.declared.fault.Tag.TheVariants.{UnknownElement, InvalidValue, DataMissing, DataExists, TooBig}
use Rattle.yp_journal.specs.declared.entry.Entry.{Entry}
use Rattle.yp_journal.specs.declared.receiver.ReceiverInfo.{ReceiverInfo}
use Rattle.yp_journal.specs.declared.reply.Reply.{Reply}
use Rattle.yp_journal.specs.declared.reply.Reply.TheVariants.{Id, Done, Registry, Edit}
use Rattle.yp_terms.specs.declared.refused.Refused.{Refused}
use Rattle.yp_terms.specs.declared.refused.Refused.TheVariants.{AccessDenied, EncodingUnsupported, DatastoreNotSubscribable, FilterUnsupported, PeriodUnsupported, NoSuchSubscription, OnChangeSyncUnsupported, InvalidTrigger, InvalidId, InvalidReceiver, InsufficientResources, Memory}
use Rattle.yp_receiver.specs.Held.{lines_heard}
use Rattle.yp_attempt.specs.Attempts.{Notification}
use Rattle.yp_attempt.specs.Tracks.{Attempt}
use Rattle.yp_promise.specs.Shown.{Shown, Got, FullAt, shown_of}
use Rattle.yp_hearing.specs.Hearing.{line_for}

-- ---- the value

-- the reply to the command at a position, by its lane and its number there
pub record ReplyLine : Type 0 where
  pub position : ℕ
  pub lane : ℕ
  pub index : ℕ
  pub reply : Reply

-- what is told of a receiver: what it took and where its queue was full, in the order of the offers, and what it holds of each subscription
pub record ReceiverReport : Type 0 where
  pub name : List ℕ
  pub shown : List Shown
  pub trees : List (ℕ × List Row)

-- the replies by position, and what is told of each receiver, in the order of their declaration
pub record Report : Type 0 where
  pub replies : List ReplyLine
  pub receivers : List ReceiverReport

-- the replies of entries, the first of which has this position
abbrev pub reply_lines : ℕ → List Entry → List ReplyLine
reply_lines n [] = []
reply_lines n (entry ∷ entries) = record { position = n; lane = entry.lane; index = entry.index; reply = entry.reply } ∷ reply_lines (n + 1) entries

-- what is told of a receiver of which so many of the accepted packets are taken: what was offered to it, and what it holds by the lines of what it took
abbrev pub told_of : List SchemaNode → ℕ → ReceiverInfo → ℕ → List Attempt → List Notification → ReceiverReport
told_of nodes start receiver taken offered got = record {
  name = receiver.name;
  shown = shown_of taken offered;
  trees = lines_heard nodes [] (map (line_for nodes start) got);
}

-- ---- its text

abbrev pub tag_word : Tag → List ℕ
tag_word UnknownElement = codes "unknown-element"
tag_word InvalidValue = codes "invalid-value"
tag_word DataMissing = codes "data-missing"
tag_word DataExists = codes "data-exists"
tag_word TooBig = codes "too-big"

abbrev pub path_member : Option (List ℕ) → Members
path_member None = no_members
path_member (Some text) = member (codes "path") (string text) no_members

-- the word of a refusal; that memory ran out stands in no reply
abbrev pub refusal_word : Refused → List ℕ
refusal_word AccessDenied = codes "access-denied"
refusal_word EncodingUnsupported = codes "encoding-unsupported"
refusal_word DatastoreNotSubscribable = codes "datastore-not-subscribable"
refusal_word FilterUnsupported = codes "filter-unsupported"
refusal_word (PeriodUnsupported hint) = codes "period-unsupported"
refusal_word (NoSuchSubscription false) = codes "no-such-subscription"
refusal_word (NoSuchSubscription true) = codes "no-such-subscription-resync"
refusal_word OnChangeSyncUnsupported = codes "on-change-sync-unsupported"
refusal_word InvalidTrigger = codes "invalid-value"
refusal_word InvalidId = codes "invalid-value"
refusal_word InvalidReceiver = codes "invalid-value"
refusal_word InsufficientResources = codes "insufficient-resources"
refusal_word Memory = codes "insufficient-resources"

-- what a refusal tells besides: the shortest period, where the one that was asked for is too short (RFC 8641 section 4.4.2), and which member of the command has an invalid value
abbrev pub refusal_member : Refused → Members
refusal_member AccessDenied = no_members
refusal_member EncodingUnsupported = no_members
refusal_member DatastoreNotSubscribable = no_members
refusal_member FilterUnsupported = no_members
refusal_member (PeriodUnsupported hint) = member (codes "period-hint") (number (unsigned hint)) no_members
refusal_member (NoSuchSubscription resync) = no_members
refusal_member OnChangeSyncUnsupported = no_members
refusal_member InvalidTrigger = member (codes "member") (string (codes "trigger")) no_members
refusal_member InvalidId = member (codes "member") (string (codes "id")) no_members
refusal_member InvalidReceiver = member (codes "member") (string (codes "receiver")) no_members
refusal_member InsufficientResources = no_members
refusal_member Memory = no_members

abbrev pub reply_data : Reply → Data
reply_data (Id id) = object (member (codes "id") (number (unsigned id)) no_members)
reply_data Done = object (member (codes "ok") (boolean true) no_members)
reply_data (Registry refusal) = object (member (codes "error") (string (refusal_word refusal)) (refusal_member refusal))
reply_data (Edit edit_id tag path) = object (member (codes "edit-id") (string edit_id) (member (codes "error") (string (tag_word tag)) (path_member path)))

-- the line of a reply
unfoldable pub reply_text : ReplyLine → List ℕ
reply_text line = codes "reply " ++ decimal line.position ++ codes " " ++ decimal line.lane ++ codes " " ++ decimal line.index ++ codes " " ++ compact_text (reply_data line.reply) ++ codes "\n"

-- the line of what is shown of the receiver of this name: a notification that it took, or that its queue was full when something of a subscription was offered at a position
unfoldable pub shown_text : List SchemaNode → ℕ → List ℕ → Shown → List ℕ
shown_text nodes start name (Got n) = codes "to " ++ name ++ codes " " ++ line_for nodes start n ++ codes "\n"
shown_text nodes start name (FullAt sub position) = codes "full " ++ name ++ codes " " ++ decimal sub ++ codes " " ++ decimal position ++ codes "\n"

-- the line of what it holds of a subscription, by id
unfoldable pub tree_text : List SchemaNode → List ℕ → ℕ × List Row → List ℕ
tree_text nodes name tree = codes "tree " ++ name ++ codes " " ++ decimal tree.0 ++ codes " " ++ compact_text (rows_json nodes [] tree.1) ++ codes "\n"

-- the lines of a receiver
abbrev pub receiver_text : List SchemaNode → ℕ → ReceiverReport → List ℕ
receiver_text nodes start receiver = flat_map (shown_text nodes start receiver.name) receiver.shown ++ flat_map (tree_text nodes receiver.name) receiver.trees

-- the text of a report
abbrev pub report_text : List SchemaNode → ℕ → Report → List ℕ
report_text nodes start report = flat_map reply_text report.replies ++ (flat_map (receiver_text nodes start) report.receivers ++ codes "end\n")
