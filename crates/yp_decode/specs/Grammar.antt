-- What a line tells, or its fault. Faults are looked for over the whole line in the order of their kinds, so the least kind of fault that it has is told.
use Rattle.std.specs.Prelude.{ℕ, List, [], ◌∷◌, None, Result, Ok, Err, if◌then◌else◌}
use Rattle.serde_json.specs.Data.{Data, Members}
use Rattle.serde_json.specs.Find.{as_object}
use Rattle.yp_base.specs.declared.notice.Change.{Change}
use Rattle.yp_base.specs.declared.notice.ChangeKind.{ChangeKind}
use Rattle.yp_base.specs.declared.notice.ChangeKind.TheVariants as kinds
use Rattle.yp_base.specs.declared.notice.Notice.{Notice}
use Rattle.yp_base.specs.declared.notice.Notice.TheVariants as notices
use Rattle.yp_base.specs.declared.path.Seg.{Seg}
use Rattle.yp_base.specs.declared.row.Row.{Row}
use Rattle.yp_base.specs.Results.{◌>>=◌, or_fault}
use Rattle.yp_schema.specs.declared.schema.SchemaNode.{SchemaNode}
use Rattle.yp_schema.specs.Datastore.{ends_in_key}
use Rattle.yp_path.specs.declared.fault.PathFault.{PathFault}
use Rattle.yp_path.specs.Targets.{target_in}
use Rattle.yp_data_json.specs.declared.fault.DataFault.{DataFault}
use Rattle.yp_data_json.specs.AtPath.{rows_read}
use Rattle.yp_decode.specs.declared.edits.Operation.{Operation}
use Rattle.yp_decode.specs.declared.edits.Operation.TheVariants.{Create, Delete, Replace}
use Rattle.yp_decode.specs.declared.envelope.NoticeKind.{NoticeKind}
use Rattle.yp_decode.specs.declared.envelope.NoticeKind.TheVariants.{Full, Changes, State}
use Rattle.yp_decode.specs.declared.envelope.StateChange.{StateChange}
use Rattle.yp_decode.specs.declared.envelope.StateChange.TheVariants.{Started, Modified, Suspended, Resumed, Terminated}
use Rattle.yp_decode.specs.declared.fault.StreamFault.{StreamFault}
use Rattle.yp_decode.specs.declared.fault.StreamFault.TheVariants.{NotJson, Envelope as NoEnvelope, UnknownNotice, Member, Target, Data as BadData}
use Rattle.yp_decode.specs.declared.fault.TargetFault.TheVariants.{Path as BadPath, KeyLeaf}
use Rattle.yp_decode.specs.declared.line.Heard.{Heard}
use Rattle.yp_value.specs.Json.{json_of}
use Rattle.yp_decode.specs.Envelope.{Envelope, envelope_in, kind_named}
use Rattle.yp_decode.specs.Bodies.{EditBody, full_in, changes_in, state_in}

-- ---- targets

abbrev pub of_target : {X : Type 0} → Result X PathFault → Result X StreamFault
of_target (Ok x) = Ok x
of_target (Err fault) = Err (Target (BadPath fault))

-- a path that ends in no key leaf
abbrev pub unkeyed : List SchemaNode → List Seg → Result (List Seg) StreamFault
unkeyed nodes path = if ends_in_key nodes path then Err (Target KeyLeaf) else Ok path

-- the place that the text of a target names
abbrev pub place_in : List SchemaNode → List ℕ → Result (List Seg) StreamFault
place_in nodes text = of_target (target_in nodes text) >>= unkeyed nodes

-- an edit at its place
pub record PlacedEdit : Type 0 where
  pub target : List Seg
  pub operation : Operation Data

-- the edits at their places, or the fault of the first target that has one
abbrev pub edits_placed : List SchemaNode → List EditBody → Result (List PlacedEdit) StreamFault
edits_placed nodes [] = Ok []
edits_placed nodes (edit ∷ edits) =
    place_in nodes edit.target >>= λ target.
    edits_placed nodes edits >>= λ more.
    Ok (record { target = target; operation = edit.operation } ∷ more)

-- ---- data

abbrev pub of_data : {X : Type 0} → Result X DataFault → Result X StreamFault
of_data (Ok x) = Ok x
of_data (Err fault) = Err (BadData fault)

-- the rows that data at a place hold; the empty path is the whole datastore
abbrev pub rows_in : List SchemaNode → List Seg → Data → Result (List Row) StreamFault
rows_in nodes at json = of_data (rows_read nodes at json)

abbrev pub heard_change : ChangeKind → List Seg → List Row → Change
heard_change kind target rows = record { kind = kind; target = target; rows = rows; after = None }

-- the change that an operation makes at a place: a deletion has no rows
abbrev pub edit_heard : List SchemaNode → List Seg → Operation Data → Result Change StreamFault
edit_heard nodes target (Create value) = rows_in nodes target value >>= λ rows. Ok (heard_change kinds.Create target rows)
edit_heard nodes target Delete = Ok (heard_change kinds.Delete target [])
edit_heard nodes target (Replace value) = rows_in nodes target value >>= λ rows. Ok (heard_change kinds.Replace target rows)

-- the changes that edits make, or the fault of the first value that has one
abbrev pub edits_heard : List SchemaNode → List PlacedEdit → Result (List Change) StreamFault
edits_heard nodes [] = Ok []
edits_heard nodes (edit ∷ edits) =
    edit_heard nodes edit.target edit.operation >>= λ change.
    edits_heard nodes edits >>= λ more.
    Ok (change ∷ more)

-- ---- notices

-- a full update
abbrev pub full_heard : List SchemaNode → Members → Result Notice StreamFault
full_heard nodes ms =
    or_fault Member (full_in ms) >>= λ full.
    rows_in nodes [] full.contents >>= λ rows.
    Ok (notices.Full full.id rows)

-- a change update: members first, then all targets, and then all values
abbrev pub changes_heard : List SchemaNode → Members → Result Notice StreamFault
changes_heard nodes ms =
    or_fault Member (changes_in ms) >>= λ body.
    edits_placed nodes body.patch.edits >>= λ edits.
    edits_heard nodes edits >>= λ changes.
    Ok (notices.Changes body.id body.patch.id changes body.incomplete)

abbrev pub state_notice : StateChange → ℕ → Notice
state_notice Started id = notices.Started id
state_notice Modified id = notices.Modified id
state_notice Suspended id = notices.Suspended id
state_notice Resumed id = notices.Resumed id
state_notice Terminated id = notices.Terminated id

-- a change of a subscription's state
abbrev pub state_heard : StateChange → Members → Result Notice StreamFault
state_heard state ms = or_fault Member (state_in state ms) >>= λ id. Ok (state_notice state id)

-- the notice of a body of a kind
abbrev pub body_heard : List SchemaNode → NoticeKind → Members → Result Notice StreamFault
body_heard nodes Full ms = full_heard nodes ms
body_heard nodes Changes ms = changes_heard nodes ms
body_heard nodes (State state) ms = state_heard state ms

-- ---- lines

-- what an envelope tells
abbrev pub notice_heard : List SchemaNode → Envelope → Result Notice StreamFault
notice_heard nodes envelope =
    or_fault UnknownNotice (kind_named envelope.name) >>= λ kind.
    or_fault Member (as_object envelope.body) >>= λ ms.
    body_heard nodes kind ms

-- what the JSON of a line tells
abbrev pub heard_in : List SchemaNode → Data → Result Heard StreamFault
heard_in nodes json =
    or_fault NoEnvelope (envelope_in json) >>= λ envelope.
    notice_heard nodes envelope >>= λ notice.
    Ok (record { time = envelope.time; notice = notice })

-- what a line tells, or its fault
abbrev pub line_heard : List SchemaNode → List ℕ → Result Heard StreamFault
line_heard nodes text = or_fault NotJson (json_of text) >>= heard_in nodes
