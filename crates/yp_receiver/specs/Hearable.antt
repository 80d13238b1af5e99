-- Which notices are heard again as they were told: what the reader of their lines asks for.
use Rattle.std.specs.Prelude.{◌≡◌, ℕ, ◌<◌, ◌≤◌, ◌^◌, List, [], length, Bool, true, false}
use Rattle.std.specs.List.{AllByRecursion}
use Rattle.serde_json.specs.Data.{object, depth}
use Rattle.yp_base.specs.declared.notice.Change.{Change}
use Rattle.yp_base.specs.declared.notice.Notice.{Notice}
use Rattle.yp_base.specs.declared.notice.Notice.TheVariants.{Full, Changes, Started, Modified, Suspended, Resumed, Terminated}
use Rattle.yp_base.specs.declared.path.Seg.{Seg}
use Rattle.yp_base.specs.declared.row.Row.{Row}
use Rattle.yp_schema.specs.declared.schema.SchemaNode.{SchemaNode}
use Rattle.yp_schema.specs.Datastore.{AreWhole, ends_in_key}
use Rattle.yp_path.specs.Targets.{has_texts}
use Rattle.yp_time.specs.Ticks.{tick_limit}
use Rattle.yp_encode.specs.Lines.{carries_value, body_of}
use Rattle.yp_encode.specs.Sendable.{IsSendableChange}
use Rattle.yp_receiver.specs.Readable.{HaveTexts}

-- ---- change updates

-- where an edit carries a value, its rows can be written at its target, which so ends in no key leaf
abbrev pub HasOpenTarget : List SchemaNode → Bool → List Seg → Type 0
HasOpenTarget nodes true target = Unit {0}
HasOpenTarget nodes false target = ends_in_key nodes target ≡ false

abbrev pub HasWholeRows : List SchemaNode → Bool → List Seg → List Row → Type 0
HasWholeRows nodes true target rows = AreWhole nodes target rows
HasWholeRows nodes false target rows = rows ≡ []

pub record IsHearableChange (nodes : List SchemaNode) (change : Change) : Type 0 where
  -- the writer asks for it
  pub sendable : IsSendableChange nodes change
  -- no edit changes a key leaf, so the reader takes none as a target
  pub place : HasOpenTarget nodes (carries_value change.kind) change.target
  -- a JSON text is UTF-8, and so the keys of a target are
  pub keys : has_texts change.target ≡ true
  -- the reader finds a row of each entry that it passes, so none may be missing
  pub whole : HasWholeRows nodes (carries_value change.kind) change.target change.rows

pub record AreHearable (nodes : List SchemaNode) (patch_id : ℕ) (changes : List Change) : Type 0 where
  -- the reader takes a patch id of 64 bits
  pub patch : patch_id < 2 ^ 64
  -- edits are counted, and the texts of their counts tell them apart below 2 ^ 64
  pub few : length changes < 2 ^ 63
  pub each : AllByRecursion (IsHearableChange nodes) changes

-- ---- notices

-- the id of a notice's subscription
abbrev pub subscription_of : Notice → ℕ
subscription_of (Full id rows) = id
subscription_of (Changes id patch_id changes incomplete) = id
subscription_of (Started id) = id
subscription_of (Modified id) = id
subscription_of (Suspended id) = id
subscription_of (Resumed id) = id
subscription_of (Terminated id) = id

-- what the reader finds in a body is what the writer put there: of a full update the rows of a whole datastore
abbrev pub HasHearableBody : List SchemaNode → Notice → Type 0
HasHearableBody nodes (Full id rows) = AreWhole nodes [] rows
HasHearableBody nodes (Changes id patch_id changes incomplete) = AreHearable nodes patch_id changes
HasHearableBody nodes (Started id) = Unit {0}
HasHearableBody nodes (Modified id) = Unit {0}
HasHearableBody nodes (Suspended id) = Unit {0}
HasHearableBody nodes (Resumed id) = Unit {0}
HasHearableBody nodes (Terminated id) = Unit {0}

-- a notice whose JSON is heard as this notice
pub record IsHearable (nodes : List SchemaNode) (notice : Notice) : Type 0 where
  -- the reader takes an id of 32 bits
  pub id : subscription_of notice < 2 ^ 32
  pub body : HasHearableBody nodes notice

-- whether a notice tells of a change of state, and so carries no data
abbrev pub tells_state : Notice → Bool
tells_state (Full id rows) = false
tells_state (Changes id patch_id changes incomplete) = false
tells_state (Started id) = true
tells_state (Modified id) = true
tells_state (Suspended id) = true
tells_state (Resumed id) = true
tells_state (Terminated id) = true

-- the texts of a notice's rows are UTF-8
abbrev pub HasTexts : Notice → Type 0
HasTexts (Full id rows) = HaveTexts rows
HasTexts (Changes id patch_id changes incomplete) = AllByRecursion (λ (change : Change). HaveTexts change.rows) changes
HasTexts (Started id) = Unit {0}
HasTexts (Modified id) = Unit {0}
HasTexts (Suspended id) = Unit {0}
HasTexts (Resumed id) = Unit {0}
HasTexts (Terminated id) = Unit {0}

-- a notice whose line is read as its JSON
pub record HasReadableText (nodes : List SchemaNode) (notice : Notice) : Type 0 where
  -- a JSON text is UTF-8, and so the texts in it are
  pub texts : HasTexts notice
  -- the reader takes arrays and objects that nest 127 deep, of which the envelope is two
  pub shallow : depth (object (body_of nodes notice)) ≤ 125

-- a notice that is told at a tick, and heard again
pub record IsTold (nodes : List SchemaNode) (told : ℕ × Notice) : Type 0 where
  pub tick : told.0 ≤ tick_limit
  pub hearable : IsHearable nodes told.1
  pub text : HasReadableText nodes told.1
