-- What a line tells has rows of the schema.
use Rattle.std.proofs.Common.{◌≡◌, ℕ, true, false, not, ◌&&◌, Bool, cond, List, [], ◌∷◌, Result, Ok, Err, IfOk, refl}
use Rattle.std.specs.List.{AllByRecursion}
use Rattle.serde_json.specs.Data.{Data, Members}
use Rattle.serde_json.specs.Find.{as_object}
use Rattle.yp_base.specs.declared.notice.Change.{Change}
use Rattle.yp_base.specs.declared.notice.ChangeKind.TheVariants as kinds
use Rattle.yp_base.specs.declared.notice.Notice.{Notice}
use Rattle.yp_base.specs.declared.notice.Notice.TheVariants as notices
use Rattle.yp_base.specs.declared.path.Seg.{Seg}
use Rattle.yp_base.specs.declared.row.Row.{Row}
use Rattle.yp_base.specs.Results.{◌>>=◌, or_fault}
use Rattle.yp_schema.specs.declared.schema.SchemaNode.{SchemaNode}
use Rattle.yp_schema.specs.Datastore.{is_path_of, is_place, ends_in_key, IsRowOf}
use Rattle.yp_path.specs.declared.fault.PathFault.{PathFault}
use Rattle.yp_path.specs.TargetLaws.{ReadFits, path_of_text}
use Rattle.yp_path.specs.Targets.{target_in}
use Rattle.yp_data_json.specs.declared.fault.DataFault.{DataFault}
use Rattle.yp_data_json.specs.AtPath.{rows_read}
use Rattle.yp_data_json.specs.ReadLaws.{ReadsWhole}
use Rattle.yp_command.specs.SaidLaws.{then_is}
use Rattle.yp_decode.specs.declared.edits.Operation.{Operation}
use Rattle.yp_decode.specs.declared.edits.Operation.TheVariants.{Create, Delete, Replace}
use Rattle.yp_decode.specs.declared.envelope.NoticeKind.{NoticeKind}
use Rattle.yp_decode.specs.declared.envelope.NoticeKind.TheVariants.{Full, Changes, State}
use Rattle.yp_decode.specs.declared.envelope.StateChange.{StateChange}
use Rattle.yp_decode.specs.declared.envelope.StateChange.TheVariants.{Started, Modified, Suspended, Resumed, Terminated}
use Rattle.yp_decode.specs.declared.fault.StreamFault.TheVariants as faults
use Rattle.yp_decode.specs.declared.fault.TargetFault.TheVariants.{KeyLeaf}
use Rattle.yp_decode.specs.Bodies.{EditBody, full_in, changes_in, state_in}
use Rattle.yp_value.specs.Json.{json_of}
use Rattle.yp_decode.specs.Envelope.{Envelope, envelope_in, kind_named}
use Rattle.yp_decode.specs.Grammar.{of_target, unkeyed, place_in, PlacedEdit, edits_placed, of_data, rows_in, heard_change, edit_heard, edits_heard, full_heard, changes_heard, state_notice, body_heard, notice_heard, heard_in, line_heard}

-- rows of the schema
abbrev pub AreRows : List SchemaNode → List Row → Type 0
AreRows nodes rows = AllByRecursion (IsRowOf nodes) rows

abbrev pub CarriesRows : List SchemaNode → Change → Type 0
CarriesRows nodes change = AreRows nodes change.rows

-- the same of all that a notice carries
abbrev pub TellsRows : List SchemaNode → Notice → Type 0
TellsRows nodes (notices.Full id rows) = AreRows nodes rows
TellsRows nodes (notices.Changes id patch_id changes incomplete) = AllByRecursion (CarriesRows nodes) changes
TellsRows nodes (notices.Started id) = Unit {0}
TellsRows nodes (notices.Modified id) = Unit {0}
TellsRows nodes (notices.Suspended id) = Unit {0}
TellsRows nodes (notices.Resumed id) = Unit {0}
TellsRows nodes (notices.Terminated id) = Unit {0}

any_ok : {X E : Type 0} (r : Result X E) → IfOk r (λ x. Unit {0})
any_ok (Ok x) = tt
any_ok (Err e) = tt

module _ (fits : ReadFits) (whole : ReadsWhole) (nodes : List SchemaNode) where
  IsPlaced : List Seg → Type 0
  IsPlaced path = is_place nodes path ≡ true

  -- ---- places

  place_of : (path : List Seg) → is_path_of nodes path ≡ true → ends_in_key nodes path ≡ false → is_place nodes path ≡ true
  place_of [] is free = refl
  place_of (seg ∷ segs) is free = λ i. is i && not (free i)

  unkeyed_at : (b : Bool) (path : List Seg) → is_path_of nodes path ≡ true → ends_in_key nodes path ≡ b → IfOk (cond b (Err (faults.Target KeyLeaf)) (Ok path)) (λ path. is_place nodes path ≡ true)
  unkeyed_at true path is ends = tt
  unkeyed_at false path is ends = place_of path is ends

  place_is : (text : List ℕ) → IfOk (place_in nodes text) (λ path. is_place nodes path ≡ true)
  place_is text = read_at (target_in nodes text) refl
    where
      read_at : (r : Result (List Seg) PathFault) → target_in nodes text ≡ r → IfOk (of_target r >>= unkeyed nodes) (λ path. is_place nodes path ≡ true)
      read_at (Ok path) is = unkeyed_at (ends_in_key nodes path) path (path_of_text fits nodes text path is) refl
      read_at (Err fault) is = tt

  abbrev ArePlaced : List PlacedEdit → Type 0
  ArePlaced edits = AllByRecursion (λ edit. is_place nodes edit.target ≡ true) edits

  placed : (edits : List EditBody) → IfOk (edits_placed nodes edits) ArePlaced
  placed [] = tt
  placed (edit ∷ edits) =
      then_is (place_in nodes edit.target) (λ target. edits_placed nodes edits >>= λ more. Ok (record { target = target; operation = edit.operation } ∷ more)) (λ target. is_place nodes target ≡ true) ArePlaced (place_is edit.target)
      (λ target is. then_is (edits_placed nodes edits) (λ more. Ok (record { target = target; operation = edit.operation } ∷ more)) ArePlaced ArePlaced (placed edits) (λ more all. (is, all)))

  -- ---- rows

  rows_are : (at : List Seg) (json : Data) → is_place nodes at ≡ true → IfOk (rows_in nodes at json) (AreRows nodes)
  rows_are at json place = read_at (rows_read nodes at json) refl
    where
      read_at : (r : Result (List Row) DataFault) → rows_read nodes at json ≡ r → IfOk (of_data r) (AreRows nodes)
      read_at (Ok rows) is = (whole nodes at json rows place is).writable.of_schema
      read_at (Err fault) is = tt

  change_is : (target : List Seg) (operation : Operation Data) → is_place nodes target ≡ true → IfOk (edit_heard nodes target operation) (CarriesRows nodes)
  change_is target (Create value) place = then_is (rows_in nodes target value) (λ rows. Ok (heard_change kinds.Create target rows)) (AreRows nodes) (CarriesRows nodes) (rows_are target value place) (λ rows are. are)
  change_is target Delete place = tt
  change_is target (Replace value) place = then_is (rows_in nodes target value) (λ rows. Ok (heard_change kinds.Replace target rows)) (AreRows nodes) (CarriesRows nodes) (rows_are target value place) (λ rows are. are)

  changes_are : (edits : List PlacedEdit) → ArePlaced edits → IfOk (edits_heard nodes edits) (λ changes. AllByRecursion (CarriesRows nodes) changes)
  changes_are [] all = tt
  changes_are (edit ∷ edits) all =
      then_is (edit_heard nodes edit.target edit.operation) (λ change. edits_heard nodes edits >>= λ more. Ok (change ∷ more)) (CarriesRows nodes) (λ changes. AllByRecursion (CarriesRows nodes) changes) (change_is edit.target edit.operation all.0)
      (λ change carries. then_is (edits_heard nodes edits) (λ more. Ok (change ∷ more)) (λ changes. AllByRecursion (CarriesRows nodes) changes) (λ changes. AllByRecursion (CarriesRows nodes) changes) (changes_are edits all.1) (λ more each. (carries, each)))

  -- ---- notices

  full_is : (ms : Members) → IfOk (full_heard nodes ms) (TellsRows nodes)
  full_is ms =
      then_is (or_fault faults.Member (full_in ms)) (λ full. rows_in nodes [] full.contents >>= λ rows. Ok (notices.Full full.id rows)) (λ full. Unit {0}) (TellsRows nodes) (any_ok (or_fault faults.Member (full_in ms)))
      (λ full any. then_is (rows_in nodes [] full.contents) (λ rows. Ok (notices.Full full.id rows)) (AreRows nodes) (TellsRows nodes) (rows_are [] full.contents refl) (λ rows are. are))

  update_is : (ms : Members) → IfOk (changes_heard nodes ms) (TellsRows nodes)
  update_is ms =
      then_is (or_fault faults.Member (changes_in ms)) (λ body. edits_placed nodes body.patch.edits >>= λ edits. edits_heard nodes edits >>= λ changes. Ok (notices.Changes body.id body.patch.id changes body.incomplete)) (λ body. Unit {0}) (TellsRows nodes) (any_ok (or_fault faults.Member (changes_in ms)))
      (λ body any. then_is (edits_placed nodes body.patch.edits) (λ edits. edits_heard nodes edits >>= λ changes. Ok (notices.Changes body.id body.patch.id changes body.incomplete)) ArePlaced (TellsRows nodes) (placed body.patch.edits)
      (λ edits all. then_is (edits_heard nodes edits) (λ changes. Ok (notices.Changes body.id body.patch.id changes body.incomplete)) (λ changes. AllByRecursion (CarriesRows nodes) changes) (TellsRows nodes) (changes_are edits all) (λ changes each. each)))

  state_tells : (state : StateChange) (id : ℕ) → TellsRows nodes (state_notice state id)
  state_tells Started id = tt
  state_tells Modified id = tt
  state_tells Suspended id = tt
  state_tells Resumed id = tt
  state_tells Terminated id = tt

  body_is : (kind : NoticeKind) (ms : Members) → IfOk (body_heard nodes kind ms) (TellsRows nodes)
  body_is Full ms = full_is ms
  body_is Changes ms = update_is ms
  body_is (State state) ms =
      then_is (or_fault faults.Member (state_in state ms)) (λ id. Ok (state_notice state id)) (λ id. Unit {0}) (TellsRows nodes) (any_ok (or_fault faults.Member (state_in state ms))) (λ id any. state_tells state id)

  notice_is : (envelope : Envelope) → IfOk (notice_heard nodes envelope) (TellsRows nodes)
  notice_is envelope =
      then_is (or_fault faults.UnknownNotice (kind_named envelope.name)) (λ kind. or_fault faults.Member (as_object envelope.body) >>= λ ms. body_heard nodes kind ms) (λ kind. Unit {0}) (TellsRows nodes) (any_ok (or_fault faults.UnknownNotice (kind_named envelope.name)))
      (λ kind any. then_is (or_fault faults.Member (as_object envelope.body)) (λ ms. body_heard nodes kind ms) (λ ms. Unit {0}) (TellsRows nodes) (any_ok (or_fault faults.Member (as_object envelope.body))) (λ ms some. body_is kind ms))

  json_is : (json : Data) → IfOk (heard_in nodes json) (λ heard. TellsRows nodes heard.notice)
  json_is json =
      then_is (or_fault faults.Envelope (envelope_in json)) (λ envelope. notice_heard nodes envelope >>= λ notice. Ok (record { time = envelope.time; notice = notice })) (λ envelope. Unit {0}) (λ heard. TellsRows nodes heard.notice) (any_ok (or_fault faults.Envelope (envelope_in json)))
      (λ envelope any. then_is (notice_heard nodes envelope) (λ notice. Ok (record { time = envelope.time; notice = notice })) (TellsRows nodes) (λ heard. TellsRows nodes heard.notice) (notice_is envelope) (λ notice tells. tells))

  -- what a line tells
  pub line_is : (text : List ℕ) → IfOk (line_heard nodes text) (λ heard. TellsRows nodes heard.notice)
  line_is text =
      then_is (or_fault faults.NotJson (json_of text)) (heard_in nodes) (λ json. Unit {0}) (λ heard. TellsRows nodes heard.notice) (any_ok (or_fault faults.NotJson (json_of text))) (λ json any. json_is json)
