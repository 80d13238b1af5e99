-- What readers of a line answer: what the definition gives, but where memory ran out.
use Rattle.std.specs.Prelude.{◌≡◌, List, map, Result, Ok, Err}
use Rattle.std.specs.Borrow.{Bor}
use Rattle.serde_json.specs.Data.{Data}
use Rattle.serde_json.specs.View.{view}
use Rattle.serde_json.specs.declared.value.Value.{Value}
use Rattle.yp_decode.specs.declared.body.ChangesBody.{ChangesBody as FoundChanges}
use Rattle.yp_decode.specs.declared.body.FullBody.{FullBody as FoundFull}
use Rattle.yp_decode.specs.declared.edits.EditBody.{EditBody as FoundEdit}
use Rattle.yp_decode.specs.declared.edits.Operation.{Operation}
use Rattle.yp_decode.specs.declared.edits.Operation.TheVariants.{Create, Delete, Replace}
use Rattle.yp_decode.specs.declared.body.PatchBody.{PatchBody as FoundPatch}
use Rattle.yp_decode.specs.declared.envelope.Envelope.{Envelope as FoundEnvelope}
use Rattle.yp_decode.specs.declared.fault.StreamFault.{StreamFault}
use Rattle.yp_decode.specs.declared.fault.StreamFault.TheVariants.{NotJson, Envelope as NoEnvelope, UnknownNotice, Member, Target, Data as BadData, Memory}
use Rattle.yp_decode.specs.declared.places.PlacedEdit.{PlacedEdit as FoundPlace}
use Rattle.yp_decode.specs.Envelope.{Envelope}
use Rattle.yp_decode.specs.Bodies.{FullBody, EditBody, PatchBody, ChangesBody}
use Rattle.yp_decode.specs.Grammar.{PlacedEdit}

-- ---- answers

-- a fault is that of the definition
abbrev pub Fails : {X : Type 0} → StreamFault → Result X StreamFault → Type 0
Fails NotJson heard = heard ≡ Err NotJson
Fails NoEnvelope heard = heard ≡ Err NoEnvelope
Fails UnknownNotice heard = heard ≡ Err UnknownNotice
Fails Member heard = heard ≡ Err Member
Fails (Target fault) heard = heard ≡ Err (Target fault)
Fails (BadData fault) heard = heard ≡ Err (BadData fault)
Fails Memory heard = Unit {0}

-- what is answered is what the definition gives
abbrev pub Gives : {X : Type 0} → Result X StreamFault → Result X StreamFault → Type 0
Gives (Ok x) heard = heard ≡ Ok x
Gives (Err fault) heard = Fails fault heard

-- what is answered, as a contract sees it, is what the definition gives
abbrev pub Shows : {X Y : Type 0} → (X → Y) → Result X StreamFault → Result Y StreamFault → Type 0
Shows seen (Ok x) heard = heard ≡ Ok (seen x)
Shows seen (Err fault) heard = Fails fault heard

-- ---- what was found in JSON, as a contract sees it

abbrev pub seen_envelope : FoundEnvelope → Envelope
seen_envelope envelope = record { time = envelope.time.now; name = envelope.name.now; body = view envelope.body.now }

abbrev pub seen_full : FoundFull → FullBody
seen_full full = record { id = full.id; contents = view full.contents.now }

abbrev pub seen_operation : Operation (Bor Value) → Operation Data
seen_operation (Create value) = Create (view value.now)
seen_operation Delete = Delete
seen_operation (Replace value) = Replace (view value.now)

abbrev pub seen_edit : FoundEdit → EditBody
seen_edit edit = record { id = edit.id.now; target = edit.target.now; operation = seen_operation edit.operation }

abbrev pub seen_edits : List FoundEdit → List EditBody
seen_edits edits = map seen_edit edits

abbrev pub seen_patch : FoundPatch → PatchBody
seen_patch patch = record { id = patch.id; edits = seen_edits patch.edits.items }

abbrev pub seen_changes : FoundChanges → ChangesBody
seen_changes changes = record { id = changes.id; patch = seen_patch changes.patch; incomplete = changes.incomplete }

abbrev pub seen_place : FoundPlace → PlacedEdit
seen_place edit = record { target = edit.target; operation = seen_operation edit.operation }

abbrev pub seen_places : List FoundPlace → List PlacedEdit
seen_places edits = map seen_place edits
