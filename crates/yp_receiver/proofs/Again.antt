-- The JSON of a notice is heard as that notice.
use Rattle.std.proofs.Common.{◌≡◌, ℕ, ◌+◌, ◌-◌, ◌<◌, ◌≤◌, ◌^◌, pos, List, [], ◌∷◌, length, Bool, true, false, true≢false, not, cond, Option, Some, None, is_some, option_map, option_and_then, Result, Ok, Err, unsigned_abs, codes, decimal, refl, sym, ap, ◌∙◌, arith}
use Rattle.std.specs.List.{AllByRecursion}
use Rattle.std.proofs.lemmas.Bool.{and_from, and_parts, or_from, lt-ltb, le-leb}
use Rattle.std.proofs.lemmas.Fmt.{decimal_injective}
use Rattle.serde_json.specs.Data.{Data, string, array, object, Members, no_members, member}
use Rattle.yp_base.specs.declared.atom.Atom.{Atom}
use Rattle.yp_base.specs.declared.notice.Change.{Change}
use Rattle.yp_base.specs.declared.notice.ChangeKind.{ChangeKind}
use Rattle.yp_base.specs.declared.notice.ChangeKind.TheVariants as kinds
use Rattle.yp_base.specs.declared.notice.Notice.{Notice}
use Rattle.yp_base.specs.declared.notice.Notice.TheVariants as notices
use Rattle.yp_base.specs.declared.path.Seg.{Seg}
use Rattle.yp_base.specs.declared.row.Row.{Row}
use Rattle.yp_base.specs.PathLaws.{texts_same, texts_itself}
use Rattle.yp_value.specs.ReadAgain.{number_again}
use Rattle.yp_base.specs.Results.{◌>>=◌, or_fault}
use Rattle.yp_value.specs.Texts.{below}
use Rattle.yp_base.specs.Types.{same_text, is_among, are_distinct}
use Rattle.yp_schema.specs.declared.schema.SchemaNode.{SchemaNode}
use Rattle.yp_schema.specs.Datastore.{AreWhole, is_path_of, ends_in_key}
use Rattle.yp_path.specs.declared.fault.PathFault.{PathFault}
use Rattle.yp_path.specs.Targets.{target_in, target_text, has_texts}
use Rattle.yp_data_json.specs.declared.fault.DataFault.{DataFault}
use Rattle.yp_data_json.specs.AtPath.{rows_read}
use Rattle.yp_data_json.specs.Writing.{rows_json}
use Rattle.yp_time.specs.Instants.{event_in}
use Rattle.yp_encode.specs.Lines.{operation_word, carries_value, value_member, edits_from, name_of, body_of}
use Rattle.yp_encode.specs.Sendable.{is_served}
use Rattle.yp_decode.specs.declared.edits.Operation.{Operation}
use Rattle.yp_decode.specs.declared.edits.Operation.TheVariants.{Create, Delete, Replace}
use Rattle.yp_decode.specs.declared.envelope.StateChange.{StateChange}
use Rattle.yp_decode.specs.declared.envelope.StateChange.TheVariants.{Started, Modified, Suspended, Resumed, Terminated}
use Rattle.yp_decode.specs.declared.fault.StreamFault.{StreamFault}
use Rattle.yp_decode.specs.declared.fault.StreamFault.TheVariants.{Envelope as NoEnvelope, Member, Target}
use Rattle.yp_decode.specs.declared.fault.TargetFault.TheVariants.{KeyLeaf}
use Rattle.yp_decode.specs.declared.line.Heard.{Heard}
use Rattle.yp_decode.specs.Envelope.{Envelope, envelope_in, other_member}
use Rattle.yp_decode.specs.Bodies.{FullBody, EditBody, PatchBody, ChangesBody, full_in, edit_in, edits_in, ids_of, canonical_in, patch_in, changes_of, changes_in}
use Rattle.yp_decode.specs.Grammar.{of_target, unkeyed, place_in, PlacedEdit, edits_placed, of_data, heard_change, edit_heard, edits_heard, state_notice, notice_heard, heard_in}
use Rattle.yp_receiver.specs.Hearable.{HasOpenTarget, HasWholeRows, IsHearableChange, AreHearable, IsHearable}

-- ---- ids

within : (id : ℕ) → id < 2 ^ 32 → below (2 ^ 32) id ≡ Some id
within id h = ap (λ t. cond t (Some id) None) (lt-ltb id (2 ^ 32) h)

canonical_again : (id : ℕ) → id < 2 ^ 64 → canonical_in (decimal id) ≡ Some id
canonical_again id h =
    ap (λ o. option_and_then (λ n. cond (same_text (decimal n) (decimal id)) (Some n) None) (option_map (λ n. unsigned_abs n) o))
    (number_again 0 (2 ^ 64 - 1) (pos id) (omega arith) (omega arith) (le-leb id (2 ^ 64 - 1) (omega arith)))
    ∙ ap (λ t. cond t (Some id) None) (texts_itself (decimal id))

not_true : (b : Bool) → not b ≡ true → b ≡ false
not_true true h = absurd (true≢false (sym h))
not_true false h = refl

-- ---- edits

-- what an edit does, with the value that it carries
abbrev told_operation : ChangeKind → Data → Operation Data
told_operation kinds.Create value = Create value
told_operation kinds.Delete value = Delete
told_operation kinds.Insert value = Delete
told_operation kinds.Move value = Delete
told_operation kinds.Replace value = Replace value

abbrev edit_members : ChangeKind → List ℕ → List ℕ → Data → Members
edit_members kind id target value =
    member (codes "edit-id") (string id)
    (member (codes "operation") (string (operation_word kind))
    (member (codes "target") (string target)
    (value_member (carries_value kind) value)))

edit_again : (kind : ChangeKind) (id target : List ℕ) (value : Data) → is_served kind ≡ true
    → edit_in (edit_members kind id target value) ≡ Some (record { id = id; target = target; operation = told_operation kind value })
edit_again kinds.Create id target value served = refl
edit_again kinds.Delete id target value served = refl
edit_again kinds.Insert id target value served = absurd (true≢false (sym served))
edit_again kinds.Move id target value served = absurd (true≢false (sym served))
edit_again kinds.Replace id target value served = refl

module _ (nodes : List SchemaNode) where
  abbrev told_value : Change → Data
  told_value change = rows_json nodes change.target change.rows

  abbrev told_edit : ℕ → Change → EditBody
  told_edit n change = record { id = decimal n; target = target_text nodes change.target; operation = told_operation change.kind (told_value change) }

  abbrev told_edits : ℕ → List Change → List EditBody
  told_edits n [] = []
  told_edits n (change ∷ changes) = told_edit n change ∷ told_edits (n + 1) changes

  abbrev AreServed : List Change → Type 0
  AreServed changes = AllByRecursion (λ (change : Change). is_served change.kind ≡ true) changes

  abbrev put_before : Option (List EditBody) → EditBody → Option (List EditBody)
  put_before more edit = option_map (λ edits. edit ∷ edits) more

  edits_again : (n : ℕ) (changes : List Change) → AreServed changes → edits_in (edits_from nodes n changes) ≡ Some (told_edits n changes)
  edits_again n [] served = refl
  edits_again n (change ∷ changes) served =
      ap (option_and_then (put_before (edits_in (edits_from nodes (n + 1) changes)))) (edit_again change.kind (decimal n) (target_text nodes change.target) (told_value change) served.0)
      ∙ ap (λ more. put_before more (told_edit n change)) (edits_again (n + 1) changes served.1)

  -- ---- edits are told apart by their counts

  differ_at : (m n : ℕ) (same : Bool) → same_text (decimal m) (decimal n) ≡ same → m < n → n < 2 ^ 64 → same ≡ false
  differ_at m n true is less low = let one : m ≡ n = decimal_injective m n (omega arith) low (texts_same (decimal m) (decimal n) is) in absurd (omega arith)
  differ_at m n false is less low = refl

  not_among : (m n : ℕ) (changes : List Change) → m < n → n + length changes ≤ 2 ^ 64 → is_among (decimal m) (ids_of (told_edits n changes)) ≡ false
  not_among m n [] less few = refl
  not_among m n (change ∷ changes) less few =
      or_from (same_text (decimal m) (decimal n)) (is_among (decimal m) (ids_of (told_edits (n + 1) changes)))
      (differ_at m n (same_text (decimal m) (decimal n)) refl less (omega arith)) (not_among m (n + 1) changes (omega arith) (omega arith))

  distinct_again : (n : ℕ) (changes : List Change) → n + length changes ≤ 2 ^ 64 → are_distinct (ids_of (told_edits n changes)) ≡ true
  distinct_again n [] few = refl
  distinct_again n (change ∷ changes) few =
      and_from (not (is_among (decimal n) (ids_of (told_edits (n + 1) changes)))) (are_distinct (ids_of (told_edits (n + 1) changes)))
      (ap not (not_among n (n + 1) changes (omega arith) (omega arith))) (distinct_again (n + 1) changes (omega arith))

  -- ---- patches

  abbrev patch_members : ℕ → List Change → Members
  patch_members patch_id changes = member (codes "edit") (array (edits_from nodes 1 changes)) (member (codes "patch-id") (string (decimal patch_id)) no_members)

  abbrev told_patch : ℕ → List Change → PatchBody
  told_patch patch_id changes = record { id = patch_id; edits = told_edits 1 changes }

  abbrev patch_with : Option (List EditBody) → ℕ → Option PatchBody
  patch_with edits id = option_map (λ (es : List EditBody). record { id = id; edits = es }) edits

  abbrev all_distinct : List EditBody → Option (List EditBody)
  all_distinct edits = cond (are_distinct (ids_of edits)) (Some edits) None

  patch_again : (patch_id : ℕ) (changes : List Change) → patch_id < 2 ^ 64 → length changes < 2 ^ 63 → AreServed changes → patch_in (patch_members patch_id changes) ≡ Some (told_patch patch_id changes)
  patch_again patch_id changes low few served =
      let edits = edits_in (edits_from nodes 1 changes) in
      ap (option_and_then (patch_with (option_and_then all_distinct edits))) (canonical_again patch_id low)
      ∙ ap (λ es. patch_with (option_and_then all_distinct es) patch_id) (edits_again 1 changes served)
      ∙ ap (λ t. patch_with (cond t (Some (told_edits 1 changes)) None) patch_id) (distinct_again 1 changes (omega arith))

  -- ---- bodies

  abbrev told_full : ℕ → List Row → FullBody
  told_full id rows = record { id = id; contents = rows_json nodes [] rows }

  full_again : (id : ℕ) (rows : List Row) → id < 2 ^ 32 → full_in (body_of nodes (notices.Full id rows)) ≡ Some (told_full id rows)
  full_again id rows low = ap (option_and_then (λ n. Some (told_full n rows))) (within id low)

  abbrev told_changes : ℕ → ℕ → List Change → Bool → ChangesBody
  told_changes id patch_id changes incomplete = record { id = id; patch = told_patch patch_id changes; incomplete = incomplete }

  abbrev with_patch : ℕ → Bool → ℕ → PatchBody → Option ChangesBody
  with_patch count incomplete id patch = changes_of count (record { id = id; patch = patch; incomplete = incomplete })

  abbrev with_id : Option PatchBody → ℕ → Bool → ℕ → Option ChangesBody
  with_id patch count incomplete id = option_and_then (with_patch count incomplete id) patch

  changes_again : (id patch_id : ℕ) (changes : List Change) (incomplete : Bool) → id < 2 ^ 32 → patch_in (patch_members patch_id changes) ≡ Some (told_patch patch_id changes)
      → changes_in (body_of nodes (notices.Changes id patch_id changes incomplete)) ≡ Some (told_changes id patch_id changes incomplete)
  changes_again id patch_id changes true low patch =
      ap (option_and_then (with_id (patch_in (patch_members patch_id changes)) 3 true)) (within id low) ∙ ap (option_and_then (with_patch 3 true id)) patch
  changes_again id patch_id changes false low patch =
      ap (option_and_then (with_id (patch_in (patch_members patch_id changes)) 2 false)) (within id low) ∙ ap (option_and_then (with_patch 2 false id)) patch

  -- ---- places and data

  -- what the laws of the crates below say of a target and of rows
  abbrev TargetsAreRead : Type 0
  TargetsAreRead = (path : List Seg) → is_path_of nodes path ≡ true → has_texts path ≡ true → target_in nodes (target_text nodes path) ≡ Ok path

  abbrev RowsAreRead : Type 0
  RowsAreRead = (at : List Seg) (rows : List Row) → AreWhole nodes at rows → rows_read nodes at (rows_json nodes at rows) ≡ Ok rows

  module _ (targets : TargetsAreRead) (data_read : RowsAreRead) where
    place_again : (path : List Seg) → is_path_of nodes path ≡ true → has_texts path ≡ true → ends_in_key nodes path ≡ false → place_in nodes (target_text nodes path) ≡ Ok path
    place_again path is texts unkeyed_end =
        ap (λ (r : Result (List Seg) PathFault). of_target r >>= unkeyed nodes) (targets path is texts)
        ∙ ap (λ t. cond t (Err (Target KeyLeaf)) (Ok path)) unkeyed_end

    open_end : (carries : Bool) (target : List Seg) (rows : List Row) → is_path_of nodes target ≡ true → HasOpenTarget nodes carries target → HasWholeRows nodes carries target rows → ends_in_key nodes target ≡ false
    open_end true [] rows is has whole = absurd (true≢false (sym is))
    open_end true (seg ∷ segs) rows is has whole = not_true (ends_in_key nodes (seg ∷ segs)) (and_parts (is_path_of nodes (seg ∷ segs)) (not (ends_in_key nodes (seg ∷ segs))) whole.writable.place).1
    open_end false target rows is has whole = has

    abbrev told_place : Change → PlacedEdit
    told_place change = record { target = change.target; operation = told_operation change.kind (told_value change) }

    abbrev told_places : List Change → List PlacedEdit
    told_places [] = []
    told_places (change ∷ changes) = told_place change ∷ told_places changes

    abbrev place_before : Operation Data → Result (List PlacedEdit) StreamFault → List Seg → Result (List PlacedEdit) StreamFault
    place_before operation more target = more >>= λ (edits : List PlacedEdit). Ok (record { target = target; operation = operation } ∷ edits)

    places_again : (n : ℕ) (changes : List Change) → AllByRecursion (IsHearableChange nodes) changes → edits_placed nodes (told_edits n changes) ≡ Ok (told_places changes)
    places_again n [] each = refl
    places_again n (change ∷ changes) each =
        let operation = told_operation change.kind (told_value change) in
        ap (λ (r : Result (List Seg) StreamFault). r >>= place_before operation (edits_placed nodes (told_edits (n + 1) changes))) (place_again change.target each.0.sendable.target each.0.keys
        (open_end (carries_value change.kind) change.target change.rows each.0.sendable.target each.0.place each.0.whole))
        ∙ ap (λ (more : Result (List PlacedEdit) StreamFault). place_before operation more change.target) (places_again (n + 1) changes each.1)

    -- the change that a value makes
    abbrev value_heard : ChangeKind → List Seg → Result (List Row) DataFault → Result Change StreamFault
    value_heard kind target found = of_data found >>= λ (rows : List Row). Ok (heard_change kind target rows)

    abbrev change_with : ChangeKind → List Seg → List Row → Option (List Atom) → Change
    change_with kind target rows after = record { kind = kind; target = target; rows = rows; after = after }

    change_again : (kind : ChangeKind) (target : List Seg) (rows : List Row) (after : Option (List Atom)) → is_served kind ≡ true → after ≡ None → HasWholeRows nodes (carries_value kind) target rows
        → edit_heard nodes target (told_operation kind (rows_json nodes target rows)) ≡ Ok (change_with kind target rows after)
    change_again kinds.Create target rows after served none whole =
        ap (value_heard kinds.Create target) (data_read target rows whole) ∙ ap (λ (o : Option (List Atom)). Ok (change_with kinds.Create target rows o)) (sym none)
    change_again kinds.Delete target rows after served none whole =
        ap (λ (rs : List Row). Ok (change_with kinds.Delete target rs None)) (sym whole) ∙ ap (λ (o : Option (List Atom)). Ok (change_with kinds.Delete target rows o)) (sym none)
    change_again kinds.Insert target rows after served none whole = absurd (true≢false (sym served))
    change_again kinds.Move target rows after served none whole = absurd (true≢false (sym served))
    change_again kinds.Replace target rows after served none whole =
        ap (value_heard kinds.Replace target) (data_read target rows whole) ∙ ap (λ (o : Option (List Atom)). Ok (change_with kinds.Replace target rows o)) (sym none)

    abbrev heard_before : Result (List Change) StreamFault → Change → Result (List Change) StreamFault
    heard_before more change = more >>= λ (changes : List Change). Ok (change ∷ changes)

    all_heard : (changes : List Change) → AllByRecursion (IsHearableChange nodes) changes → edits_heard nodes (told_places changes) ≡ Ok changes
    all_heard [] each = refl
    all_heard (change ∷ changes) each =
        ap (λ (r : Result Change StreamFault). r >>= heard_before (edits_heard nodes (told_places changes)))
        (change_again change.kind change.target change.rows change.after each.0.sendable.served each.0.sendable.after each.0.whole)
        ∙ ap (λ (more : Result (List Change) StreamFault). heard_before more change) (all_heard changes each.1)

    -- ---- notices

    abbrev id_told : StateChange → Option ℕ → Result Notice StreamFault
    id_told state found = or_fault Member found >>= λ (id : ℕ). Ok (state_notice state id)

    abbrev rows_told : ℕ → Result (List Row) DataFault → Result Notice StreamFault
    rows_told id found = of_data found >>= λ (rows : List Row). Ok (notices.Full id rows)

    abbrev full_told : Option FullBody → Result Notice StreamFault
    full_told found = or_fault Member found >>= λ (full : FullBody). rows_told full.id (rows_read nodes [] full.contents)

    abbrev changes_told : ChangesBody → Result (List Change) StreamFault → Result Notice StreamFault
    changes_told body found = found >>= λ (changes : List Change). Ok (notices.Changes body.id body.patch.id changes body.incomplete)

    abbrev edits_told : ChangesBody → Result (List PlacedEdit) StreamFault → Result Notice StreamFault
    edits_told body found = found >>= λ (edits : List PlacedEdit). changes_told body (edits_heard nodes edits)

    abbrev body_told : Option ChangesBody → Result Notice StreamFault
    body_told found = or_fault Member found >>= λ (body : ChangesBody). edits_told body (edits_placed nodes body.patch.edits)

    served_all : (changes : List Change) → AllByRecursion (IsHearableChange nodes) changes → AreServed changes
    served_all [] each = tt
    served_all (change ∷ changes) each = (each.0.sendable.served, served_all changes each.1)

    update_again : (id patch_id : ℕ) (changes : List Change) (incomplete : Bool) → id < 2 ^ 32 → AreHearable nodes patch_id changes
        → body_told (changes_in (body_of nodes (notices.Changes id patch_id changes incomplete))) ≡ Ok (notices.Changes id patch_id changes incomplete)
    update_again id patch_id changes incomplete low hearable =
        let body = told_changes id patch_id changes incomplete in
        ap body_told (changes_again id patch_id changes incomplete low (patch_again patch_id changes hearable.patch hearable.few (served_all changes hearable.each)))
        ∙ ap (edits_told body) (places_again 1 changes hearable.each)
        ∙ ap (changes_told body) (all_heard changes hearable.each)

    -- what the envelope of a notice tells is the notice
    pub notice_again : (time : List ℕ) (notice : Notice) → IsHearable nodes notice → notice_heard nodes (record { time = time; name = name_of notice; body = object (body_of nodes notice) }) ≡ Ok notice
    notice_again time (notices.Full id rows) h = ap full_told (full_again id rows h.id) ∙ ap (rows_told id) (data_read [] rows h.body)
    notice_again time (notices.Changes id patch_id changes incomplete) h = update_again id patch_id changes incomplete h.id h.body
    notice_again time (notices.Started id) h = ap (id_told Started) (within id h.id)
    notice_again time (notices.Modified id) h = ap (id_told Modified) (within id h.id)
    notice_again time (notices.Suspended id) h = ap (id_told Suspended) (within id h.id)
    notice_again time (notices.Resumed id) h = ap (id_told Resumed) (within id h.id)
    notice_again time (notices.Terminated id) h = ap (id_told Terminated) (within id h.id)

-- ---- the envelope

abbrev told_envelope : List ℕ → List ℕ × Data → Envelope
told_envelope time told = record { time = time; name = told.0; body = told.1 }

abbrev with_time : Option (List ℕ × Data) → List ℕ → Option Envelope
with_time told time = option_map (told_envelope time) told

abbrev pub enveloped : List ℕ → List ℕ → Data → Data
enveloped time name body = object (member (codes "ietf-restconf:notification") (object (member (codes "eventTime") (string time) (member name body no_members))) no_members)

envelope_again : (time name : List ℕ) (body : Data) → is_some (event_in time) ≡ true → same_text name (codes "eventTime") ≡ false
    → envelope_in (enveloped time name body) ≡ Some (record { time = time; name = name; body = body })
envelope_again time name body timed other =
    ap (λ t. option_and_then (with_time (other_member (codes "eventTime") (member name body no_members))) (cond t (Some time) None)) timed
    ∙ ap (λ t. with_time (cond t None (Some (name, body))) time) other

other_name : (notice : Notice) → same_text (name_of notice) (codes "eventTime") ≡ false
other_name (notices.Full id rows) = refl
other_name (notices.Changes id patch_id changes incomplete) = refl
other_name (notices.Started id) = refl
other_name (notices.Modified id) = refl
other_name (notices.Suspended id) = refl
other_name (notices.Resumed id) = refl
other_name (notices.Terminated id) = refl

abbrev heard_at : List ℕ → Result Notice StreamFault → Result Heard StreamFault
heard_at time found = found >>= λ (notice : Notice). Ok (record { time = time; notice = notice })

abbrev envelope_told : List SchemaNode → Option Envelope → Result Heard StreamFault
envelope_told nodes found = or_fault NoEnvelope found >>= λ (envelope : Envelope). heard_at envelope.time (notice_heard nodes envelope)

-- the JSON of a notice is heard as the notice
pub json_again : (nodes : List SchemaNode) (time : List ℕ) (notice : Notice)
    → ((path : List Seg) → is_path_of nodes path ≡ true → has_texts path ≡ true → target_in nodes (target_text nodes path) ≡ Ok path)
    → ((at : List Seg) (rows : List Row) → AreWhole nodes at rows → rows_read nodes at (rows_json nodes at rows) ≡ Ok rows)
    → is_some (event_in time) ≡ true → IsHearable nodes notice
    → heard_in nodes (enveloped time (name_of notice) (object (body_of nodes notice))) ≡ Ok (record { time = time; notice = notice })
json_again nodes time notice targets data_read timed h =
    ap (envelope_told nodes) (envelope_again time (name_of notice) (object (body_of nodes notice)) timed (other_name notice))
    ∙ ap (heard_at time) (notice_again nodes targets data_read time notice h)
