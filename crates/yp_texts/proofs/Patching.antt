-- A patch whose texts are UTF-8 keeps the texts of rows, and so do the commands of a journal.
use Rattle.std.proofs.Common.{◌≡◌, ℕ, ◌+◌, ◌&&◌, ◌==◌, List, [], ◌∷◌, length, Bool, true, false, cond, not, nat_lt, Option, Some, None, option_map, option_and_then, Result, Ok, Err, IfSome, IfOk, refl}
use Rattle.std.specs.List.{AllByRecursion}
use Rattle.std.specs.Str.{is_utf8}
use Rattle.std.proofs.lemmas.Bool.{and_from}
use Rattle.percent_encoding.specs.Percent.{percent_decode}
use Rattle.serde_json.specs.Data.{Data}
use Rattle.yp_base.specs.declared.atom.Atom.{Atom}
use Rattle.yp_base.specs.declared.leaf_type.LeafType.{LeafType}
use Rattle.yp_base.specs.declared.path.Seg.{Seg}
use Rattle.yp_base.specs.declared.row.Row.{Row}
use Rattle.yp_base.specs.Cuts.{cut}
use Rattle.yp_base.specs.Order.{is_within}
use Rattle.yp_base.specs.Results.{◌>>=◌, or_fault}
use Rattle.yp_base.specs.RowLaws.{all_puts}
use Rattle.yp_base.specs.Rows.{put_rows, rows_without, has_within}
use Rattle.yp_value.specs.Texts.{atom_text}
use Rattle.yp_schema.specs.declared.schema.SchemaNode.{SchemaNode}
use Rattle.yp_schema.specs.Datastore.{ends_in_key}
use Rattle.yp_schema.specs.Nodes.{node_at}
use Rattle.yp_schema.specs.WellFormed.{IsSchema}
use Rattle.yp_path.specs.declared.fault.PathFault.{PathFault}
use Rattle.yp_path.specs.declared.fault.PathFault.TheVariants.{Syntax, UnknownNode, KeyCount, KeyValue}
use Rattle.yp_path.specs.Escapes.{has_whole_escapes, key_read}
use Rattle.yp_path.specs.Names.{child_named}
use Rattle.yp_path.specs.TargetGrammar.{TargetPart}
use Rattle.yp_path.specs.Targets.{name_part, key_parts, some_name, keys_read, asked, as_many, value_of, values_read, with_values, target_part_in, segment_in, segments_in, target_in, target_text, are_texts, has_texts}
use Rattle.yp_data_json.specs.declared.fault.DataFault.{DataFault}
use Rattle.yp_data_json.specs.AtPath.{rows_read}
use Rattle.yp_edit.specs.declared.fault.Tag.TheVariants.{InvalidValue, DataMissing, DataExists, TooBig}
use Rattle.yp_edit.specs.declared.halt.Refusal.{Refusal}
use Rattle.yp_patch.specs.declared.patch.Edit.{Edit}
use Rattle.yp_patch.specs.declared.patch.EditOp.{EditOp}
use Rattle.yp_patch.specs.declared.patch.EditOp.TheVariants.{Create, Delete, Insert, Merge, Move, Replace, Remove}
use Rattle.yp_patch.specs.declared.patch.Patch.{Patch}
use Rattle.yp_edit.specs.Patches.{RefusedEdit, refused, path_or, no_key, target_of, rows_or, value_rows, stand_above, row_limit, within_limit, new_rows, created, deleted, performed, edited, of_edit, all_edited, applied}
use Rattle.yp_journal.specs.declared.command.Command.{Command}
use Rattle.yp_journal.specs.declared.command.Command.TheVariants as commands
use Rattle.yp_journal.specs.declared.entry.Entry.{Entry}
use Rattle.yp_journal.specs.History.{JournalState, rows_after, next_state, state_of}
use Rattle.yp_attempt.specs.ListLaws.{all_filter}
use Rattle.yp_command.specs.SaidLaws.{then_is, or_is, itself_is}
use Rattle.yp_receiver.specs.Readable.{HaveTexts}
use Rattle.yp_utf8.specs.Utf8.{HasUtf8}
use Rattle.yp_texts.specs.Commands.{EditHasUtf8, CommandHasUtf8}
use Rattle.yp_texts.proofs.Atoms.{atom_read}
use Rattle.yp_texts.proofs.Reading.{RowHasTexts, node_type, rows_texts}

-- ---- the keys of a target

abbrev AllUtf8 : List (List ℕ) → Type 0
AllUtf8 texts = AllByRecursion (λ text. is_utf8 text ≡ true) texts

if_utf8 : (whole utf8 : Bool) (text : List ℕ) → is_utf8 text ≡ utf8 → IfSome (cond (whole && utf8) (Some text) None) (λ t. is_utf8 t ≡ true)
if_utf8 true true text is = is
if_utf8 true false text is = tt
if_utf8 false utf8 text is = tt

key_utf8 : (key : List ℕ) → IfSome (key_read key) (λ text. is_utf8 text ≡ true)
key_utf8 key = if_utf8 (has_whole_escapes key) (is_utf8 (percent_decode key)) (percent_decode key) refl

more_utf8 : (one : Option (List ℕ)) (rest : Option (List (List ℕ))) → IfSome one (λ text. is_utf8 text ≡ true) → IfSome rest AllUtf8 → IfSome (option_and_then (λ text. option_map (λ texts. text ∷ texts) rest) one) AllUtf8
more_utf8 None rest h k = tt
more_utf8 (Some text) None h k = tt
more_utf8 (Some text) (Some texts) h k = (h, k)

keys_utf8 : (keys : List (List ℕ)) → IfSome (keys_read keys) AllUtf8
keys_utf8 [] = tt
keys_utf8 (key ∷ keys) = more_utf8 (key_read key) (keys_read keys) (key_utf8 key) (keys_utf8 keys)

if_many : (b : Bool) (texts : List (List ℕ)) → AllUtf8 texts → IfSome (cond b (Some texts) None) AllUtf8
if_many true texts u = u
if_many false texts u = tt

abbrev KeysHaveTexts : List Atom → Type 0
KeysHaveTexts keys = are_texts keys ≡ true

abbrev SegHasTexts : Seg → Type 0
SegHasTexts seg = are_texts seg.keys ≡ true

abbrev PathHasTexts : List Seg → Type 0
PathHasTexts path = has_texts path ≡ true

more_values : (one : Option Atom) (rest : Option (List Atom)) → IfSome one (λ atom. is_utf8 (atom_text atom) ≡ true) → IfSome rest KeysHaveTexts → IfSome (option_and_then (λ value. option_map (λ values. value ∷ values) rest) one) KeysHaveTexts
more_values None rest h k = tt
more_values (Some atom) None h k = tt
more_values (Some atom) (Some atoms) h k = and_from (is_utf8 (atom_text atom)) (are_texts atoms) h k

path_kept : (r : Result (List Seg) PathFault) → IfOk r PathHasTexts → IfOk (path_or r) PathHasTexts
path_kept (Ok path) h = h
path_kept (Err e) h = tt

unless_key : (b : Bool) (refusal : Refusal) (path : List Seg) → has_texts path ≡ true → IfOk (cond b (Err refusal) (Ok path)) PathHasTexts
unless_key true refusal path h = tt
unless_key false refusal path h = h

if_slash : (b : Bool) (r : Result (List Seg) PathFault) → IfOk r PathHasTexts → IfOk (cond b r (Err Syntax)) PathHasTexts
if_slash true r h = h
if_slash false r h = tt

-- ---- rows

without_texts : (path : List Seg) (rows : List Row) → HaveTexts rows → HaveTexts (rows_without path rows)
without_texts path rows h = all_filter RowHasTexts (λ row. not (is_within path row.path)) rows h

puts_texts : (news rows : List Row) → HaveTexts news → HaveTexts rows → HaveTexts (put_rows news rows)
puts_texts news rows new h = all_puts RowHasTexts news rows new h

abbrev Kept : Result (List Row) Refusal → Type 0
Kept r = IfOk r HaveTexts

rows_kept : (r : Result (List Row) DataFault) → IfOk r HaveTexts → Kept (rows_or r)
rows_kept (Ok rows) h = h
rows_kept (Err e) h = tt

either_kept : (b : Bool) (one two : Result (List Row) Refusal) → Kept one → Kept two → Kept (cond b one two)
either_kept true one two h k = h
either_kept false one two h k = k

created_texts : (target : List Seg) (new rows : List Row) → HaveTexts new → HaveTexts rows → Kept (created target new rows)
created_texts target new rows n h = either_kept (has_within target rows) (refused DataExists) (Ok (put_rows new rows)) tt (puts_texts new rows n h)

deleted_texts : (target : List Seg) (rows : List Row) → HaveTexts rows → Kept (deleted target rows)
deleted_texts target rows h = either_kept (has_within target rows) (Ok (rows_without target rows)) (refused DataMissing) (without_texts target rows h) tt

limit_texts : (rows : List Row) → HaveTexts rows → Kept (within_limit rows)
limit_texts rows h = either_kept (nat_lt row_limit (length rows)) (refused TooBig) (Ok rows) tt h

of_edit_texts : (n : ℕ) (r : Result (List Row) Refusal) → Kept r → IfOk (of_edit n r) HaveTexts
of_edit_texts n (Ok rows) h = h
of_edit_texts n (Err refusal) h = tt

after_texts : (rows : List Row) (r : Result (List Row) RefusedEdit) → HaveTexts rows → IfOk r HaveTexts → HaveTexts (rows_after rows r)
after_texts rows (Ok after) h k = k
after_texts rows (Err refusal) h k = h

module _ (nodes : List SchemaNode) (schema : IsSchema nodes) where
  value_texts : (n : ℕ) (text : List ℕ) → is_utf8 text ≡ true → IfSome (value_of (node_at n nodes).ty text) (λ atom. is_utf8 (atom_text atom) ≡ true)
  value_texts n text u =
      elim (node_at n nodes).ty as (λ (o : Option LeafType). (node_at n nodes).ty ≡ o → IfSome (value_of o text) (λ atom. is_utf8 (atom_text atom) ≡ true)) [
        | None ↦ λ is. tt
        | Some ty ↦ λ is. atom_read ty text (node_type nodes schema n ty is) u
      ] refl

  values_texts : (ks : List ℕ) (texts : List (List ℕ)) → AllUtf8 texts → IfSome (values_read nodes ks texts) KeysHaveTexts
  values_texts [] texts u = refl
  values_texts (k ∷ ks) [] u = refl
  values_texts (k ∷ ks) (text ∷ texts) u = more_values (value_of (node_at k nodes).ty text) (values_read nodes ks texts) (value_texts k text u.0) (values_texts ks texts u.1)

  with_values_texts : (n : ℕ) (ks : List ℕ) (texts : List (List ℕ)) → AllUtf8 texts → IfOk (with_values nodes n ks texts) SegHasTexts
  with_values_texts n ks texts u =
      then_is (or_fault KeyCount (as_many ks texts)) (λ counted. or_fault KeyValue (values_read nodes ks counted) >>= λ keys. Ok (record { node = n; keys = keys })) AllUtf8 SegHasTexts
      (or_is KeyCount (as_many ks texts) AllUtf8 (if_many (length ks == length texts) texts u))
      (λ counted v.
      then_is (or_fault KeyValue (values_read nodes ks counted)) (λ keys. Ok (record { node = n; keys = keys })) KeysHaveTexts SegHasTexts
      (or_is KeyValue (values_read nodes ks counted) KeysHaveTexts (values_texts ks counted v)) (λ keys texts_of. texts_of))

  part_texts : (parent : Option ℕ) (part : TargetPart) → AllUtf8 part.keys → IfOk (target_part_in nodes parent part) SegHasTexts
  part_texts parent part u =
      let found = child_named parent part.name nodes in
      then_is (or_fault UnknownNode found) (λ n. with_values nodes n (asked n nodes) part.keys) (λ n. found ≡ Some n) SegHasTexts (or_is UnknownNode found (λ n. found ≡ Some n) (itself_is found))
      (λ n is. with_values_texts n (asked n nodes) part.keys u)

  segment_texts : (parent : Option ℕ) (part : List ℕ) → IfOk (segment_in nodes parent part) SegHasTexts
  segment_texts parent part =
      let named = some_name (name_part part) in
      then_is (or_fault Syntax named) (λ name. or_fault Syntax (keys_read (key_parts part)) >>= λ texts. target_part_in nodes parent (record { name = name; keys = texts })) (λ name. named ≡ Some name) SegHasTexts
      (or_is Syntax named (λ name. named ≡ Some name) (itself_is named))
      (λ name is.
      then_is (or_fault Syntax (keys_read (key_parts part))) (λ texts. target_part_in nodes parent (record { name = name; keys = texts })) AllUtf8 SegHasTexts
      (or_is Syntax (keys_read (key_parts part)) AllUtf8 (keys_utf8 (key_parts part)))
      (λ texts u. part_texts parent (record { name = name; keys = texts }) u))

  segments_texts : (parts : List (List ℕ)) (parent : Option ℕ) → IfOk (segments_in nodes parent parts) PathHasTexts
  segments_texts [] parent = refl
  segments_texts (part ∷ parts) parent =
      then_is (segment_in nodes parent part) (λ seg. segments_in nodes (Some seg.node) parts >>= λ segs. Ok (seg ∷ segs)) SegHasTexts PathHasTexts (segment_texts parent part)
      (λ seg texts.
      then_is (segments_in nodes (Some seg.node) parts) (λ segs. Ok (seg ∷ segs)) PathHasTexts PathHasTexts (segments_texts parts (Some seg.node))
      (λ segs more. and_from (are_texts seg.keys) (has_texts segs) texts more))

  -- the keys of a target have texts that are UTF-8, whatever its text
  pub target_texts : (text : List ℕ) → IfOk (target_in nodes text) PathHasTexts
  target_texts [] = tt
  target_texts (b ∷ bs) = if_slash (b == 47) (segments_in nodes None (cut 47 bs)) (segments_texts (cut 47 bs) None)

  target_of_texts : (text : List ℕ) → IfOk (target_of nodes text) PathHasTexts
  target_of_texts text =
      then_is (path_or (target_in nodes text)) (no_key nodes) PathHasTexts PathHasTexts (path_kept (target_in nodes text) (target_texts text))
      (λ path h. unless_key (ends_in_key nodes path) (record { tag = InvalidValue; path = Some (target_text nodes path) }) path h)

  -- ---- edits

  value_rows_texts : (target : List Seg) (value : Option Data) → has_texts target ≡ true → IfSome value HasUtf8 → Kept (value_rows nodes target value)
  value_rows_texts target None texts u = tt
  value_rows_texts target (Some d) texts u = rows_kept (rows_read nodes target d) (rows_texts nodes schema target d texts u)

  new_rows_texts : (target : List Seg) (value : Option Data) (rows : List Row) → has_texts target ≡ true → IfSome value HasUtf8 → Kept (new_rows nodes target value rows)
  new_rows_texts target value rows texts u =
      then_is (value_rows nodes target value) (λ new. cond (stand_above nodes target rows) (Ok new) (refused DataMissing)) HaveTexts HaveTexts (value_rows_texts target value texts u)
      (λ new h. either_kept (stand_above nodes target rows) (Ok new) (refused DataMissing) h tt)

  performed_texts : (op : EditOp) (target : List Seg) (value : Option Data) (rows : List Row) → has_texts target ≡ true → IfSome value HasUtf8 → HaveTexts rows → Kept (performed op nodes target value rows)
  performed_texts Create target value rows texts u h =
      then_is (new_rows nodes target value rows) (λ new. created target new rows) HaveTexts HaveTexts (new_rows_texts target value rows texts u) (λ new n. created_texts target new rows n h)
  performed_texts Merge target value rows texts u h =
      then_is (new_rows nodes target value rows) (λ new. Ok (put_rows new rows)) HaveTexts HaveTexts (new_rows_texts target value rows texts u) (λ new n. puts_texts new rows n h)
  performed_texts Replace target value rows texts u h =
      then_is (new_rows nodes target value rows) (λ new. Ok (put_rows new (rows_without target rows))) HaveTexts HaveTexts (new_rows_texts target value rows texts u)
      (λ new n. puts_texts new (rows_without target rows) n (without_texts target rows h))
  performed_texts Delete target value rows texts u h = deleted_texts target rows h
  performed_texts Remove target value rows texts u h = without_texts target rows h
  performed_texts Insert target value rows texts u h = tt
  performed_texts Move target value rows texts u h = tt

  edited_texts : (rows : List Row) (edit : Edit) → EditHasUtf8 edit → HaveTexts rows → Kept (edited nodes rows edit)
  edited_texts rows edit u h =
      then_is (target_of nodes edit.target) (λ target. performed edit.op nodes target edit.value rows >>= within_limit) PathHasTexts HaveTexts (target_of_texts edit.target)
      (λ target texts. then_is (performed edit.op nodes target edit.value rows) within_limit HaveTexts HaveTexts (performed_texts edit.op target edit.value rows texts u h) limit_texts)

  -- ---- patches and journals

  edits_texts : (edits : List Edit) (n : ℕ) (rows : List Row) → AllByRecursion EditHasUtf8 edits → HaveTexts rows → IfOk (all_edited nodes n rows edits) HaveTexts
  edits_texts [] n rows u h = h
  edits_texts (edit ∷ edits) n rows u h =
      then_is (of_edit n (edited nodes rows edit)) (λ after. all_edited nodes (n + 1) after edits) HaveTexts HaveTexts (of_edit_texts n (edited nodes rows edit) (edited_texts rows edit u.0 h))
      (λ after k. edits_texts edits (n + 1) after u.1 k)

  -- a patch with UTF-8 texts keeps those of rows
  pub applied_texts : (rows : List Row) (patch : Patch) → AllByRecursion EditHasUtf8 patch.edits → HaveTexts rows → IfOk (applied nodes rows patch) HaveTexts
  applied_texts rows patch u h = edits_texts patch.edits 0 rows u h

  next_texts : (state : JournalState) (command : Command) → CommandHasUtf8 command → HaveTexts state.rows → HaveTexts (next_state nodes state command).rows
  next_texts state (commands.Tick tick) u h = h
  next_texts state (commands.Edit patch) u h = after_texts state.rows (applied nodes state.rows patch) h (applied_texts state.rows patch u h)
  next_texts state (commands.Rules policy) u h = h
  next_texts state (commands.Establish by ask) u h = h
  next_texts state (commands.Modify by id amend) u h = h
  next_texts state (commands.Delete by id) u h = h
  next_texts state (commands.Kill by id) u h = h
  next_texts state (commands.Resync by id) u h = h
  next_texts state (commands.Configure id receivers ask) u h = h
  next_texts state (commands.Reconfigure id amend) u h = h
  next_texts state (commands.Unconfigure id) u h = h
  next_texts state (commands.Take receiver count) u h = h

  -- and so do the entries of a journal
  pub state_texts : (entries : List Entry) (state : JournalState) → AllByRecursion (λ entry. CommandHasUtf8 entry.command) entries → HaveTexts state.rows → HaveTexts (state_of nodes state entries).rows
  state_texts [] state u h = h
  state_texts (entry ∷ entries) state u h = state_texts entries (next_state nodes state entry.command) u.1 (next_texts state entry.command u.0 h)
