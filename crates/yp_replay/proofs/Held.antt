-- What a receiver holds after lines: rows of the schema, in order, by ids that ascend.
use Rattle.std.proofs.Common.{◌≡◌, ℕ, Bool, true, false, true≢false, not, List, [], ◌∷◌, Some, Result, Ok, Err, IfOk, refl, sym, ap, ◌∙◌, cond, unwrap_or, Less, Equal, Greater}
use Rattle.std.specs.BTreeMap.{insert_entry, is_at}
use Rattle.std.specs.List.{AllByRecursion}
use Rattle.std.specs.List.Sorted.{IsStrictlySortedBy}
use Rattle.std.specs.Map.{keys_of}
use Rattle.std.specs.Ordering.{nat_cmp, match_ordering, ordering_reverse}
use Rattle.std.specs.Prelude.{filter}
use Rattle.std.specs.declared.cmp.Ordering.{Ordering}
use Rattle.std.proofs.lemmas.Cmp.{nat_cmp_total}
use Rattle.yp_base.specs.declared.notice.Change.{Change}
use Rattle.yp_base.specs.declared.notice.Notice.{Notice}
use Rattle.yp_base.specs.declared.notice.Notice.TheVariants.{Full, Changes, Started, Modified, Suspended, Resumed, Terminated}
use Rattle.yp_base.specs.declared.path.Seg.{Seg}
use Rattle.yp_base.specs.declared.row.Row.{Row}
use Rattle.yp_base.specs.Order.{is_within}
use Rattle.yp_base.specs.Rows.{AreInOrder, changed_by, put_rows, rows_without}
use Rattle.yp_base.specs.RowLaws.{all_puts, none_order, puts_order, without_keeps_order}
use Rattle.yp_schema.specs.declared.schema.SchemaNode.{SchemaNode}
use Rattle.yp_schema.specs.Datastore.{IsRowOf, AreWritable}
use Rattle.yp_path.specs.TargetLaws.{ReadFits}
use Rattle.yp_data_json.specs.ReadLaws.{ReadsWhole}
use Rattle.yp_decode.specs.declared.fault.StreamFault.{StreamFault}
use Rattle.yp_decode.specs.declared.line.Heard.{Heard}
use Rattle.yp_decode.specs.Grammar.{line_heard}
use Rattle.yp_receiver.specs.Held.{held_of, hears, told, line_taken, lines_heard}
use Rattle.yp_replay.proofs.Heard.{AreRows, CarriesRows, TellsRows, line_is}

-- ---- rows

-- rows of the schema, in order
pub record AreHeld (nodes : List SchemaNode) (rows : List Row) : Type 0 where
  pub order : AreInOrder rows
  pub of_schema : AreRows nodes rows

no_rows : (nodes : List SchemaNode) → AreHeld nodes []
no_rows nodes = record { order = none_order; of_schema = tt }

put_held : (nodes : List SchemaNode) (news rows : List Row) → AreRows nodes news → AreHeld nodes rows → AreHeld nodes (put_rows news rows)
put_held nodes news rows new held = record { order = puts_order news rows held.order; of_schema = all_puts (IsRowOf nodes) news rows new held.of_schema }

all_kept : (P : Row → Type 0) (p : Row → Bool) (rows : List Row) → AllByRecursion P rows → AllByRecursion P (filter p rows)
all_kept P p [] all = tt
all_kept P p (row ∷ rows) all =
    elim (p row) as (λ b. AllByRecursion P (cond b (row ∷ filter p rows) (filter p rows))) [
      | true ↦ (all.0, all_kept P p rows all.1)
      | false ↦ all_kept P p rows all.1
    ]

without_held : (nodes : List SchemaNode) (path : List Seg) (rows : List Row) → AreHeld nodes rows → AreHeld nodes (rows_without path rows)
without_held nodes path rows held = record { order = without_keeps_order path rows held.order; of_schema = all_kept (IsRowOf nodes) (λ row. not (is_within path row.path)) rows held.of_schema }

changed_held : (nodes : List SchemaNode) (changes : List Change) (rows : List Row) → AllByRecursion (CarriesRows nodes) changes → AreHeld nodes rows → AreHeld nodes (changed_by changes rows)
changed_held nodes [] rows carry held = held
changed_held nodes (change ∷ changes) rows carry held =
    changed_held nodes changes (put_rows change.rows (rows_without change.target rows)) carry.1 (put_held nodes change.rows (rows_without change.target rows) carry.0 (without_held nodes change.target rows held))

-- ---- what is held of all subscriptions

abbrev AllHeld : List SchemaNode → List (ℕ × List Row) → Type 0
AllHeld nodes held = AllByRecursion (λ (each : ℕ × List Row). AreHeld nodes each.1) held

set_at : (r : Ordering) (nodes : List SchemaNode) (id : ℕ) (rows : List Row) (first : ℕ × List Row) (held set : List (ℕ × List Row)) → AreHeld nodes rows → AreHeld nodes first.1 → AllHeld nodes held → AllHeld nodes set
    → AllHeld nodes (match_ordering r ((id, rows) ∷ first ∷ held) ((first.0, rows) ∷ held) (first ∷ set))
set_at Less nodes id rows first held set new old all later = (new, (old, all))
set_at Equal nodes id rows first held set new old all later = (new, all)
set_at Greater nodes id rows first held set new old all later = (old, later)

set_held : (nodes : List SchemaNode) (id : ℕ) (rows : List Row) (held : List (ℕ × List Row)) → AreHeld nodes rows → AllHeld nodes held → AllHeld nodes (insert_entry nat_cmp held id rows)
set_held nodes id rows [] new all = (new, tt)
set_held nodes id rows (first ∷ held) new all = set_at (nat_cmp id first.0) nodes id rows first held (insert_entry nat_cmp held id rows) new all.0 all.1 (set_held nodes id rows held new all.1)

rows_held : (nodes : List SchemaNode) (id : ℕ) (held : List (ℕ × List Row)) → AllHeld nodes held → AreHeld nodes (unwrap_or (held_of id held) [])
rows_held nodes id [] all = no_rows nodes
rows_held nodes id (first ∷ held) all =
    elim (is_at (nat_cmp id) first.0) as (λ b. AreHeld nodes (unwrap_or (cond b (Some first.1) (held_of id held)) [])) [
      | true ↦ all.0
      | false ↦ rows_held nodes id held all.1
    ]

-- ---- ids that ascend

abbrev AllAbove : ℕ → List (ℕ × List Row) → Type 0
AllAbove id held = AllByRecursion (λ other. nat_cmp id other ≡ Less) (keys_of held)

abbrev Ascend : List (ℕ × List Row) → Type 0
Ascend held = IsStrictlySortedBy nat_cmp (keys_of held)

above_all : (id next : ℕ) (held : List (ℕ × List Row)) → nat_cmp id next ≡ Less → AllAbove next held → AllAbove id held
above_all id next [] less all = tt
above_all id next (first ∷ held) less all = (nat_cmp_total.trans id next first.0 less all.0, above_all id next held less all.1)

set_above : (least id : ℕ) (rows : List Row) (held : List (ℕ × List Row)) → nat_cmp least id ≡ Less → AllAbove least held → AllAbove least (insert_entry nat_cmp held id rows)
set_above least id rows [] less all = (less, tt)
set_above least id rows (first ∷ held) less all =
    elim (nat_cmp id first.0) as (λ r. AllAbove least (match_ordering r ((id, rows) ∷ first ∷ held) ((first.0, rows) ∷ held) (first ∷ insert_entry nat_cmp held id rows))) [
      | Less ↦ (less, all)
      | Equal ↦ all
      | Greater ↦ (all.0, set_above least id rows held less all.1)
    ]

turned : (id next : ℕ) → nat_cmp id next ≡ Greater → nat_cmp next id ≡ Less
turned id next greater = nat_cmp_total.antisymm next id ∙ ap ordering_reverse greater

set_ascends : (id : ℕ) (rows : List Row) (held : List (ℕ × List Row)) → Ascend held → Ascend (insert_entry nat_cmp held id rows)
unfolding IsStrictlySortedBy
set_ascends id rows [] ascend = (tt, tt)
set_ascends id rows (first ∷ held) ascend =
    elim (nat_cmp id first.0) as (λ r. nat_cmp id first.0 ≡ r → IsStrictlySortedBy nat_cmp (keys_of (match_ordering r ((id, rows) ∷ first ∷ held) ((first.0, rows) ∷ held) (first ∷ insert_entry nat_cmp held id rows)))) [
      | Less ↦ λ less. ((less, above_all id first.0 held less ascend.0), ascend)
      | Equal ↦ λ same. ascend
      | Greater ↦ λ greater. (set_above first.0 id rows held (turned id first.0 greater) ascend.0, set_ascends id rows held ascend.1)
    ] refl

-- ---- lines

hears_held : (nodes : List SchemaNode) (notice : Notice) (held : List (ℕ × List Row)) → TellsRows nodes notice → AllHeld nodes held → AllHeld nodes (hears notice held)
hears_held nodes (Full id rows) held tells all = set_held nodes id (put_rows rows []) held (put_held nodes rows [] tells (no_rows nodes)) all
hears_held nodes (Changes id patch_id changes incomplete) held tells all =
    set_held nodes id (changed_by changes (unwrap_or (held_of id held) [])) held (changed_held nodes changes (unwrap_or (held_of id held) []) tells (rows_held nodes id held all)) all
hears_held nodes (Started id) held tells all = all
hears_held nodes (Modified id) held tells all = all
hears_held nodes (Suspended id) held tells all = all
hears_held nodes (Resumed id) held tells all = all
hears_held nodes (Terminated id) held tells all = all

told_held : (nodes : List SchemaNode) (line : Result Heard StreamFault) (held : List (ℕ × List Row)) → IfOk line (λ heard. TellsRows nodes heard.notice) → AllHeld nodes held → AllHeld nodes (told line held)
told_held nodes (Ok heard) held tells all = hears_held nodes heard.notice held tells all
told_held nodes (Err fault) held tells all = all

lines_held : (fits : ReadFits) (whole : ReadsWhole) (nodes : List SchemaNode) (lines : List (List ℕ)) (held : List (ℕ × List Row)) → AllHeld nodes held → AllHeld nodes (lines_heard nodes held lines)
lines_held fits whole nodes [] held all = all
lines_held fits whole nodes (line ∷ lines) held all =
    lines_held fits whole nodes lines (line_taken nodes held line) (told_held nodes (line_heard nodes line) held (line_is fits whole nodes line) all)

hears_ascends : (notice : Notice) (held : List (ℕ × List Row)) → Ascend held → Ascend (hears notice held)
hears_ascends (Full id rows) held ascend = set_ascends id (put_rows rows []) held ascend
hears_ascends (Changes id patch_id changes incomplete) held ascend = set_ascends id (changed_by changes (unwrap_or (held_of id held) [])) held ascend
hears_ascends (Started id) held ascend = ascend
hears_ascends (Modified id) held ascend = ascend
hears_ascends (Suspended id) held ascend = ascend
hears_ascends (Resumed id) held ascend = ascend
hears_ascends (Terminated id) held ascend = ascend

told_ascends : (line : Result Heard StreamFault) (held : List (ℕ × List Row)) → Ascend held → Ascend (told line held)
told_ascends (Ok heard) held ascend = hears_ascends heard.notice held ascend
told_ascends (Err fault) held ascend = ascend

lines_ascend : (nodes : List SchemaNode) (lines : List (List ℕ)) (held : List (ℕ × List Row)) → Ascend held → Ascend (lines_heard nodes held lines)
lines_ascend nodes [] held ascend = ascend
lines_ascend nodes (line ∷ lines) held ascend = lines_ascend nodes lines (line_taken nodes held line) (told_ascends (line_heard nodes line) held ascend)

none_ascend : Ascend []
unfolding IsStrictlySortedBy
none_ascend = tt

-- the ids of what is held after lines ascend
pub ids_ascend : (nodes : List SchemaNode) (lines : List (List ℕ)) → Ascend (lines_heard nodes [] lines)
ids_ascend nodes lines = lines_ascend nodes lines [] none_ascend

writable : (nodes : List SchemaNode) (rows : List Row) → AreHeld nodes rows → AreWritable nodes [] rows
writable nodes rows held = record {
  place = refl;
  in_order = held.order;
  of_schema = held.of_schema;
  within = all_within rows;
  leaf = λ leaf. absurd (true≢false (sym leaf));
}
  where
    all_within : (rows : List Row) → AllByRecursion (λ row. is_within [] row.path ≡ true) rows
    all_within [] = tt
    all_within (row ∷ rows) = (refl, all_within rows)

all_writable : (nodes : List SchemaNode) (held : List (ℕ × List Row)) → AllHeld nodes held → AllByRecursion (λ (each : ℕ × List Row). AreWritable nodes [] each.1) held
all_writable nodes [] all = tt
all_writable nodes (first ∷ held) all = (writable nodes first.1 all.0, all_writable nodes held all.1)

-- what is held after lines can be written
pub held_writable : (fits : ReadFits) (whole : ReadsWhole) (nodes : List SchemaNode) (lines : List (List ℕ)) → AllByRecursion (λ (each : ℕ × List Row). AreWritable nodes [] each.1) (lines_heard nodes [] lines)
held_writable fits whole nodes lines = all_writable nodes (lines_heard nodes [] lines) (lines_held fits whole nodes lines [] tt)
