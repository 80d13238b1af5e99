-- Between two datastores selections differ only where a step looks.
use Rattle.std.proofs.Common.{◌≡◌, List, [], ◌∷◌, ◌++◌, refl, sym, ap, subst, ◌∙◌, cond, Bool, true, false, true≢false, ◌&&◌, ◌||◌, Option, Some, None, append-nil}
use Rattle.std.specs.Prelude.{is_some}
use Rattle.std.specs.Ordering.{is_eq}
use Rattle.yp_base.specs.declared.path.Seg.{Seg}
use Rattle.yp_base.specs.declared.row.Value.{Value}
use Rattle.yp_base.specs.declared.row.Value.TheVariants.{Present}
use Rattle.yp_base.specs.declared.row.Row.{Row}
use Rattle.yp_base.specs.declared.leaf_type.LeafType.{LeafType}
use Rattle.yp_base.specs.Order.{path_cmp, is_within}
use Rattle.yp_base.specs.Paths.{last_node}
use Rattle.yp_base.specs.PathLaws.{ties_itself, within_rest}
use Rattle.yp_base.specs.Rows.{value_at}
use Rattle.yp_schema.specs.declared.schema.SchemaNode.{SchemaNode}
use Rattle.yp_schema.specs.declared.schema.Kind.{Kind}
use Rattle.yp_schema.specs.declared.schema.Kind.TheVariants.{Container, Presence, List as Listing, Leaf, LeafList}
use Rattle.yp_schema.specs.Nodes.{node_at}
use Rattle.yp_schema.specs.WellFormed.{IsSchema}
use Rattle.yp_schema.specs.Datastore.{has_row, value_of_kind, is_entry_kind, last_kind_is, ends_in_entry, goes_to_row, IsDatastore}
use Rattle.yp_schema.specs.SchemaLaws.{row_node, present_is}
use Rattle.yp_filter.specs.Filters.{Asked}
use Rattle.yp_nacm.specs.Decision.{visible_rows}
use Rattle.yp_changes.specs.declared.changed.ChangedRow.{ChangedRow}
use Rattle.yp_changes.specs.Among.{is_listed}
use Rattle.yp_changes.specs.Changes.{changed_rows}
use Rattle.yp_changes.specs.ChangeLaws.{paths_in, change_in, changed_at, no_change}
use Rattle.yp_changes.specs.Records.{changed_paths}
use Rattle.yp_select.specs.Places.{path_above, is_compared, moved_place, is_moved}
use Rattle.yp_select.specs.PlaceLaws.{above_within, selection_local}
use Rattle.yp_kept.specs.Selection.{kept, selection}
use Rattle.yp_kept.specs.KeptLaws.{value_kept}
use Rattle.yp_touch.specs.Absorbed.{EndsAsRow}
use Rattle.yp_touch.specs.Looked.{can_move, is_looked_at}
use Rattle.yp_touch.specs.RootLaws.{found_one}
use Rattle.yp_touch.specs.RecordLaws.{rows_end, changed_hold, unchanged, there_of_schema, below_row}
use Rattle.yp_touch.proofs.Topped.{listed_of, none_true}

-- ---- entries

entry_value : (kind : Kind) (ty : Option LeafType) (value : Value) → is_entry_kind kind ≡ true → value_of_kind kind ty value ≡ true → value ≡ Present
entry_value Container ty value entry holds = absurd (true≢false (sym entry))
entry_value Presence ty value entry holds = present_is value holds
entry_value Listing ty value entry holds = present_is value holds
entry_value Leaf ty value entry holds = absurd (true≢false (sym entry))
entry_value LeafList ty value entry holds = absurd (true≢false (sym entry))

-- the value of the row of an entry
end_value : (nodes : List SchemaNode) (path : List Seg) (value : Value) → ends_in_entry nodes path ≡ true → goes_to_row nodes None path value ≡ true → value ≡ Present
end_value nodes [] value entry goes = absurd (true≢false (sym entry))
end_value nodes (seg ∷ path) value entry goes =
    let found = row_node nodes None (seg ∷ path) value goes in
    entry_value (node_at found.0 nodes).kind (node_at found.0 nodes).ty value
    (ap (last_kind_is is_entry_kind nodes) (sym found.1.0) ∙ entry) found.1.1

entry_present : (nodes : List SchemaNode) (rows : List Row) (path : List Seg) → IsDatastore nodes rows → ends_in_entry nodes path ≡ true → has_row path rows ≡ true → value_at path rows ≡ Some Present
entry_present nodes rows path datastore entry there =
    elim (value_at path rows) as (λ (v : Option Value). value_at path rows ≡ v → is_some v ≡ true → v ≡ Some Present) [
      | None ↦ λ e h. absurd (true≢false (sym h))
      | Some value ↦ λ e h. ap (λ (v : Value). Some v) (end_value nodes path value entry (there_of_schema nodes path value rows datastore.of_schema e).goes)
    ] refl there

-- ---- paths that stay as they are

listed_some : (path : List Seg) (changes : List ChangedRow) → is_listed path (paths_in changes) ≡ true → is_some (change_in path changes) ≡ true
listed_some path [] h = absurd (true≢false (sym h))
listed_some path (change ∷ changes) h =
    elim (is_eq (path_cmp path change.path)) as (λ b. (b || is_listed path (paths_in changes)) ≡ true → is_some (cond b (Some change) (change_in path changes)) ≡ true) [
      | true ↦ λ k. refl
      | false ↦ λ k. listed_some path changes k
    ] h

-- a path that has one value in both isn't changed
pub stays_same : (before after : List Row) (path : List Seg) → value_at path before ≡ value_at path after → is_listed path (changed_paths before after) ≡ true → ⊥
stays_same before after path same listed =
    let none : change_in path (changed_rows before after) ≡ None = changed_at before after path ∙ no_change path (value_at path before) (value_at path after) same in
    true≢false (sym (listed_some path (changed_rows before after) listed) ∙ ap is_some none)

gone : (b : Bool) (value : Option Value) → value ≡ None → cond b value None ≡ None
gone true value is = is
gone false value is = refl

-- where there is no row, none is selected
none_selected : (nodes : List SchemaNode) (asked : Asked) (readable : List Seg → Bool) (rows : List Row) (path : List Seg) → value_at path rows ≡ None → value_at path (selection nodes asked readable rows) ≡ None
none_selected nodes asked readable rows path is =
    value_kept nodes asked readable path rows ∙ gone (readable path && kept nodes asked (visible_rows readable rows) path) (value_at path rows) is

module _ (nodes : List SchemaNode) (schema : IsSchema nodes) (asked : Asked) (readable : List Seg → Bool) (before after : List Row) (old : IsDatastore nodes before) (new : IsDatastore nodes after) where
  -- a changed path is looked at
  looks_at_changed : (path : List Seg) → can_move nodes asked path path ≡ true
  looks_at_changed path =
      elim (is_compared nodes asked (last_node path)) as (λ b. cond b (is_within (path_above path) path) (is_eq (path_cmp path path)) ≡ true) [
        | true ↦ above_within path
        | false ↦ ties_itself path
      ]

  same_values : (path : List Seg) → value_at path before ≡ None → value_at path after ≡ None → value_at path (selection nodes asked readable before) ≡ value_at path (selection nodes asked readable after)
  same_values path was is =
      none_selected nodes asked readable before path was ∙ sym (none_selected nodes asked readable after path is)

  -- below a changed row nothing is in both
  below_changed : (one rest : List Seg) → is_listed one (changed_paths before after) ≡ true → has_row (one ++ rest) before ≡ true → has_row (one ++ rest) after ≡ true → rest ≡ []
  below_changed one rest listed was is =
      let ends = listed_of (EndsAsRow nodes) (changed_paths before after) one (changed_hold (EndsAsRow nodes) before after (rows_end nodes before old.of_schema) (rows_end nodes after new.of_schema)) listed in
      below_row nodes schema before old one rest ends was (λ none. none) (λ entry there.
      below_row nodes schema after new one rest ends is (λ none. none) (λ entry_so there_so.
      absurd (stays_same before after one (entry_present nodes before one old entry there ∙ sym (entry_present nodes after one new entry there_so)) listed)))

  unlooked : (path : List Seg) → is_looked_at nodes asked (changed_paths before after) path ≡ false → is_listed path (changed_paths before after) ≡ false
  unlooked path still =
      elim (is_listed path (changed_paths before after)) as (λ b. is_listed path (changed_paths before after) ≡ b → b ≡ false) [
        | true ↦ λ l. absurd (true≢false (sym (looks_at_changed path) ∙ none_true (can_move nodes asked path) (changed_paths before after) path still l))
        | false ↦ λ l. refl
      ] refl

  -- what is below a changed row and isn't changed is in neither
  below_moved : (path one : List Seg) → is_looked_at nodes asked (changed_paths before after) path ≡ false → is_listed one (changed_paths before after) ≡ true → is_within one path ≡ true → is_eq (path_cmp path one) ≡ false
      → value_at path (selection nodes asked readable before) ≡ value_at path (selection nodes asked readable after)
  below_moved path one still listed within apart =
      let stays = unchanged before after path (unlooked path still) in
      elim (value_at path before) as (λ (v : Option Value). value_at path before ≡ v → value_at path (selection nodes asked readable before) ≡ value_at path (selection nodes asked readable after)) [
        | None ↦ λ v. same_values path v (sym stays ∙ v)
        | Some value ↦ λ v.
            let found = within_rest one path within in
            let was : has_row (one ++ found.0) before ≡ true = subst (λ (p : List Seg). has_row p before ≡ true) found.1 (ap is_some v) in
            let is : has_row (one ++ found.0) after ≡ true = subst (λ (p : List Seg). has_row p after ≡ true) found.1 (ap is_some (sym stays ∙ v)) in
            let none = below_changed one found.0 listed was is in
            let whole : path ≡ one = found.1 ∙ ap (λ (more : List Seg). one ++ more) none ∙ append-nil one in
            absurd (true≢false (sym (ap (λ (p : List Seg). is_eq (path_cmp path p)) (sym whole) ∙ ties_itself path) ∙ apart))
      ] refl

  -- selections differ only where a step looks
  pub narrow : (path : List Seg) → is_looked_at nodes asked (changed_paths before after) path ≡ false → value_at path (selection nodes asked readable before) ≡ value_at path (selection nodes asked readable after)
  narrow path still =
      let changed = changed_paths before after in
      elim (is_moved nodes asked changed path) as (λ b. is_moved nodes asked changed path ≡ b → value_at path (selection nodes asked readable before) ≡ value_at path (selection nodes asked readable after)) [
        | true ↦ λ e.
            let one = found_one (λ one. is_within (moved_place nodes asked one) path) changed e in
            let apart : can_move nodes asked path one.0 ≡ false = none_true (can_move nodes asked path) changed one.0 still one.1 in
            elim (is_compared nodes asked (last_node one.0)) as (λ b. cond b (is_within (path_above one.0) path) (is_eq (path_cmp path one.0)) ≡ false → is_within (cond b (path_above one.0) one.0) path ≡ true → value_at path (selection nodes asked readable before) ≡ value_at path (selection nodes asked readable after)) [
              | true ↦ λ no so. absurd (true≢false (sym so ∙ no))
              | false ↦ λ no so. below_moved path one.0 still one.1 so no
            ] apart one.2
        | false ↦ λ e. selection_local nodes asked readable before after changed (λ p out. unchanged before after p out) path e
      ] refl
