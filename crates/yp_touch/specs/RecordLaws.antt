-- What holds of the record of a step (RFC 8641 section 3.7): the statements of the laws, and what follows. The record turns the selection before a step into the one after, names nothing that may not be read, can be sent, and is empty only where they are one.
use Rattle.std.proofs.Common.{◌≡◌, ℕ, List, [], ◌∷◌, ◌++◌, map, refl, sym, ap, subst, ◌∙◌, cond, Bool, true, false, true≢false, not, ◌||◌, Option, Some, None, append-nil, ⊎_elim}
use Rattle.std.proofs.lemmas.Bool.{or_cases}
use Rattle.std.specs.Option.{option_or}
use Rattle.std.specs.Prelude.{is_some}
use Rattle.std.specs.List.{filter_map, cons_option, list_any, AllByRecursion}
use Rattle.std.specs.Ordering.{is_eq}
use Rattle.yp_base.specs.declared.path.Seg.{Seg}
use Rattle.yp_base.specs.declared.row.Value.{Value}
use Rattle.yp_base.specs.declared.row.Row.{Row}
use Rattle.yp_base.specs.declared.leaf_type.LeafType.{LeafType}
use Rattle.yp_base.specs.declared.notice.Change.{Change}
use Rattle.yp_base.specs.declared.notice.ChangeKind.TheVariants as kinds
use Rattle.yp_base.specs.Order.{path_cmp, is_within}
use Rattle.yp_base.specs.Paths.{is_above, topmost as roots_of, last_node}
use Rattle.yp_base.specs.PathLaws.{are_one, within_itself, within_rest}
use Rattle.yp_base.specs.Rows.{AreInOrder, value_at, put_rows, rows_within, rows_without, changed_by}
use Rattle.yp_base.specs.RowLaws.{holds_at, none_order, or_none, puts_order, value_at_puts, value_at_without, within_keeps_order, without_keeps_order}
use Rattle.yp_schema.specs.declared.schema.SchemaNode.{SchemaNode}
use Rattle.yp_schema.specs.declared.schema.Kind.{Kind}
use Rattle.yp_schema.specs.declared.schema.Kind.TheVariants.{Container, Presence, List as Listing, Leaf, LeafList}
use Rattle.yp_schema.specs.Nodes.{node_at, may_hold}
use Rattle.yp_schema.specs.WellFormed.{IsSchema}
use Rattle.yp_schema.specs.Datastore.{goes_down, is_path_of, value_of_kind, is_entry_kind, last_kind_is, has_row, ends_in_entry, IsRowOf, IsDatastore, AreWritable}
use Rattle.yp_schema.specs.SchemaLaws.{row_node, row_path, row_place, goes_on, node_after, leaf_ends}
use Rattle.yp_tree.specs.Alike.{same_rows}
use Rattle.yp_changes.specs.declared.changed.ChangedRow.{ChangedRow}
use Rattle.yp_changes.specs.Among.{is_listed}
use Rattle.yp_changes.specs.ChangeLaws.{paths_in, change_in, alike_is, changed_at, none_differ}
use Rattle.yp_changes.specs.Changes.{are_alike, change_of, changed_rows, paths_of_both}
use Rattle.yp_changes.specs.Changes.{row_change as difference_at}
use Rattle.yp_changes.specs.Records.{changed_paths, carried_rows, change_at, change_record}
use Rattle.yp_nacm.specs.Decision.{IsClosed, visible_rows}
use Rattle.yp_encode.specs.Sendable.{IsSendableChange}
use Rattle.yp_kept.specs.Concealed.{AllReadable}
use Rattle.yp_kept.specs.SelectionLaws.{value_selected, all_selected, selection_is, selected_readable, selection_in_order, selection_of_schema}
use Rattle.yp_touch.specs.declared.root.Root.{Root}
use Rattle.yp_touch.specs.Absorbed.{EndsAsRow, root_change}
use Rattle.yp_touch.specs.Concealed.{IsReadableChange}
use Rattle.yp_touch.specs.RootLaws.{has_root, listed_rooted, some_paths}

-- ---- the statements of the laws

-- the record of two datastores leads from the one to the other
abbrev pub DatastoresLead : Type 0
DatastoresLead = (nodes : List SchemaNode) (before after : List Row) → IsSchema nodes → IsDatastore nodes before → IsDatastore nodes after → changed_by (change_record before after) before ≡ after

-- so does the record of their selections
abbrev pub SelectionsLead : Type 0
SelectionsLead = (nodes : List SchemaNode) (readable : List Seg → Bool) (before after : List Row) → IsSchema nodes → IsClosed readable → IsDatastore nodes before → IsDatastore nodes after
    → changed_by (change_record (visible_rows readable before) (visible_rows readable after)) (visible_rows readable before) ≡ visible_rows readable after

-- where the record is empty, the two selections are one
abbrev pub EmptyRecordKeeps : Type 0
EmptyRecordKeeps = (nodes : List SchemaNode) (readable : List Seg → Bool) (before after : List Row) → IsSchema nodes → IsClosed readable → IsDatastore nodes before → IsDatastore nodes after
    → change_record (visible_rows readable before) (visible_rows readable after) ≡ [] → visible_rows readable before ≡ visible_rows readable after

-- the record of rows and themselves is empty
abbrev pub SameRowsHaveNoRecord : Type 0
SameRowsHaveNoRecord = (rows : List Row) → change_record rows rows ≡ []

-- each edit of the record of rows that may be read names only what may be read
abbrev pub RowsConceal : Type 0
RowsConceal = (readable : List Seg → Bool) (before after : List Row) → AllReadable readable before → AllReadable readable after → AllByRecursion (IsReadableChange readable) (change_record before after)

-- so does each edit of the record of two selections
abbrev pub SelectionsConceal : Type 0
SelectionsConceal = (readable : List Seg → Bool) (before after : List Row) → AllByRecursion (IsReadableChange readable) (change_record (visible_rows readable before) (visible_rows readable after))

-- each edit of the record of two datastores can be sent
abbrev pub DatastoresCanBeSent : Type 0
DatastoresCanBeSent = (nodes : List SchemaNode) (before after : List Row) → IsDatastore nodes before → IsDatastore nodes after → AllByRecursion (IsSendableChange nodes) (change_record before after)

-- so can each edit of the record of their selections
abbrev pub SelectionsCanBeSent : Type 0
SelectionsCanBeSent = (nodes : List SchemaNode) (readable : List Seg → Bool) (before after : List Row) → IsDatastore nodes before → IsDatastore nodes after
    → AllByRecursion (IsSendableChange nodes) (change_record (visible_rows readable before) (visible_rows readable after))

-- ---- what is changed

difference_there : (path : List Seg) (old new : Option Value) (change : ChangedRow) → change_of path old new ≡ Some change → (change.path ≡ path) × ((is_some old || is_some new) ≡ true)
difference_there path old new change is =
    elim (are_alike old new) as (λ b. are_alike old new ≡ b → cond b None (Some (record { path = path; old = old; new = new })) ≡ Some change → (change.path ≡ path) × ((is_some old || is_some new) ≡ true)) [
      | true ↦ λ e h. let no : None ≡ Some change = h in cc
      | false ↦ λ e h. let made : ChangedRow = record { path = path; old = old; new = new } in let same : made ≡ change = cc in (ap (λ (c : ChangedRow). c.path) (sym same), either old new e)
    ] refl is
  where
    either : (old new : Option Value) → are_alike old new ≡ false → (is_some old || is_some new) ≡ true
    either (Some o) new e = refl
    either None (Some n) e = refl
    either None None e = absurd (true≢false e)

-- a changed path has a row before or after
abbrev pub IsThere : List Row → List Row → List Seg → Type 0
IsThere old new path = (has_row path old || has_row path new) ≡ true

-- what holds of the path of each row before and after holds of such a path
one_there : (P : List Seg → Type 0) (old new : List Row) (path : List Seg) → AllByRecursion (λ row. P row.path) old → AllByRecursion (λ row. P row.path) new → IsThere old new path → P path
one_there P old new path all_old all_new there = ⊎_elim (holds_at P old path all_old) (holds_at P new path all_new) (or_cases (has_row path old) (has_row path new) there)

there_at : (old new : List Row) (path : List Seg) (rest : List ChangedRow) → AllByRecursion (IsThere old new) (paths_in rest)
    → AllByRecursion (IsThere old new) (paths_in (cons_option (difference_at old new path) rest))
there_at old new path rest all =
    elim (difference_at old new path) as (λ r. difference_at old new path ≡ r → AllByRecursion (IsThere old new) (paths_in (cons_option r rest))) [
      | None ↦ λ e. all
      | Some change ↦ λ e. let found = difference_there path (value_at path old) (value_at path new) change e in (subst (IsThere old new) (sym found.0) found.1, all)
    ] refl

there_all : (old new : List Row) (paths : List (List Seg)) → AllByRecursion (IsThere old new) (paths_in (filter_map (difference_at old new) paths))
there_all old new [] = tt
there_all old new (path ∷ paths) = there_at old new path (filter_map (difference_at old new) paths) (there_all old new paths)

pub changed_there : (old new : List Row) → AllByRecursion (IsThere old new) (changed_paths old new)
changed_there old new = there_all old new (paths_of_both old new)

there_hold : (P : List Seg → Type 0) (old new : List Row) (paths : List (List Seg)) → AllByRecursion (λ row. P row.path) old → AllByRecursion (λ row. P row.path) new → AllByRecursion (IsThere old new) paths → AllByRecursion P paths
there_hold P old new [] all_old all_new there = tt
there_hold P old new (path ∷ paths) all_old all_new there = (one_there P old new path all_old all_new there.0, there_hold P old new paths all_old all_new there.1)

-- what holds of the path of each row before and after holds of each changed path
pub changed_hold : (P : List Seg → Type 0) (old new : List Row) → AllByRecursion (λ row. P row.path) old → AllByRecursion (λ row. P row.path) new → AllByRecursion P (changed_paths old new)
changed_hold P old new all_old all_new = there_hold P old new (changed_paths old new) all_old all_new (changed_there old new)

-- what holds of paths holds of the topmost of them
pub topmost_hold : (P : List Seg → Type 0) (paths : List (List Seg)) → AllByRecursion P paths → AllByRecursion P (roots_of paths)
topmost_hold P paths all = some_paths (λ path. not (list_any (λ above. is_above above path) paths)) P paths all

-- what isn't changed is alike
unlisted_none : (path : List Seg) (changes : List ChangedRow) → is_listed path (paths_in changes) ≡ false → change_in path changes ≡ None
unlisted_none path [] h = refl
unlisted_none path (change ∷ changes) h =
    elim (is_eq (path_cmp path change.path)) as (λ b. (b || is_listed path (paths_in changes)) ≡ false → cond b (Some change) (change_in path changes) ≡ None) [
      | true ↦ λ k. absurd (true≢false k)
      | false ↦ λ k. unlisted_none path changes k
    ] h

alike_at : (b : Bool) (old new : Option Value) (change : ChangedRow) → are_alike old new ≡ b → cond b None (Some change) ≡ None → old ≡ new
alike_at true old new change alike is = alike_is old new alike
alike_at false old new change alike is = let no : Some change ≡ None = is in cc

none_alike : (path : List Seg) (old new : Option Value) → change_of path old new ≡ None → old ≡ new
none_alike path old new is = alike_at (are_alike old new) old new (record { path = path; old = old; new = new }) refl is

pub unchanged : (old new : List Row) (path : List Seg) → is_listed path (changed_paths old new) ≡ false → value_at path old ≡ value_at path new
unchanged old new path h = none_alike path (value_at path old) (value_at path new) (sym (changed_at old new path) ∙ unlisted_none path (changed_rows old new) h)

-- ---- what is at or below a root that is gone

pub last_after : (seg : Seg) (path : List Seg) → last_node (seg ∷ path) ≡ node_after None (seg ∷ path)
last_after seg [] = refl
last_after seg (next ∷ path) = last_after next path

-- edits keep rows in order
changed_order : (changes : List Change) (rows : List Row) → AreInOrder rows → AreInOrder (changed_by changes rows)
changed_order [] rows order = order
changed_order (change ∷ changes) rows order = changed_order changes (put_rows change.rows (rows_without change.target rows)) (puts_order change.rows (rows_without change.target rows) (without_keeps_order change.target rows order))

pub rows_end : (nodes : List SchemaNode) (rows : List Row) → AllByRecursion (IsRowOf nodes) rows → AllByRecursion (λ row. EndsAsRow nodes row.path) rows
rows_end nodes [] all = tt
rows_end nodes (row ∷ rows) all = ((row.value, all.0.goes), rows_end nodes rows all.1)

-- the node that a row ends in is an entry's, or nothing stands below it
entry_or_leaf : {A : Type 0} (kind : Kind) (ty : Option LeafType) (value : Value) → value_of_kind kind ty value ≡ true → (is_entry_kind kind ≡ true → A) → (may_hold kind ≡ false → A) → A
entry_or_leaf Container ty value h entry leaf = absurd (true≢false (sym h))
entry_or_leaf Presence ty value h entry leaf = entry refl
entry_or_leaf Listing ty value h entry leaf = entry refl
entry_or_leaf Leaf ty value h entry leaf = leaf refl
entry_or_leaf LeafList ty value h entry leaf = leaf refl

module _ (nodes : List SchemaNode) (schema : IsSchema nodes) (new : List Row) (after : IsDatastore nodes new) where
  -- below a path that ends as rows do stands nothing, or its own row is there
  pub below_row : {A : Type 0} (root rest : List Seg) → EndsAsRow nodes root → has_row (root ++ rest) new ≡ true → (rest ≡ [] → A) → (ends_in_entry nodes root ≡ true → has_row root new ≡ true → A) → A
  below_row [] rest ends there leaf entry = absurd (true≢false (sym ends.1))
  below_row (seg ∷ root) rest ends there leaf entry =
      let found = row_node nodes None (seg ∷ root) ends.0 ends.1 in
      let n = found.0 in
      let last = found.1.0 in
      entry_or_leaf (node_at n nodes).kind (node_at n nodes).ty ends.0 found.1.1
      (λ is. let ends_so = ap (last_kind_is is_entry_kind nodes) last ∙ is in entry ends_so (after.entries (seg ∷ root) rest refl ends_so there))
      (λ is.
      let end = holds_at (EndsAsRow nodes) new ((seg ∷ root) ++ rest) (rows_end nodes new after.of_schema) there in
      let down : is_path_of nodes ((seg ∷ root) ++ rest) ≡ true = row_path nodes (record { path = (seg ∷ root) ++ rest; value = end.0 }) (record { goes = end.1 }) in
      let below : goes_down nodes (Some n) rest ≡ true = subst (λ (o : Option ℕ). goes_down nodes o rest ≡ true) (sym (last_after seg root) ∙ last) (goes_on nodes None (seg ∷ root) rest down) in
      leaf (leaf_ends nodes schema n rest is below))

  value_gone : (root path : List Seg) → EndsAsRow nodes root → has_row root new ≡ false → is_within root path ≡ true → value_at path new ≡ None
  value_gone root path ends gone within =
      elim (value_at path new) as (λ (v : Option Value). value_at path new ≡ v → v ≡ None) [
        | None ↦ λ e. refl
        | Some value ↦ λ e.
            let found = within_rest root path within in
            let there : has_row (root ++ found.0) new ≡ true = subst (λ (p : List Seg). has_row p new ≡ true) found.1 (ap is_some e) in
            absurd (below_row root found.0 ends there
            (λ none. true≢false (sym (subst (λ (p : List Seg). has_row p new ≡ true) (ap (λ (more : List Seg). root ++ more) none ∙ append-nil root) there) ∙ gone))
            (λ entry is. true≢false (sym is ∙ gone)))
      ] refl

  none_left : (root : List Seg) → EndsAsRow nodes root → has_row root new ≡ false → rows_within root new ≡ []
  none_left root ends gone =
      same_rows (rows_within root new) [] (within_keeps_order root new after.in_order) none_order (λ path.
      value_selected (is_within root) path new
      ∙ elim (is_within root path) as (λ b. is_within root path ≡ b → cond b (value_at path new) None ≡ None) [
        | true ↦ λ e. value_gone root path ends gone e
        | false ↦ λ e. refl
      ] refl)

  -- an edit of a root carries all that is selected at or below it
  carried : (root : List Seg) → EndsAsRow nodes root → carried_rows new root ≡ rows_within root new
  carried root ends =
      elim (has_row root new) as (λ b. has_row root new ≡ b → cond b (rows_within root new) [] ≡ rows_within root new) [
        | true ↦ λ e. refl
        | false ↦ λ e. sym (none_left root ends e)
      ] refl

  -- ---- what edits of roots do

  one_led : (path root : List Seg) (rows : List Row) → carried_rows new root ≡ rows_within root new
      → value_at path (put_rows (carried_rows new root) (rows_without root rows)) ≡ cond (is_within root path) (value_at path new) (value_at path rows)
  one_led path root rows is =
      ap (λ (put : List Row). value_at path (put_rows put (rows_without root rows))) is
      ∙ value_at_puts path (rows_within root new) (rows_without root rows) (within_keeps_order root new after.in_order)
      ∙ (λ i. option_or (value_selected (is_within root) path new i) (value_at_without path root rows i))
      ∙ by_place (is_within root path) (value_at path new) (value_at path rows)
    where
      by_place : (b : Bool) (one other : Option Value) → option_or (cond b one None) (cond b None other) ≡ cond b one other
      by_place true one other = or_none one
      by_place false one other = refl

  -- at each path: the value afterwards where a root is at or above it, and else the one before
  led : (old : List Row) (path : List Seg) (roots : List (List Seg)) (rows : List Row) → AllByRecursion (EndsAsRow nodes) roots
      → value_at path (changed_by (map (change_at old new) roots) rows) ≡ cond (has_root path roots) (value_at path new) (value_at path rows)
  led old path [] rows all = refl
  led old path (root ∷ roots) rows all =
      led old path roots (put_rows (carried_rows new root) (rows_without root rows)) all.1
      ∙ ap (cond (has_root path roots) (value_at path new)) (one_led path root rows (carried root all.0))
      ∙ grouped (is_within root path) (has_root path roots) (value_at path new) (value_at path rows)
    where
      grouped : (a b : Bool) (one other : Option Value) → cond b one (cond a one other) ≡ cond (a || b) one other
      grouped true true one other = refl
      grouped true false one other = refl
      grouped false b one other = refl

module _ (nodes : List SchemaNode) (schema : IsSchema nodes) (old new : List Row) (before : IsDatastore nodes old) (after : IsDatastore nodes new) where
  unrooted : (touched : List (List Seg)) → ((path : List Seg) → is_listed path touched ≡ false → value_at path old ≡ value_at path new) → (path : List Seg) → has_root path (roots_of touched) ≡ false → value_at path old ≡ value_at path new
  unrooted touched stays path h =
      elim (is_listed path touched) as (λ b. is_listed path touched ≡ b → value_at path old ≡ value_at path new) [
        | true ↦ λ e. absurd (true≢false (sym (listed_rooted touched path e) ∙ h))
        | false ↦ λ e. stays path e
      ] refl

  -- the edits of the topmost of touched paths lead from one datastore to the other, where these differ at touched paths alone
  pub touched_leads : (touched : List (List Seg)) → AllByRecursion (EndsAsRow nodes) touched → ((path : List Seg) → is_listed path touched ≡ false → value_at path old ≡ value_at path new)
      → changed_by (map (change_at old new) (roots_of touched)) old ≡ new
  touched_leads touched ends stays =
      let roots = roots_of touched in
      let changes = map (change_at old new) roots in
      same_rows (changed_by changes old) new (changed_order changes old before.in_order) after.in_order (λ path.
      led nodes schema new after old path roots old (topmost_hold (EndsAsRow nodes) touched ends)
      ∙ elim (has_root path roots) as (λ b. has_root path roots ≡ b → cond b (value_at path new) (value_at path old) ≡ value_at path new) [
        | true ↦ λ e. refl
        | false ↦ λ e. unrooted touched stays path e
      ] refl)

  -- the record leads from one datastore to the other
  pub record_leads : changed_by (change_record old new) old ≡ new
  record_leads = touched_leads (changed_paths old new) (changed_hold (EndsAsRow nodes) old new (rows_end nodes old before.of_schema) (rows_end nodes new after.of_schema)) (unchanged old new)

-- ---- selections

module _ (nodes : List SchemaNode) (readable : List Seg → Bool) (before after : List Row) (schema : IsSchema nodes) (closed : IsClosed readable) (old : IsDatastore nodes before) (new : IsDatastore nodes after) where
  -- the record of a step turns the selection before it into the one after
  pub selections_lead : changed_by (change_record (visible_rows readable before) (visible_rows readable after)) (visible_rows readable before) ≡ visible_rows readable after
  selections_lead = record_leads nodes schema (visible_rows readable before) (visible_rows readable after) (selection_is nodes readable before closed old) (selection_is nodes readable after closed new)

  -- where the record is empty, the selection stays as it was
  pub no_record : change_record (visible_rows readable before) (visible_rows readable after) ≡ [] → visible_rows readable before ≡ visible_rows readable after
  no_record none = sym (ap (λ (changes : List Change). changed_by changes (visible_rows readable before)) none) ∙ selections_lead

-- ---- rows that stay

-- the record of a selection and itself is empty
pub record_of_one : (rows : List Row) → change_record rows rows ≡ []
record_of_one rows = ap (λ (changes : List ChangedRow). map (change_at rows rows) (roots_of (paths_in changes))) (none_differ rows rows refl)

-- ---- what is named

carried_readable : (readable : List Seg → Bool) (new : List Row) (root : List Seg) → AllReadable readable new → AllReadable readable (carried_rows new root)
carried_readable readable new root all =
    elim (has_row root new) as (λ b. AllReadable readable (cond b (rows_within root new) [])) [
      | true ↦ all_selected (is_within root) (λ row. readable row.path ≡ true) new all
      | false ↦ tt
    ]

-- the edits of paths that may be read name nothing that may not be
pub changes_readable : (readable : List Seg → Bool) (old new : List Row) (roots : List (List Seg)) → AllReadable readable new → AllByRecursion (λ root. readable root ≡ true) roots
    → AllByRecursion (IsReadableChange readable) (map (change_at old new) roots)
changes_readable readable old new [] all_new may = tt
changes_readable readable old new (root ∷ roots) all_new may = ((may.0, carried_readable readable new root all_new), changes_readable readable old new roots all_new may.1)

-- the record of rows that may be read names nothing that may not be read
pub rows_conceal : (readable : List Seg → Bool) (old new : List Row) → AllReadable readable old → AllReadable readable new → AllByRecursion (IsReadableChange readable) (change_record old new)
rows_conceal readable old new all_old all_new =
    changes_readable readable old new (roots_of (changed_paths old new)) all_new (topmost_hold (λ root. readable root ≡ true) (changed_paths old new) (changed_hold (λ root. readable root ≡ true) old new all_old all_new))

pub record_conceals : (readable : List Seg → Bool) (before after : List Row) → AllByRecursion (IsReadableChange readable) (change_record (visible_rows readable before) (visible_rows readable after))
record_conceals readable before after = rows_conceal readable (visible_rows readable before) (visible_rows readable after) (selected_readable readable before) (selected_readable readable after)

-- ---- what can be sent

-- the paths of rows of a schema are the schema's
pub have_paths : (nodes : List SchemaNode) (rows : List Row) → AllByRecursion (IsRowOf nodes) rows → AllByRecursion (λ row. is_path_of nodes row.path ≡ true) rows
have_paths nodes [] all = tt
have_paths nodes (row ∷ rows) all = (row_path nodes row all.0, have_paths nodes rows all.1)

-- the row that has a path is of the schema
pub there_of_schema : (nodes : List SchemaNode) (path : List Seg) (value : Value) (rows : List Row) → AllByRecursion (IsRowOf nodes) rows → value_at path rows ≡ Some value → IsRowOf nodes (record { path = path; value = value })
there_of_schema nodes path value [] all there = let no : None ≡ Some value = there in cc
there_of_schema nodes path value (row ∷ rows) all there =
    elim (is_eq (path_cmp path row.path)) as (λ b. is_eq (path_cmp path row.path) ≡ b → cond b (Some row.value) (value_at path rows) ≡ Some value → IsRowOf nodes (record { path = path; value = value })) [
      | true ↦ λ here h.
          let given : row.value ≡ value = cc in
          let same : row.path ≡ path = sym (are_one path row.path here) in
          subst (λ (r : Row). IsRowOf nodes r) (λ i. record { path = same i; value = given i }) all.0
      | false ↦ λ here h. there_of_schema nodes path value rows all.1 h
    ] refl there

-- the rows at or below a row can be written there
writable_below : (nodes : List SchemaNode) (path : List Seg) (value : Value) (rows : List Row) → AreInOrder rows → AllByRecursion (IsRowOf nodes) rows → value_at path rows ≡ Some value → AreWritable nodes path (rows_within path rows)
writable_below nodes path value rows order all there = record {
  place = row_place nodes (record { path = path; value = value }) (there_of_schema nodes path value rows all there);
  in_order = within_keeps_order path rows order;
  of_schema = all_selected (is_within path) (IsRowOf nodes) rows all;
  within = selected_readable (is_within path) rows;
  leaf = λ ends. ap is_some (value_selected (is_within path) path rows ∙ ap (λ b. cond b (value_at path rows) None) (within_itself path) ∙ there);
}

module _ (nodes : List SchemaNode) (new : List Row) (order : AreInOrder new) (all_new : AllByRecursion (IsRowOf nodes) new) where
  -- the edit of a root can be sent
  pub root_sendable : (root : Root) → is_path_of nodes root.path ≡ true → IsSendableChange nodes (root_change new root)
  root_sendable root path =
      elim (value_at root.path new) as (λ (v : Option Value). value_at root.path new ≡ v
      → IsSendableChange nodes (record { kind = cond (is_some v) (cond root.was kinds.Replace kinds.Create) kinds.Delete; target = root.path; rows = cond (is_some v) (rows_within root.path new) []; after = None })) [
        | None ↦ λ is. record { served = refl; target = path; rows = refl; after = refl }
        | Some value ↦ λ is. elim root.was as (λ b. IsSendableChange nodes (record { kind = cond b kinds.Replace kinds.Create; target = root.path; rows = rows_within root.path new; after = None })) [
          | true ↦ record { served = refl; target = path; rows = writable_below nodes root.path value new order all_new is; after = refl }
          | false ↦ record { served = refl; target = path; rows = writable_below nodes root.path value new order all_new is; after = refl }
        ]
      ] refl

  -- so can the edits of paths of the schema
  pub roots_sendable : (old : List Row) (roots : List (List Seg)) → AllByRecursion (λ root. is_path_of nodes root ≡ true) roots → AllByRecursion (IsSendableChange nodes) (map (change_at old new) roots)
  roots_sendable old [] paths = tt
  roots_sendable old (root ∷ roots) paths = (root_sendable (record { path = root; was = has_row root old }) paths.0, roots_sendable old roots paths.1)

  -- each edit of the record of rows of a schema can be sent
  rows_sendable : (old : List Row) → AllByRecursion (IsRowOf nodes) old → AllByRecursion (IsSendableChange nodes) (change_record old new)
  rows_sendable old all_old =
      roots_sendable old (roots_of (changed_paths old new)) (topmost_hold (λ p. is_path_of nodes p ≡ true) (changed_paths old new) (changed_hold (λ p. is_path_of nodes p ≡ true) old new (have_paths nodes old all_old) (have_paths nodes new all_new)))

pub datastores_sendable : DatastoresCanBeSent
datastores_sendable nodes before after old new = rows_sendable nodes after new.in_order new.of_schema before old.of_schema

-- so can each edit of the record of a step
pub record_sendable : SelectionsCanBeSent
record_sendable nodes readable before after old new =
    rows_sendable nodes (visible_rows readable after) (selection_in_order readable after new.in_order) (selection_of_schema nodes readable after new.of_schema) (visible_rows readable before) (selection_of_schema nodes readable before old.of_schema)
