-- What a step finds where nothing is filtered: at a changed row that may be read it has the row's own values.
use Rattle.std.proofs.Common.{◌≡◌, ℕ, zero, suc, ◌+◌, ◌<◌, ◌≤◌, length, drop, get_or, append-nil, List, [], ◌∷◌, ◌++◌, map, refl, sym, ap, ◌∙◌, cond, Bool, true, false, ◌&&◌, ◌||◌, Option, Some, None}
use Rattle.std.specs.Prelude.{is_some}
use Rattle.std.specs.List.{AllByRecursion}
use Rattle.std.proofs.lemmas.List.{drop_all}
use Rattle.yp_base.specs.declared.path.Seg.{Seg}
use Rattle.yp_base.specs.declared.row.Row.{Row}
use Rattle.yp_base.specs.declared.row.Value.{Value}
use Rattle.yp_base.specs.Paths.{last_node}
use Rattle.yp_base.specs.Rows.{path_of, value_at, rows_within}
use Rattle.yp_schema.specs.declared.schema.SchemaNode.{SchemaNode}
use Rattle.yp_schema.specs.Datastore.{is_leaf_kind}
use Rattle.yp_schema.specs.Nodes.{node_at}
use Rattle.yp_changes.specs.declared.changed.ChangedRow.{ChangedRow}
use Rattle.yp_changes.specs.Changes.{are_alike}
use Rattle.yp_filter.specs.Filters.{all_rows}
use Rattle.yp_kept.specs.KeptLaws.{value_kept}
use Rattle.yp_select.specs.Places.{path_above, is_compared}
use Rattle.yp_kept.specs.Selection.{selection}
use Rattle.yp_touch.specs.declared.root.Root.{Root}
use Rattle.yp_touch.specs.Looked.{IsBetween, root_found, roots_found, looks_of}
use Rattle.yp_touch.specs.RootLaws.{has_root}
use Rattle.yp_touch.proofs.Finding.{cut, found_next, rest_have}

right_true : (b : Bool) → (b && true) ≡ b
right_true true = refl
right_true false = refl

right_false : (b : Bool) → (b && false) ≡ false
right_false true = refl
right_false false = refl

or_true : (b : Bool) → (b || true) ≡ true
or_true true = refl
or_true false = refl

-- a root where two values differ, and none where a root covers the path
abbrev pub root_by : Bool → List Seg → Option Value → Option Value → Option Root
root_by covered path old new = cond (covered || are_alike old new) None (Some (record { path = path; was = is_some old }))

module _ (nodes : List SchemaNode) (readable : List Seg → Bool) where
  value_read : (rows : List Row) (path : List Seg) → value_at path (selection nodes all_rows readable rows) ≡ cond (readable path) (value_at path rows) None
  value_read rows path = value_kept nodes all_rows readable path rows ∙ ap (λ b. cond b (value_at path rows) None) (right_true (readable path))

  module _ (roots : List (List Seg)) (before after : List Row) (path : List Seg) where
    found_by : root_found roots (selection nodes all_rows readable before) (selection nodes all_rows readable after) path
        ≡ root_by (has_root path roots) path (cond (readable path) (value_at path before) None) (cond (readable path) (value_at path after) None)
    found_by = λ i. root_by (has_root path roots) path (value_read before path i) (value_read after path i)

    pub covered_finds_none : has_root path roots ≡ true → None ≡ root_found roots (selection nodes all_rows readable before) (selection nodes all_rows readable after) path
    covered_finds_none covered =
        sym (found_by ∙ ap (λ b. root_by b path (cond (readable path) (value_at path before) None) (cond (readable path) (value_at path after) None)) covered)

    pub hidden_finds_none : readable path ≡ false → None ≡ root_found roots (selection nodes all_rows readable before) (selection nodes all_rows readable after) path
    hidden_finds_none hidden =
        sym (found_by
        ∙ ap (λ b. root_by (has_root path roots) path (cond b (value_at path before) None) (cond b (value_at path after) None)) hidden
        ∙ ap (λ b. cond b None (Some (record { path = path; was = false }))) (or_true (has_root path roots)))

  pub readable_finds : (roots : List (List Seg)) (before after : List Row) (row : ChangedRow) → has_root row.path roots ≡ false → readable row.path ≡ true → IsBetween before after row
      → root_by false row.path row.old row.new ≡ root_found roots (selection nodes all_rows readable before) (selection nodes all_rows readable after) row.path
  readable_finds roots before after row free reads between =
      sym (found_by roots before after row.path
      ∙ ap (λ b. root_by b row.path (cond (readable row.path) (value_at row.path before) None) (cond (readable row.path) (value_at row.path after) None)) free
      ∙ ap (λ b. root_by false row.path (cond b (value_at row.path before) None) (cond b (value_at row.path after) None)) reads
      ∙ (λ i. root_by false row.path (sym between.before i) (sym between.after i)))

module _ (nodes : List SchemaNode) where
  none_compared : (node : Option ℕ) → is_compared nodes all_rows node ≡ false
  none_compared None = refl
  none_compared (Some n) = right_false (is_leaf_kind (node_at n nodes).kind)

  -- where nothing is filtered, a step looks at the changed paths alone
  pub looks_unfiltered : (before after : List Row) (changed : List (List Seg)) → looks_of nodes all_rows before after changed ≡ changed
  looks_unfiltered before after [] = refl
  looks_unfiltered before after (path ∷ changed) =
      ap (λ b. cond b (map path_of (rows_within (path_above path) before) ++ map path_of (rows_within (path_above path) after)) (path ∷ []) ++ looks_of nodes all_rows before after changed) (none_compared (last_node path))
      ∙ ap (λ (paths : List (List Seg)). path ∷ paths) (looks_unfiltered before after changed)

-- ---- one changed row after another

all_rest : (P : ChangedRow → Type 0) (changed : List ChangedRow) (i : ℕ) → AllByRecursion P changed → AllByRecursion P (drop i changed)
all_rest P changed zero all = all
all_rest P [] (suc i) all = tt
all_rest P (row ∷ rows) (suc i) all = all_rest P rows i all.1

pub one_has : (P : ChangedRow → Type 0) (changed : List ChangedRow) (i : ℕ) (row : ChangedRow) → i < length changed → row ≡ get_or changed i row → AllByRecursion P changed → P row
one_has P changed i row less is all = (rest_have P changed i row less is (all_rest P changed i all)).0

module _ (roots : List (List Seg)) (old new : List Row) where
  -- with what is found at one more row, what is found at the rest makes the whole
  pub found_one : (found next whole : List Root) (changed : List ChangedRow) (i : ℕ) (row : ChangedRow) → i < length changed → row ≡ get_or changed i row
      → found ++ roots_found roots old new (map (λ (row : ChangedRow). row.path) (drop i changed)) ≡ whole
      → next ≡ found ++ roots_found roots old new (row.path ∷ [])
      → next ++ roots_found roots old new (map (λ (row : ChangedRow). row.path) (drop (i + 1) changed)) ≡ whole
  found_one found next whole changed i row less is all one =
      found_next roots old new found next whole (row.path ∷ []) (map (λ (row : ChangedRow). row.path) (drop (i + 1) changed)) one
      (ap (λ (rows : List ChangedRow). found ++ roots_found roots old new (map (λ (row : ChangedRow). row.path) rows)) (sym (cut i changed row less is)) ∙ all)

  -- past the last row, what is found is the whole
  pub found_all : (found whole : List Root) (changed : List ChangedRow) (i : ℕ) → length changed ≤ i
      → found ++ roots_found roots old new (map (λ (row : ChangedRow). row.path) (drop i changed)) ≡ whole → found ≡ whole
  found_all found whole changed i past all =
      sym (append-nil found)
      ∙ ap (λ (rows : List ChangedRow). found ++ roots_found roots old new (map (λ (row : ChangedRow). row.path) rows)) (sym (drop_all i changed past))
      ∙ all
