-- What follows of the selection of everything: of rows those that may be read.
use Rattle.std.proofs.Common.{◌≡◌, List, [], ◌∷◌, ◌++◌, refl, sym, ap, ◌∙◌, cond, Bool, true, false, true≢false, Option, Some, None}
use Rattle.std.specs.Prelude.{is_some}
use Rattle.std.specs.List.{AllByRecursion}
use Rattle.std.specs.Ordering.{is_eq}
use Rattle.std.proofs.lemmas.Map.Views.{tells_apart}
use Rattle.yp_base.specs.declared.path.Seg.{Seg}
use Rattle.yp_base.specs.declared.row.Value.{Value}
use Rattle.yp_base.specs.declared.row.Row.{Row}
use Rattle.yp_base.specs.Exact.{paths_exact}
use Rattle.yp_base.specs.Order.{path_cmp, is_within}
use Rattle.yp_base.specs.Rows.{value_at, rows_within, AreInOrder}
use Rattle.yp_base.specs.RowLaws.{some_keep_order}
use Rattle.yp_schema.specs.declared.schema.SchemaNode.{SchemaNode}
use Rattle.yp_schema.specs.Datastore.{has_row, IsRowOf, IsDatastore, AreWritable}
use Rattle.yp_nacm.specs.Decision.{IsClosed, visible_rows}
use Rattle.yp_kept.specs.Concealed.{AllReadable}

module _ (readable : List Seg → Bool) where
  value_selected_at : (e b : Bool) (path : List Seg) (row : Row) (rows : List Row) → is_eq (path_cmp path row.path) ≡ e → readable row.path ≡ b
      → value_at path (visible_rows readable rows) ≡ cond (readable path) (value_at path rows) None
      → value_at path (cond b (row ∷ visible_rows readable rows) (visible_rows readable rows)) ≡ cond (readable path) (value_at path (row ∷ rows)) None
  value_selected_at true true path row rows same is later =
      let may : readable path ≡ true = ap readable (tells_apart paths_exact path row.path same) ∙ is in
      ap (λ t. cond t (Some row.value) (value_at path (visible_rows readable rows))) same
      ∙ sym (ap (λ t. cond t (value_at path (row ∷ rows)) None) may ∙ ap (λ t. cond t (Some row.value) (value_at path rows)) same)
  value_selected_at true false path row rows same is later =
      let may : readable path ≡ false = ap readable (tells_apart paths_exact path row.path same) ∙ is in
      later ∙ ap (λ t. cond t (value_at path rows) None) may ∙ sym (ap (λ t. cond t (value_at path (row ∷ rows)) None) may)
  value_selected_at false true path row rows same is later =
      ap (λ t. cond t (Some row.value) (value_at path (visible_rows readable rows))) same ∙ later
      ∙ sym (ap (λ t. cond (readable path) (cond t (Some row.value) (value_at path rows)) None) same)
  value_selected_at false false path row rows same is later = later ∙ sym (ap (λ t. cond (readable path) (cond t (Some row.value) (value_at path rows)) None) same)

  no_value : (b : Bool) (value : Option Value) → value ≡ None → value ≡ cond b value None
  no_value true value is = refl
  no_value false value is = is

  -- the value at a path in a selection
  pub value_selected : (path : List Seg) (rows : List Row) → value_at path (visible_rows readable rows) ≡ cond (readable path) (value_at path rows) None
  value_selected path [] = no_value (readable path) None refl
  value_selected path (row ∷ rows) = value_selected_at (is_eq (path_cmp path row.path)) (readable row.path) path row rows refl refl (value_selected path rows)

  -- a row that is selected may be read, and was there
  pub was_selected : (path : List Seg) (rows : List Row) → has_row path (visible_rows readable rows) ≡ true → (readable path ≡ true) × (has_row path rows ≡ true)
  was_selected path rows there = parts (readable path) (value_at path rows) (sym (ap is_some (value_selected path rows)) ∙ there)
    where
      parts : (b : Bool) (value : Option Value) → is_some (cond b value None) ≡ true → (b ≡ true) × (is_some value ≡ true)
      parts true value h = (refl, h)
      parts false value h = absurd (true≢false (sym h))

  pub is_selected : (path : List Seg) (rows : List Row) → readable path ≡ true → has_row path rows ≡ true → has_row path (visible_rows readable rows) ≡ true
  is_selected path rows may there = ap is_some (value_selected path rows ∙ ap (λ b. cond b (value_at path rows) None) may) ∙ there

  kept_at : (b : Bool) (P : Row → Type 0) (row : Row) (rows : List Row) → P row → AllByRecursion P rows → AllByRecursion P (cond b (row ∷ rows) rows)
  kept_at true P row rows here all = (here, all)
  kept_at false P row rows here all = all

  -- what holds of all rows holds of those that are selected
  pub all_selected : (P : Row → Type 0) (rows : List Row) → AllByRecursion P rows → AllByRecursion P (visible_rows readable rows)
  all_selected P [] all = tt
  all_selected P (row ∷ rows) all = kept_at (readable row.path) P row (visible_rows readable rows) all.0 (all_selected P rows all.1)

  readable_at : (b : Bool) (row : Row) (rows : List Row) → readable row.path ≡ b → AllReadable readable rows → AllReadable readable (cond b (row ∷ rows) rows)
  readable_at true row rows is all = (is, all)
  readable_at false row rows is all = all

  -- what is selected may be read
  pub selected_readable : (rows : List Row) → AllReadable readable (visible_rows readable rows)
  selected_readable [] = tt
  selected_readable (row ∷ rows) = readable_at (readable row.path) row (visible_rows readable rows) refl (selected_readable rows)

  -- it is in order where the rows are
  pub selection_in_order : (rows : List Row) → AreInOrder rows → AreInOrder (visible_rows readable rows)
  selection_in_order rows order = some_keep_order readable rows order

  -- what is selected of the rows at or below a path is what is at or below it of the selection
  pub selection_within : (path : List Seg) (rows : List Row) → visible_rows readable (rows_within path rows) ≡ rows_within path (visible_rows readable rows)
  selection_within path [] = refl
  selection_within path (row ∷ rows) =
      elim (is_within path row.path) as (λ w. is_within path row.path ≡ w → visible_rows readable (cond w (row ∷ rows_within path rows) (rows_within path rows)) ≡ rows_within path (visible_rows readable (row ∷ rows))) [
        | true ↦ λ h. elim (readable row.path) as (λ b. cond b (row ∷ visible_rows readable (rows_within path rows)) (visible_rows readable (rows_within path rows)) ≡ rows_within path (cond b (row ∷ visible_rows readable rows) (visible_rows readable rows))) [
          | true ↦ ap (λ (xs : List Row). row ∷ xs) (selection_within path rows) ∙ sym (ap (λ w. cond w (row ∷ rows_within path (visible_rows readable rows)) (rows_within path (visible_rows readable rows))) h)
          | false ↦ selection_within path rows
        ]
        | false ↦ λ h. elim (readable row.path) as (λ b. visible_rows readable (rows_within path rows) ≡ rows_within path (cond b (row ∷ visible_rows readable rows) (visible_rows readable rows))) [
          | true ↦ selection_within path rows ∙ sym (ap (λ w. cond w (row ∷ rows_within path (visible_rows readable rows)) (rows_within path (visible_rows readable rows))) h)
          | false ↦ selection_within path rows
        ]
      ] refl

-- the rows that are selected are of the schema
pub selection_of_schema : (nodes : List SchemaNode) (readable : List Seg → Bool) (rows : List Row) → AllByRecursion (IsRowOf nodes) rows → AllByRecursion (IsRowOf nodes) (visible_rows readable rows)
selection_of_schema nodes readable rows all = all_selected readable (IsRowOf nodes) rows all

-- the selection of a datastore is a datastore: where a row may be read, each entry above it may be
pub selection_is : (nodes : List SchemaNode) (readable : List Seg → Bool) (rows : List Row) → IsClosed readable → IsDatastore nodes rows → IsDatastore nodes (visible_rows readable rows)
selection_is nodes readable rows closed datastore = record {
  in_order = selection_in_order readable rows datastore.in_order;
  of_schema = selection_of_schema nodes readable rows datastore.of_schema;
  entries = λ above rest within entry there.
      let was = was_selected readable (above ++ rest) rows there in
      is_selected readable above rows (closed above rest was.0) (datastore.entries above rest within entry was.1);
}

-- ---- at the top

-- all rows are at or below the top
pub within_top : (rows : List Row) → rows_within [] rows ≡ rows
within_top [] = refl
within_top (row ∷ rows) = ap (λ xs. row ∷ xs) (within_top rows)

all_at_top : (rows : List Row) → AllByRecursion (λ row. is_within [] row.path ≡ true) rows
all_at_top [] = tt
all_at_top (row ∷ rows) = (refl, all_at_top rows)

-- rows of the schema in order can be written at the top
pub top_writable : (nodes : List SchemaNode) (rows : List Row) → AreInOrder rows → AllByRecursion (IsRowOf nodes) rows → AreWritable nodes [] rows
top_writable nodes rows order all = record { place = refl; in_order = order; of_schema = all; within = all_at_top rows; leaf = λ ends. absurd (true≢false (sym ends)) }

-- so can a selection of them
pub selection_writable : (nodes : List SchemaNode) (readable : List Seg → Bool) (rows : List Row) → AreInOrder rows → AllByRecursion (IsRowOf nodes) rows → AreWritable nodes [] (visible_rows readable rows)
selection_writable nodes readable rows order all = top_writable nodes (visible_rows readable rows) (selection_in_order readable rows order) (selection_of_schema nodes readable rows all)
