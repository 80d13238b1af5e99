-- Rows at or below a place: its own row, and those under it.
use Rattle.std.proofs.Common.{◌≡◌, List, [], ◌∷◌, ◌++◌, true, refl, sym, ap, subst, ◌∙◌, cond, append-nil, inl, inr}
use Rattle.std.specs.Prelude.{◌⊎◌, Some, None, is_some}
use Rattle.std.specs.List.{AllByRecursion}
use Rattle.std.specs.Ordering.{is_eq}
use Rattle.std.specs.declared.cmp.Ordering.TheVariants.{Less}
use Rattle.std.proofs.lemmas.Cmp.{tied_itself}
use Rattle.yp_base.specs.declared.path.Seg.{Seg}
use Rattle.yp_base.specs.declared.row.Value.{Value}
use Rattle.yp_base.specs.declared.row.Row.{Row}
use Rattle.yp_base.specs.Order.{path_cmp, is_within}
use Rattle.yp_base.specs.OrderLaws.{paths_total}
use Rattle.yp_base.specs.Rows.{value_at, AreInOrder}
use Rattle.yp_base.specs.RowLaws.{AllPast, first_order, still_some}
use Rattle.yp_schema.specs.declared.schema.SchemaNode.{SchemaNode}
use Rattle.yp_schema.specs.Datastore.{HaveEntries}
use Rattle.yp_data_json.specs.Reading.{row_at}
use Rattle.yp_base.specs.PathLaws.{within_itself, within_rest, within_longer}
use Rattle.yp_data_json.proofs.Laying.{StandsUnder, not_before}
use Rattle.yp_data_json.proofs.PutRows.{same_or_apart}
use Rattle.yp_data_json.proofs.Whole.{EntriesBelow, less_front}
use Rattle.yp_data_json.proofs.Wholes.{too_short}

-- ---- the own row comes first

under_row : (at front : List Seg) (row : Row) → ((rest : List Seg) × (row.path ≡ at ++ rest)) → path_cmp (at ++ front) row.path ≡ Less → StandsUnder at row
under_row at front row ([], is) less = absurd (not_before at front (sym (ap (path_cmp (at ++ front)) (is ∙ append-nil at)) ∙ less))
under_row at front row (s ∷ rest, is) less = (s, rest, is)

-- what comes after a path at or below the place stands under it
under_later : (at front : List Seg) (rows : List Row) → AllByRecursion (λ row. is_within at row.path ≡ true) rows → AllPast (at ++ front) rows → AllByRecursion (StandsUnder at) rows
under_later at front [] within later = tt
under_later at front (row ∷ rows) within later = (under_row at front row (within_rest at row.path within.0) later.0, under_later at front rows within.1 later.1)

-- the first row is the place's own, and the others stand under it
abbrev pub OwnFirst : List Seg → List Row → Type 0
OwnFirst at rows = (value : Value) × (rest : List Row) × (rows ≡ row_at at value ∷ rest) × AllByRecursion (StandsUnder at) rest

own_or : (at : List Seg) (row : Row) (rows : List Row) → ((rest : List Seg) × (row.path ≡ at ++ rest)) → AllPast row.path rows → AllByRecursion (λ other. is_within at other.path ≡ true) rows
    → AllByRecursion (StandsUnder at) (row ∷ rows) ⊎ OwnFirst at (row ∷ rows)
own_or at row rows ([], is) past within =
    let here : row.path ≡ at = is ∙ append-nil at in
    inr (row.value, rows, (λ i. record { path = here i; value = row.value } ∷ rows), under_later at [] rows within (subst (λ (p : List Seg). AllPast p rows) is past))
own_or at row rows (s ∷ rest, is) past within = inl ((s, rest, is), under_later at (s ∷ rest) rows within (subst (λ (p : List Seg). AllPast p rows) is past))

pub under_or_own : (at : List Seg) (rows : List Row) → AreInOrder rows → AllByRecursion (λ row. is_within at row.path ≡ true) rows → AllByRecursion (StandsUnder at) rows ⊎ OwnFirst at rows
under_or_own at [] order within = inl tt
under_or_own at (row ∷ rows) order within = own_or at row rows (within_rest at row.path within.0) (first_order row rows order) within.1

-- the rows under a place have none of its own
pub none_under : (at : List Seg) (rows : List Row) → AllByRecursion (StandsUnder at) rows → value_at at rows ≡ None
none_under at [] under = refl
none_under at (row ∷ rows) under =
    ap (λ o. cond (is_eq o) (Some row.value) (value_at at rows)) (ap (path_cmp at) under.0.2 ∙ less_front at under.0.0 under.0.1) ∙ none_under at rows under.1

pub own_value : (at : List Seg) (value : Value) (rest : List Row) → value_at at (row_at at value ∷ rest) ≡ Some value
own_value at value rest = ap (λ o. cond (is_eq o) (Some value) (value_at at rest)) (tied_itself paths_total at)

-- ---- entries

-- of rows whose entries are there, those under the place have theirs
pub entries_under : (nodes : List SchemaNode) (at : List Seg) (rows : List Row) → HaveEntries nodes at rows → EntriesBelow nodes at rows
entries_under nodes at rows entries = λ path rest seg inside entry h. entries (path ++ seg ∷ []) rest (within_longer at path (seg ∷ []) inside) entry h

-- a path under the place isn't the place
under_apart : (at path : List Seg) (seg : Seg) → is_within at path ≡ true → path ++ seg ∷ [] ≡ at → ⊥
under_apart at path seg inside e =
    let found = within_rest at path inside in
    too_short at found.0 seg (subst (λ (p : List Seg). is_within (p ++ seg ∷ []) at ≡ true) found.1 (subst (λ (p : List Seg). is_within p at ≡ true) (sym e) (within_itself at)))

pub entries_rest : (nodes : List SchemaNode) (at : List Seg) (value : Value) (rest : List Row) → HaveEntries nodes at (row_at at value ∷ rest) → EntriesBelow nodes at rest
entries_rest nodes at value rest entries = λ path more seg inside entry h.
    let there = entries (path ++ seg ∷ []) more (within_longer at path (seg ∷ []) inside) entry (still_some (is_eq (path_cmp ((path ++ seg ∷ []) ++ more) at)) value (value_at ((path ++ seg ∷ []) ++ more) rest) h) in
    same_or_apart (path ++ seg ∷ []) at (λ e. absurd (under_apart at path seg inside e))
    (λ apart. sym (ap (λ b. is_some (cond b (Some value) (value_at (path ++ seg ∷ []) rest))) apart) ∙ there)
