-- An ordered map's entries and their rows.
use Rattle.std.proofs.Common.{◌≡◌, List, [], ◌∷◌, map, refl, sym, ap, ◌∙◌, cond, true, false, true≢false, Some}
use Rattle.std.specs.Prelude.{Result, Ok, Err, OnErr, is_some}
use Rattle.std.specs.BTreeMap.{insert_entry, is_at}
use Rattle.std.specs.Map.{lookup, remove_entry, set_value}
use Rattle.std.specs.Ordering.{is_eq, match_ordering}
use Rattle.std.specs.declared.cmp.Ordering.{Ordering}
use Rattle.std.specs.declared.cmp.Ordering.TheVariants.{Less, Equal, Greater}
use Rattle.yp_base.specs.declared.path.Seg.{Seg}
use Rattle.yp_base.specs.declared.row.Row.{Row}
use Rattle.yp_base.specs.declared.row.Value.{Value}
use Rattle.yp_base.specs.Order.{path_cmp}
use Rattle.yp_base.specs.Rows.{path_of, value_at, put_row, AreInOrder, row_of, rows_of}
use Rattle.yp_base.specs.RowLaws.{none_past, all_past, first_order, rest_order, put_keeps_order}
use Rattle.yp_tree.specs.Listed.{set_row, without_row}

pub value_at-lookup : (path : List Seg) (es : List (List Seg × Value)) → lookup (is_at (path_cmp path)) es ≡ value_at path (rows_of es)
value_at-lookup path [] = refl
value_at-lookup path (e ∷ es) = ap (cond (is_eq (path_cmp path e.0)) _) (value_at-lookup path es)

rows_of_choice : (o : Ordering) (a b c : List (List Seg × Value)) → rows_of (match_ordering o a b c) ≡ match_ordering o (rows_of a) (rows_of b) (rows_of c)
rows_of_choice Less a b c = refl
rows_of_choice Equal a b c = refl
rows_of_choice Greater a b c = refl

pub put_row-insert : (path : List Seg) (value : Value) (es : List (List Seg × Value)) → rows_of (insert_entry path_cmp es path value) ≡ put_row (record { path = path; value = value }) (rows_of es)
put_row-insert path value [] = refl
put_row-insert path value (e ∷ es) =
    rows_of_choice (path_cmp path e.0) _ _ _
    ∙ ap (λ rows. match_ordering (path_cmp path e.0) (record { path = path; value = value } ∷ row_of e ∷ rows_of es) (record { path = e.0; value = value } ∷ rows_of es) (row_of e ∷ rows)) (put_row-insert path value es)

pub without_row-remove : (path : List Seg) (es : List (List Seg × Value)) → rows_of (remove_entry (is_at (path_cmp path)) es) ≡ without_row path (rows_of es)
without_row-remove path [] = refl
without_row-remove path (e ∷ es) =
    elim (is_eq (path_cmp path e.0)) as (λ b. rows_of (cond b es (e ∷ remove_entry (is_at (path_cmp path)) es)) ≡ cond b (rows_of es) (row_of e ∷ without_row path (rows_of es))) [
      | true ↦ refl
      | false ↦ ap (λ rows. row_of e ∷ rows) (without_row-remove path es)
    ]

-- where a row is there, its entry gets the value
set_there : (path : List Seg) (value : Value) (es : List (List Seg × Value)) → AreInOrder (rows_of es) → is_some (value_at path (rows_of es)) ≡ true
    → rows_of (set_value (is_at (path_cmp path)) es value) ≡ put_row (row_of (path, value)) (rows_of es)
set_there path value [] order there = absurd (true≢false (sym there))
set_there path value (e ∷ es) order there =
    let new : Row = row_of (path, value) in
    let rows : List Row = rows_of es in
    elim (path_cmp path e.0) as (λ o. path_cmp path e.0 ≡ o → is_some (cond (is_eq o) (Some e.1) (value_at path rows)) ≡ true → rows_of (cond (is_eq o) ((e.0, value) ∷ es) (e ∷ set_value (is_at (path_cmp path)) es value)) ≡ match_ordering o (new ∷ row_of e ∷ rows) (row_of (e.0, value) ∷ rows) (row_of e ∷ put_row new rows)) [
      | Less ↦ λ before h. absurd (true≢false (sym h ∙ ap is_some (none_past path rows (all_past path e.0 rows before (first_order (row_of e) rows order)))))
      | Equal ↦ λ here h. refl
      | Greater ↦ λ after h. ap (λ rest. row_of e ∷ rest) (set_there path value es (rest_order (row_of e) rows order) h)
    ] refl there

-- a value that is written where a path is found
pub set_found : (path : List Seg) (value : Value) (es : List (List Seg × Value)) → AreInOrder (rows_of es) → is_some (lookup (is_at (path_cmp path)) es) ≡ true
    → rows_of (set_value (is_at (path_cmp path)) es value) ≡ set_row (row_of (path, value)) (rows_of es)
set_found path value es order found =
    let there = ap is_some (sym (value_at-lookup path es)) ∙ found in
    set_there path value es order there ∙ ap (λ b. cond b (put_row (row_of (path, value)) (rows_of es)) (rows_of es)) (sym there)

-- and one for a path that isn't found
pub set_nowhere : (path : List Seg) (value : Value) (es : List (List Seg × Value)) → is_some (lookup (is_at (path_cmp path)) es) ≡ false → rows_of es ≡ set_row (row_of (path, value)) (rows_of es)
set_nowhere path value es missing = ap (λ b. cond b (put_row (row_of (path, value)) (rows_of es)) (rows_of es)) (sym (ap is_some (sym (value_at-lookup path es)) ∙ missing))

pub set_order : (new : Row) (rows : List Row) → AreInOrder rows → AreInOrder (set_row new rows)
set_order new rows order = elim (is_some (value_at new.path rows)) as (λ b. AreInOrder (cond b (put_row new rows) rows)) [ true ↦ put_keeps_order new rows order | false ↦ order ]

pub paths-rows : (es : List (List Seg × Value)) → map path_of (rows_of es) ≡ map (λ e. e.0) es
paths-rows [] = refl
paths-rows (e ∷ es) = ap (λ ps. e.0 ∷ ps) (paths-rows es)

-- what holds, holds after a failure
pub when_failed : {X E : Type 0} {P : Type 0} (r : Result X E) → P → OnErr r P
when_failed (Ok x) h = tt
when_failed (Err e) h = h
