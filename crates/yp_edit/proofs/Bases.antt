-- What touching paths does to the rows that are left.
use Rattle.std.proofs.Common.{◌≡◌, ℕ, ◌≤◌, ◌-◌, suc, List, [], ◌∷◌, length, refl, sym, ap, ◌∙◌, cond, Bool, true, false, not, ◌||◌, Option, Some, None, Bor, arith}
use Rattle.std.specs.Prelude.{filter, is_some, option_copied}
use Rattle.std.specs.Ordering.{is_eq}
use Rattle.yp_base.specs.declared.path.Seg.{Seg}
use Rattle.yp_base.specs.declared.row.Value.{Value}
use Rattle.yp_base.specs.declared.row.Row.{Row}
use Rattle.yp_base.specs.Order.{path_cmp}
use Rattle.yp_base.specs.Rows.{value_at, has_within, AreInOrder}
use Rattle.yp_base.specs.RowLaws.{some_keep_order}
use Rattle.yp_tree.specs.Listed.{without_row}
use Rattle.yp_edit.specs.Bases.{Touched, left, untouched, IsBase, Touches, Loses, TouchesWithin}
use Rattle.yp_changes.specs.Among.{is_listed}
use Rattle.yp_base.specs.PathLaws.{are_one, tie_turned}
use Rattle.yp_tree.specs.Alike.{same_rows}
use Rattle.yp_changes.specs.TakingLaws.{without_row_order, value_at_without_row, none_taken}
use Rattle.yp_edit.proofs.Taking.{one_taken, still_none, all_left}

-- the value at a path, of rows that are picked by their paths
pub value_at_picked : (p : List Seg → Bool) (q : List Seg) (rows : List Row) → value_at q (filter (λ row. p row.path) rows) ≡ cond (p q) (value_at q rows) None
value_at_picked p q [] = elim (p q) as (λ b. value_at q [] ≡ cond b (value_at q []) None) [ true ↦ refl | false ↦ refl ]
value_at_picked p q (row ∷ rows) =
    let some = filter (λ (r : Row). p r.path) rows in
    elim (p row.path) as (λ b. p row.path ≡ b → value_at q (cond b (row ∷ some) some) ≡ cond (p q) (cond (is_eq (path_cmp q row.path)) (Some row.value) (value_at q rows)) None) [
      | true ↦ λ h. elim (is_eq (path_cmp q row.path)) as (λ b. is_eq (path_cmp q row.path) ≡ b → cond b (Some row.value) (value_at q some) ≡ cond (p q) (cond b (Some row.value) (value_at q rows)) None) [
        | true ↦ λ e. ap (λ b. cond b (Some row.value) None) (sym (ap p (are_one q row.path e) ∙ h))
        | false ↦ λ e. value_at_picked p q rows
      ] refl
      | false ↦ λ h. elim (is_eq (path_cmp q row.path)) as (λ b. is_eq (path_cmp q row.path) ≡ b → value_at q some ≡ cond (p q) (cond b (Some row.value) (value_at q rows)) None) [
        | true ↦ λ e.
            let out : p q ≡ false = ap p (are_one q row.path e) ∙ h in
            value_at_picked p q rows ∙ ap (λ b. cond b (value_at q rows) None) out ∙ ap (λ b. cond b (Some row.value) None) (sym out)
        | false ↦ λ e. value_at_picked p q rows
      ] refl
    ] refl

pub value_at_left : (q : List Seg) (paths : List (List Seg)) (rows : List Row) → value_at q (left paths rows) ≡ cond (not (is_listed q paths)) (value_at q rows) None
value_at_left q paths rows = value_at_picked (λ path. not (is_listed path paths)) q rows

pub left_order : (paths : List (List Seg)) (rows : List Row) → AreInOrder rows → AreInOrder (left paths rows)
left_order paths rows order = some_keep_order (λ path. not (is_listed path paths)) rows order

pub left_few : (paths : List (List Seg)) (rows : List Row) → length (left paths rows) ≤ length rows
left_few paths [] = omega arith
left_few paths (row ∷ rows) =
    let fewer = left_few paths rows in
    elim (not (is_listed row.path paths)) as (λ b. length (cond b (row ∷ left paths rows) (left paths rows)) ≤ suc (length rows)) [
      | true ↦ omega (arith, fewer)
      | false ↦ omega (arith, fewer)
    ]

pub none_listed : (rows : List Row) → left [] rows ≡ rows
none_listed [] = refl
none_listed (row ∷ rows) = ap (λ (more : List Row). row ∷ more) (none_listed rows)

abbrev no_value : Option Value
no_value = None

pub none_either : (b : Bool) → cond b no_value no_value ≡ no_value
none_either true = refl
none_either false = refl

one_more : (here listed : Bool) (value : Option Value) → cond (not (here || listed)) value None ≡ cond here None (cond (not listed) value None)
one_more true listed value = refl
one_more false listed value = refl

-- with one more path, one row fewer is left
pub touched_left : (path : List Seg) (paths more : List (List Seg)) (rows : List Row) → AreInOrder rows → ((q : List Seg) → is_listed q more ≡ (is_eq (path_cmp path q) || is_listed q paths)) → left more rows ≡ without_row path (left paths rows)
touched_left path paths more rows order grown =
    same_rows (left more rows) (without_row path (left paths rows)) (left_order more rows order) (without_row_order path (left paths rows) (left_order paths rows order)) (λ q.
    value_at_left q more rows
    ∙ ap (λ b. cond (not b) (value_at q rows) None) (grown q ∙ ap (λ b. b || is_listed q paths) (tie_turned path q))
    ∙ one_more (is_eq (path_cmp q path)) (is_listed q paths) (value_at q rows)
    ∙ ap (cond (is_eq (path_cmp q path)) None) (sym (value_at_left q paths rows))
    ∙ sym (value_at_without_row q path (left paths rows) (left_order paths rows order)))

pub is_some_copied : {X : Type 0} → (found : Option (Bor X)) → is_some (option_copied found) ≡ is_some found
is_some_copied None = refl
is_some_copied (Some x) = refl

-- a touched row isn't there, and another is as before
pub touched_gone : (q : List Seg) (paths : List (List Seg)) (rows : List Row) → is_listed q paths ≡ true → value_at q (left paths rows) ≡ None
touched_gone q paths rows listed = value_at_left q paths rows ∙ ap (λ b. cond (not b) (value_at q rows) None) listed

pub other_there : (q : List Seg) (paths : List (List Seg)) (rows : List Row) → is_listed q paths ≡ false → value_at q (left paths rows) ≡ value_at q rows
other_there q paths rows unlisted = value_at_left q paths rows ∙ ap (λ b. cond (not b) (value_at q rows) None) unlisted

pub chosen : (b c : Bool) → cond b true c ≡ (b || c)
chosen true c = refl
chosen false c = refl

-- ---- a base with one more path

module _ (path : List Seg) (rows : List Row) (paths more bare : List (List Seg)) (count : ℕ) (base : IsBase rows paths bare count) (grown : (q : List Seg) → is_listed q more ≡ (is_eq (path_cmp path q) || is_listed q paths)) where
  fewer : left more rows ≡ without_row path (left paths rows)
  fewer = touched_left path paths more rows base.in_order grown

  still_bare : (q : List Seg) → is_listed q bare ≡ true → has_within q (left more rows) ≡ false
  still_bare q h = ap (has_within q) fewer ∙ still_none q path (left paths rows) (base.none_below q h)

  pub one_fewer : is_some (value_at path (left paths rows)) ≡ true → IsBase rows more bare (count - 1)
  one_fewer there =
      let left_over = one_taken path (left paths rows) there in
      record {
        in_order = base.in_order;
        counted = omega (arith, base.counted, left_over, ap length fewer);
        none_below = still_bare;
      }

  pub as_many : is_some (value_at path (left paths rows)) ≡ false → IsBase rows more bare count
  as_many missing = record {
    in_order = base.in_order;
    counted = base.counted ∙ sym (ap length (fewer ∙ none_taken path (left paths rows) missing));
    none_below = still_bare;
  }

-- a base with one more bare path
pub more_bare : (path : List Seg) (rows : List Row) (paths bare more : List (List Seg)) (count : ℕ) → IsBase rows paths bare count → ((q : List Seg) → is_listed q more ≡ cond (is_eq (path_cmp path q)) true (is_listed q bare)) → has_within path (left paths rows) ≡ false → IsBase rows paths more count
more_bare path rows paths bare more count base grown none = record {
  in_order = base.in_order;
  counted = base.counted;
  none_below = λ q h. elim (is_eq (path_cmp path q)) as (λ b. is_eq (path_cmp path q) ≡ b → cond b true (is_listed q bare) ≡ true → has_within q (left paths rows) ≡ false) [
    | true ↦ λ here k. ap (λ p. has_within p (left paths rows)) (sym (are_one path q here)) ∙ none
    | false ↦ λ here k. base.none_below q k
  ] refl (sym (grown q) ∙ h);
}

-- ---- bases that follow each other

-- with one more path, one row fewer isn't touched
pub touches_left : (path : List Seg) (old new : Touched) → AreInOrder old.rows → Touches path old new → untouched new ≡ without_row path (untouched old)
touches_left path old new order touches = ap (left new.paths) touches.rows ∙ touched_left path old.paths new.paths old.rows order touches.paths

-- what isn't left isn't left once more is touched
pub still_gone : (path : List Seg) (old new : Touched) → Touches path old new → (q : List Seg) → value_at q (untouched old) ≡ None → value_at q (untouched new) ≡ None
still_gone path old new touches q none =
    value_at_left q new.paths new.rows
    ∙ (λ i. cond (not (touches.paths q i)) (value_at q (touches.rows i)) None)
    ∙ one_more (is_eq (path_cmp path q)) (is_listed q old.paths) (value_at q old.rows)
    ∙ ap (cond (is_eq (path_cmp path q)) None) (sym (value_at_left q old.paths old.rows) ∙ none)
    ∙ none_either (is_eq (path_cmp path q))

-- where a path is touched, its row is
pub loses_one : (path : List Seg) (old new : Touched) → AreInOrder old.rows → Touches path old new → Loses path old new
loses_one path old new order touches = record { rows = touches.rows; others = touches_left path old new order touches }

-- where it has no row that isn't, nothing is touched
pub loses_none : (path : List Seg) (base : Touched) → value_at path (untouched base) ≡ None → Loses path base base
loses_none path base none = record { rows = refl; others = sym (none_taken path (untouched base) (ap is_some none)) }

pub none_at_left : (path : List Seg) (paths : List (List Seg)) (rows : List Row) → value_at path rows ≡ None → value_at path (left paths rows) ≡ None
none_at_left path paths rows none = value_at_left path paths rows ∙ ap (λ (v : Option Value). cond (not (is_listed path paths)) v None) none ∙ none_either (not (is_listed path paths))

-- below a bare path nothing is left to touch
pub none_to_touch : (target : List Seg) (rows : List Row) (paths bare : List (List Seg)) (count : ℕ) → IsBase rows paths bare count → is_listed target bare ≡ true → TouchesWithin target (record { rows = rows; paths = paths }) (record { rows = rows; paths = paths })
none_to_touch target rows paths bare count base listed = record {
  rows = refl;
  others = sym (all_left target (left paths rows) (base.none_below target listed));
}
