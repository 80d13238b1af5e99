-- Roots that are found at the places of changed rows, one after another.
use Rattle.std.proofs.Common.{◌≡◌, ℕ, suc, ◌+◌, ◌<◌, ◌≤◌, length, drop, get_or, drop-cons, arith, List, [], ◌∷◌, ◌++◌, map, refl, sym, ap, subst, ◌∙◌, cond, true, append_assoc}
use Rattle.std.specs.Prelude.{sum}
use Rattle.std.specs.List.{AllByRecursion}
use Rattle.std.proofs.lemmas.List.Elements.{filter_map-append}
use Rattle.std.proofs.lemmas.List.Sums.{sum_by-cons}
use Rattle.yp_base.specs.declared.path.Seg.{Seg}
use Rattle.yp_base.specs.declared.row.Row.{Row}
use Rattle.yp_base.specs.Order.{is_within}
use Rattle.yp_base.specs.Paths.{last_node}
use Rattle.yp_base.specs.Rows.{path_of, rows_within}
use Rattle.yp_schema.specs.declared.schema.SchemaNode.{SchemaNode}
use Rattle.yp_schema.specs.Datastore.{IsRowOf}
use Rattle.yp_changes.specs.declared.changed.ChangedRow.{ChangedRow}
use Rattle.yp_filter.specs.Filters.{Asked}
use Rattle.yp_select.specs.Places.{path_above, is_compared}
use Rattle.yp_kept.specs.SelectionLaws.{all_selected}
use Rattle.yp_touch.specs.declared.root.Root.{Root}
use Rattle.yp_touch.specs.Looked.{root_found, roots_found, looks_at, looks_of}

-- the rows at or below a path are of the schema
pub below_of_schema : (nodes : List SchemaNode) (under : List Seg) (rows items : List Row) → AllByRecursion (IsRowOf nodes) rows → items ≡ rows_within under rows → AllByRecursion (IsRowOf nodes) items
below_of_schema nodes under rows items all is = subst (AllByRecursion (IsRowOf nodes)) (sym is) (all_selected (is_within under) (IsRowOf nodes) rows all)

module _ (roots : List (List Seg)) (old new : List Row) where
  -- what is found at some paths, and then at others
  pub found_next : (before now whole : List Root) (xs ys : List (List Seg)) → now ≡ before ++ roots_found roots old new xs → before ++ roots_found roots old new (xs ++ ys) ≡ whole → now ++ roots_found roots old new ys ≡ whole
  found_next before now whole xs ys one all =
      ap (λ (found : List Root). found ++ roots_found roots old new ys) one
      ∙ append_assoc before (roots_found roots old new xs) (roots_found roots old new ys)
      ∙ ap (λ (found : List Root). before ++ found) (sym (filter_map-append (root_found roots old new) xs ys))
      ∙ all

  pub two_found : (before middle after : List Root) (xs ys : List (List Seg)) → middle ≡ before ++ roots_found roots old new xs → after ≡ middle ++ roots_found roots old new ys → after ≡ before ++ roots_found roots old new (xs ++ ys)
  two_found before middle after xs ys one two = two ∙ found_next before middle (before ++ roots_found roots old new (xs ++ ys)) xs ys one refl

-- the looks for a changed row on whose node the filter matches
pub looked_rows : (nodes : List SchemaNode) (asked : Asked) (before after : List Row) (one above : List Seg) (old new : List Row) → is_compared nodes asked (last_node one) ≡ true → above ≡ path_above one
    → old ≡ rows_within above before → new ≡ rows_within above after → map path_of old ++ map path_of new ≡ looks_at nodes asked before after one
looked_rows nodes asked before after one above old new compared is olds news =
    (λ i. map path_of ((olds ∙ ap (λ (p : List Seg). rows_within p before) is) i) ++ map path_of ((news ∙ ap (λ (p : List Seg). rows_within p after) is) i))
    ∙ sym (ap (λ b. cond b (map path_of (rows_within (path_above one) before) ++ map path_of (rows_within (path_above one) after)) (one ∷ [])) compared)

pub cut : (i : ℕ) (changed : List ChangedRow) (row : ChangedRow) → i < length changed → row ≡ get_or changed i row → drop i changed ≡ row ∷ drop (i + 1) changed
cut i changed row less is = let e : suc i ≡ i + 1 = omega arith in drop-cons changed i row less ∙ (λ k. sym is k ∷ drop (e k) changed)

-- one more changed row
pub found_more : (nodes : List SchemaNode) (asked : Asked) (before after : List Row) (roots : List (List Seg)) (old new : List Row) (found next whole : List Root) (changed : List ChangedRow) (i : ℕ) (row : ChangedRow) → i < length changed → row ≡ get_or changed i row
    → found ++ roots_found roots old new (looks_of nodes asked before after (map (λ (row : ChangedRow). row.path) (drop i changed))) ≡ whole
    → next ≡ found ++ roots_found roots old new (looks_at nodes asked before after row.path)
    → next ++ roots_found roots old new (looks_of nodes asked before after (map (λ (row : ChangedRow). row.path) (drop (i + 1) changed))) ≡ whole
found_more nodes asked before after roots old new found next whole changed i row less is all one =
    found_next roots old new found next whole (looks_at nodes asked before after row.path) (looks_of nodes asked before after (map (λ (row : ChangedRow). row.path) (drop (i + 1) changed))) one
    (ap (λ (rows : List ChangedRow). found ++ roots_found roots old new (looks_of nodes asked before after (map (λ (row : ChangedRow). row.path) rows))) (sym (cut i changed row less is)) ∙ all)

-- and its visits
pub visits_more : (f : ChangedRow → ℕ) (changed : List ChangedRow) (i steps next bound : ℕ) (row : ChangedRow) → i < length changed → row ≡ get_or changed i row → steps + sum (map f (drop i changed)) ≤ bound → next ≤ steps + f row → next + sum (map f (drop (i + 1) changed)) ≤ bound
visits_more f changed i steps next bound row less is all one =
    let whole : sum (map f (drop i changed)) ≡ f row + sum (map f (drop (i + 1) changed)) = ap (λ (rows : List ChangedRow). sum (map f rows)) (cut i changed row less is) ∙ sum_by-cons (λ (x : ℕ). x) (f row) (map f (drop (i + 1) changed)) in
    omega (arith, all, one, whole)

pub rest_have : (P : ChangedRow → Type 0) (changed : List ChangedRow) (i : ℕ) (row : ChangedRow) → i < length changed → row ≡ get_or changed i row → AllByRecursion P (drop i changed) → P row × AllByRecursion P (drop (i + 1) changed)
rest_have P changed i row less is all = subst (AllByRecursion P) (cut i changed row less is) all
