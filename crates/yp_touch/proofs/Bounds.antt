-- The visits of a step and of a record are within their bounds.
use Rattle.std.proofs.Common.{◌≡◌, ℕ, suc, ◌+◌, ◌*◌, ◌≤◌, length, List, [], ◌∷◌, map, sym, ap, subst, ◌∙◌, cond, true, false, arith}
use Rattle.std.specs.Prelude.{sum}
use Rattle.std.proofs.lemmas.List.Sums.{sum_by-cons}
use Rattle.yp_base.specs.declared.path.Seg.{Seg}
use Rattle.yp_base.specs.declared.row.Row.{Row}
use Rattle.yp_base.specs.Paths.{last_node}
use Rattle.yp_base.specs.Rows.{rows_within}
use Rattle.yp_schema.specs.declared.schema.SchemaNode.{SchemaNode}
use Rattle.yp_changes.specs.declared.changed.ChangedRow.{ChangedRow}
use Rattle.yp_filter.specs.Filters.{Asked, filter_size}
use Rattle.yp_select.specs.Places.{path_above, is_compared}
use Rattle.yp_touch.specs.declared.root.Root.{Root}
use Rattle.yp_touch.specs.Looked.{look_visits, looks_visits, moved_rows, step_visits, root_visits, rows_below, window_visits}

two_parts : (f s x y w : ℕ) → f ≤ x * w → s ≤ y * w → f + s ≤ (x + y) * w
two_parts f s x y w one two = grind (arith, one, two)

few_looks : (b a k : ℕ) → (b + 1) + (a + 1) + (b + a) * (2 * (k + 1)) ≤ (1 + (b + a)) * (16 * (k + 1))
few_looks b a k = grind arith

one_look : (k : ℕ) → 2 * (k + 1) ≤ (1 + 0) * (16 * (k + 1))
one_look k = grind arith

row_bound : (nodes : List SchemaNode) (asked : Asked) (before after : List Row) (one : List Seg) → looks_visits nodes asked before after one ≤ (1 + moved_rows nodes asked before after one) * (16 * (filter_size asked + 1))
row_bound nodes asked before after one =
    let b = length (rows_within (path_above one) before) in
    let a = length (rows_within (path_above one) after) in
    elim (is_compared nodes asked (last_node one)) as (λ t. cond t ((b + 1) + (a + 1) + (b + a) * look_visits (filter_size asked)) (look_visits (filter_size asked)) ≤ (1 + cond t (b + a) 0) * (16 * (filter_size asked + 1))) [
      | true ↦ few_looks b a (filter_size asked)
      | false ↦ one_look (filter_size asked)
    ]

-- the looks for changed rows take no more visits than the bound
pub step_bound : (nodes : List SchemaNode) (asked : Asked) (before after : List Row) (changed : List ChangedRow) → sum (map (λ (row : ChangedRow). looks_visits nodes asked before after row.path) changed) ≤ step_visits nodes asked before after changed
step_bound nodes asked before after [] = omega arith
step_bound nodes asked before after (row ∷ changed) =
    let w = 16 * (filter_size asked + 1) in
    let f : ℕ = looks_visits nodes asked before after row.path in
    let m : ℕ = moved_rows nodes asked before after row.path in
    let s : ℕ = sum (map (λ (row : ChangedRow). looks_visits nodes asked before after row.path) changed) in
    let more : ℕ = sum (map (λ (row : ChangedRow). moved_rows nodes asked before after row.path) changed) in
    let both : f + s ≤ ((1 + m) + (length changed + more)) * w = two_parts f s (1 + m) (length changed + more) w (row_bound nodes asked before after row.path) (step_bound nodes asked before after changed) in
    let left : sum (map (λ (row : ChangedRow). looks_visits nodes asked before after row.path) (row ∷ changed)) ≡ f + s = sum_by-cons (λ (x : ℕ). x) f (map (λ (row : ChangedRow). looks_visits nodes asked before after row.path) changed) in
    let right : sum (map (λ (row : ChangedRow). moved_rows nodes asked before after row.path) (row ∷ changed)) ≡ m + more = sum_by-cons (λ (x : ℕ). x) m (map (λ (row : ChangedRow). moved_rows nodes asked before after row.path) changed) in
    let count : length (row ∷ changed) + (m + more) ≡ (1 + m) + (length changed + more) = omega arith in
    subst (λ n. n ≤ step_visits nodes asked before after (row ∷ changed)) (sym left)
    (subst (λ n. f + s ≤ n * w) (sym (ap (λ n. length (row ∷ changed) + n) right ∙ count)) both)

-- the edit of a root
pub edit_bound : (b f : ℕ) → (f + 1) + (b + 1) * (f + 1) ≤ (b + 1) * (16 * (f + 1))
edit_bound b f = grind arith

-- one root more
pub window_more : (asked : Asked) (rows : List Row) (root : Root) (roots : List Root) → root_visits asked rows root.path + window_visits asked rows roots ≡ window_visits asked rows (root ∷ roots)
window_more asked rows root roots =
    let w = 16 * (filter_size asked + 1) in
    let b = length (rows_within root.path rows) in
    let whole : rows_below rows (root ∷ roots) ≡ b + rows_below rows roots = sum_by-cons (λ (x : ℕ). x) b (map (λ (root : Root). length (rows_within root.path rows)) roots) in
    plain b (rows_below rows roots) (length roots) w
    ∙ ap (λ n. (n + suc (length roots)) * w) (sym whole)
  where
    plain : (b r n w : ℕ) → (b + 1) * w + (r + n) * w ≡ ((b + r) + suc n) * w
    plain b r n w = grind arith

visits_for : (s0 s1 s2 s3 s4 o n k : ℕ) → s1 ≤ s0 + o + 1 → s2 ≤ s1 + o * k → s3 ≤ s2 + n + 1 → s4 ≤ s3 + n * k → s4 ≤ s0 + ((o + 1) + (n + 1) + (o + n) * k)
visits_for s0 s1 s2 s3 s4 o n k one two three four = grind (arith, one, two, three, four)

-- the looks for a changed row on whose node the filter matches
pub looks_bound : (nodes : List SchemaNode) (asked : Asked) (before after : List Row) (one above : List Seg) (olds news : List Row) (s0 s1 s2 s3 s4 o n : ℕ) → is_compared nodes asked (last_node one) ≡ true → above ≡ path_above one
    → olds ≡ rows_within above before → news ≡ rows_within above after → length olds ≡ o → length news ≡ n
    → s1 ≤ s0 + o + 1 → s2 ≤ s1 + o * look_visits (filter_size asked) → s3 ≤ s2 + n + 1 → s4 ≤ s3 + n * look_visits (filter_size asked) → s4 ≤ s0 + looks_visits nodes asked before after one
looks_bound nodes asked before after one above olds news s0 s1 s2 s3 s4 o n compared is old new many few first second third fourth =
    let k = look_visits (filter_size asked) in
    let b : length (rows_within (path_above one) before) ≡ o = ap (λ (xs : List Row). length xs) (sym (old ∙ ap (λ (p : List Seg). rows_within p before) is)) ∙ many in
    let a : length (rows_within (path_above one) after) ≡ n = ap (λ (xs : List Row). length xs) (sym (new ∙ ap (λ (p : List Seg). rows_within p after) is)) ∙ few in
    let whole : looks_visits nodes asked before after one ≡ (o + 1) + (n + 1) + (o + n) * k =
    ap (λ t. cond t ((length (rows_within (path_above one) before) + 1) + (length (rows_within (path_above one) after) + 1) + (length (rows_within (path_above one) before) + length (rows_within (path_above one) after)) * k) k) compared
    ∙ (λ i. (b i + 1) + (a i + 1) + (b i + a i) * k) in
    subst (λ v. s4 ≤ s0 + v) (sym whole) (visits_for s0 s1 s2 s3 s4 o n k first second third fourth)
