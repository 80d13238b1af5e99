-- The first of the paths of two lists in order is split off.
use Rattle.std.proofs.Common.{◌≡◌, List, [], ◌∷◌, map, refl, sym, ap, subst, ◌∙◌, cond, true, false, Option, Some, None, arith}
use Rattle.std.specs.List.{cons_option}
use Rattle.std.specs.List.Sorted.{IsStrictlySortedBy}
use Rattle.std.specs.Ordering.{is_eq}
use Rattle.std.specs.declared.cmp.Ordering.TheVariants.{Less, Equal, Greater}
use Rattle.yp_base.specs.declared.path.Seg.{Seg}
use Rattle.yp_base.specs.declared.row.Value.{Value}
use Rattle.yp_base.specs.declared.row.Row.{Row}
use Rattle.yp_base.specs.Order.{path_cmp}
use Rattle.yp_base.specs.Exact.{paths_exact}
use Rattle.yp_base.specs.PathLaws.{are_one, ties_itself, greater_turned, IsBefore}
use Rattle.yp_base.specs.Rows.{path_of, value_at, put_row, put_rows, AreInOrder}
use Rattle.yp_base.specs.RowLaws.{AllPast, all_past, none_past, put_above, first_order, rest_order}
use Rattle.yp_changes.specs.ChangeLaws.{change_path, paths_in, change_in, AreSorted, none_before, same_changes, found_before, of_path, changed_at, changed_sorted}
use Rattle.yp_changes.specs.Changes.{change_of, row_change, changed_rows}
use Rattle.yp_changes.specs.Differing.{SplitsOff}

past_puts : (path : List Seg) (news rows : List Row) → AllPast path news → AllPast path rows → AllPast path (put_rows news rows)
past_puts path [] rows one other = other
past_puts path (new ∷ news) rows one other = past_puts path news (put_row new rows) one.1 (put_above path new rows one.0 other)

module _ (path : List Seg) (old new : Option Value) (olds news : List Row) (order : AreInOrder olds) (olds_past : AllPast path olds) (news_past : AllPast path news) where
  rest_before : IsBefore path (paths_in (changed_rows olds news))
  rest_before = found_before (row_change olds news) (of_path olds news) path (map path_of (put_rows news olds)) (past_puts path news olds news_past olds_past)

  rest_sorted : AreSorted (cons_option (change_of path old new) (changed_rows olds news))
  unfolding IsStrictlySortedBy
  rest_sorted =
      elim (change_of path old new) as (λ r. change_of path old new ≡ r → AreSorted (cons_option r (changed_rows olds news))) [
        | None ↦ λ is. changed_sorted olds news order
        | Some change ↦ λ is. (subst (λ (p : List Seg). IsBefore p (paths_in (changed_rows olds news))) (sym (change_path path old new change is)) rest_before, changed_sorted olds news order)
      ] refl

  at_path : (q : List Seg) → q ≡ path → change_of q old new ≡ change_in q (cons_option (change_of path old new) (changed_rows olds news))
  at_path q same =
      elim (change_of path old new) as (λ r. change_of path old new ≡ r → change_of q old new ≡ change_in q (cons_option r (changed_rows olds news))) [
        | None ↦ λ is.
            ap (λ p. change_of p old new) same ∙ is
            ∙ sym (none_before q (changed_rows olds news) (subst (λ (p : List Seg). IsBefore p (paths_in (changed_rows olds news))) (sym same) rest_before))
        | Some change ↦ λ is.
            let tied : is_eq (path_cmp q change.path) ≡ true = ap (λ p. is_eq (path_cmp q p)) (change_path path old new change is ∙ sym same) ∙ ties_itself q in
            ap (λ p. change_of p old new) same ∙ is ∙ sym (ap (λ b. cond b (Some change) (change_in q (changed_rows olds news))) tied)
      ] refl

  at_other : (q : List Seg) → is_eq (path_cmp q path) ≡ false → row_change olds news q ≡ change_in q (cons_option (change_of path old new) (changed_rows olds news))
  at_other q other =
      sym (changed_at olds news q)
      ∙ elim (change_of path old new) as (λ r. change_of path old new ≡ r → change_in q (changed_rows olds news) ≡ change_in q (cons_option r (changed_rows olds news))) [
        | None ↦ λ is. refl
        | Some change ↦ λ is.
            let apart : is_eq (path_cmp q change.path) ≡ false = ap (λ p. is_eq (path_cmp q p)) (change_path path old new change is) ∙ other in
            sym (ap (λ b. cond b (Some change) (change_in q (changed_rows olds news))) apart)
      ] refl

  split_at : (q : List Seg) → change_of q (cond (is_eq (path_cmp q path)) old (value_at q olds)) (cond (is_eq (path_cmp q path)) new (value_at q news)) ≡ change_in q (cons_option (change_of path old new) (changed_rows olds news))
  split_at q =
      elim (is_eq (path_cmp q path)) as (λ b. is_eq (path_cmp q path) ≡ b → change_of q (cond b old (value_at q olds)) (cond b new (value_at q news)) ≡ change_in q (cons_option (change_of path old new) (changed_rows olds news))) [
        | true ↦ λ here. at_path q (are_one q path here)
        | false ↦ λ here. at_other q here
      ] refl

  split_told : (all_olds all_news : List Row) → AreInOrder all_olds
      → ((q : List Seg) → value_at q all_olds ≡ cond (is_eq (path_cmp q path)) old (value_at q olds)) → ((q : List Seg) → value_at q all_news ≡ cond (is_eq (path_cmp q path)) new (value_at q news))
      → changed_rows all_olds all_news ≡ cons_option (change_of path old new) (changed_rows olds news)
  split_told all_olds all_news all_order one other =
      same_changes (changed_rows all_olds all_news) (cons_option (change_of path old new) (changed_rows olds news)) (changed_sorted all_olds all_news all_order) rest_sorted
      (λ q. changed_at all_olds all_news q ∙ (λ i. change_of q (one q i) (other q i)) ∙ split_at q)

absent : (path q : List Seg) (rows : List Row) → AllPast path rows → value_at q rows ≡ cond (is_eq (path_cmp q path)) None (value_at q rows)
absent path q rows past =
    elim (is_eq (path_cmp q path)) as (λ b. is_eq (path_cmp q path) ≡ b → value_at q rows ≡ cond b None (value_at q rows)) [
      | true ↦ λ here. none_past q rows (subst (λ (p : List Seg). AllPast p rows) (sym (are_one q path here)) past)
      | false ↦ λ here. refl
    ] refl

-- ---- the three ways to split

pub old_first : (row : Row) (olds news : List Row) → AreInOrder (row ∷ olds) → AreInOrder news → AllPast row.path news → SplitsOff (row ∷ olds) news row.path (Some row.value) None olds news
old_first row olds news order news_order past =
    let rest = rest_order row olds order in
    record {
      olds_order = rest;
      news_order = news_order;
      fewer = omega arith;
      changed = split_told row.path (Some row.value) None olds news rest (first_order row olds order) past (row ∷ olds) news order (λ q. refl) (λ q. absent row.path q news past);
    }

pub new_first : (row : Row) (olds news : List Row) → AreInOrder olds → AreInOrder (row ∷ news) → AllPast row.path olds → SplitsOff olds (row ∷ news) row.path None (Some row.value) olds news
new_first row olds news order news_order past = record {
  olds_order = order;
  news_order = rest_order row news news_order;
  fewer = omega arith;
  changed = split_told row.path None (Some row.value) olds news order past (first_order row news news_order) olds (row ∷ news) order (λ q. absent row.path q olds past) (λ q. refl);
}

pub both_first : (old new : Row) (olds news : List Row) → path_cmp old.path new.path ≡ Equal → AreInOrder (old ∷ olds) → AreInOrder (new ∷ news) → SplitsOff (old ∷ olds) (new ∷ news) old.path (Some old.value) (Some new.value) olds news
both_first old new olds news equal order news_order =
    let same : new.path ≡ old.path = sym (paths_exact old.path new.path equal) in
    let rest = rest_order old olds order in
    record {
      olds_order = rest;
      news_order = rest_order new news news_order;
      fewer = omega arith;
      changed = split_told old.path (Some old.value) (Some new.value) olds news rest (first_order old olds order) (subst (λ (p : List Seg). AllPast p news) same (first_order new news news_order)) (old ∷ olds) (new ∷ news) order (λ q. refl) (λ q. ap (λ p. cond (is_eq (path_cmp q p)) (Some new.value) (value_at q news)) same);
    }

-- ---- two lists by their first rows

module _ (olds news olds_left news_left : List Row) (old new : Row) (olds_order : AreInOrder olds) (news_order : AreInOrder news) where
  pub less_splits : olds ≡ old ∷ olds_left → news ≡ new ∷ news_left → path_cmp old.path new.path ≡ Less → SplitsOff olds news old.path (Some old.value) None olds_left news
  less_splits olds_are news_are less =
      let past : AllPast old.path (new ∷ news_left) = (less, all_past old.path new.path news_left less (first_order new news_left (subst AreInOrder news_are news_order))) in
      subst (λ (rows : List Row). SplitsOff rows news old.path (Some old.value) None olds_left news) (sym olds_are)
      (old_first old olds_left news (subst AreInOrder olds_are olds_order) news_order (subst (AllPast old.path) (sym news_are) past))

  pub greater_splits : olds ≡ old ∷ olds_left → news ≡ new ∷ news_left → path_cmp old.path new.path ≡ Greater → SplitsOff olds news new.path None (Some new.value) olds news_left
  greater_splits olds_are news_are greater =
      let less = greater_turned old.path new.path greater in
      let past : AllPast new.path (old ∷ olds_left) = (less, all_past new.path old.path olds_left less (first_order old olds_left (subst AreInOrder olds_are olds_order))) in
      subst (λ (rows : List Row). SplitsOff olds rows new.path None (Some new.value) olds news_left) (sym news_are)
      (new_first new olds news_left olds_order (subst AreInOrder news_are news_order) (subst (AllPast new.path) (sym olds_are) past))

  pub equal_splits : olds ≡ old ∷ olds_left → news ≡ new ∷ news_left → path_cmp old.path new.path ≡ Equal → SplitsOff olds news old.path (Some old.value) (Some new.value) olds_left news_left
  equal_splits olds_are news_are equal =
      let both = both_first old new olds_left news_left equal (subst AreInOrder olds_are olds_order) (subst AreInOrder news_are news_order) in
      subst (λ (rows : List Row). SplitsOff olds rows old.path (Some old.value) (Some new.value) olds_left news_left) (sym news_are)
      (subst (λ (rows : List Row). SplitsOff rows (new ∷ news_left) old.path (Some old.value) (Some new.value) olds_left news_left) (sym olds_are) both)

pub olds_split : (olds news olds_left : List Row) (old : Row) → AreInOrder olds → AreInOrder news → olds ≡ old ∷ olds_left → news ≡ [] → SplitsOff olds news old.path (Some old.value) None olds_left news
olds_split olds news olds_left old olds_order news_order olds_are none =
    subst (λ (rows : List Row). SplitsOff rows news old.path (Some old.value) None olds_left news) (sym olds_are)
    (old_first old olds_left news (subst AreInOrder olds_are olds_order) news_order (subst (AllPast old.path) (sym none) tt))

pub news_split : (olds news news_left : List Row) (new : Row) → AreInOrder olds → AreInOrder news → olds ≡ [] → news ≡ new ∷ news_left → SplitsOff olds news new.path None (Some new.value) olds news_left
news_split olds news news_left new olds_order news_order none news_are =
    subst (λ (rows : List Row). SplitsOff olds rows new.path None (Some new.value) olds news_left) (sym news_are)
    (new_first new olds news_left olds_order (subst AreInOrder news_are news_order) (subst (AllPast new.path) (sym none) tt))

pub none_split : (olds news : List Row) → olds ≡ [] → news ≡ [] → changed_rows olds news ≡ []
none_split olds news olds_none news_none = λ i. changed_rows (olds_none i) (news_none i)
