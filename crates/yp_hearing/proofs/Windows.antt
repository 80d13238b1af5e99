-- The edits of the record of a window of datastores can be heard again, where the texts of their rows are UTF-8.
use Rattle.std.proofs.Common.{◌≡◌, List, [], ◌∷◌, map, Bool, true, false, true≢false, not, cond, Less, Equal, Greater, None, refl, sym}
use Rattle.std.specs.List.{AllByRecursion}
use Rattle.std.specs.Ordering.{match_ordering}
use Rattle.std.proofs.lemmas.Bool.{and_parts, not-true}
use Rattle.yp_base.specs.declared.notice.Change.{Change}
use Rattle.yp_base.specs.declared.notice.ChangeKind.TheVariants as kinds
use Rattle.yp_base.specs.declared.notice.Kinds.{Kinds}
use Rattle.yp_base.specs.declared.path.Seg.{Seg}
use Rattle.yp_base.specs.declared.row.Row.{Row}
use Rattle.yp_base.specs.Order.{path_cmp, is_within}
use Rattle.yp_base.specs.Paths.{topmost}
use Rattle.yp_base.specs.Rows.{last_of, rows_within}
use Rattle.yp_schema.specs.declared.schema.SchemaNode.{SchemaNode}
use Rattle.yp_schema.specs.Datastore.{is_path_of, ends_in_key, has_row, AreWhole}
use Rattle.yp_schema.specs.SchemaLaws.{row_path, row_place}
use Rattle.yp_path.specs.Targets.{has_texts}
use Rattle.yp_changes.specs.Records.{changed_paths, change_at, put_path, put_paths, touched_paths, is_excluded, window_record}
use Rattle.yp_attempt.specs.ListLaws.{all_filter, all_map}
use Rattle.yp_mirror.proofs.Lists.{all_two}
use Rattle.yp_touch.specs.Absorbed.{EndsAsRow}
use Rattle.yp_touch.specs.RecordLaws.{changed_hold, topmost_hold, rows_end}
use Rattle.yp_touch.specs.Windows.{RowsAreWhole}
use Rattle.yp_receiver.specs.Readable.{has_value_text, HaveTexts}
use Rattle.yp_hearing.specs.Windows.{HasOwnTexts, CanBeHeard}

-- ---- what holds of the paths of rows holds of the paths that are touched

module _ (P : List Seg → Type 0) where
  -- of the path of each row
  abbrev HoldsOf : List Row → Type 0
  HoldsOf rows = AllByRecursion (λ (row : Row). P row.path) rows

  put_holds : (new : List Seg) (paths : List (List Seg)) → P new → AllByRecursion P paths → AllByRecursion P (put_path new paths)
  put_holds new [] one all = (one, tt)
  put_holds new (path ∷ paths) one all =
      let later = put_holds new paths one all.1 in
      elim (path_cmp new path) as (λ o. AllByRecursion P (match_ordering o (new ∷ path ∷ paths) (path ∷ paths) (path ∷ put_path new paths))) [
        | Less ↦ (one, all)
        | Equal ↦ all
        | Greater ↦ (all.0, later)
      ]

  puts_hold : (news paths : List (List Seg)) → AllByRecursion P news → AllByRecursion P paths → AllByRecursion P (put_paths news paths)
  puts_hold [] paths new all = all
  puts_hold (path ∷ news) paths new all = puts_hold news (put_path path paths) new.1 (put_holds path paths new.0 all)

  touched_hold : (later : List (List Row)) (first : List Row) (paths : List (List Seg)) → AllByRecursion P paths → HoldsOf first → AllByRecursion HoldsOf later → AllByRecursion P (touched_paths paths first later)
  touched_hold [] first paths all one rest = all
  touched_hold (next ∷ later) first paths all one rest =
      touched_hold later next (put_paths (changed_paths first next) paths) (puts_hold (changed_paths first next) paths (changed_hold P first next one rest.0) all) rest.0 rest.1

-- what holds of each selection holds of the last
pub last_holds : (P : List Row → Type 0) (later : List (List Row)) (first : List Row) → P first → AllByRecursion P later → P (last_of first later)
last_holds P [] first one rest = one
last_holds P (next ∷ later) first one rest = last_holds P later next rest.0 rest.1

-- ---- edits

-- a path that ends as rows do, whose keys have texts
record IsTarget (nodes : List SchemaNode) (path : List Seg) : Type 0 where
  ends : EndsAsRow nodes path
  texts : has_texts path ≡ true

row_paths : (rows : List Row) → HaveTexts rows → AllByRecursion (λ (row : Row). has_texts row.path ≡ true) rows
row_paths [] have = tt
row_paths (row ∷ rows) have = (have.0.0, row_paths rows have.1)

module _ (nodes : List SchemaNode) where
  row_targets : (rows : List Row) → HasOwnTexts nodes rows → AllByRecursion (λ (row : Row). IsTarget nodes row.path) rows
  row_targets rows has =
      all_two (λ (row : Row). EndsAsRow nodes row.path) (λ (row : Row). has_texts row.path ≡ true) (λ (row : Row). IsTarget nodes row.path) rows (λ row e t. record { ends = e; texts = t })
      (rows_end nodes rows has.datastore.of_schema) (row_paths rows has.texts)

  all_targets : (later : List (List Row)) → AllByRecursion (HasOwnTexts nodes) later → AllByRecursion (HoldsOf (IsTarget nodes)) later
  all_targets [] all = tt
  all_targets (next ∷ later) all = (row_targets next all.0, all_targets later all.1)

  ends_path : (path : List Seg) → EndsAsRow nodes path → is_path_of nodes path ≡ true
  ends_path path ends = row_path nodes (record { path = path; value = ends.0 }) (record { goes = ends.1 })

  -- where a row ends is no key leaf
  ends_open : (path : List Seg) → EndsAsRow nodes path → ends_in_key nodes path ≡ false
  ends_open [] ends = absurd (true≢false (sym ends.1))
  ends_open (seg ∷ segs) ends =
      not-true (ends_in_key nodes (seg ∷ segs))
      (and_parts (is_path_of nodes (seg ∷ segs)) (not (ends_in_key nodes (seg ∷ segs))) (row_place nodes (record { path = seg ∷ segs; value = ends.0 }) (record { goes = ends.1 }))).1

  within_texts : (path : List Seg) (rows : List Row) → HaveTexts rows → HaveTexts (rows_within path rows)
  within_texts path rows have = all_filter (λ (row : Row). (has_texts row.path ≡ true) × (has_value_text row.value ≡ true)) (λ row. is_within path row.path) rows have

  module _ (whole : RowsAreWhole) (old new : List Row) (after : HasOwnTexts nodes new) where
    carried_heard : (was : Bool) (path : List Seg) → IsTarget nodes path → AreWhole nodes path (rows_within path new)
        → CanBeHeard nodes (record { kind = cond was kinds.Replace kinds.Create; target = path; rows = rows_within path new; after = None })
    carried_heard true path is all = (
      record {
        sendable = record { served = refl; target = ends_path path is.ends; rows = all.writable; after = refl };
        place = tt;
        keys = is.texts;
        whole = all;
      },
      within_texts path new after.texts,
    )
    carried_heard false path is all = (
      record {
        sendable = record { served = refl; target = ends_path path is.ends; rows = all.writable; after = refl };
        place = tt;
        keys = is.texts;
        whole = all;
      },
      within_texts path new after.texts,
    )

    gone_heard : (path : List Seg) → IsTarget nodes path → CanBeHeard nodes (record { kind = kinds.Delete; target = path; rows = []; after = None })
    gone_heard path is = (
      record {
        sendable = record { served = refl; target = ends_path path is.ends; rows = refl; after = refl };
        place = ends_open path is.ends;
        keys = is.texts;
        whole = refl;
      },
      tt,
    )

    change_heard : (path : List Seg) → IsTarget nodes path → CanBeHeard nodes (change_at old new path)
    change_heard path is =
        elim (has_row path new) as (λ b. has_row path new ≡ b
        → CanBeHeard nodes (record { kind = cond b (cond (has_row path old) kinds.Replace kinds.Create) kinds.Delete; target = path; rows = cond b (rows_within path new) []; after = None })) [
          | true ↦ λ there. carried_heard (has_row path old) path is (whole nodes new path after.datastore there)
          | false ↦ λ gone. gone_heard path is
        ] refl

  -- the edits of the record of a window of datastores are heard again
  pub window_heard : RowsAreWhole → (excluded : Kinds) (first : List Row) (later : List (List Row)) → HasOwnTexts nodes first → AllByRecursion (HasOwnTexts nodes) later
      → AllByRecursion (CanBeHeard nodes) (window_record excluded first later)
  window_heard whole excluded first later one rest =
      let last = last_of first later in
      let paths = topmost (touched_paths [] first later) in
      all_filter (CanBeHeard nodes) (λ (change : Change). not (is_excluded excluded change.kind)) (map (change_at first last) paths)
      (all_map (IsTarget nodes) (CanBeHeard nodes) (change_at first last) paths (change_heard whole first last (last_holds (HasOwnTexts nodes) later first one rest))
      (topmost_hold (IsTarget nodes) (touched_paths [] first later) (touched_hold (IsTarget nodes) later first [] tt (row_targets first one) (all_targets later rest))))
