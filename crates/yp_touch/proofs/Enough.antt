-- A step looks at each path at which the two selections differ, so what it finds makes the roots absorb.
use Rattle.std.proofs.Common.{◌≡◌, List, [], ◌∷◌, ◌++◌, length, map, refl, sym, ap, subst, ◌∙◌, cond, Bool, true, false, true≢false, not, ◌&&◌, ◌||◌, Option, Some, None}
use Rattle.std.specs.Cmp.{both_ways}
use Rattle.std.specs.Prelude.{filter, is_some}
use Rattle.std.specs.List.{cons_option, AllByRecursion}
use Rattle.std.specs.Ordering.{is_eq}
use Rattle.std.proofs.lemmas.Bool.{and_parts, and_from, or_left, or_right, false_from_ne_true}
use Rattle.std.proofs.lemmas.List.Folds.{list_any-append}
use Rattle.yp_base.specs.declared.path.Seg.{Seg}
use Rattle.yp_base.specs.declared.row.Row.{Row}
use Rattle.yp_base.specs.declared.row.Value.{Value}
use Rattle.yp_base.specs.Order.{path_cmp, is_within}
use Rattle.yp_base.specs.Paths.{last_node, topmost}
use Rattle.yp_base.specs.PathLaws.{within_itself}
use Rattle.yp_base.specs.Rows.{path_of, value_at, rows_within}
use Rattle.yp_schema.specs.declared.schema.SchemaNode.{SchemaNode}
use Rattle.yp_schema.specs.WellFormed.{IsSchema}
use Rattle.yp_schema.specs.Datastore.{is_path_of, has_row, IsDatastore}
use Rattle.yp_filter.specs.Filters.{Asked}
use Rattle.yp_nacm.specs.Decision.{IsClosed, visible_rows}
use Rattle.yp_changes.specs.declared.changed.ChangedRow.{ChangedRow}
use Rattle.yp_changes.specs.Among.{is_listed}
use Rattle.yp_changes.specs.Changes.{are_alike, changed_rows}
use Rattle.yp_changes.specs.ChangeLaws.{alike_is, alike_itself}
use Rattle.yp_changes.specs.Records.{changed_paths, put_paths}
use Rattle.yp_changes.specs.WindowLaws.{puts_rise}
use Rattle.yp_select.specs.Places.{path_above, is_compared}
use Rattle.yp_kept.specs.Selection.{kept, selection}
use Rattle.yp_kept.specs.KeptLaws.{value_kept}
use Rattle.yp_kept.specs.SelectionLaws.{is_selected}
use Rattle.yp_touch.specs.declared.root.Root.{Root}
use Rattle.yp_touch.specs.Absorbed.{AreTopmost, flagged, paths_of, root_at, was_in, absorbed}
use Rattle.yp_touch.specs.Looked.{can_move, is_looked_at, looks_at, looks_of, roots_found, with_paths}
use Rattle.yp_touch.specs.RootLaws.{has_root}
use Rattle.yp_touch.specs.RecordLaws.{IsThere, changed_there, changed_hold, have_paths, unchanged}
use Rattle.yp_touch.proofs.Absorbing.{flags_told, flagged_map, flagged_paths, was_before}
use Rattle.yp_touch.proofs.Narrow.{stays_same, narrow}
use Rattle.yp_touch.proofs.Topped.{any_listed, by_either, kept_listed, listed_of, topmost_rise, topmost_twice, topmost_enough, join_all}

-- ---- where a step looks

row_listed : (path : List Seg) (rows : List Row) → has_row path rows ≡ true → is_listed path (map path_of rows) ≡ true
row_listed path [] there = absurd (true≢false (sym there))
row_listed path (row ∷ rows) there =
    elim (is_eq (path_cmp path row.path)) as (λ b. is_some (cond b (Some row.value) (value_at path rows)) ≡ true → (b || is_listed path (map path_of rows)) ≡ true) [
      | true ↦ λ h. refl
      | false ↦ λ h. row_listed path rows h
    ] there

listed_append : (path : List Seg) (xs ys : List (List Seg)) → is_listed path (xs ++ ys) ≡ (is_listed path xs || is_listed path ys)
listed_append path xs ys = list_any-append (λ (other : List Seg). is_eq (path_cmp path other)) xs ys

-- what is selected is there
selected_there : (nodes : List SchemaNode) (asked : Asked) (readable : List Seg → Bool) (rows : List Row) (path : List Seg) → has_row path (selection nodes asked readable rows) ≡ true → has_row path rows ≡ true
selected_there nodes asked readable rows path there =
    there_by (readable path && kept nodes asked (visible_rows readable rows) path) (value_at path rows) (sym (ap is_some (value_kept nodes asked readable path rows)) ∙ there)
  where
    there_by : (b : Bool) (value : Option Value) → is_some (cond b value None) ≡ true → is_some value ≡ true
    there_by true value h = h
    there_by false value h = absurd (true≢false (sym h))

module _ (nodes : List SchemaNode) (asked : Asked) (before after : List Row) where
  -- a path that has a row, and that a changed row can move, is looked at
  one_look : (path one : List Seg) → can_move nodes asked path one ≡ true → IsThere before after path → is_listed path (looks_at nodes asked before after one) ≡ true
  one_look path one moves there =
      elim (is_compared nodes asked (last_node one)) as (λ b. cond b (is_within (path_above one) path) (is_eq (path_cmp path one)) ≡ true
      → is_listed path (cond b (map path_of (rows_within (path_above one) before) ++ map path_of (rows_within (path_above one) after)) (one ∷ [])) ≡ true) [
        | true ↦ λ within.
            let old = map path_of (rows_within (path_above one) before) in
            let new = map path_of (rows_within (path_above one) after) in
            listed_append path old new
            ∙ by_either (has_row path before) (has_row path after) there
            (λ was. or_left (is_listed path old) (is_listed path new) (row_listed path (rows_within (path_above one) before) (is_selected (is_within (path_above one)) path before within was)))
            (λ is. or_right (is_listed path old) (is_listed path new) (row_listed path (rows_within (path_above one) after) (is_selected (is_within (path_above one)) path after within is)))
        | false ↦ λ same. ap (λ b. b || false) same
      ] moves

  some_look : (path : List Seg) (changed : List (List Seg)) → is_looked_at nodes asked changed path ≡ true → IsThere before after path → is_listed path (looks_of nodes asked before after changed) ≡ true
  some_look path [] looked there = absurd (true≢false (sym looked))
  some_look path (one ∷ changed) looked there =
      listed_append path (looks_at nodes asked before after one) (looks_of nodes asked before after changed)
      ∙ by_either (can_move nodes asked path one) (is_looked_at nodes asked changed path) looked
      (λ moves. or_left (is_listed path (looks_at nodes asked before after one)) (is_listed path (looks_of nodes asked before after changed)) (one_look path one moves there))
      (λ later. or_right (is_listed path (looks_at nodes asked before after one)) (is_listed path (looks_of nodes asked before after changed)) (some_look path changed later there))

-- ---- what it finds

-- a path is changed where its two values aren't alike
changed_is : (old new : List Row) (path : List Seg) → is_listed path (changed_paths old new) ≡ not (are_alike (value_at path old) (value_at path new))
changed_is old new path =
    both_ways (is_listed path (changed_paths old new)) (not (are_alike (value_at path old) (value_at path new)))
    (λ listed. elim (are_alike (value_at path old) (value_at path new)) as (λ b. are_alike (value_at path old) (value_at path new) ≡ b → not b ≡ true) [
      | true ↦ λ e. absurd (stays_same old new path (alike_is (value_at path old) (value_at path new) e) listed)
      | false ↦ λ e. refl
    ] refl)
    (λ apart. elim (is_listed path (changed_paths old new)) as (λ b. is_listed path (changed_paths old new) ≡ b → b ≡ true) [
      | true ↦ λ e. refl
      | false ↦ λ e. absurd (true≢false (sym apart ∙ ap not (ap (are_alike (value_at path old)) (sym (unchanged old new path e)) ∙ alike_itself (value_at path old))))
    ] refl)

module _ (roots : List (List Seg)) (old new : List Row) where
  -- whether a look finds a root at a path
  abbrev is_found : List Seg → Bool
  is_found path = not (has_root path roots || are_alike (value_at path old) (value_at path new))

  found_paths : (looks : List (List Seg)) → paths_of (roots_found roots old new looks) ≡ filter is_found looks
  found_paths [] = refl
  found_paths (look ∷ looks) =
      elim (has_root look roots || are_alike (value_at look old) (value_at look new)) as (λ b. paths_of (cons_option (cond b None (Some (record { path = look; was = has_row look old }))) (roots_found roots old new looks)) ≡ cond (not b) (look ∷ filter is_found looks) (filter is_found looks)) [
        | true ↦ found_paths looks
        | false ↦ ap (λ (paths : List (List Seg)). look ∷ paths) (found_paths looks)
      ]

  found_listed : (looks : List (List Seg)) (path : List Seg) → is_listed path (paths_of (roots_found roots old new looks)) ≡ (is_listed path looks && is_found path)
  found_listed looks path = ap (is_listed path) (found_paths looks) ∙ kept_listed is_found path looks

  -- the flags of what is found
  found_told : (was : List Seg → Bool) → ((path : List Seg) → has_root path roots ≡ false → has_row path old ≡ was path) → (looks : List (List Seg)) → AllByRecursion (λ (root : Root). root.was ≡ was root.path) (roots_found roots old new looks)
  found_told was same [] = tt
  found_told was same (look ∷ looks) =
      elim (has_root look roots) as (λ b. has_root look roots ≡ b → AllByRecursion (λ (root : Root). root.was ≡ was root.path) (cons_option (cond (b || are_alike (value_at look old) (value_at look new)) None (Some (record { path = look; was = has_row look old }))) (roots_found roots old new looks))) [
        | true ↦ λ e. found_told was same looks
        | false ↦ λ e. elim (are_alike (value_at look old) (value_at look new)) as (λ b. AllByRecursion (λ (root : Root). root.was ≡ was root.path) (cons_option (cond b None (Some (record { path = look; was = has_row look old }))) (roots_found roots old new looks))) [
          | true ↦ found_told was same looks
          | false ↦ (same look e, found_told was same looks)
        ]
      ] refl

  found_changed : (looks : List (List Seg)) (path : List Seg) → is_listed path (paths_of (roots_found roots old new looks)) ≡ true → is_listed path (changed_paths old new) ≡ true
  found_changed looks path l =
      changed_is old new path
      ∙ apart (has_root path roots) (are_alike (value_at path old) (value_at path new)) (and_parts (is_listed path looks) (is_found path) (sym (found_listed looks path) ∙ l)).1
    where
      apart : (a b : Bool) → not (a || b) ≡ true → not b ≡ true
      apart true b h = absurd (true≢false (sym h))
      apart false b h = h

  unfound_covered : (looks : List (List Seg)) (path : List Seg) → (is_listed path (changed_paths old new) ≡ true → is_listed path looks ≡ true) → is_listed path (changed_paths old new) ≡ true → is_listed path (paths_of (roots_found roots old new looks)) ≡ false → has_root path roots ≡ true
  unfound_covered looks path enough l out =
      elim (has_root path roots) as (λ b. has_root path roots ≡ b → b ≡ true) [
        | true ↦ λ e. refl
        | false ↦ λ e.
            absurd (true≢false (sym (found_listed looks path ∙ and_from (is_listed path looks) (is_found path) (enough l)
            (ap (λ b. not (b || are_alike (value_at path old) (value_at path new))) e ∙ sym (changed_is old new path) ∙ l)) ∙ out))
      ] refl

pub not_listed : (path : List Seg) (paths : List (List Seg)) → has_root path paths ≡ false → is_listed path paths ≡ false
not_listed path paths free =
    false_from_ne_true (is_listed path paths) (λ e. true≢false (sym (any_listed (λ root. is_within root path) path paths e (within_itself path)) ∙ free))

-- ---- what it makes of that

module _ (nodes : List SchemaNode) (schema : IsSchema nodes) (asked : Asked) (readable : List Seg → Bool) (closed : IsClosed readable) (before after : List Row) (old : IsDatastore nodes before) (new : IsDatastore nodes after) where
  abbrev one : List Row
  one = selection nodes asked readable before

  abbrev two : List Row
  two = selection nodes asked readable after

  enough : (path : List Seg) → is_listed path (changed_paths one two) ≡ true → is_listed path (looks_of nodes asked before after (changed_paths before after)) ≡ true
  enough path listed =
      let changed = changed_paths before after in
      elim (is_looked_at nodes asked changed path) as (λ b. is_looked_at nodes asked changed path ≡ b → is_listed path (looks_of nodes asked before after changed) ≡ true) [
        | true ↦ λ e.
            some_look nodes asked before after path changed e
            (by_either (has_row path one) (has_row path two) (listed_of (IsThere one two) (changed_paths one two) path (changed_there one two) listed)
            (λ was. or_left (has_row path before) (has_row path after) (selected_there nodes asked readable before path was))
            (λ is. or_right (has_row path before) (has_row path after) (selected_there nodes asked readable after path is)))
        | false ↦ λ e. absurd (stays_same one two path (narrow nodes schema asked readable before after old new path e) listed)
      ] refl

  module _ (changes : List ChangedRow) (is : changes ≡ changed_rows before after) (paths : List (List Seg)) (flags : List Bool) (same : length paths ≡ length flags) (stand : AreTopmost paths)
      (found : List Root) (told : found ≡ roots_found paths one two (looks_of nodes asked before after (map (λ (row : ChangedRow). row.path) changes))) where
    looked : found ≡ roots_found paths one two (looks_of nodes asked before after (changed_paths before after))
    looked = told ∙ ap (λ (rows : List ChangedRow). roots_found paths one two (looks_of nodes asked before after (map (λ (row : ChangedRow). row.path) rows))) is

    -- the paths with those that are found are the topmost of all
    found_topmost : (all : List (List Seg)) → all ≡ with_paths paths (paths_of found) → all ≡ topmost (put_paths (changed_paths one two) paths)
    found_topmost all put =
        let looks = looks_of nodes asked before after (changed_paths before after) in
        put ∙ join_all paths (paths_of found) stand.in_order stand.topmost
        ∙ ap (λ (roots : List Root). topmost (put_paths (paths_of roots) paths)) looked
        ∙ topmost_enough (paths_of (roots_found paths one two looks)) (changed_paths one two) paths stand.in_order
        (λ path l. found_changed paths one two looks path l) (λ path l out. unfound_covered paths one two looks path (enough path) l out)

    pub found_stand : (all : List (List Seg)) → all ≡ with_paths paths (paths_of found) → AreTopmost all
    found_stand all put =
        let every = put_paths (changed_paths one two) paths in
        let rise = puts_rise (changed_paths one two) paths stand.in_order in
        subst AreTopmost (sym (found_topmost all put)) (record { in_order = topmost_rise every rise; topmost = topmost_twice every rise })

    -- and with the flags the roots absorb
    pub found_absorb : (all : List (List Seg)) (marks : List Bool) → all ≡ with_paths paths (paths_of found) → ((was : List Seg → Bool) → flags ≡ map was paths → AllByRecursion (λ (root : Root). root.was ≡ was root.path) found → marks ≡ map was all)
        → flagged all marks ≡ absorbed (flagged paths flags) one two
    found_absorb all marks put marked =
        let roots = flagged paths flags in
        let was : List Seg → Bool = was_in roots one in
        let back : paths_of roots ≡ paths = flagged_paths paths flags same in
        let looks = looks_of nodes asked before after (changed_paths before after) in
        let each : AllByRecursion (λ (root : Root). root.was ≡ was root.path) found =
        subst (AllByRecursion (λ (root : Root). root.was ≡ was root.path)) (sym looked)
        (found_told paths one two was (λ path free. sym (was_before roots one path (ap (is_listed path) back ∙ not_listed path paths free))) looks) in
        ap (flagged all) (marked was (flags_told paths flags one same stand.in_order) each)
        ∙ flagged_map was all
        ∙ ap (map (root_at was)) (found_topmost all put ∙ ap (λ (ps : List (List Seg)). topmost (put_paths (changed_paths one two) ps)) (sym back))

-- changed rows have paths of the schema
pub changed_have_paths : (nodes : List SchemaNode) (before after : List Row) (changes : List ChangedRow) → IsDatastore nodes before → IsDatastore nodes after → changes ≡ changed_rows before after → AllByRecursion (λ (row : ChangedRow). is_path_of nodes row.path ≡ true) changes
changed_have_paths nodes before after changes old new is =
    subst (λ (rows : List ChangedRow). AllByRecursion (λ (row : ChangedRow). is_path_of nodes row.path ≡ true) rows) (sym is)
    (of_rows (changed_rows before after) (changed_hold (λ path. is_path_of nodes path ≡ true) before after (have_paths nodes before old.of_schema) (have_paths nodes after new.of_schema)))
  where
    of_rows : (rows : List ChangedRow) → AllByRecursion (λ path. is_path_of nodes path ≡ true) (map (λ (row : ChangedRow). row.path) rows) → AllByRecursion (λ (row : ChangedRow). is_path_of nodes row.path ≡ true) rows
    of_rows [] all = tt
    of_rows (row ∷ rows) all = (all.0, of_rows rows all.1)
