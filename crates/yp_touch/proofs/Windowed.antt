-- The record of a window of selections turns the first into the last, names what may be read, and can be sent.
use Rattle.std.proofs.Common.{◌≡◌, List, [], ◌∷◌, ◌++◌, map, refl, sym, ap, subst, ◌∙◌, cond, Bool, true, false, true≢false, not, ◌||◌, Less, Equal, Greater}
use Rattle.std.specs.List.{AllByRecursion}
use Rattle.std.specs.Ordering.{match_ordering}
use Rattle.yp_base.specs.declared.path.Seg.{Seg}
use Rattle.yp_base.specs.declared.row.Row.{Row}
use Rattle.yp_base.specs.declared.notice.Change.{Change}
use Rattle.yp_base.specs.declared.notice.ChangeKind.TheVariants as kinds
use Rattle.yp_base.specs.declared.notice.Kinds.{Kinds}
use Rattle.yp_base.specs.Order.{path_cmp, is_within}
use Rattle.yp_base.specs.Paths.{topmost}
use Rattle.yp_base.specs.PathLaws.{ties_itself, within_itself}
use Rattle.yp_base.specs.RowLaws.{holds_at, within_keeps_order, all_at_top}
use Rattle.yp_base.specs.Rows.{last_of, AreInOrder, rows_within, changed_by}
use Rattle.yp_schema.specs.declared.schema.SchemaNode.{SchemaNode}
use Rattle.yp_schema.specs.WellFormed.{IsSchema}
use Rattle.yp_schema.specs.Datastore.{is_path_of, has_row, IsRowOf, IsDatastore, AreWhole}
use Rattle.yp_schema.specs.SchemaLaws.{row_path, row_place}
use Rattle.yp_filter.specs.Filters.{Asked}
use Rattle.yp_nacm.specs.Decision.{IsClosed}
use Rattle.yp_encode.specs.Sendable.{IsSendableChange}
use Rattle.yp_changes.specs.Among.{is_listed}
use Rattle.yp_changes.specs.Records.{changed_paths, put_path, put_paths, touched_paths, change_at, change_record, is_excluded, HasNone, told, window_record}
use Rattle.yp_changes.specs.WindowLaws.{told_all, one_step}
use Rattle.yp_kept.specs.Concealed.{AllReadable}
use Rattle.yp_kept.specs.Selection.{selection}
use Rattle.yp_kept.specs.KeptLaws.{kept_datastore}
use Rattle.yp_kept.specs.SelectionLaws.{all_selected, is_selected, selected_readable, was_selected}
use Rattle.yp_touch.specs.declared.root.Root.{Root}
use Rattle.yp_touch.specs.Absorbed.{paths_of, absorbed, all_absorbed, recorded, root_change, was_in, EndsAsRow, selections}
use Rattle.yp_touch.specs.Concealed.{IsReadableChange}
use Rattle.yp_touch.specs.RootLaws.{has_root, listed_rooted}
use Rattle.yp_touch.specs.RecordLaws.{rows_end, changed_hold, topmost_hold, touched_leads, changes_readable, root_sendable, roots_sendable}
use Rattle.yp_touch.proofs.Absorbing.{StaysElsewhere, stays_on, paths_back, absorbs, records}

-- ---- what holds of each touched path

all_put : (P : List Seg → Type 0) (new : List Seg) (paths : List (List Seg)) → P new → AllByRecursion P paths → AllByRecursion P (put_path new paths)
all_put P new [] here all = (here, tt)
all_put P new (path ∷ paths) here all =
    elim (path_cmp new path) as (λ o. AllByRecursion P (match_ordering o (new ∷ path ∷ paths) (path ∷ paths) (path ∷ put_path new paths))) [
      | Less ↦ (here, all)
      | Equal ↦ all
      | Greater ↦ (all.0, all_put P new paths here all.1)
    ]

all_puts : (P : List Seg → Type 0) (news paths : List (List Seg)) → AllByRecursion P news → AllByRecursion P paths → AllByRecursion P (put_paths news paths)
all_puts P [] paths of all = all
all_puts P (new ∷ news) paths of all = all_puts P news (put_path new paths) of.1 (all_put P new paths of.0 all)

-- the paths of rows have this
abbrev pub PathsHave : (List Seg → Type 0) → List Row → Type 0
PathsHave P rows = AllByRecursion (λ row. P row.path) rows

-- what the path of each row of a window has, each touched path has
pub touched_have : (P : List Seg → Type 0) (paths : List (List Seg)) (selected : List Row) (later : List (List Row)) → AllByRecursion P paths → PathsHave P selected → AllByRecursion (PathsHave P) later
    → AllByRecursion P (touched_paths paths selected later)
touched_have P paths selected [] have one all = have
touched_have P paths selected (next ∷ later) have one all =
    touched_have P (put_paths (changed_paths selected next) paths) next later
    (all_puts P (changed_paths selected next) paths (changed_hold P selected next one all.0) have) all.0 all.1

-- what holds of each datastore of a window
all_map : (P Q : List Row → Type 0) (later : List (List Row)) → ((rows : List Row) → P rows → Q rows) → AllByRecursion P later → AllByRecursion Q later
all_map P Q [] on all = tt
all_map P Q (rows ∷ later) on all = (on rows all.0, all_map P Q later on all.1)

pub touched_end : (nodes : List SchemaNode) (first : List Row) (later : List (List Row)) → IsDatastore nodes first → AllByRecursion (IsDatastore nodes) later → AllByRecursion (EndsAsRow nodes) (touched_paths [] first later)
touched_end nodes first later one all =
    touched_have (EndsAsRow nodes) [] first later tt (rows_end nodes first one.of_schema) (all_map (IsDatastore nodes) (PathsHave (EndsAsRow nodes)) later (λ rows is. rows_end nodes rows is.of_schema) all)

-- what isn't touched stays
pub untouched_stays : (first : List Row) (paths : List (List Seg)) (selected : List Row) (later : List (List Row)) → StaysElsewhere paths first selected → StaysElsewhere (touched_paths paths selected later) first (last_of selected later)
untouched_stays first paths selected [] stays = stays
untouched_stays first paths selected (next ∷ later) stays = untouched_stays first (put_paths (changed_paths selected next) paths) next later (stays_on first paths selected next stays)

-- what each selection of a window is, its last is
pub last_is : (P : List Row → Type 0) (selected : List Row) (later : List (List Row)) → P selected → AllByRecursion P later → P (last_of selected later)
last_is P selected [] one all = one
last_is P selected (next ∷ later) one all = last_is P next later all.0 all.1

-- ---- roots

-- the paths of roots end as rows do after a step, where they did before
pub absorbed_end : (nodes : List SchemaNode) (roots : List Root) (before after : List Row) → IsDatastore nodes before → IsDatastore nodes after → AllByRecursion (EndsAsRow nodes) (paths_of roots) → AllByRecursion (EndsAsRow nodes) (paths_of (absorbed roots before after))
absorbed_end nodes roots before after old new ends =
    let all = put_paths (changed_paths before after) (paths_of roots) in
    subst (AllByRecursion (EndsAsRow nodes)) (sym (paths_back (was_in roots before) (topmost all)))
    (topmost_hold (EndsAsRow nodes) all (all_puts (EndsAsRow nodes) (changed_paths before after) (paths_of roots)
    (changed_hold (EndsAsRow nodes) before after (rows_end nodes before old.of_schema) (rows_end nodes after new.of_schema)) ends))

-- so do those of the roots of a window
pub window_end : (nodes : List SchemaNode) (first : List Row) (later : List (List Row)) → IsDatastore nodes first → AllByRecursion (IsDatastore nodes) later → AllByRecursion (EndsAsRow nodes) (paths_of (all_absorbed [] first later))
window_end nodes first later one all =
    subst (AllByRecursion (EndsAsRow nodes)) (sym (ap paths_of (absorbs first later) ∙ paths_back (λ path. has_row path first) (topmost (touched_paths [] first later))))
    (topmost_hold (EndsAsRow nodes) (touched_paths [] first later) (touched_end nodes first later one all))

-- a path that ends as a row does is one of the schema
pub ends_path : (nodes : List SchemaNode) (path : List Seg) → EndsAsRow nodes path → is_path_of nodes path ≡ true
ends_path nodes path ends = row_path nodes (record { path = path; value = ends.0 }) (record { goes = ends.1 })

pub ends_paths : (nodes : List SchemaNode) (paths : List (List Seg)) → AllByRecursion (EndsAsRow nodes) paths → AllByRecursion (λ path. is_path_of nodes path ≡ true) paths
ends_paths nodes [] all = tt
ends_paths nodes (path ∷ paths) all = (ends_path nodes path all.0, ends_paths nodes paths all.1)

-- ---- edits that are told

-- what each edit has, each that is told has
told_have : (excluded : Kinds) (P : Change → Type 0) (changes : List Change) → AllByRecursion P changes → AllByRecursion P (told excluded changes)
told_have excluded P [] all = tt
told_have excluded P (change ∷ changes) all = at_first (told_have excluded P changes all.1) (not (is_excluded excluded change.kind))
  where
    at_first : AllByRecursion P (told excluded changes) → (b : Bool) → AllByRecursion P (cond b (change ∷ told excluded changes) (told excluded changes))
    at_first later true = (all.0, later)
    at_first later false = later

edits_sendable : (nodes : List SchemaNode) (new : List Row) (order : AreInOrder new) (all_new : AllByRecursion (IsRowOf nodes) new) (roots : List Root) → AllByRecursion (EndsAsRow nodes) (paths_of roots) → AllByRecursion (IsSendableChange nodes) (map (root_change new) roots)
edits_sendable nodes new order all_new [] ends = tt
edits_sendable nodes new order all_new (root ∷ roots) ends = (root_sendable nodes new order all_new root (ends_path nodes root.path ends.0), edits_sendable nodes new order all_new roots ends.1)

-- the record of roots that end as rows do can be sent
pub recorded_sendable : (nodes : List SchemaNode) (new : List Row) → AreInOrder new → AllByRecursion (IsRowOf nodes) new → (excluded : Kinds) (roots : List Root) → AllByRecursion (EndsAsRow nodes) (paths_of roots) → AllByRecursion (IsSendableChange nodes) (recorded excluded roots new)
recorded_sendable nodes new order all_new excluded roots ends = told_have excluded (IsSendableChange nodes) (map (root_change new) roots) (edits_sendable nodes new order all_new roots ends)

-- ---- the record of a window

module _ (excluded : Kinds) (first : List Row) (later : List (List Row)) where
  -- a receiver that takes it over the first selection has the last
  pub window_leads : (nodes : List SchemaNode) → IsSchema nodes → HasNone excluded → IsDatastore nodes first → AllByRecursion (IsDatastore nodes) later → changed_by (window_record excluded first later) first ≡ last_of first later
  window_leads nodes schema none one all =
      ap (λ (list : List Change). changed_by list first) (told_all excluded (map (change_at first (last_of first later)) (topmost (touched_paths [] first later))) none)
      ∙ touched_leads nodes schema first (last_of first later) one (last_is (IsDatastore nodes) first later one all) (touched_paths [] first later)
      (touched_end nodes first later one all) (untouched_stays first [] first later (λ path out. refl))

  -- it can be sent
  pub window_sendable : (nodes : List SchemaNode) → IsDatastore nodes first → AllByRecursion (IsDatastore nodes) later → AllByRecursion (IsSendableChange nodes) (window_record excluded first later)
  window_sendable nodes one all =
      let last = last_is (IsDatastore nodes) first later one all in
      told_have excluded (IsSendableChange nodes) (map (change_at first (last_of first later)) (topmost (touched_paths [] first later)))
      (roots_sendable nodes (last_of first later) last.in_order last.of_schema first (topmost (touched_paths [] first later))
      (ends_paths nodes (topmost (touched_paths [] first later)) (topmost_hold (EndsAsRow nodes) (touched_paths [] first later) (touched_end nodes first later one all))))

  -- it names only what may be read
  pub window_conceals : (readable : List Seg → Bool) → AllReadable readable first → AllByRecursion (AllReadable readable) later → AllByRecursion (IsReadableChange readable) (window_record excluded first later)
  window_conceals readable one all =
      told_have excluded (IsReadableChange readable) (map (change_at first (last_of first later)) (topmost (touched_paths [] first later)))
      (changes_readable readable first (last_of first later) (topmost (touched_paths [] first later)) (last_is (AllReadable readable) first later one all)
      (topmost_hold (λ root. readable root ≡ true) (touched_paths [] first later) (touched_have (λ root. readable root ≡ true) [] first later tt one all)))

  none_mapped : (f : List Seg → Change) (paths : List (List Seg)) → map f paths ≡ [] → paths ≡ []
  none_mapped f [] h = refl
  none_mapped f (path ∷ paths) h = let no : ⊥ = cc in absurd no

  none_topmost : (paths : List (List Seg)) → topmost paths ≡ [] → paths ≡ []
  none_topmost [] h = refl
  none_topmost (path ∷ paths) h =
      absurd (true≢false (sym (listed_rooted (path ∷ paths) path (ap (λ b. b || is_listed path paths) (ties_itself path))) ∙ ap (has_root path) h))

  -- where nothing is excluded and it is empty, nothing was touched
  pub window_empty : HasNone excluded → window_record excluded first later ≡ [] → touched_paths [] first later ≡ []
  window_empty none is =
      let change = change_at first (last_of first later) in
      none_topmost (touched_paths [] first later)
      (none_mapped change (topmost (touched_paths [] first later)) (sym (told_all excluded (map change (topmost (touched_paths [] first later))) none) ∙ is))

-- ---- selections of datastores by one filter and one reader

pub selections_are : (nodes : List SchemaNode) (asked : Asked) (readable : List Seg → Bool) (datastores : List (List Row)) → IsClosed readable → AllByRecursion (IsDatastore nodes) datastores
    → AllByRecursion (IsDatastore nodes) (selections nodes asked readable datastores)
selections_are nodes asked readable [] closed all = tt
selections_are nodes asked readable (rows ∷ datastores) closed all = (kept_datastore nodes asked readable rows closed all.0, selections_are nodes asked readable datastores closed all.1)

last_selected : (nodes : List SchemaNode) (asked : Asked) (readable : List Seg → Bool) (first : List Row) (later : List (List Row))
    → last_of (selection nodes asked readable first) (selections nodes asked readable later) ≡ selection nodes asked readable (last_of first later)
last_selected nodes asked readable first [] = refl
last_selected nodes asked readable first (next ∷ later) = last_selected nodes asked readable next later

-- a receiver that takes the record of a window over the first selection has the last one
pub record_mirrors : (nodes : List SchemaNode) (asked : Asked) (readable : List Seg → Bool) (excluded : Kinds) (first : List Row) (later : List (List Row)) → IsSchema nodes → IsClosed readable → HasNone excluded
    → IsDatastore nodes first → AllByRecursion (IsDatastore nodes) later
    → changed_by (window_record excluded (selection nodes asked readable first) (selections nodes asked readable later)) (selection nodes asked readable first) ≡ selection nodes asked readable (last_of first later)
record_mirrors nodes asked readable excluded first later schema closed none one all =
    window_leads excluded (selection nodes asked readable first) (selections nodes asked readable later) nodes schema none (kept_datastore nodes asked readable first closed one) (selections_are nodes asked readable later closed all)
    ∙ last_selected nodes asked readable first later

-- ---- what is whole

-- a datastore is whole at the top
pub whole_top : (nodes : List SchemaNode) (rows : List Row) → IsDatastore nodes rows → AreWhole nodes [] rows
whole_top nodes rows datastore = record {
  writable = record {
    place = refl;
    in_order = datastore.in_order;
    of_schema = datastore.of_schema;
    within = all_at_top rows;
    leaf = λ leaf. absurd (true≢false (sym leaf));
  };
  own = λ entry. absurd (true≢false (sym entry));
  entries = datastore.entries;
}

-- and what is at or below one of its rows is whole there
pub whole_below : (nodes : List SchemaNode) (rows : List Row) (at : List Seg) → IsDatastore nodes rows → has_row at rows ≡ true → AreWhole nodes at (rows_within at rows)
whole_below nodes rows at datastore there =
    let own : has_row at (rows_within at rows) ≡ true = is_selected (is_within at) at rows (within_itself at) there in
    let ends = holds_at (EndsAsRow nodes) rows at (rows_end nodes rows datastore.of_schema) there in
    record {
      writable = record {
        place = row_place nodes (record { path = at; value = ends.0 }) (record { goes = ends.1 });
        in_order = within_keeps_order at rows datastore.in_order;
        of_schema = all_selected (is_within at) (IsRowOf nodes) rows datastore.of_schema;
        within = selected_readable (is_within at) rows;
        leaf = λ leaf. own;
      };
      own = λ entry. own;
      entries = λ above rest within entry found.
          let was = was_selected (is_within at) (above ++ rest) rows found in
          is_selected (is_within at) above rows within (datastore.entries above rest refl entry was.1);
    }

-- ---- one step

-- no kind is excluded
abbrev no_kinds : Kinds
no_kinds = record { create = false; delete = false; insert = false; moved = false; replace = false }

none_excluded : HasNone no_kinds
none_excluded kinds.Create = refl
none_excluded kinds.Delete = refl
none_excluded kinds.Insert = refl
none_excluded kinds.Move = refl
none_excluded kinds.Replace = refl

-- the roots of one step end as rows do
pub step_end : (nodes : List SchemaNode) (roots : List Root) (first next : List Row) → IsDatastore nodes first → IsDatastore nodes next → roots ≡ absorbed [] first next → AllByRecursion (EndsAsRow nodes) (paths_of roots)
step_end nodes roots first next one two is = subst (λ (roots : List Root). AllByRecursion (EndsAsRow nodes) (paths_of roots)) (sym is) (absorbed_end nodes [] first next one two tt)

-- and their record is the record of the step
pub step_recorded : (roots : List Root) (first next : List Row) → AreInOrder first → roots ≡ absorbed [] first next → recorded no_kinds roots next ≡ change_record first next
step_recorded roots first next order is =
    ap (λ (roots : List Root). recorded no_kinds roots next) is
    ∙ records no_kinds first (next ∷ [])
    ∙ one_step no_kinds first next none_excluded order
