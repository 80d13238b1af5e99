-- What is said to receivers of a journal: rows of datastores, in order.
use Rattle.std.proofs.Common.{◌≡◌, ℕ, Bool, true, false, not, List, [], ◌∷◌, map, take, Option, Some, None, sym, subst, ◌∙◌}
use Rattle.std.specs.Prelude.{if◌then◌else◌}
use Rattle.std.specs.List.{AllByRecursion}
use Rattle.yp_base.specs.declared.notice.Change.{Change}
use Rattle.yp_base.specs.declared.notice.Kinds.{Kinds}
use Rattle.yp_base.specs.declared.path.Seg.{Seg}
use Rattle.yp_base.specs.declared.row.Row.{Row}
use Rattle.yp_base.specs.Order.{is_within}
use Rattle.yp_base.specs.Paths.{topmost}
use Rattle.yp_base.specs.Rows.{AreInOrder, last_of, rows_within}
use Rattle.yp_schema.specs.declared.schema.SchemaNode.{SchemaNode}
use Rattle.yp_schema.specs.Datastore.{IsDatastore, IsRowOf, has_row}
use Rattle.yp_nacm.specs.AccessLaws.{readable_above}
use Rattle.yp_registry.specs.Registry.{live_at}
use Rattle.yp_terms.specs.Terms.{Terms}
use Rattle.yp_changes.specs.Records.{change_at, is_excluded, touched_paths, window_record}
use Rattle.yp_kept.specs.KeptLaws.{kept_datastore}
use Rattle.yp_journal.specs.declared.entry.Entry.{Entry}
use Rattle.yp_journal.specs.declared.receiver.ReceiverInfo.{ReceiverInfo}
use Rattle.yp_journal.specs.History.{JournalState, first_state, rules_at, may_read, state_of, state_at}
use Rattle.yp_journal.specs.JournalLaws.{opening_datastore}
use Rattle.yp_attempt.specs.ListLaws.{all_filter, all_map, all_weaker}
use Rattle.yp_attempt.specs.Tracks.{Body, All, Edits, Marked, Notice}
use Rattle.yp_mirror.specs.Following.{IsBodyOf, TellsWindow}
use Rattle.yp_mirror.specs.Stories.{Story, IsWantedBetween, story_of}
use Rattle.yp_moment.specs.Entries.{moments_of, selected_at, selected_by}
use Rattle.yp_moment.specs.Windows.{recorded}
use Rattle.yp_moment.specs.MomentLaws.{wanted}
use Rattle.yp_promise.proofs.Holding.{SaysInOrder}

-- ---- what is selected

-- what is selected of a datastore is a datastore
selected_by_is : (nodes : List SchemaNode) (state : JournalState) (receiver : ℕ) → IsDatastore nodes state.rows → (terms : Option Terms) → IsDatastore nodes (selected_by nodes state receiver terms)
selected_by_is nodes state receiver datastore None = opening_datastore nodes []
selected_by_is nodes state receiver datastore (Some terms) = kept_datastore nodes terms.asked (may_read nodes state receiver) state.rows (readable_above nodes (rules_at state receiver)) datastore

-- ---- rows of a schema

-- rows of the schema, in order
pub record AreRows (nodes : List SchemaNode) (rows : List Row) : Type 0 where
  pub order : AreInOrder rows
  pub of_schema : AllByRecursion (IsRowOf nodes) rows

datastore_rows : (nodes : List SchemaNode) (rows : List Row) → IsDatastore nodes rows → AreRows nodes rows
datastore_rows nodes rows is = record { order = is.in_order; of_schema = is.of_schema }

-- a change carries rows of the schema
abbrev pub CarriesRows : List SchemaNode → Change → Type 0
CarriesRows nodes change = AllByRecursion (IsRowOf nodes) change.rows

-- and so does what is said
abbrev pub SaysRows : List SchemaNode → Body → Type 0
SaysRows nodes (All rows) = AreRows nodes rows
SaysRows nodes (Edits edits) = AllByRecursion (CarriesRows nodes) edits
SaysRows nodes (Marked edits) = AllByRecursion (CarriesRows nodes) edits
SaysRows nodes (Notice item) = Unit {0}

pub rows_in_order : (nodes : List SchemaNode) (body : Body) → SaysRows nodes body → SaysInOrder body
rows_in_order nodes (All rows) says = says.order
rows_in_order nodes (Edits edits) says = tt
rows_in_order nodes (Marked edits) says = tt
rows_in_order nodes (Notice item) says = tt

-- ---- records of windows

carried_if : (nodes : List SchemaNode) (path : List Seg) (rows : List Row) (b : Bool) → AllByRecursion (IsRowOf nodes) rows → AllByRecursion (IsRowOf nodes) (if b then rows_within path rows else [])
carried_if nodes path rows true all = all_filter (IsRowOf nodes) (λ (row : Row). is_within path row.path) rows all
carried_if nodes path rows false all = tt

last_rows : (P : List Row → Type 0) (first : List Row) (later : List (List Row)) → P first → AllByRecursion P later → P (last_of first later)
last_rows P first [] one all = one
last_rows P first (next ∷ later) one all = last_rows P next later all.0 all.1

all_any : (paths : List (List Seg)) → AllByRecursion (λ (path : List Seg). Unit {0}) paths
all_any [] = tt
all_any (path ∷ paths) = (tt, all_any paths)

-- the record of a window carries rows of its last selection
window_rows : (nodes : List SchemaNode) (kinds : Kinds) (first : List Row) (later : List (List Row)) → AllByRecursion (IsRowOf nodes) (last_of first later) → AllByRecursion (CarriesRows nodes) (window_record kinds first later)
window_rows nodes kinds first later all =
    let paths : List (List Seg) = topmost (touched_paths [] first later) in
    all_filter (CarriesRows nodes) (λ (change : Change). not (is_excluded kinds change.kind)) (map (change_at first (last_of first later)) paths)
    (all_map (λ (path : List Seg). Unit {0}) (CarriesRows nodes) (change_at first (last_of first later)) paths (λ path any. carried_if nodes path (last_of first later) (has_row path (last_of first later)) all) (all_any paths))

-- ---- what is said of a subscription

-- the law that is rested on: entries keep a datastore
abbrev pub EntriesKeepDatastores : Type 0
EntriesKeepDatastores = (nodes : List SchemaNode) (state : JournalState) (entries : List Entry) → IsDatastore nodes state.rows → IsDatastore nodes (state_of nodes state entries).rows

module _ (keeps : EntriesKeepDatastores) (nodes : List SchemaNode) (receivers : List ReceiverInfo) (entries : List Entry) (receiver : ℕ) where
  abbrev story : Story
  story = story_of (moments_of nodes receivers entries) receiver

  wanted_rows : (id n : ℕ) (rows : List Row) → rows ≡ story.want id n → AreRows nodes rows
  wanted_rows id n rows is =
      subst (AreRows nodes) (sym (is ∙ wanted nodes receivers entries receiver id n))
      (datastore_rows nodes (selected_at nodes (state_at nodes receivers entries n) id receiver)
      (selected_by_is nodes (state_at nodes receivers entries n) receiver (keeps nodes (first_state receivers) (take n entries) (opening_datastore nodes receivers)) (live_at id (state_at nodes receivers entries n).registry.live)))

  between_rows : (id from to : ℕ) (rows : List Row) → IsWantedBetween story id from to rows → AllByRecursion (IsRowOf nodes) rows
  between_rows id from to rows is = (wanted_rows id is.0 rows is.3).of_schema

  edits_rows : (id from to : ℕ) (edits : List Change) → TellsWindow recorded story id from to edits → AllByRecursion (CarriesRows nodes) edits
  edits_rows id from to edits tells =
      subst (λ (changes : List Change). AllByRecursion (CarriesRows nodes) changes) (sym tells.edits)
      (window_rows nodes tells.kinds tells.first tells.later
      (last_rows (λ (rows : List Row). AllByRecursion (IsRowOf nodes) rows) tells.first tells.later (between_rows id from to tells.first tells.begins)
      (all_weaker (IsWantedBetween story id from to) (λ (rows : List Row). AllByRecursion (IsRowOf nodes) rows) tells.later (between_rows id from to) tells.goes_on)))

  pub body_rows : (id from position : ℕ) (body : Body) → IsBodyOf recorded story id from position body → SaysRows nodes body
  body_rows id from position (All rows) is = wanted_rows id position rows is.0
  body_rows id from position (Edits edits) is = edits_rows id from position edits is
  body_rows id from position (Marked edits) is = edits_rows id from position edits is
  body_rows id from position (Notice item) is = tt
