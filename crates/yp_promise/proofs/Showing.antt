-- What a receiver holds can be written: rows of the schema, in order.
use Rattle.std.proofs.Common.{◌≡◌, ℕ, true, false, not, List, [], ◌∷◌, ◌++◌, Some, unwrap_or, sym, subst, cond}
use Rattle.std.specs.BTreeMap.{insert_entry, is_at}
use Rattle.std.specs.List.{AllByRecursion}
use Rattle.std.specs.Ordering.{nat_cmp, match_ordering}
use Rattle.std.specs.declared.cmp.Ordering.{Ordering}
use Rattle.std.specs.declared.cmp.Ordering.TheVariants.{Less, Equal, Greater}
use Rattle.yp_base.specs.declared.notice.Change.{Change}
use Rattle.yp_base.specs.declared.row.Row.{Row}
use Rattle.yp_base.specs.Order.{is_within}
use Rattle.yp_base.specs.Rows.{changed_by, put_rows, rows_without}
use Rattle.yp_base.specs.RowLaws.{all_puts, none_order, puts_order, put_to_none, without_keeps_order}
use Rattle.yp_feed.specs.declared.item.Item.{Item}
use Rattle.yp_feed.specs.declared.item.Item.TheVariants.{Started, Modified, Incomplete, Suspended, Resumed, Sync, Terminated, Changes, Periodic}
use Rattle.yp_schema.specs.declared.schema.SchemaNode.{SchemaNode}
use Rattle.yp_schema.specs.Datastore.{IsRowOf}
use Rattle.yp_kept.specs.SelectionLaws.{top_writable}
use Rattle.yp_attempt.specs.Attempts.{Notification, taken_of}
use Rattle.yp_attempt.specs.ListLaws.{all_before, all_filter}
use Rattle.yp_attempt.specs.Tracks.{Attempt, Body, All, Edits, Marked, Notice}
use Rattle.yp_moment.specs.Notices.{notice_by, notice_of, state_notice}
use Rattle.yp_receiver.specs.Held.{hears, held_of}
use Rattle.yp_promise.specs.Received.{CanBeShown, received}
use Rattle.yp_promise.proofs.Bodies.{AreRows, CarriesRows, SaysRows}
use Rattle.yp_world.specs.TakenLaws.{all_taken}

changed_rows : (nodes : List SchemaNode) (changes : List Change) (rows : List Row) → AllByRecursion (CarriesRows nodes) changes → AreRows nodes rows → AreRows nodes (changed_by changes rows)
changed_rows nodes [] rows all are = are
changed_rows nodes (change ∷ changes) rows all are =
    changed_rows nodes changes (put_rows change.rows (rows_without change.target rows)) all.1 (record {
      order = puts_order change.rows (rows_without change.target rows) (without_keeps_order change.target rows are.order);
      of_schema = all_puts (IsRowOf nodes) change.rows (rows_without change.target rows) all.0 (all_filter (IsRowOf nodes) (λ (row : Row). not (is_within change.target row.path)) rows are.of_schema);
    })

-- ---- what is held of all subscriptions

abbrev AllRows : List SchemaNode → List (ℕ × List Row) → Type 0
AllRows nodes held = AllByRecursion (λ (tree : ℕ × List Row). AreRows nodes tree.1) held

set_rows_at : (r : Ordering) (nodes : List SchemaNode) (id : ℕ) (rows : List Row) (e : ℕ × List Row) (held set : List (ℕ × List Row)) → AreRows nodes rows → AreRows nodes e.1 → AllRows nodes held → AllRows nodes set
    → AllRows nodes (match_ordering r ((id, rows) ∷ e ∷ held) ((e.0, rows) ∷ held) (e ∷ set))
set_rows_at Less nodes id rows e held set are first all later = (are, (first, all))
set_rows_at Equal nodes id rows e held set are first all later = (are, all)
set_rows_at Greater nodes id rows e held set are first all later = (first, later)

set_rows : (nodes : List SchemaNode) (id : ℕ) (rows : List Row) (held : List (ℕ × List Row)) → AreRows nodes rows → AllRows nodes held → AllRows nodes (insert_entry nat_cmp held id rows)
set_rows nodes id rows [] are all = (are, tt)
set_rows nodes id rows (e ∷ held) are all = set_rows_at (nat_cmp id e.0) nodes id rows e held (insert_entry nat_cmp held id rows) are all.0 all.1 (set_rows nodes id rows held are all.1)

no_rows : (nodes : List SchemaNode) → AreRows nodes []
no_rows nodes = record { order = none_order; of_schema = tt }

rows_of : (nodes : List SchemaNode) (id : ℕ) (held : List (ℕ × List Row)) → AllRows nodes held → AreRows nodes (unwrap_or (held_of id held) [])
rows_of nodes id [] all = no_rows nodes
rows_of nodes id (e ∷ held) all =
    elim (is_at (nat_cmp id) e.0) as (λ b. AreRows nodes (unwrap_or (cond b (Some e.1) (held_of id held)) [])) [
      | true ↦ all.0
      | false ↦ rows_of nodes id held all.1
    ]

-- edits of a subscription change its rows
edits_rows : (nodes : List SchemaNode) (id : ℕ) (edits : List Change) (held : List (ℕ × List Row)) → AllByRecursion (CarriesRows nodes) edits → AllRows nodes held → AllRows nodes (insert_entry nat_cmp held id (changed_by edits (unwrap_or (held_of id held) [])))
edits_rows nodes id edits held carries all = set_rows nodes id (changed_by edits (unwrap_or (held_of id held) [])) held (changed_rows nodes edits (unwrap_or (held_of id held) []) carries (rows_of nodes id held all)) all

state_rows : (nodes : List SchemaNode) (id n : ℕ) (item : Item) (held : List (ℕ × List Row)) → AllRows nodes held → AllRows nodes (hears (state_notice id n item) held)
state_rows nodes id n Started held all = all
state_rows nodes id n Modified held all = all
state_rows nodes id n Incomplete held all = edits_rows nodes id [] held tt all
state_rows nodes id n Suspended held all = all
state_rows nodes id n Resumed held all = all
state_rows nodes id n Sync held all = edits_rows nodes id [] held tt all
state_rows nodes id n Terminated held all = all
state_rows nodes id n Changes held all = edits_rows nodes id [] held tt all
state_rows nodes id n Periodic held all = edits_rows nodes id [] held tt all

hears_rows : (nodes : List SchemaNode) (id n : ℕ) (body : Body) (held : List (ℕ × List Row)) → SaysRows nodes body → AllRows nodes held → AllRows nodes (hears (notice_by id n body) held)
hears_rows nodes id n (All rows) held says all = set_rows nodes id (put_rows rows []) held (subst (λ (rows : List Row). AreRows nodes rows) (sym (put_to_none rows says.order)) says) all
hears_rows nodes id n (Edits edits) held says all = edits_rows nodes id edits held says all
hears_rows nodes id n (Marked edits) held says all = edits_rows nodes id edits held says all
hears_rows nodes id n (Notice item) held says all = state_rows nodes id n item held all

received_rows : (nodes : List SchemaNode) (got : List Notification) (held : List (ℕ × List Row)) → AllByRecursion (λ n. SaysRows nodes n.made.body) got → AllRows nodes held → AllRows nodes (received held got)
received_rows nodes [] held says all = all
received_rows nodes (n ∷ got) held says all = received_rows nodes got (hears (notice_of n.sub n.made) held) says.1 (hears_rows nodes n.sub n.made.position n.made.body held says.0 all)

all_writable : (nodes : List SchemaNode) (held : List (ℕ × List Row)) → AllRows nodes held → CanBeShown nodes held
all_writable nodes [] all = tt
all_writable nodes (e ∷ held) all = (top_writable nodes e.1 all.0.order all.0.of_schema, all_writable nodes held all.1)

-- where what is offered tells of rows of the schema, what is held of what was taken can be written
pub held_writable : (nodes : List SchemaNode) (offered : List Attempt) (got waiting : List Notification) → AllByRecursion (λ a. SaysRows nodes a.made.body) offered → taken_of offered ≡ got ++ waiting → CanBeShown nodes (received [] got)
held_writable nodes offered got waiting says accepted =
    let Says : Notification → Type 0 = (λ n. SaysRows nodes n.made.body) in
    all_writable nodes (received [] got)
    (received_rows nodes got [] (all_before Says got waiting (subst (λ (ns : List Notification). AllByRecursion Says ns) accepted (all_taken Says offered says))) tt)
