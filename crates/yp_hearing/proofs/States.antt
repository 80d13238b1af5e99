-- What a legal journal keeps within bounds: stamps, rows, and ids of subscriptions.
use Rattle.std.proofs.Common.{◌≡◌, ℕ, ◌+◌, ◌<◌, ◌≤◌, ◌^◌, List, [], ◌∷◌, length, filter, Bool, true, false, cond, Option, Some, None, Result, Ok, Err, IfOk, nat_lt, refl, arith}
use Rattle.std.specs.List.{AllByRecursion}
use Rattle.std.proofs.lemmas.Bool.{ltb-false}
use Rattle.yp_base.specs.declared.row.Row.{Row}
use Rattle.yp_base.specs.Results.{◌>>=◌}
use Rattle.yp_schema.specs.declared.schema.SchemaNode.{SchemaNode}
use Rattle.yp_registry.specs.Registry.{last_id, live_at}
use Rattle.yp_terms.specs.Terms.{Terms}
use Rattle.yp_edit.specs.declared.halt.Refusal.{Refusal}
use Rattle.yp_patch.specs.declared.patch.Edit.{Edit}
use Rattle.yp_edit.specs.declared.fault.Tag.TheVariants.{TooBig}
use Rattle.yp_edit.specs.Patches.{RefusedEdit, refused, target_of, performed, row_limit, within_limit, edited, of_edit, all_edited, applied}
use Rattle.yp_time.specs.Ticks.{tick_limit}
use Rattle.yp_journal.specs.declared.command.Command.{Command}
use Rattle.yp_journal.specs.declared.command.Command.TheVariants as commands
use Rattle.yp_journal.specs.declared.entry.Entry.{Entry}
use Rattle.yp_journal.specs.declared.receiver.ReceiverInfo.{ReceiverInfo}
use Rattle.yp_journal.specs.History.{JournalState, first_state, rows_after, next_state, may_read, MayCome, IsLegal}
use Rattle.yp_attempt.specs.Moments.{Moment, Act, Quiet, Starts, Controls, Drops}
use Rattle.yp_moment.specs.Entries.{selected_by, act_of, moments_from, moments_of}
use Rattle.yp_moment.specs.Followed.{CanBeFollowed}
use Rattle.yp_kept.specs.Selection.{kept, selection}
use Rattle.yp_nacm.specs.Decision.{visible_rows}

-- ---- rows

-- no more rows than a datastore may have
abbrev pub FewRows : List Row → Type 0
FewRows rows = length rows ≤ 20000

limit_at : (b : Bool) (rows : List Row) → nat_lt 20000 (length rows) ≡ b → IfOk (cond b (refused TooBig) (Ok rows)) FewRows
limit_at true rows is = tt
limit_at false rows is = ltb-false 20000 (length rows) is

limited : (rows : List Row) → IfOk (within_limit rows) FewRows
limited rows = limit_at (nat_lt row_limit (length rows)) rows refl

then_few : {X : Type 0} (r : Result X Refusal) (f : X → Result (List Row) Refusal) → ((x : X) → IfOk (f x) FewRows) → IfOk (r >>= f) FewRows
then_few (Ok x) f each = each x
then_few (Err e) f each = tt

edited_few : (nodes : List SchemaNode) (rows : List Row) (edit : Edit) → IfOk (edited nodes rows edit) FewRows
edited_few nodes rows edit =
    then_few (target_of nodes edit.target) (λ target. performed edit.op nodes target edit.value rows >>= within_limit) (λ target. then_few (performed edit.op nodes target edit.value rows) within_limit limited)

more_few : (n : ℕ) (r : Result (List Row) Refusal) (next : List Row → Result (List Row) RefusedEdit) → IfOk r FewRows → ((rows : List Row) → FewRows rows → IfOk (next rows) FewRows) → IfOk (of_edit n r >>= next) FewRows
more_few n (Ok rows) next few each = each rows few
more_few n (Err refusal) next few each = tt

edits_few : (nodes : List SchemaNode) (edits : List Edit) (n : ℕ) (rows : List Row) → FewRows rows → IfOk (all_edited nodes n rows edits) FewRows
edits_few nodes [] n rows few = few
edits_few nodes (edit ∷ edits) n rows few = more_few n (edited nodes rows edit) (λ after. all_edited nodes (n + 1) after edits) (edited_few nodes rows edit) (λ after h. edits_few nodes edits (n + 1) after h)

after_few : (rows : List Row) (r : Result (List Row) RefusedEdit) → FewRows rows → IfOk r FewRows → FewRows (rows_after rows r)
after_few rows (Ok after) few h = h
after_few rows (Err refusal) few h = few

passed_at : {X : Type 0} (b : Bool) (x : X) (xs passed : List X) → length passed ≤ length xs → length (cond b (x ∷ passed) passed) ≤ length (x ∷ xs)
passed_at true x xs passed h = omega (arith, h)
passed_at false x xs passed h = omega (arith, h)

pub filter_few : {X : Type 0} (p : X → Bool) (xs : List X) → length (filter p xs) ≤ length xs
filter_few p [] = omega arith
filter_few p (x ∷ xs) = passed_at (p x) x xs (filter p xs) (filter_few p xs)

-- ---- states and moments

-- what each state of a legal journal keeps
record StateFits (state : JournalState) : Type 0 where
  stamp : state.stamp ≤ tick_limit
  rows : FewRows state.rows

first_fits : (receivers : List ReceiverInfo) → StateFits (first_state receivers)
first_fits receivers = record { stamp = omega arith; rows = omega arith }

next_fits : (nodes : List SchemaNode) (state : JournalState) (command : Command) → MayCome nodes state.receivers command → StateFits state → StateFits (next_state nodes state command)
next_fits nodes state (commands.Tick tick) may fits = record { stamp = omega (arith, may, fits.stamp); rows = fits.rows }
next_fits nodes state (commands.Edit patch) may fits = record { stamp = fits.stamp; rows = after_few state.rows (applied nodes state.rows patch) fits.rows (edits_few nodes patch.edits 0 state.rows fits.rows) }
next_fits nodes state (commands.Rules policy) may fits = record { stamp = fits.stamp; rows = fits.rows }
next_fits nodes state (commands.Establish by ask) may fits = record { stamp = fits.stamp; rows = fits.rows }
next_fits nodes state (commands.Modify by id amend) may fits = record { stamp = fits.stamp; rows = fits.rows }
next_fits nodes state (commands.Delete by id) may fits = record { stamp = fits.stamp; rows = fits.rows }
next_fits nodes state (commands.Kill by id) may fits = record { stamp = fits.stamp; rows = fits.rows }
next_fits nodes state (commands.Resync by id) may fits = record { stamp = fits.stamp; rows = fits.rows }
next_fits nodes state (commands.Configure id receivers ask) may fits = record { stamp = fits.stamp; rows = fits.rows }
next_fits nodes state (commands.Reconfigure id amend) may fits = record { stamp = fits.stamp; rows = fits.rows }
next_fits nodes state (commands.Unconfigure id) may fits = record { stamp = fits.stamp; rows = fits.rows }
next_fits nodes state (commands.Take receiver count) may fits = record { stamp = fits.stamp; rows = fits.rows }

-- what an act starts
abbrev pub ActFits : Act → Type 0
ActFits Quiet = Unit {0}
ActFits (Starts sub trigger configured names) = sub < 2 ^ 32
ActFits (Controls sub control) = Unit {0}
ActFits (Drops sub) = Unit {0}

-- what a moment of a legal journal keeps: its stamp is a tick, what it starts has an id of 32 bits, and it selects no more rows than a datastore may have
pub record MomentFits (m : Moment) : Type 0 where
  pub stamp : m.stamp ≤ tick_limit
  pub act : ActFits m.act
  pub selection : (id receiver : ℕ) → length (m.selection id receiver) ≤ 20000

selected_few : (nodes : List SchemaNode) (state : JournalState) (receiver : ℕ) (terms : Option Terms) → FewRows state.rows → length (selected_by nodes state receiver terms) ≤ 20000
selected_few nodes state receiver None few = omega arith
selected_few nodes state receiver (Some terms) few =
    let seen = visible_rows (may_read nodes state receiver) state.rows in
    let one : length seen ≤ length state.rows = filter_few (λ (row : Row). may_read nodes state receiver row.path) state.rows in
    let two : length (selection nodes terms.asked (may_read nodes state receiver) state.rows) ≤ length seen = filter_few (λ (row : Row). kept nodes terms.asked seen row.path) seen in
    omega (arith, one, two, few)

act_fits : (act : Act) → CanBeFollowed act → ActFits act
act_fits Quiet is = tt
act_fits (Starts sub trigger configured names) is = let low : sub ≤ last_id = is.0 in omega (arith, low)
act_fits (Controls sub control) is = tt
act_fits (Drops sub) is = tt

moments_fit : (nodes : List SchemaNode) (entries : List Entry) (state : JournalState) → IsLegal nodes state entries → StateFits state → AllByRecursion (λ m. CanBeFollowed m.act) (moments_from nodes state entries)
    → AllByRecursion MomentFits (moments_from nodes state entries)
moments_fit nodes [] state legal fits handed = tt
moments_fit nodes (entry ∷ entries) state legal fits handed =
    let after = next_state nodes state entry.command in
    let next : StateFits after = next_fits nodes state entry.command legal.0.command fits in (
      record {
        stamp = next.stamp;
        act = act_fits (act_of entry.command entry.reply after) handed.0;
        selection = λ id receiver. selected_few nodes after receiver (live_at id after.registry.live) next.rows;
      },
      moments_fit nodes entries after legal.1 next handed.1,
    )

-- the moments of a legal journal
pub journal_fits : (nodes : List SchemaNode) (receivers : List ReceiverInfo) (entries : List Entry) → IsLegal nodes (first_state receivers) entries → AllByRecursion (λ m. CanBeFollowed m.act) (moments_of nodes receivers entries)
    → AllByRecursion MomentFits (moments_of nodes receivers entries)
journal_fits nodes receivers entries legal handed = moments_fit nodes entries (first_state receivers) legal (first_fits receivers) handed
