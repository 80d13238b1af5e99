-- Where no kind of edits is excluded, a record of what a subscription selected at some positions of a journal leads from the first selection to the last.
use Rattle.std.proofs.Common.{◌≡◌, ℕ, Bool, true, List, [], ◌∷◌, take, Option, Some, None, refl, sym, ap, subst, ◌∙◌}
use Rattle.std.specs.List.{AllByRecursion, filter}
use Rattle.yp_base.specs.declared.path.Seg.{Seg}
use Rattle.yp_base.specs.declared.row.Row.{Row}
use Rattle.yp_base.specs.declared.notice.Kinds.{Kinds}
use Rattle.yp_base.specs.Rows.{last_of, changed_by}
use Rattle.yp_schema.specs.declared.schema.SchemaNode.{SchemaNode}
use Rattle.yp_schema.specs.Datastore.{IsDatastore}
use Rattle.yp_schema.specs.WellFormed.{IsSchema}
use Rattle.yp_nacm.specs.AccessLaws.{readable_above}
use Rattle.yp_filter.specs.Filters.{all_rows}
use Rattle.yp_registry.specs.Registry.{live_at}
use Rattle.yp_terms.specs.Terms.{Terms}
use Rattle.yp_changes.specs.Records.{HasNone, window_record}
use Rattle.yp_kept.specs.KeptLaws.{kept_datastore}
use Rattle.yp_kept.specs.Selection.{selection}
use Rattle.yp_touch.specs.Absorbed.{selections}
use Rattle.yp_touch.specs.Windows.{WindowsLead}
use Rattle.yp_journal.specs.declared.entry.Entry.{Entry}
use Rattle.yp_journal.specs.declared.receiver.ReceiverInfo.{ReceiverInfo}
use Rattle.yp_journal.specs.History.{JournalState, first_state, rules_at, may_read, state_of, state_at}
use Rattle.yp_journal.specs.JournalLaws.{opening_datastore}
use Rattle.yp_attempt.specs.ListLaws.{all_weaker}
use Rattle.yp_mirror.specs.Stories.{Story, IsWantedBetween, Leads, story_of}
use Rattle.yp_moment.specs.Entries.{selected_by, selected_at, moments_of}
use Rattle.yp_moment.specs.Windows.{recorded}
use Rattle.yp_moment.specs.MomentLaws.{wanted}
use Rattle.yp_moment.proofs.Recording.{none_excluded}

-- ---- datastores

-- a reader of everything
abbrev everything : List Seg → Bool
everything path = true

all_pass : (rows : List Row) → filter (λ (row : Row). true) rows ≡ rows
all_pass [] = refl
all_pass (row ∷ rows) = ap (λ (more : List Row). row ∷ more) (all_pass rows)

module _ (nodes : List SchemaNode) where
  -- selects, without a filter, all rows
  all_selected : (rows : List Row) → selection nodes all_rows everything rows ≡ rows
  all_selected rows = ap (λ (seen : List Row). filter (λ (row : Row). true) seen) (all_pass rows) ∙ all_pass rows

  each_selected : (later : List (List Row)) → selections nodes all_rows everything later ≡ later
  each_selected [] = refl
  each_selected (rows ∷ later) = (λ i. all_selected rows i ∷ each_selected later i)

  -- so the record of a window of datastores leads from the first to the last
  record_leads : WindowsLead → IsSchema nodes → (excluded : Kinds) → HasNone excluded → (first : List Row) (later : List (List Row)) → IsDatastore nodes first → AllByRecursion (IsDatastore nodes) later
      → changed_by (window_record excluded first later) first ≡ last_of first later
  record_leads law schema excluded none first later one all =
      let was : first ≡ selection nodes all_rows everything first = sym (all_selected first) in
      let were : later ≡ selections nodes all_rows everything later = sym (each_selected later) in
      (λ i. changed_by (window_record excluded (was i) (were i)) (was i))
      ∙ law nodes all_rows everything excluded first later schema (λ above rest open_there. refl) none one all
      ∙ all_selected (last_of first later)

-- ---- what is selected at a position

-- of a datastore it is a datastore
module _ (nodes : List SchemaNode) (state : JournalState) (receiver : ℕ) where
  selected_by_is : IsDatastore nodes state.rows → (terms : Option Terms) → IsDatastore nodes (selected_by nodes state receiver terms)
  selected_by_is datastore None = opening_datastore nodes []
  selected_by_is datastore (Some terms) = kept_datastore nodes terms.asked (may_read nodes state receiver) state.rows (readable_above nodes (rules_at state receiver)) datastore

  selected_is : IsDatastore nodes state.rows → (id : ℕ) → IsDatastore nodes (selected_at nodes state id receiver)
  selected_is datastore id = selected_by_is datastore (live_at id state.registry.live)

-- the law that is rested on: entries keep a datastore
abbrev pub EntriesKeepDatastores : Type 0
EntriesKeepDatastores = (nodes : List SchemaNode) (state : JournalState) (entries : List Entry) → IsDatastore nodes state.rows → IsDatastore nodes (state_of nodes state entries).rows

module _ (keeps : EntriesKeepDatastores) (nodes : List SchemaNode) (receivers : List ReceiverInfo) (entries : List Entry) (receiver : ℕ) where
  abbrev story : Story
  story = story_of (moments_of nodes receivers entries) receiver

  datastore_at : (n : ℕ) → IsDatastore nodes (state_at nodes receivers entries n).rows
  datastore_at n = keeps nodes (first_state receivers) (take n entries) (opening_datastore nodes receivers)

  wanted_is : (id from to : ℕ) (rows : List Row) → IsWantedBetween story id from to rows → IsDatastore nodes rows
  wanted_is id from to rows is =
      subst (IsDatastore nodes) (sym (is.3 ∙ wanted nodes receivers entries receiver id is.0)) (selected_is nodes (state_at nodes receivers entries is.0) receiver (datastore_at is.0) id)

  pub records_lead : WindowsLead → IsSchema nodes → Leads recorded story
  records_lead law schema = record {
    leads = λ id from to excluded none first later begins goes_on.
        record_leads nodes law schema excluded (none_excluded excluded none) first later (wanted_is id from to first begins)
        (all_weaker (IsWantedBetween story id from to) (IsDatastore nodes) later (wanted_is id from to) goes_on);
  }
