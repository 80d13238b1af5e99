-- What a slot keeps, as what is known of the track that it stands for.
use Rattle.std.proofs.Common.{◌≡◌, ℕ, ◌<◌, sym, ap, subst, ◌∙◌, refl, Bool, true, false, List, [], length, Some}
use Rattle.std.specs.Prelude.{IfSome}
use Rattle.std.specs.List.{AllByRecursion}
use Rattle.std.proofs.lemmas.Bool.{or_parts}
use Rattle.std.proofs.lemmas.List.{length-map}
use Rattle.yp_base.specs.Paths.{topmost}
use Rattle.yp_schema.specs.declared.schema.SchemaNode.{SchemaNode}
use Rattle.yp_schema.specs.Datastore.{has_row}
use Rattle.yp_filter.specs.Fits.{filter_fits}
use Rattle.yp_filter.specs.View.{filter_view}
use Rattle.yp_filter.specs.declared.filter.Filter.{Filter}
use Rattle.yp_changes.specs.Records.{touched_paths}
use Rattle.std.proofs.lemmas.Option.{none-some}
use Rattle.yp_registry.specs.Registry.{live_at}
use Rattle.yp_terms.specs.Terms.{Terms}
use Rattle.yp_kept.specs.Selection.{selection}
use Rattle.yp_feed.specs.Machine.{FeedState}
use Rattle.yp_touch.specs.declared.root.Root.{Root}
use Rattle.yp_touch.specs.Absorbed.{EndsAsRow, paths_of, root_at, recorded as record_of_roots}
use Rattle.yp_touch.specs.Windows.{RootsAreOfTheWindow, RecordIsOfTheWindow}
use Rattle.yp_journal.specs.History.{JournalState, may_read, rules_at}
use Rattle.yp_attempt.specs.Tracks.{Track, current, excluded_kinds, record_in, roots_in}
use Rattle.yp_moment.specs.Entries.{selected_by}
use Rattle.yp_moment.specs.Windows.{recorded}
use Rattle.yp_base.specs.declared.notice.Kinds.{Kinds}
use Rattle.yp_nacm.specs.declared.compile.UserRules.{UserRules}
use Rattle.yp_nacm.specs.Decision.{is_readable}
use Rattle.yp_base.specs.declared.notice.Change.{Change}
use Rattle.yp_base.specs.declared.row.Row.{Row}
use Rattle.yp_slot.specs.declared.slot.Slot.{Slot}
use Rattle.yp_slot.specs.Slots.{FollowsTerms, HasEnded, IsSendableRecord, IsKeptAt, IsRead, IsSlotOf, record_at}

-- what is known of windows
pub record AreWindows : Type 0 where
  pub roots : RootsAreOfTheWindow
  pub record_is : RecordIsOfTheWindow

module _ (nodes : List SchemaNode) (state : JournalState) (slot : Slot) (track : Track) (stands : IsSlotOf nodes state slot track) where
  -- the end of a feed of which numbers may be read isn't owed
  pub unended : IsRead track → slot.feed.owed.terminated ≡ false
  unended read = ap (λ (f : FeedState). f.owed.terminated) stands.feed ∙ (or_parts track.feed.owed.sync track.feed.owed.terminated read.unowed).1

  -- the filter of a live subscription selects what the track has last
  pub selects : slot.feed.owed.terminated ≡ false → selection nodes (filter_view slot.filter) (may_read nodes state slot.feed.receiver) state.rows ≡ current track
  selects lives =
      let here = stands.kept.terms.lives lives in
      (λ i. selection nodes (here.filter i) (may_read nodes state (stands.feed i).receiver) state.rows)
      ∙ ap (selected_by nodes state track.feed.receiver) (sym (ap (λ (f : FeedState). live_at f.sub state.registry.live) (sym stands.feed) ∙ here.live))
      ∙ sym stands.current

  -- there are as many places as the window has roots
  pub as_many : AreWindows → IsRead track → length slot.touched ≡ roots_in recorded track
  as_many windows read =
      ap (λ (roots : List Root). length roots) (stands.roots read ∙ windows.roots track.first track.later)
      ∙ length-map (topmost (touched_paths [] track.first track.later)) (root_at (λ path. has_row path track.first))

  -- their record is that of the window
  pub same_record : AreWindows → IsRead track → record_at nodes state slot ≡ record_in recorded track
  same_record windows read =
      (λ i. record_of_roots (excluded_kinds (stands.feed i).trigger) (stands.roots read i) (selects (unended read) i))
      ∙ windows.record_is (excluded_kinds track.feed.trigger) track.first track.later

-- a slot with another feed of the same subscription, whose end is owed as it was
pub follows_again : (nodes : List SchemaNode) (state : JournalState) (slot new : Slot) → FollowsTerms nodes state slot → new.feed.sub ≡ slot.feed.sub → new.feed.owed.terminated ≡ slot.feed.owed.terminated → new.filter ≡ slot.filter → FollowsTerms nodes state new
follows_again nodes state slot new follows sub ends filter = record {
  fits = subst (λ (f : Filter). filter_fits nodes (filter_view f) ≡ true) (sym filter) follows.fits;
  lives = λ lives. let here = follows.lives (sym ends ∙ lives) in record { terms = here.terms; live = ap (λ (id : ℕ). live_at id state.registry.live) sub ∙ here.live; filter = ap filter_view filter ∙ here.filter };
  ended = λ ended. subst (HasEnded state) (sym sub) (follows.ended (sym ends ∙ ended));
}

-- the end of a live subscription isn't owed
pub live_unended : (nodes : List SchemaNode) (state : JournalState) (slot : Slot) (terms : Terms) → FollowsTerms nodes state slot → live_at slot.feed.sub state.registry.live ≡ Some terms → slot.feed.owed.terminated ≡ false
live_unended nodes state slot terms follows live = by slot.feed.owed.terminated refl
  where
    by : (b : Bool) → slot.feed.owed.terminated ≡ b → b ≡ false
    by true ends = absurd (none-some terms (sym (follows.ended ends).gone ∙ live))
    by false ends = refl

-- and of the same receiver, with other places and another record set aside
pub kept_again : (nodes : List SchemaNode) (state : JournalState) (slot new : Slot) → IsKeptAt nodes state slot → new.feed.sub ≡ slot.feed.sub → new.feed.receiver ≡ slot.feed.receiver → new.feed.owed.terminated ≡ slot.feed.owed.terminated → new.filter ≡ slot.filter
    → AllByRecursion (EndsAsRow nodes) (paths_of new.touched) → IfSome new.frozen (IsSendableRecord nodes) → IsKeptAt nodes state new
kept_again nodes state slot new kept sub receiver ends filter paths sendable = record {
  terms = follows_again nodes state slot new kept.terms sub ends filter;
  receiver = subst (λ (n : ℕ). n < length state.receivers) (sym receiver) kept.receiver;
  paths = paths;
  sendable = sendable;
}

-- the record that is made of the places is theirs at the state
pub record_made : (nodes : List SchemaNode) (state : JournalState) (slot : Slot) (excluded : Kinds) (rules : UserRules) (rows : List Row) (changes : List Change) → changes ≡ record_of_roots excluded slot.touched (selection nodes (filter_view slot.filter) (λ path. is_readable nodes rules path) rows)
    → excluded ≡ excluded_kinds slot.feed.trigger → rules ≡ rules_at state slot.feed.receiver → rows ≡ state.rows → changes ≡ record_at nodes state slot
record_made nodes state slot excluded rules rows changes is kinds own there =
    is ∙ (λ i. record_of_roots (kinds i) slot.touched (selection nodes (filter_view slot.filter) (λ path. is_readable nodes (own i) path) (there i)))
