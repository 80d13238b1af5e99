-- A slot that goes on by an entry: its track has one selection more.
use Rattle.std.proofs.Common.{◌≡◌, ℕ, ◌<◌, refl, sym, ap, subst, ◌∙◌, Bool, true, false, true≢false, not, List, [], ◌∷◌, ◌++◌, ◌||◌, length, Some}
use Rattle.std.specs.Prelude.{if◌then◌else◌, map}
use Rattle.std.specs.List.{AllByRecursion}
use Rattle.std.proofs.lemmas.Bool.{eq-eqb}
use Rattle.yp_base.specs.declared.path.Seg.{Seg}
use Rattle.yp_base.specs.declared.row.Row.{Row}
use Rattle.yp_base.specs.Rows.{last_of}
use Rattle.yp_base.specs.RowLaws.{last_more}
use Rattle.yp_schema.specs.declared.schema.SchemaNode.{SchemaNode}
use Rattle.yp_schema.specs.Datastore.{IsDatastore}
use Rattle.yp_filter.specs.declared.filter.Filter.{Filter}
use Rattle.yp_filter.specs.Filters.{Asked}
use Rattle.yp_filter.specs.Fits.{filter_fits}
use Rattle.yp_filter.specs.View.{filter_view}
use Rattle.yp_nacm.specs.declared.compile.UserRules.{UserRules}
use Rattle.yp_nacm.specs.AccessLaws.{readable_above}
use Rattle.yp_nacm.specs.Decision.{IsClosed, is_readable}
use Rattle.yp_changes.specs.ChangeLaws.{none_differ}
use Rattle.yp_changes.specs.Changes.{changed_rows}
use Rattle.yp_changes.specs.declared.changed.ChangedRow.{ChangedRow}
use Rattle.yp_patch.specs.declared.patch.Patch.{Patch}
use Rattle.yp_changes.specs.Records.{changed_paths, put_paths, touched_paths}
use Rattle.yp_nacm.specs.Same.{are_same_rules}
use Rattle.yp_registry.specs.Registry.{Subscriptions, live_at}
use Rattle.yp_terms.specs.Terms.{Terms}
use Rattle.yp_kept.specs.Selection.{selection}
use Rattle.yp_feed.specs.declared.item.Control.{Control}
use Rattle.yp_feed.specs.declared.item.Control.TheVariants.{Modify, Rules, End}
use Rattle.yp_feed.specs.Machine.{FeedState, controlled, ending, is_on_change, restarts, resyncs}
use Rattle.yp_touch.specs.declared.root.Root.{Root}
use Rattle.yp_touch.specs.Absorbed.{AreTopmost, EndsAsRow, absorbed, all_absorbed, paths_of, roots_since}
use Rattle.yp_touch.specs.Windows.{OneMoreStep, RootsAreOfTheWindow, RootsEndAsRows, StepsWithoutRootsLeave, WindowsStandTopmost}
use Rattle.yp_journal.specs.declared.command.Command.{Command}
use Rattle.yp_journal.specs.declared.command.Command.TheVariants.{Tick, Edit, Rules as Policies, Establish, Take}
use Rattle.yp_journal.specs.declared.command.Command.TheVariants as commands
use Rattle.yp_journal.specs.declared.entry.Entry.{Entry}
use Rattle.yp_journal.specs.History.{JournalState, rules_at, may_read, next_state}
use Rattle.yp_attempt.specs.Tracks.{Track, current}
use Rattle.yp_attempt.specs.Moments.{Act, Quiet, Starts, Controls, Drops, after_act, after_rules, with_control}
use Rattle.yp_attempt.specs.TrackLaws.{act_same}
use Rattle.yp_moment.specs.Entries.{act_of, moment_between, selected_at, selected_by}
use Rattle.yp_moment.specs.Ids.{was_given}
use Rattle.yp_slot.specs.declared.classes.Class.{Class}
use Rattle.yp_slot.specs.declared.following.Entered.{Entered}
use Rattle.yp_slot.specs.declared.slot.Slot.{Slot}
use Rattle.yp_slot.specs.Classes.{IsClassOf, member_of}
use Rattle.yp_slot.specs.Slots.{FollowsTerms, HasEnded, IsRead, IsSlotOf}
use Rattle.yp_slot.specs.Steps.{ComesAfter, IsEnteredByPatch, IsEnteredByRules, IsPatchOf, IsStepOf, LeavesSelections, StaysAsItIs, entered_moment, entered_track, gone_on, step_of, touches, with_next}
use Rattle.yp_slot.proofs.Classed.{step_shared}
use Rattle.yp_slot.proofs.Standing.{follows_again, kept_again, live_unended, selects, unended}
use Rattle.yp_slot.proofs.Going.{Continues, StandsBut, ending_on, goes_on, modify_continues, with_places}

-- ---- windows with one selection more

none_more : (paths : List (List Seg)) (first : List Row) (later : List (List Row)) → touched_paths paths first (later ++ last_of first later ∷ []) ≡ touched_paths paths first later
none_more paths first [] = ap (λ (those : List ChangedRow). put_paths (map (λ change. change.path) those) paths) (none_differ first first refl)
none_more paths first (one ∷ later) = none_more (put_paths (changed_paths first one) paths) one later

-- the same selection again touches nothing
pub same_again : RootsAreOfTheWindow → (first : List Row) (later : List (List Row)) (next : List Row) → next ≡ last_of first later → all_absorbed [] first (later ++ next ∷ []) ≡ all_absorbed [] first later
same_again windows first later next same =
    windows first (later ++ next ∷ [])
    ∙ ap (λ (rows : List Row). roots_since first (touched_paths [] first (later ++ rows ∷ []))) same
    ∙ ap (roots_since first) (none_more [] first later)
    ∙ sym (windows first later)

-- what a filter selects of a datastore is one
abbrev pub SelectionsAreDatastores : Type 0
SelectionsAreDatastores = (nodes : List SchemaNode) (asked : Asked) (readable : List Seg → Bool) (rows : List Row) → IsClosed readable → IsDatastore nodes rows → IsDatastore nodes (selection nodes asked readable rows)

-- ---- states after others

-- a slot whose subscription stays as it is follows it after another
follows_after : (nodes : List SchemaNode) (before after : JournalState) (slot : Slot) → StaysAsItIs before after slot.feed.sub → FollowsTerms nodes before slot → FollowsTerms nodes after slot
follows_after nodes before after slot stays follows = record {
  fits = follows.fits;
  lives = λ lives. let here = follows.lives lives in record { terms = here.terms; live = stays.live here.terms here.live; filter = here.filter };
  ended = λ ended. stays.ended (follows.ended ended);
}

-- but for its filter and its places a slot stands for the track with the next selection
pub next_but : (nodes : List SchemaNode) (before after : JournalState) (slot : Slot) (track : Track) → after.receivers ≡ before.receivers → IsSlotOf nodes before slot track → StandsBut nodes after slot (with_next nodes after track)
next_but nodes before after slot track receivers stands = record {
  receiver = subst (λ n. slot.feed.receiver < n) (ap length (sym receivers)) stands.kept.receiver;
  paths = stands.kept.paths;
  sendable = stands.kept.sendable;
  feed = stands.feed;
  frozen = stands.frozen;
  plain = stands.plain;
  apart = stands.apart;
  current = last_more track.first track.later (selected_at nodes after track.feed.sub track.feed.receiver);
}

module _ (nodes : List SchemaNode) (before after : JournalState) (slot : Slot) (track : Track) (receivers : after.receivers ≡ before.receivers) (lasts : StaysAsItIs before after slot.feed.sub) (stands : IsSlotOf nodes before slot track) where
  but : StandsBut nodes after slot (with_next nodes after track)
  but = next_but nodes before after slot track receivers stands

  follows : FollowsTerms nodes after slot
  follows = follows_after nodes before after slot lasts stands.kept.terms

  -- where the same is selected, it stands for it
  pub stays : RootsAreOfTheWindow → (slot.feed.owed.terminated ≡ false → selected_at nodes after track.feed.sub track.feed.receiver ≡ selected_at nodes before track.feed.sub track.feed.receiver) → IsSlotOf nodes after slot (with_next nodes after track)
  stays windows same = with_places nodes after slot (with_next nodes after track) but follows (λ read.
      let reads : IsRead track = record { on_change = read.on_change; unowed = read.unowed } in
      stands.roots reads
      ∙ sym (same_again windows track.first track.later (selected_at nodes after track.feed.sub track.feed.receiver) (same (unended nodes before slot track stands reads) ∙ sym stands.current)))

  -- where users read alike, what a live one selects is the same of the same rows
  pub same_selected : after.rows ≡ before.rows → rules_at after track.feed.receiver ≡ rules_at before track.feed.receiver → slot.feed.owed.terminated ≡ false
      → selected_at nodes after track.feed.sub track.feed.receiver ≡ selected_at nodes before track.feed.sub track.feed.receiver
  same_selected rows rules lives =
      let here = stands.kept.terms.lives lives in
      let live_before : live_at track.feed.sub before.registry.live ≡ Some here.terms = ap (λ (f : FeedState). live_at f.sub before.registry.live) (sym stands.feed) ∙ here.live in
      let live_after : live_at track.feed.sub after.registry.live ≡ Some here.terms = ap (λ (f : FeedState). live_at f.sub after.registry.live) (sym stands.feed) ∙ lasts.live here.terms here.live in
      ap (selected_by nodes after track.feed.receiver) live_after
      ∙ (λ i. selection nodes here.terms.asked (λ path. is_readable nodes (rules i) path) (rows i))
      ∙ ap (selected_by nodes before track.feed.receiver) (sym live_before)

  -- what happens to its feed
  pub renews : (control : Control) (f : FeedState) (n stamp : ℕ) (dropped : Bool) → Continues track.feed control n stamp → f ≡ controlled slot.feed control n stamp → dropped ≡ not (resyncs f.trigger)
      → IsSlotOf nodes after (gone_on (record slot { feed = f }) dropped) (with_control n stamp control (with_next nodes after track))
  renews control f n stamp dropped on is drops =
      let g = controlled track.feed control n stamp in
      let same : f ≡ g = is ∙ ap (λ (h : FeedState). controlled h control n stamp) stands.feed in
      subst (λ (h : FeedState). IsSlotOf nodes after (gone_on (record slot { feed = h }) dropped) (with_control n stamp control (with_next nodes after track))) (sym same)
      (goes_on nodes after slot (with_next nodes after track) but g (restarts track.feed control) dropped on.goes
      (follows_again nodes after slot (record slot { feed = g }) follows (on.goes.sub ∙ ap (λ (h : FeedState). h.sub) (sym stands.feed)) (on.ends ∙ ap (λ (h : FeedState). h.owed.terminated) (sym stands.feed)) refl)
      (λ moved. drops ∙ ap (λ (h : FeedState). not (resyncs h.trigger)) same ∙ on.drops moved)
      (λ stayed read. absurd (on.unread stayed read.unowed)))

  -- a patch
  pub selects_after : slot.feed.owed.terminated ≡ false → selected_at nodes after track.feed.sub track.feed.receiver ≡ selection nodes (filter_view slot.filter) (may_read nodes after slot.feed.receiver) after.rows
  selects_after lives =
      let here = follows.lives lives in
      ap (selected_by nodes after track.feed.receiver) (ap (λ (f : FeedState). live_at f.sub after.registry.live) (sym stands.feed) ∙ here.live)
      ∙ (λ i. selection nodes (sym here.filter i) (may_read nodes after (sym stands.feed i).receiver) after.rows)

  pub absorbs : OneMoreStep → (rules : (number : ℕ) → rules_at before number ≡ rules_at after number) (touched : List Root)
      → (IsRead track → touched ≡ absorbed slot.touched (selection nodes (filter_view slot.filter) (may_read nodes after slot.feed.receiver) before.rows) (selection nodes (filter_view slot.filter) (may_read nodes after slot.feed.receiver) after.rows))
      → AllByRecursion (EndsAsRow nodes) (paths_of touched)
      → IsSlotOf nodes after (record slot { touched = touched }) (with_next nodes after track)
  absorbs more rules touched is paths =
      let next = selected_at nodes after track.feed.sub track.feed.receiver in
      with_places nodes after (record slot { touched = touched }) (with_next nodes after track) (record {
        receiver = but.receiver;
        paths = paths;
        sendable = stands.kept.sendable;
        feed = stands.feed;
        frozen = stands.frozen;
        plain = stands.plain;
        apart = stands.apart;
        current = but.current;
      }) (follows_again nodes after slot (record slot { touched = touched }) follows refl refl refl) (λ read.
      let reads : IsRead track = record { on_change = read.on_change; unowed = read.unowed } in
      let lives = unended nodes before slot track stands reads in
      let was : selection nodes (filter_view slot.filter) (may_read nodes after slot.feed.receiver) before.rows ≡ current track =
      (λ i. selection nodes (filter_view slot.filter) (λ path. is_readable nodes (sym (rules slot.feed.receiver) i) path) before.rows) ∙ selects nodes before slot track stands lives in
      is reads
      ∙ (λ i. absorbed (stands.roots reads i) (was i) (sym (selects_after lives) i))
      ∙ sym (more [] track.first track.later next))

  -- of a periodic feed no places are read
  pub passes : is_on_change slot.feed.trigger ≡ false → IsSlotOf nodes after slot (with_next nodes after track)
  passes off = with_places nodes after slot (with_next nodes after track) but follows (λ read. absurd (true≢false (sym read.on_change ∙ ap (λ (f : FeedState). is_on_change f.trigger) (sym stands.feed) ∙ off)))

  -- nor of one that owes all that it selects
  pub waits : slot.feed.owed.sync ≡ true → IsSlotOf nodes after slot (with_next nodes after track)
  waits owes = with_places nodes after slot (with_next nodes after track) but follows (λ read.
      absurd (true≢false (ap (λ (b : Bool). b || track.feed.owed.terminated) (sym (ap (λ (f : FeedState). f.owed.sync) (sym stands.feed) ∙ owes)) ∙ read.unowed)))

  -- a step of its class from nothing
  module _ (class : Class) (step : List Root) (shares : IsClassOf after class (member_of slot)) (is : IsStepOf nodes before after class step) where
    step_is : is_on_change slot.feed.trigger ≡ true → step ≡ step_of nodes before after (filter_view slot.filter) slot.feed.receiver
    step_is on = is (shares.on_change ∙ on) ∙ step_shared nodes before after class slot shares

    -- without roots it leaves the places
    pub leaves : OneMoreStep → StepsWithoutRootsLeave → WindowsStandTopmost → (rules : (number : ℕ) → rules_at before number ≡ rules_at after number) → step ≡ [] → IsSlotOf nodes after slot (with_next nodes after track)
    leaves more leave topmost rules none = absorbs more rules slot.touched (λ read.
        let on : is_on_change slot.feed.trigger ≡ true = ap (λ (f : FeedState). is_on_change f.trigger) stands.feed ∙ read.on_change in
        sym (leave slot.touched (selection nodes (filter_view slot.filter) (may_read nodes after slot.feed.receiver) before.rows) (selection nodes (filter_view slot.filter) (may_read nodes after slot.feed.receiver) after.rows)
        (subst (λ (roots : List Root). AreTopmost (paths_of roots)) (sym (stands.roots read)) (topmost track.first track.later)) (sym (step_is on) ∙ none))) stands.kept.paths

    -- and otherwise the places are joined with it
    pub joins : OneMoreStep → RootsEndAsRows → (rules : (number : ℕ) → rules_at before number ≡ rules_at after number) → IsDatastore nodes before.rows → IsDatastore nodes after.rows
        → SelectionsAreDatastores → is_on_change slot.feed.trigger ≡ true → (touched : List Root)
        → ((old new : List Row) → step ≡ absorbed [] old new → touched ≡ absorbed slot.touched old new) → IsSlotOf nodes after (record slot { touched = touched }) (with_next nodes after track)
    joins more ends rules old new selected on touched joined =
        let asked = filter_view slot.filter in
        let readable = may_read nodes after slot.feed.receiver in
        let closed = readable_above nodes (rules_at after slot.feed.receiver) in
        let made = joined (selection nodes asked readable before.rows) (selection nodes asked readable after.rows) (step_is on) in
        absorbs more rules touched (λ read. made)
        (subst (λ (roots : List Root). AllByRecursion (EndsAsRow nodes) (paths_of roots)) (sym made)
        (ends nodes slot.touched (selection nodes asked readable before.rows) (selection nodes asked readable after.rows) (selected nodes asked readable before.rows closed old) (selected nodes asked readable after.rows closed new) stands.kept.paths))

-- a slot with the number of another class stands for what it stood for
pub renumbered : (nodes : List SchemaNode) (state : JournalState) (slot : Slot) (track : Track) (number : ℕ) → IsSlotOf nodes state slot track → IsSlotOf nodes state (record slot { class = number }) track
renumbered nodes state slot track number stands = record {
  kept = kept_again nodes state slot (record slot { class = number }) stands.kept refl refl refl refl stands.kept.paths stands.kept.sendable;
  feed = stands.feed;
  frozen = stands.frozen;
  roots = stands.roots;
  plain = stands.plain;
  apart = stands.apart;
  current = stands.current;
}

-- a subscription that is amended, by a slot with its new filter
pub amends : (nodes : List SchemaNode) (before after : JournalState) (slot : Slot) (track : Track) (was terms : Terms) (filter : Filter) (f : FeedState) (notify : Bool) (n stamp : ℕ) (dropped : Bool) → after.receivers ≡ before.receivers → IsSlotOf nodes before slot track
    → live_at slot.feed.sub before.registry.live ≡ Some was → live_at slot.feed.sub after.registry.live ≡ Some terms → filter_view filter ≡ terms.asked → filter_fits nodes terms.asked ≡ true
    → f ≡ controlled slot.feed (Modify terms.trigger notify) n stamp → dropped ≡ not (resyncs f.trigger)
    → IsSlotOf nodes after (gone_on (record slot { feed = f; filter = filter }) dropped) (with_control n stamp (Modify terms.trigger notify) (with_next nodes after track))
amends nodes before after slot track was terms filter f notify n stamp dropped receivers stands live_before live_after said fits is drops =
    let control = Modify terms.trigger notify in
    let lives : slot.feed.owed.terminated ≡ false = live_unended nodes before slot was stands.kept.terms live_before in
    let on = modify_continues track.feed terms.trigger notify n stamp (ap (λ (h : FeedState). h.owed.terminated) (sym stands.feed) ∙ lives) in
    let g = controlled track.feed control n stamp in
    let same : f ≡ g = is ∙ ap (λ (h : FeedState). controlled h control n stamp) stands.feed in
    let but = next_but nodes before after slot track receivers stands in
    let ends : g.owed.terminated ≡ false = on.ends ∙ ap (λ (h : FeedState). h.owed.terminated) (sym stands.feed) ∙ lives in
    let id : g.sub ≡ slot.feed.sub = on.goes.sub ∙ ap (λ (h : FeedState). h.sub) (sym stands.feed) in
    let amended : Slot = record slot { filter = filter } in
    subst (λ (h : FeedState). IsSlotOf nodes after (gone_on (record amended { feed = h }) dropped) (with_control n stamp control (with_next nodes after track))) (sym same)
    (goes_on nodes after amended (with_next nodes after track)
    (record { receiver = but.receiver; paths = but.paths; sendable = but.sendable; feed = but.feed; frozen = but.frozen; plain = but.plain; apart = but.apart; current = but.current })
    g (restarts track.feed control) dropped on.goes
    (record {
      fits = ap (filter_fits nodes) said ∙ fits;
      lives = λ _. record { terms = terms; live = ap (λ (k : ℕ). live_at k after.registry.live) id ∙ live_after; filter = said };
      ended = λ owed. absurd (true≢false (sym owed ∙ ends));
    })
    (λ moved. drops ∙ ap (λ (h : FeedState). not (resyncs h.trigger)) same ∙ on.drops moved)
    (λ stayed read. absurd (on.unread stayed read.unowed)))

-- one that ends
pub ends_so : (nodes : List SchemaNode) (before after : JournalState) (slot : Slot) (track : Track) (f : FeedState) (n stamp : ℕ) (dropped : Bool) → after.receivers ≡ before.receivers → IsSlotOf nodes before slot track
    → HasEnded after slot.feed.sub → f ≡ controlled slot.feed End n stamp
    → IsSlotOf nodes after (gone_on (record slot { feed = f }) dropped) (with_control n stamp End (with_next nodes after track))
ends_so nodes before after slot track f n stamp dropped receivers stands ended is =
    let g = ending track.feed in
    let same : f ≡ g = is ∙ ap ending stands.feed in
    let but = next_but nodes before after slot track receivers stands in
    subst (λ (h : FeedState). IsSlotOf nodes after (gone_on (record slot { feed = h }) dropped) (with_control n stamp End (with_next nodes after track))) (sym same)
    (goes_on nodes after slot (with_next nodes after track) but g false dropped (ending_on track.feed)
    (record {
      fits = stands.kept.terms.fits;
      lives = λ owed. absurd (true≢false owed);
      ended = λ _. subst (HasEnded after) (ap (λ (h : FeedState). h.sub) stands.feed) ended;
    })
    (λ moved. absurd (true≢false (sym moved)))
    (λ _ read. absurd (true≢false read.unowed)))

-- ---- entries

-- each command leaves the receivers
pub same_receivers : (nodes : List SchemaNode) (before : JournalState) (command : Command) → (next_state nodes before command).receivers ≡ before.receivers
same_receivers nodes before (Tick tick) = refl
same_receivers nodes before (Edit patch) = refl
same_receivers nodes before (Policies policy) = refl
same_receivers nodes before (Establish by ask) = refl
same_receivers nodes before (commands.Modify by id amend) = refl
same_receivers nodes before (commands.Delete by id) = refl
same_receivers nodes before (commands.Kill by id) = refl
same_receivers nodes before (commands.Resync by id) = refl
same_receivers nodes before (commands.Configure id names ask) = refl
same_receivers nodes before (commands.Reconfigure id amend) = refl
same_receivers nodes before (commands.Unconfigure id) = refl
same_receivers nodes before (Take receiver count) = refl

pub receivers_after : (nodes : List SchemaNode) (before after : JournalState) (command : Command) → after ≡ next_state nodes before command → after.receivers ≡ before.receivers
receivers_after nodes before after command is = ap (λ (s : JournalState). s.receivers) is ∙ same_receivers nodes before command

-- where the registry stays, so does each subscription
pub comes_after : (before after : JournalState) → after.receivers ≡ before.receivers → after.registry ≡ before.registry → ComesAfter before after
comes_after before after receivers registry = record {
  receivers = receivers;
  stays = λ id. record {
    live = λ terms live. ap (λ (r : Subscriptions). live_at id r.live) registry ∙ live;
    ended = λ ended. record { given = ap (was_given id) registry ∙ ended.given; gone = ap (λ (r : Subscriptions). live_at id r.live) registry ∙ ended.gone };
  };
}

-- the law of rules that is rested on
pub record SameRulesAreOne : Type 0 where
  pub one : (a b : UserRules) → are_same_rules a b ≡ true → a ≡ b
  pub itself : (a : UserRules) → are_same_rules a a ≡ true

module _ (laws : SameRulesAreOne) (nodes : List SchemaNode) (before after : JournalState) (entry : Entry) (slot : Slot) (track : Track) where
  ruled_as : Bool → Track
  ruled_as b = if b then with_control after.position after.stamp Rules track else track

  -- rules that stay have no part
  pub unruled : rules_at after track.feed.receiver ≡ rules_at before track.feed.receiver → IsSlotOf nodes after slot track → IsSlotOf nodes after slot (after_rules after.position (moment_between nodes before entry after) track)
  unfolding ruled_as
  unruled same is =
      let none : not (are_same_rules (rules_at before track.feed.receiver) (rules_at after track.feed.receiver)) ≡ false = ap not (ap (are_same_rules (rules_at before track.feed.receiver)) same ∙ laws.itself (rules_at before track.feed.receiver)) in
      subst (λ (t : Track). IsSlotOf nodes after slot t) (sym (ap ruled_as none)) is

  -- other rules begin anew
  pub ruled : are_same_rules (rules_at before track.feed.receiver) (rules_at after track.feed.receiver) ≡ false → IsSlotOf nodes after slot (with_control after.position after.stamp Rules track)
      → IsSlotOf nodes after slot (after_rules after.position (moment_between nodes before entry after) track)
  unfolding ruled_as
  ruled other is = subst (λ (t : Track). IsSlotOf nodes after slot t) (sym (ap ruled_as (ap not other))) is

-- an entry that does nothing to subscriptions makes of a track what the change of rules makes of it
pub quietly_entered : (e : Entered) (before : JournalState) (track : Track) → (entered_moment e before).act ≡ Quiet
    → after_rules e.present.state.now.position (entered_moment e before) (with_next e.present.schema.now e.present.state.now track) ≡ entered_track e before track
quietly_entered e before track quiet = ap (λ (act : Act). after_rules e.present.state.now.position (entered_moment e before) (after_act e.present.state.now.position e.present.state.now.stamp act (with_next e.present.schema.now e.present.state.now track))) (sym quiet)

pub quiet_by_patch : (e : Entered) (before : JournalState) → IsEnteredByPatch e before → (entered_moment e before).act ≡ Quiet
quiet_by_patch e before by = ap (λ (command : Command). act_of command e.entry.now.reply e.present.state.now) by.command

pub quiet_by_rules : (e : Entered) (before : JournalState) → IsEnteredByRules e before → (entered_moment e before).act ≡ Quiet
quiet_by_rules e before by = ap (λ (command : Command). act_of command e.entry.now.reply e.present.state.now) by.command

-- a slot with what is selected after an entry that does nothing to subscriptions, where users read alike
pub entered_so : SameRulesAreOne → (e : Entered) (before : JournalState) (slot : Slot) (track : Track) → (entered_moment e before).act ≡ Quiet → rules_at e.present.state.now track.feed.receiver ≡ rules_at before track.feed.receiver
    → IsSlotOf e.present.schema.now e.present.state.now slot (with_next e.present.schema.now e.present.state.now track) → IsSlotOf e.present.schema.now e.present.state.now slot (entered_track e before track)
entered_so laws e before slot track quiet rules is =
    subst (λ (t : Track). IsSlotOf e.present.schema.now e.present.state.now slot t) (quietly_entered e before track quiet)
    (unruled laws e.present.schema.now before e.present.state.now e.entry.now slot (with_next e.present.schema.now e.present.state.now track) rules is)

-- an act that does nothing to a track
acts_not : (e : Entered) (before : JournalState) (act : Act) (track : Track) → touches act track.feed.sub ≡ false → after_act e.present.state.now.position e.present.state.now.stamp act track ≡ track
acts_not e before Quiet track none = refl
acts_not e before (Starts sub trigger configured names) track none = refl
acts_not e before (Controls sub control) track none = ap (λ (b : Bool). if b then with_control e.present.state.now.position e.present.state.now.stamp control track else track) none
acts_not e before (Drops sub) track none = refl

-- an entry that leaves the rows and the rules leaves a slot that it isn't about
pub passes_quietly : SameRulesAreOne → RootsAreOfTheWindow → (e : Entered) (before : JournalState) (slot : Slot) (track : Track) → LeavesSelections e before → touches (entered_moment e before).act slot.feed.sub ≡ false → StaysAsItIs before e.present.state.now slot.feed.sub
    → IsSlotOf e.present.schema.now before slot track → IsSlotOf e.present.schema.now e.present.state.now slot (entered_track e before track)
passes_quietly laws windows e before slot track leaves none lasts stands =
    let nodes = e.present.schema.now in
    let after : JournalState = e.present.state.now in
    let entered = leaves.entered in
    let receivers = receivers_after nodes before after e.entry.now.command entered.after in
    let rules = leaves.rules track.feed.receiver in
    unruled laws nodes before after e.entry.now slot (after_act after.position after.stamp (entered_moment e before).act (with_next nodes after track))
    (subst (λ (t : Track). rules_at after t.feed.receiver ≡ rules_at before t.feed.receiver) (sym (quiet none stands)) rules)
    (subst (λ (t : Track). IsSlotOf nodes after slot t) (sym (quiet none stands)) (stays nodes before after slot track receivers lasts stands windows (same_selected nodes before after slot track receivers lasts stands leaves.rows rules)))
  where
    quiet : touches (entered_moment e before).act slot.feed.sub ≡ false → IsSlotOf e.present.schema.now before slot track
        → after_act e.present.state.now.position e.present.state.now.stamp (entered_moment e before).act (with_next e.present.schema.now e.present.state.now track) ≡ with_next e.present.schema.now e.present.state.now track
    quiet none stands = acts_not e before (entered_moment e before).act (with_next e.present.schema.now e.present.state.now track) (ap (λ (f : FeedState). touches (entered_moment e before).act f.sub) (sym stands.feed) ∙ none)

-- a patch, accepted or refused, is one
pub patch_of : (nodes : List SchemaNode) (before after : JournalState) (command : Command) (patch : Patch) (those : List ChangedRow) → after ≡ next_state nodes before command → command ≡ Edit patch → IsDatastore nodes before.rows → those ≡ changed_rows before.rows after.rows → IsPatchOf nodes before after those
patch_of nodes before after command patch those is by datastore changed =
    let left : after ≡ next_state nodes before (Edit patch) = is ∙ ap (next_state nodes before) by in
    record {
      comes = comes_after before after (ap (λ (s : JournalState). s.receivers) left) (ap (λ (s : JournalState). s.registry) left);
      datastore = datastore;
      rules = λ number. ap (λ (s : JournalState). rules_at s number) (sym left);
      changed = changed;
    }

-- and so is one that was entered
pub patch_entered : (e : Entered) (before : JournalState) → IsEnteredByPatch e before → IsPatchOf e.present.schema.now before e.present.state.now e.changed.now
patch_entered e before by = patch_of e.present.schema.now before e.present.state.now e.entry.now.command by.patch e.changed.now by.entered.after by.command by.entered.datastore by.entered.changed

-- an entry by which something happens to its feed
pub entered_acting : SameRulesAreOne → (e : Entered) (before : JournalState) (slot : Slot) (track : Track) (sub : ℕ) (control : Control) → LeavesSelections e before → (entered_moment e before).act ≡ Controls sub control → sub ≡ track.feed.sub
    → IsSlotOf e.present.schema.now e.present.state.now slot (with_control e.present.state.now.position e.present.state.now.stamp control (with_next e.present.schema.now e.present.state.now track))
    → IsSlotOf e.present.schema.now e.present.state.now slot (entered_track e before track)
entered_acting laws e before slot track sub control leaves acts same is =
    let nodes = e.present.schema.now in
    let after : JournalState = e.present.state.now in
    let next : Track = with_next nodes after track in
    let acted : Track = after_act after.position after.stamp (entered_moment e before).act next in
    let here : acted ≡ with_control after.position after.stamp control next =
    ap (λ (act : Act). after_act after.position after.stamp act next) acts ∙ ap (λ (b : Bool). if b then with_control after.position after.stamp control next else next) (eq-eqb track.feed.sub sub (sym same)) in
    unruled laws nodes before after e.entry.now slot acted
    (subst (λ (k : ℕ). rules_at after k ≡ rules_at before k) (sym (act_same after.position after.stamp (entered_moment e before).act next).1) (leaves.rules track.feed.receiver))
    (subst (λ (t : Track). IsSlotOf nodes after slot t) (sym here) is)
