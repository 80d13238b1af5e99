-- The entries of a legal journal may come one after another: stamps don't fall, and no id is given twice. So a subscription goes by the trigger that was asked for.
use Rattle.std.proofs.Common.{◌≡◌, ℕ, ◌==◌, ◌≤◌, refl, sym, ap, subst, ◌∙◌, Bool, true, false, true≢false, List, [], ◌∷◌, ◌++◌, Option, Some, None, Result, Ok, Err, arith}
use Rattle.std.specs.Prelude.{if◌then◌else◌}
use Rattle.std.specs.List.{list_any}
use Rattle.std.proofs.lemmas.Bool.{eqb-true, false_from_ne_true}
use Rattle.yp_base.specs.declared.notice.Trigger.{Trigger}
use Rattle.yp_base.specs.declared.notice.Trigger.TheVariants.{Periodic, OnChange}
use Rattle.yp_schema.specs.declared.schema.SchemaNode.{SchemaNode}
use Rattle.yp_schema.specs.WellFormed.{IsSchema}
use Rattle.yp_terms.specs.declared.ask.Ask.{Ask}
use Rattle.yp_terms.specs.declared.refused.Refused.{Refused}
use Rattle.yp_registry.specs.Ids.{HasRisingIds}
use Rattle.yp_registry.specs.Configuring.{configure_answer, numbers_named}
use Rattle.yp_registry.specs.Registry.{Subscriptions, live_at, establish_answer}
use Rattle.yp_terms.specs.Terms.{Terms, with_anchor}
use Rattle.yp_feed.specs.Machine.{is_mirrored, resyncs}
use Rattle.yp_journal.specs.declared.command.Command.{Command}
use Rattle.yp_journal.specs.declared.command.Command.TheVariants.{Tick, Edit, Rules, Establish, Modify, Delete, Kill, Resync, Configure, Reconfigure, Unconfigure, Take}
use Rattle.yp_journal.specs.declared.entry.Entry.{Entry}
use Rattle.yp_journal.specs.declared.receiver.ReceiverInfo.{ReceiverInfo}
use Rattle.yp_journal.specs.declared.reply.Reply.{Reply}
use Rattle.yp_journal.specs.declared.reply.Reply.TheVariants.{Done, Id, Registry, Edit as EditRefused}
use Rattle.yp_journal.specs.History.{JournalState, first_state, reply_by, call_reply, after_establish, next_state, reply_to, state_of, MayFollow as EntryMayFollow, IsLegal}
use Rattle.yp_journal.specs.JournalLaws.{entries_more, legal_at}
use Rattle.yp_attempt.specs.Moments.{Moment, Act, Quiet, Starts, Controls, Drops, last_stamp, starts_sub, was_started, IsUnused, MayFollow, AllMayFollow}
use Rattle.yp_mirror.specs.Stories.{StartsAs, IsStory, Story, story_of}
use Rattle.yp_moment.specs.Entries.{Grants, by_receiver, by_configuration, given_by, goes_on_with, where_done, act_of, moment_of, moments_from, moments_of}
use Rattle.yp_moment.specs.Ids.{was_given}
use Rattle.yp_moment.proofs.Doing.{ConfigureLaws, EstablishLaws, act_asked, act_configured}
use Rattle.yp_moment.proofs.Ids.{IsNew}
use Rattle.yp_moment.proofs.Telling.{moments_split}

-- the laws that are rested on: what starts has a new id, and what was given stays so; the ids of live subscriptions rise throughout a journal
pub record StartLaws : Type 0 where
  pub establish : EstablishLaws
  pub configure : ConfigureLaws
  pub stays : (nodes : List SchemaNode) (state : JournalState) (command : Command) (id : ℕ) → was_given id state.registry ≡ true → was_given id (next_state nodes state command).registry ≡ true
  pub established_new : (nodes : List SchemaNode) (state : JournalState) (by : ℕ) (ask : Ask) (id : ℕ) → reply_to nodes state (Establish by ask) ≡ Id id → IsNew state.registry (next_state nodes state (Establish by ask)).registry id
  pub configured_new : (nodes : List SchemaNode) (state : JournalState) (id : ℕ) (receivers : List (List ℕ)) (ask : Ask) → reply_to nodes state (Configure id receivers ask) ≡ Done
      → IsNew state.registry (next_state nodes state (Configure id receivers ask)).registry id
  pub ids : (nodes : List SchemaNode) (receivers : List ReceiverInfo) (entries : List Entry) → HasRisingIds (state_of nodes (first_state receivers) entries).registry

-- ---- what one entry does

-- where an act starts a subscription, its id is new
abbrev StartsNew : Subscriptions → Subscriptions → Act → Type 0
StartsNew before after Quiet = Unit {0}
StartsNew before after (Starts sub trigger configured names) = IsNew before after sub
StartsNew before after (Controls sub control) = Unit {0}
StartsNew before after (Drops sub) = Unit {0}

goes_on_new : (before after : Subscriptions) (id : ℕ) (told : Bool) (found : Option Terms) → StartsNew before after (goes_on_with id told found)
goes_on_new before after id told None = tt
goes_on_new before after id told (Some terms) = tt

where_new : (before after : Subscriptions) (reply : Reply) (act : Act) → StartsNew before after act → StartsNew before after (where_done reply act)
where_new before after Done act new = new
where_new before after (Id id) act new = tt
where_new before after (Registry refusal) act new = tt
where_new before after (EditRefused edit_id tag path) act new = tt

module _ (laws : StartLaws) (nodes : List SchemaNode) (state : JournalState) (ids : HasRisingIds state.registry) where
  -- so it is with what an establishment is given
  established_starts : (by : ℕ) (ask : Ask) (answer : Result ℕ Refused) → establish_answer nodes state.policy state.registry by ask state.stamp ≡ answer
      → StartsNew state.registry (after_establish nodes state by ask).registry (given_by (reply_by answer) (after_establish nodes state by ask))
  established_starts by ask (Ok id) is =
      subst (StartsNew state.registry (after_establish nodes state by ask).registry) (sym (act_asked laws.establish nodes state (Establish by ask) (Id id) by id ask ids refl refl (sym (ap reply_by is))))
      (laws.established_new nodes state by ask id (ap reply_by is))
  established_starts by ask (Err refusal) is = tt

  -- and with what is configured
  configured_starts : (id : ℕ) (receivers : List (List ℕ)) (ask : Ask) (answer : Result Unit Refused) → configure_answer nodes state.registry id receivers ask ≡ answer
      → StartsNew state.registry (next_state nodes state (Configure id receivers ask)).registry (act_of (Configure id receivers ask) (call_reply answer) (next_state nodes state (Configure id receivers ask)))
  configured_starts id receivers ask (Ok done) is =
      subst (StartsNew state.registry (next_state nodes state (Configure id receivers ask)).registry)
      (sym (act_configured laws.configure nodes state (Configure id receivers ask) Done id receivers ask ids refl refl (sym (ap call_reply is))))
      (laws.configured_new nodes state id receivers ask (ap call_reply is))
  configured_starts id receivers ask (Err refusal) is = tt

  -- and with what each command does by the reply to it
  starts_new : (command : Command) (reply : Reply) → reply ≡ reply_to nodes state command → StartsNew state.registry (next_state nodes state command).registry (act_of command reply (next_state nodes state command))
  starts_new (Tick tick) reply is = tt
  starts_new (Edit patch) reply is = tt
  starts_new (Rules policy) reply is = tt
  starts_new (Take receiver count) reply is = tt
  starts_new (Establish by ask) reply is =
      let after : JournalState = after_establish nodes state by ask in
      subst (λ (r : Reply). StartsNew state.registry after.registry (given_by r after)) (sym is) (established_starts by ask (establish_answer nodes state.policy state.registry by ask state.stamp) refl)
  starts_new (Modify by id amend) reply is =
      let after : JournalState = next_state nodes state (Modify by id amend) in
      where_new state.registry after.registry reply (goes_on_with id false (live_at id after.registry.live)) (goes_on_new state.registry after.registry id false (live_at id after.registry.live))
  starts_new (Delete by id) reply is = where_new state.registry (next_state nodes state (Delete by id)).registry reply (act_of (Delete by id) Done state) tt
  starts_new (Kill by id) reply is = where_new state.registry (next_state nodes state (Kill by id)).registry reply (act_of (Kill by id) Done state) tt
  starts_new (Resync by id) reply is = where_new state.registry (next_state nodes state (Resync by id)).registry reply (act_of (Resync by id) Done state) tt
  starts_new (Configure id receivers ask) reply is =
      let after : JournalState = next_state nodes state (Configure id receivers ask) in
      subst (λ (r : Reply). StartsNew state.registry after.registry (act_of (Configure id receivers ask) r after)) (sym is) (configured_starts id receivers ask (configure_answer nodes state.registry id receivers ask) refl)
  starts_new (Reconfigure id amend) reply is =
      let after : JournalState = next_state nodes state (Reconfigure id amend) in
      where_new state.registry after.registry reply (goes_on_with id true (live_at id after.registry.live)) (goes_on_new state.registry after.registry id true (live_at id after.registry.live))
  starts_new (Unconfigure id) reply is = where_new state.registry (next_state nodes state (Unconfigure id)).registry reply (act_of (Unconfigure id) Done state) tt

stamp_rises : (nodes : List SchemaNode) (state : JournalState) (command : Command) → state.stamp ≤ (next_state nodes state command).stamp
stamp_rises nodes state (Tick tick) = omega arith
stamp_rises nodes state (Edit patch) = omega arith
stamp_rises nodes state (Rules policy) = omega arith
stamp_rises nodes state (Establish by ask) = omega arith
stamp_rises nodes state (Modify by id amend) = omega arith
stamp_rises nodes state (Delete by id) = omega arith
stamp_rises nodes state (Kill by id) = omega arith
stamp_rises nodes state (Resync by id) = omega arith
stamp_rises nodes state (Configure id receivers ask) = omega arith
stamp_rises nodes state (Reconfigure id amend) = omega arith
stamp_rises nodes state (Unconfigure id) = omega arith
stamp_rises nodes state (Take receiver count) = omega arith

-- ---- what entries did

-- a new id was given to none by the entries so far
unused_new : (past : List Moment) (before after : Subscriptions) (act : Act) → StartsNew before after act → ((sub : ℕ) → was_given sub before ≡ false → was_started past sub ≡ false) → IsUnused past act
unused_new past before after Quiet new unused = tt
unused_new past before after (Starts sub trigger configured names) new unused = unused sub new.0
unused_new past before after (Controls sub control) new unused = tt
unused_new past before after (Drops sub) new unused = tt

-- what was given to none after an entry, the entry doesn't start
apart : (after : Subscriptions) (sub other : ℕ) → was_given other after ≡ true → was_given sub after ≡ false → (sub == other) ≡ false
apart after sub other given none =
    false_from_ne_true (sub == other) (λ same. true≢false (sym given ∙ ap (λ (id : ℕ). was_given id after) (sym (eqb-true sub other same)) ∙ none))

starts_other : (before after : Subscriptions) (act : Act) → StartsNew before after act → (sub : ℕ) → was_given sub after ≡ false → starts_sub act sub ≡ false
starts_other before after Quiet new sub none = refl
starts_other before after (Starts other trigger configured names) new sub none = apart after sub other new.1 none
starts_other before after (Controls other control) new sub none = refl
starts_other before after (Drops other) new sub none = refl

-- what neither entries started nor one more starts isn't started by all of them
not_started : (past : List Moment) (m : Moment) (sub : ℕ) → was_started past sub ≡ false → starts_sub m.act sub ≡ false → was_started (past ++ m ∷ []) sub ≡ false
not_started [] m sub none other = ap (λ (b : Bool). if b then true else false) other
not_started (x ∷ past) m sub none other =
    elim (starts_sub x.act sub) as (λ (b : Bool). (if b then true else was_started past sub) ≡ false → (if b then true else was_started (past ++ m ∷ []) sub) ≡ false) [
      | true ↦ λ no_way. no_way
      | false ↦ λ rest. not_started past m sub rest other
    ] none

-- the last stamp of entries after others
stamp_on : (stamp : ℕ) (past more : List Moment) → last_stamp stamp (past ++ more) ≡ last_stamp (last_stamp stamp past) more
stamp_on stamp [] more = refl
stamp_on stamp (x ∷ past) more = stamp_on x.stamp past more

-- entries lead to a state: the last stamp is its stamp, and they started only what was given
record LeadTo (past : List Moment) (state : JournalState) : Type 0 where
  pub stamp : last_stamp 0 past ≡ state.stamp
  pub unused : (sub : ℕ) → was_given sub state.registry ≡ false → was_started past sub ≡ false

module _ (laws : StartLaws) (nodes : List SchemaNode) where
  module _ (past : List Moment) (state : JournalState) (ids : HasRisingIds state.registry) (entry : Entry) (may : EntryMayFollow nodes state entry) (lead : LeadTo past state) where
    abbrev next : JournalState
    next = next_state nodes state entry.command

    new : StartsNew state.registry next.registry (moment_of nodes state entry).act
    new = starts_new laws nodes state ids entry.command entry.reply may.reply

    not_before : (sub : ℕ) → was_given sub next.registry ≡ false → was_given sub state.registry ≡ false
    not_before sub none = false_from_ne_true (was_given sub state.registry) (λ given. true≢false (sym (laws.stays nodes state entry.command sub given) ∙ none))

    leads_on : LeadTo (past ++ moment_of nodes state entry ∷ []) next
    leads_on = record {
      stamp = stamp_on 0 past (moment_of nodes state entry ∷ []);
      unused = λ sub none. not_started past (moment_of nodes state entry) sub (lead.unused sub (not_before sub none)) (starts_other state.registry next.registry (moment_of nodes state entry).act new sub none);
    }

    may_follow : MayFollow past (moment_of nodes state entry)
    may_follow = record {
      stamp = omega (arith, lead.stamp, stamp_rises nodes state entry.command);
      unused = unused_new past state.registry next.registry (moment_of nodes state entry).act new lead.unused;
    }

  all_follow : (receivers : List ReceiverInfo) (before entries : List Entry) (past : List Moment) → IsLegal nodes (state_of nodes (first_state receivers) before) entries → LeadTo past (state_of nodes (first_state receivers) before)
      → AllMayFollow past (moments_from nodes (state_of nodes (first_state receivers) before) entries)
  all_follow receivers before [] past legal lead = tt
  all_follow receivers before (entry ∷ entries) past legal lead =
      let state : JournalState = state_of nodes (first_state receivers) before in
      let ids : HasRisingIds state.registry = laws.ids nodes receivers before in
      let more : state_of nodes (first_state receivers) (before ++ entry ∷ []) ≡ next_state nodes state entry.command = entries_more nodes (first_state receivers) before entry in
      let rest = all_follow receivers (before ++ entry ∷ []) entries (past ++ moment_of nodes state entry ∷ []) in (
        may_follow past state ids entry legal.0 lead,
        subst (λ (s : JournalState). IsLegal nodes s entries → LeadTo (past ++ moment_of nodes state entry ∷ []) s → AllMayFollow (past ++ moment_of nodes state entry ∷ []) (moments_from nodes s entries)) more rest legal.1 (leads_on past state ids entry legal.0 lead),
      )

  -- the entries of a legal journal may come one after another
  pub journal_follows : (receivers : List ReceiverInfo) (entries : List Entry) → IsLegal nodes (first_state receivers) entries → AllMayFollow [] (moments_of nodes receivers entries)
  journal_follows receivers entries legal = all_follow receivers [] entries [] legal (record { stamp = refl; unused = λ sub none. refl })

-- each moment has the stamp of its entry
pub stamped : (nodes : List SchemaNode) (receivers : List ReceiverInfo) (entries : List Entry) → IsLegal nodes (first_state receivers) entries
    → (before : List Entry) (entry : Entry) (after : List Entry) → entries ≡ before ++ entry ∷ after → (moment_of nodes (state_of nodes (first_state receivers) before) entry).stamp ≡ entry.stamp
stamped nodes receivers entries legal before entry after is = sym (legal_at nodes (first_state receivers) before entry after (subst (λ (es : List Entry). IsLegal nodes (first_state receivers) es) is legal)).stamp

-- the reply to an entry of a legal journal
pub replied : (nodes : List SchemaNode) (receivers : List ReceiverInfo) (entries : List Entry) → IsLegal nodes (first_state receivers) entries
    → (before : List Entry) (entry : Entry) (after : List Entry) → entries ≡ before ++ entry ∷ after → entry.reply ≡ reply_to nodes (state_of nodes (first_state receivers) before) entry.command
replied nodes receivers entries legal before entry after is = (legal_at nodes (first_state receivers) before entry after (subst (λ (es : List Entry). IsLegal nodes (first_state receivers) es) is legal)).reply

-- ---- the trigger with which a subscription starts

-- an anchor changes neither whether a copy is to be what is selected, nor whether a feed resynchronises
anchored_mirrored : (now : ℕ) (trigger : Trigger) → is_mirrored (with_anchor now trigger) ≡ is_mirrored trigger
anchored_mirrored now (Periodic period anchor) = refl
anchored_mirrored now (OnChange dampening sync excluded) = refl

anchored_resyncs : (now : ℕ) (trigger : Trigger) → resyncs (with_anchor now trigger) ≡ resyncs trigger
anchored_resyncs now (Periodic period anchor) = refl
anchored_resyncs now (OnChange dampening sync excluded) = refl

-- a subscription is mirrored and resynchronises by a trigger
abbrev GoesBy : Story → ℕ → Trigger → Type 0
GoesBy story id trigger = (story.mirrored id ≡ is_mirrored trigger) × (story.resyncing id ≡ resyncs trigger)

-- a subscription starts with the trigger that was asked for
abbrev StartsAsked : Act → ℕ → ℕ → Ask → Type 0
StartsAsked act now id ask = (configured : Bool) × (names : ℕ → Bool) × (act ≡ Starts id (with_anchor now ask.trigger) configured names)

goes_asked : (story : Story) (act : Act) (now id : ℕ) (ask : Ask) → StartsAsked act now id ask → StartsAs story act → GoesBy story id ask.trigger
goes_asked story act now id ask starts told =
    let goes : GoesBy story id (with_anchor now ask.trigger) = subst (StartsAs story) starts.2 told in
    (goes.0 ∙ anchored_mirrored now ask.trigger, goes.1 ∙ anchored_resyncs now ask.trigger)

-- the laws that are rested on: how what a journal grants starts, that its entries may come one after another, and that a journal tells its story
pub record GrantLaws : Type 0 where
  pub establish : (nodes : List SchemaNode) (receivers : List ReceiverInfo) (entries : List Entry) → IsSchema nodes → IsLegal nodes (first_state receivers) entries
      → (before : List Entry) (entry : Entry) (after : List Entry) (by id : ℕ) (ask : Ask) → entries ≡ before ++ entry ∷ after → entry.command ≡ Establish by ask → entry.reply ≡ Id id
      → (moment_of nodes (state_of nodes (first_state receivers) before) entry).act ≡ Starts id (with_anchor (state_of nodes (first_state receivers) before).stamp ask.trigger) false (λ receiver. list_any (λ other. other == receiver) (by ∷ []))
  pub configure : (nodes : List SchemaNode) (receivers : List ReceiverInfo) (entries : List Entry) → IsSchema nodes → IsLegal nodes (first_state receivers) entries
      → (before : List Entry) (entry : Entry) (after : List Entry) (id : ℕ) (names : List (List ℕ)) (ask : Ask) → entries ≡ before ++ entry ∷ after → entry.command ≡ Configure id names ask → entry.reply ≡ Done
      → (moment_of nodes (state_of nodes (first_state receivers) before) entry).act
      ≡ Starts id (with_anchor (state_of nodes (first_state receivers) before).stamp ask.trigger) true (λ receiver. list_any (λ other. other == receiver) (numbers_named (state_of nodes (first_state receivers) before).registry names))
  pub may : (nodes : List SchemaNode) (receivers : List ReceiverInfo) (entries : List Entry) → IsSchema nodes → IsLegal nodes (first_state receivers) entries → AllMayFollow [] (moments_of nodes receivers entries)
  pub tells : (journal : List Moment) (receiver : ℕ) → AllMayFollow [] journal → IsStory (story_of journal receiver) receiver journal

module _ (laws : GrantLaws) (nodes : List SchemaNode) (receivers : List ReceiverInfo) (entries : List Entry) (schema : IsSchema nodes) (legal : IsLegal nodes (first_state receivers) entries)
    (before : List Entry) (entry : Entry) (after : List Entry) (id : ℕ) (ask : Ask) (is : entries ≡ before ++ entry ∷ after) where
  abbrev state : JournalState
  state = state_of nodes (first_state receivers) before

  granted_starts : Grants entry id ask → StartsAsked (moment_of nodes state entry).act state.stamp id ask
  granted_starts (by_receiver by asked given) = (false, _, laws.establish nodes receivers entries schema legal before entry after by id ask is asked given)
  granted_starts (by_configuration names asked given) = (true, _, laws.configure nodes receivers entries schema legal before entry after id names ask is asked given)

  -- a journal tells of each subscription that it goes by the trigger that was asked for
  pub goes_by : (receiver : ℕ) → Grants entry id ask → GoesBy (story_of (moments_of nodes receivers entries) receiver) id ask.trigger
  goes_by receiver grants =
      let parts : moments_from nodes (first_state receivers) before ++ moment_of nodes state entry ∷ moments_from nodes (next_state nodes state entry.command) after ≡ moments_of nodes receivers entries =
      sym (ap (moments_of nodes receivers) is ∙ moments_split nodes (first_state receivers) before (entry ∷ after)) in
      let told = laws.tells (moments_of nodes receivers entries) receiver (laws.may nodes receivers entries schema legal) (moments_from nodes (first_state receivers) before) (moment_of nodes state entry) (moments_from nodes (next_state nodes state entry.command) after) parts in
      goes_asked (story_of (moments_of nodes receivers entries) receiver) (moment_of nodes state entry).act state.stamp id ask (granted_starts grants) told.starts
