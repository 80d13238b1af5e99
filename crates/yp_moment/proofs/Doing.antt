-- What the entries of a journal do to subscriptions, by the answers of the registry.
use Rattle.std.proofs.Common.{◌≡◌, ℕ, ◌<◌, refl, sym, ap, ◌∙◌, Bool, true, false, List, [], ◌∷◌, Option, Some, None, Result, Ok, Err}
use Rattle.std.specs.Prelude.{IsSomeAnd, option_map, ◌==◌}
use Rattle.std.specs.List.{list_any}
use Rattle.yp_base.specs.declared.notice.Trigger.{Trigger}
use Rattle.yp_base.specs.declared.notice.Trigger.TheVariants.{Periodic, OnChange}
use Rattle.yp_schema.specs.declared.schema.SchemaNode.{SchemaNode}
use Rattle.yp_nacm.specs.declared.policy.Policy.{Policy}
use Rattle.yp_terms.specs.declared.ask.Amend.{Amend}
use Rattle.yp_terms.specs.declared.ask.Ask.{Ask}
use Rattle.yp_terms.specs.declared.refused.Refused.{Refused}
use Rattle.yp_terms.specs.Amends.{is_other_kind, amended_trigger, amended_terms}
use Rattle.yp_registry.specs.Amending.{changed_terms, modified_by, modify_answer, modify_reasons, reconfigure_answer, reconfigure_reasons, reconfigured, with_change}
use Rattle.yp_terms.specs.Terms.{is_established_by}
use Rattle.yp_registry.specs.Calls.{delete_answer, delete_reasons, done_unless, kill_answer, kill_reasons, left_unless, live_without, unconfigure_answer, unconfigure_reasons, with_end}
use Rattle.yp_registry.specs.Configuring.{configure_answer, configure_reasons, configured_terms, in_order, newly_configured, numbers_named, with_configured}
use Rattle.yp_registry.specs.Ids.{HasRisingIds}
use Rattle.yp_terms.specs.Refusals.{first_refusal}
use Rattle.yp_registry.specs.Registry.{Subscriptions, establish_answer, established, live_at, next_id, terms_for}
use Rattle.yp_terms.specs.Terms.{Terms, with_anchor}
use Rattle.yp_feed.specs.declared.item.Control.TheVariants as feeds
use Rattle.yp_feed.specs.Machine.{amended}
use Rattle.yp_journal.specs.declared.command.Command.{Command}
use Rattle.yp_journal.specs.declared.command.Command.TheVariants.{Tick, Edit, Rules, Establish, Modify, Delete, Kill, Resync, Configure, Reconfigure, Unconfigure, Take}
use Rattle.yp_journal.specs.declared.reply.Reply.{Reply}
use Rattle.yp_journal.specs.declared.reply.Reply.TheVariants.{Done, Id, Registry, Edit as EditRefused}
use Rattle.yp_journal.specs.History.{JournalState, reply_by, call_reply, next_state, reply_to, is_refusal}
use Rattle.yp_attempt.specs.Moments.{Act, Quiet, Starts, Controls}
use Rattle.yp_moment.specs.Entries.{selected_by, selected_at, starts_with, given_by, goes_on_with, where_done, act_of}

-- ---- replies

-- a reply with an id is the answer with this id
pub given_ok : (answer : Result ℕ Refused) (id : ℕ) → Id id ≡ reply_by answer → answer ≡ Ok id
given_ok (Ok other) id e = let same : other ≡ id = cc in ap (λ (n : ℕ). Ok n) same
given_ok (Err refusal) id e = let no_way : ⊥ = cc in absurd no_way

-- a call that gives nothing is done where its answer is so
pub done_ok : (answer : Result Unit Refused) → Done ≡ call_reply answer → answer ≡ Ok tt
done_ok (Ok done) e = refl
done_ok (Err refusal) e = let no_way : ⊥ = cc in absurd no_way

-- ---- refused commands

where_refused : (reply : Reply) (act : Act) → is_refusal reply ≡ true → where_done reply act ≡ Quiet
where_refused Done act refused = cc
where_refused (Id id) act refused = refl
where_refused (Registry refusal) act refused = refl
where_refused (EditRefused edit_id tag path) act refused = refl

given_refused : (reply : Reply) (after : JournalState) → is_refusal reply ≡ true → given_by reply after ≡ Quiet
given_refused Done after refused = refl
given_refused (Id id) after refused = cc
given_refused (Registry refusal) after refused = refl
given_refused (EditRefused edit_id tag path) after refused = refl

-- a refused command does nothing
pub refused_quiet : (command : Command) (reply : Reply) (after : JournalState) → is_refusal reply ≡ true → act_of command reply after ≡ Quiet
refused_quiet (Tick tick) reply after refused = refl
refused_quiet (Edit patch) reply after refused = refl
refused_quiet (Rules policy) reply after refused = refl
refused_quiet (Establish by ask) reply after refused = given_refused reply after refused
refused_quiet (Modify by id amend) reply after refused = where_refused reply (act_of (Modify by id amend) Done after) refused
refused_quiet (Delete by id) reply after refused = where_refused reply (act_of (Delete by id) Done after) refused
refused_quiet (Kill by id) reply after refused = where_refused reply (act_of (Kill by id) Done after) refused
refused_quiet (Resync by id) reply after refused = where_refused reply (act_of (Resync by id) Done after) refused
refused_quiet (Configure id receivers ask) reply after refused = where_refused reply (act_of (Configure id receivers ask) Done after) refused
refused_quiet (Reconfigure id amend) reply after refused = where_refused reply (act_of (Reconfigure id amend) Done after) refused
refused_quiet (Unconfigure id) reply after refused = where_refused reply (act_of (Unconfigure id) Done after) refused
refused_quiet (Take receiver count) reply after refused = refl

-- ---- establishments

-- the laws of the registry that are rested on
pub record EstablishLaws : Type 0 where
  pub next : (nodes : List SchemaNode) (policy : Policy) (registry : Subscriptions) (by : ℕ) (ask : Ask) (now id : ℕ) → establish_answer nodes policy registry by ask now ≡ Ok id
      → (id ≡ next_id registry.given) × (id < next_id (established nodes policy registry by ask now).given)
  pub found : (nodes : List SchemaNode) (policy : Policy) (registry : Subscriptions) (by : ℕ) (ask : Ask) (now id : ℕ) → HasRisingIds registry → establish_answer nodes policy registry by ask now ≡ Ok id
      → live_at id (established nodes policy registry by ask now).live ≡ Some (terms_for nodes registry by ask now)

-- an ask that is given an id starts the subscription of this id: with the trigger that was asked for, for the receiver that asked
pub act_asked : EstablishLaws → (nodes : List SchemaNode) (state : JournalState) (command : Command) (reply : Reply) (by id : ℕ) (ask : Ask) → HasRisingIds state.registry → command ≡ Establish by ask → reply ≡ Id id → reply ≡ reply_to nodes state command
    → act_of command reply (next_state nodes state command) ≡ Starts id (with_anchor state.stamp ask.trigger) false (λ receiver. list_any (λ other. other == receiver) (by ∷ []))
act_asked laws nodes state command reply by id ask ids asked given is =
    let answer : Result ℕ Refused = establish_answer nodes state.policy state.registry by ask state.stamp in
    let ok : answer ≡ Ok id = given_ok answer id (sym given ∙ is ∙ ap (reply_to nodes state) asked) in
    let next = laws.next nodes state.policy state.registry by ask state.stamp id ok in
    (λ i. act_of (asked i) (given i) (next_state nodes state (asked i)))
    ∙ ap starts_with (laws.found nodes state.policy state.registry by ask state.stamp id ids ok)
    ∙ (λ i. Starts (sym next.0 i) (with_anchor state.stamp ask.trigger) false (λ receiver. list_any (λ other. other == receiver) (by ∷ [])))

-- ---- configured subscriptions

pub record ConfigureLaws : Type 0 where
  pub done : (refusal : Option Refused) (before after : Subscriptions) → done_unless refusal ≡ Ok tt → left_unless refusal before after ≡ after
  pub fresh : (nodes : List SchemaNode) (registry : Subscriptions) (id : ℕ) (receivers : List (List ℕ)) (ask : Ask) → HasRisingIds registry → configure_answer nodes registry id receivers ask ≡ Ok tt → live_at id registry.live ≡ None
  pub found : (new : Terms) (live : List Terms) → live_at new.id live ≡ None → live_at new.id (in_order new live) ≡ Some new

-- a subscription that is configured starts with the trigger that was asked for, for the receivers that were named
pub act_configured : ConfigureLaws → (nodes : List SchemaNode) (state : JournalState) (command : Command) (reply : Reply) (id : ℕ) (receivers : List (List ℕ)) (ask : Ask) → HasRisingIds state.registry → command ≡ Configure id receivers ask → reply ≡ Done → reply ≡ reply_to nodes state command
    → act_of command reply (next_state nodes state command) ≡ Starts id (with_anchor state.stamp ask.trigger) true (λ receiver. list_any (λ other. other == receiver) (numbers_named state.registry receivers))
act_configured laws nodes state command reply id receivers ask ids asked given is =
    let answer : Result Unit Refused = configure_answer nodes state.registry id receivers ask in
    let ok : answer ≡ Ok tt = done_ok answer (sym given ∙ is ∙ ap (reply_to nodes state) asked) in
    let new : Terms = configured_terms nodes state.registry id receivers ask state.stamp in
    let left : newly_configured nodes state.registry id receivers ask state.stamp ≡ with_configured state.registry new = laws.done (first_refusal (configure_reasons nodes state.registry id receivers ask)) state.registry (with_configured state.registry new) ok in
    (λ i. act_of (asked i) (given i) (next_state nodes state (asked i)))
    ∙ ap (λ (r : Subscriptions). starts_with (live_at id r.live)) left
    ∙ ap starts_with (laws.found new state.registry.live (laws.fresh nodes state.registry id receivers ask ids ok))

-- ---- amendments

pub record AmendLaws : Type 0 where
  pub done : (refusal : Option Refused) (before after : Subscriptions) → done_unless refusal ≡ Ok tt → left_unless refusal before after ≡ after
  pub modified : (nodes : List SchemaNode) (policy : Policy) (registry : Subscriptions) (by id : ℕ) (amend : Amend) → modify_answer nodes policy registry by id amend ≡ Ok tt
      → IsSomeAnd (live_at id registry.live) (λ terms. (is_established_by by terms ≡ true) × (is_other_kind amend.trigger (Some terms) ≡ false))
  pub reconfigured : (nodes : List SchemaNode) (registry : Subscriptions) (id : ℕ) (amend : Amend) → reconfigure_answer nodes registry id amend ≡ Ok tt
      → IsSomeAnd (live_at id registry.live) (λ terms. (terms.configured ≡ true) × (is_other_kind amend.trigger (Some terms) ≡ false))
  pub found : (nodes : List SchemaNode) (amend : Amend) (now id : ℕ) (live : List Terms) → live_at id (changed_terms id (amended_terms nodes amend now) live) ≡ option_map (amended_terms nodes amend now) (live_at id live)

-- the subscription that was found goes on by its amended terms
amended_found : (nodes : List SchemaNode) (amend : Amend) (now id : ℕ) (told : Bool) (P : Terms → Type 0) (found : Option Terms) (act : Act) → IsSomeAnd found P → act ≡ goes_on_with id told (option_map (amended_terms nodes amend now) found)
    → IsSomeAnd found (λ terms. act ≡ Controls id (feeds.Modify (amended_trigger now amend.trigger terms.trigger) told))
amended_found nodes amend now id told P None act there is = there
amended_found nodes amend now id told P (Some terms) act there is = is

pub act_modified : AmendLaws → (nodes : List SchemaNode) (state : JournalState) (command : Command) (reply : Reply) (by id : ℕ) (amend : Amend) → command ≡ Modify by id amend → reply ≡ Done → reply ≡ reply_to nodes state command
    → IsSomeAnd (live_at id state.registry.live) (λ terms. act_of command reply (next_state nodes state command) ≡ Controls id (feeds.Modify (amended_trigger state.stamp amend.trigger terms.trigger) false))
act_modified laws nodes state command reply by id amend asked given is =
    let ok : modify_answer nodes state.policy state.registry by id amend ≡ Ok tt = done_ok (modify_answer nodes state.policy state.registry by id amend) (sym given ∙ is ∙ ap (reply_to nodes state) asked) in
    let changed : Subscriptions = with_change id (amended_terms nodes amend state.stamp) state.registry in
    let left : modified_by nodes state.policy state.registry by id amend state.stamp ≡ changed = laws.done (first_refusal (modify_reasons nodes state.policy state.registry by id amend)) state.registry changed ok in
    amended_found nodes amend state.stamp id false (λ terms. (is_established_by by terms ≡ true) × (is_other_kind amend.trigger (Some terms) ≡ false)) (live_at id state.registry.live)
    (act_of command reply (next_state nodes state command)) (laws.modified nodes state.policy state.registry by id amend ok)
    ((λ i. act_of (asked i) (given i) (next_state nodes state (asked i)))
    ∙ ap (λ (r : Subscriptions). goes_on_with id false (live_at id r.live)) left
    ∙ ap (goes_on_with id false) (laws.found nodes amend state.stamp id state.registry.live))

pub act_reconfigured : AmendLaws → (nodes : List SchemaNode) (state : JournalState) (command : Command) (reply : Reply) (id : ℕ) (amend : Amend) → command ≡ Reconfigure id amend → reply ≡ Done → reply ≡ reply_to nodes state command
    → IsSomeAnd (live_at id state.registry.live) (λ terms. act_of command reply (next_state nodes state command) ≡ Controls id (feeds.Modify (amended_trigger state.stamp amend.trigger terms.trigger) true))
act_reconfigured laws nodes state command reply id amend asked given is =
    let ok : reconfigure_answer nodes state.registry id amend ≡ Ok tt = done_ok (reconfigure_answer nodes state.registry id amend) (sym given ∙ is ∙ ap (reply_to nodes state) asked) in
    let changed : Subscriptions = with_change id (amended_terms nodes amend state.stamp) state.registry in
    let left : reconfigured nodes state.registry id amend state.stamp ≡ changed = laws.done (first_refusal (reconfigure_reasons nodes state.registry id amend)) state.registry changed ok in
    amended_found nodes amend state.stamp id true (λ terms. (terms.configured ≡ true) × (is_other_kind amend.trigger (Some terms) ≡ false)) (live_at id state.registry.live)
    (act_of command reply (next_state nodes state command)) (laws.reconfigured nodes state.registry id amend ok)
    ((λ i. act_of (asked i) (given i) (next_state nodes state (asked i)))
    ∙ ap (λ (r : Subscriptions). goes_on_with id true (live_at id r.live)) left
    ∙ ap (goes_on_with id true) (laws.found nodes amend state.stamp id state.registry.live))

-- what the registry makes of a trigger is what a feed makes of it
pub amended_same : (now : ℕ) (given : Option Trigger) (kept : Trigger) → amended kept (amended_trigger now given kept) ≡ amended_trigger now given kept
amended_same now None (Periodic period anchor) = refl
amended_same now None (OnChange dampening sync excluded) = refl
amended_same now (Some (Periodic period anchor)) (Periodic before had) = refl
amended_same now (Some (Periodic period anchor)) (OnChange dampening sync excluded) = refl
amended_same now (Some (OnChange dampening sync excluded)) (Periodic period anchor) = refl
amended_same now (Some (OnChange dampening sync excluded)) (OnChange before had kinds) = refl

-- ---- ends

pub record EndLaws : Type 0 where
  pub done : (refusal : Option Refused) (before after : Subscriptions) → done_unless refusal ≡ Ok tt → left_unless refusal before after ≡ after
  pub gone : (id : ℕ) (live : List Terms) → live_at id (live_without id live) ≡ None

-- a subscription that has ended selects nothing
module _ (laws : EndLaws) (nodes : List SchemaNode) (state : JournalState) (receiver : ℕ) where
  none_selected : (after : JournalState) (refusal : Option Refused) (id : ℕ) → done_unless refusal ≡ Ok tt → after.registry ≡ left_unless refusal state.registry (with_end id state.registry) → selected_at nodes after id receiver ≡ []
  none_selected after refusal id done is =
      ap (selected_by nodes after receiver) (ap (λ (r : Subscriptions). live_at id r.live) (is ∙ laws.done refusal state.registry (with_end id state.registry) done) ∙ laws.gone id state.registry.live)

  pub deleted_selects : (by id : ℕ) → reply_to nodes state (Delete by id) ≡ Done → selected_at nodes (next_state nodes state (Delete by id)) id receiver ≡ []
  deleted_selects by id done =
      none_selected (next_state nodes state (Delete by id)) (first_refusal (delete_reasons state.policy state.registry by id)) id (done_ok (delete_answer state.policy state.registry by id) (sym done)) refl

  pub killed_selects : (by id : ℕ) → reply_to nodes state (Kill by id) ≡ Done → selected_at nodes (next_state nodes state (Kill by id)) id receiver ≡ []
  killed_selects by id done =
      none_selected (next_state nodes state (Kill by id)) (first_refusal (kill_reasons state.policy state.registry by id)) id (done_ok (kill_answer state.policy state.registry by id) (sym done)) refl

  pub unconfigured_selects : (id : ℕ) → reply_to nodes state (Unconfigure id) ≡ Done → selected_at nodes (next_state nodes state (Unconfigure id)) id receiver ≡ []
  unconfigured_selects id done =
      none_selected (next_state nodes state (Unconfigure id)) (first_refusal (unconfigure_reasons state.registry id)) id (done_ok (unconfigure_answer state.registry id) (sym done)) refl
