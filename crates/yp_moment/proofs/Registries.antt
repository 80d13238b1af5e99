-- What a legal journal keeps of its registry: the ids of live subscriptions rise, terms are of the schema, and stamps are ticks. So what feeds are handed can be followed.
use Rattle.std.proofs.Common.{◌≡◌, ℕ, ◌+◌, ◌<◌, ◌≤◌, ap, refl, Bool, true, false, cond, nat_eq, List, [], ◌∷◌, length, Option, Some, None, IfSome, arith}
use Rattle.std.specs.List.{AllByRecursion}
use Rattle.std.proofs.lemmas.List.{length-map}
use Rattle.std.proofs.lemmas.List.Elements.{recursion_from_All}
use Rattle.yp_base.specs.declared.notice.Trigger.{Trigger}
use Rattle.yp_base.specs.declared.notice.Trigger.TheVariants.{Periodic, OnChange}
use Rattle.yp_schema.specs.declared.schema.SchemaNode.{SchemaNode}
use Rattle.yp_nacm.specs.declared.policy.Policy.{Policy}
use Rattle.yp_time.specs.Ticks.{tick_limit}
use Rattle.yp_terms.specs.declared.ask.Amend.{Amend}
use Rattle.yp_terms.specs.declared.ask.Ask.{Ask}
use Rattle.yp_terms.specs.Amends.{HasGivenAnchor}
use Rattle.yp_registry.specs.Amending.{modified_by, reconfigured}
use Rattle.yp_registry.specs.Calls.{deleted_by, killed_by, unconfigured}
use Rattle.yp_registry.specs.Configuring.{newly_configured}
use Rattle.yp_registry.specs.Ids.{HasRisingIds}
use Rattle.yp_registry.specs.Registry.{IsRegistryOf, Subscriptions, established, last_id, live_at, next_id, no_subscriptions}
use Rattle.yp_terms.specs.Terms.{AreTermsOf, HasAnchor, IsFollowed, Terms}
use Rattle.yp_feed.specs.Machine.{IsTrigger}
use Rattle.yp_journal.specs.declared.command.Command.{Command}
use Rattle.yp_journal.specs.declared.command.Command.TheVariants.{Tick, Edit, Rules, Establish, Modify, Delete, Kill, Resync, Configure, Reconfigure, Unconfigure, Take}
use Rattle.yp_journal.specs.declared.entry.Entry.{Entry}
use Rattle.yp_journal.specs.declared.receiver.ReceiverInfo.{ReceiverInfo}
use Rattle.yp_journal.specs.declared.reply.Reply.{Reply}
use Rattle.yp_journal.specs.declared.reply.Reply.TheVariants.{Done, Id, Registry, Edit as EditRefused}
use Rattle.yp_journal.specs.History.{JournalState, first_state, next_state, state_of, MayCome, IsLegal}
use Rattle.yp_attempt.specs.Moments.{Act}
use Rattle.yp_moment.specs.Entries.{starts_with, given_by, goes_on_with, where_done, act_of, moments_from}
use Rattle.yp_moment.specs.Followed.{CanBeFollowed}

-- ---- ids

-- the laws of ids that are rested on: they rise from the first call on, and after each call
pub record IdsRise : Type 0 where
  pub first : (users names : List (List ℕ)) → HasRisingIds (no_subscriptions users names)
  pub establish : (nodes : List SchemaNode) (policy : Policy) (registry : Subscriptions) (by : ℕ) (ask : Ask) (now : ℕ) → HasRisingIds registry → HasRisingIds (established nodes policy registry by ask now)
  pub modify : (nodes : List SchemaNode) (policy : Policy) (registry : Subscriptions) (by id : ℕ) (amend : Amend) (now : ℕ) → HasRisingIds registry → HasRisingIds (modified_by nodes policy registry by id amend now)
  pub reconfigure : (nodes : List SchemaNode) (registry : Subscriptions) (id : ℕ) (amend : Amend) (now : ℕ) → HasRisingIds registry → HasRisingIds (reconfigured nodes registry id amend now)
  pub delete : (policy : Policy) (registry : Subscriptions) (by id : ℕ) → HasRisingIds registry → HasRisingIds (deleted_by policy registry by id)
  pub kill : (policy : Policy) (registry : Subscriptions) (by id : ℕ) → HasRisingIds registry → HasRisingIds (killed_by policy registry by id)
  pub unconfigure : (registry : Subscriptions) (id : ℕ) → HasRisingIds registry → HasRisingIds (unconfigured registry id)
  pub configure : (nodes : List SchemaNode) (registry : Subscriptions) (id : ℕ) (receivers : List (List ℕ)) (ask : Ask) (now : ℕ) → HasRisingIds registry → HasRisingIds (newly_configured nodes registry id receivers ask now)

module _ (laws : IdsRise) (nodes : List SchemaNode) where
  pub ids_next : (state : JournalState) (command : Command) → HasRisingIds state.registry → HasRisingIds (next_state nodes state command).registry
  ids_next state (Tick tick) ids = ids
  ids_next state (Edit patch) ids = ids
  ids_next state (Rules policy) ids = ids
  ids_next state (Establish by ask) ids = laws.establish nodes state.policy state.registry by ask state.stamp ids
  ids_next state (Modify by id amend) ids = laws.modify nodes state.policy state.registry by id amend state.stamp ids
  ids_next state (Delete by id) ids = laws.delete state.policy state.registry by id ids
  ids_next state (Kill by id) ids = laws.kill state.policy state.registry by id ids
  ids_next state (Resync by id) ids = ids
  ids_next state (Configure id receivers ask) ids = laws.configure nodes state.registry id receivers ask state.stamp ids
  ids_next state (Reconfigure id amend) ids = laws.reconfigure nodes state.registry id amend state.stamp ids
  ids_next state (Unconfigure id) ids = laws.unconfigure state.registry id ids
  ids_next state (Take receiver count) ids = ids

  ids_all : (state : JournalState) (entries : List Entry) → HasRisingIds state.registry → HasRisingIds (state_of nodes state entries).registry
  ids_all state [] ids = ids
  ids_all state (entry ∷ entries) ids = ids_all (next_state nodes state entry.command) entries (ids_next state entry.command ids)

  -- the ids of the live subscriptions rise at each state of a journal
  pub ids_rise : (receivers : List ReceiverInfo) (entries : List Entry) → HasRisingIds (state_of nodes (first_state receivers) entries).registry
  ids_rise receivers entries = ids_all (first_state receivers) entries (laws.first (first_state receivers).registry.users (first_state receivers).registry.names)

-- ---- terms

-- the laws of registries that are rested on: each call leaves one of the schema, and no command changes the users
pub record RegistriesStay : Type 0 where
  pub first : (nodes : List SchemaNode) (users names : List (List ℕ)) → IsRegistryOf nodes (no_subscriptions users names)
  pub establish : (nodes : List SchemaNode) (policy : Policy) (registry : Subscriptions) (by : ℕ) (ask : Ask) (now : ℕ) → by < length registry.users → HasAnchor ask.trigger → now ≤ tick_limit → IsRegistryOf nodes registry
      → IsRegistryOf nodes (established nodes policy registry by ask now)
  pub modify : (nodes : List SchemaNode) (policy : Policy) (registry : Subscriptions) (by id : ℕ) (amend : Amend) (now : ℕ) → HasGivenAnchor amend.trigger → now ≤ tick_limit → IsRegistryOf nodes registry
      → IsRegistryOf nodes (modified_by nodes policy registry by id amend now)
  pub reconfigure : (nodes : List SchemaNode) (registry : Subscriptions) (id : ℕ) (amend : Amend) (now : ℕ) → HasGivenAnchor amend.trigger → now ≤ tick_limit → IsRegistryOf nodes registry
      → IsRegistryOf nodes (reconfigured nodes registry id amend now)
  pub delete : (nodes : List SchemaNode) (policy : Policy) (registry : Subscriptions) (by id : ℕ) → IsRegistryOf nodes registry → IsRegistryOf nodes (deleted_by policy registry by id)
  pub kill : (nodes : List SchemaNode) (policy : Policy) (registry : Subscriptions) (by id : ℕ) → IsRegistryOf nodes registry → IsRegistryOf nodes (killed_by policy registry by id)
  pub unconfigure : (nodes : List SchemaNode) (registry : Subscriptions) (id : ℕ) → IsRegistryOf nodes registry → IsRegistryOf nodes (unconfigured registry id)
  pub configure : (nodes : List SchemaNode) (registry : Subscriptions) (id : ℕ) (receivers : List (List ℕ)) (ask : Ask) (now : ℕ) → HasAnchor ask.trigger → now ≤ tick_limit → IsRegistryOf nodes registry
      → IsRegistryOf nodes (newly_configured nodes registry id receivers ask now)
  pub users : (nodes : List SchemaNode) (state : JournalState) (command : Command) → (next_state nodes state command).registry.users ≡ state.registry.users

-- a state whose registry is one of the schema, whose ids rise, with a user for each receiver, at a stamp that is a tick
pub record Fits (nodes : List SchemaNode) (state : JournalState) : Type 0 where
  pub ids : HasRisingIds state.registry
  pub registry : IsRegistryOf nodes state.registry
  pub users : length state.registry.users ≡ length state.receivers
  pub stamp : state.stamp ≤ tick_limit

module _ (rise : IdsRise) (laws : RegistriesStay) (nodes : List SchemaNode) where
  module _ (state : JournalState) (fits : Fits nodes state) where
    registry_next : (command : Command) → MayCome nodes state.receivers command → IsRegistryOf nodes (next_state nodes state command).registry
    registry_next (Tick tick) may = fits.registry
    registry_next (Edit patch) may = fits.registry
    registry_next (Rules policy) may = fits.registry
    registry_next (Establish by ask) may = laws.establish nodes state.policy state.registry by ask state.stamp (let there = may.0 in omega (arith, there, fits.users)) may.1 fits.stamp fits.registry
    registry_next (Modify by id amend) may = laws.modify nodes state.policy state.registry by id amend state.stamp may.1 fits.stamp fits.registry
    registry_next (Delete by id) may = laws.delete nodes state.policy state.registry by id fits.registry
    registry_next (Kill by id) may = laws.kill nodes state.policy state.registry by id fits.registry
    registry_next (Resync by id) may = fits.registry
    registry_next (Configure id receivers ask) may = laws.configure nodes state.registry id receivers ask state.stamp may.1 fits.stamp fits.registry
    registry_next (Reconfigure id amend) may = laws.reconfigure nodes state.registry id amend state.stamp may fits.stamp fits.registry
    registry_next (Unconfigure id) may = laws.unconfigure nodes state.registry id fits.registry
    registry_next (Take receiver count) may = fits.registry

    stamp_next : (command : Command) → MayCome nodes state.receivers command → (next_state nodes state command).stamp ≤ tick_limit
    stamp_next (Tick tick) may = omega (arith, may, fits.stamp)
    stamp_next (Edit patch) may = fits.stamp
    stamp_next (Rules policy) may = fits.stamp
    stamp_next (Establish by ask) may = fits.stamp
    stamp_next (Modify by id amend) may = fits.stamp
    stamp_next (Delete by id) may = fits.stamp
    stamp_next (Kill by id) may = fits.stamp
    stamp_next (Resync by id) may = fits.stamp
    stamp_next (Configure id receivers ask) may = fits.stamp
    stamp_next (Reconfigure id amend) may = fits.stamp
    stamp_next (Unconfigure id) may = fits.stamp
    stamp_next (Take receiver count) may = fits.stamp

    receivers_next : (command : Command) → (next_state nodes state command).receivers ≡ state.receivers
    receivers_next (Tick tick) = refl
    receivers_next (Edit patch) = refl
    receivers_next (Rules policy) = refl
    receivers_next (Establish by ask) = refl
    receivers_next (Modify by id amend) = refl
    receivers_next (Delete by id) = refl
    receivers_next (Kill by id) = refl
    receivers_next (Resync by id) = refl
    receivers_next (Configure id receivers ask) = refl
    receivers_next (Reconfigure id amend) = refl
    receivers_next (Unconfigure id) = refl
    receivers_next (Take receiver count) = refl

    fits_next : (command : Command) → MayCome nodes state.receivers command → Fits nodes (next_state nodes state command)
    fits_next command may =
        let users = ap length (laws.users nodes state command) in
        let receivers = ap length (receivers_next command) in
        record { ids = ids_next rise nodes state command fits.ids; registry = registry_next command may; users = omega (arith, users, receivers, fits.users); stamp = stamp_next command may }

  fits_all : (state : JournalState) (entries : List Entry) → IsLegal nodes state entries → Fits nodes state → Fits nodes (state_of nodes state entries)
  fits_all state [] legal fits = fits
  fits_all state (entry ∷ entries) legal fits = fits_all (next_state nodes state entry.command) entries legal.1 (fits_next state fits entry.command legal.0.command)

  fits_first : (receivers : List ReceiverInfo) → Fits nodes (first_state receivers)
  fits_first receivers = record {
    ids = rise.first (first_state receivers).registry.users (first_state receivers).registry.names;
    registry = laws.first nodes (first_state receivers).registry.users (first_state receivers).registry.names;
    users = length-map receivers (λ receiver. receiver.user);
    stamp = omega arith;
  }

  -- the registry of a legal journal is one of the schema
  pub journal_fits : (receivers : List ReceiverInfo) (entries : List Entry) → IsLegal nodes (first_state receivers) entries → Fits nodes (state_of nodes (first_state receivers) entries)
  journal_fits receivers entries legal = fits_all (first_state receivers) entries legal (fits_first receivers)

  -- ---- what feeds are handed

  -- an id and a trigger that feeds can be handed
  abbrev IsFollowedBy : Terms → Type 0
  IsFollowedBy terms = (terms.id ≤ last_id) × IsTrigger terms.trigger

  trigger_followed : (trigger : Trigger) → IsFollowed trigger → IsTrigger trigger
  trigger_followed (Periodic period (Some anchor)) is = is
  trigger_followed (Periodic period None) is = is
  trigger_followed (OnChange dampening sync excluded) is = tt

  found_followed : (b : Bool) (terms : Terms) (found : Option Terms) → IsFollowedBy terms → IfSome found IsFollowedBy → IfSome (cond b (Some terms) found) IsFollowedBy
  found_followed true terms found one rest = one
  found_followed false terms found one rest = rest

  live_followed : (count next id : ℕ) (live : List Terms) → next ≤ last_id + 1 → AllByRecursion (AreTermsOf nodes count) live → AllByRecursion (λ (terms : Terms). terms.id < next) live → IfSome (live_at id live) IsFollowedBy
  live_followed count next id [] few all below = tt
  live_followed count next id (terms ∷ live) few all below =
      let low : terms.id < next = below.0 in
      found_followed (nat_eq id terms.id) terms (live_at id live) (omega (arith, few, low), trigger_followed terms.trigger all.0.trigger) (live_followed count next id live few all.1 below.1)

  starts_followed : (found : Option Terms) → IfSome found IsFollowedBy → CanBeFollowed (starts_with found)
  starts_followed None is = tt
  starts_followed (Some terms) is = is

  goes_on_followed : (id : ℕ) (told : Bool) (found : Option Terms) → IfSome found IsFollowedBy → CanBeFollowed (goes_on_with id told found)
  goes_on_followed id told None is = tt
  goes_on_followed id told (Some terms) is = is.1

  where_followed : (reply : Reply) (act : Act) → CanBeFollowed act → CanBeFollowed (where_done reply act)
  where_followed Done act is = is
  where_followed (Id id) act is = tt
  where_followed (Registry refusal) act is = tt
  where_followed (EditRefused edit_id tag path) act is = tt

  module _ (after : JournalState) (fits : Fits nodes after) where
    at_followed : (id : ℕ) → IfSome (live_at id after.registry.live) IsFollowedBy
    at_followed id =
        live_followed (length after.registry.users) (next_id after.registry.given) id after.registry.live fits.registry.ids fits.registry.terms
        (recursion_from_All (λ (terms : Terms). terms.id < next_id after.registry.given) after.registry.live fits.ids.below)

    given_followed : (reply : Reply) → CanBeFollowed (given_by reply after)
    given_followed Done = tt
    given_followed (Id id) = starts_followed (live_at id after.registry.live) (at_followed id)
    given_followed (Registry refusal) = tt
    given_followed (EditRefused edit_id tag path) = tt

    act_followed : (command : Command) (reply : Reply) → CanBeFollowed (act_of command reply after)
    act_followed (Tick tick) reply = tt
    act_followed (Edit patch) reply = tt
    act_followed (Rules policy) reply = tt
    act_followed (Establish by ask) reply = given_followed reply
    act_followed (Modify by id amend) reply = where_followed reply (goes_on_with id false (live_at id after.registry.live)) (goes_on_followed id false (live_at id after.registry.live) (at_followed id))
    act_followed (Delete by id) reply = where_followed reply (act_of (Delete by id) Done after) tt
    act_followed (Kill by id) reply = where_followed reply (act_of (Kill by id) Done after) tt
    act_followed (Resync by id) reply = where_followed reply (act_of (Resync by id) Done after) tt
    act_followed (Configure id receivers ask) reply = where_followed reply (starts_with (live_at id after.registry.live)) (starts_followed (live_at id after.registry.live) (at_followed id))
    act_followed (Reconfigure id amend) reply = where_followed reply (goes_on_with id true (live_at id after.registry.live)) (goes_on_followed id true (live_at id after.registry.live) (at_followed id))
    act_followed (Unconfigure id) reply = where_followed reply (act_of (Unconfigure id) Done after) tt
    act_followed (Take receiver count) reply = tt

  acts_followed : (state : JournalState) (entries : List Entry) → IsLegal nodes state entries → Fits nodes state → AllByRecursion (λ m. CanBeFollowed m.act) (moments_from nodes state entries)
  acts_followed state [] legal fits = tt
  acts_followed state (entry ∷ entries) legal fits =
      let after : JournalState = next_state nodes state entry.command in
      let next : Fits nodes after = fits_next state fits entry.command legal.0.command in
      (act_followed after next entry.command entry.reply, acts_followed after entries legal.1 next)

  -- what a legal journal hands to feeds can be followed
  pub journal_followed : (receivers : List ReceiverInfo) (entries : List Entry) → IsLegal nodes (first_state receivers) entries → AllByRecursion (λ m. CanBeFollowed m.act) (moments_from nodes (first_state receivers) entries)
  journal_followed receivers entries legal = acts_followed (first_state receivers) entries legal (fits_first receivers)
