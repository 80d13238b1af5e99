-- A subscription whose id was given and that isn't live any more stays so, whatever comes.
use Rattle.std.proofs.Common.{◌≡◌, ◌≢◌, ℕ, ◌<◌, refl, sym, ap, ◌∙◌, Bool, true, false, true≢false, cond, nat_eq, List, [], ◌∷◌, Option, Some, None}
use Rattle.std.specs.Prelude.{option_map}
use Rattle.std.specs.List.{AllByRecursion}
use Rattle.std.proofs.lemmas.Bool.{eqb-false, eqb-true, lt-ltb}
use Rattle.std.proofs.lemmas.List.Elements.{recursion_from_All}
use Rattle.yp_schema.specs.declared.schema.SchemaNode.{SchemaNode}
use Rattle.yp_nacm.specs.declared.policy.Policy.{Policy}
use Rattle.yp_terms.specs.declared.ask.Amend.{Amend}
use Rattle.yp_terms.specs.declared.ask.Ask.{Ask}
use Rattle.yp_terms.specs.declared.refused.Refused.{Refused}
use Rattle.yp_terms.specs.Amends.{amended_terms}
use Rattle.yp_registry.specs.Amending.{changed_terms, modify_reasons, reconfigure_reasons, with_change}
use Rattle.yp_registry.specs.Calls.{delete_reasons, done_unless, kill_reasons, left_unless, live_without, unconfigure_reasons, with_end}
use Rattle.yp_registry.specs.Configuring.{configure_reasons, configured_terms, in_order, is_configurable, is_id_taken, with_configured}
use Rattle.yp_registry.specs.Ids.{HasRisingIds}
use Rattle.yp_terms.specs.Refusals.{first_refusal}
use Rattle.yp_registry.specs.Registry.{Subscriptions, established, live_at, next_id}
use Rattle.yp_terms.specs.Terms.{Terms}
use Rattle.yp_journal.specs.declared.command.Command.{Command}
use Rattle.yp_journal.specs.declared.command.Command.TheVariants.{Tick, Edit, Rules, Establish, Modify, Delete, Kill, Resync, Configure, Reconfigure, Unconfigure, Take}
use Rattle.yp_journal.specs.declared.entry.Entry.{Entry}
use Rattle.yp_journal.specs.declared.reply.Reply.TheVariants.{Done}
use Rattle.yp_journal.specs.History.{JournalState, call_reply, next_state, reply_to, state_of}
use Rattle.yp_moment.specs.Entries.{selected_by, selected_at}
use Rattle.yp_moment.specs.Ids.{was_given}
use Rattle.yp_moment.proofs.Ids.{configured_given, dynamic_given, next_free}

-- ---- what is live was given

module _ (registry : Subscriptions) where
  given_low : (id : ℕ) (low : Bool) → is_configurable id ≡ low → id < next_id registry.given → (is_configurable id ≡ true → is_id_taken id registry ≡ true) → was_given id registry ≡ true
  given_low id true low below taken = configured_given id registry low ∙ taken low
  given_low id false low below taken = dynamic_given id registry low ∙ lt-ltb id (next_id registry.given) below

  found_given : (id : ℕ) (b : Bool) (first found : Terms) (rest : Option Terms) → nat_eq id first.id ≡ b → was_given first.id registry ≡ true → (rest ≡ Some found → was_given id registry ≡ true) → cond b (Some first) rest ≡ Some found → was_given id registry ≡ true
  found_given id true first found rest same given later is = ap (λ (n : ℕ). was_given n registry) (eqb-true id first.id same) ∙ given
  found_given id false first found rest same given later is = later is

  list_given : (id : ℕ) (found : Terms) (live : List Terms) → AllByRecursion (λ (terms : Terms). terms.id < next_id registry.given) live → AllByRecursion (λ (terms : Terms). is_configurable terms.id ≡ true → is_id_taken terms.id registry ≡ true) live
      → live_at id live ≡ Some found → was_given id registry ≡ true
  list_given id found [] below taken is = cc
  list_given id found (first ∷ live) below taken is =
      found_given id (nat_eq id first.id) first found (live_at id live) refl (given_low first.id (is_configurable first.id) refl below.0 taken.0) (list_given id found live below.1 taken.1) is

  pub live_given : (id : ℕ) (found : Terms) → HasRisingIds registry → live_at id registry.live ≡ Some found → was_given id registry ≡ true
  live_given id found ids is =
      list_given id found registry.live (recursion_from_All (λ (terms : Terms). terms.id < next_id registry.given) registry.live ids.below)
      (recursion_from_All (λ (terms : Terms). is_configurable terms.id ≡ true → is_id_taken terms.id registry ≡ true) registry.live ids.configured) is

-- ---- what isn't live any more

-- the laws of the registry that are rested on
pub record OtherLaws : Type 0 where
  pub establish : (nodes : List SchemaNode) (policy : Policy) (registry : Subscriptions) (by : ℕ) (ask : Ask) (now other : ℕ) → other ≢ next_id registry.given → live_at other (established nodes policy registry by ask now).live ≡ live_at other registry.live
  pub amend : (nodes : List SchemaNode) (amend : Amend) (now id : ℕ) (live : List Terms) → live_at id (changed_terms id (amended_terms nodes amend now) live) ≡ option_map (amended_terms nodes amend now) (live_at id live)
  pub amend_others : (nodes : List SchemaNode) (amend : Amend) (now id other : ℕ) (live : List Terms) → other ≢ id → live_at other (changed_terms id (amended_terms nodes amend now) live) ≡ live_at other live
  pub end : (id : ℕ) (live : List Terms) → live_at id (live_without id live) ≡ None
  pub end_others : (id other : ℕ) (live : List Terms) → other ≢ id → live_at other (live_without id live) ≡ live_at other live
  pub configure_others : (new : Terms) (live : List Terms) (other : ℕ) → other ≢ new.id → live_at other (in_order new live) ≡ live_at other live
  pub configure_new : (nodes : List SchemaNode) (state : JournalState) (id : ℕ) (names : List (List ℕ)) (ask : Ask) → reply_to nodes state (Configure id names ask) ≡ Done
      → (was_given id state.registry ≡ false) × (was_given id (next_state nodes state (Configure id names ask)).registry ≡ true)
  pub stays : (nodes : List SchemaNode) (state : JournalState) (command : Command) (id : ℕ) → was_given id state.registry ≡ true → was_given id (next_state nodes state command).registry ≡ true

module _ (laws : OtherLaws) (nodes : List SchemaNode) (id : ℕ) where
  -- it isn't changed by an amendment
  none_amended : (other : ℕ) (amend : Amend) (now : ℕ) (live : List Terms) (b : Bool) → nat_eq id other ≡ b → live_at id live ≡ None → live_at id (changed_terms other (amended_terms nodes amend now) live) ≡ None
  none_amended other amend now live true same none =
      ap (λ (n : ℕ). live_at id (changed_terms n (amended_terms nodes amend now) live)) (sym (eqb-true id other same)) ∙ laws.amend nodes amend now id live ∙ ap (option_map (amended_terms nodes amend now)) none
  none_amended other amend now live false same none = laws.amend_others nodes amend now other id live (eqb-false id other same) ∙ none

  none_ended : (other : ℕ) (live : List Terms) (b : Bool) → nat_eq id other ≡ b → live_at id live ≡ None → live_at id (live_without other live) ≡ None
  none_ended other live true same none = ap (λ (n : ℕ). live_at id (live_without n live)) (sym (eqb-true id other same)) ∙ laws.end id live
  none_ended other live false same none = laws.end_others other id live (eqb-false id other same) ∙ none

  -- a call leaves what it leaves where it is done
  none_left : (found : Option Refused) (before after : Subscriptions) → live_at id before.live ≡ None → (found ≡ None → live_at id after.live ≡ None) → live_at id (left_unless found before after).live ≡ None
  none_left found before after none is =
      elim found as (λ (o : Option Refused). found ≡ o → live_at id (left_unless o before after).live ≡ None) [
        | Some refusal ↦ λ there. none
        | None ↦ λ free. is free
      ] refl

  module _ (state : JournalState) (given : was_given id state.registry ≡ true) (none : live_at id state.registry.live ≡ None) where
    abbrev registry : Subscriptions
    registry = state.registry

    apart : (other : ℕ) → was_given other registry ≡ false → id ≢ other
    apart other free same = true≢false (sym given ∙ ap (λ (n : ℕ). was_given n registry) same ∙ free)

    none_changed : (found : Option Refused) (other : ℕ) (amend : Amend) → live_at id (left_unless found registry (with_change other (amended_terms nodes amend state.stamp) registry)).live ≡ None
    none_changed found other amend = none_left found registry (with_change other (amended_terms nodes amend state.stamp) registry) none (λ free. none_amended other amend state.stamp registry.live (nat_eq id other) refl none)

    none_without : (found : Option Refused) (other : ℕ) → live_at id (left_unless found registry (with_end other registry)).live ≡ None
    none_without found other = none_left found registry (with_end other registry) none (λ free. none_ended other registry.live (nat_eq id other) refl none)

    -- by no command does it come again
    pub none_next : (command : Command) → live_at id (next_state nodes state command).registry.live ≡ None
    none_next (Tick tick) = none
    none_next (Edit patch) = none
    none_next (Rules policy) = none
    none_next (Establish by ask) = laws.establish nodes state.policy registry by ask state.stamp id (apart (next_id registry.given) (next_free registry)) ∙ none
    none_next (Modify by other amend) = none_changed (first_refusal (modify_reasons nodes state.policy registry by other amend)) other amend
    none_next (Delete by other) = none_without (first_refusal (delete_reasons state.policy registry by other)) other
    none_next (Kill by other) = none_without (first_refusal (kill_reasons state.policy registry by other)) other
    none_next (Resync by other) = none
    none_next (Configure other receivers ask) =
        let new : Terms = configured_terms nodes registry other receivers ask state.stamp in
        let found : Option Refused = first_refusal (configure_reasons nodes registry other receivers ask) in
        none_left found registry (with_configured registry new) none
        (λ free. laws.configure_others new registry.live id (apart other (laws.configure_new nodes state other receivers ask (ap (λ (o : Option Refused). call_reply (done_unless o)) free)).0) ∙ none)
    none_next (Reconfigure other amend) = none_changed (first_refusal (reconfigure_reasons nodes registry other amend)) other amend
    none_next (Unconfigure other) = none_without (first_refusal (unconfigure_reasons registry other)) other
    none_next (Take receiver count) = none

  -- so it selects nothing, whatever entries come
  pub none_selected : (state : JournalState) (entries : List Entry) (receiver : ℕ) → was_given id state.registry ≡ true → live_at id state.registry.live ≡ None → selected_at nodes (state_of nodes state entries) id receiver ≡ []
  none_selected state [] receiver given none = ap (selected_by nodes state receiver) none
  none_selected state (entry ∷ entries) receiver given none =
      none_selected (next_state nodes state entry.command) entries receiver (laws.stays nodes state entry.command id given) (none_next state given none entry.command)
