-- What a command finds of a subscription to which it does something, and that it leaves all others.
use Rattle.std.proofs.Common.{◌≡◌, ℕ, refl, sym, ap, subst, ◌∙◌, Bool, true, false, true≢false, not, List, ◌∷◌, [], ◌++◌, Option, Some, None, Ok}
use Rattle.std.specs.Prelude.{◌==◌, ◌≢◌, nat_eq, option_map}
use Rattle.std.specs.Option.{IsSomeAnd, option_or}
use Rattle.std.proofs.lemmas.Bool.{eqb-false, eqb-true}
use Rattle.std.proofs.lemmas.List.Folds.{find-append}
use Rattle.std.proofs.lemmas.Option.{none-some}
use Rattle.yp_schema.specs.declared.schema.SchemaNode.{SchemaNode}
use Rattle.yp_nacm.specs.declared.policy.Policy.{Policy}
use Rattle.yp_base.specs.declared.notice.Trigger.{Trigger}
use Rattle.yp_feed.specs.declared.item.Control.TheVariants as feeds
use Rattle.yp_terms.specs.declared.ask.Amend.{Amend}
use Rattle.yp_terms.specs.declared.ask.Ask.{Ask}
use Rattle.yp_terms.specs.declared.refused.Refused.{Refused}
use Rattle.yp_terms.specs.Amends.{amended_terms}
use Rattle.yp_registry.specs.Amending.{changed_terms, modify_reasons, reconfigure_reasons, with_change}
use Rattle.yp_terms.specs.Terms.{is_established_by, has_sync}
use Rattle.yp_registry.specs.Calls.{delete_reasons, done_unless, kill_answer, kill_reasons, left_unless, live_without, resync_answer, resync_reasons, unconfigure_answer, unconfigure_reasons, with_end}
use Rattle.yp_registry.specs.Configuring.{configure_answer, configure_reasons, configured_terms, in_order, with_configured}
use Rattle.yp_registry.specs.Ids.{HasRisingIds}
use Rattle.yp_terms.specs.Refusals.{first_refusal}
use Rattle.yp_registry.specs.Registry.{Subscriptions, after_refusal, live_at, reasons_against, terms_for}
use Rattle.yp_terms.specs.Terms.{Terms}
use Rattle.yp_journal.specs.declared.command.Command.{Command}
use Rattle.yp_journal.specs.declared.command.Command.TheVariants as commands
use Rattle.yp_journal.specs.declared.reply.Reply.{Reply}
use Rattle.yp_journal.specs.declared.reply.Reply.TheVariants.{Done, Id, Registry, Edit as EditRefused}
use Rattle.yp_journal.specs.History.{JournalState, call_reply, next_state, reply_to}
use Rattle.yp_attempt.specs.Moments.{Act, Quiet, Starts, Controls, Drops}
use Rattle.yp_moment.specs.Entries.{act_of, given_by, goes_on_with, starts_with, where_done}
use Rattle.yp_moment.specs.Ids.{was_given}
use Rattle.yp_slot.specs.declared.following.Entered.{Entered}
use Rattle.yp_slot.specs.Slots.{HasEnded}
use Rattle.yp_slot.specs.Steps.{IsEntered, StaysAsItIs, entered_moment, touches}

-- the laws of calls that are rested on
pub record CallsAreLawful : Type 0 where
  pub amended : (nodes : List SchemaNode) (amend : Amend) (now id : ℕ) (live : List Terms) → live_at id (changed_terms id (amended_terms nodes amend now) live) ≡ option_map (amended_terms nodes amend now) (live_at id live)
  pub not_amended : (nodes : List SchemaNode) (amend : Amend) (now id other : ℕ) (live : List Terms) → other ≢ id → live_at other (changed_terms id (amended_terms nodes amend now) live) ≡ live_at other live
  pub gone : (id : ℕ) (live : List Terms) → live_at id (live_without id live) ≡ None
  pub not_gone : (id other : ℕ) (live : List Terms) → other ≢ id → live_at other (live_without id live) ≡ live_at other live
  pub not_configured : (new : Terms) (live : List Terms) (other : ℕ) → other ≢ new.id → live_at other (in_order new live) ≡ live_at other live
  pub fresh : (nodes : List SchemaNode) (registry : Subscriptions) (id : ℕ) (receivers : List (List ℕ)) (ask : Ask) → HasRisingIds registry → configure_answer nodes registry id receivers ask ≡ Ok tt → live_at id registry.live ≡ None
  pub killed : (policy : Policy) (registry : Subscriptions) (by id : ℕ) → kill_answer policy registry by id ≡ Ok tt → IsSomeAnd (live_at id registry.live) (λ terms. not terms.configured ≡ true)
  pub resynced : (policy : Policy) (registry : Subscriptions) (by id : ℕ) → resync_answer policy registry by id ≡ Ok tt → IsSomeAnd (live_at id registry.live) (λ terms. (is_established_by by terms ≡ true) × (has_sync terms.trigger ≡ true))
  pub unconfigured : (registry : Subscriptions) (id : ℕ) → unconfigure_answer registry id ≡ Ok tt → IsSomeAnd (live_at id registry.live) (λ terms. terms.configured ≡ true)
  pub given : (registry : Subscriptions) (id : ℕ) (terms : Terms) → HasRisingIds registry → live_at id registry.live ≡ Some terms → was_given id registry ≡ true
  pub still : (nodes : List SchemaNode) (state : JournalState) (command : Command) (id : ℕ) → was_given id state.registry ≡ true → was_given id (next_state nodes state command).registry ≡ true
  pub over : (nodes : List SchemaNode) (state : JournalState) (command : Command) (id : ℕ) → was_given id state.registry ≡ true → live_at id state.registry.live ≡ None → live_at id (next_state nodes state command).registry.live ≡ None

-- ---- calls that are refused or done

called : (P : Reply → Type 0) (refusal : Option Refused) → ((r : Refused) → P (Registry r)) → (refusal ≡ None → P Done) → P (call_reply (done_unless refusal))
called P (Some r) if_refused if_done = if_refused r
called P None if_refused if_done = if_done refl

call : (P : Reply → Subscriptions → Type 0) (refusal : Option Refused) (before after : Subscriptions) → ((r : Refused) → P (Registry r) before) → (refusal ≡ None → P Done after) → P (call_reply (done_unless refusal)) (left_unless refusal before after)
call P (Some r) before after if_refused if_done = if_refused r
call P None before after if_refused if_done = if_done refl

some_there : {X : Type 0} (o : Option X) (P : X → Type 0) → IsSomeAnd o P → (x : X) × (o ≡ Some x)
some_there None P e = absurd e
some_there (Some x) P e = (x, refl)

found_still : (id : ℕ) (live more : List Terms) (terms : Terms) → live_at id live ≡ Some terms → live_at id (live ++ more) ≡ Some terms
found_still id live more terms is = find-append (λ (other : Terms). nat_eq id other.id) live more ∙ ap (λ (o : Option Terms). option_or o (live_at id more)) is

-- ---- what is found

-- what a registry has of a subscription, and what is left of it, where something happens to its feeds
abbrev pub IsFound : Subscriptions → Subscriptions → Act → Type 0
IsFound before after Quiet = Unit {0}
IsFound before after (Starts sub trigger configured names) = Unit {0}
IsFound before after (Controls sub (feeds.Modify trigger notify)) = (was : Terms) × (live_at sub before.live ≡ Some was)
IsFound before after (Controls sub feeds.Resync) = ((was : Terms) × (live_at sub before.live ≡ Some was)) × (after ≡ before)
IsFound before after (Controls sub feeds.Rules) = Unit {0}
IsFound before after (Controls sub feeds.End) = (was_given sub before ≡ true) × (live_at sub after.live ≡ None)
IsFound before after (Drops sub) = Unit {0}

starts_found : (before after : Subscriptions) (o : Option Terms) → IsFound before after (starts_with o)
starts_found before after None = tt
starts_found before after (Some terms) = tt

given_found : (before : Subscriptions) (reply : Reply) (after : JournalState) → IsFound before after.registry (given_by reply after)
given_found before Done after = tt
given_found before (Id id) after = starts_found before after.registry (live_at id after.registry.live)
given_found before (Registry refusal) after = tt
given_found before (EditRefused edit_id tag path) after = tt

module _ (laws : CallsAreLawful) (nodes : List SchemaNode) (before : JournalState) where
  amend_found : (id : ℕ) (told : Bool) (amend : Amend) (after : Subscriptions) → after ≡ with_change id (amended_terms nodes amend before.stamp) before.registry → IsFound before.registry after (goes_on_with id told (live_at id after.live))
  amend_found id told amend after is = by (live_at id before.registry.live) (live_at id after.live) (ap (λ (r : Subscriptions). live_at id r.live) is ∙ laws.amended nodes amend before.stamp id before.registry.live) refl
    where
      by : (o p : Option Terms) → p ≡ option_map (amended_terms nodes amend before.stamp) o → live_at id before.registry.live ≡ o → IsFound before.registry after (goes_on_with id told p)
      by None p e live = subst (λ (q : Option Terms). IsFound before.registry after (goes_on_with id told q)) (sym e) tt
      by (Some was) p e live = subst (λ (q : Option Terms). IsFound before.registry after (goes_on_with id told q)) (sym e) (was, live)

  module _ (ids : HasRisingIds before.registry) where
    pub is_found : (command : Command) → IsFound before.registry (next_state nodes before command).registry (act_of command (reply_to nodes before command) (next_state nodes before command))
    is_found (commands.Tick tick) = tt
    is_found (commands.Edit patch) = tt
    is_found (commands.Rules policy) = tt
    is_found (commands.Take receiver count) = tt
    is_found (commands.Establish by ask) = given_found before.registry (reply_to nodes before (commands.Establish by ask)) (next_state nodes before (commands.Establish by ask))
    is_found (commands.Modify by id amend) = call (λ (reply : Reply) (registry : Subscriptions). IsFound before.registry registry (where_done reply (goes_on_with id false (live_at id registry.live))))
        (first_refusal (modify_reasons nodes before.policy before.registry by id amend)) before.registry (with_change id (amended_terms nodes amend before.stamp) before.registry) (λ r. tt)
        (λ _. amend_found id false amend (with_change id (amended_terms nodes amend before.stamp) before.registry) refl)
    is_found (commands.Reconfigure id amend) = call (λ (reply : Reply) (registry : Subscriptions). IsFound before.registry registry (where_done reply (goes_on_with id true (live_at id registry.live))))
        (first_refusal (reconfigure_reasons nodes before.registry id amend)) before.registry (with_change id (amended_terms nodes amend before.stamp) before.registry) (λ r. tt)
        (λ _. amend_found id true amend (with_change id (amended_terms nodes amend before.stamp) before.registry) refl)
    is_found (commands.Delete by id) = call (λ (reply : Reply) (registry : Subscriptions). IsFound before.registry registry (where_done reply (Drops id))) (first_refusal (delete_reasons before.policy before.registry by id)) before.registry (with_end id before.registry) (λ r. tt) (λ _. tt)
    is_found (commands.Kill by id) = call (λ (reply : Reply) (registry : Subscriptions). IsFound before.registry registry (where_done reply (Controls id feeds.End))) (first_refusal (kill_reasons before.policy before.registry by id)) before.registry (with_end id before.registry) (λ r. tt)
        (λ none.
        let was = some_there (live_at id before.registry.live) _ (laws.killed before.policy before.registry by id (ap done_unless none)) in
        (laws.given before.registry id was.0 ids was.1, laws.gone id before.registry.live))
    is_found (commands.Unconfigure id) = call (λ (reply : Reply) (registry : Subscriptions). IsFound before.registry registry (where_done reply (Controls id feeds.End))) (first_refusal (unconfigure_reasons before.registry id)) before.registry (with_end id before.registry) (λ r. tt)
        (λ none.
        let was = some_there (live_at id before.registry.live) _ (laws.unconfigured before.registry id (ap done_unless none)) in
        (laws.given before.registry id was.0 ids was.1, laws.gone id before.registry.live))
    is_found (commands.Resync by id) = called (λ (reply : Reply). IsFound before.registry before.registry (where_done reply (Controls id feeds.Resync))) (first_refusal (resync_reasons before.policy before.registry by id)) (λ r. tt)
        (λ none. (some_there (live_at id before.registry.live) _ (laws.resynced before.policy before.registry by id (ap done_unless none)), refl))
    is_found (commands.Configure id names ask) = call (λ (reply : Reply) (registry : Subscriptions). IsFound before.registry registry (where_done reply (starts_with (live_at id registry.live)))) (first_refusal (configure_reasons nodes before.registry id names ask))
        before.registry (with_configured before.registry (configured_terms nodes before.registry id names ask before.stamp)) (λ r. tt)
        (λ _. starts_found before.registry (with_configured before.registry (configured_terms nodes before.registry id names ask before.stamp)) (live_at id (with_configured before.registry (configured_terms nodes before.registry id names ask before.stamp)).live))

    -- ---- all others

    module _ (other : ℕ) (terms : Terms) (live : live_at other before.registry.live ≡ Some terms) where
      amend_lasts : (id : ℕ) (told : Bool) (amend : Amend) → touches (goes_on_with id told (live_at id (changed_terms id (amended_terms nodes amend before.stamp) before.registry.live))) other ≡ false
          → live_at other (changed_terms id (amended_terms nodes amend before.stamp) before.registry.live) ≡ Some terms
      amend_lasts id told amend none = by (other == id) refl
        where
          by : (b : Bool) → (other == id) ≡ b → live_at other (changed_terms id (amended_terms nodes amend before.stamp) before.registry.live) ≡ Some terms
          by false is = laws.not_amended nodes amend before.stamp id other before.registry.live (eqb-false other id is) ∙ live
          by true is =
              let same : id ≡ other = sym (eqb-true other id is) in
              let found : live_at id (changed_terms id (amended_terms nodes amend before.stamp) before.registry.live) ≡ Some (amended_terms nodes amend before.stamp terms) =
              laws.amended nodes amend before.stamp id before.registry.live ∙ ap (option_map (amended_terms nodes amend before.stamp)) (ap (λ (k : ℕ). live_at k before.registry.live) same ∙ live) in
              absurd (true≢false (sym is ∙ sym (ap (λ (o : Option Terms). touches (goes_on_with id told o) other) found) ∙ none))

      configured_lasts : (id : ℕ) (names : List (List ℕ)) (ask : Ask) → first_refusal (configure_reasons nodes before.registry id names ask) ≡ None → live_at other (in_order (configured_terms nodes before.registry id names ask before.stamp) before.registry.live) ≡ Some terms
      configured_lasts id names ask none = by (other == id) refl
        where
          by : (b : Bool) → (other == id) ≡ b → live_at other (in_order (configured_terms nodes before.registry id names ask before.stamp) before.registry.live) ≡ Some terms
          by false is = laws.not_configured (configured_terms nodes before.registry id names ask before.stamp) before.registry.live other (eqb-false other id is) ∙ live
          by true is =
              let fresh = laws.fresh nodes before.registry id names ask ids (ap done_unless none) in
              absurd (none-some terms (sym fresh ∙ ap (λ (k : ℕ). live_at k before.registry.live) (sym (eqb-true other id is)) ∙ live))

      lasts : (command : Command) → touches (act_of command (reply_to nodes before command) (next_state nodes before command)) other ≡ false → live_at other (next_state nodes before command).registry.live ≡ Some terms
      lasts (commands.Tick tick) = λ none. live
      lasts (commands.Edit patch) = λ none. live
      lasts (commands.Rules policy) = λ none. live
      lasts (commands.Take receiver count) = λ none. live
      lasts (commands.Resync by id) = λ none. live
      lasts (commands.Establish by ask) = λ none.
          let given = terms_for nodes before.registry by ask before.stamp in
          elim (first_refusal (reasons_against nodes before.policy before.registry by ask)) as (λ (found : Option Refused). live_at other (after_refusal found before.registry given).live ≡ Some terms) [
            | Some refusal ↦ live
            | None ↦ found_still other before.registry.live (given ∷ []) terms live
          ]
      lasts (commands.Modify by id amend) = call (λ (reply : Reply) (registry : Subscriptions). touches (where_done reply (goes_on_with id false (live_at id registry.live))) other ≡ false → live_at other registry.live ≡ Some terms)
          (first_refusal (modify_reasons nodes before.policy before.registry by id amend)) before.registry (with_change id (amended_terms nodes amend before.stamp) before.registry) (λ r none. live) (λ _. amend_lasts id false amend)
      lasts (commands.Reconfigure id amend) = call (λ (reply : Reply) (registry : Subscriptions). touches (where_done reply (goes_on_with id true (live_at id registry.live))) other ≡ false → live_at other registry.live ≡ Some terms)
          (first_refusal (reconfigure_reasons nodes before.registry id amend)) before.registry (with_change id (amended_terms nodes amend before.stamp) before.registry) (λ r none. live) (λ _. amend_lasts id true amend)
      lasts (commands.Delete by id) = call (λ (reply : Reply) (registry : Subscriptions). touches (where_done reply (Drops id)) other ≡ false → live_at other registry.live ≡ Some terms) (first_refusal (delete_reasons before.policy before.registry by id))
          before.registry (with_end id before.registry) (λ r none. live) (λ _ none. laws.not_gone id other before.registry.live (eqb-false other id none) ∙ live)
      lasts (commands.Kill by id) = call (λ (reply : Reply) (registry : Subscriptions). touches (where_done reply (Controls id feeds.End)) other ≡ false → live_at other registry.live ≡ Some terms) (first_refusal (kill_reasons before.policy before.registry by id))
          before.registry (with_end id before.registry) (λ r none. live) (λ _ none. laws.not_gone id other before.registry.live (eqb-false other id none) ∙ live)
      lasts (commands.Unconfigure id) = call (λ (reply : Reply) (registry : Subscriptions). touches (where_done reply (Controls id feeds.End)) other ≡ false → live_at other registry.live ≡ Some terms) (first_refusal (unconfigure_reasons before.registry id))
          before.registry (with_end id before.registry) (λ r none. live) (λ _ none. laws.not_gone id other before.registry.live (eqb-false other id none) ∙ live)
      lasts (commands.Configure id names ask) = call (λ (reply : Reply) (registry : Subscriptions). touches (where_done reply (starts_with (live_at id registry.live))) other ≡ false → live_at other registry.live ≡ Some terms)
          (first_refusal (configure_reasons nodes before.registry id names ask)) before.registry (with_configured before.registry (configured_terms nodes before.registry id names ask before.stamp)) (λ r none. live) (λ none _. configured_lasts id names ask none)

    -- what has ended stays so, and each that the command does nothing to stays as it is
    pub ended_stays : (command : Command) (id : ℕ) → HasEnded before id → HasEnded (next_state nodes before command) id
    ended_stays command id ended = record { given = laws.still nodes before command id ended.given; gone = laws.over nodes before command id ended.given ended.gone }

    pub stays_so : (command : Command) (id : ℕ) → touches (act_of command (reply_to nodes before command) (next_state nodes before command)) id ≡ false → StaysAsItIs before (next_state nodes before command) id
    stays_so command id none = record { live = λ terms live. lasts id terms live command none; ended = ended_stays command id }

-- ---- entries

module _ (laws : CallsAreLawful) (e : Entered) (before : JournalState) (entered : IsEntered e before) where
  found_here : IsFound before.registry e.present.state.now.registry (entered_moment e before).act
  found_here =
      let command = e.entry.now.command in
      subst (λ (after : JournalState). IsFound before.registry after.registry (act_of command e.entry.now.reply after)) (sym entered.after)
      (subst (λ (reply : Reply). IsFound before.registry (next_state e.present.schema.now before command).registry (act_of command reply (next_state e.present.schema.now before command))) (sym entered.reply)
      (is_found laws e.present.schema.now before entered.ids command))

  -- each subscription to which the entry does nothing stays as it is
  pub stays_here : (id : ℕ) → touches (entered_moment e before).act id ≡ false → StaysAsItIs before e.present.state.now id
  stays_here id none =
      subst (λ (after : JournalState). StaysAsItIs before after id) (sym entered.after)
      (stays_so laws e.present.schema.now before entered.ids e.entry.now.command id ((λ i. touches (act_of e.entry.now.command (sym entered.reply i) (sym entered.after i)) id) ∙ none))

  -- one that goes on by other terms was live
  pub modified_here : (sub : ℕ) (trigger : Trigger) (notify : Bool) → (entered_moment e before).act ≡ Controls sub (feeds.Modify trigger notify) → (was : Terms) × (live_at sub before.registry.live ≡ Some was)
  modified_here sub trigger notify is = subst (IsFound before.registry e.present.state.now.registry) is found_here

  -- one that is synchronised again was live, and the registry stays
  pub resynced_here : (sub : ℕ) → (entered_moment e before).act ≡ Controls sub feeds.Resync → ((was : Terms) × (live_at sub before.registry.live ≡ Some was)) × (e.present.state.now.registry ≡ before.registry)
  resynced_here sub is = subst (IsFound before.registry e.present.state.now.registry) is found_here

  -- one that ends has ended
  pub ended_here : (sub : ℕ) → (entered_moment e before).act ≡ Controls sub feeds.End → HasEnded e.present.state.now sub
  ended_here sub is =
      let found : IsFound before.registry e.present.state.now.registry (Controls sub feeds.End) = subst (IsFound before.registry e.present.state.now.registry) is found_here in
      record { given = ap (λ (s : JournalState). was_given sub s.registry) entered.after ∙ laws.still e.present.schema.now before e.entry.now.command sub found.0; gone = found.1 }
