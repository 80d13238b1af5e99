-- No id is given twice: a subscription that an entry starts has one that was given to none before, and what was given stays so.
use Rattle.std.proofs.Common.{◌≡◌, ℕ, ◌<◌, ◌≤◌, refl, ap, ◌∙◌, Bool, true, false, not, ◌&&◌, List, [], Option, Some, None, Ok, nat_lt, arith}
use Rattle.std.specs.Prelude.{if◌then◌else◌, ◌==◌}
use Rattle.std.specs.List.{list_any}
use Rattle.std.proofs.lemmas.Bool.{and_right, le-ltb, lt-ltb, ltb-true, not-false, or_parts}
use Rattle.yp_schema.specs.declared.schema.SchemaNode.{SchemaNode}
use Rattle.yp_nacm.specs.declared.policy.Policy.{Policy}
use Rattle.yp_terms.specs.declared.ask.Amend.{Amend}
use Rattle.yp_terms.specs.declared.ask.Ask.{Ask}
use Rattle.yp_terms.specs.declared.refused.Refused.{Refused}
use Rattle.yp_terms.specs.Amends.{amended_terms}
use Rattle.yp_registry.specs.Amending.{modified_by, modify_reasons, reconfigured, reconfigure_reasons, with_change}
use Rattle.yp_registry.specs.Calls.{deleted_by, delete_reasons, killed_by, kill_reasons, left_unless, unconfigured, unconfigure_reasons, with_end}
use Rattle.yp_registry.specs.Configuring.{configure_answer, configure_reasons, configured_terms, is_configurable, is_id_taken, newly_configured, with_configured}
use Rattle.yp_terms.specs.Refusals.{first_refusal}
use Rattle.yp_terms.specs.RefusalLaws.{none_holds, nothing_refused}
use Rattle.yp_registry.specs.Registry.{Subscriptions, establish_answer, established, next_id}
use Rattle.yp_journal.specs.declared.command.Command.{Command}
use Rattle.yp_journal.specs.declared.command.Command.TheVariants.{Tick, Edit, Rules, Establish, Modify, Delete, Kill, Resync, Configure, Reconfigure, Unconfigure, Take}
use Rattle.yp_journal.specs.History.{JournalState, next_state}
use Rattle.yp_moment.specs.Ids.{was_given}

-- the laws of the registry that are rested on
pub record GivenLaws : Type 0 where
  pub next : (nodes : List SchemaNode) (policy : Policy) (registry : Subscriptions) (by : ℕ) (ask : Ask) (now id : ℕ) → establish_answer nodes policy registry by ask now ≡ Ok id
      → (id ≡ next_id registry.given) × (id < next_id (established nodes policy registry by ask now).given)
  pub never_falls : (nodes : List SchemaNode) (policy : Policy) (registry : Subscriptions) (by : ℕ) (ask : Ask) (now : ℕ) → registry.given ≤ (established nodes policy registry by ask now).given
  pub taken : (nodes : List SchemaNode) (registry : Subscriptions) (id : ℕ) (receivers : List (List ℕ)) (ask : Ask) (now : ℕ) → configure_answer nodes registry id receivers ask ≡ Ok tt
      → is_id_taken id (newly_configured nodes registry id receivers ask now) ≡ true
  pub stays : (nodes : List SchemaNode) (registry : Subscriptions) (id : ℕ) (receivers : List (List ℕ)) (ask : Ask) (now other : ℕ) → is_id_taken other registry ≡ true
      → is_id_taken other (newly_configured nodes registry id receivers ask now) ≡ true
  pub establish : (nodes : List SchemaNode) (policy : Policy) (registry : Subscriptions) (by : ℕ) (ask : Ask) (now : ℕ) → (established nodes policy registry by ask now).taken ≡ registry.taken
  pub modify : (nodes : List SchemaNode) (policy : Policy) (registry : Subscriptions) (by id : ℕ) (amend : Amend) (now : ℕ) → (modified_by nodes policy registry by id amend now).taken ≡ registry.taken
  pub reconfigure : (nodes : List SchemaNode) (registry : Subscriptions) (id : ℕ) (amend : Amend) (now : ℕ) → (reconfigured nodes registry id amend now).taken ≡ registry.taken
  pub delete : (policy : Policy) (registry : Subscriptions) (by id : ℕ) → (deleted_by policy registry by id).taken ≡ registry.taken
  pub kill : (policy : Policy) (registry : Subscriptions) (by id : ℕ) → (killed_by policy registry by id).taken ≡ registry.taken
  pub unconfigure : (registry : Subscriptions) (id : ℕ) → (unconfigured registry id).taken ≡ registry.taken

-- ---- what was given stays so

stays_by : (low one two three four : Bool) → (if low then one else two) ≡ true → (one ≡ true → three ≡ true) → (two ≡ true → four ≡ true) → (if low then three else four) ≡ true
stays_by true one two three four given first second = first given
stays_by false one two three four given first second = second given

stays_given : (before after : Subscriptions) (id : ℕ) → before.given ≤ after.given → (is_id_taken id before ≡ true → is_id_taken id after ≡ true) → was_given id before ≡ true → was_given id after ≡ true
stays_given before after id more taken given =
    stays_by (is_configurable id) (is_id_taken id before) (nat_lt id (next_id before.given)) (is_id_taken id after) (nat_lt id (next_id after.given)) given taken
    (λ low. let below : id < next_id before.given = ltb-true id (next_id before.given) low in lt-ltb id (next_id after.given) (omega (arith, more, below)))

-- a call that gives no id leaves how many were given
count_left : (before : Subscriptions) (found : Option Refused) (after : Subscriptions) → after.given ≡ before.given → before.given ≤ (left_unless found before after).given
count_left before (Some refusal) after same = omega arith
count_left before None after same = omega (arith, same)

same_taken : (before after : Subscriptions) (id : ℕ) → after.taken ≡ before.taken → is_id_taken id before ≡ true → is_id_taken id after ≡ true
same_taken before after id same taken = ap (λ (ids : List ℕ). list_any (λ other. other == id) ids) same ∙ taken

module _ (laws : GivenLaws) (nodes : List SchemaNode) (state : JournalState) (id : ℕ) where
  abbrev registry : Subscriptions
  registry = state.registry

  -- what was given stays so by each command
  pub given_stays : (command : Command) → was_given id registry ≡ true → was_given id (next_state nodes state command).registry ≡ true
  given_stays (Tick tick) given = given
  given_stays (Edit patch) given = given
  given_stays (Rules policy) given = given
  given_stays (Establish by ask) given =
      let after : Subscriptions = established nodes state.policy registry by ask state.stamp in
      stays_given registry after id (laws.never_falls nodes state.policy registry by ask state.stamp) (same_taken registry after id (laws.establish nodes state.policy registry by ask state.stamp)) given
  given_stays (Modify by other amend) given =
      let after : Subscriptions = modified_by nodes state.policy registry by other amend state.stamp in
      stays_given registry after id (count_left registry (first_refusal (modify_reasons nodes state.policy registry by other amend)) (with_change other (amended_terms nodes amend state.stamp) registry) refl)
      (same_taken registry after id (laws.modify nodes state.policy registry by other amend state.stamp)) given
  given_stays (Delete by other) given =
      let after : Subscriptions = deleted_by state.policy registry by other in
      stays_given registry after id (count_left registry (first_refusal (delete_reasons state.policy registry by other)) (with_end other registry) refl) (same_taken registry after id (laws.delete state.policy registry by other)) given
  given_stays (Kill by other) given =
      let after : Subscriptions = killed_by state.policy registry by other in
      stays_given registry after id (count_left registry (first_refusal (kill_reasons state.policy registry by other)) (with_end other registry) refl) (same_taken registry after id (laws.kill state.policy registry by other)) given
  given_stays (Resync by other) given = given
  given_stays (Configure other receivers ask) given =
      let after : Subscriptions = newly_configured nodes registry other receivers ask state.stamp in
      stays_given registry after id (count_left registry (first_refusal (configure_reasons nodes registry other receivers ask)) (with_configured registry (configured_terms nodes registry other receivers ask state.stamp)) refl)
      (laws.stays nodes registry other receivers ask state.stamp id) given
  given_stays (Reconfigure other amend) given =
      let after : Subscriptions = reconfigured nodes registry other amend state.stamp in
      stays_given registry after id (count_left registry (first_refusal (reconfigure_reasons nodes registry other amend)) (with_change other (amended_terms nodes amend state.stamp) registry) refl)
      (same_taken registry after id (laws.reconfigure nodes registry other amend state.stamp)) given
  given_stays (Unconfigure other) given =
      let after : Subscriptions = unconfigured registry other in
      stays_given registry after id (count_left registry (first_refusal (unconfigure_reasons registry other)) (with_end other registry) refl) (same_taken registry after id (laws.unconfigure registry other)) given
  given_stays (Take receiver count) given = given

-- ---- new ids

-- an id that was given to none before, and was given after
abbrev pub IsNew : Subscriptions → Subscriptions → ℕ → Type 0
IsNew before after id = (was_given id before ≡ false) × (was_given id after ≡ true)

-- the next id of a dynamic subscription can't be configured
past_low : (low id : ℕ) → low ≤ id → (nat_lt 0 id && nat_lt id low) ≡ false
past_low low id past = and_right (nat_lt 0 id) (nat_lt id low) (le-ltb id low past)

not_low : (given : ℕ) → is_configurable (next_id given) ≡ false
not_low given = let past : next_id 0 ≤ next_id given = omega arith in past_low (next_id 0) (next_id given) past

pub dynamic_given : (id : ℕ) (registry : Subscriptions) → is_configurable id ≡ false → was_given id registry ≡ nat_lt id (next_id registry.given)
dynamic_given id registry dynamic = ap (λ (low : Bool). if low then is_id_taken id registry else nat_lt id (next_id registry.given)) dynamic

pub configured_given : (id : ℕ) (registry : Subscriptions) → is_configurable id ≡ true → was_given id registry ≡ is_id_taken id registry
configured_given id registry low = ap (λ (low : Bool). if low then is_id_taken id registry else nat_lt id (next_id registry.given)) low

-- the next id was given to none
pub next_free : (registry : Subscriptions) → was_given (next_id registry.given) registry ≡ false
next_free registry = dynamic_given (next_id registry.given) registry (not_low registry.given) ∙ le-ltb (next_id registry.given) (next_id registry.given) (omega arith)

module _ (laws : GivenLaws) (nodes : List SchemaNode) (policy : Policy) (registry : Subscriptions) where
  pub established_new : (by : ℕ) (ask : Ask) (now id : ℕ) → establish_answer nodes policy registry by ask now ≡ Ok id → IsNew registry (established nodes policy registry by ask now) id
  established_new by ask now id ok =
      let next = laws.next nodes policy registry by ask now id ok in
      let after : Subscriptions = established nodes policy registry by ask now in
      let dynamic : is_configurable id ≡ false = ap is_configurable next.0 ∙ not_low registry.given in
      let past : next_id registry.given ≤ id = omega (arith, next.0) in
      (dynamic_given id registry dynamic ∙ le-ltb id (next_id registry.given) past, dynamic_given id after dynamic ∙ lt-ltb id (next_id after.given) next.1)

  pub configured_new : (id : ℕ) (receivers : List (List ℕ)) (ask : Ask) (now : ℕ) → configure_answer nodes registry id receivers ask ≡ Ok tt → IsNew registry (newly_configured nodes registry id receivers ask now) id
  configured_new id receivers ask now ok =
      let none = none_holds (configure_reasons nodes registry id receivers ask) (nothing_refused (first_refusal (configure_reasons nodes registry id receivers ask)) ok) in
      let parts = or_parts (not (is_configurable id)) (is_id_taken id registry) none.1.1.1.1.0 in
      let low : is_configurable id ≡ true = not-false (is_configurable id) parts.0 in
      let after : Subscriptions = newly_configured nodes registry id receivers ask now in
      (configured_given id registry low ∙ parts.1, configured_given id after low ∙ laws.taken nodes registry id receivers ask now ok)
