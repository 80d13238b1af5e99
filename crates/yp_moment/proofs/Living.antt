-- A subscription that has a receiver, and that has not ended, is live for it.
use Rattle.std.proofs.Common.{◌≡◌, ◌≢◌, ℕ, zero, suc, ◌==◌, refl, sym, ap, subst, ◌∙◌, Bool, true, false, true≢false, not, ◌&&◌, ◌||◌, List, [], ◌∷◌, take, Option, Some, None, Result, Ok, Err}
use Rattle.std.specs.Prelude.{IsSomeAnd, option_map, if◌then◌else◌}
use Rattle.std.specs.List.{list_any}
use Rattle.std.proofs.lemmas.Bool.{eqb-false, eqb-true}
use Rattle.yp_base.specs.declared.notice.Trigger.{Trigger}
use Rattle.yp_schema.specs.declared.schema.SchemaNode.{SchemaNode}
use Rattle.yp_nacm.specs.declared.policy.Policy.{Policy}
use Rattle.yp_terms.specs.declared.ask.Amend.{Amend}
use Rattle.yp_terms.specs.declared.ask.Ask.{Ask}
use Rattle.yp_terms.specs.declared.refused.Refused.{Refused}
use Rattle.yp_terms.specs.Amends.{amended_terms}
use Rattle.yp_terms.specs.Refusals.{first_refusal}
use Rattle.yp_terms.specs.Terms.{Terms, has_sync, is_established_by, with_anchor}
use Rattle.yp_registry.specs.Amending.{changed_terms, modify_reasons, reconfigure_reasons, with_change}
use Rattle.yp_registry.specs.Calls.{delete_reasons, done_unless, kill_reasons, left_unless, live_without, resync_answer, resync_reasons, unconfigure_reasons, with_end}
use Rattle.yp_registry.specs.Configuring.{configure_answer, configure_reasons, configured_terms, newly_configured, with_configured}
use Rattle.yp_registry.specs.Ids.{HasRisingIds}
use Rattle.yp_registry.specs.Registry.{Subscriptions, establish_answer, established, live_at, next_id, terms_for}
use Rattle.yp_feed.specs.declared.item.Control.TheVariants as feeds
use Rattle.yp_journal.specs.declared.command.Command.{Command}
use Rattle.yp_journal.specs.declared.command.Command.TheVariants.{Tick, Edit, Rules, Establish, Modify, Delete, Kill, Resync, Configure, Reconfigure, Unconfigure, Take}
use Rattle.yp_journal.specs.declared.entry.Entry.{Entry}
use Rattle.yp_journal.specs.declared.receiver.ReceiverInfo.{ReceiverInfo}
use Rattle.yp_journal.specs.declared.reply.Reply.{Reply}
use Rattle.yp_journal.specs.declared.reply.Reply.TheVariants.{Done, Id}
use Rattle.yp_journal.specs.History.{IsLegal, JournalState, after_establish, call_reply, first_state, next_state, reply_by, reply_to, state_of}
use Rattle.yp_attempt.specs.Moments.{Act, Controls, Drops, Starts}
use Rattle.yp_mirror.specs.Living.{ended_after, ended_by, has_after, has_by, has_ended, has_receiver}
use Rattle.yp_moment.specs.Entries.{act_of, given_by, goes_on_with, moments_from, moments_of, where_done}
use Rattle.yp_moment.specs.Ids.{was_given}
use Rattle.yp_moment.specs.Living.{AreTermsFor, IsLiveAt}
use Rattle.yp_moment.proofs.Doing.{act_asked, act_configured}
use Rattle.yp_moment.proofs.Ended.{OtherLaws}
use Rattle.yp_moment.proofs.Ids.{IsNew, next_free}
use Rattle.yp_moment.proofs.Registries.{IdsRise, ids_next}
use Rattle.yp_moment.proofs.Starting.{StartLaws}

-- the laws of the registry that are rested on
pub record LiveLaws : Type 0 where
  pub rise : IdsRise
  pub others : OtherLaws
  pub starts : StartLaws
  pub refused : (refusal : Option Refused) (before after : Subscriptions) (why : Refused) → done_unless refusal ≡ Err why → left_unless refusal before after ≡ before
  pub resynced : (policy : Policy) (registry : Subscriptions) (by id : ℕ) → resync_answer policy registry by id ≡ Ok tt → IsSomeAnd (live_at id registry.live) (λ terms. (is_established_by by terms ≡ true) × (has_sync terms.trigger ≡ true))

-- ---- what is found by an id

module _ (receiver id : ℕ) where
  -- terms name the receiver, and without them the subscription has ended
  abbrev Fits : Bool → Option Terms → Type 0
  Fits ended None = ended ≡ true
  Fits ended (Some terms) = list_any (λ other. other == receiver) terms.receivers ≡ true

  -- of a subscription that has the receiver: its id was given, and what is found by it fits
  abbrev Stands : Subscriptions → Bool → Bool → Type 0
  Stands registry had ended = had ≡ true → (was_given id registry ≡ true) × Fits ended (live_at id registry.live)

  -- ---- a subscription starts

  either : (had ended : Bool) → (had || (false && ended)) ≡ true → had ≡ true
  either true ended e = refl
  either false ended e = absurd (true≢false (sym e))

  still : (ended : Bool) → (ended && true) ≡ ended
  still true = refl
  still false = refl

  module _ (before after : Subscriptions) (sub : ℕ) (trigger : Trigger) (configured : Bool) (terms : Terms) where
    abbrev names : ℕ → Bool
    names number = list_any (λ other. other == number) terms.receivers

    named : (had : Bool) → (had ≡ true → ⊥) → (had || (true && names receiver)) ≡ true → names receiver ≡ true
    named true none e = absurd (none refl)
    named false none e = e

    starts_by : (had ended b : Bool) → (id == sub) ≡ b → IsNew before after sub → live_at sub after.live ≡ Some terms → (id ≢ sub → live_at id after.live ≡ live_at id before.live) → (was_given id before ≡ true → was_given id after ≡ true)
        → Stands before had ended → (had || (b && names receiver)) ≡ true → (was_given id after ≡ true) × Fits (ended && not b) (live_at id after.live)
    starts_by had ended true e new found other stays stands has =
        let same : id ≡ sub = eqb-true id sub e in
        let none : had ≡ true → ⊥ = (λ h. true≢false (sym (stands h).0 ∙ (ap (λ (n : ℕ). was_given n before) same ∙ new.0))) in (
          ap (λ (n : ℕ). was_given n after) same ∙ new.1,
          subst (Fits (ended && false)) (sym (ap (λ (n : ℕ). live_at n after.live) same ∙ found)) (named had none has),
        )
    starts_by had ended false e new found other stays stands has =
        let it = stands (either had (names receiver) has) in
        (stays it.0, subst (Fits (ended && true)) (sym (other (eqb-false id sub e))) (subst (λ (b : Bool). Fits b (live_at id before.live)) (sym (still ended)) it.1))

    starts_on : (had ended : Bool) → IsNew before after sub → live_at sub after.live ≡ Some terms → (id ≢ sub → live_at id after.live ≡ live_at id before.live) → (was_given id before ≡ true → was_given id after ≡ true)
        → Stands before had ended → Stands after (has_by id receiver had (Starts sub trigger configured names)) (ended_by id ended (Starts sub trigger configured names))
    starts_on had ended new found other stays stands has = starts_by had ended (id == sub) refl new found other stays stands has

  -- ---- other calls

  -- a subscription that is live goes on
  goes_on : (registry : Subscriptions) (sub : ℕ) (terms : Terms) (had ended b : Bool) → (id == sub) ≡ b → live_at sub registry.live ≡ Some terms → Stands registry had ended → Stands registry had (if b then false else ended)
  goes_on registry sub terms had ended true e found stands = λ has.
      let it = stands has in
      let here : live_at id registry.live ≡ Some terms = ap (λ (n : ℕ). live_at n registry.live) (eqb-true id sub e) ∙ found in
      (it.0, subst (Fits false) (sym here) (subst (Fits ended) here it.1))
  goes_on registry sub terms had ended false e found stands = stands

  goes_on_if : (registry : Subscriptions) (sub : ℕ) (told : Bool) (had ended : Bool) (found : Option Terms) → live_at sub registry.live ≡ found → Stands registry had ended
      → Stands registry (has_by id receiver had (goes_on_with sub told found)) (ended_by id ended (goes_on_with sub told found))
  goes_on_if registry sub told had ended None is stands = stands
  goes_on_if registry sub told had ended (Some terms) is stands = goes_on registry sub terms had ended (id == sub) refl is stands

  module _ (laws : LiveLaws) (nodes : List SchemaNode) (registry : Subscriptions) where
    -- amended terms are for the same receivers
    fits_amended : (amend : Amend) (now : ℕ) (ended : Bool) (found : Option Terms) → Fits ended found → Fits ended (option_map (amended_terms nodes amend now) found)
    fits_amended amend now ended None fits = fits
    fits_amended amend now ended (Some terms) fits = fits

    changed_by : (sub : ℕ) (amend : Amend) (now : ℕ) (ended b : Bool) → (id == sub) ≡ b → Fits ended (live_at id registry.live) → Fits ended (live_at id (changed_terms sub (amended_terms nodes amend now) registry.live))
    changed_by sub amend now ended true e fits =
        subst (λ (n : ℕ). Fits ended (live_at id (changed_terms n (amended_terms nodes amend now) registry.live))) (eqb-true id sub e)
        (subst (Fits ended) (sym (laws.others.amend nodes amend now id registry.live)) (fits_amended amend now ended (live_at id registry.live) fits))
    changed_by sub amend now ended false e fits = subst (Fits ended) (sym (laws.others.amend_others nodes amend now sub id registry.live (eqb-false id sub e))) fits

    changed_on : (refusal : Option Refused) (sub : ℕ) (told : Bool) (amend : Amend) (now : ℕ) (had ended : Bool) → Stands registry had ended
        → Stands (left_unless refusal registry (with_change sub (amended_terms nodes amend now) registry))
        (has_by id receiver had (where_done (call_reply (done_unless refusal)) (goes_on_with sub told (live_at sub (left_unless refusal registry (with_change sub (amended_terms nodes amend now) registry)).live))))
        (ended_by id ended (where_done (call_reply (done_unless refusal)) (goes_on_with sub told (live_at sub (left_unless refusal registry (with_change sub (amended_terms nodes amend now) registry)).live))))
    changed_on (Some refusal) sub told amend now had ended stands = stands
    changed_on None sub told amend now had ended stands =
        let changed : Subscriptions = with_change sub (amended_terms nodes amend now) registry in
        goes_on_if changed sub told had ended (live_at sub changed.live) refl (λ has. ((stands has).0, changed_by sub amend now ended (id == sub) refl (stands has).1))

    -- one that ends is found no more
    ends_by : (sub : ℕ) (had ended b : Bool) → (id == sub) ≡ b → Stands registry had ended → Stands (with_end sub registry) had (if b then true else ended)
    ends_by sub had ended true e stands has =
        ((stands has).0, subst (Fits true) (sym (ap (λ (n : ℕ). live_at id (live_without n registry.live)) (sym (eqb-true id sub e)) ∙ laws.others.end id registry.live)) refl)
    ends_by sub had ended false e stands has = ((stands has).0, subst (Fits ended) (sym (laws.others.end_others sub id registry.live (eqb-false id sub e))) (stands has).1)

    ends_on : (refusal : Option Refused) (sub : ℕ) (had ended : Bool) → Stands registry had ended
        → Stands (left_unless refusal registry (with_end sub registry)) (has_by id receiver had (where_done (call_reply (done_unless refusal)) (Controls sub feeds.End))) (ended_by id ended (where_done (call_reply (done_unless refusal)) (Controls sub feeds.End)))
    ends_on (Some refusal) sub had ended stands = stands
    ends_on None sub had ended stands = ends_by sub had ended (id == sub) refl stands

    -- one that is dropped has no receiver
    drops_by : (sub : ℕ) (had ended b : Bool) → (id == sub) ≡ b → Stands registry had ended → Stands (with_end sub registry) (had && not b) ended
    drops_by sub had ended false e stands has =
        let it = stands (sym (still had) ∙ has) in
        (it.0, subst (Fits ended) (sym (laws.others.end_others sub id registry.live (eqb-false id sub e))) it.1)
    drops_by sub true ended true e stands has = absurd (true≢false (sym has))
    drops_by sub false ended true e stands has = absurd (true≢false (sym has))

    drops_on : (refusal : Option Refused) (sub : ℕ) (had ended : Bool) → Stands registry had ended
        → Stands (left_unless refusal registry (with_end sub registry)) (has_by id receiver had (where_done (call_reply (done_unless refusal)) (Drops sub))) (ended_by id ended (where_done (call_reply (done_unless refusal)) (Drops sub)))
    drops_on (Some refusal) sub had ended stands = stands
    drops_on None sub had ended stands = drops_by sub had ended (id == sub) refl stands

    -- one that resynchronises is live
    resynced_by : (sub : ℕ) (P : Terms → Type 0) (had ended : Bool) (found : Option Terms) → live_at sub registry.live ≡ found → IsSomeAnd found P → Stands registry had ended → Stands registry had (if id == sub then false else ended)
    resynced_by sub P had ended None is there stands = absurd there
    resynced_by sub P had ended (Some terms) is there stands = goes_on registry sub terms had ended (id == sub) refl is stands

    resyncs_on : (policy : Policy) (by sub : ℕ) (had ended : Bool) (refusal : Option Refused) → first_refusal (resync_reasons policy registry by sub) ≡ refusal → Stands registry had ended
        → Stands registry (has_by id receiver had (where_done (call_reply (done_unless refusal)) (Controls sub feeds.Resync))) (ended_by id ended (where_done (call_reply (done_unless refusal)) (Controls sub feeds.Resync)))
    resyncs_on policy by sub had ended (Some refusal) is stands = stands
    resyncs_on policy by sub had ended None is stands =
        resynced_by sub (λ terms. (is_established_by by terms ≡ true) × (has_sync terms.trigger ≡ true)) had ended (live_at sub registry.live) refl (laws.resynced policy registry by sub (ap done_unless is)) stands

  -- ---- a command

  module _ (laws : LiveLaws) (nodes : List SchemaNode) (state : JournalState) (ids : HasRisingIds state.registry) (had ended : Bool) (stands : Stands state.registry had ended) where
    -- of what an act makes of it
    abbrev StandsBy : Subscriptions → Act → Type 0
    StandsBy after act = Stands after (has_by id receiver had act) (ended_by id ended act)

    apart : (other : ℕ) → was_given other state.registry ≡ false → was_given id state.registry ≡ true → id ≢ other
    apart other free given same = true≢false (sym given ∙ ap (λ (n : ℕ). was_given n state.registry) same ∙ free)

    establishes : (by : ℕ) (ask : Ask) (answer : Result ℕ Refused) → establish_answer nodes state.policy state.registry by ask state.stamp ≡ answer
        → StandsBy (after_establish nodes state by ask).registry (given_by (reply_by answer) (after_establish nodes state by ask))
    establishes by ask (Ok new) is =
        let after : Subscriptions = established nodes state.policy state.registry by ask state.stamp in
        let terms : Terms = terms_for nodes state.registry by ask state.stamp in
        let next : new ≡ next_id state.registry.given = (laws.starts.establish.next nodes state.policy state.registry by ask state.stamp new is).0 in
        subst (StandsBy after) (sym (act_asked laws.starts.establish nodes state (Establish by ask) (Id new) by new ask ids refl refl (sym (ap reply_by is))))
        (starts_on state.registry after new (with_anchor state.stamp ask.trigger) false terms had ended (laws.starts.established_new nodes state by ask new (ap reply_by is))
        (laws.starts.establish.found nodes state.policy state.registry by ask state.stamp new ids is)
        (λ other. laws.others.establish nodes state.policy state.registry by ask state.stamp id (λ same. other (same ∙ sym next))) (laws.others.stays nodes state (Establish by ask) id) stands)
    establishes by ask (Err refusal) is = λ has.
        let it = stands has in (
          laws.others.stays nodes state (Establish by ask) id it.0,
          subst (Fits ended) (sym (laws.others.establish nodes state.policy state.registry by ask state.stamp id (apart (next_id state.registry.given) (next_free state.registry) it.0))) it.1,
        )

    configures : (sub : ℕ) (receivers : List (List ℕ)) (ask : Ask) (answer : Result Unit Refused) → configure_answer nodes state.registry sub receivers ask ≡ answer
        → StandsBy (next_state nodes state (Configure sub receivers ask)).registry (act_of (Configure sub receivers ask) (call_reply answer) (next_state nodes state (Configure sub receivers ask)))
    configures sub receivers ask (Ok done) is =
        let terms : Terms = configured_terms nodes state.registry sub receivers ask state.stamp in
        let after : Subscriptions = newly_configured nodes state.registry sub receivers ask state.stamp in
        let left : after ≡ with_configured state.registry terms = laws.starts.configure.done (first_refusal (configure_reasons nodes state.registry sub receivers ask)) state.registry (with_configured state.registry terms) is in
        subst (StandsBy after) (sym (act_configured laws.starts.configure nodes state (Configure sub receivers ask) Done sub receivers ask ids refl refl (sym (ap call_reply is))))
        (starts_on state.registry after sub (with_anchor state.stamp ask.trigger) true terms had ended (laws.starts.configured_new nodes state sub receivers ask (ap call_reply is))
        (ap (λ (r : Subscriptions). live_at sub r.live) left ∙ laws.starts.configure.found terms state.registry.live (laws.starts.configure.fresh nodes state.registry sub receivers ask ids is))
        (λ other. ap (λ (r : Subscriptions). live_at id r.live) left ∙ laws.others.configure_others terms state.registry.live id other) (laws.others.stays nodes state (Configure sub receivers ask) id) stands)
    configures sub receivers ask (Err refusal) is = λ has.
        let it = stands has in
        let terms : Terms = configured_terms nodes state.registry sub receivers ask state.stamp in (
          laws.others.stays nodes state (Configure sub receivers ask) id it.0,
          subst (λ (r : Subscriptions). Fits ended (live_at id r.live)) (sym (laws.refused (first_refusal (configure_reasons nodes state.registry sub receivers ask)) state.registry (with_configured state.registry terms) refusal is)) it.1,
        )

    stands_by : (command : Command) → StandsBy (next_state nodes state command).registry (act_of command (reply_to nodes state command) (next_state nodes state command))
    stands_by (Tick tick) = stands
    stands_by (Edit patch) = stands
    stands_by (Rules policy) = stands
    stands_by (Establish by ask) = establishes by ask (establish_answer nodes state.policy state.registry by ask state.stamp) refl
    stands_by (Modify by sub amend) = changed_on laws nodes state.registry (first_refusal (modify_reasons nodes state.policy state.registry by sub amend)) sub false amend state.stamp had ended stands
    stands_by (Delete by sub) = drops_on laws nodes state.registry (first_refusal (delete_reasons state.policy state.registry by sub)) sub had ended stands
    stands_by (Kill by sub) = ends_on laws nodes state.registry (first_refusal (kill_reasons state.policy state.registry by sub)) sub had ended stands
    stands_by (Resync by sub) = resyncs_on laws nodes state.registry state.policy by sub had ended (first_refusal (resync_reasons state.policy state.registry by sub)) refl stands
    stands_by (Configure sub receivers ask) = configures sub receivers ask (configure_answer nodes state.registry sub receivers ask) refl
    stands_by (Reconfigure sub amend) = changed_on laws nodes state.registry (first_refusal (reconfigure_reasons nodes state.registry sub amend)) sub true amend state.stamp had ended stands
    stands_by (Unconfigure sub) = ends_on laws nodes state.registry (first_refusal (unconfigure_reasons state.registry sub)) sub had ended stands
    stands_by (Take number count) = stands

  -- ---- a journal

  module _ (laws : LiveLaws) (nodes : List SchemaNode) where
    stands_on : (n : ℕ) (state : JournalState) (entries : List Entry) (had ended : Bool) → HasRisingIds state.registry → IsLegal nodes state entries → Stands state.registry had ended
        → Stands (state_of nodes state (take n entries)).registry (has_after id receiver had (take n (moments_from nodes state entries))) (ended_after id ended (take n (moments_from nodes state entries)))
    stands_on zero state entries had ended ids legal stands = stands
    stands_on (suc n) state [] had ended ids legal stands = stands
    stands_on (suc n) state (entry ∷ entries) had ended ids legal stands =
        let next : JournalState = next_state nodes state entry.command in
        let act : Act = act_of entry.command entry.reply next in
        stands_on n next entries (has_by id receiver had act) (ended_by id ended act) (ids_next laws.rise nodes state entry.command ids) legal.1
        (subst (λ (reply : Reply). Stands next.registry (has_by id receiver had (act_of entry.command reply next)) (ended_by id ended (act_of entry.command reply next))) (sym legal.0.reply)
        (stands_by laws nodes state ids had ended stands entry.command))

    fits_live : (ended : Bool) (found : Option Terms) → ended ≡ false → Fits ended found → AreTermsFor receiver found
    fits_live ended None lives fits = true≢false (sym fits ∙ lives)
    fits_live ended (Some terms) lives fits = fits

    pub is_live : (receivers : List ReceiverInfo) (entries : List Entry) (n : ℕ) → IsLegal nodes (first_state receivers) entries
        → has_receiver id receiver (take n (moments_of nodes receivers entries)) ≡ true → has_ended id (take n (moments_of nodes receivers entries)) ≡ false → IsLiveAt nodes receivers entries receiver id n
    is_live receivers entries n legal has lives =
        let first : JournalState = first_state receivers in
        let it = stands_on n first entries false false (laws.rise.first first.registry.users first.registry.names) legal (λ none. absurd (true≢false (sym none))) has in
        fits_live (has_ended id (take n (moments_of nodes receivers entries))) (live_at id (state_of nodes first (take n entries)).registry.live) lives it.1
