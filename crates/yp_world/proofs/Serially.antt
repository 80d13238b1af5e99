-- A serial run is a list of events.
use Rattle.std.proofs.Common.{◌≡◌, ℕ, zero, suc, ◌+◌, ◌<◌, ◌≤◌, refl, sym, ap, subst, ◌∙◌, Bool, true, false, List, [], ◌∷◌, ◌++◌, map, length, take, drop, Option, Some, None, arith, length-append, append_assoc, append-nil}
use Rattle.std.specs.Prelude.{if◌then◌else◌, ◌==◌, nat_lt, slice_set, option_map}
use Rattle.std.proofs.Math.Seq.{drop-append_seam, take-append_seam}
use Rattle.std.proofs.lemmas.List.{length-map}
use Rattle.std.specs.List.{slice_get}
use Rattle.std.proofs.lemmas.Bool.{eqb-true}
use Rattle.std.proofs.lemmas.Option.{none-some, same_Some, slice_get-map, slice_get_within}
use Rattle.yp_attempt.specs.Attempts.{Notification, answers_in, notification_of, of_receiver}
use Rattle.yp_attempt.specs.Content.{Content}
use Rattle.yp_attempt.specs.ListLaws.{all_before}
use Rattle.yp_attempt.specs.Moments.{Moment, MayFollow, AllMayFollow}
use Rattle.yp_attempt.specs.Runs.{Found, Reaches, Standing, advanced, settled, waits}
use Rattle.yp_attempt.specs.Tracks.{Answer, Attempt, Took, Full, attempt}
use Rattle.yp_attempt.specs.AttemptLaws.{own_more, other_more}
use Rattle.yp_serial.specs.DueTicks.{GiveDueTicks, GivesDueTicks}
use Rattle.yp_serial.specs.Posts.{Post, Queueing, after_take, first_post}
use Rattle.yp_serial.specs.Posts as posts
use Rattle.yp_serial.specs.Serial.{Served, Taking, all_offered, found_answer, offers_on, serial_run, served_advanced, served_settled, while_offered}
use Rattle.yp_serial.specs.Weights.{weights}
use Rattle.yp_world.specs.Holding.{Holds, IsDeliveryOf}
use Rattle.yp_world.specs.Serially.{HavePlaces, IsDeliveryIn, LeadTo, with_one_worker}
use Rattle.yp_world.specs.World.{Absorb, Append, Delivery, Event, Offer, Setup, Take, World, absorb_next, after_events, delivery_after, queue_answer, append_if, first_delivery, first_world, offer_found, offer_to, post_of, receivers_of, take_first, take_from}
use Rattle.yp_base.specs.Elements.{get_map}
use Rattle.yp_attempt.specs.RunLaws.{FindsFirst, position_is}
use Rattle.yp_world.specs.EventLaws.{after_both, may_tells}
use Rattle.yp_world.proofs.Doing.{queue_there}
use Rattle.yp_attempt.specs.ElementLaws.{get_set_other, get_set_same}
use Rattle.yp_world.proofs.Events.{delivered, events_hold, first_holds, first_taken, room_by, self_is}

-- ---- deliveries

same_post : (one two : Post) → one.held ≡ two.held → one.taken ≡ two.taken → one ≡ two
same_post one two held taken = λ i. record { held = held i; taken = taken i }

-- each receiver's delivery has its post, and is that of its attempts
abbrev HaveGot : List Delivery → (ℕ → Post) → List Attempt → Type 0
HaveGot deliveries p done = (receiver : ℕ) (delivery : Delivery) → slice_get deliveries receiver ≡ Some delivery → (post_of delivery ≡ p receiver) × IsDeliveryOf delivery (of_receiver receiver done)

other_posts : (deliveries : List Delivery) (p r : ℕ → Post) (done : List Attempt) → ((receiver : ℕ) → p receiver ≡ r receiver) → HaveGot deliveries p done → HaveGot deliveries r done
other_posts deliveries p r done same have receiver delivery at = ((have receiver delivery at).0 ∙ same receiver, (have receiver delivery at).1)

-- one delivery is set
set_posts : (deliveries : List Delivery) (p : ℕ → Post) (done later : List Attempt) (receiver : ℕ) (old new : Delivery) (f : Post → Post) → slice_get deliveries receiver ≡ Some old → post_of new ≡ f (post_of old)
    → (IsDeliveryOf old (of_receiver receiver done) → IsDeliveryOf new (of_receiver receiver later)) → ((x : ℕ) → (receiver == x) ≡ false → of_receiver x later ≡ of_receiver x done) → HaveGot deliveries p done
    → HaveGot (slice_set deliveries receiver new) (λ x. if receiver == x then f (p x) else p x) later
set_posts deliveries p done later receiver old new f at is goes others have x delivery there = by (receiver == x) refl
  where
    by : (b : Bool) → (receiver == x) ≡ b → (post_of delivery ≡ (if b then f (p x) else p x)) × IsDeliveryOf delivery (of_receiver x later)
    by true e =
        let same : receiver ≡ x = eqb-true receiver x e in
        let new_one : new ≡ delivery = same_Some new delivery (sym (get_set_same deliveries receiver old new at) ∙ (ap (λ (y : ℕ). slice_get (slice_set deliveries receiver new) y) same ∙ there)) in (
          ap post_of (sym new_one) ∙ (is ∙ (ap f (have receiver old at).0 ∙ ap (λ (y : ℕ). f (p y)) same)),
          subst (λ (y : ℕ × Delivery). IsDeliveryOf y.1 (of_receiver y.0 later)) (λ i. (same i, new_one i)) (goes (have receiver old at).1),
        )
    by false e =
        let it = have x delivery (sym (get_set_other deliveries receiver x new e) ∙ there) in
        (it.0, subst (λ (xs : List Attempt). IsDeliveryOf delivery xs) (sym (others x e)) it.1)

-- ---- events one after the other

-- events lead from a world to one of this journal, where the one worker stands here, and the receivers have these posts after these attempts
record LeadOn (setup : Setup) (world : World) (journal : List Moment) (standing : Standing) (p : ℕ → Post) (done : List Attempt) : Type 0 where
  pub events : List Event
  pub deliveries : List Delivery
  pub lead : after_events setup world events ≡ with_one_worker journal standing deliveries
  pub have : HaveGot deliveries p done

then_leads : FindsFirst → (setup : Setup) (world : World) (journal : List Moment) (standing : Standing) (p : ℕ → Post) (done : List Attempt) (later : List Moment) (next : Standing) (r : ℕ → Post) (more : List Attempt) → Holds setup world → LeadOn setup world journal standing p done
    → ((deliveries : List Delivery) → Holds setup (with_one_worker journal standing deliveries) → HaveGot deliveries p done → LeadOn setup (with_one_worker journal standing deliveries) later next r more) → LeadOn setup world later next r more
then_leads finds setup world journal standing p done later next r more h first further =
    let second : LeadOn setup (with_one_worker journal standing first.deliveries) later next r more = further first.deliveries (subst (λ (w : World). Holds setup w) first.lead (events_hold finds setup world first.events h)) first.have in
    record {
      events = first.events ++ second.events;
      deliveries = second.deliveries;
      lead = after_both setup world first.events second.events ∙ (ap (λ (w : World). after_events setup w second.events) first.lead ∙ second.lead);
      have = second.have;
    }

with_posts : (setup : Setup) (world : World) (journal : List Moment) (standing : Standing) (p r : ℕ → Post) (done : List Attempt) → ((receiver : ℕ) → p receiver ≡ r receiver) → LeadOn setup world journal standing p done → LeadOn setup world journal standing r done
with_posts setup world journal standing p r done same to = record { events = to.events; deliveries = to.deliveries; lead = to.lead; have = other_posts to.deliveries p r done same to.have }

-- ---- takes

-- where there is none to take nothing is taken
none_taken : (p : Post) → p.held ≡ 0 → after_take 1 p ≡ p
none_taken p none = same_post (after_take 1 p) p (omega (arith, none)) (omega (arith, none))

no_take : (deliveries : List Delivery) (p : ℕ → Post) (done : List Attempt) (receiver : ℕ) → slice_get deliveries receiver ≡ None → HaveGot deliveries p done → HaveGot deliveries (λ x. if receiver == x then after_take 1 (p x) else p x) done
no_take deliveries p done receiver at have x delivery there = by (receiver == x) refl
  where
    by : (b : Bool) → (receiver == x) ≡ b → (post_of delivery ≡ (if b then after_take 1 (p x) else p x)) × IsDeliveryOf delivery (of_receiver x done)
    by true e = absurd (none-some delivery (sym at ∙ (ap (λ (y : ℕ). slice_get deliveries y) (eqb-true receiver x e) ∙ there)))
    by false e = have x delivery there

empty_take : (deliveries : List Delivery) (p : ℕ → Post) (done : List Attempt) (receiver : ℕ) (old : Delivery) → slice_get deliveries receiver ≡ Some old → old.queue ≡ [] → HaveGot deliveries p done → HaveGot deliveries (λ x. if receiver == x then after_take 1 (p x) else p x) done
empty_take deliveries p done receiver old at empty have x delivery there = (by (receiver == x) refl, (have x delivery there).1)
  where
    by : (b : Bool) → (receiver == x) ≡ b → post_of delivery ≡ (if b then after_take 1 (p x) else p x)
    by true e =
        let same : receiver ≡ x = eqb-true receiver x e in
        let old_one : old ≡ delivery = same_Some old delivery (sym at ∙ (ap (λ (y : ℕ). slice_get deliveries y) same ∙ there)) in
        let is : post_of delivery ≡ p x = (have x delivery there).0 in
        let none : (post_of delivery).held ≡ 0 = ap (λ (d : Delivery). length d.queue) (sym old_one) ∙ ap (λ (ns : List Notification). length ns) empty in
        is ∙ sym (none_taken (p x) (ap (λ (post : Post). post.held) (sym is) ∙ none))
    by false e = (have x delivery there).0

taken_post : (delivery : Delivery) (n : Notification) (queue : List Notification) → delivery.queue ≡ n ∷ queue → post_of (record delivery { queue = queue; taken = delivery.taken ++ n ∷ [] }) ≡ after_take 1 (post_of delivery)
taken_post delivery n queue is =
    let longer : length delivery.queue ≡ suc (length queue) = ap (λ (ns : List Notification). length ns) is in
    let more : length (delivery.taken ++ n ∷ []) ≡ length delivery.taken + 1 = length-append delivery.taken (n ∷ []) in
    same_post (post_of (record delivery { queue = queue; taken = delivery.taken ++ n ∷ [] })) (after_take 1 (post_of delivery)) (omega (arith, longer)) (omega (arith, longer, more))

module _ (setup : Setup) (journal : List Moment) (standing : Standing) (p : ℕ → Post) (done : List Attempt) (receiver : ℕ) where
  abbrev Taken : ℕ → Post
  Taken x = if receiver == x then after_take 1 (p x) else p x

  take_leads_by : (deliveries : List Delivery) → HaveGot deliveries p done → (delivery : Delivery) → slice_get deliveries receiver ≡ Some delivery → (queue : List Notification) → delivery.queue ≡ queue
      → (after : World) → after ≡ (take_first (with_one_worker journal standing deliveries) receiver delivery queue).0 → (next : List Delivery) × (after ≡ with_one_worker journal standing next) × HaveGot next Taken done
  take_leads_by deliveries have delivery at [] is after comes = (deliveries, comes, empty_take deliveries p done receiver delivery at is have)
  take_leads_by deliveries have delivery at (n ∷ queue) is after comes =
      let new : Delivery = record delivery { queue = queue; taken = delivery.taken ++ n ∷ [] } in (
        slice_set deliveries receiver new,
        comes,
        set_posts deliveries p done done receiver delivery new (after_take 1) at (taken_post delivery n queue is) (λ it. first_taken delivery n queue (of_receiver receiver done) is it) (λ x e. refl) have,
      )

  take_leads_from : (deliveries : List Delivery) → HaveGot deliveries p done → (o : Option Delivery) → slice_get deliveries receiver ≡ o
      → (next : List Delivery) × ((take_from (with_one_worker journal standing deliveries) receiver o).0 ≡ with_one_worker journal standing next) × HaveGot next Taken done
  take_leads_from deliveries have None at = (deliveries, refl, no_take deliveries p done receiver at have)
  take_leads_from deliveries have (Some delivery) at = take_leads_by deliveries have delivery at delivery.queue refl (take_first (with_one_worker journal standing deliveries) receiver delivery delivery.queue).0 refl

  -- a receiver takes one notification, if there is one
  take_leads : (deliveries : List Delivery) → HaveGot deliveries p done → LeadOn setup (with_one_worker journal standing deliveries) journal standing Taken done
  take_leads deliveries have =
      let to = take_leads_from deliveries have (slice_get deliveries receiver) refl in
      record { events = Take receiver ∷ []; deliveries = to.0; lead = to.1; have = to.2 }

stays : (setup : Setup) (journal : List Moment) (standing : Standing) (p : ℕ → Post) (done : List Attempt) (deliveries : List Delivery) → HaveGot deliveries p done → LeadOn setup (with_one_worker journal standing deliveries) journal standing p done
stays setup journal standing p done deliveries have = record { events = []; deliveries = deliveries; lead = refl; have = have }

take_none : (p : Post) → p ≡ after_take 0 p
take_none p = same_post p (after_take 0 p) (omega arith) (omega arith)

take_more : (k : ℕ) (p : Post) → after_take k (after_take 1 p) ≡ after_take (suc k) p
take_more k p = same_post (after_take k (after_take 1 p)) (after_take (suc k) p) (omega arith) (omega arith)

-- it takes so many, as far as there are
takes_lead : FindsFirst → (setup : Setup) (journal : List Moment) (standing : Standing) (receiver k : ℕ) (p : ℕ → Post) (done : List Attempt) (deliveries : List Delivery) → Holds setup (with_one_worker journal standing deliveries) → HaveGot deliveries p done
    → LeadOn setup (with_one_worker journal standing deliveries) journal standing (λ x. if receiver == x then after_take k (p x) else p x) done
takes_lead finds setup journal standing receiver zero p done deliveries h have =
    with_posts setup (with_one_worker journal standing deliveries) journal standing p (λ x. if receiver == x then after_take 0 (p x) else p x) done (λ x. by x (receiver == x)) (stays setup journal standing p done deliveries have)
  where
    by : (x : ℕ) (b : Bool) → p x ≡ (if b then after_take 0 (p x) else p x)
    by x true = take_none (p x)
    by x false = refl
takes_lead finds setup journal standing receiver (suc k) p done deliveries h have =
    let one : ℕ → Post = (λ x. if receiver == x then after_take 1 (p x) else p x) in
    let more : ℕ → Post = (λ x. if receiver == x then after_take k (one x) else one x) in
    with_posts setup (with_one_worker journal standing deliveries) journal standing more (λ x. if receiver == x then after_take (suc k) (p x) else p x) done (λ x. by x (receiver == x))
    (then_leads finds setup (with_one_worker journal standing deliveries) journal standing one done journal standing more done h (take_leads setup journal standing p done receiver deliveries have)
    (λ next holds are. takes_lead finds setup journal standing receiver k one done next holds are))
  where
    by : (x : ℕ) (b : Bool) → (if b then after_take k (if b then after_take 1 (p x) else p x) else (if b then after_take 1 (p x) else p x)) ≡ (if b then after_take (suc k) (p x) else p x)
    by x true = take_more k (p x)
    by x false = refl

-- the first receivers take, each so many
abbrev taken_below : ℕ → (ℕ → ℕ) → (ℕ → Post) → ℕ → Post
taken_below zero counts p = p
taken_below (suc n) counts p = λ x. if n == x then after_take (counts n) (taken_below n counts p x) else taken_below n counts p x

all_take : FindsFirst → (setup : Setup) (journal : List Moment) (standing : Standing) (counts : ℕ → ℕ) (n : ℕ) (p : ℕ → Post) (done : List Attempt) (deliveries : List Delivery) → Holds setup (with_one_worker journal standing deliveries) → HaveGot deliveries p done
    → LeadOn setup (with_one_worker journal standing deliveries) journal standing (taken_below n counts p) done
all_take finds setup journal standing counts zero p done deliveries h have = stays setup journal standing p done deliveries have
all_take finds setup journal standing counts (suc n) p done deliveries h have =
    then_leads finds setup (with_one_worker journal standing deliveries) journal standing (taken_below n counts p) done journal standing (taken_below (suc n) counts p) done h (all_take finds setup journal standing counts n p done deliveries h have)
    (λ next holds are. takes_lead finds setup journal standing n (counts n) (taken_below n counts p) done next holds are)

-- so each of them took as many
past_taken : (n : ℕ) (counts : ℕ → ℕ) (p : ℕ → Post) (x : ℕ) → n ≤ x → taken_below n counts p x ≡ p x
past_taken zero counts p x past = refl
past_taken (suc n) counts p x past =
    let other : (n == x) ≡ false = grind (arith, past) in
    ap (λ (b : Bool). if b then after_take (counts n) (taken_below n counts p x) else taken_below n counts p x) other ∙ past_taken n counts p x (omega (arith, past))

below_taken : (n : ℕ) (counts : ℕ → ℕ) (p : ℕ → Post) (x : ℕ) → x < n → taken_below n counts p x ≡ after_take (counts x) (p x)
below_taken zero counts p x below = absurd (omega (arith, below))
below_taken (suc n) counts p x below = by (n == x) refl (λ few. below_taken n counts p x few)
  where
    less : (n x : ℕ) → (n == x) ≡ false → x < suc n → x < n
    less n x e h = grind (arith, e, h)

    by : (b : Bool) → (n == x) ≡ b → (x < n → taken_below n counts p x ≡ after_take (counts x) (p x)) → (if b then after_take (counts n) (taken_below n counts p x) else taken_below n counts p x) ≡ after_take (counts x) (p x)
    by true e earlier =
        let same : n ≡ x = eqb-true n x e in
        let at_most : n ≤ x = omega (arith, same) in
        (λ i. after_take (counts (same i)) (past_taken n counts p x at_most i))
    by false e earlier = earlier (less n x e below)

-- ---- offers

offered_post : (answer : Answer) (n : Notification) (delivery : Delivery) → post_of (delivery_after answer n delivery) ≡ posts.after_offer false answer (post_of delivery)
offered_post Took n delivery =
    let more : length (delivery.queue ++ n ∷ []) ≡ length delivery.queue + 1 = length-append delivery.queue (n ∷ []) in
    same_post (post_of (delivery_after Took n delivery)) (posts.after_offer false Took (post_of delivery)) more refl
offered_post Full n delivery = refl

taken_at_once : (p : Post) → after_take 1 (posts.after_offer false Took p) ≡ posts.after_offer true Took p
taken_at_once p = same_post (after_take 1 (posts.after_offer false Took p)) (posts.after_offer true Took p) (omega arith) (omega arith)

module _ (finds : FindsFirst) (c : Content) (q : Queueing) (places : List ℕ) (agree : HavePlaces places q) where
  abbrev setup : Setup
  setup = record { content = c; workers = 1; places = places }

  module _ (journal : List Moment) where
    module _ (served : Served) (found : Found) (offers : waits c served.run ≡ Some found) (deliveries : List Delivery) (h : Holds setup (with_one_worker journal served.run.standing deliveries)) (have : HaveGot deliveries served.posts served.run.done) where
      abbrev world : World
      world = with_one_worker journal served.run.standing deliveries

      abbrev its : ℕ
      its = found.track.feed.receiver

      there : (delivery : Delivery) × (slice_get deliveries its ≡ Some delivery)
      there = queue_there finds setup world h 0 served.run.standing refl found offers

      its_places : q.places its ≡ there.0.places
      its_places =
          agree its there.0.places
          (ap (λ (ns : List ℕ). slice_get ns its) (sym h.places) ∙ (slice_get-map (λ (d : Delivery). d.places) deliveries its ∙ ap (λ (o : Option Delivery). option_map (λ d. d.places) o) there.1))

      same_answer : queue_answer there.0 ≡ found_answer q found served
      same_answer = λ i. posts.answer_by (sym its_places i) ((have its there.0 there.1).0 i)

      abbrev After : Answer → Standing
      After answer = record served.run.standing { tracks = settled c served.run.standing found answer }

      -- the attempt with an answer, after those before it
      abbrev its_attempt : Answer → Attempt
      its_attempt answer = attempt c served.run.standing.position served.run.standing.stamp found.track found.item answer

      abbrev Done : Answer → List Attempt
      Done answer = served.run.done ++ its_attempt answer ∷ []

      abbrev Posts : (ℕ → Bool) → Answer → ℕ → Post
      Posts automatic answer x = if its == x then posts.after_offer (automatic x) answer (served.posts x) else served.posts x

      -- what the queue answered is delivered
      its_delivery : IsDeliveryOf there.0 (of_receiver its served.run.done) → IsDeliveryOf (delivery_after (queue_answer there.0) (notification_of (its_attempt (queue_answer there.0))) there.0) (of_receiver its (Done (queue_answer there.0)))
      its_delivery is =
          let answer : Answer = queue_answer there.0 in
          subst (λ (xs : List Attempt). IsDeliveryOf (delivery_after answer (notification_of (its_attempt answer)) there.0) xs) (sym (own_more its served.run.done (its_attempt answer) (self_is its)))
          (delivered there.0 (of_receiver its served.run.done) (its_attempt answer) answer refl (room_by there.0 (nat_lt (length there.0.queue) there.0.places) refl) is)

      offered : LeadOn setup world journal (After (queue_answer there.0)) (Posts (λ x. false) (queue_answer there.0)) (Done (queue_answer there.0))
      offered =
          let answer : Answer = queue_answer there.0 in
          let n : Notification = notification_of (its_attempt answer) in
          record {
            events = Offer 0 ∷ [];
            deliveries = slice_set deliveries its (delivery_after answer n there.0);
            lead = ap (λ (o : Option Found). (offer_found setup world 0 served.run.standing o).0) offers ∙ ap (λ (o : Option Delivery). (offer_to setup world 0 served.run.standing found o).0) there.1;
            have = set_posts deliveries served.posts served.run.done (Done answer) its there.0 (delivery_after answer n there.0) (posts.after_offer false answer) there.1 (offered_post answer n there.0) its_delivery
                (λ x e. other_more x served.run.done (its_attempt answer) e) have;
          }

      -- whether it is the receiver that takes at once
      its_own : (b : Bool) → q.automatic its ≡ b → (x : ℕ) → (its == x) ≡ true → b ≡ q.automatic x
      its_own b e x same = sym e ∙ ap q.automatic (eqb-true its x same)

      taken_by_itself : (b : Bool) → q.automatic its ≡ b → (answer : Answer) → LeadOn setup world journal (After answer) (Posts (λ x. false) answer) (Done answer) → LeadOn setup world journal (After answer) (Posts q.automatic answer) (Done answer)
      taken_by_itself false e answer to = with_posts setup world journal (After answer) (Posts (λ x. false) answer) (Posts q.automatic answer) (Done answer) (λ x. by x (its == x) refl) to
        where
          by : (x : ℕ) (b : Bool) → (its == x) ≡ b → (if b then posts.after_offer false answer (served.posts x) else served.posts x) ≡ (if b then posts.after_offer (q.automatic x) answer (served.posts x) else served.posts x)
          by x true same = ap (λ (b : Bool). posts.after_offer b answer (served.posts x)) (its_own false e x same)
          by x false same = refl
      taken_by_itself true e Full to = with_posts setup world journal (After Full) (Posts (λ x. false) Full) (Posts q.automatic Full) (Done Full) (λ x. refl) to
      taken_by_itself true e Took to =
          with_posts setup world journal (After Took) (λ x. if its == x then after_take 1 (Posts (λ x. false) Took x) else Posts (λ x. false) Took x) (Posts q.automatic Took) (Done Took) (λ x. by x (its == x) refl)
          (then_leads finds setup world journal (After Took) (Posts (λ x. false) Took) (Done Took) journal (After Took) (λ x. if its == x then after_take 1 (Posts (λ x. false) Took x) else Posts (λ x. false) Took x) (Done Took) h to
          (λ next holds are. take_leads setup journal (After Took) (Posts (λ x. false) Took) (Done Took) its next are))
        where
          by : (x : ℕ) (b : Bool) → (its == x) ≡ b
              → (if b then after_take 1 (if b then posts.after_offer false Took (served.posts x) else served.posts x) else (if b then posts.after_offer false Took (served.posts x) else served.posts x))
              ≡ (if b then posts.after_offer (q.automatic x) Took (served.posts x) else served.posts x)
          by x true same = taken_at_once (served.posts x) ∙ ap (λ (b : Bool). posts.after_offer b Took (served.posts x)) (its_own true e x same)
          by x false same = refl

      -- an offer, after which an automatic receiver takes what was accepted
      offer_leads : LeadOn setup world journal (served_settled c q found served).run.standing (served_settled c q found served).posts (served_settled c q found served).run.done
      offer_leads = subst (λ (answer : Answer). LeadOn setup world journal (After answer) (Posts q.automatic answer) (Done answer)) same_answer (taken_by_itself (q.automatic its) refl (queue_answer there.0) offered)

    -- to where a serial run stands
    abbrev LeadsBy : World → Served → Type 0
    LeadsBy world next = LeadOn setup world journal next.run.standing next.posts next.run.done

    mutual_offers : (k : ℕ) (served : Served) (o : Option Found) → waits c served.run ≡ o → (deliveries : List Delivery) → Holds setup (with_one_worker journal served.run.standing deliveries) → HaveGot deliveries served.posts served.run.done
        → ((next : Served) (others : List Delivery) → Holds setup (with_one_worker journal next.run.standing others) → HaveGot others next.posts next.run.done → LeadsBy (with_one_worker journal next.run.standing others) (offers_on c q k next))
        → LeadsBy (with_one_worker journal served.run.standing deliveries) (while_offered o served (λ found. offers_on c q k (served_settled c q found served)))
    mutual_offers k served None e deliveries h have further = stays setup journal served.run.standing served.posts served.run.done deliveries have
    mutual_offers k served (Some found) e deliveries h have further =
        let next : Served = served_settled c q found served in
        let end : Served = offers_on c q k next in
        then_leads finds setup (with_one_worker journal served.run.standing deliveries) journal next.run.standing next.posts next.run.done journal end.run.standing end.posts end.run.done h (offer_leads served found e deliveries h have)
        (λ others holds are. further next others holds are)

    offers_lead : (k : ℕ) (served : Served) (deliveries : List Delivery) → Holds setup (with_one_worker journal served.run.standing deliveries) → HaveGot deliveries served.posts served.run.done
        → LeadsBy (with_one_worker journal served.run.standing deliveries) (offers_on c q k served)
    offers_lead zero served deliveries h have = stays setup journal served.run.standing served.posts served.run.done deliveries have
    offers_lead (suc k) served deliveries h have = mutual_offers k served (waits c served.run) refl deliveries h have (λ next others holds are. offers_lead k next others holds are)

  -- ---- an entry

  get_last : (past : List Moment) (m : Moment) → slice_get (past ++ m ∷ []) (length past) ≡ Some m
  get_last [] m = refl
  get_last (x ∷ past) m = get_last past m

  module _ (past : List Moment) (m : Moment) (may : MayFollow past m) (takes : Taking) (served : Served) (idle : waits c served.run ≡ None) (position : served.run.standing.position ≡ length past) where
    abbrev standing : Standing
    standing = served.run.standing

    abbrev grown : List Moment
    grown = past ++ m ∷ []

    abbrev counts : ℕ → ℕ
    counts = takes (standing.position + 1)

    append_leads : (deliveries : List Delivery) → HaveGot deliveries served.posts served.run.done → LeadOn setup (with_one_worker past standing deliveries) grown standing served.posts served.run.done
    append_leads deliveries have = record { events = Append m ∷ []; deliveries = deliveries; lead = ap (λ (b : Bool). (append_if b (with_one_worker past standing deliveries) m).0) (may_tells past m may); have = have }

    absorb_leads : (deliveries : List Delivery) → Holds setup (with_one_worker grown standing deliveries) → HaveGot deliveries (taken_below (length places) counts served.posts) served.run.done
        → LeadOn setup (with_one_worker grown standing deliveries) grown (advanced c (receivers_of setup 0) m standing) (λ x. after_take (counts x) (served.posts x)) served.run.done
    absorb_leads deliveries h have = record {
      events = Absorb 0 ∷ [];
      deliveries = deliveries;
      lead = λ i. (absorb_next setup (with_one_worker grown standing deliveries) 0 standing (idle i) ((ap (λ (n : ℕ). slice_get grown n) position ∙ get_last past m) i)).0;
      have = λ x delivery at.
          let many : length deliveries ≡ length places = sym (length-map deliveries (λ (d : Delivery). d.places)) ∙ ap (λ (ns : List ℕ). length ns) h.places in
          let within : x < length deliveries = slice_get_within deliveries x delivery at in
          ((have x delivery at).0 ∙ below_taken (length places) counts served.posts x (omega (arith, many, within)), (have x delivery at).1);
    }

    -- an entry is appended, receivers take, and the worker absorbs it
    entry_leads : (deliveries : List Delivery) → Holds setup (with_one_worker past standing deliveries) → HaveGot deliveries served.posts served.run.done
        → LeadsBy grown (with_one_worker past standing deliveries) (served_advanced c (receivers_of setup 0) takes m served)
    entry_leads deliveries h have =
        let done : List Attempt = served.run.done in
        let further : Standing = advanced c (receivers_of setup 0) m standing in
        then_leads finds setup (with_one_worker past standing deliveries) grown standing served.posts done grown further (λ x. after_take (counts x) (served.posts x)) done h (append_leads deliveries have)
        (λ others holds are.
        then_leads finds setup (with_one_worker grown standing others) grown standing (taken_below (length places) counts served.posts) done grown further (λ x. after_take (counts x) (served.posts x)) done holds
        (all_take finds setup grown standing counts (length places) served.posts done others holds are) (λ next still counted. absorb_leads next still counted))

  -- ---- a serial run

  first_posts : HaveGot (map first_delivery places) (λ x. first_post) []
  first_posts receiver delivery at =
      let it = get_map first_delivery places receiver delivery at in
      (ap post_of (sym it.2), subst (λ (d : Delivery). IsDeliveryOf d []) it.2 (record { answers = refl; accepted = refl; fits = omega arith }))

  opens : (takes : Taking) → LeadsBy [] (first_world setup) (serial_run c (receivers_of setup 0) q takes [])
  opens takes = record { events = []; deliveries = map first_delivery places; lead = refl; have = first_posts }

  -- the laws of serial runs that are rested on
  pub record SerialLaws (takes : Taking) : Type 0 where
    pub more : (journal : List Moment) (m : Moment) → serial_run c (receivers_of setup 0) q takes (journal ++ m ∷ []) ≡ all_offered c q (served_advanced c (receivers_of setup 0) takes m (serial_run c (receivers_of setup 0) q takes journal))
    pub idle : (journal : List Moment) → GiveDueTicks journal → waits c (serial_run c (receivers_of setup 0) q takes journal).run ≡ None
    pub reaches : (journal : List Moment) → AllMayFollow [] journal → GiveDueTicks journal
        → Reaches c (receivers_of setup 0) journal (answers_in (serial_run c (receivers_of setup 0) q takes journal).run.done) (serial_run c (receivers_of setup 0) q takes journal).run

  module _ (takes : Taking) (laws : SerialLaws takes) where
    abbrev Run_of : List Moment → Served
    Run_of journal = serial_run c (receivers_of setup 0) q takes journal

    abbrev LeadsTo : List Moment → Type 0
    LeadsTo journal = LeadsBy journal (first_world setup) (Run_of journal)

    first_may : (before past : List Moment) (m : Moment) (rest : List Moment) → AllMayFollow before (past ++ m ∷ rest) → MayFollow (before ++ past) m
    first_may before [] m rest legal = subst (λ (xs : List Moment). MayFollow xs m) (sym (append-nil before)) legal.0
    first_may before (x ∷ past) m rest legal = subst (λ (xs : List Moment). MayFollow xs m) (append_assoc before (x ∷ []) past) (first_may (before ++ x ∷ []) past m rest legal.1)

    first_legal : (before past rest : List Moment) → AllMayFollow before (past ++ rest) → AllMayFollow before past
    first_legal before [] rest legal = tt
    first_legal before (x ∷ past) rest legal = (legal.0, first_legal (before ++ x ∷ []) past rest legal.1)

    one_further : (past : List Moment) (m : Moment) (rest : List Moment) → AllMayFollow [] (past ++ m ∷ rest) → GiveDueTicks (past ++ m ∷ rest) → LeadsTo past → LeadsTo (past ++ m ∷ [])
    one_further past m rest legal due to =
        let served : Served = Run_of past in
        let next : Served = served_advanced c (receivers_of setup 0) takes m served in
        let due_past : GiveDueTicks past = all_before (λ (x : Moment). GivesDueTicks x.act) past (m ∷ rest) due in
        let reaches = laws.reaches past (first_legal [] past (m ∷ rest) legal) due_past in
        let end : Served = all_offered c q next in
        subst (λ (end : Served). LeadsBy (past ++ m ∷ []) (first_world setup) end) (sym (laws.more past m))
        (then_leads finds setup (first_world setup) past served.run.standing served.posts served.run.done (past ++ m ∷ []) end.run.standing end.posts end.run.done (first_holds setup) to
        (λ deliveries h have.
        then_leads finds setup (with_one_worker past served.run.standing deliveries) (past ++ m ∷ []) next.run.standing next.posts next.run.done (past ++ m ∷ []) end.run.standing end.posts end.run.done h
        (entry_leads past m (first_may [] past m rest legal) takes served (laws.idle past due_past) (position_is c (receivers_of setup 0) past (answers_in served.run.done) served.run reaches) deliveries h have)
        (λ others holds are. offers_lead (past ++ m ∷ []) (weights c next.run.standing.stamp next.run.standing.tracks) next others holds are)))

    goes_on : (past rest : List Moment) → AllMayFollow [] (past ++ rest) → GiveDueTicks (past ++ rest) → LeadsTo past → LeadsTo (past ++ rest)
    goes_on past [] legal due to = subst LeadsTo (sym (append-nil past)) to
    goes_on past (m ∷ rest) legal due to =
        let same : (past ++ m ∷ []) ++ rest ≡ past ++ m ∷ rest = append_assoc past (m ∷ []) rest in
        subst LeadsTo same
        (goes_on (past ++ m ∷ []) rest (subst (λ (xs : List Moment). AllMayFollow [] xs) (sym same) legal) (subst (λ (xs : List Moment). GiveDueTicks xs) (sym same) due) (one_further past m rest legal due to))

    -- a delivery by its post and its attempts
    delivery_in : (served : Served) (receiver : ℕ) (delivery : Delivery) → post_of delivery ≡ served.posts receiver → IsDeliveryOf delivery (of_receiver receiver served.run.done) → IsDeliveryIn served receiver delivery
    delivery_in served receiver delivery post is =
        let many : length delivery.taken ≡ (served.posts receiver).taken = ap (λ (p : Post). p.taken) post in
        record {
          answers = sym is.answers;
          post = post;
          taken = sym (take-append_seam delivery.taken delivery.queue) ∙ (λ i. take (many i) (sym is.accepted i));
          queue = sym (drop-append_seam delivery.taken delivery.queue) ∙ (λ i. drop (many i) (sym is.accepted i));
        }

    pub serial_leads : (journal : List Moment) → AllMayFollow [] journal → GiveDueTicks journal → LeadTo setup (first_world setup) journal (Run_of journal)
    serial_leads journal legal due =
        let to : LeadsTo journal = goes_on [] journal legal due (opens takes) in
        record {
          events = to.events;
          deliveries = to.deliveries;
          lead = to.lead;
          delivers = λ receiver delivery at. let it = to.have receiver delivery at in delivery_in (Run_of journal) receiver delivery it.0 it.1;
        }
