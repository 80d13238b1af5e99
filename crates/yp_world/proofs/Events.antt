-- Each event keeps what holds of the world.
use Rattle.std.proofs.Common.{◌≡◌, ℕ, zero, suc, ◌+◌, ◌<◌, ◌≤◌, refl, sym, ap, subst, ◌∙◌, Bool, true, false, not, List, [], ◌∷◌, ◌++◌, map, length, take, Option, Some, None, arith, append-nil, append_assoc, length-append}
use Rattle.std.specs.Prelude.{if◌then◌else◌, ◌==◌, nat_lt, nat_le, slice_set}
use Rattle.std.specs.List.{slice_get}
use Rattle.std.proofs.lemmas.Bool.{true≢false, eqb-true, ltb-true, leb-true, and_parts}
use Rattle.std.proofs.lemmas.List.{length-set, length-replicate, take-append-le}
use Rattle.std.proofs.lemmas.Option.{same_Some, none-some, slice_get_within}
use Rattle.yp_attempt.specs.Attempts.{Notification, notification_of, answers_in, if_taken, of_receiver}
use Rattle.yp_attempt.specs.ListLaws.{by_bool}
use Rattle.yp_attempt.specs.Moments.{Moment, Act, Quiet, Starts, Controls, Drops, IsUnused, MayFollow, AllMayFollow, last_stamp, was_started}
use Rattle.yp_attempt.specs.Runs.{Standing, Found, Reaches, opened, advances, settles, first_run, first_offer, settled, advanced}
use Rattle.yp_attempt.specs.Tracks.{Attempt, Answer, Took, Full}
use Rattle.yp_attempt.specs.AttemptLaws.{answers_one_more, taken_append, own_more, other_more}
use Rattle.yp_world.specs.Holding.{IsDeliveryOf, Serves, Holds, absorbed_by}
use Rattle.yp_world.specs.World.{Delivery, World, Setup, Event, Append, Absorb, Offer, Take, first_delivery, first_world, worker_of, receivers_of, is_unused, may_follow, append_if, absorb_next, absorb, queue_answer, delivery_after, attempt_of, offer_to, offer_found, offer, take_first, take_from, step, after_events}
use Rattle.yp_base.specs.Elements.{get_map}
use Rattle.yp_attempt.specs.RunLaws.{FindsFirst, found_belongs, run_belongs, all_its}
use Rattle.yp_attempt.specs.ElementLaws.{get_set_same, get_set_other, set_looks_same, take_one_more, get_replicate}

-- ---- legal journals

one_more_legal : (past journal : List Moment) (m : Moment) → AllMayFollow past journal → MayFollow (past ++ journal) m → AllMayFollow past (journal ++ m ∷ [])
one_more_legal past [] m legal may = (subst (λ (xs : List Moment). MayFollow xs m) (append-nil past) may, tt)
one_more_legal past (x ∷ journal) m legal may = (legal.0, one_more_legal (past ++ x ∷ []) journal m legal.1 (subst (λ (xs : List Moment). MayFollow xs m) (sym (append_assoc past (x ∷ []) journal)) may))

-- an entry of a legal journal may come after those before it
legal_at : (past journal : List Moment) (k : ℕ) (m : Moment) → AllMayFollow past journal → slice_get journal k ≡ Some m → MayFollow (past ++ take k journal) m
legal_at past [] k m legal e = absurd (none-some m e)
legal_at past (x ∷ journal) zero m legal e = subst (λ (y : Moment). MayFollow (past ++ []) y) (same_Some x m e) (subst (λ (xs : List Moment). MayFollow xs x) (sym (append-nil past)) legal.0)
legal_at past (x ∷ journal) (suc k) m legal e = subst (λ (xs : List Moment). MayFollow xs m) (append_assoc past (x ∷ []) (take k journal)) (legal_at (past ++ x ∷ []) journal k m legal.1 e)

not_true : (b : Bool) → not b ≡ true → b ≡ false
not_true true e = sym e
not_true false e = refl

unused_is : (past : List Moment) (act : Act) → is_unused past act ≡ true → IsUnused past act
unused_is past Quiet e = tt
unused_is past (Starts sub trigger configured names) e = not_true (was_started past sub) e
unused_is past (Controls sub control) e = tt
unused_is past (Drops sub) e = tt

pub may_is : (past : List Moment) (m : Moment) → may_follow past m ≡ true → MayFollow past m
may_is past m e =
    let parts = and_parts (nat_le (last_stamp 0 past) m.stamp) (is_unused past m.act) e in
    record { stamp = leb-true (last_stamp 0 past) m.stamp parts.0; unused = unused_is past m.act parts.1 }

-- ---- deliveries

-- an accepted offer found a free place
pub room_by : (delivery : Delivery) (b : Bool) → nat_lt (length delivery.queue) delivery.places ≡ b → (if b then Took else Full) ≡ Took → length delivery.queue < delivery.places
room_by delivery true e took = ltb-true (length delivery.queue) delivery.places e
room_by delivery false e took = absurd (true≢false (ap is_took (sym took)))
  where
    is_took : Answer → Bool
    is_took Took = true
    is_took Full = false

pub delivered : (delivery : Delivery) (offered : List Attempt) (a : Attempt) (answer : Answer) → a.answer ≡ answer → (answer ≡ Took → length delivery.queue < delivery.places) → IsDeliveryOf delivery offered
    → IsDeliveryOf (delivery_after answer (notification_of a) delivery) (offered ++ a ∷ [])
delivered delivery offered a Took e room is = record {
  answers = answers_one_more offered a ∙ (λ i. is.answers i ++ e i ∷ []);
  accepted = taken_append offered (a ∷ []) ∙ ((λ i. is.accepted i ++ if_taken (e i) (notification_of a) []) ∙ append_assoc delivery.taken delivery.queue (notification_of a ∷ []));
  fits = let less : length delivery.queue < delivery.places = room refl in let more : length (delivery.queue ++ notification_of a ∷ []) ≡ length delivery.queue + 1 = length-append delivery.queue (notification_of a ∷ []) in omega (arith, less, more);
}
delivered delivery offered a Full e room is = record {
  answers = answers_one_more offered a ∙ (λ i. is.answers i ++ e i ∷ []);
  accepted = taken_append offered (a ∷ []) ∙ ((λ i. is.accepted i ++ if_taken (e i) (notification_of a) []) ∙ append-nil (delivery.taken ++ delivery.queue));
  fits = is.fits;
}

-- a receiver took the first of its queue
pub first_taken : (delivery : Delivery) (n : Notification) (queue : List Notification) (offered : List Attempt) → delivery.queue ≡ n ∷ queue → IsDeliveryOf delivery offered
    → IsDeliveryOf (record delivery { queue = queue; taken = delivery.taken ++ n ∷ [] }) offered
first_taken delivery n queue offered e is = record {
  answers = is.answers;
  accepted = is.accepted ∙ (ap (λ (ns : List Notification). delivery.taken ++ ns) e ∙ sym (append_assoc delivery.taken (n ∷ []) queue));
  fits = let longer : length delivery.queue ≡ suc (length queue) = ap (λ (ns : List Notification). length ns) e in let fits : length delivery.queue ≤ delivery.places = is.fits in omega (arith, fits, longer);
}

-- ---- an entry is appended

pub append_holds : (setup : Setup) (world : World) (m : Moment) (b : Bool) → may_follow world.journal m ≡ b → Holds setup world → Holds setup (append_if b world m).0
append_holds setup world m true e h = record {
  legal = one_more_legal [] world.journal m h.legal (may_is world.journal m e);
  workers = h.workers;
  places = h.places;
  serves = λ worker standing there.
      let s = h.serves worker standing there in
      record {
        done = s.done;
        reaches = subst (λ (xs : List Moment). Reaches setup.content (receivers_of setup worker) xs (answers_in s.done) (record { standing = standing; done = s.done })) (sym (take-append-le standing.position world.journal (m ∷ []) s.within)) s.reaches;
        within = let more : length (world.journal ++ m ∷ []) ≡ length world.journal + 1 = length-append world.journal (m ∷ []) in let less : standing.position ≤ length world.journal = s.within in omega (arith, less, more);
        delivers = s.delivers;
      };
}
append_holds setup world m false e h = h

-- ---- a worker absorbs

pub self_is : (a : ℕ) → (a == a) ≡ true
self_is a = grind arith

not_equal : (a b : ℕ) → (a == b) ≡ false → a ≡ b → ⊥
not_equal a b e q = grind (arith, e, q)

absorb_holds : (setup : Setup) (world : World) (worker : ℕ) (standing : Standing) → slice_get world.standings worker ≡ Some standing
    → (found : Option Found) → first_offer setup.content standing.stamp standing.tracks ≡ found → (next : Option Moment) → slice_get world.journal standing.position ≡ next
    → Holds setup world → Holds setup (absorb_next setup world worker standing found next).0
absorb_holds setup world worker standing at (Some found) idle next there h = h
absorb_holds setup world worker standing at None idle None there h = h
absorb_holds setup world worker standing at None idle (Some m) there h = record {
  legal = h.legal;
  workers = length-set world.standings worker further ∙ h.workers;
  places = h.places;
  serves = λ other s q. by other s q (worker == other) refl;
}
  where
    further : Standing
    further = advanced setup.content (receivers_of setup worker) m standing

    after : World
    after = record world { standings = slice_set world.standings worker further }

    own : Serves setup after worker further
    own =
        let s = h.serves worker standing at in
        record {
          done = s.done;
          reaches = subst (λ (xs : List Moment). Reaches setup.content (receivers_of setup worker) xs (answers_in s.done) (record { standing = further; done = s.done })) (sym (take_one_more world.journal standing.position m there))
              (advances (absorbed_by world standing) (answers_in s.done) (record { standing = standing; done = s.done }) m s.reaches (legal_at [] world.journal standing.position m h.legal there) idle);
          within = let less : standing.position < length world.journal = slice_get_within world.journal standing.position m there in omega (arith, less);
          delivers = s.delivers;
        }

    by : (other : ℕ) (s : Standing) → slice_get (slice_set world.standings worker further) other ≡ Some s → (b : Bool) → (worker == other) ≡ b → Serves setup after other s
    by other s q true e =
        let same : worker ≡ other = eqb-true worker other e in
        let is : further ≡ s = same_Some further s (sym (get_set_same world.standings worker standing further at) ∙ (ap (λ (x : ℕ). slice_get (slice_set world.standings worker further) x) same ∙ q)) in
        subst (λ (x : ℕ × Standing). Serves setup after x.0 x.1) (λ i. (same i, is i)) own
    by other s q false e =
        let served = h.serves other s (sym (get_set_other world.standings worker other further e) ∙ q) in
        record { done = served.done; reaches = served.reaches; within = served.within; delivers = served.delivers }

-- ---- a worker offers

places_stay : (answer : Answer) (n : Notification) (delivery : Delivery) → (delivery_after answer n delivery).places ≡ delivery.places
places_stay Took n delivery = refl
places_stay Full n delivery = refl

offer_holds : FindsFirst → (setup : Setup) (world : World) (worker : ℕ) (standing : Standing) → slice_get world.standings worker ≡ Some standing
    → (found : Found) → first_offer setup.content standing.stamp standing.tracks ≡ Some found → (o : Option Delivery) → slice_get world.deliveries found.track.feed.receiver ≡ o
    → Holds setup world → Holds setup (offer_to setup world worker standing found o).0
offer_holds finds setup world worker standing at found offers None there h = h
offer_holds finds setup world worker standing at found offers (Some delivery) there h = record {
  legal = h.legal;
  workers = length-set world.standings worker further ∙ h.workers;
  places = set_looks_same (λ (d : Delivery). d.places) world.deliveries receiver delivery new there (places_stay answer (notification_of a) delivery) ∙ h.places;
  serves = λ other s q. by other s q (worker == other) refl;
}
  where
    receiver : ℕ
    receiver = found.track.feed.receiver

    answer : Answer
    answer = queue_answer delivery

    a : Attempt
    a = attempt_of setup standing found delivery

    further : Standing
    further = record standing { tracks = settled setup.content standing found answer }

    new : Delivery
    new = delivery_after answer (notification_of a) delivery

    after : World
    after = record world { standings = slice_set world.standings worker further; deliveries = slice_set world.deliveries receiver new }

    s : Serves setup world worker standing
    s = h.serves worker standing at

    its : worker_of setup receiver ≡ worker
    its =
        found_belongs (λ (r : ℕ). worker_of setup r ≡ worker) setup.content (receivers_of setup worker) (all_its worker setup.workers (length setup.places)) standing.stamp standing.tracks found (finds setup.content standing.stamp standing.tracks found offers)
        (run_belongs (λ (r : ℕ). worker_of setup r ≡ worker) setup.content (receivers_of setup worker) (all_its worker setup.workers (length setup.places)) finds (absorbed_by world standing) (answers_in s.done) (record { standing = standing; done = s.done }) s.reaches)

    delivers_by : (r : ℕ) (d : Delivery) → slice_get (slice_set world.deliveries receiver new) r ≡ Some d → worker_of setup r ≡ worker → (b : Bool) → (receiver == r) ≡ b → IsDeliveryOf d (of_receiver r (s.done ++ a ∷ []))
    delivers_by r d q mine true e =
        let same : receiver ≡ r = eqb-true receiver r e in
        let is : new ≡ d = same_Some new d (sym (get_set_same world.deliveries receiver delivery new there) ∙ (ap (λ (x : ℕ). slice_get (slice_set world.deliveries receiver new) x) same ∙ q)) in
        let now : IsDeliveryOf new (of_receiver receiver s.done ++ a ∷ []) =
        delivered delivery (of_receiver receiver s.done) a answer refl (room_by delivery (nat_lt (length delivery.queue) delivery.places) refl) (s.delivers receiver delivery there its) in
        subst (λ (x : ℕ × Delivery). IsDeliveryOf x.1 (of_receiver x.0 (s.done ++ a ∷ []))) (λ i. (same i, is i))
        (subst (λ (xs : List Attempt). IsDeliveryOf new xs) (sym (own_more receiver s.done a (self_is receiver))) now)
    delivers_by r d q mine false e =
        subst (λ (xs : List Attempt). IsDeliveryOf d xs) (sym (other_more r s.done a e)) (s.delivers r d (sym (get_set_other world.deliveries receiver r new e) ∙ q) mine)

    own : Serves setup after worker further
    own = record {
      done = s.done ++ a ∷ [];
      reaches = subst (λ (xs : List Answer). Reaches setup.content (receivers_of setup worker) (absorbed_by world standing) xs (record { standing = further; done = s.done ++ a ∷ [] })) (sym (answers_one_more s.done a))
          (settles (absorbed_by world standing) (answers_in s.done) (record { standing = standing; done = s.done }) found answer s.reaches offers);
      within = s.within;
      delivers = λ r d q mine. delivers_by r d q mine (receiver == r) refl;
    }

    -- the receivers of other workers
    others : (other r : ℕ) (d : Delivery) → (worker == other) ≡ false → slice_get (slice_set world.deliveries receiver new) r ≡ Some d → worker_of setup r ≡ other → slice_get world.deliveries r ≡ Some d
    others other r d e q mine =
        by_bool (receiver == r)
        (λ f. absurd (not_equal worker other e (sym its ∙ (ap (λ (x : ℕ). worker_of setup x) (eqb-true receiver r f) ∙ mine))))
        (λ f. sym (get_set_other world.deliveries receiver r new f) ∙ q)

    by : (other : ℕ) (t : Standing) → slice_get (slice_set world.standings worker further) other ≡ Some t → (b : Bool) → (worker == other) ≡ b → Serves setup after other t
    by other t q true e =
        let same : worker ≡ other = eqb-true worker other e in
        let is : further ≡ t = same_Some further t (sym (get_set_same world.standings worker standing further at) ∙ (ap (λ (x : ℕ). slice_get (slice_set world.standings worker further) x) same ∙ q)) in
        subst (λ (x : ℕ × Standing). Serves setup after x.0 x.1) (λ i. (same i, is i)) own
    by other t q false e =
        let served = h.serves other t (sym (get_set_other world.standings worker other further e) ∙ q) in
        record { done = served.done; reaches = served.reaches; within = served.within; delivers = λ r d f mine. served.delivers r d (others other r d e f mine) mine }

offer_found_holds : FindsFirst → (setup : Setup) (world : World) (worker : ℕ) (standing : Standing) → slice_get world.standings worker ≡ Some standing
    → (o : Option Found) → first_offer setup.content standing.stamp standing.tracks ≡ o → Holds setup world → Holds setup (offer_found setup world worker standing o).0
offer_found_holds finds setup world worker standing at None e h = h
offer_found_holds finds setup world worker standing at (Some found) e h = offer_holds finds setup world worker standing at found e (slice_get world.deliveries found.track.feed.receiver) refl h

-- ---- a receiver takes

take_holds : (setup : Setup) (world : World) (receiver : ℕ) (delivery : Delivery) → slice_get world.deliveries receiver ≡ Some delivery → (queue : List Notification) → delivery.queue ≡ queue
    → Holds setup world → Holds setup (take_first world receiver delivery queue).0
take_holds setup world receiver delivery there [] e h = h
take_holds setup world receiver delivery there (n ∷ queue) e h = record {
  legal = h.legal;
  workers = h.workers;
  places = set_looks_same (λ (d : Delivery). d.places) world.deliveries receiver delivery new there refl ∙ h.places;
  serves = λ worker standing at.
      let s = h.serves worker standing at in
      record { done = s.done; reaches = s.reaches; within = s.within; delivers = λ r d q mine. by s.done r d q (receiver == r) refl (λ old f. s.delivers r old f mine) };
}
  where
    new : Delivery
    new = record delivery { queue = queue; taken = delivery.taken ++ n ∷ [] }

    by : (done : List Attempt) (r : ℕ) (d : Delivery) → slice_get (slice_set world.deliveries receiver new) r ≡ Some d → (b : Bool) → (receiver == r) ≡ b
        → ((old : Delivery) → slice_get world.deliveries r ≡ Some old → IsDeliveryOf old (of_receiver r done)) → IsDeliveryOf d (of_receiver r done)
    by done r d q true f was =
        let same : receiver ≡ r = eqb-true receiver r f in
        let is : new ≡ d = same_Some new d (sym (get_set_same world.deliveries receiver delivery new there) ∙ (ap (λ (x : ℕ). slice_get (slice_set world.deliveries receiver new) x) same ∙ q)) in
        subst (λ (x : Delivery). IsDeliveryOf x (of_receiver r done)) is (first_taken delivery n queue (of_receiver r done) e (was delivery (sym (ap (λ (x : ℕ). slice_get world.deliveries x) same) ∙ there)))
    by done r d q false f was = was d (sym (get_set_other world.deliveries receiver r new f) ∙ q)

-- ---- each event

absorb_by : (setup : Setup) (world : World) (worker : ℕ) (o : Option Standing) → slice_get world.standings worker ≡ o → Holds setup world → Holds setup (absorb setup world worker o).0
absorb_by setup world worker None e h = h
absorb_by setup world worker (Some standing) e h = absorb_holds setup world worker standing e (first_offer setup.content standing.stamp standing.tracks) refl (slice_get world.journal standing.position) refl h

offer_by : FindsFirst → (setup : Setup) (world : World) (worker : ℕ) (o : Option Standing) → slice_get world.standings worker ≡ o → Holds setup world → Holds setup (offer setup world worker o).0
offer_by finds setup world worker None e h = h
offer_by finds setup world worker (Some standing) e h = offer_found_holds finds setup world worker standing e (first_offer setup.content standing.stamp standing.tracks) refl h

take_by : (setup : Setup) (world : World) (receiver : ℕ) (o : Option Delivery) → slice_get world.deliveries receiver ≡ o → Holds setup world → Holds setup (take_from world receiver o).0
take_by setup world receiver None e h = h
take_by setup world receiver (Some delivery) e h = take_holds setup world receiver delivery e delivery.queue refl h

pub step_holds : FindsFirst → (setup : Setup) (world : World) (event : Event) → Holds setup world → Holds setup (step setup world event).0
step_holds finds setup world (Append m) h = append_holds setup world m (may_follow world.journal m) refl h
step_holds finds setup world (Absorb worker) h = absorb_by setup world worker (slice_get world.standings worker) refl h
step_holds finds setup world (Offer worker) h = offer_by finds setup world worker (slice_get world.standings worker) refl h
step_holds finds setup world (Take receiver) h = take_by setup world receiver (slice_get world.deliveries receiver) refl h

pub events_hold : FindsFirst → (setup : Setup) (world : World) (events : List Event) → Holds setup world → Holds setup (after_events setup world events)
events_hold finds setup world [] h = h
events_hold finds setup world (event ∷ events) h = events_hold finds setup (step setup world event).0 events (step_holds finds setup world event h)

-- ---- the first world

first_places : (places : List ℕ) → map (λ delivery. delivery.places) (map first_delivery places) ≡ places
first_places [] = refl
first_places (n ∷ places) = ap (λ (ns : List ℕ). n ∷ ns) (first_places places)

pub first_holds : (setup : Setup) → Holds setup (first_world setup)
first_holds setup = record {
  legal = tt;
  workers = length-replicate setup.workers first_run.standing;
  places = first_places setup.places;
  serves = λ worker standing at.
      subst (λ (s : Standing). Serves setup (first_world setup) worker s) (sym (get_replicate setup.workers worker first_run.standing standing at))
      (record {
        done = [];
        reaches = opened;
        within = omega arith;
        delivers = λ receiver delivery there mine.
            let it = get_map first_delivery setup.places receiver delivery there in
            subst (λ (d : Delivery). IsDeliveryOf d []) it.2 (record { answers = refl; accepted = refl; fits = omega arith });
      });
}
