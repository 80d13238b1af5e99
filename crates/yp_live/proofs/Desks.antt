-- The desk of a receiver along a serial run.
use Rattle.std.proofs.Common.{◌≡◌, ℕ, zero, suc, ◌+◌, ◌-◌, ◌≤◌, ◌==◌, min, Bool, true, false, List, [], ◌∷◌, ◌++◌, length, map, take, drop, get_or, slice_set, Some, refl, sym, ap, ◌∙◌, arith, append-nil, length-append}
use Rattle.std.specs.Prelude.{if◌then◌else◌, nat_lt}
use Rattle.std.specs.List.{slice_get}
use Rattle.std.proofs.lemmas.List.{drop-append-le, drop-map, drop_all, length-drop, length-map, map-append, take-append-le, take-map, take_all}
use Rattle.std.proofs.lemmas.List.Elements.{filter-append}
use Rattle.yp_base.specs.declared.notice.Notice.{Notice}
use Rattle.yp_schema.specs.declared.schema.SchemaNode.{SchemaNode}
use Rattle.yp_journal.specs.declared.receiver.ReceiverInfo.{ReceiverInfo}
use Rattle.yp_feed.specs.declared.item.Item.{Item}
use Rattle.yp_queue.specs.declared.packet.Packet.{Packet}
use Rattle.yp_attempt.specs.Attempts.{Notification, notification_of, taken_of}
use Rattle.yp_attempt.specs.Content.{Content}
use Rattle.yp_attempt.specs.ListLaws.{filter_fail, filter_pass}
use Rattle.yp_attempt.specs.Tracks.{Answer, Took, Full, Attempt, Track, attempt}
use Rattle.yp_attempt.specs.Runs.{Found}
use Rattle.yp_attempt.specs.AttemptLaws.{taken_append}
use Rattle.yp_serial.specs.Posts.{Post, answer_by, after_offer, after_take}
use Rattle.yp_serial.specs.Serial.{Served, found_answer, served_settled}
use Rattle.yp_slot.specs.declared.settling.Settled.TheVariants as settled
use Rattle.yp_slot.specs.Steps.{answer_of}
use Rattle.yp_worker.specs.Packets.{packet_of}
use Rattle.yp_promise.specs.Posts.{HasPost}
use Rattle.yp_promise.specs.Received.{received}
use Rattle.yp_promise.specs.Serving.{places_of, queueing_of, takes_itself}
use Rattle.yp_promise.specs.Shown.{offered_to}
use Rattle.yp_live.specs.Desks.{DeskState, desk_answer, desk_at, desk_offered, desk_offered_by, desk_took, desks_at, hears_all}
use Rattle.yp_offer_log.specs.Logs.{logged}
use Rattle.yp_live.proofs.Taking.{drop_most, hears_received, notice_in, received_more, take_most}

-- ---- what was accepted

module _ (nodes : List SchemaNode) (start : ℕ) where
  abbrev packet_in : Notification → Packet
  packet_in n = packet_of nodes start n.sub n.made

  -- the desk of a receiver by what was offered to it, what its queue accepted, and how many of these it took
  abbrev desk_by : List ℕ → Bool → ℕ → List Attempt → List Notification → ℕ → DeskState
  desk_by name automatic places offered accepted taken = record {
    name = name;
    automatic = automatic;
    log = map (logged nodes start) offered;
    taken = taken;
    queue = record { packets = map packet_in (drop taken accepted); places = places };
    waiting = map notice_in (drop taken accepted);
    trees = received [] (take taken accepted);
  }

  -- ---- an offer

  -- what is offered to its queue is an attempt with the answer that this gives
  module _ (name : List ℕ) (places : ℕ) (offered : List Attempt) (c : Content) (n stamp : ℕ) (track : Track) (item : Item) where
    abbrev made : Answer → Attempt
    made answer = attempt c n stamp track item answer

    abbrev given : Notification
    given = notification_of (made Took)

    abbrev here : Bool → List Attempt → List Notification → ℕ → DeskState
    here automatic those accepted taken = desk_by name automatic places those accepted taken

    log_more : (answer : Answer) → map (logged nodes start) (offered ++ made answer ∷ []) ≡ map (logged nodes start) offered ++ logged nodes start (made answer) ∷ []
    log_more answer = map-append (logged nodes start) offered (made answer ∷ [])

    -- it is full
    full_offer : (automatic : Bool) (post : Post) → here automatic (offered ++ made Full ∷ []) (taken_of (offered ++ made Full ∷ [])) post.taken
        ≡ desk_offered_by false (packet_in given) (notice_in given) n (here automatic offered (taken_of offered) post.taken)
    full_offer automatic post =
        let same : taken_of (offered ++ made Full ∷ []) ≡ taken_of offered = taken_append offered (made Full ∷ []) ∙ append-nil (taken_of offered) in
        λ i. record (here automatic offered (same i) post.taken) { log = log_more Full i }

    -- it has room, and the packet stands there
    held_offer : (post : Post) → length (taken_of offered) ≡ post.taken + post.held → here false (offered ++ made Took ∷ []) (taken_of (offered ++ made Took ∷ [])) post.taken
        ≡ desk_offered_by true (packet_in given) (notice_in given) n (here false offered (taken_of offered) post.taken)
    held_offer post parts =
        let xs : List Notification = taken_of offered in
        let few : post.taken ≤ length xs = omega (arith, parts) in
        let all : taken_of (offered ++ made Took ∷ []) ≡ xs ++ given ∷ [] = taken_append offered (made Took ∷ []) in
        let got : take post.taken (taken_of (offered ++ made Took ∷ [])) ≡ take post.taken xs = ap (take post.taken) all ∙ take-append-le post.taken xs (given ∷ []) few in
        let kept : drop post.taken (taken_of (offered ++ made Took ∷ [])) ≡ drop post.taken xs ++ given ∷ [] = ap (drop post.taken) all ∙ drop-append-le post.taken xs (given ∷ []) few in
        λ i. record {
          name = name;
          automatic = false;
          log = log_more Took i;
          taken = post.taken;
          queue = record { packets = (ap (map packet_in) kept ∙ map-append packet_in (drop post.taken xs) (given ∷ [])) i; places = places };
          waiting = (ap (map notice_in) kept ∙ map-append notice_in (drop post.taken xs) (given ∷ [])) i;
          trees = received [] (got i);
        }

    -- it has room, and the receiver takes it at once
    taken_offer : (post : Post) → length (taken_of offered) ≡ post.taken + post.held → post.held ≡ 0 → here true (offered ++ made Took ∷ []) (taken_of (offered ++ made Took ∷ [])) (post.taken + 1)
        ≡ desk_offered_by true (packet_in given) (notice_in given) n (here true offered (taken_of offered) post.taken)
    taken_offer post parts none =
        let xs : List Notification = taken_of offered in
        let few : length xs ≤ post.taken = omega (arith, parts, none) in
        let all : taken_of (offered ++ made Took ∷ []) ≡ xs ++ given ∷ [] = taken_append offered (made Took ∷ []) in
        let count : length (xs ++ given ∷ []) ≤ post.taken + 1 = omega (arith, few, length-append xs (given ∷ [])) in
        let before : drop post.taken xs ≡ [] = drop_all post.taken xs few in
        let got : take (post.taken + 1) (taken_of (offered ++ made Took ∷ [])) ≡ take post.taken xs ++ given ∷ [] =
        ap (take (post.taken + 1)) all ∙ (take_all (post.taken + 1) (xs ++ given ∷ []) count ∙ ap (λ (ys : List Notification). ys ++ given ∷ []) (sym (take_all post.taken xs few))) in
        let kept : drop (post.taken + 1) (taken_of (offered ++ made Took ∷ [])) ≡ [] = ap (drop (post.taken + 1)) all ∙ drop_all (post.taken + 1) (xs ++ given ∷ []) count in
        λ i. record {
          name = name;
          automatic = true;
          log = log_more Took i;
          taken = post.taken + min 1 (length (map packet_in (sym before i) ++ packet_in given ∷ []));
          queue = record { packets = (ap (map packet_in) kept ∙ ap (λ (ys : List Notification). drop 1 (map packet_in ys ++ packet_in given ∷ [])) (sym before)) i; places = places };
          waiting = (ap (map notice_in) kept ∙ ap (λ (ys : List Notification). drop 1 (map notice_in ys ++ notice_in given ∷ [])) (sym before)) i;
          trees = (ap (received []) got ∙ (received_more [] (take post.taken xs) (given ∷ []) ∙ ap (λ (ys : List Notification). hears_all (take 1 (map notice_in ys ++ notice_in given ∷ [])) (received [] (take post.taken xs))) (sym before))) i;
        }

    -- by whether there is room
    offer_by : (room automatic : Bool) (post : Post) → length (taken_of offered) ≡ post.taken + post.held → (automatic ≡ true → post.held ≡ 0)
        → here automatic (offered ++ made (if room then Took else Full) ∷ []) (taken_of (offered ++ made (if room then Took else Full) ∷ [])) (after_offer automatic (if room then Took else Full) post).taken
        ≡ desk_offered_by room (packet_in given) (notice_in given) n (here automatic offered (taken_of offered) post.taken)
    offer_by true true post parts none = taken_offer post parts (none refl)
    offer_by true false post parts none = held_offer post parts
    offer_by false automatic post parts none = full_offer automatic post

    pub offer_made : (automatic : Bool) (post : Post) → length (taken_of offered) ≡ post.taken + post.held → (automatic ≡ true → post.held ≡ 0)
        → here automatic (offered ++ made (answer_by places post) ∷ []) (taken_of (offered ++ made (answer_by places post) ∷ [])) (after_offer automatic (answer_by places post) post).taken
        ≡ desk_offered (packet_in given) (notice_in given) n (here automatic offered (taken_of offered) post.taken)
    offer_made automatic post parts none =
        let xs : List Notification = taken_of offered in
        let left : length (drop post.taken xs) ≡ length xs - post.taken = length-drop post.taken xs in
        let held : length (drop post.taken xs) ≡ post.held = omega (arith, left, parts) in
        let count : length (map packet_in (drop post.taken xs)) ≡ post.held = length-map (drop post.taken xs) packet_in ∙ held in
        offer_by (nat_lt post.held places) automatic post parts none
        ∙ ap (λ (k : ℕ). desk_offered_by (nat_lt k places) (packet_in given) (notice_in given) n (here automatic offered xs post.taken)) (sym count)

  -- ---- the receivers of a serial run

  module _ (c : Content) (receivers : List ReceiverInfo) (served : Served) (found : Found) where
    abbrev next : Served
    next = served_settled c (queueing_of receivers) found served

    abbrev answered : Answer → Attempt
    answered answer = attempt c served.run.standing.position served.run.standing.stamp found.track found.item answer

    -- another one than that of the offer
    pub other_desk : (number : ℕ) (receiver : ReceiverInfo) → (found.track.feed.receiver == number) ≡ false → desk_at nodes start next number receiver ≡ desk_at nodes start served number receiver
    other_desk number receiver other =
        let answer : Answer = found_answer (queueing_of receivers) found served in
        let offered : offered_to number next ≡ offered_to number served =
        filter-append (λ (a : Attempt). a.receiver == number) served.run.done (answered answer ∷ [])
        ∙ (ap (λ (xs : List Attempt). offered_to number served ++ xs) (filter_fail (λ (a : Attempt). a.receiver == number) (answered answer) [] other) ∙ append-nil (offered_to number served)) in
        let taken : (next.posts number).taken ≡ (served.posts number).taken =
        ap (λ (b : Bool). (if b then after_offer ((queueing_of receivers).automatic number) answer (served.posts number) else served.posts number).taken) other in
        λ i. desk_by receiver.name receiver.auto receiver.places (offered i) (taken_of (offered i)) (taken i)

    -- that of the offer
    pub own_desk : (number : ℕ) (receiver : ReceiverInfo) → slice_get receivers number ≡ Some receiver → found.track.feed.receiver ≡ number → HasPost receivers served number
        → desk_at nodes start next number receiver
        ≡ desk_offered (packet_in (notification_of (answered Took))) (notice_in (notification_of (answered Took))) served.run.standing.position (desk_at nodes start served number receiver)
    own_desk number receiver there own post =
        let test : (found.track.feed.receiver == number) ≡ true = grind (arith, own) in
        let answer : Answer = found_answer (queueing_of receivers) found served in
        let places : places_of (slice_get receivers number) ≡ receiver.places = ap places_of there in
        let automatic : takes_itself (slice_get receivers number) ≡ receiver.auto = ap takes_itself there in
        let same : answer ≡ answer_by receiver.places (served.posts number) =
        ap (λ (r : ℕ). answer_by (places_of (slice_get receivers r)) (served.posts r)) own ∙ ap (λ (k : ℕ). answer_by k (served.posts number)) places in
        let offered : offered_to number next ≡ offered_to number served ++ answered answer ∷ [] =
        filter-append (λ (a : Attempt). a.receiver == number) served.run.done (answered answer ∷ [])
        ∙ ap (λ (xs : List Attempt). offered_to number served ++ xs) (filter_pass (λ (a : Attempt). a.receiver == number) (answered answer) [] test) in
        let taken : (next.posts number).taken ≡ (after_offer (takes_itself (slice_get receivers number)) answer (served.posts number)).taken =
        ap (λ (b : Bool). (if b then after_offer (takes_itself (slice_get receivers number)) answer (served.posts number) else served.posts number).taken) test in
        (λ i. desk_by receiver.name receiver.auto receiver.places (offered i) (taken_of (offered i)) (taken i))
        ∙ ((λ i. desk_by receiver.name receiver.auto receiver.places (offered_to number served ++ answered (same i) ∷ []) (taken_of (offered_to number served ++ answered (same i) ∷ [])) (after_offer (automatic i) (same i) (served.posts number)).taken)
        ∙ offer_made receiver.name receiver.places (offered_to number served) c served.run.standing.position served.run.standing.stamp found.track found.item receiver.auto (served.posts number) post.parts
        (λ e. post.none (automatic ∙ e)))

    -- and what it is answered
    pub own_answer : (number : ℕ) (receiver : ReceiverInfo) → slice_get receivers number ≡ Some receiver → found.track.feed.receiver ≡ number → HasPost receivers served number
        → answer_of (desk_answer (desk_at nodes start served number receiver)) ≡ found_answer (queueing_of receivers) found served
    own_answer number receiver there own post =
        let accepted : List Notification = taken_of (offered_to number served) in
        let place : ℕ = (served.posts number).taken in
        let left : length (drop place accepted) ≡ length accepted - place = length-drop place accepted in
        let parts : length accepted ≡ place + (served.posts number).held = post.parts in
        let held : length (drop place accepted) ≡ (served.posts number).held = omega (arith, left, parts) in
        let count : length (map packet_in (drop place accepted)) ≡ (served.posts number).held = length-map (drop place accepted) packet_in ∙ held in
        let same : found_answer (queueing_of receivers) found served ≡ answer_by receiver.places (served.posts number) =
        ap (λ (r : ℕ). answer_by (places_of (slice_get receivers r)) (served.posts r)) own ∙ ap (λ (k : ℕ). answer_by k (served.posts number)) (ap places_of there) in
        told (nat_lt (length (map packet_in (drop place accepted))) receiver.places)
        ∙ (ap (λ (k : ℕ). if nat_lt k receiver.places then Took else Full) count ∙ sym same)
      where
        told : (room : Bool) → answer_of (if room then settled.Took else settled.Full) ≡ (if room then Took else Full)
        told true = refl
        told false = refl

  -- ---- takes

  -- a receiver that takes what it takes by an entry
  pub taking_desk : (count : ℕ) (receiver : ReceiverInfo) (offered : List Attempt) (post : Post) → length (taken_of offered) ≡ post.taken + post.held
      → desk_by receiver.name receiver.auto receiver.places offered (taken_of offered) (after_take count post).taken ≡ desk_took count (desk_by receiver.name receiver.auto receiver.places offered (taken_of offered) post.taken)
  taking_desk count receiver offered post parts =
      let xs : List Notification = taken_of offered in
      let left : length (drop post.taken xs) ≡ length xs - post.taken = length-drop post.taken xs in
      let held : post.held ≡ length (drop post.taken xs) = omega (arith, left, parts) in
      let packets : length (map packet_in (drop post.taken xs)) ≡ length (drop post.taken xs) = length-map (drop post.taken xs) packet_in in
      let taken : post.taken + min count post.held ≡ post.taken + min count (length (drop post.taken xs)) = ap (λ (k : ℕ). post.taken + min count k) held in
      let kept : drop (post.taken + min count post.held) xs ≡ drop count (drop post.taken xs) = ap (λ (k : ℕ). drop k xs) taken ∙ sym (drop_most post.taken count xs) in
      let got : take (post.taken + min count post.held) xs ≡ take post.taken xs ++ take count (drop post.taken xs) = ap (λ (k : ℕ). take k xs) taken ∙ sym (take_most post.taken count xs) in
      λ i. record {
        name = receiver.name;
        automatic = receiver.auto;
        log = map (logged nodes start) offered;
        taken = (taken ∙ ap (λ (k : ℕ). post.taken + min count k) (sym packets)) i;
        queue = record { packets = (ap (map packet_in) kept ∙ sym (drop-map packet_in count (drop post.taken xs))) i; places = receiver.places };
        waiting = (ap (map notice_in) kept ∙ sym (drop-map notice_in count (drop post.taken xs))) i;
        trees =
            (ap (received []) got
            ∙ (received_more [] (take post.taken xs) (take count (drop post.taken xs))
            ∙ (sym (hears_received (received [] (take post.taken xs)) (take count (drop post.taken xs)))
            ∙ ap (λ (ns : List Notice). hears_all ns (received [] (take post.taken xs))) (sym (take-map notice_in count (drop post.taken xs)))))) i;
      }

  -- ---- the desks of all receivers

  -- there is one for each receiver
  pub desks_length : (served : Served) (number : ℕ) (receivers : List ReceiverInfo) → length (desks_at nodes start served number receivers) ≡ length receivers
  desks_length served number [] = refl
  desks_length served number (receiver ∷ receivers) = ap (λ (n : ℕ). suc n) (desks_length served (number + 1) receivers)

  pub desk_there : (served : Served) (number place at : ℕ) (receivers : List ReceiverInfo) (receiver : ReceiverInfo) (d : DeskState) → at ≡ number + place → slice_get receivers place ≡ Some receiver
      → get_or (desks_at nodes start served number receivers) place d ≡ desk_at nodes start served at receiver
  desk_there served number place at [] receiver d is there = absurd cc
  desk_there served number zero at (one ∷ receivers) receiver d is there =
      let same : one ≡ receiver = cc in
      let first : number ≡ at = omega (arith, is) in
      λ i. desk_at nodes start served (first i) (same i)
  desk_there served number (suc place) at (one ∷ receivers) receiver d is there = desk_there served (number + 1) place at receivers receiver d (omega (arith, is)) there

  -- where those of all others stay
  same_desks : (served next : Served) (number : ℕ) (receivers : List ReceiverInfo) → ((k : ℕ) (r : ReceiverInfo) → number ≤ k → desk_at nodes start next k r ≡ desk_at nodes start served k r)
      → desks_at nodes start served number receivers ≡ desks_at nodes start next number receivers
  same_desks served next number [] same = refl
  same_desks served next number (one ∷ receivers) same = λ i. sym (same number one (omega arith)) i ∷ same_desks served next (number + 1) receivers (λ k r later. same k r (omega (arith, later))) i

  -- where one changes, and those of all others stay
  pub one_desk : (served next : Served) (number place at : ℕ) (receivers : List ReceiverInfo) (receiver : ReceiverInfo) → at ≡ number + place → slice_get receivers place ≡ Some receiver
      → ((k : ℕ) (r : ReceiverInfo) → (at == k) ≡ false → desk_at nodes start next k r ≡ desk_at nodes start served k r)
      → slice_set (desks_at nodes start served number receivers) place (desk_at nodes start next at receiver) ≡ desks_at nodes start next number receivers
  one_desk served next number place at [] receiver is there same = absurd cc
  one_desk served next number zero at (one ∷ receivers) receiver is there same =
      let this : receiver ≡ one = cc in
      let first : at ≡ number = omega (arith, is) in
      λ i. desk_at nodes start next (first i) (this i) ∷ same_desks served next (number + 1) receivers (λ k r later. same k r (grind (arith, later, first))) i
  one_desk served next number (suc place) at (one ∷ receivers) receiver is there same =
      λ i. sym (same number one (grind (arith, is))) i ∷ one_desk served next (number + 1) place at receivers receiver (omega (arith, is)) there same i
