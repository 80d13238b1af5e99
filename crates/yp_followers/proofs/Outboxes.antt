-- Outboxes, of which one got an offer.
use Rattle.std.proofs.Common.{◌≡◌, ◌≢◌, ℕ, zero, suc, ◌+◌, ◌<◌, ◌≤◌, ◌==◌, true, false, List, [], ◌∷◌, ◌++◌, length, map, get_or, slice_set, append_assoc, append-nil, refl, sym, ap, subst, ◌∙◌, arith, length-append}
use Rattle.std.specs.List.{AllByRecursion}
use Rattle.std.proofs.lemmas.List.{length-map, map-append}
use Rattle.yp_schema.specs.declared.schema.SchemaNode.{SchemaNode}
use Rattle.yp_queue.specs.declared.packet.Packet.{Packet}
use Rattle.yp_attempt.specs.AttemptLaws.{other_more, own_more, taken_append}
use Rattle.yp_attempt.specs.Attempts.{FillsFirst, Notification, if_taken, notification_of, of_receiver, taken_of}
use Rattle.yp_attempt.specs.Tracks.{Answer, Attempt, Full, Took, is_taken}
use Rattle.yp_slot.specs.declared.settling.Settled.{Settled}
use Rattle.yp_slot.specs.declared.settling.Settled.TheVariants as answers
use Rattle.yp_slot.specs.Steps.{answer_of}
use Rattle.yp_worker.specs.Packets.{packet_of}
use Rattle.yp_offer_log.specs.Logs.{logged, logged_by}
use Rattle.yp_offer_log.specs.declared.logged.Logged.{Logged}
use Rattle.yp_offer_log.specs.declared.logged.Logged.TheVariants as logs
use Rattle.yp_followers.specs.declared.outbox.Outbox.{Outbox}
use Rattle.yp_followers.specs.Followers.{AreSameOutboxes, IsOffered, IsOutboxOf, IsSameOutbox}
use Rattle.yp_followers.proofs.Fulls.{fills_more}

-- ---- the same outboxes

same_box : (box : Outbox) → IsSameOutbox box box
same_box box = record { receiver = refl; queue = refl; places = refl }

pub same_boxes : (boxes : List Outbox) → AreSameOutboxes boxes boxes
same_boxes [] = tt
same_boxes (box ∷ boxes) = (same_box box, same_boxes boxes)

pub same_through : (ones twos threes : List Outbox) → AreSameOutboxes ones twos → AreSameOutboxes twos threes → AreSameOutboxes ones threes
same_through [] [] threes first second = second
same_through [] (two ∷ twos) threes first second = absurd first
same_through (one ∷ ones) [] threes first second = absurd first
same_through (one ∷ ones) (two ∷ twos) [] first second = second
same_through (one ∷ ones) (two ∷ twos) (three ∷ threes) first second = (
  record { receiver = second.0.receiver ∙ first.0.receiver; queue = second.0.queue ∙ first.0.queue; places = second.0.places ∙ first.0.places },
  same_through ones twos threes first.1 second.1,
)

pub same_but_one : (boxes : List Outbox) (place : ℕ) (after none : Outbox) → place < length boxes → IsSameOutbox (get_or boxes place none) after → AreSameOutboxes boxes (slice_set boxes place after)
same_but_one [] place after none within is = absurd (omega (arith, within))
same_but_one (box ∷ boxes) zero after none within is = (is, same_boxes boxes)
same_but_one (box ∷ boxes) (suc place) after none within is = (same_box box, same_but_one boxes place after none (omega (arith, within)) is)

-- ---- what all outboxes have

module _ (P Q : Outbox → Type 0) (receiver : ℕ) (after none : Outbox) (rest : (box : Outbox) → box.receiver ≢ receiver → P box → Q box) where
  others_have : (boxes : List Outbox) → ((other : ℕ) → other < length boxes → (get_or boxes other none).receiver ≢ receiver) → AllByRecursion P boxes → AllByRecursion Q boxes
  others_have [] others all = tt
  others_have (box ∷ boxes) others all = (rest box (others 0 (omega arith)) all.0, others_have boxes (λ other less. others (suc other) (omega (arith, less))) all.1)

  -- where one is replaced
  pub boxes_have : (boxes : List Outbox) (place : ℕ) → place < length boxes → ((other : ℕ) → other < length boxes → other ≢ place → (get_or boxes other none).receiver ≢ receiver)
      → (P (get_or boxes place none) → Q after) → AllByRecursion P boxes → AllByRecursion Q (slice_set boxes place after)
  boxes_have [] place within others own all = absurd (omega (arith, within))
  boxes_have (box ∷ boxes) zero within others own all =
      (own all.0, others_have boxes (λ other less. others (suc other) (omega (arith, less)) (λ same. omega (arith, same))) all.1)
  boxes_have (box ∷ boxes) (suc place) within others own all = (
    rest box (others 0 (omega arith) (λ same. omega (arith, same))) all.0,
    boxes_have boxes place (omega (arith, within)) (λ other less not. others (suc other) (omega (arith, less)) (λ same. not (omega (arith, same)))) own all.1,
  )

-- ---- an attempt more

-- the packets of what was taken
abbrev packets : List SchemaNode → ℕ → List Attempt → List Packet
packets nodes start offered = map (λ n. packet_of nodes start n.sub n.made) (taken_of offered)

abbrev logs_of : List SchemaNode → ℕ → List Attempt → List Logged
logs_of nodes start offered = map (logged nodes start) offered

module _ (nodes : List SchemaNode) (start : ℕ) (opened since : List Attempt) (a : Attempt) where
  abbrev Before : Outbox → Type 0
  Before box = IsOutboxOf nodes start opened since box

  abbrev Now : Outbox → Type 0
  Now box = IsOutboxOf nodes start opened (since ++ a ∷ []) box

  in_all : (receiver : ℕ) → of_receiver receiver (opened ++ (since ++ a ∷ [])) ≡ of_receiver receiver ((opened ++ since) ++ a ∷ [])
  in_all receiver = ap (of_receiver receiver) (sym (append_assoc opened since (a ∷ [])))

  pub other_box : (box : Outbox) → (a.receiver == box.receiver) ≡ false → Before box → Now box
  other_box box other is =
      let since_same : of_receiver box.receiver since ≡ of_receiver box.receiver (since ++ a ∷ []) = sym (other_more box.receiver since a other) in
      record {
        log = is.log ∙ ap (logs_of nodes start) (sym (in_all box.receiver ∙ other_more box.receiver (opened ++ since) a other));
        sent = is.sent ∙ ap (packets nodes start) since_same;
        fulls = subst (λ (those : List Attempt). FillsFirst box.send.places those) since_same is.fulls;
      }

  -- the log of the attempt's receiver
  own_log : (box : Outbox) → (a.receiver == box.receiver) ≡ true → Before box → (entry : Logged) → entry ≡ logged nodes start a → box.log.items ++ entry ∷ [] ≡ logs_of nodes start (of_receiver box.receiver (opened ++ (since ++ a ∷ [])))
  own_log box own is entry its =
      (λ i. is.log i ++ its i ∷ [])
      ∙ (sym (map-append (logged nodes start) (of_receiver box.receiver (opened ++ since)) (a ∷ []))
      ∙ ap (logs_of nodes start) (sym (in_all box.receiver ∙ own_more box.receiver (opened ++ since) a own)))

  -- what was taken for it
  own_taken : (receiver : ℕ) → (a.receiver == receiver) ≡ true → (answer : Answer) → a.answer ≡ answer → taken_of (of_receiver receiver (since ++ a ∷ [])) ≡ taken_of (of_receiver receiver since) ++ if_taken answer (notification_of a) []
  own_taken receiver own answer is =
      ap taken_of (own_more receiver since a own)
      ∙ (taken_append (of_receiver receiver since) (a ∷ []) ∙ ap (λ (x : Answer). taken_of (of_receiver receiver since) ++ if_taken x (notification_of a) []) is)

  own_fulls : (box : Outbox) → (a.receiver == box.receiver) ≡ true → Before box → (is_taken a.answer ≡ false → box.send.places ≤ length (taken_of (of_receiver box.receiver since))) → FillsFirst box.send.places (of_receiver box.receiver (since ++ a ∷ []))
  own_fulls box own is full =
      subst (λ (those : List Attempt). FillsFirst box.send.places those) (sym (own_more box.receiver since a own)) (fills_more box.send.places (of_receiver box.receiver since) a is.fulls full)

  -- an outbox that has this is one of the attempt more
  made_now : (box after : Outbox) → after.receiver ≡ box.receiver → after.send.places ≡ box.send.places → after.log.items ≡ logs_of nodes start (of_receiver box.receiver (opened ++ (since ++ a ∷ [])))
      → after.send.sent ≡ packets nodes start (of_receiver box.receiver (since ++ a ∷ [])) → FillsFirst box.send.places (of_receiver box.receiver (since ++ a ∷ [])) → Now after
  made_now box after receiver places log sent fulls = record {
    log = log ∙ ap (λ (r : ℕ). logs_of nodes start (of_receiver r (opened ++ (since ++ a ∷ [])))) (sym receiver);
    sent = sent ∙ ap (λ (r : ℕ). packets nodes start (of_receiver r (since ++ a ∷ []))) (sym receiver);
    fulls =
        subst (λ (p : ℕ). FillsFirst p (of_receiver after.receiver (since ++ a ∷ []))) (sym places)
        (subst (λ (r : ℕ). FillsFirst box.send.places (of_receiver r (since ++ a ∷ []))) (sym receiver) fulls);
  }

  -- the outbox of the attempt's receiver
  pub own_box : (box after : Outbox) (packet : Packet) (at : ℕ) (settled : Settled) → (a.receiver == box.receiver) ≡ true → a.answer ≡ answer_of settled → packet ≡ packet_of nodes start a.sub a.made → at ≡ a.at
      → Before box → IsOffered box packet at settled after → Now after
  own_box box after packet at answers.Took own took same here is offered =
      let line : logs.Line packet.kind packet.line ≡ logged nodes start a =
      ap (λ (p : Packet). logs.Line p.kind p.line) same ∙ ap (λ (x : Answer). logged_by x nodes start a) (sym took) in
      made_now box after offered.0 (ap (λ s. s.places) offered.2)
      (offered.1 ∙ own_log box own is (logs.Line packet.kind packet.line) line)
      (ap (λ s. s.sent) offered.2
      ∙ ((λ i. is.sent i ++ same i ∷ [])
      ∙ (sym (map-append (λ (n : Notification). packet_of nodes start n.sub n.made) (taken_of (of_receiver box.receiver since)) (notification_of a ∷ []))
      ∙ ap (map (λ (n : Notification). packet_of nodes start n.sub n.made)) (sym (own_taken box.receiver own Took took)))))
      (own_fulls box own is (λ full. absurd cc))
  own_box box after packet at answers.Full own refused same here is offered =
      let line : logs.FullAt packet.sub at ≡ logged nodes start a =
      (λ i. logs.FullAt (same i).sub (here i)) ∙ ap (λ (x : Answer). logged_by x nodes start a) (sym refused) in
      let taken : taken_of (of_receiver box.receiver (since ++ a ∷ [])) ≡ taken_of (of_receiver box.receiver since) = own_taken box.receiver own Full refused ∙ append-nil (taken_of (of_receiver box.receiver since)) in
      let held = offered.3 in
      let count : length held.0 ≡ box.send.places = held.1 in
      let sent : length box.send.sent ≡ length held.2.0 + length held.0 = ap length held.2.1 ∙ length-append held.2.0 held.0 in
      let packed : length box.send.sent ≡ length (taken_of (of_receiver box.receiver since)) = ap length is.sent ∙ length-map (taken_of (of_receiver box.receiver since)) (λ (n : Notification). packet_of nodes start n.sub n.made) in
      made_now box after offered.0 (ap (λ s. s.places) offered.2)
      (offered.1 ∙ own_log box own is (logs.FullAt packet.sub at) line)
      (ap (λ s. s.sent) offered.2 ∙ (is.sent ∙ ap (map (λ (n : Notification). packet_of nodes start n.sub n.made)) (sym taken)))
      (own_fulls box own is (λ full. omega (arith, count, sent, packed)))
