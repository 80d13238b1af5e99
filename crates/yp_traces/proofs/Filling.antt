-- What is delivered to a receiver that takes a notification only where its queue is full.
use Rattle.std.proofs.Common.{◌≡◌, ℕ, zero, suc, ◌+◌, ◌<◌, ◌≤◌, refl, sym, ap, ◌∙◌, Bool, List, [], ◌∷◌, ◌++◌, length, arith, append-nil, append_assoc, length-append}
use Rattle.std.specs.Prelude.{if◌then◌else◌, false, min, nat_lt}
use Rattle.std.proofs.lemmas.Bool.{lt-ltb}
use Rattle.yp_attempt.specs.Attempts.{Notification, answers_in, if_taken, notification_of, taken_of}
use Rattle.yp_attempt.specs.AttemptLaws.{answers_one_more, taken_append}
use Rattle.yp_attempt.specs.Tracks.{Answer, Attempt, Full, Took}
use Rattle.yp_world.specs.World.{Delivery, delivery_after, queue_answer}

-- a queue gave these attempts their answers, and what it accepted was taken, or it stands there
pub record IsSent (offered : List Attempt) (delivery : Delivery) : Type 0 where
  pub answers : delivery.answers ≡ answers_in offered
  pub accepted : delivery.taken ++ delivery.queue ≡ taken_of offered

-- and as many stand there as were accepted, but no more than there are places
pub record IsFilled (offered : List Attempt) (delivery : Delivery) : Type 0 where
  pub sent : IsSent offered delivery
  pub stand : length delivery.queue ≡ min delivery.places (length (taken_of offered))

-- with one more they would be as many as after one more
pub record HasRoom (offered : List Attempt) (delivery : Delivery) : Type 0 where
  pub sent : IsSent offered delivery
  pub room : suc (length delivery.queue) ≡ min delivery.places (suc (length (taken_of offered)))

-- the queue gives one more attempt this answer, and is filled after it
pub record IsAnswered (offered : List Attempt) (a : Attempt) (answer : Answer) (delivery : Delivery) : Type 0 where
  pub answer_is : queue_answer delivery ≡ answer
  pub places : (delivery_after answer (notification_of a) delivery).places ≡ delivery.places
  pub filled : IsFilled (offered ++ a ∷ []) (delivery_after answer (notification_of a) delivery)

-- ---- one attempt more

answers_more : (offered : List Attempt) (a : Attempt) (answer : Answer) → a.answer ≡ answer → (answers : List Answer) → answers ≡ answers_in offered → answers ++ answer ∷ [] ≡ answers_in (offered ++ a ∷ [])
answers_more offered a answer is answers same = (λ i. same i ++ sym is i ∷ []) ∙ sym (answers_one_more offered a)

taken_more : (offered : List Attempt) (a : Attempt) (answer : Answer) → a.answer ≡ answer → taken_of (offered ++ a ∷ []) ≡ taken_of offered ++ if_taken answer (notification_of a) []
taken_more offered a answer is = taken_append offered (a ∷ []) ∙ ap (λ (x : Answer). taken_of offered ++ if_taken x (notification_of a) []) is

-- ---- it meets a full queue

no_less : (a b c : ℕ) → a ≡ min b c → b ≤ c → nat_lt a b ≡ false
no_less a b c is most = let all : b ≤ a = omega (arith, is, most) in grind (arith, all)

pub full_answered : {offered : List Attempt} {delivery : Delivery} (a : Attempt) → a.answer ≡ Full → IsFilled offered delivery → delivery.places ≤ length (taken_of offered) → IsAnswered offered a Full delivery
full_answered {offered} {delivery} a is filled most =
    let same : taken_of (offered ++ a ∷ []) ≡ taken_of offered = taken_more offered a Full is ∙ append-nil (taken_of offered) in
    record {
      answer_is = ap (λ (b : Bool). if b then Took else Full) (no_less (length delivery.queue) delivery.places (length (taken_of offered)) filled.stand most);
      places = refl;
      filled = record {
        sent = record { answers = answers_more offered a Full is delivery.answers filled.sent.answers; accepted = filled.sent.accepted ∙ sym same };
        stand = filled.stand ∙ ap (λ (ns : List Notification). min delivery.places (length ns)) (sym same);
      };
    }

-- ---- it is accepted

less_by_one : (a b c : ℕ) → suc a ≡ min b (suc c) → a < b
less_by_one a b c is = omega (arith, is)

longer_by_one : (a b c more many : ℕ) → suc a ≡ min b (suc c) → more ≡ a + 1 → many ≡ c + 1 → more ≡ min b many
longer_by_one a b c more many is longer other = omega (arith, is, longer, other)

took_filled : (offered : List Attempt) (delivery : Delivery) (a : Attempt) → a.answer ≡ Took → HasRoom offered delivery → IsFilled (offered ++ a ∷ []) (delivery_after Took (notification_of a) delivery)
took_filled offered delivery a is room =
    let n : Notification = notification_of a in
    let more : taken_of (offered ++ a ∷ []) ≡ taken_of offered ++ n ∷ [] = taken_more offered a Took is in
    let queue : length (delivery.queue ++ n ∷ []) ≡ length delivery.queue + 1 = length-append delivery.queue (n ∷ []) in
    let many : length (taken_of (offered ++ a ∷ [])) ≡ length (taken_of offered) + 1 = ap (λ (ns : List Notification). length ns) more ∙ length-append (taken_of offered) (n ∷ []) in
    record {
      sent = record {
        answers = answers_more offered a Took is delivery.answers room.sent.answers;
        accepted = sym (append_assoc delivery.taken delivery.queue (n ∷ [])) ∙ (ap (λ (ns : List Notification). ns ++ n ∷ []) room.sent.accepted ∙ sym more);
      };
      stand = longer_by_one (length delivery.queue) delivery.places (length (taken_of offered)) _ _ room.room queue many;
    }

pub took_answered : {offered : List Attempt} {delivery : Delivery} (a : Attempt) → a.answer ≡ Took → HasRoom offered delivery → IsAnswered offered a Took delivery
took_answered {offered} {delivery} a is room =
    let less : length delivery.queue < delivery.places = less_by_one (length delivery.queue) delivery.places (length (taken_of offered)) room.room in
    record {
      answer_is = ap (λ (b : Bool). if b then Took else Full) (lt-ltb (length delivery.queue) delivery.places less);
      places = refl;
      filled = took_filled offered delivery a is room;
    }

-- ---- a receiver takes

-- the delivery after its receiver took the first of the queue
abbrev pub after_first : Delivery → Notification → List Notification → Delivery
after_first delivery n queue = record delivery { queue = queue; taken = delivery.taken ++ n ∷ [] }

pub first_sent : {offered : List Attempt} {delivery : Delivery} (n : Notification) (queue : List Notification) → delivery.queue ≡ n ∷ queue → IsSent offered delivery → IsSent offered (after_first delivery n queue)
first_sent {offered} {delivery} n queue is sent = record {
  answers = sent.answers;
  accepted = append_assoc delivery.taken (n ∷ []) queue ∙ (ap (λ (ns : List Notification). delivery.taken ++ ns) (sym is) ∙ sent.accepted);
}

-- ---- room

lesser_more : (a b c : ℕ) → a ≡ min b c → c < b → suc a ≡ min b (suc c)
lesser_more a b c is less = omega (arith, is, less)

pub has_room : {offered : List Attempt} {delivery : Delivery} → IsFilled offered delivery → length (taken_of offered) < delivery.places → HasRoom offered delivery
has_room {offered} {delivery} filled less = record { sent = filled.sent; room = lesser_more (length delivery.queue) delivery.places (length (taken_of offered)) filled.stand less }

full_more : (a rest b c : ℕ) → a ≡ min b c → b ≤ c → a ≡ suc rest → suc rest ≡ min b (suc c)
full_more a rest b c is most longer = omega (arith, is, most, longer)

-- a full queue has room once its first was taken
pub room_made : {offered : List Attempt} {delivery : Delivery} (n : Notification) (queue : List Notification) → delivery.queue ≡ n ∷ queue → IsFilled offered delivery → delivery.places ≤ length (taken_of offered)
    → HasRoom offered (after_first delivery n queue)
room_made {offered} {delivery} n queue is filled most = record {
  sent = first_sent n queue is filled.sent;
  room = full_more (length delivery.queue) (length queue) delivery.places (length (taken_of offered)) filled.stand most (ap (λ (ns : List Notification). length ns) is);
}

not_none : (a b c : ℕ) → a ≡ min b c → b ≤ c → 1 ≤ b → a ≡ zero → ⊥
not_none a b c is most some none = omega (arith, is, most, some, none)

-- in a full queue something stands
pub not_empty : {offered : List Attempt} {delivery : Delivery} → IsFilled offered delivery → delivery.places ≤ length (taken_of offered) → 1 ≤ delivery.places → delivery.queue ≡ [] → ⊥
not_empty {offered} {delivery} filled most some is =
    not_none (length delivery.queue) delivery.places (length (taken_of offered)) filled.stand most some (ap (λ (ns : List Notification). length ns) is)
