-- What the two sides of a queue make of a listener.
use Rattle.std.proofs.Common.{◌≡◌, ℕ, ◌+◌, ◌==◌, List, [], ◌∷◌, ◌++◌, length, map, true, Some, append-nil, refl, sym, ap, subst, ◌∙◌, arith, length-append}
use Rattle.std.specs.List.{AllByRecursion, slice_get}
use Rattle.std.proofs.lemmas.List.{map-append}
use Rattle.std.proofs.lemmas.List.Elements.{filter-append}
use Rattle.yp_base.specs.declared.row.Row.{Row}
use Rattle.yp_schema.specs.declared.schema.SchemaNode.{SchemaNode}
use Rattle.yp_journal.specs.declared.receiver.ReceiverInfo.{ReceiverInfo}
use Rattle.yp_queue.specs.declared.packet.Packet.{Packet}
use Rattle.yp_attempt.specs.AttemptLaws.{taken_append}
use Rattle.yp_attempt.specs.Attempts.{FillsFirst, Notification, of_receiver, taken_of}
use Rattle.yp_attempt.specs.Tracks.{Attempt}
use Rattle.yp_receiver.specs.Held.{line_taken, lines_heard}
use Rattle.yp_worker.specs.Packets.{packet_of}
use Rattle.yp_offer_log.specs.Logs.{logged}
use Rattle.yp_listeners.specs.declared.listener.Listener.{Listener}
use Rattle.yp_listeners.specs.Listeners.{IsListenerOf, numbers_in}
use Rattle.yp_followers.specs.declared.outbox.Outbox.{Outbox}
use Rattle.yp_followers.specs.Followers.{AreSameOutboxes, IsOutboxOf, IsSameOutbox}
use Rattle.yp_takers.specs.declared.taker.TakerJob.{TakerJob}
use Rattle.yp_takers.specs.Takers.{HasTakenOn}
use Rattle.yp_handover.specs.Handover.{AreSidesOf, HasHeardAll, IsOfOneQueue, Pairs, Triples}

-- what is held after lines and more lines
pub heard_both : (nodes : List SchemaNode) (held : List (ℕ × List Row)) (lines more : List (List ℕ)) → lines_heard nodes held (lines ++ more) ≡ lines_heard nodes (lines_heard nodes held lines) more
heard_both nodes held [] more = refl
heard_both nodes held (line ∷ lines) more = heard_both nodes (line_taken nodes held line) lines more

abbrev lines_of : List Packet → List (List ℕ)
lines_of packets = map (λ (packet : Packet). packet.line) packets

-- ---- before threads

module _ (nodes : List SchemaNode) (start : ℕ) (receivers : List ReceiverInfo) (workers : ℕ) (done : List Attempt) where
  nothing_fills : (places : ℕ) → FillsFirst places []
  nothing_fills places before a after is full = absurd (omega (arith, ap length is, length-append before (a ∷ after)))

  -- an outbox has what its listener had
  begins : (listener : Listener) (box : Outbox) (taker : TakerJob) → AreSidesOf receivers workers listener box taker → IsListenerOf nodes start done listener → IsOutboxOf nodes start done [] box
  begins listener box taker sides is = record {
    log = sides.log ∙ (is.log ∙ (λ i. map (logged nodes start) (of_receiver (sym sides.receiver i) (sym (append-nil done) i))));
    sent = sides.sent;
    fulls = nothing_fills box.send.places;
  }

  pub all_begin : (listeners : List Listener) (boxes : List Outbox) (takers : List TakerJob) → Triples (AreSidesOf receivers workers) listeners boxes takers → AllByRecursion (IsListenerOf nodes start done) listeners → AllByRecursion (IsOutboxOf nodes start done []) boxes
  all_begin [] [] [] sides all = tt
  all_begin [] [] (taker ∷ takers) sides all = absurd sides
  all_begin [] (box ∷ boxes) takers sides all = absurd sides
  all_begin (listener ∷ listeners) [] takers sides all = absurd sides
  all_begin (listener ∷ listeners) (box ∷ boxes) [] sides all = absurd sides
  all_begin (listener ∷ listeners) (box ∷ boxes) (taker ∷ takers) sides all = (begins listener box taker sides.0 all.0, all_begin listeners boxes takers sides.1 all.1)

-- ---- after them

module _ (nodes : List SchemaNode) (receivers : List ReceiverInfo) (workers : ℕ) where
  -- the two sides, of which the one took from the other, and heard that beside what the listener held
  pub record AreSidesAfter (listener : Listener) (box : Outbox) (taker : TakerJob) : Type 0 where
    pub receiver : box.receiver ≡ listener.receiver
    pub places : (info : ReceiverInfo) → slice_get receivers listener.receiver ≡ Some info → box.send.places ≡ info.places
    pub of_one : IsOfOneQueue box taker
    pub heard : taker.heard ≡ lines_heard nodes listener.heard (lines_of taker.take.taken)

  after : (listener : Listener) (box left : Outbox) (taker taken : TakerJob) → AreSidesOf receivers workers listener box taker → IsSameOutbox box left → HasTakenOn nodes taker taken → taken.whole ≡ true → AreSidesAfter listener left taken
  after listener box left taker taken sides same on whole =
      let more : on.more ≡ taken.take.taken = sym (sym on.kept ∙ (on.took ∙ ap (λ (packets : List Packet). packets ++ on.more) sides.kept)) in
      record {
        receiver = same.receiver ∙ sides.receiver;
        places = λ info is. same.places ∙ sides.places info is;
        of_one = record { queue = on.queue ∙ (sides.queue ∙ sym same.queue); kept = on.kept };
        heard = on.heard whole ∙ (λ i. lines_heard nodes (sides.held i) (lines_of (more i)));
      }

  pub all_after : (listeners : List Listener) (boxes lefts : List Outbox) (takers takens : List TakerJob) → Triples (AreSidesOf receivers workers) listeners boxes takers → AreSameOutboxes boxes lefts → Pairs (HasTakenOn nodes) takers takens
      → AllByRecursion (λ (taker : TakerJob). taker.whole ≡ true) takens → Triples AreSidesAfter listeners lefts takens
  all_after [] [] [] [] [] sides same on whole = tt
  all_after [] [] [] [] (taken ∷ takens) sides same on whole = absurd on
  all_after [] [] [] (taker ∷ takers) takens sides same on whole = absurd sides
  all_after [] [] (left ∷ lefts) takers takens sides same on whole = absurd same
  all_after [] (box ∷ boxes) lefts takers takens sides same on whole = absurd sides
  all_after (listener ∷ listeners) [] lefts takers takens sides same on whole = absurd sides
  all_after (listener ∷ listeners) (box ∷ boxes) [] takers takens sides same on whole = absurd same
  all_after (listener ∷ listeners) (box ∷ boxes) (left ∷ lefts) [] takens sides same on whole = absurd sides
  all_after (listener ∷ listeners) (box ∷ boxes) (left ∷ lefts) (taker ∷ takers) [] sides same on whole = absurd on
  all_after (listener ∷ listeners) (box ∷ boxes) (left ∷ lefts) (taker ∷ takers) (taken ∷ takens) sides same on whole =
      (after listener box left taker taken sides.0 same.0 on.0 whole.0, all_after listeners boxes lefts takers takens sides.1 same.1 on.1 whole.1)

  pub all_of_one : (listeners : List Listener) (boxes : List Outbox) (takers : List TakerJob) → Triples AreSidesAfter listeners boxes takers → Pairs IsOfOneQueue boxes takers
  all_of_one [] [] [] sides = tt
  all_of_one [] [] (taker ∷ takers) sides = absurd sides
  all_of_one [] (box ∷ boxes) takers sides = absurd sides
  all_of_one (listener ∷ listeners) [] takers sides = absurd sides
  all_of_one (listener ∷ listeners) (box ∷ boxes) [] sides = absurd sides
  all_of_one (listener ∷ listeners) (box ∷ boxes) (taker ∷ takers) sides = (sides.0.of_one, all_of_one listeners boxes takers sides.1)

  -- ---- listeners again

  -- a listener that has what an outbox has, and heard all that this sent beside what the listener before held
  pub record ListensOn (before : Listener) (box : Outbox) (now : Listener) : Type 0 where
    pub receiver : box.receiver ≡ before.receiver
    pub places : (info : ReceiverInfo) → slice_get receivers before.receiver ≡ Some info → box.send.places ≡ info.places
    pub same : now.receiver ≡ box.receiver
    pub log : now.log.items ≡ box.log.items
    pub heard : now.heard ≡ lines_heard nodes before.heard (lines_of box.send.sent)

  listens : (before : Listener) (box : Outbox) (taker : TakerJob) (now : Listener) → AreSidesAfter before box taker → HasHeardAll nodes box taker now → ListensOn before box now
  listens before box taker now sides all = record {
    receiver = sides.receiver;
    places = sides.places;
    same = all.receiver;
    log = all.log;
    heard = all.heard
        ∙ (ap (λ (held : List (ℕ × List Row)). lines_heard nodes held (lines_of all.rest)) sides.heard
        ∙ (sym (heard_both nodes before.heard (lines_of taker.take.taken) (lines_of all.rest))
        ∙ (ap (lines_heard nodes before.heard) (sym (map-append (λ (packet : Packet). packet.line) taker.take.taken all.rest))
        ∙ ap (λ (packets : List Packet). lines_heard nodes before.heard (lines_of packets)) (sym all.whole))));
  }

  pub all_listen : (befores : List Listener) (boxes : List Outbox) (takers : List TakerJob) (nows : List Listener) → Triples AreSidesAfter befores boxes takers → Triples (HasHeardAll nodes) boxes takers nows → Triples ListensOn befores boxes nows
  all_listen [] [] [] [] sides all = tt
  all_listen [] [] [] (now ∷ nows) sides all = absurd all
  all_listen [] [] (taker ∷ takers) nows sides all = absurd sides
  all_listen [] (box ∷ boxes) takers nows sides all = absurd sides
  all_listen (before ∷ befores) [] takers nows sides all = absurd sides
  all_listen (before ∷ befores) (box ∷ boxes) [] nows sides all = absurd sides
  all_listen (before ∷ befores) (box ∷ boxes) (taker ∷ takers) [] sides all = absurd all
  all_listen (before ∷ befores) (box ∷ boxes) (taker ∷ takers) (now ∷ nows) sides all = (listens before box taker now sides.0 all.0, all_listen befores boxes takers nows sides.1 all.1)

  -- their numbers stay
  pub numbers_stay : (befores : List Listener) (boxes : List Outbox) (nows : List Listener) → Triples ListensOn befores boxes nows → numbers_in nows ≡ numbers_in befores
  numbers_stay [] [] [] on = refl
  numbers_stay [] [] (now ∷ nows) on = absurd on
  numbers_stay [] (box ∷ boxes) nows on = absurd on
  numbers_stay (before ∷ befores) [] nows on = absurd on
  numbers_stay (before ∷ befores) (box ∷ boxes) [] on = absurd on
  numbers_stay (before ∷ befores) (box ∷ boxes) (now ∷ nows) on = λ i. (on.0.same ∙ on.0.receiver) i ∷ numbers_stay befores boxes nows on.1 i

  -- ---- what they have of a run that went on

  module _ (start : ℕ) (opened since done : List Attempt) (all : done ≡ opened ++ since) where
    abbrev line_in : Notification → List ℕ
    line_in n = (packet_of nodes start n.sub n.made).line

    abbrev packets_in : List Notification → List Packet
    packets_in ns = map (λ (n : Notification). packet_of nodes start n.sub n.made) ns

    lines_in : (ns : List Notification) → lines_of (packets_in ns) ≡ map line_in ns
    lines_in [] = refl
    lines_in (n ∷ ns) = ap (λ (lines : List (List ℕ)). line_in n ∷ lines) (lines_in ns)

    own : (receiver : ℕ) → of_receiver receiver opened ++ of_receiver receiver since ≡ of_receiver receiver done
    own receiver = sym (filter-append (λ (a : Attempt). a.receiver == receiver) opened since) ∙ ap (of_receiver receiver) (sym all)

    taken_both : (receiver : ℕ) → map line_in (taken_of (of_receiver receiver opened)) ++ map line_in (taken_of (of_receiver receiver since)) ≡ map line_in (taken_of (of_receiver receiver done))
    taken_both receiver =
        sym (map-append line_in (taken_of (of_receiver receiver opened)) (taken_of (of_receiver receiver since)))
        ∙ (ap (map line_in) (sym (taken_append (of_receiver receiver opened) (of_receiver receiver since))) ∙ ap (λ (attempts : List Attempt). map line_in (taken_of attempts)) (own receiver))

    has : (before : Listener) (box : Outbox) (now : Listener) → ListensOn before box now → IsListenerOf nodes start opened before → IsOutboxOf nodes start opened since box → IsListenerOf nodes start done now
    has before box now on was is =
        let lines : List Attempt → List (List ℕ) = (λ attempts. map line_in (taken_of attempts)) in
        let sent : lines_of box.send.sent ≡ lines (of_receiver before.receiver since) =
        ap lines_of is.sent ∙ (lines_in (taken_of (of_receiver box.receiver since)) ∙ ap (λ (r : ℕ). lines (of_receiver r since)) on.receiver) in
        record {
          log = on.log ∙ (is.log ∙ (λ i. map (logged nodes start) (of_receiver (sym on.same i) (sym all i))));
          heard = on.heard
              ∙ ((λ i. lines_heard nodes (was.heard i) (sent i))
              ∙ (sym (heard_both nodes [] (lines (of_receiver before.receiver opened)) (lines (of_receiver before.receiver since)))
              ∙ (ap (lines_heard nodes []) (taken_both before.receiver)
              ∙ ap (λ (r : ℕ). lines_heard nodes [] (lines (of_receiver r done))) (sym (on.same ∙ on.receiver)))));
        }

    pub all_have : (befores : List Listener) (boxes : List Outbox) (nows : List Listener) → Triples ListensOn befores boxes nows → AllByRecursion (IsListenerOf nodes start opened) befores → AllByRecursion (IsOutboxOf nodes start opened since) boxes
        → AllByRecursion (IsListenerOf nodes start done) nows
    all_have [] [] [] on were are = tt
    all_have [] [] (now ∷ nows) on were are = absurd on
    all_have [] (box ∷ boxes) nows on were are = absurd on
    all_have (before ∷ befores) [] nows on were are = absurd on
    all_have (before ∷ befores) (box ∷ boxes) [] on were are = absurd on
    all_have (before ∷ befores) (box ∷ boxes) (now ∷ nows) on were are = (has before box now on.0 were.0 are.0, all_have befores boxes nows on.1 were.1 are.1)

    -- and each queue was full only where it could be
    abbrev pub FillsIts : ℕ → Type 0
    FillsIts receiver = (info : ReceiverInfo) → slice_get receivers receiver ≡ Some info → FillsFirst info.places (of_receiver receiver since)

    fills : (before : Listener) (box : Outbox) (now : Listener) → ListensOn before box now → IsOutboxOf nodes start opened since box → FillsIts before.receiver
    fills before box now on is info its =
        subst (λ (places : ℕ). FillsFirst places (of_receiver before.receiver since)) (on.places info its)
        (subst (λ (r : ℕ). FillsFirst box.send.places (of_receiver r since)) on.receiver is.fulls)

    pub all_fill : (befores : List Listener) (boxes : List Outbox) (nows : List Listener) → Triples ListensOn befores boxes nows → AllByRecursion (IsOutboxOf nodes start opened since) boxes → AllByRecursion FillsIts (numbers_in befores)
    all_fill [] [] [] on are = tt
    all_fill [] [] (now ∷ nows) on are = absurd on
    all_fill [] (box ∷ boxes) nows on are = absurd on
    all_fill (before ∷ befores) [] nows on are = absurd on
    all_fill (before ∷ befores) (box ∷ boxes) [] on are = absurd on
    all_fill (before ∷ befores) (box ∷ boxes) (now ∷ nows) on are = (fills before box now on.0 are.0, all_fill befores boxes nows on.1 are.1)
