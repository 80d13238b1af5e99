-- What each step of a run leaves: an offer that is answered, and a turn that is taken.
use Rattle.std.proofs.Common.{◌≡◌, ℕ, ◌+◌, ◌*◌, ◌<◌, ◌≤◌, ◌==◌, Bool, true, false, List, [], ◌∷◌, ◌++◌, length, get_or, slice_set, Option, Some, None, refl, sym, ap, subst, ◌∙◌, arith}
use Rattle.std.proofs.lemmas.List.{map-append}
use Rattle.yp_schema.specs.declared.schema.SchemaNode.{SchemaNode}
use Rattle.yp_journal.specs.declared.entry.Entry.{Entry}
use Rattle.yp_journal.specs.declared.receiver.ReceiverInfo.{ReceiverInfo}
use Rattle.yp_journal.specs.History.{JournalState, first_state, state_of}
use Rattle.yp_attempt.specs.Attempts.{answers_in}
use Rattle.yp_attempt.specs.Runs.{Found, Reaches, Run as AttemptRun, waits}
use Rattle.yp_attempt.specs.Tracks.{Answer, Attempt, attempt}
use Rattle.yp_moment.specs.Entries.{moments_of}
use Rattle.yp_moment.specs.Windows.{recorded}
use Rattle.yp_moment.specs.MomentLaws.{moments_count}
use Rattle.yp_slot.specs.declared.settling.Settled.{Settled}
use Rattle.yp_slot.specs.Steps.{answer_of}
use Rattle.yp_serial.specs.Serial.{Served, found_answer, served_settled}
use Rattle.yp_serial.specs.Weights.{weights}
use Rattle.yp_worker.specs.declared.offering.Sent.{Sent}
use Rattle.yp_worker.specs.declared.worker.Worker.{Worker}
use Rattle.yp_worker.specs.Workers.{HasFound, HasOffered, IsIdleWorkerOf, IsSentBy, IsWorkerOf}
use Rattle.yp_promise.specs.Posts.{HavePosts}
use Rattle.yp_promise.specs.Serving.{IsServing, all_numbers, queueing_of, run_entered, run_of, taken_by}
use Rattle.yp_promise.specs.Shown.{offered_to}
use Rattle.yp_live.specs.Desks.{DeskState, desk_answer, desk_at, desk_offered, desks_at}
use Rattle.yp_live.specs.Runs.{GoesOn, GoesOnIf, IsOnItsWay, IsOnSomeWay, IsThrough, desks_took, offers_left}
use Rattle.yp_live.proofs.Desks.{desk_there, one_desk, other_desk, own_answer, own_desk, taking_desk}
use Rattle.yp_attempt.specs.RunLaws.{FindsFirst, found_for, numbers_below, position_is}
use Rattle.yp_live.proofs.Receivers.{receiver_there}

-- ---- what laws say

-- what a worker offers is what its run offers
abbrev pub Offers : Type 0
Offers = (nodes : List SchemaNode) (start : ℕ) (receivers : List ReceiverInfo) (mine : List ℕ) (entries : List Entry) (answers : List Answer) (sent : Sent) (worker : Worker)
    → HasOffered nodes start receivers mine entries answers sent worker → (run : AttemptRun) → Reaches recorded mine (moments_of nodes receivers entries) answers run → IsSentBy nodes start run sent

-- it has nothing to offer exactly where the run hasn't
abbrev pub Idle : Type 0
Idle = (nodes : List SchemaNode) (start : ℕ) (receivers : List ReceiverInfo) (mine : List ℕ) (entries : List Entry) (answers : List Answer) (worker : Worker)
    → IsIdleWorkerOf nodes start receivers mine entries answers worker → (run : AttemptRun) → Reaches recorded mine (moments_of nodes receivers entries) answers run → waits recorded run ≡ None

abbrev pub Settles : Type 0
Settles = (nodes : List SchemaNode) (receivers : List ReceiverInfo) (entries : List Entry) (served : Served) (found : Found)
    → IsServing nodes receivers entries served → waits recorded served.run ≡ Some found → IsServing nodes receivers entries (served_settled recorded (queueing_of receivers) found served)

abbrev pub Fewer : Type 0
Fewer = (nodes : List SchemaNode) (receivers : List ReceiverInfo) (entries : List Entry) (served : Served) (found : Found)
    → IsServing nodes receivers entries served → waits recorded served.run ≡ Some found
    → weights recorded served.run.standing.stamp (served_settled recorded (queueing_of receivers) found served).run.standing.tracks < weights recorded served.run.standing.stamp served.run.standing.tracks

abbrev pub Ends : Type 0
Ends = (nodes : List SchemaNode) (receivers : List ReceiverInfo) (entries : List Entry) (served : Served)
    → IsServing nodes receivers entries served → waits recorded served.run ≡ None → served ≡ run_of nodes receivers entries

abbrev pub PostsSettle : Type 0
PostsSettle = (receivers : List ReceiverInfo) (served : Served) (found : Found) → HavePosts receivers served → HavePosts receivers (served_settled recorded (queueing_of receivers) found served)

abbrev pub Positions : Type 0
Positions = (nodes : List SchemaNode) (state : JournalState) (entries : List Entry) → (state_of nodes state entries).position ≡ state.position + length entries

-- ---- an offer

-- what is sent is what a serial run offers, to one of the receivers
pub record IsOffered (nodes : List SchemaNode) (start : ℕ) (receivers : List ReceiverInfo) (served : Served) (sent : Sent) : Type 0 where
  pub by : IsSentBy nodes start served.run sent
  pub below : sent.receiver < length receivers

pub offered : FindsFirst → Offers → (nodes : List SchemaNode) (start : ℕ) (receivers : List ReceiverInfo) (entries : List Entry) (served : Served) (sent : Sent) (worker : Worker)
    → IsServing nodes receivers entries served → HasOffered nodes start receivers (all_numbers receivers) entries (answers_in served.run.done) sent worker → IsOffered nodes start receivers served sent
offered finds offers nodes start receivers entries served sent worker serving has =
    let by : IsSentBy nodes start served.run sent = offers nodes start receivers (all_numbers receivers) entries (answers_in served.run.done) sent worker has served.run serving.reaches in
    let count : ℕ = length receivers in
    let below : by.found.track.feed.receiver < count =
    found_for (λ n. n < count) finds recorded (all_numbers receivers) (numbers_below 0 1 count count (omega arith)) (moments_of nodes receivers entries) (answers_in served.run.done) served.run by.found serving.reaches by.waits in
    record { by = by; below = subst (λ (n : ℕ). n < count) (sym by.to) below }

-- where the run stands
pub at_position : Positions → (nodes : List SchemaNode) (receivers : List ReceiverInfo) (entries : List Entry) (served : Served) (state : JournalState) (at : ℕ) → IsServing nodes receivers entries served
    → state ≡ state_of nodes (first_state receivers) entries → at ≡ state.position → at ≡ served.run.standing.position
at_position positions nodes receivers entries served state at serving is here =
    let count : (state_of nodes (first_state receivers) entries).position ≡ 0 + length entries = positions nodes (first_state receivers) entries in
    let past : served.run.standing.position ≡ length (moments_of nodes receivers entries) = position_is recorded (all_numbers receivers) (moments_of nodes receivers entries) (answers_in served.run.done) served.run serving.reaches in
    let moments : length (moments_of nodes receivers entries) ≡ length entries = moments_count nodes (first_state receivers) entries in
    let same : state.position ≡ (state_of nodes (first_state receivers) entries).position = ap (λ (s : JournalState). s.position) is in
    omega (arith, here, same, count, past, moments)

-- the answer of its receiver's desk is that of the serial run, and so is what the desk is then
pub answered : Settles → Fewer → PostsSettle → (nodes : List SchemaNode) (start : ℕ) (receivers : List ReceiverInfo) (entries : List Entry) (served : Served) (sent : Sent) (at : ℕ) (settled : Settled) (d : DeskState) (before after : Worker) (desks left : List DeskState)
    → IsOnItsWay nodes start receivers entries served before desks → IsOffered nodes start receivers served sent → at ≡ served.run.standing.position
    → settled ≡ desk_answer (get_or desks sent.receiver d) → left ≡ slice_set desks sent.receiver (desk_offered sent.packet sent.notice at (get_or desks sent.receiver d))
    → IsWorkerOf nodes start receivers (all_numbers receivers) entries (answers_in served.run.done ++ answer_of settled ∷ []) after
    → GoesOn nodes start receivers entries served 1 after left
answered settles fewer posts nodes start receivers entries served sent at settled d before after desks left way is here told put stands =
    let by = is.by in
    let found : Found = by.found in
    let next : Served = served_settled recorded (queueing_of receivers) found served in
    let there = receiver_there receivers sent.receiver is.below in
    let receiver : ReceiverInfo = there.0 in
    let at_place : get_or desks sent.receiver d ≡ desk_at nodes start served sent.receiver receiver =
    ap (λ (all : List DeskState). get_or all sent.receiver d) way.are ∙ desk_there nodes start served 0 sent.receiver sent.receiver receivers receiver d (omega arith) there.1 in
    let own : found.track.feed.receiver ≡ sent.receiver = sym by.to in
    let less = fewer nodes receivers entries served found way.serving by.waits in
    let answer : answer_of settled ≡ found_answer (queueing_of receivers) found served =
    ap answer_of (told ∙ ap desk_answer at_place) ∙ own_answer nodes start recorded receivers served found sent.receiver receiver there.1 own (way.posts sent.receiver) in
    let answers : answers_in next.run.done ≡ answers_in served.run.done ++ answer_of settled ∷ [] =
    map-append (λ (a : Attempt). a.answer) served.run.done (attempt recorded served.run.standing.position served.run.standing.stamp found.track found.item (found_answer (queueing_of receivers) found served) ∷ [])
    ∙ ap (λ (x : Answer). answers_in served.run.done ++ x ∷ []) (sym answer) in
    let offered_there : desk_offered sent.packet sent.notice at (get_or desks sent.receiver d) ≡ desk_at nodes start next sent.receiver receiver =
    (λ i. desk_offered (by.packet i) (by.notice i) (here i) (at_place i)) ∙ sym (own_desk nodes start recorded receivers served found sent.receiver receiver there.1 own (way.posts sent.receiver)) in
    record {
      next = next;
      fewer = omega (arith, less);
      is = record {
        serving = settles nodes receivers entries served found way.serving by.waits;
        posts = posts receivers served found way.posts;
        stands = subst (λ (those : List Answer). IsWorkerOf nodes start receivers (all_numbers receivers) entries those after) (sym answers) stands;
        are =
            put
            ∙ ((λ i. slice_set (way.are i) sent.receiver (offered_there i))
            ∙ one_desk nodes start served next 0 sent.receiver sent.receiver receivers receiver (omega arith) there.1
            (λ k r other. other_desk nodes start recorded receivers served found k r (subst (λ (n : ℕ). (n == k) ≡ false) by.to other)));
      };
    }

-- where the worker has nothing to offer, all was offered
pub ended : Idle → Ends → (nodes : List SchemaNode) (start : ℕ) (receivers : List ReceiverInfo) (entries : List Entry) (served : Served) (worker : Worker) (desks : List DeskState)
    → IsServing nodes receivers entries served → IsIdleWorkerOf nodes start receivers (all_numbers receivers) entries (answers_in served.run.done) worker → desks ≡ desks_at nodes start served 0 receivers
    → IsThrough nodes start receivers entries worker desks
ended idle ends nodes start receivers entries served worker desks serving is are =
    let none : waits recorded served.run ≡ None = idle nodes start receivers (all_numbers receivers) entries (answers_in served.run.done) worker is served.run serving.reaches in
    let same : served ≡ run_of nodes receivers entries = ends nodes receivers entries served serving none in
    record {
      idle = subst (λ (s : Served). IsIdleWorkerOf nodes start receivers (all_numbers receivers) entries (answers_in s.run.done) worker) same is;
      are = are ∙ ap (λ (s : Served). desks_at nodes start s 0 receivers) same;
    }

-- ---- takes

-- the desks after what receivers take by an entry
pub desks_taken : (nodes : List SchemaNode) (start : ℕ) (receivers : List ReceiverInfo) (entries : List Entry) (entry : Entry) → HavePosts receivers (run_of nodes receivers entries) → (number : ℕ) (those : List ReceiverInfo)
    → desks_took entry.command number (desks_at nodes start (run_of nodes receivers entries) number those) ≡ desks_at nodes start (run_entered nodes receivers entries entry) number those
desks_taken nodes start receivers entries entry posts number [] = refl
desks_taken nodes start receivers entries entry posts number (receiver ∷ those) =
    let served : Served = run_of nodes receivers entries in
    λ i. sym (taking_desk nodes start (taken_by entry.command number) receiver (offered_to number served) (served.posts number) (posts number).parts) i
    ∷ desks_taken nodes start receivers entries entry posts (number + 1) those i

-- ---- many offers

-- what was found is out
pub found_offer : (nodes : List SchemaNode) (start : ℕ) (receivers : List ReceiverInfo) (entries : List Entry) (answers : List Answer) (found : Option Sent) (sent : Sent) (worker : Worker)
    → found ≡ Some sent → HasFound nodes start receivers (all_numbers receivers) entries answers found worker → HasOffered nodes start receivers (all_numbers receivers) entries answers sent worker
found_offer nodes start receivers entries answers found sent worker is has =
    subst (λ (o : Option Sent). HasFound nodes start receivers (all_numbers receivers) entries answers o worker) is has

pub found_none : (nodes : List SchemaNode) (start : ℕ) (receivers : List ReceiverInfo) (entries : List Entry) (answers : List Answer) (found : Option Sent) (worker : Worker)
    → found ≡ None → HasFound nodes start receivers (all_numbers receivers) entries answers found worker → IsIdleWorkerOf nodes start receivers (all_numbers receivers) entries answers worker
found_none nodes start receivers entries answers found worker is has =
    subst (λ (o : Option Sent). HasFound nodes start receivers (all_numbers receivers) entries answers o worker) is has

-- what is known of a step from each way on which the run may be
abbrev pub Steps : List SchemaNode → Worker → List DeskState → (ℕ → List ReceiverInfo → List Entry → Served → Type 0) → Type 0
Steps nodes worker desks P = (start : ℕ) (receivers : List ReceiverInfo) (entries : List Entry) (served : Served) → IsOnItsWay nodes start receivers entries served worker desks → P start receivers entries served

-- a step more, where there may be more
pub goes_more : (nodes : List SchemaNode) (first before after : Worker) (desks between left : List DeskState) (count more : ℕ) (b : Bool) → b ≡ true
    → Steps nodes first desks (λ start receivers entries served. GoesOn nodes start receivers entries served count before between)
    → Steps nodes before between (λ start receivers entries served. GoesOnIf b nodes start receivers entries served more after left)
    → Steps nodes first desks (λ start receivers entries served. GoesOn nodes start receivers entries served (count + more) after left)
goes_more nodes first before after desks between left count more b is so_far step start receivers entries served way =
    let one = so_far start receivers entries served way in
    let two : GoesOn nodes start receivers entries one.next more after left =
    subst (λ (x : Bool). GoesOnIf x nodes start receivers entries one.next more after left) is (step start receivers entries one.next one.is) in
    let first_fewer : offers_left one.next + count ≤ offers_left served = one.fewer in
    let second_fewer : offers_left two.next + more ≤ offers_left one.next = two.fewer in
    record { next = two.next; fewer = omega (arith, first_fewer, second_fewer); is = two.is }

-- and where there is none
pub goes_through : (nodes : List SchemaNode) (first before after : Worker) (desks between left : List DeskState) (count more : ℕ) (b : Bool) → b ≡ false
    → Steps nodes first desks (λ start receivers entries served. GoesOn nodes start receivers entries served count before between)
    → Steps nodes before between (λ start receivers entries served. GoesOnIf b nodes start receivers entries served more after left)
    → Steps nodes first desks (λ start receivers entries served. IsThrough nodes start receivers entries after left)
goes_through nodes first before after desks between left count more b is so_far step start receivers entries served way =
    let one = so_far start receivers entries served way in
    subst (λ (x : Bool). GoesOnIf x nodes start receivers entries one.next more after left) is (step start receivers entries one.next one.is)

-- no step yet
pub goes_none : (nodes : List SchemaNode) (worker : Worker) (desks : List DeskState) (count : ℕ) → count ≡ 0 → Steps nodes worker desks (λ start receivers entries served. GoesOn nodes start receivers entries served count worker desks)
goes_none nodes worker desks count none start receivers entries served way = record { next = served; fewer = omega (arith, none); is = way }

-- as many steps by another count
pub goes_same : (nodes : List SchemaNode) (first after : Worker) (desks left : List DeskState) (count same : ℕ) → count ≡ same
    → Steps nodes first desks (λ start receivers entries served. GoesOn nodes start receivers entries served count after left)
    → Steps nodes first desks (λ start receivers entries served. GoesOn nodes start receivers entries served same after left)
goes_same nodes first after desks left count same is so_far start receivers entries served way =
    subst (λ (n : ℕ). GoesOn nodes start receivers entries served n after left) is (so_far start receivers entries served way)

-- the run is still on some way
pub still_on : (nodes : List SchemaNode) (first after : Worker) (desks left : List DeskState) (count : ℕ) → IsOnSomeWay nodes first desks
    → Steps nodes first desks (λ start receivers entries served. GoesOn nodes start receivers entries served count after left) → IsOnSomeWay nodes after left
still_on nodes first after desks left count way steps =
    let went = steps way.start way.receivers way.entries way.served way.is in
    record { start = way.start; receivers = way.receivers; entries = way.entries; served = went.next; is = went.is }

abbrev pub Most : Type 0
Most = (served : Served) → offers_left served ≤ 15 * length served.run.standing.tracks

abbrev pub Feeds : Type 0
Feeds = (nodes : List SchemaNode) (start : ℕ) (receivers : List ReceiverInfo) (mine : List ℕ) (entries : List Entry) (answers : List Answer) (worker : Worker)
    → IsWorkerOf nodes start receivers mine entries answers worker → (run : AttemptRun) → Reaches recorded mine (moments_of nodes receivers entries) answers run → length run.standing.tracks ≡ length worker.roster.slots.items

-- more than fifteen offers for each feed never come
pub no_more : Most → Feeds → (nodes : List SchemaNode) (first after : Worker) (desks left : List DeskState) (feeds : ℕ) → feeds ≡ length first.roster.slots.items → IsOnSomeWay nodes first desks
    → Steps nodes first desks (λ start receivers entries served. GoesOn nodes start receivers entries served (15 * feeds + 15) after left) → ⊥
no_more most counts nodes first after desks left feeds is way steps =
    let went = steps way.start way.receivers way.entries way.served way.is in
    let served : Served = way.served in
    let fewer : offers_left went.next + (15 * feeds + 15) ≤ offers_left served = went.fewer in
    let few : offers_left served ≤ 15 * length served.run.standing.tracks = most served in
    let tracks : length served.run.standing.tracks ≡ feeds =
    counts nodes way.start way.receivers (all_numbers way.receivers) way.entries (answers_in served.run.done) first way.is.stands served.run way.is.serving.reaches ∙ sym is in
    omega (arith, fewer, few, tracks)
