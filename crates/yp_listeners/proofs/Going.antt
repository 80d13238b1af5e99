-- What each step of a worker leaves: an entry that it takes, and an offer that is accepted.
use Rattle.std.proofs.Common.{◌≡◌, ℕ, ◌+◌, ◌*◌, ◌<◌, ◌≤◌, Bool, true, false, List, [], ◌∷◌, ◌++◌, length, Option, Some, None, refl, sym, ap, subst, ◌∙◌, arith, append-nil, append_assoc}
use Rattle.yp_schema.specs.declared.schema.SchemaNode.{SchemaNode}
use Rattle.yp_schema.specs.WellFormed.{IsSchema}
use Rattle.yp_journal.specs.declared.entry.Entry.{Entry}
use Rattle.yp_journal.specs.declared.receiver.ReceiverInfo.{ReceiverInfo}
use Rattle.yp_journal.specs.History.{IsLegal, first_state, state_of}
use Rattle.yp_queue.specs.declared.packet.Packet.{Packet}
use Rattle.yp_attempt.specs.AttemptLaws.{answers_one_more}
use Rattle.yp_attempt.specs.Attempts.{answers_in}
use Rattle.yp_attempt.specs.ListLaws.{all_append}
use Rattle.yp_attempt.specs.Moments.{AllMayFollow, MayFollow, Moment}
use Rattle.yp_attempt.specs.Runs.{Found, Reaches, Run, first_run, opened, advances, settles, run_advanced, run_settled, waits}
use Rattle.yp_attempt.specs.Tracks.{Answer, Attempt, Took, attempt}
use Rattle.yp_moment.specs.Entries.{moment_of, moments_of}
use Rattle.yp_moment.specs.Windows.{recorded}
use Rattle.yp_worker.specs.declared.offering.Sent.{Sent}
use Rattle.yp_worker.specs.declared.worker.Worker.{Worker}
use Rattle.yp_worker.specs.Packets.{packet_of}
use Rattle.yp_worker.specs.Workers.{HasFound, HasOffered, IsIdleWorkerOf, IsSentBy, IsWorkerOf}
use Rattle.yp_listeners.specs.declared.listener.Listener.{Listener}
use Rattle.yp_listeners.specs.Listeners.{GoesOn, GoesOnIf, HasServed, IsReady, IsServed, IsServedOn, IsServing, OnlyTook, WereGiven, offers_left}
use Rattle.yp_listeners.proofs.Listening.{all_given}

-- ---- what laws say

-- what a worker offers is what its run offers
abbrev pub Offers : Type 0
Offers = (nodes : List SchemaNode) (start : ℕ) (receivers : List ReceiverInfo) (mine : List ℕ) (entries : List Entry) (answers : List Answer) (sent : Sent) (worker : Worker)
    → HasOffered nodes start receivers mine entries answers sent worker → (run : Run) → Reaches recorded mine (moments_of nodes receivers entries) answers run → IsSentBy nodes start run sent

-- it has nothing to offer exactly where the run hasn't
abbrev pub Idle : Type 0
Idle = (nodes : List SchemaNode) (start : ℕ) (receivers : List ReceiverInfo) (mine : List ℕ) (entries : List Entry) (answers : List Answer) (worker : Worker)
    → IsIdleWorkerOf nodes start receivers mine entries answers worker → (run : Run) → Reaches recorded mine (moments_of nodes receivers entries) answers run → waits recorded run ≡ None

-- it serves a feed for each track of the run
abbrev pub Feeds : Type 0
Feeds = (nodes : List SchemaNode) (start : ℕ) (receivers : List ReceiverInfo) (mine : List ℕ) (entries : List Entry) (answers : List Answer) (worker : Worker)
    → IsWorkerOf nodes start receivers mine entries answers worker → (run : Run) → Reaches recorded mine (moments_of nodes receivers entries) answers run → length run.standing.tracks ≡ length worker.roster.slots.items

abbrev pub Fewer : Type 0
Fewer = (nodes : List SchemaNode) (receivers : List ReceiverInfo) (mine : List ℕ) (entries : List Entry) (answers : List Answer) (run : Run) (found : Found)
    → IsLegal nodes (first_state receivers) entries → Reaches recorded mine (moments_of nodes receivers entries) answers run → waits recorded run ≡ Some found
    → offers_left (run_settled recorded run found Took) < offers_left run

abbrev pub Most : Type 0
Most = (run : Run) → offers_left run ≤ 15 * length run.standing.tracks

abbrev pub OneMore : Type 0
OneMore = (nodes : List SchemaNode) (receivers : List ReceiverInfo) (entries : List Entry) (entry : Entry)
    → moments_of nodes receivers (entries ++ entry ∷ []) ≡ moments_of nodes receivers entries ++ moment_of nodes (state_of nodes (first_state receivers) entries) entry ∷ []

abbrev pub AllFollow : Type 0
AllFollow = (nodes : List SchemaNode) (receivers : List ReceiverInfo) (entries : List Entry)
    → IsSchema nodes → IsLegal nodes (first_state receivers) entries → AllMayFollow [] (moments_of nodes receivers entries)

-- ---- an entry

last_follows : (past moments : List Moment) (m : Moment) → AllMayFollow past (moments ++ m ∷ []) → MayFollow (past ++ moments) m
last_follows past [] m all = subst (λ (ms : List Moment). MayFollow ms m) (sym (append-nil past)) all.0
last_follows past (first ∷ moments) m all = subst (λ (ms : List Moment). MayFollow ms m) (append_assoc past (first ∷ []) moments) (last_follows (past ++ first ∷ []) moments m all.1)

-- a worker that took an entry has still served its listeners
pub entered : Idle → OneMore → AllFollow → (nodes : List SchemaNode) (start : ℕ) (receivers : List ReceiverInfo) (mine : List ℕ) (entries : List Entry) (entry : Entry) (run : Run) (before after : Worker) (listeners : List Listener)
    → IsServed nodes start receivers mine entries run before listeners → IsWorkerOf nodes start receivers mine (entries ++ entry ∷ []) (answers_in run.done) after
    → HasServed nodes start receivers mine (entries ++ entry ∷ []) (run_advanced recorded mine (moment_of nodes (state_of nodes (first_state receivers) entries) entry) run) after listeners
entered idle one_more all_follow nodes start receivers mine entries entry run before after listeners served stands =
    let journal : List Moment = moments_of nodes receivers entries in
    let last : Moment = moment_of nodes (state_of nodes (first_state receivers) entries) entry in
    let more : moments_of nodes receivers (entries ++ entry ∷ []) ≡ journal ++ last ∷ [] = one_more nodes receivers entries entry in
    let all : AllMayFollow [] (journal ++ last ∷ []) =
    subst (λ (ms : List Moment). AllMayFollow [] ms) more (all_follow nodes receivers (entries ++ entry ∷ []) stands.followed.schema stands.followed.legal) in
    let none : waits recorded run ≡ None = idle nodes start receivers mine entries (answers_in run.done) before served.idle run served.reaches in
    record {
      stands = stands;
      reaches = subst (λ (ms : List Moment). Reaches recorded mine ms (answers_in run.done) (run_advanced recorded mine last run)) (sym more)
          (advances journal (answers_in run.done) run last served.reaches (last_follows [] journal last all) none);
      each = served.each;
    }

-- ---- runs that go on

-- a run went on from itself by nothing
pub only_none : (run : Run) → OnlyTook run run
only_none run = record { more = []; done = sym (append-nil run.done); took = tt }

only_then : (first second third : Run) → OnlyTook first second → OnlyTook second third → OnlyTook first third
only_then first second third one two = record {
  more = one.more ++ two.more;
  done = two.done ∙ (ap (λ (done : List Attempt). done ++ two.more) one.done ∙ append_assoc first.done one.more two.more);
  took = all_append (λ a. a.answer ≡ Took) one.more two.more one.took two.took;
}

-- ---- an offer

-- what was found is out
pub found_offer : (nodes : List SchemaNode) (start : ℕ) (receivers : List ReceiverInfo) (mine : List ℕ) (entries : List Entry) (answers : List Answer) (found : Option Sent) (sent : Sent) (worker : Worker)
    → found ≡ Some sent → HasFound nodes start receivers mine entries answers found worker → HasOffered nodes start receivers mine entries answers sent worker
found_offer nodes start receivers mine entries answers found sent worker is has = subst (λ (o : Option Sent). HasFound nodes start receivers mine entries answers o worker) is has

pub found_none : (nodes : List SchemaNode) (start : ℕ) (receivers : List ReceiverInfo) (mine : List ℕ) (entries : List Entry) (answers : List Answer) (found : Option Sent) (worker : Worker)
    → found ≡ None → HasFound nodes start receivers mine entries answers found worker → IsIdleWorkerOf nodes start receivers mine entries answers worker
found_none nodes start receivers mine entries answers found worker is has = subst (λ (o : Option Sent). HasFound nodes start receivers mine entries answers o worker) is has

-- the offer of the run was accepted, and its listener has it
pub accepted : Fewer → Offers → (nodes : List SchemaNode) (start : ℕ) (receivers : List ReceiverInfo) (mine : List ℕ) (entries : List Entry) (run : Run) (sent : Sent) (before offering after : Worker) (listeners left : List Listener)
    → HasServed nodes start receivers mine entries run before listeners → HasOffered nodes start receivers mine entries (answers_in run.done) sent offering
    → WereGiven nodes sent.receiver sent.packet listeners left → IsWorkerOf nodes start receivers mine entries (answers_in run.done ++ Took ∷ []) after
    → GoesOn nodes start receivers mine entries run 1 after left
accepted fewer offers nodes start receivers mine entries run sent before offering after listeners left served has given stands =
    let by : IsSentBy nodes start run sent = offers nodes start receivers mine entries (answers_in run.done) sent offering has run served.reaches in
    let found : Found = by.found in
    let n : ℕ = run.standing.position in
    let stamp : ℕ = run.standing.stamp in
    let made : Attempt = attempt recorded n stamp found.track found.item Took in
    let next : Run = run_settled recorded run found Took in
    let answers : answers_in next.done ≡ answers_in run.done ++ Took ∷ [] = answers_one_more run.done made in
    let less : offers_left next < offers_left run = fewer nodes receivers mine entries (answers_in run.done) run found has.followed.legal served.reaches by.waits in
    let to : WereGiven nodes found.track.feed.receiver sent.packet listeners left = subst (λ (number : ℕ). WereGiven nodes number sent.packet listeners left) by.to given in
    let told : WereGiven nodes found.track.feed.receiver (packet_of nodes start made.sub made.made) listeners left =
    subst (λ (packet : Packet). WereGiven nodes found.track.feed.receiver packet listeners left) by.packet to in
    record {
      run = next;
      only = record { more = made ∷ []; done = refl; took = (refl, tt) };
      fewer = omega (arith, less);
      served = record {
        stands = subst (λ (those : List Answer). IsWorkerOf nodes start receivers mine entries those after) (sym answers) stands;
        reaches = subst (λ (those : List Answer). Reaches recorded mine (moments_of nodes receivers entries) those next) (sym answers)
            (settles (moments_of nodes receivers entries) (answers_in run.done) run found Took served.reaches by.waits);
        each = all_given nodes start run.done n stamp found.track found.item listeners left told served.each;
      };
    }

-- where the worker has nothing to offer, all was offered
pub ended : (nodes : List SchemaNode) (start : ℕ) (receivers : List ReceiverInfo) (mine : List ℕ) (entries : List Entry) (run : Run) (before after : Worker) (listeners : List Listener)
    → HasServed nodes start receivers mine entries run before listeners → IsIdleWorkerOf nodes start receivers mine entries (answers_in run.done) after → IsServedOn nodes start receivers mine entries run after listeners
ended nodes start receivers mine entries run before after listeners served idle =
    record { run = run; only = only_none run; served = record { idle = idle; reaches = served.reaches; each = served.each } }

-- ---- many offers

-- what is known of a step from each run over which the worker may have served its listeners
abbrev pub Steps : List SchemaNode → Worker → List Listener → (ℕ → List ReceiverInfo → List ℕ → List Entry → Run → Type 0) → Type 0
Steps nodes worker listeners P = (start : ℕ) (receivers : List ReceiverInfo) (mine : List ℕ) (entries : List Entry) (run : Run) → HasServed nodes start receivers mine entries run worker listeners → P start receivers mine entries run

-- a step more, where there may be more
pub goes_more : (nodes : List SchemaNode) (first before after : Worker) (listeners between left : List Listener) (count more : ℕ) (b : Bool) → b ≡ true
    → Steps nodes first listeners (λ start receivers mine entries run. GoesOn nodes start receivers mine entries run count before between)
    → Steps nodes before between (λ start receivers mine entries run. GoesOnIf b nodes start receivers mine entries run more after left)
    → Steps nodes first listeners (λ start receivers mine entries run. GoesOn nodes start receivers mine entries run (count + more) after left)
goes_more nodes first before after listeners between left count more b is so_far step start receivers mine entries run served =
    let one = so_far start receivers mine entries run served in
    let two : GoesOn nodes start receivers mine entries one.run more after left =
    subst (λ (x : Bool). GoesOnIf x nodes start receivers mine entries one.run more after left) is (step start receivers mine entries one.run one.served) in
    let first_fewer : offers_left one.run + count ≤ offers_left run = one.fewer in
    let second_fewer : offers_left two.run + more ≤ offers_left one.run = two.fewer in
    record { run = two.run; only = only_then run one.run two.run one.only two.only; fewer = omega (arith, first_fewer, second_fewer); served = two.served }

-- and where there is none
pub goes_through : (nodes : List SchemaNode) (first before after : Worker) (listeners between left : List Listener) (count more : ℕ) (b : Bool) → b ≡ false
    → Steps nodes first listeners (λ start receivers mine entries run. GoesOn nodes start receivers mine entries run count before between)
    → Steps nodes before between (λ start receivers mine entries run. GoesOnIf b nodes start receivers mine entries run more after left)
    → Steps nodes first listeners (λ start receivers mine entries run. IsServedOn nodes start receivers mine entries run after left)
goes_through nodes first before after listeners between left count more b is so_far step start receivers mine entries run served =
    let one = so_far start receivers mine entries run served in
    let two : IsServedOn nodes start receivers mine entries one.run after left =
    subst (λ (x : Bool). GoesOnIf x nodes start receivers mine entries one.run more after left) is (step start receivers mine entries one.run one.served) in
    record { run = two.run; only = only_then run one.run two.run one.only two.only; served = two.served }

-- no step yet
pub goes_none : (nodes : List SchemaNode) (worker : Worker) (listeners : List Listener) → Steps nodes worker listeners (λ start receivers mine entries run. GoesOn nodes start receivers mine entries run 0 worker listeners)
goes_none nodes worker listeners start receivers mine entries run served = record { run = run; only = only_none run; fewer = omega arith; served = served }

-- as many steps by another count
pub goes_same : (nodes : List SchemaNode) (first after : Worker) (listeners left : List Listener) (count same : ℕ) → count ≡ same
    → Steps nodes first listeners (λ start receivers mine entries run. GoesOn nodes start receivers mine entries run count after left)
    → Steps nodes first listeners (λ start receivers mine entries run. GoesOn nodes start receivers mine entries run same after left)
goes_same nodes first after listeners left count same is so_far start receivers mine entries run served =
    subst (λ (n : ℕ). GoesOn nodes start receivers mine entries run n after left) is (so_far start receivers mine entries run served)

-- it has still served its listeners
pub still_serving : (nodes : List SchemaNode) (first after : Worker) (listeners left : List Listener) (count : ℕ) → IsServing nodes first listeners
    → Steps nodes first listeners (λ start receivers mine entries run. GoesOn nodes start receivers mine entries run count after left) → IsServing nodes after left
still_serving nodes first after listeners left count is steps =
    let went = steps is.start is.receivers is.mine is.entries is.run is.served in
    record { start = is.start; receivers = is.receivers; mine = is.mine; entries = is.entries; run = went.run; served = went.served }

-- more than fifteen offers for each feed never come
pub no_more : Most → Feeds → (nodes : List SchemaNode) (first after : Worker) (listeners left : List Listener) (feeds : ℕ) → feeds ≡ length first.roster.slots.items → IsServing nodes first listeners
    → Steps nodes first listeners (λ start receivers mine entries run. GoesOn nodes start receivers mine entries run (15 * feeds + 15) after left) → ⊥
no_more most counts nodes first after listeners left feeds is serving steps =
    let went = steps serving.start serving.receivers serving.mine serving.entries serving.run serving.served in
    let run : Run = serving.run in
    let fewer : offers_left went.run + (15 * feeds + 15) ≤ offers_left run = went.fewer in
    let few : offers_left run ≤ 15 * length run.standing.tracks = most run in
    let tracks : length run.standing.tracks ≡ feeds =
    counts nodes serving.start serving.receivers serving.mine serving.entries (answers_in run.done) first serving.served.stands run serving.served.reaches ∙ sym is in
    omega (arith, fewer, few, tracks)

-- ---- whatever the entries

-- a worker that was opened, and a listener that took nothing, have served no entries
pub opened_ready : (nodes : List SchemaNode) (start : ℕ) (receivers : List ReceiverInfo) (mine : List ℕ) (worker : Worker) (listener : Listener) → IsIdleWorkerOf nodes start receivers mine [] [] worker
    → listener.log.items ≡ [] → listener.heard ≡ [] → IsReady nodes worker (listener ∷ [])
opened_ready nodes start receivers mine worker listener idle log heard =
    record {
      start = start;
      receivers = receivers;
      mine = mine;
      entries = [];
      run = first_run;
      served = record { idle = idle; reaches = opened; each = (record { log = log; heard = heard }, tt) };
    }

-- what was served after an entry more is ready for the next
pub still_ready : (nodes : List SchemaNode) (start : ℕ) (receivers : List ReceiverInfo) (mine : List ℕ) (entries : List Entry) (run : Run) (worker : Worker) (listeners : List Listener)
    → IsServedOn nodes start receivers mine entries run worker listeners → IsReady nodes worker listeners
still_ready nodes start receivers mine entries run worker listeners on =
    record { start = start; receivers = receivers; mine = mine; entries = entries; run = on.run; served = on.served }
