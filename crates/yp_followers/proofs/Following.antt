-- What each step of a worker that follows leaves: an offer that is answered, and an entry that is taken in.
use Rattle.std.proofs.Common.{◌≡◌, ℕ, ◌+◌, ◌==◌, Bool, true, List, [], ◌∷◌, ◌++◌, length, get_or, slice_set, eq-eqb, append_assoc, append-nil, Option, Some, None, refl, sym, ap, subst, ◌∙◌, arith}
use Rattle.std.proofs.lemmas.Bool.{ne_eqb}
use Rattle.yp_schema.specs.declared.schema.SchemaNode.{SchemaNode}
use Rattle.yp_schema.specs.WellFormed.{IsSchema}
use Rattle.yp_journal.specs.declared.entry.Entry.{Entry}
use Rattle.yp_journal.specs.declared.receiver.ReceiverInfo.{ReceiverInfo}
use Rattle.yp_journal.specs.History.{IsLegal, JournalState, first_state, next_state, state_of}
use Rattle.yp_attempt.specs.AttemptLaws.{answers_one_more}
use Rattle.yp_attempt.specs.Attempts.{answers_in}
use Rattle.yp_attempt.specs.Moments.{Moment, AllMayFollow, MayFollow as MomentMayFollow}
use Rattle.yp_attempt.specs.RunLaws.{position_is}
use Rattle.yp_attempt.specs.Runs.{Reaches, Run, advances, run_advanced, run_settled, settles, waits}
use Rattle.yp_attempt.specs.Tracks.{Answer, Attempt, attempt}
use Rattle.yp_moment.specs.Entries.{moment_of, moments_of}
use Rattle.yp_moment.specs.MomentLaws.{moments_count}
use Rattle.yp_moment.specs.Windows.{recorded}
use Rattle.yp_slot.specs.declared.settling.Settled.{Settled}
use Rattle.yp_slot.specs.Steps.{answer_of}
use Rattle.yp_worker.specs.declared.offering.Sent.{Sent}
use Rattle.yp_worker.specs.declared.worker.Worker.{Worker}
use Rattle.yp_worker.specs.Workers.{HasFound, HasOffered, IsIdleWorkerOf, IsSentBy, IsWorkerOf}
use Rattle.yp_followers.specs.declared.outbox.Outbox.{Outbox}
use Rattle.yp_followers.specs.Followers.{AnswersIf, FollowsIf, IsFollowing, IsOffered, IsOnSomeWay, IsOnlyAt, IsOutboxOf, IsUpToDate, IsUpToSome, TakesIn}
use Rattle.yp_followers.proofs.Outboxes.{boxes_have, other_box, own_box}

-- ---- what laws say

-- what a worker offers is what its run offers
abbrev pub Offers : Type 0
Offers = (nodes : List SchemaNode) (start : ℕ) (receivers : List ReceiverInfo) (mine : List ℕ) (entries : List Entry) (answers : List Answer) (sent : Sent) (worker : Worker)
    → HasOffered nodes start receivers mine entries answers sent worker → (run : Run) → Reaches recorded mine (moments_of nodes receivers entries) answers run → IsSentBy nodes start run sent

-- it has nothing to offer exactly where the run hasn't
abbrev pub Idle : Type 0
Idle = (nodes : List SchemaNode) (start : ℕ) (receivers : List ReceiverInfo) (mine : List ℕ) (entries : List Entry) (answers : List Answer) (worker : Worker)
    → IsIdleWorkerOf nodes start receivers mine entries answers worker → (run : Run) → Reaches recorded mine (moments_of nodes receivers entries) answers run → waits recorded run ≡ None

-- the position is further with each entry
abbrev pub Positions : Type 0
Positions = (nodes : List SchemaNode) (state : JournalState) (entries : List Entry) → (state_of nodes state entries).position ≡ state.position + length entries

-- the state after one entry more
abbrev pub StateMore : Type 0
StateMore = (nodes : List SchemaNode) (state : JournalState) (entries : List Entry) (entry : Entry) → state_of nodes state (entries ++ entry ∷ []) ≡ next_state nodes (state_of nodes state entries) entry.command

-- one entry more is one moment more
abbrev pub OneMore : Type 0
OneMore = (nodes : List SchemaNode) (receivers : List ReceiverInfo) (entries : List Entry) (entry : Entry)
    → moments_of nodes receivers (entries ++ entry ∷ []) ≡ moments_of nodes receivers entries ++ moment_of nodes (state_of nodes (first_state receivers) entries) entry ∷ []

-- the entries of a legal journal may follow each other
abbrev pub AllFollow : Type 0
AllFollow = (nodes : List SchemaNode) (receivers : List ReceiverInfo) (entries : List Entry) → IsSchema nodes → IsLegal nodes (first_state receivers) entries → AllMayFollow [] (moments_of nodes receivers entries)

number_is : (a b : ℕ) → a ≡ b → (a == b) ≡ true
number_is a b same = eq-eqb a b same

last_follows : (past moments : List Moment) (m : Moment) → AllMayFollow past (moments ++ m ∷ []) → MomentMayFollow (past ++ moments) m
last_follows past [] m all = subst (λ (those : List Moment). MomentMayFollow those m) (sym (append-nil past)) all.0
last_follows past (x ∷ moments) m all = subst (λ (those : List Moment). MomentMayFollow those m) (append_assoc past (x ∷ []) moments) (last_follows (past ++ x ∷ []) moments m all.1)

module _ (nodes : List SchemaNode) (start : ℕ) (receivers : List ReceiverInfo) (mine : List ℕ) where
  -- ---- what was found

  -- an offer, which is out
  pub found_offer : (entries : List Entry) (answers : List Answer) (found : Option Sent) (sent : Sent) (worker : Worker) → found ≡ Some sent → HasFound nodes start receivers mine entries answers found worker → HasOffered nodes start receivers mine entries answers sent worker
  found_offer entries answers found sent worker is has = subst (λ (o : Option Sent). HasFound nodes start receivers mine entries answers o worker) is has

  -- nothing
  pub found_none : (entries : List Entry) (answers : List Answer) (found : Option Sent) (worker : Worker) → found ≡ None → HasFound nodes start receivers mine entries answers found worker → IsIdleWorkerOf nodes start receivers mine entries answers worker
  found_none entries answers found worker is has = subst (λ (o : Option Sent). HasFound nodes start receivers mine entries answers o worker) is has

  -- where the run stands
  at_position : Positions → (entries : List Entry) (answers : List Answer) (run : Run) (state : JournalState) (at : ℕ) → Reaches recorded mine (moments_of nodes receivers entries) answers run → state ≡ state_of nodes (first_state receivers) entries
      → at ≡ state.position → at ≡ run.standing.position
  at_position positions entries answers run state at reaches is here =
      let count : (state_of nodes (first_state receivers) entries).position ≡ 0 + length entries = positions nodes (first_state receivers) entries in
      let past : run.standing.position ≡ length (moments_of nodes receivers entries) = position_is recorded mine (moments_of nodes receivers entries) answers run reaches in
      let moments : length (moments_of nodes receivers entries) ≡ length entries = moments_count nodes (first_state receivers) entries in
      let same : state.position ≡ (state_of nodes (first_state receivers) entries).position = ap (λ (s : JournalState). s.position) is in
      omega (arith, here, same, count, past, moments)

  module _ (before absorbed : List Entry) (opened : List Attempt) where
    -- ---- offers

    -- an offer was answered
    pub answered : Offers → Positions → (first found after : Worker) (boxes : List Outbox) (sent : Sent) (at place : ℕ) (settled : Settled) (box none : Outbox) → (f : IsFollowing nodes start receivers mine before absorbed opened first boxes)
        → HasOffered nodes start receivers mine (before ++ absorbed) (answers_in f.run.done) sent found → at ≡ found.state.position → IsOnlyAt sent.receiver boxes place → IsOffered (get_or boxes place none) sent.packet at settled box
        → IsWorkerOf nodes start receivers mine (before ++ absorbed) (answers_in f.run.done ++ answer_of settled ∷ []) after → IsFollowing nodes start receivers mine before absorbed opened after (slice_set boxes place box)
    answered offers positions first found after boxes sent at place settled box none f has stands only offered worker =
        let past : List Moment = moments_of nodes receivers (before ++ absorbed) in
        let by : IsSentBy nodes start f.run sent = offers nodes start receivers mine (before ++ absorbed) (answers_in f.run.done) sent found has f.run f.reaches in
        let here : at ≡ f.run.standing.position = at_position positions (before ++ absorbed) (answers_in f.run.done) f.run found.state at f.reaches has.followed.state stands in
        let answer : Answer = answer_of settled in
        let a : Attempt = attempt recorded f.run.standing.position f.run.standing.stamp by.found.track by.found.item answer in
        let next : Run = run_settled recorded f.run by.found answer in
        let answers : answers_in next.done ≡ answers_in f.run.done ++ answer ∷ [] = answers_one_more f.run.done a in
        let reaches : Reaches recorded mine past (answers_in f.run.done ++ answer ∷ []) next = settles past (answers_in f.run.done) f.run by.found answer f.reaches by.waits in
        record {
          run = next;
          since = f.since ++ a ∷ [];
          done = ap (λ (those : List Attempt). those ++ a ∷ []) f.done ∙ append_assoc opened f.since (a ∷ []);
          stands = subst (λ (those : List Answer). IsWorkerOf nodes start receivers mine (before ++ absorbed) those after) (sym answers) worker;
          reaches = subst (λ (those : List Answer). Reaches recorded mine past those next) (sym answers) reaches;
          outboxes =
              boxes_have (IsOutboxOf nodes start opened f.since) (IsOutboxOf nodes start opened (f.since ++ a ∷ [])) sent.receiver box none
              (λ other not is. other_box nodes start opened f.since a other (ne_eqb a.receiver other.receiver (λ same. not (sym same ∙ sym by.to))) is)
              boxes place only.within (λ other less not. only.others other none less not)
              (λ is. own_box nodes start opened f.since a (get_or boxes place none) box sent.packet at settled (number_is a.receiver (get_or boxes place none).receiver (sym by.to ∙ sym (only.its none))) refl by.packet here is offered)
              f.outboxes;
        }

    -- nothing was offered
    pub nothing_left : (first found : Worker) (boxes : List Outbox) → (f : IsFollowing nodes start receivers mine before absorbed opened first boxes) → IsIdleWorkerOf nodes start receivers mine (before ++ absorbed) (answers_in f.run.done) found
        → IsUpToDate nodes start receivers mine before absorbed opened found boxes
    nothing_left first found boxes f idle = record { run = f.run; since = f.since; done = f.done; idle = idle; reaches = f.reaches; outboxes = f.outboxes }

    -- ---- entries

    -- an entry was absorbed
    pub entered : OneMore → AllFollow → Idle → (first after : Worker) (boxes : List Outbox) (entry : Entry) → (u : IsUpToDate nodes start receivers mine before absorbed opened first boxes)
        → IsWorkerOf nodes start receivers mine ((before ++ absorbed) ++ entry ∷ []) (answers_in u.run.done) after → IsFollowing nodes start receivers mine before (absorbed ++ entry ∷ []) opened after boxes
    entered one_more all_follow idle first after boxes entry u stands =
        let past : List Moment = moments_of nodes receivers (before ++ absorbed) in
        let longer : List Entry = (before ++ absorbed) ++ entry ∷ [] in
        let m : Moment = moment_of nodes (state_of nodes (first_state receivers) (before ++ absorbed)) entry in
        let answers : List Answer = answers_in u.run.done in
        let next : Run = run_advanced recorded mine m u.run in
        let moments : moments_of nodes receivers longer ≡ past ++ m ∷ [] = one_more nodes receivers (before ++ absorbed) entry in
        let may : MomentMayFollow past m = last_follows [] past m (subst (λ (ms : List Moment). AllMayFollow [] ms) moments (all_follow nodes receivers longer stands.followed.schema stands.followed.legal)) in
        let none : waits recorded u.run ≡ None = idle nodes start receivers mine (before ++ absorbed) answers first u.idle u.run u.reaches in
        let reaches : Reaches recorded mine (past ++ m ∷ []) answers next = advances past answers u.run m u.reaches may none in
        let same : longer ≡ before ++ (absorbed ++ entry ∷ []) = append_assoc before absorbed (entry ∷ []) in
        record {
          run = next;
          since = u.since;
          done = u.done;
          stands = subst (λ (those : List Entry). IsWorkerOf nodes start receivers mine those answers after) same stands;
          reaches =
              subst (λ (those : List Entry). Reaches recorded mine (moments_of nodes receivers those) answers next) same
              (subst (λ (ms : List Moment). Reaches recorded mine ms answers next) (sym moments) reaches);
          outboxes = u.outboxes;
        }

    -- and what it makes was offered: then its state is the next one
    pub next_there : StateMore → (first after : Worker) (boxes left : List Outbox) (entry : Entry) → IsUpToDate nodes start receivers mine before absorbed opened first boxes
        → IsUpToDate nodes start receivers mine before (absorbed ++ entry ∷ []) opened after left → after.state ≡ next_state nodes first.state entry.command
    next_there state_more first after boxes left entry u now =
        now.idle.followed.state
        ∙ (ap (state_of nodes (first_state receivers)) (sym (append_assoc before absorbed (entry ∷ [])))
        ∙ (state_more nodes (first_state receivers) (before ++ absorbed) entry ∙ ap (λ (s : JournalState). next_state nodes s entry.command) (sym u.idle.followed.state)))

-- ---- whatever came before

module _ (nodes : List SchemaNode) (first after : Worker) (boxes left : List Outbox) where
  -- offers were answered, so the worker is still on its way
  pub still_on : IsOnSomeWay nodes first boxes → AnswersIf true nodes first boxes after left → IsOnSomeWay nodes after left
  still_on way goes = record {
    start = way.start;
    receivers = way.receivers;
    mine = way.mine;
    before = way.before;
    absorbed = way.absorbed;
    opened = way.opened;
    is = goes way.start way.receivers way.mine way.before way.absorbed way.opened way.is;
  }

  -- more of them
  pub goes_more : (b more : Bool) (last : Worker) (at : List Outbox) → b ≡ more → AnswersIf true nodes first boxes after left → AnswersIf b nodes after left last at → AnswersIf more nodes first boxes last at
  goes_more b more last at is so_far step start receivers mine before absorbed opened way =
      subst (λ (x : Bool). FollowsIf x nodes start receivers mine before absorbed opened last at) is (step start receivers mine before absorbed opened (so_far start receivers mine before absorbed opened way))

  -- entries were taken in, so it is up to date
  pub still_up : (fresh : List Entry) → IsUpToSome nodes first boxes → TakesIn nodes fresh first boxes after left → IsUpToSome nodes after left
  still_up fresh up taken = record {
    start = up.start;
    receivers = up.receivers;
    mine = up.mine;
    before = up.before;
    absorbed = up.absorbed ++ fresh;
    opened = up.opened;
    is = taken up.start up.receivers up.mine up.before up.absorbed up.opened up.is;
  }

  -- more of them
  pub takes_more : (fresh more all : List Entry) (last : Worker) (at : List Outbox) → all ≡ fresh ++ more → TakesIn nodes fresh first boxes after left → TakesIn nodes more after left last at → TakesIn nodes all first boxes last at
  takes_more fresh more all last at is so_far step start receivers mine before absorbed opened up =
      let same : (absorbed ++ fresh) ++ more ≡ absorbed ++ all = append_assoc absorbed fresh more ∙ ap (λ (those : List Entry). absorbed ++ those) (sym is) in
      subst (λ (those : List Entry). IsUpToDate nodes start receivers mine before those opened last at) same (step start receivers mine before (absorbed ++ fresh) opened (so_far start receivers mine before absorbed opened up))

-- no entry yet
pub takes_none : (nodes : List SchemaNode) (worker : Worker) (boxes : List Outbox) → TakesIn nodes [] worker boxes worker boxes
takes_none nodes worker boxes start receivers mine before absorbed opened up =
    subst (λ (those : List Entry). IsUpToDate nodes start receivers mine before those opened worker boxes) (sym (append-nil absorbed)) up
