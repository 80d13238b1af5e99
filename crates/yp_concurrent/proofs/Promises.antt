-- What workers did in a run of a script serves each receiver, and the text tells of it.
use Rattle.std.proofs.Common.{◌≡◌, ℕ, zero, suc, ◌+◌, ◌<◌, ◌≤◌, ◌%◌, ◌^◌, List, [], ◌∷◌, ◌++◌, length, map, Option, Some, None, Ok, append-nil, refl, sym, ap, subst, ◌∙◌, arith}
use Rattle.std.specs.Prelude.{codes}
use Rattle.std.specs.List.{AllByRecursion, flat_map, slice_get}
use Rattle.std.proofs.lemmas.List.{length-map}
use Rattle.std.proofs.lemmas.List.Elements.{recursion_from_All}
use Rattle.std.proofs.lemmas.Nat.{mod_below}
use Rattle.std.proofs.lemmas.Option.{same_Some, slice_get_within}
use Rattle.yp_base.specs.Elements.{get_map}
use Rattle.yp_schema.specs.declared.schema.SchemaNode.{SchemaNode}
use Rattle.yp_schema.specs.WellFormed.{IsSchema}
use Rattle.yp_time.specs.Instants.{IsStart}
use Rattle.yp_journal.specs.declared.entry.Entry.{Entry}
use Rattle.yp_journal.specs.declared.receiver.ReceiverInfo.{ReceiverInfo}
use Rattle.yp_journal.specs.History.{IsLegal, first_state}
use Rattle.yp_script.specs.declared.script.Script.{Script}
use Rattle.yp_script.specs.Script.{AreReceivers, IsReceiver, script_in}
use Rattle.yp_attempt.specs.Attempts.{FillsFirst, IsOneOf, Notification, answers_in, of_receiver, own_run, taken_of}
use Rattle.yp_attempt.specs.Content.{Content}
use Rattle.yp_attempt.specs.ElementLaws.{get_below}
use Rattle.yp_attempt.specs.Moments.{Moment}
use Rattle.yp_attempt.specs.RunLaws.{FindsFirst}
use Rattle.yp_attempt.specs.Runs.{Reaches, Run, waits}
use Rattle.yp_attempt.specs.Tracks.{Answer, Attempt}
use Rattle.yp_attempt.specs.Workers.{numbers_of}
use Rattle.yp_moment.specs.Entries.{moments_of}
use Rattle.yp_moment.specs.Windows.{recorded}
use Rattle.yp_worker.specs.declared.worker.Worker.{Worker}
use Rattle.yp_worker.specs.Workers.{IsIdleWorkerOf}
use Rattle.yp_crews.specs.declared.crew.Crew.{Crew}
use Rattle.yp_crews.specs.Crews.{AreCrews, IsCrewOf}
use Rattle.yp_promise.specs.Interleaving.{setup_of}
use Rattle.yp_promise.specs.Promise.{Mirrors}
use Rattle.yp_traces.specs.Traces.{AreServedBeside, IsWorkOf}
use Rattle.yp_texts.specs.Commands.{CommandHasUtf8, ScriptHasUtf8}
use Rattle.yp_hearing.specs.Hearing.{CanBeTold, IsHeardAsMade, LinesMirror}
use Rattle.yp_report.specs.Replies.{replied_lines, replied_of}
use Rattle.yp_report.specs.Report.{ReplyLine, receiver_text, reply_lines, reply_text}
use Rattle.yp_turns.specs.Journal.{IsJournalOf}
use Rattle.yp_turns.specs.JournalLaws.{journal_has}
use Rattle.yp_concurrent.specs.declared.outside.Standing.{Standing}
use Rattle.yp_concurrent.specs.Promise.{IsServedBeside, TellsBeside}
use Rattle.yp_concurrent.specs.Report.{done_by, got_beside, reports_beside}
use Rattle.yp_concurrent.specs.Running.{EachFilled, HasRun, HaveFilled}
use Rattle.yp_concurrent.specs.Texts.{text_beside}
use Rattle.yp_concurrent.proofs.Filling.{all_filled}

-- ---- receivers that may be declared

with_places : (receivers : List ReceiverInfo) → AllByRecursion IsReceiver receivers → AllByRecursion (λ receiver. 1 ≤ receiver.places) receivers
with_places [] all = tt
with_places (receiver ∷ receivers) all = (all.0.some, with_places receivers all.1)

-- ---- workers

-- what a worker of this number did
record IsWorkAt (nodes : List SchemaNode) (start : ℕ) (receivers : List ReceiverInfo) (workers worker : ℕ) (entries : List Entry) (run : Run) : Type 0 where
  crew : Crew
  is : IsCrewOf nodes start receivers (numbers_of worker workers (length receivers)) entries run crew
  filled : HaveFilled receivers (numbers_of worker workers (length receivers)) run.done

module _ (nodes : List SchemaNode) (start : ℕ) (receivers : List ReceiverInfo) (workers : ℕ) (entries : List Entry) where
  work_at : (worker : ℕ) (runs : List Run) (crews : List Crew) → AreCrews nodes start receivers workers worker entries runs crews → EachFilled receivers workers worker runs
      → (place : ℕ) (run : Run) → slice_get runs place ≡ Some run → IsWorkAt nodes start receivers workers (worker + place) entries run
  work_at worker [] crews are filled place run there = absurd cc
  work_at worker (one ∷ runs) [] are filled place run there = absurd are
  work_at worker (one ∷ runs) (crew ∷ crews) are filled zero run there =
      let number : worker ≡ worker + zero = omega arith in
      subst (λ (n : ℕ). IsWorkAt nodes start receivers workers n entries run) number
      (subst (λ (r : Run). IsWorkAt nodes start receivers workers worker entries r) (same_Some one run there) (record { crew = crew; is = are.0; filled = filled.0 }))
  work_at worker (one ∷ runs) (crew ∷ crews) are filled (suc place) run there =
      let number : worker + 1 + place ≡ worker + suc place = omega arith in
      subst (λ (n : ℕ). IsWorkAt nodes start receivers workers n entries run) number (work_at (worker + 1) runs crews are.1 filled.1 place run there)

  -- so it is the work of a worker of the setup
  is_work : FindsFirst → (worker : ℕ) (run : Run) → IsWorkAt nodes start receivers workers worker entries run → IsWorkOf (setup_of receivers workers) (moments_of nodes receivers entries) worker run
  is_work finds worker run at = record {
    reaches =
        subst (λ (n : ℕ). Reaches recorded (numbers_of worker workers n) (moments_of nodes receivers entries) (answers_in run.done) run) (sym (length-map receivers (λ (r : ReceiverInfo). r.places))) at.is.served.reaches;
    fulls = λ receiver places there.
        let it = get_map (λ (r : ReceiverInfo). r.places) receivers receiver places there in
        subst (λ (p : ℕ). FillsFirst p (of_receiver receiver run.done)) it.2
        (all_filled finds recorded receivers worker workers (moments_of nodes receivers entries) (answers_in run.done) run at.is.served.reaches at.filled receiver it.0 (slice_get_within receivers receiver it.0 it.1) it.1);
  }

-- ---- laws

-- what laws say of workers beside each other, and of their receivers
pub record RunLaws : Type 0 where
  pub serve : (nodes : List SchemaNode) (receivers : List ReceiverInfo) (entries : List Entry) → IsSchema nodes → IsLegal nodes (first_state receivers) entries → AllByRecursion (λ receiver. 1 ≤ receiver.places) receivers
      → (runs : List Run) → 0 < length runs → ((worker : ℕ) (run : Run) → slice_get runs worker ≡ Some run → IsWorkOf (setup_of receivers (length runs)) (moments_of nodes receivers entries) worker run) → AreServedBeside nodes receivers entries runs
  pub part : (c : Content) (receiver : ℕ) (receivers : List ℕ) → IsOneOf receiver receivers → (past : List Moment) (answers : List Answer) (run : Run) → Reaches c receivers past answers run
      → Reaches c (receiver ∷ []) past (answers_in (of_receiver receiver run.done)) (own_run receiver run)
  pub one : (workers receiver count : ℕ) → receiver < count → IsOneOf receiver (numbers_of (receiver % workers) workers count)
  pub idle : (nodes : List SchemaNode) (start : ℕ) (receivers : List ReceiverInfo) (mine : List ℕ) (entries : List Entry) (answers : List Answer) (worker : Worker)
      → IsIdleWorkerOf nodes start receivers mine entries answers worker → (run : Run) → Reaches recorded mine (moments_of nodes receivers entries) answers run → waits recorded run ≡ None
  pub finds : FindsFirst
  pub heard : (nodes : List SchemaNode) (receivers : List ReceiverInfo) (entries : List Entry) (receiver : ℕ) (answers : List Answer) (run : Run) (start : ℕ)
      → CanBeTold nodes receivers entries → Reaches recorded (receiver ∷ []) (moments_of nodes receivers entries) answers run → IsStart start
      → (got waiting : List Notification) → taken_of run.done ≡ got ++ waiting → AllByRecursion (IsHeardAsMade nodes start) got
  pub mirrors : (nodes : List SchemaNode) (receivers : List ReceiverInfo) (entries : List Entry) (receiver : ℕ) (answers : List Answer) (run : Run) (start : ℕ)
      → CanBeTold nodes receivers entries → Reaches recorded (receiver ∷ []) (moments_of nodes receivers entries) answers run → IsStart start
      → (got waiting : List Notification) → taken_of run.done ≡ got ++ waiting → Mirrors nodes receivers entries receiver got → LinesMirror nodes receivers entries receiver start got
  pub utf8 : (bytes : List ℕ) (script : Script) → script_in bytes ≡ Ok script → ScriptHasUtf8 script

-- ---- a run of a script that was read, by as many workers as there are runs

module _ (laws : RunLaws) (script : Script) (entries : List Entry) (runs : List Run) (crews : List Crew) (texts : ScriptHasUtf8 script) (declared : AreReceivers script.receivers) (start : IsStart script.start) (some : 0 < length runs)
    (journal : IsJournalOf script entries) (legal : IsLegal script.schema (first_state script.receivers) entries) (few : length entries < 2 ^ 32)
    (are : AreCrews script.schema script.start script.receivers (length runs) 0 entries runs crews) (filled : EachFilled script.receivers (length runs) 0 runs) where
  abbrev moments : List Moment
  moments = moments_of script.schema script.receivers entries

  its_work : (worker : ℕ) (run : Run) → slice_get runs worker ≡ Some run → IsWorkAt script.schema script.start script.receivers (length runs) worker entries run
  its_work worker run there =
      let number : 0 + worker ≡ worker = omega arith in
      subst (λ (n : ℕ). IsWorkAt script.schema script.start script.receivers (length runs) n entries run) number
      (work_at script.schema script.start script.receivers (length runs) entries 0 runs crews are filled worker run there)

  work : (worker : ℕ) (run : Run) → slice_get runs worker ≡ Some run → IsWorkOf (setup_of script.receivers (length runs)) moments worker run
  work worker run there = is_work script.schema script.start script.receivers (length runs) entries laws.finds worker run (its_work worker run there)

  complete : (worker : ℕ) (run : Run) → slice_get runs worker ≡ Some run → waits recorded run ≡ None
  complete worker run there =
      let at = its_work worker run there in
      laws.idle script.schema script.start script.receivers (numbers_of worker (length runs) (length script.receivers)) entries (answers_in run.done) at.crew.worker at.is.served.idle run at.is.served.reaches

  schema : IsSchema script.schema
  schema = let first = get_below runs 0 some in (its_work 0 first.0 first.1).is.served.idle.followed.schema

  beside : AreServedBeside script.schema script.receivers entries runs
  beside = laws.serve script.schema script.receivers entries schema legal (with_places script.receivers (recursion_from_All IsReceiver script.receivers declared.each)) runs some work

  can_be_told : CanBeTold script.schema script.receivers entries
  can_be_told = record { schema = schema; legal = legal; texts = journal_has CommandHasUtf8 script entries texts.before texts.lanes texts.after journal; few = few }

  -- of one receiver, by the run of its worker
  module _ (receiver : ℕ) (less : receiver < length script.receivers) where
    its : (run : Run) × (slice_get runs (receiver % length runs) ≡ Some run)
    its = get_below runs (receiver % length runs) (mod_below receiver (length runs) some)

    abbrev offered : List Attempt
    offered = of_receiver receiver its.0.done

    own : Reaches recorded (receiver ∷ []) moments (answers_in offered) (own_run receiver its.0)
    own =
        laws.part recorded receiver (numbers_of (receiver % length runs) (length runs) (length script.receivers)) (laws.one (length runs) receiver (length script.receivers) less) moments (answers_in its.0.done) its.0
        (its_work (receiver % length runs) its.0 its.1).is.served.reaches

    got_is : taken_of offered ≡ got_beside receiver runs
    got_is = ap (λ (o : Option Run). taken_of (of_receiver receiver (done_by o))) (sym its.1)

    heard : AllByRecursion (IsHeardAsMade script.schema script.start) (got_beside receiver runs)
    heard =
        subst (AllByRecursion (IsHeardAsMade script.schema script.start)) got_is
        (laws.heard script.schema script.receivers entries receiver (answers_in offered) (own_run receiver its.0) script.start can_be_told own start (taken_of offered) [] (sym (append-nil (taken_of offered))))

    mirrored : LinesMirror script.schema script.receivers entries receiver script.start (got_beside receiver runs)
    mirrored =
        subst (LinesMirror script.schema script.receivers entries receiver script.start) got_is
        (laws.mirrors script.schema script.receivers entries receiver (answers_in offered) (own_run receiver its.0) script.start can_be_told own start (taken_of offered) [] (sym (append-nil (taken_of offered)))
        (beside.serves receiver its.0 less its.1).mirrors)

  is_served : IsServedBeside script (length runs) entries runs
  is_served = record { journal = journal; legal = legal; count = refl; work = work; complete = complete; beside = beside; heard = heard; mirrored = mirrored }

pub run_serves : RunLaws → (bytes : List ℕ) (script : Script) (workers : ℕ) (standing : Standing) → script_in bytes ≡ Ok script → AreReceivers script.receivers → IsStart script.start → 0 < workers
    → (run : HasRun script.schema script.start script.receivers workers script.before script.lanes script.after standing) → IsServedBeside script workers run.entries run.is.runs
run_serves laws bytes script workers standing read declared start some run =
    let is = run.is in
    let same : workers ≡ length is.runs = sym is.count in
    subst (λ (n : ℕ). IsServedBeside script n run.entries is.runs) is.count
    (is_served laws script run.entries is.runs standing.crews.items (laws.utf8 bytes script read) declared start (subst (λ (n : ℕ). 0 < n) same some)
    (record { middle = run.middle; turns = run.turns; lanes = run.interleaves }) is.legal run.few
    (subst (λ (n : ℕ). AreCrews script.schema script.start script.receivers n 0 run.entries is.runs standing.crews.items) same is.crews) (subst (λ (n : ℕ). EachFilled script.receivers n 0 is.runs) same is.filled))

-- ---- the text

-- what a law says of the lines of replies
abbrev pub ReplyLaw : Type 0
ReplyLaw = (n : ℕ) (entries : List Entry) → replied_lines n (map replied_of entries) ≡ reply_lines n entries

pub tells : ReplyLaw → (bytes : List ℕ) (script : Script) (workers : ℕ) (standing : Standing) → script_in bytes ≡ Ok script → (run : HasRun script.schema script.start script.receivers workers script.before script.lanes script.after standing)
    → IsServedBeside script workers run.entries run.is.runs → (text : List ℕ) → text ≡ text_beside script.schema script.start script.receivers standing.replies.items run.is.runs → TellsBeside workers bytes text
tells replies bytes script workers standing read run served text told =
    let rest : List ℕ = flat_map (receiver_text script.schema script.start) (reports_beside script.schema script.start run.is.runs 0 script.receivers) ++ codes "end\n" in
    record {
      script = script;
      entries = run.entries;
      runs = run.is.runs;
      read = read;
      served = served;
      report =
          told
          ∙ ((λ i. flat_map reply_text (replied_lines 1 (run.is.replies i)) ++ rest)
          ∙ ap (λ (lines : List ReplyLine). flat_map reply_text lines ++ rest) (replies 1 run.entries));
    }
