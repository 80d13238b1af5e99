-- After an entry of a legal journal its serial run goes on offer by offer, up to where nothing is offered.
use Rattle.std.proofs.Common.{◌≡◌, ℕ, ◌+◌, ◌*◌, ◌<◌, ◌≤◌, refl, sym, subst, ◌∙◌, Bool, true, false, List, [], ◌∷◌, ◌++◌, length, Some, None, Option, arith}
use Rattle.std.specs.Prelude.{if◌then◌else◌}
use Rattle.std.proofs.lemmas.List.{map-append}
use Rattle.yp_feed.specs.declared.item.Item.{Item}
use Rattle.yp_feed.specs.declared.owed.Owed.{Owed}
use Rattle.yp_feed.specs.Machine.{is_at}
use Rattle.yp_schema.specs.declared.schema.SchemaNode.{SchemaNode}
use Rattle.yp_schema.specs.WellFormed.{IsSchema}
use Rattle.yp_journal.specs.declared.entry.Entry.{Entry}
use Rattle.yp_journal.specs.declared.receiver.ReceiverInfo.{ReceiverInfo}
use Rattle.yp_journal.specs.History.{first_state, state_of, IsLegal}
use Rattle.yp_attempt.specs.Attempts.{answers_in}
use Rattle.yp_attempt.specs.Content.{Content, IsLawful}
use Rattle.yp_attempt.specs.ListLaws.{all_before, all_rest}
use Rattle.yp_attempt.specs.Moments.{Moment, MayFollow, AllMayFollow}
use Rattle.yp_attempt.specs.Runs.{Standing, Found, IsFirst, Reaches, opened, advances, settles, first_offer, run_settled, settled, waits}
use Rattle.yp_attempt.specs.Tracks.{Track, Answer, Attempt, attempt}
use Rattle.yp_serial.specs.DueTicks.{HasDueTicks, HaveDueTicks, GivesDueTicks, GiveDueTicks}
use Rattle.yp_serial.specs.Posts.{Queueing}
use Rattle.yp_serial.specs.Serial.{Served, Taking, first_served, all_offered, found_answer, serial_run, served_advanced, served_settled}
use Rattle.yp_serial.specs.Weights.{flag, owed_count, some_count, due_in, weight, weights}
use Rattle.yp_moment.specs.Entries.{moment_of, moments_of}
use Rattle.yp_moment.specs.Windows.{recorded}
use Rattle.yp_promise.specs.Serving.{IsServing, all_numbers, queueing_of, run_entered, run_of, taken_by, taking_of}
use Rattle.yp_promise.proofs.Entering.{MomentsGoOn}

-- ---- how many offers may come

flag_most : (b : Bool) → flag b ≤ 1
flag_most true = omega arith
flag_most false = omega arith

owed_most : (o : Owed) → owed_count o ≤ 7
owed_most o =
    let a : flag o.started ≤ 1 = flag_most o.started in
    let b : flag o.modified ≤ 1 = flag_most o.modified in
    let i : flag o.incomplete ≤ 1 = flag_most o.incomplete in
    let d : flag o.suspended ≤ 1 = flag_most o.suspended in
    let r : flag o.resumed ≤ 1 = flag_most o.resumed in
    let s : flag o.sync ≤ 1 = flag_most o.sync in
    let t : flag o.terminated ≤ 1 = flag_most o.terminated in
    omega (arith, a, b, i, d, r, s, t)

some_most : (o : Option Item) → some_count o ≤ 1
some_most None = omega arith
some_most (Some item) = omega arith

weight_most : (c : Content) (stamp : ℕ) (t : Track) → weight c stamp t ≤ 15
weight_most c stamp t =
    let owed : owed_count t.feed.owed ≤ 7 = owed_most t.feed.owed in
    let due : some_count (due_in c stamp t) ≤ 1 = some_most (due_in c stamp t) in
    by (is_at t.feed.last_full stamp) (owed_count t.feed.owed) (some_count (due_in c stamp t)) owed due
  where
    by : (b : Bool) (owed due : ℕ) → owed ≤ 7 → due ≤ 1 → (if b then 0 else (owed + owed) + due) ≤ 15
    by true owed due few one = omega arith
    by false owed due few one = omega (arith, few, one)

pub weights_most : (c : Content) (stamp : ℕ) (tracks : List Track) → weights c stamp tracks ≤ 15 * length tracks
weights_most c stamp [] = omega arith
weights_most c stamp (t ∷ tracks) =
    let one : weight c stamp t ≤ 15 = weight_most c stamp t in
    let rest : weights c stamp tracks ≤ 15 * length tracks = weights_most c stamp tracks in
    omega (arith, one, rest)

-- ---- an entry more

-- where entries may come after others, so may those before the last, and the last after these
may_before : (past moments : List Moment) (m : Moment) → AllMayFollow past (moments ++ m ∷ []) → AllMayFollow past moments
may_before past [] m may = tt
may_before past (x ∷ moments) m may = (may.0, may_before (past ++ x ∷ []) moments m may.1)

may_last : (past moments : List Moment) (m : Moment) → AllMayFollow past (moments ++ m ∷ []) → MayFollow (past ++ moments) m
may_last past [] m may = subst (λ (ms : List Moment). MayFollow ms m) (sym (append_none past)) may.0
  where
    append_none : (ms : List Moment) → ms ++ [] ≡ ms
    append_none [] = refl
    append_none (x ∷ ms) = λ i. x ∷ append_none ms i
may_last past (x ∷ moments) m may = subst (λ (ms : List Moment). MayFollow ms m) (together past) (may_last (past ++ x ∷ []) moments m may.1)
  where
    together : (ms : List Moment) → (ms ++ x ∷ []) ++ moments ≡ ms ++ x ∷ moments
    together [] = refl
    together (y ∷ ms) = λ i. y ∷ together ms i

-- ---- the laws that are rested on

pub record ServingLaws : Type 0 where
  pub lawful : IsLawful recorded
  pub finds : (c : Content) (stamp : ℕ) (tracks : List Track) (found : Found) → first_offer c stamp tracks ≡ Some found → IsFirst c stamp tracks found
  pub moments : MomentsGoOn
  pub may : (nodes : List SchemaNode) (receivers : List ReceiverInfo) (entries : List Entry) → IsSchema nodes → IsLegal nodes (first_state receivers) entries → AllMayFollow [] (moments_of nodes receivers entries)
  pub due : (nodes : List SchemaNode) (receivers : List ReceiverInfo) (entries : List Entry) → IsSchema nodes → IsLegal nodes (first_state receivers) entries → GiveDueTicks (moments_of nodes receivers entries)
  pub reaches : (c : Content) → IsLawful c → (receivers : List ℕ) (q : Queueing) (takes : Taking) (journal : List Moment) → AllMayFollow [] journal → GiveDueTicks journal
      → Reaches c receivers journal (answers_in (serial_run c receivers q takes journal).run.done) (serial_run c receivers q takes journal).run
  pub idle : (c : Content) → IsLawful c → (receivers : List ℕ) (q : Queueing) (takes : Taking) (journal : List Moment) → GiveDueTicks journal → waits c (serial_run c receivers q takes journal).run ≡ None
  pub goes_on : (c : Content) → IsLawful c → (q : Queueing) (served : Served) (found : Found) → HaveDueTicks served.run.standing.tracks → waits c served.run ≡ Some found → all_offered c q served ≡ all_offered c q (served_settled c q found served)
  pub ends : (c : Content) (q : Queueing) (served : Served) → waits c served.run ≡ None → all_offered c q served ≡ served
  pub fewer : (c : Content) → IsLawful c → (standing : Standing) (found : Found) (answer : Answer) → HasDueTicks found.track.feed.trigger → first_offer c standing.stamp standing.tracks ≡ Some found
      → weights c standing.stamp (settled c standing found answer) < weights c standing.stamp standing.tracks
  pub due_entry : (c : Content) (receivers : List ℕ) (takes : Taking) (m : Moment) (served : Served) → GivesDueTicks m.act → HaveDueTicks served.run.standing.tracks → HaveDueTicks (served_advanced c receivers takes m served).run.standing.tracks
  pub due_offer : (c : Content) (q : Queueing) (served : Served) (found : Found) → HaveDueTicks served.run.standing.tracks → waits c served.run ≡ Some found → HaveDueTicks (served_settled c q found served).run.standing.tracks
  pub due_run : (c : Content) (receivers : List ℕ) (q : Queueing) (takes : Taking) (journal : List Moment) → GiveDueTicks journal → HaveDueTicks (serial_run c receivers q takes journal).run.standing.tracks
  pub more : (nodes : List SchemaNode) (receivers : List ReceiverInfo) (entries : List Entry) (entry : Entry) → run_of nodes receivers (entries ++ entry ∷ []) ≡ all_offered recorded (queueing_of receivers) (run_entered nodes receivers entries entry)

-- ---- a serial run on its way

pub none_serving : (nodes : List SchemaNode) (receivers : List ReceiverInfo) → IsServing nodes receivers [] first_served
none_serving nodes receivers = record { reaches = opened; ticks = tt; ends = refl }

module _ (laws : ServingLaws) (nodes : List SchemaNode) (receivers : List ReceiverInfo) (entries : List Entry) where
  module _ (entry : Entry) (schema : IsSchema nodes) (legal : IsLegal nodes (first_state receivers) (entries ++ entry ∷ [])) where
    abbrev last : Moment
    last = moment_of nodes (state_of nodes (first_state receivers) entries) entry

    abbrev journal : List Moment
    journal = moments_of nodes receivers entries

    all_may : AllMayFollow [] (journal ++ last ∷ [])
    all_may = subst (λ (ms : List Moment). AllMayFollow [] ms) (laws.moments nodes receivers entries entry) (laws.may nodes receivers (entries ++ entry ∷ []) schema legal)

    all_due : GiveDueTicks (journal ++ last ∷ [])
    all_due = subst (λ (ms : List Moment). GiveDueTicks ms) (laws.moments nodes receivers entries entry) (laws.due nodes receivers (entries ++ entry ∷ []) schema legal)

    before_due : GiveDueTicks journal
    before_due = all_before (λ m. GivesDueTicks m.act) journal (last ∷ []) all_due

    last_due : GivesDueTicks last.act
    last_due = (all_rest (λ m. GivesDueTicks m.act) journal (last ∷ []) all_due).0

    -- so it is where an entry was taken
    pub entered_serving : IsServing nodes receivers (entries ++ entry ∷ []) (run_entered nodes receivers entries entry)
    entered_serving = record {
      reaches = subst (λ (ms : List Moment). Reaches recorded (all_numbers receivers) ms (answers_in (run_of nodes receivers entries).run.done) (run_entered nodes receivers entries entry).run) (sym (laws.moments nodes receivers entries entry))
          (advances journal (answers_in (run_of nodes receivers entries).run.done) (run_of nodes receivers entries).run last
          (laws.reaches recorded laws.lawful (all_numbers receivers) (queueing_of receivers) (taking_of entries) journal (may_before [] journal last all_may) before_due)
          (may_last [] journal last all_may)
          (laws.idle recorded laws.lawful (all_numbers receivers) (queueing_of receivers) (taking_of entries) journal before_due));
      ticks = laws.due_entry recorded (all_numbers receivers) (λ n number. taken_by entry.command number) last (run_of nodes receivers entries) last_due
          (laws.due_run recorded (all_numbers receivers) (queueing_of receivers) (taking_of entries) journal before_due);
      ends = sym (laws.more nodes receivers entries entry);
    }

  module _ (served : Served) (serving : IsServing nodes receivers entries served) where
    module _ (found : Found) (there : waits recorded served.run ≡ Some found) where
      abbrev answer : Answer
      answer = found_answer (queueing_of receivers) found served

      abbrev made : Attempt
      made = attempt recorded served.run.standing.position served.run.standing.stamp found.track found.item answer

      -- and after each answer
      pub settled_serving : IsServing nodes receivers entries (served_settled recorded (queueing_of receivers) found served)
      settled_serving = record {
        reaches = subst (λ (answers : List Answer). Reaches recorded (all_numbers receivers) (moments_of nodes receivers entries) answers (run_settled recorded served.run found answer)) (sym (map-append (λ (a : Attempt). a.answer) served.run.done (made ∷ [])))
            (settles (moments_of nodes receivers entries) (answers_in served.run.done) served.run found answer serving.reaches there);
        ticks = laws.due_offer recorded (queueing_of receivers) served found serving.ticks there;
        ends = sym (laws.goes_on recorded laws.lawful (queueing_of receivers) served found serving.ticks there) ∙ serving.ends;
      }

      -- which leaves fewer offers that may come
      pub settled_fewer : weights recorded served.run.standing.stamp (served_settled recorded (queueing_of receivers) found served).run.standing.tracks < weights recorded served.run.standing.stamp served.run.standing.tracks
      settled_fewer =
          let first : IsFirst recorded served.run.standing.stamp served.run.standing.tracks found = laws.finds recorded served.run.standing.stamp served.run.standing.tracks found there in
          let all : HaveDueTicks (found.before ++ found.track ∷ found.after) = subst HaveDueTicks first.parts serving.ticks in
          laws.fewer recorded laws.lawful served.run.standing found answer (all_rest (λ t. HasDueTicks t.feed.trigger) found.before (found.track ∷ found.after) all).0 there

    -- where nothing is offered any more it is the run of the journal
    pub serving_ends : waits recorded served.run ≡ None → served ≡ run_of nodes receivers entries
    serving_ends none = sym (laws.ends recorded (queueing_of receivers) served none) ∙ serving.ends
