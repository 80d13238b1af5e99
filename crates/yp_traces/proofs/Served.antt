-- Workers that followed a legal journal beside each other have served each receiver: by the events of their trace.
use Rattle.std.proofs.Common.{◌≡◌, ℕ, suc, ◌+◌, ◌<◌, ◌≤◌, refl, sym, ap, subst, ◌∙◌, List, [], ◌∷◌, map, length, take, Option, Some, arith}
use Rattle.std.specs.Prelude.{◌%◌, option_map}
use Rattle.std.specs.List.{AllByRecursion, slice_get}
use Rattle.std.proofs.lemmas.List.{take_all}
use Rattle.std.proofs.lemmas.Option.{same_Some, slice_get-map}
use Rattle.yp_schema.specs.declared.schema.SchemaNode.{SchemaNode}
use Rattle.yp_schema.specs.WellFormed.{IsSchema}
use Rattle.yp_journal.specs.declared.entry.Entry.{Entry}
use Rattle.yp_journal.specs.declared.receiver.ReceiverInfo.{ReceiverInfo}
use Rattle.yp_journal.specs.History.{first_state, IsLegal}
use Rattle.yp_attempt.specs.Attempts.{Replayed, IsOneOf, answers_in, attempts, of_receiver, own_run, replay, taken_of}
use Rattle.yp_attempt.specs.Content.{Content}
use Rattle.yp_attempt.specs.ListLaws.{all_map}
use Rattle.yp_attempt.specs.Moments.{AllMayFollow, Moment}
use Rattle.yp_attempt.specs.RunLaws.{position_is}
use Rattle.yp_attempt.specs.Runs.{Reaches, Run, Standing, first_run}
use Rattle.yp_attempt.specs.Tracks.{Answer, Attempt}
use Rattle.yp_attempt.specs.Workers.{numbers_of}
use Rattle.yp_moment.specs.Entries.{moments_of}
use Rattle.yp_moment.specs.MomentLaws.{moments_count}
use Rattle.yp_moment.specs.Windows.{recorded}
use Rattle.yp_world.specs.World.{Event, Setup, World, worker_of}
use Rattle.yp_promise.specs.Interleaving.{EachInterleavingServes, IsServedAfter, setup_of, world_after}
use Rattle.yp_promise.specs.Promise.{Serves}
use Rattle.yp_traces.specs.Traces.{AreServedBeside, HasTakenAll, HasTrace, IsWorkOf}

-- the laws that are rested on
pub record ServedLaws : Type 0 where
  pub traces : (setup : Setup) → AllByRecursion (λ places. 1 ≤ places) setup.places → (journal : List Moment) → AllMayFollow [] journal → (runs : List Run) → length runs ≡ setup.workers
      → ((worker : ℕ) (run : Run) → slice_get runs worker ≡ Some run → IsWorkOf setup journal worker run) → HasTrace setup journal runs
  pub serves : (nodes : List SchemaNode) (receivers : List ReceiverInfo) (entries : List Entry) → IsSchema nodes → IsLegal nodes (first_state receivers) entries → EachInterleavingServes nodes receivers entries
  pub one : (workers receiver count : ℕ) → receiver < count → IsOneOf receiver (numbers_of (receiver % workers) workers count)
  pub part : (c : Content) (receiver : ℕ) (receivers : List ℕ) → IsOneOf receiver receivers → (past : List Moment) (answers : List Answer) (run : Run) → Reaches c receivers past answers run
      → Reaches c (receiver ∷ []) past (answers_in (of_receiver receiver run.done)) (own_run receiver run)
  pub replays : (c : Content) (receivers : List ℕ) (past : List Moment) (answers : List Answer) (run : Run) → Reaches c receivers past answers run → replay c receivers first_run past answers ≡ record { run = run; rest = []; left = [] }

module _ (laws : ServedLaws) (nodes : List SchemaNode) (receivers : List ReceiverInfo) (entries : List Entry) (schema : IsSchema nodes) (legal : IsLegal nodes (first_state receivers) entries)
    (places : AllByRecursion (λ receiver. 1 ≤ receiver.places) receivers) (runs : List Run) (some : 0 < length runs) (follow : AllMayFollow [] (moments_of nodes receivers entries))
    (work : (worker : ℕ) (run : Run) → slice_get runs worker ≡ Some run → IsWorkOf (setup_of receivers (length runs)) (moments_of nodes receivers entries) worker run) where
  abbrev setup : Setup
  setup = setup_of receivers (length runs)

  abbrev journal : List Moment
  journal = moments_of nodes receivers entries

  trace : HasTrace setup journal runs
  trace = laws.traces setup (all_map (λ (r : ReceiverInfo). 1 ≤ r.places) (λ n. 1 ≤ n) (λ r. r.places) receivers (λ r is. is) places) journal follow runs refl work

  -- of one receiver, by the run of its worker
  module _ (receiver : ℕ) (run : Run) (small : receiver < length receivers) (its : slice_get runs (receiver % length runs) ≡ Some run) where
    is_work : IsWorkOf setup journal (receiver % length runs) run
    is_work = work (receiver % length runs) run its

    abbrev offered : List Attempt
    offered = of_receiver receiver run.done

    served : IsServedAfter nodes receivers (length runs) entries trace.events receiver
    served = laws.serves nodes receivers entries schema legal (length runs) trace.events some trace.leads.appended receiver small

    taken : HasTakenAll offered served.delivery
    taken = trace.leads.delivers receiver served.delivery run served.are.delivers its

    -- the worker took all entries
    stands : served.standing ≡ run.standing
    stands =
        let there : slice_get (map (λ (r : Run). r.standing) runs) (receiver % length runs) ≡ Some served.standing = ap (λ (xs : List Standing). slice_get xs (receiver % length runs)) (sym trace.leads.standings) ∙ served.are.stands in
        same_Some served.standing run.standing (sym there ∙ (slice_get-map (λ (r : Run). r.standing) runs (receiver % length runs) ∙ ap (λ (o : Option Run). option_map (λ r. r.standing) o) its))

    all_entries : take served.standing.position entries ≡ entries
    all_entries =
        let last : run.standing.position ≡ length journal = position_is recorded _ journal (answers_in run.done) run is_work.reaches in
        let count : length journal ≡ length entries = moments_count nodes (first_state receivers) entries in
        let position : served.standing.position ≡ length entries = ap (λ (s : Standing). s.position) stands ∙ (last ∙ count) in
        ap (λ (n : ℕ). take n entries) position ∙ take_all _ entries (omega arith)

    -- what was offered to the receiver is its own run
    own : attempts recorded (receiver ∷ []) journal (answers_in offered) ≡ offered
    own =
        let reaches = laws.part recorded receiver _ (laws.one (length runs) receiver (length (setup.places)) (subst (λ (n : ℕ). receiver < n) (sym (count_places receivers)) small)) journal (answers_in run.done) run is_work.reaches in
        ap (λ (end : Replayed). end.run.done) (laws.replays recorded (receiver ∷ []) journal (answers_in offered) (own_run receiver run) reaches)
      where
        count_places : (rs : List ReceiverInfo) → length (map (λ (r : ReceiverInfo). r.places) rs) ≡ length rs
        count_places [] = refl
        count_places (r ∷ rs) = ap suc (count_places rs)

    serves : Serves nodes receivers entries receiver offered (taken_of offered)
    serves =
        let made : attempts recorded (receiver ∷ []) (moments_of nodes receivers (take served.standing.position entries)) served.delivery.answers ≡ offered =
        (λ i. attempts recorded (receiver ∷ []) (moments_of nodes receivers (all_entries i)) (taken.answers i)) ∙ own in
        let first : Serves nodes receivers entries receiver (attempts recorded (receiver ∷ []) (moments_of nodes receivers (take served.standing.position entries)) served.delivery.answers) served.delivery.taken =
        subst (λ (es : List Entry). Serves nodes receivers es receiver (attempts recorded (receiver ∷ []) (moments_of nodes receivers (take served.standing.position entries)) served.delivery.answers) served.delivery.taken) all_entries served.serves in
        let then : Serves nodes receivers entries receiver offered served.delivery.taken = subst (λ (xs : List Attempt). Serves nodes receivers entries receiver xs served.delivery.taken) made first in
        subst (λ ns. Serves nodes receivers entries receiver offered ns) taken.taken then

  pub served_beside : AreServedBeside nodes receivers entries runs
  served_beside = record { events = trace.events; append = trace.leads.appended; serves = serves }
