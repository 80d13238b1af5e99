-- However writers, workers and receivers interleave over a legal journal, each receiver is served.
use Rattle.std.proofs.Common.{◌≡◌, ℕ, zero, suc, ◌<◌, ◌≤◌, refl, sym, ap, subst, ◌∙◌, List, [], ◌∷◌, ◌++◌, map, length, take, arith}
use Rattle.std.proofs.lemmas.List.{length-map}
use Rattle.std.proofs.lemmas.Option.{none-some, same_Some}
use Rattle.yp_schema.specs.declared.schema.SchemaNode.{SchemaNode}
use Rattle.yp_schema.specs.WellFormed.{IsSchema}
use Rattle.yp_journal.specs.declared.entry.Entry.{Entry}
use Rattle.yp_journal.specs.declared.receiver.ReceiverInfo.{ReceiverInfo}
use Rattle.yp_journal.specs.History.{JournalState, first_state, next_state, IsLegal}
use Rattle.yp_attempt.specs.Attempts.{Notification, answers_in, replay, taken_of}
use Rattle.yp_attempt.specs.Content.{IsLawful}
use Rattle.yp_attempt.specs.Moments.{Moment}
use Rattle.yp_attempt.specs.Runs.{Reaches, Run, Standing, first_run}
use Rattle.yp_attempt.specs.Tracks.{Answer}
use Rattle.yp_mirror.specs.Stories.{Leads, story_of}
use Rattle.yp_moment.specs.Entries.{moment_of, moments_from, moments_of}
use Rattle.yp_moment.specs.Windows.{recorded}
use Rattle.yp_world.specs.Headline.{IsServed}
use Rattle.yp_world.specs.Holding.{AreOf, Holds, IsOwnRunOf, absorbed_by}
use Rattle.yp_world.specs.Serially.{HavePlaces}
use Rattle.yp_world.specs.World.{Delivery, Event, Setup, World}
use Rattle.yp_promise.specs.Interleaving.{AppendAll, IsServedAfter, setup_of, world_after}
use Rattle.yp_promise.specs.Promise.{Serves}
use Rattle.yp_promise.specs.Serving.{queueing_of}
use Rattle.yp_promise.proofs.Entering.{count_moments}

-- ---- the first entries of a journal

first_moments : (nodes : List SchemaNode) (state : JournalState) (entries : List Entry) (n : ℕ) → take n (moments_from nodes state entries) ≡ moments_from nodes state (take n entries)
first_moments nodes state entries zero = refl
first_moments nodes state [] (suc n) = refl
first_moments nodes state (entry ∷ entries) (suc n) = ap (λ (moments : List Moment). moment_of nodes state entry ∷ moments) (first_moments nodes (next_state nodes state entry.command) entries n)

pub first_legal : (nodes : List SchemaNode) (state : JournalState) (entries : List Entry) (n : ℕ) → IsLegal nodes state entries → IsLegal nodes state (take n entries)
first_legal nodes state entries zero legal = tt
first_legal nodes state [] (suc n) legal = tt
first_legal nodes state (entry ∷ entries) (suc n) legal = (legal.0, first_legal nodes (next_state nodes state entry.command) entries n legal.1)

pub many_places : (receivers : List ReceiverInfo) → length (map (λ receiver. receiver.places) receivers) ≡ length receivers
many_places receivers = length-map receivers (λ receiver. receiver.places)

-- each queue has its receiver's places
pub have_places : (receivers : List ReceiverInfo) → HavePlaces (map (λ receiver. receiver.places) receivers) (queueing_of receivers)
have_places [] number count at = absurd (none-some count at)
have_places (receiver ∷ receivers) zero count at = same_Some receiver.places count at
have_places (receiver ∷ receivers) (suc number) count at = have_places receivers number count at

-- ---- the laws that are rested on

pub record InterleavingLaws : Type 0 where
  pub lawful : IsLawful recorded
  pub leads : (nodes : List SchemaNode) (receivers : List ReceiverInfo) (entries : List Entry) (receiver : ℕ) → IsSchema nodes → IsLegal nodes (first_state receivers) entries → Leads recorded (story_of (moments_of nodes receivers entries) receiver)
  pub holds : (receivers : List ReceiverInfo) (workers : ℕ) (events : List Event) → Holds (setup_of receivers workers) (world_after receivers workers events)
  pub served : (setup : Setup) → IsLawful setup.content → 0 < setup.workers → (world : World) → Holds setup world → (receiver : ℕ) → receiver < length setup.places → Leads setup.content (story_of world.journal receiver) → IsServed setup world receiver
  pub part : (setup : Setup) (world : World) → Holds setup world → (receiver : ℕ) → receiver < length setup.places → (delivery : Delivery) (standing : Standing) → AreOf setup world receiver delivery standing
      → IsOwnRunOf setup world receiver delivery standing (replay setup.content (receiver ∷ []) first_run (absorbed_by world standing) delivery.answers).run
  pub serves : (nodes : List SchemaNode) (receivers : List ReceiverInfo) (entries : List Entry) (receiver : ℕ) (run : Run) → IsSchema nodes → IsLegal nodes (first_state receivers) entries
      → Reaches recorded (receiver ∷ []) (moments_of nodes receivers entries) (answers_in run.done) run → (got waiting : List Notification) → taken_of run.done ≡ got ++ waiting → Serves nodes receivers entries receiver run.done got

module _ (laws : InterleavingLaws) (nodes : List SchemaNode) (receivers : List ReceiverInfo) (workers : ℕ) (entries : List Entry) (events : List Event) (schema : IsSchema nodes) (legal : IsLegal nodes (first_state receivers) entries) (some : 0 < workers)
    (appended : AppendAll nodes receivers workers entries events) (receiver : ℕ) (there : receiver < length receivers) where
  abbrev setup : Setup
  setup = setup_of receivers workers

  abbrev world : World
  world = world_after receivers workers events

  below : receiver < length setup.places
  below = let many : length setup.places ≡ length receivers = many_places receivers in omega (arith, many, there)

  is : IsServed setup world receiver
  is = laws.served setup laws.lawful some world (laws.holds receivers workers events) receiver below
      (subst (λ (journal : List Moment). Leads recorded (story_of journal receiver)) (sym appended) (laws.leads nodes receivers entries receiver schema legal))

  -- what its worker absorbed are the first entries
  absorbed : absorbed_by world is.standing ≡ moments_of nodes receivers (take is.standing.position entries)
  absorbed = ap (λ (journal : List Moment). take is.standing.position journal) appended ∙ first_moments nodes (first_state receivers) entries is.standing.position

  abbrev Own : List Moment → Run
  Own past = (replay recorded (receiver ∷ []) first_run past is.delivery.answers).run

  part : IsOwnRunOf setup world receiver is.delivery is.standing (Own (absorbed_by world is.standing))
  part = laws.part setup world (laws.holds receivers workers events) receiver below is.delivery is.standing is.are

  pub served_after : IsServedAfter nodes receivers workers entries events receiver
  served_after =
      let past : List Moment = moments_of nodes receivers (take is.standing.position entries) in
      let position : is.standing.position ≤ length entries =
      subst (λ (n : ℕ). is.standing.position ≤ n) (ap (λ (journal : List Moment). length journal) appended ∙ count_moments nodes receivers entries) is.within in
      let reaches : Reaches recorded (receiver ∷ []) past (answers_in (Own past).done) (Own past) =
      subst (λ (xs : List Moment). Reaches recorded (receiver ∷ []) xs (answers_in (Own xs).done) (Own xs)) absorbed part.reaches in
      let accepted : taken_of (Own past).done ≡ is.delivery.taken ++ is.delivery.queue = subst (λ (xs : List Moment). taken_of (Own xs).done ≡ is.delivery.taken ++ is.delivery.queue) absorbed is.accepted in
      record {
        delivery = is.delivery;
        standing = is.standing;
        are = is.are;
        within = position;
        reaches =
            subst (λ (xs : List Moment). Reaches recorded (receiver ∷ []) xs is.delivery.answers (Own xs)) absorbed
            (subst (λ (answers : List Answer). Reaches recorded (receiver ∷ []) (absorbed_by world is.standing) answers (Own (absorbed_by world is.standing))) part.delivers.answers part.reaches);
        accepted = accepted;
        places = is.places;
        fits = is.fits;
        serves = laws.serves nodes receivers (take is.standing.position entries) receiver (Own past) schema (first_legal nodes (first_state receivers) entries is.standing.position legal) reaches is.delivery.taken is.delivery.queue accepted;
      }
