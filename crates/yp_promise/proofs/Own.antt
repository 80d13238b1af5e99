-- A run of a receiver over a legal journal is one of the journal's story, and its attempts tell of rows of the schema. So is the receiver's part of the serial run.
use Rattle.std.proofs.Common.{◌≡◌, ℕ, ◌<◌, refl, ap, subst, ◌∙◌, List, [], ◌∷◌, ◌++◌, length, arith}
use Rattle.std.specs.Prelude.{true, ◌==◌, ◌%◌}
use Rattle.std.specs.List.{AllByRecursion}
use Rattle.yp_schema.specs.declared.schema.SchemaNode.{SchemaNode}
use Rattle.yp_schema.specs.WellFormed.{IsSchema}
use Rattle.yp_journal.specs.declared.entry.Entry.{Entry}
use Rattle.yp_journal.specs.declared.receiver.ReceiverInfo.{ReceiverInfo}
use Rattle.yp_journal.specs.History.{first_state, IsLegal}
use Rattle.yp_attempt.specs.Attempts.{IsOneOf, answers_in, of_receiver, own_run, replay}
use Rattle.yp_attempt.specs.Content.{Content}
use Rattle.yp_attempt.specs.Moments.{Moment}
use Rattle.yp_attempt.specs.Runs.{Reaches, Run, first_run}
use Rattle.yp_attempt.specs.Tracks.{Answer, Attempt}
use Rattle.yp_attempt.specs.Workers.{numbers_of}
use Rattle.yp_mirror.specs.Following.{IsMadeOf}
use Rattle.yp_mirror.specs.Heard.{of_sub}
use Rattle.yp_mirror.specs.Links.{IsAttemptOf, IsRunOf}
use Rattle.yp_mirror.specs.Stories.{Story, story_of}
use Rattle.yp_moment.specs.Entries.{moments_of}
use Rattle.yp_moment.specs.Windows.{recorded}
use Rattle.yp_world.specs.TakenLaws.{all_there, number_is, sub_parts}
use Rattle.yp_promise.specs.Serving.{all_numbers, run_of}
use Rattle.yp_promise.proofs.Bodies.{EntriesKeepDatastores, SaysRows, body_rows}

-- ---- the laws that are rested on

pub record RunLaws : Type 0 where
  pub replays : (c : Content) (receivers : List ℕ) (past : List Moment) (answers : List Answer) (run : Run) → Reaches c receivers past answers run
      → replay c receivers first_run past answers ≡ record { run = run; rest = []; left = [] }
  pub runs : (nodes : List SchemaNode) (receivers : List ReceiverInfo) (entries : List Entry) (receiver : ℕ) (answers : List Answer) → IsSchema nodes → IsLegal nodes (first_state receivers) entries
      → IsRunOf recorded (story_of (moments_of nodes receivers entries) receiver) receiver (replay recorded (receiver ∷ []) first_run (moments_of nodes receivers entries) answers).run

pub record PartLaws : Type 0 where
  pub reaches : (nodes : List SchemaNode) (receivers : List ReceiverInfo) (entries : List Entry) → IsSchema nodes → IsLegal nodes (first_state receivers) entries
      → Reaches recorded (all_numbers receivers) (moments_of nodes receivers entries) (answers_in (run_of nodes receivers entries).run.done) (run_of nodes receivers entries).run
  pub parts : (c : Content) (receiver : ℕ) (receivers : List ℕ) → IsOneOf receiver receivers → (past : List Moment) (answers : List Answer) (run : Run) → Reaches c receivers past answers run
      → Reaches c (receiver ∷ []) past (answers_in (of_receiver receiver run.done)) (own_run receiver run)
  pub one_of : (workers receiver count : ℕ) → receiver < count → IsOneOf receiver (numbers_of (receiver % workers) workers count)

-- what each attempt of a run tells of
abbrev pub AttemptsTell : Type 0
AttemptsTell = (c : Content) (story : Story) (receiver : ℕ) (run : Run) → IsRunOf c story receiver run → (sub : ℕ) (before : List Attempt) (a : Attempt) → IsAttemptOf run sub before a → IsMadeOf c story sub a.made

module _ (nodes : List SchemaNode) (receivers : List ReceiverInfo) (entries : List Entry) (receiver : ℕ) where
  -- ---- a run of the receiver

  module _ (run : Run) where
    module _ (laws : RunLaws) (reaches : Reaches recorded (receiver ∷ []) (moments_of nodes receivers entries) (answers_in run.done) run) where
      -- it is what its answers lead to
      pub own_replay : (replay recorded (receiver ∷ []) first_run (moments_of nodes receivers entries) (answers_in run.done)).run ≡ run
      own_replay = ap (λ r. r.run) (laws.replays recorded (receiver ∷ []) (moments_of nodes receivers entries) (answers_in run.done) run reaches)

      -- and so a run of the journal's story
      pub own_is : IsSchema nodes → IsLegal nodes (first_state receivers) entries → IsRunOf recorded (story_of (moments_of nodes receivers entries) receiver) receiver run
      own_is schema legal = subst (λ (it : Run). IsRunOf recorded (story_of (moments_of nodes receivers entries) receiver) receiver it) own_replay (laws.runs nodes receivers entries receiver (answers_in run.done) schema legal)

    -- an attempt is one of its subscription
    pub own_attempt : (front : List Attempt) (a : Attempt) (back : List Attempt) → run.done ≡ front ++ a ∷ back → (id : ℕ) → (a.sub == id) ≡ true → IsAttemptOf run id (of_sub id front) a
    own_attempt front a back is id mine = record { later = of_sub id back; parts = ap (λ (xs : List Attempt). of_sub id xs) is ∙ sub_parts id front a back mine }

    -- each tells of rows of the schema
    pub own_rows : AttemptsTell → EntriesKeepDatastores → IsRunOf recorded (story_of (moments_of nodes receivers entries) receiver) receiver run → AllByRecursion (λ a. SaysRows nodes a.made.body) run.done
    own_rows tell keeps of =
        all_there (λ (a : Attempt). SaysRows nodes a.made.body) run.done [] run.done refl
        (λ front a back is.
        body_rows keeps nodes receivers entries receiver a.sub a.made.from a.made.position a.made.body
        (tell recorded (story_of (moments_of nodes receivers entries) receiver) receiver run of a.sub (of_sub a.sub front) a (own_attempt front a back is a.sub (number_is a.sub))))

  -- ---- its part of the serial run

  abbrev pub own_part : Run
  own_part = own_run receiver (run_of nodes receivers entries).run

  none_left : receiver % 1 ≡ 0
  none_left = grind arith

  -- is a run of the receiver
  pub part_reaches : PartLaws → IsSchema nodes → IsLegal nodes (first_state receivers) entries → receiver < length receivers
      → Reaches recorded (receiver ∷ []) (moments_of nodes receivers entries) (answers_in own_part.done) own_part
  part_reaches laws schema legal there =
      laws.parts recorded receiver (all_numbers receivers) (subst (λ (worker : ℕ). IsOneOf receiver (numbers_of worker 1 (length receivers))) none_left (laws.one_of 1 receiver (length receivers) there)) (moments_of nodes receivers entries)
      (answers_in (run_of nodes receivers entries).run.done) (run_of nodes receivers entries).run (laws.reaches nodes receivers entries schema legal)
