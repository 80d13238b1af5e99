-- What was offered to a receiver: nothing that its user may not read, suspensions and incomplete updates only after full queues, and the next resynchronisation carries its own position's selection.
use Rattle.std.proofs.Common.{◌≡◌, ℕ, refl, sym, ap, subst, ◌∙◌, true, false, true≢false, Option, Some, None, List, [], ◌∷◌, ◌++◌}
use Rattle.std.specs.Prelude.{◌==◌}
use Rattle.std.specs.List.{AllByRecursion}
use Rattle.yp_base.specs.declared.row.Row.{Row}
use Rattle.yp_feed.specs.declared.item.Item.{Item}
use Rattle.yp_feed.specs.declared.item.Item.TheVariants.{Started, Modified, Incomplete, Suspended, Resumed, Sync, Terminated, Changes, Periodic}
use Rattle.yp_schema.specs.declared.schema.SchemaNode.{SchemaNode}
use Rattle.yp_schema.specs.WellFormed.{IsSchema}
use Rattle.yp_journal.specs.declared.entry.Entry.{Entry}
use Rattle.yp_journal.specs.declared.receiver.ReceiverInfo.{ReceiverInfo}
use Rattle.yp_journal.specs.History.{first_state, may_read, state_at, IsLegal}
use Rattle.yp_attempt.specs.Attempts.{answers_in, replay}
use Rattle.yp_attempt.specs.Content.{Content}
use Rattle.yp_attempt.specs.Moments.{Moment}
use Rattle.yp_attempt.specs.Runs.{Reaches, Run, advances, first_run, opened, settles}
use Rattle.yp_attempt.specs.Tracks.{Answer, Attempt, All, Frozen, Notice, Track, attempt, is_taken, made_frozen}
use Rattle.yp_mirror.specs.Following.{IsLessThan}
use Rattle.yp_mirror.specs.FullQueues.{FreezesAfterFull, HasEightFull, HasFull, SuspendsAtEighth}
use Rattle.yp_mirror.specs.Heard.{IsTakenUpdate, is_incomplete_update, of_sub, told_by}
use Rattle.yp_mirror.specs.Links.{IsAttemptOf, IsRunOf}
use Rattle.yp_mirror.specs.Stories.{Story, story_of}
use Rattle.yp_moment.specs.Concealed.{NamesReadable}
use Rattle.yp_moment.specs.Entries.{moments_of}
use Rattle.yp_moment.specs.Windows.{recorded}
use Rattle.yp_moment.specs.MomentLaws.{wanted}
use Rattle.yp_world.specs.Headline.{LeavesOutAfterFull, SuspendsAfterEight}
use Rattle.yp_world.specs.TakenLaws.{all_there, number_is}
use Rattle.yp_promise.specs.Promise.{FreezeOnlyAfterFull, IsConcealed, IsFullAtRisingStamps, IsMadeWhereOffered, Resynchronises, SuspendOnlyAtEighth, run_by}
use Rattle.yp_promise.proofs.Copies.{GoesByAsk}
use Rattle.yp_promise.proofs.Own.{own_attempt}

-- ---- where attempts are made

frozen_here : (f : Option Frozen) (n stamp : ℕ) → is_incomplete_update (made_frozen f n stamp).body ≡ false → ((made_frozen f n stamp).position ≡ n) × ((made_frozen f n stamp).tick ≡ stamp)
frozen_here None n stamp e = (refl, refl)
frozen_here (Some frozen) n stamp e = absurd (true≢false e)

attempt_here : (n stamp : ℕ) (track : Track) (item : Item) (answer : Answer) → IsMadeWhereOffered (attempt recorded n stamp track item answer)
attempt_here n stamp track Started answer e = (refl, refl)
attempt_here n stamp track Modified answer e = (refl, refl)
attempt_here n stamp track Incomplete answer e = frozen_here track.frozen n stamp e
attempt_here n stamp track Suspended answer e = (refl, refl)
attempt_here n stamp track Resumed answer e = (refl, refl)
attempt_here n stamp track Sync answer e = (refl, refl)
attempt_here n stamp track Terminated answer e = (refl, refl)
attempt_here n stamp track Changes answer e = (refl, refl)
attempt_here n stamp track Periodic answer e = (refl, refl)

one_more_here : (attempts : List Attempt) (a : Attempt) → AllByRecursion IsMadeWhereOffered attempts → IsMadeWhereOffered a → AllByRecursion IsMadeWhereOffered (attempts ++ a ∷ [])
one_more_here [] a all here = (here, tt)
one_more_here (x ∷ attempts) a all here = (all.0, one_more_here attempts a all.1 here)

pub all_here : (receivers : List ℕ) (past : List Moment) (answers : List Answer) (run : Run) → Reaches recorded receivers past answers run → AllByRecursion IsMadeWhereOffered run.done
all_here receivers _ _ _ opened = tt
all_here receivers _ _ _ (advances past answers run m reaches may idle) = all_here receivers past answers run reaches
all_here receivers _ _ _ (settles past answers run found answer reaches offers) =
    one_more_here run.done (attempt recorded run.standing.position run.standing.stamp found.track found.item answer) (all_here receivers past answers run reaches)
    (attempt_here run.standing.position run.standing.stamp found.track found.item answer)

-- ---- the laws that are rested on

pub record OfferLaws : Type 0 where
  pub suspends : (c : Content) (story : Story) (receiver : ℕ) (run : Run) → IsRunOf c story receiver run → (sub : ℕ) (before : List Attempt) (a : Attempt) → IsAttemptOf run sub before a → a.made.body ≡ Notice Suspended → HasEightFull before
  pub leaves_out : (c : Content) (story : Story) (receiver : ℕ) (run : Run) → IsRunOf c story receiver run → (sub : ℕ) (before : List Attempt) (a : Attempt) → IsAttemptOf run sub before a → is_incomplete_update a.made.body ≡ true → HasFull before
  pub stamps : (c : Content) (story : Story) (receiver : ℕ) (run : Run) → IsRunOf c story receiver run → (sub : ℕ) (before : List Attempt) (a : Attempt) → IsAttemptOf run sub before a → is_taken a.answer ≡ false → IsLessThan (told_by c before).last_full a.stamp
  pub eighth : (c : Content) (story : Story) (receiver : ℕ) (run : Run) → IsRunOf c story receiver run
      → AllByRecursion (λ track. SuspendsAtEighth c run.standing.position run.standing.stamp track (told_by c (of_sub track.feed.sub run.done))) run.standing.tracks
  pub freezes : (c : Content) (story : Story) (receiver : ℕ) (run : Run) → IsRunOf c story receiver run
      → AllByRecursion (λ track. FreezesAfterFull c run.standing.position run.standing.stamp track (told_by c (of_sub track.feed.sub run.done))) run.standing.tracks
  pub carries : (c : Content) (story : Story) (receiver : ℕ) (run : Run) → IsRunOf c story receiver run → (sub : ℕ) (before : List Attempt) (a : Attempt) → IsAttemptOf run sub before a → IsTakenUpdate a
      → story.resyncing sub ≡ true → (told_by c before).awaits ≡ true → a.made.body ≡ All (story.want sub a.at)
  pub here : (c : Content) (story : Story) (receiver : ℕ) (run : Run) → IsRunOf c story receiver run → (sub : ℕ) (before : List Attempt) (a : Attempt) → IsAttemptOf run sub before a → IsTakenUpdate a
      → story.resyncing sub ≡ true → (told_by c before).awaits ≡ true → a.made.position ≡ a.at

-- the laws of what is concealed
pub record ConcealLaws : Type 0 where
  pub made : (nodes : List SchemaNode) (receivers : List ReceiverInfo) (entries : List Entry) (receiver : ℕ) (answers : List Answer) → IsSchema nodes → IsLegal nodes (first_state receivers) entries
      → (id : ℕ) (before : List Attempt) (a : Attempt) → IsAttemptOf (replay recorded (receiver ∷ []) first_run (moments_of nodes receivers entries) answers).run id before a
      → NamesReadable (may_read nodes (state_at nodes receivers entries a.made.position) receiver) a.made.body
  pub offered : (nodes : List SchemaNode) (receivers : List ReceiverInfo) (entries : List Entry) (receiver : ℕ) (answers : List Answer) → IsSchema nodes → IsLegal nodes (first_state receivers) entries
      → (id : ℕ) (before : List Attempt) (a : Attempt) → IsAttemptOf (replay recorded (receiver ∷ []) first_run (moments_of nodes receivers entries) answers).run id before a
      → NamesReadable (may_read nodes (state_at nodes receivers entries a.at) receiver) a.made.body

module _ (nodes : List SchemaNode) (receivers : List ReceiverInfo) (entries : List Entry) (receiver : ℕ) (run : Run) where
  abbrev story : Story
  story = story_of (moments_of nodes receivers entries) receiver

  -- an attempt that was offered is one of its own subscription
  its_own : (before : List Attempt) (a : Attempt) (after : List Attempt) → run.done ≡ before ++ a ∷ after → IsAttemptOf run a.sub (of_sub a.sub before) a
  its_own before a after is = own_attempt nodes receivers entries receiver run before a after is a.sub (number_is a.sub)

  pub all_concealed : ConcealLaws → IsSchema nodes → IsLegal nodes (first_state receivers) entries → (replay recorded (receiver ∷ []) first_run (moments_of nodes receivers entries) (answers_in run.done)).run ≡ run
      → AllByRecursion (IsConcealed nodes receivers entries receiver) run.done
  all_concealed laws schema legal same =
      all_there (IsConcealed nodes receivers entries receiver) run.done [] run.done refl
      (λ before a after is.
      let it : IsAttemptOf (replay recorded (receiver ∷ []) first_run (moments_of nodes receivers entries) (answers_in run.done)).run a.sub (of_sub a.sub before) a =
      subst (λ (it : Run). IsAttemptOf it a.sub (of_sub a.sub before) a) (sym same) (its_own before a after is) in
      record {
        made = laws.made nodes receivers entries receiver (answers_in run.done) schema legal a.sub (of_sub a.sub before) a it;
        offered = laws.offered nodes receivers entries receiver (answers_in run.done) schema legal a.sub (of_sub a.sub before) a it;
      })

  module _ (laws : OfferLaws) (of : IsRunOf recorded story receiver run) where
    pub suspends_after_eight : SuspendsAfterEight run.done
    suspends_after_eight before a after is says = laws.suspends recorded story receiver run of a.sub (of_sub a.sub before) a (its_own before a after is) says

    pub leaves_out_after_full : LeavesOutAfterFull run.done
    leaves_out_after_full before a after is says = laws.leaves_out recorded story receiver run of a.sub (of_sub a.sub before) a (its_own before a after is) says

    pub full_at_rising_stamps : IsFullAtRisingStamps run.done
    full_at_rising_stamps before a after is full = laws.stamps recorded story receiver run of a.sub (of_sub a.sub before) a (its_own before a after is) full

    module _ (same : (replay recorded (receiver ∷ []) first_run (moments_of nodes receivers entries) (answers_in run.done)).run ≡ run) where
      pub suspends_at_eighth : SuspendOnlyAtEighth (run_by nodes receivers entries receiver run.done)
      suspends_at_eighth = subst SuspendOnlyAtEighth (sym same) (laws.eighth recorded story receiver run of)

      pub freezes_after_full : FreezeOnlyAfterFull (run_by nodes receivers entries receiver run.done)
      freezes_after_full = subst FreezeOnlyAfterFull (sym same) (laws.freezes recorded story receiver run of)

    pub resyncs_carry : GoesByAsk nodes receivers entries receiver → Resynchronises nodes receivers entries receiver run.done
    resyncs_carry goes id ask gives resyncing before a after is mine taken awaits =
        let it : IsAttemptOf run id (of_sub id before) a = own_attempt nodes receivers entries receiver run before a after is id (ap (λ (n : ℕ). n == id) mine ∙ number_is id) in
        let told = (goes id ask gives).1 ∙ resyncing in (
          laws.carries recorded story receiver run of id (of_sub id before) a it taken told awaits ∙ ap (λ (rows : List Row). All rows) (wanted nodes receivers entries receiver id a.at),
          laws.here recorded story receiver run of id (of_sub id before) a it taken told awaits,
        )
