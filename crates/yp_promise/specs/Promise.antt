-- What the receiver of a legal journal is promised, by all that was offered to it and all that it took (RFC 8641 sections 3.1, 3.3, 3.7, 3.9 and 3.11, RFC 8639 section 2.7, RFC 8341 section 3.4.5).
use Rattle.std.specs.Prelude.{◌≡◌, ℕ, true, false, List, [], ◌∷◌, ◌++◌, Some}
use Rattle.std.specs.List.{AllByRecursion}
use Rattle.yp_schema.specs.declared.schema.SchemaNode.{SchemaNode}
use Rattle.yp_terms.specs.declared.ask.Ask.{Ask}
use Rattle.yp_feed.specs.Machine.{is_mirrored, resyncs}
use Rattle.yp_journal.specs.declared.entry.Entry.{Entry}
use Rattle.yp_journal.specs.declared.receiver.ReceiverInfo.{ReceiverInfo}
use Rattle.yp_journal.specs.History.{may_read, state_at}
use Rattle.yp_attempt.specs.Tracks.{Attempt, All, is_taken}
use Rattle.yp_attempt.specs.Attempts.{Notification, answers_in, attempts, replay, taken_of}
use Rattle.yp_attempt.specs.Runs.{Run, first_run}
use Rattle.yp_mirror.specs.Following.{IsLessThan}
use Rattle.yp_mirror.specs.FullQueues.{FreezesAfterFull, SuspendsAtEighth}
use Rattle.yp_mirror.specs.Heard.{is_full_update, is_incomplete_update, is_update, of_sub, told_by, IsTakenUpdate}
use Rattle.yp_mirror.specs.Living.{IsOfLiving}
use Rattle.yp_moment.specs.Concealed.{NamesReadable}
use Rattle.yp_moment.specs.Entries.{Grants, moments_of, selected_at}
use Rattle.yp_moment.specs.Living.{IsLiveAt}
use Rattle.yp_moment.specs.Windows.{recorded}
use Rattle.yp_receiver.specs.Held.{held_of}
use Rattle.yp_world.specs.Headline.{LeavesOutAfterFull, NeverFalls, SuspendsAfterEight, is_update_of}
use Rattle.yp_promise.specs.Received.{received}

-- ---- subscriptions

-- a journal gives a subscription of this id by what was asked for: a receiver established it, or it was configured
pub record Gives (entries : List Entry) (id : ℕ) (ask : Ask) : Type 0 where
  pub before : List Entry
  pub entry : Entry
  pub after : List Entry
  pub parts : entries ≡ before ++ entry ∷ after
  pub grants : Grants entry id ask

-- ---- what it took

-- after each update of a mirrored subscription the receiver holds what is selected at the position at which the update was made
abbrev pub Mirrors : List SchemaNode → List ReceiverInfo → List Entry → ℕ → List Notification → Type 0
Mirrors nodes receivers entries receiver got = (id : ℕ) (ask : Ask) → Gives entries id ask → is_mirrored ask.trigger ≡ true
    → (before : List Notification) (update : Notification) (after : List Notification) → got ≡ before ++ update ∷ after → is_update_of id update ≡ true
    → held_of id (received [] (before ++ update ∷ [])) ≡ Some (selected_at nodes (state_at nodes receivers entries update.made.position) id receiver)

-- the first update of a mirrored subscription is a full one
abbrev pub BeginsFull : List Entry → List Notification → Type 0
BeginsFull entries got = (id : ℕ) (ask : Ask) → Gives entries id ask → is_mirrored ask.trigger ≡ true
    → (before : List Notification) (update : Notification) (after : List Notification) → got ≡ before ++ update ∷ after → is_update_of id update ≡ true
    → AllByRecursion (λ n. is_update_of id n ≡ false) before → is_full_update update.made.body ≡ true

-- ---- what was offered to it

-- nothing is named that its user may not read, neither at the position at which it was made nor at the one at which it was offered
pub record IsConcealed (nodes : List SchemaNode) (receivers : List ReceiverInfo) (entries : List Entry) (receiver : ℕ) (a : Attempt) : Type 0 where
  pub made : NamesReadable (may_read nodes (state_at nodes receivers entries a.made.position) receiver) a.made.body
  pub offered : NamesReadable (may_read nodes (state_at nodes receivers entries a.at) receiver) a.made.body

-- it was made at the position and at the stamp at which it is offered, unless it is what was set aside before
abbrev pub IsMadeWhereOffered : Attempt → Type 0
IsMadeWhereOffered a = is_incomplete_update a.made.body ≡ false → (a.made.position ≡ a.at) × (a.made.tick ≡ a.stamp)

-- an update is of a subscription that the registry has where it is offered, for this receiver
abbrev pub IsOfLiveAt : List SchemaNode → List ReceiverInfo → List Entry → ℕ → Attempt → Type 0
IsOfLiveAt nodes receivers entries receiver a = is_update a.made.body ≡ true → IsLiveAt nodes receivers entries receiver a.sub a.at

-- each full answer comes at a later stamp than the full answer before it: so full answers in a row come at as many stamps
abbrev pub IsFullAtRisingStamps : List Attempt → Type 0
IsFullAtRisingStamps offered = (before : List Attempt) (a : Attempt) (after : List Attempt) → offered ≡ before ++ a ∷ after → is_taken a.answer ≡ false → IsLessThan (told_by recorded (of_sub a.sub before)).last_full a.stamp

-- the run of the receiver's feeds to which the answers lead that its queue gave
abbrev pub run_by : List SchemaNode → List ReceiverInfo → List Entry → ℕ → List Attempt → Run
run_by nodes receivers entries receiver offered = (replay recorded (receiver ∷ []) first_run (moments_of nodes receivers entries) (answers_in offered)).run

-- where a run stands, each feed is suspended just by the eighth full answer in a row
abbrev pub SuspendOnlyAtEighth : Run → Type 0
SuspendOnlyAtEighth run = AllByRecursion (λ track. SuspendsAtEighth recorded run.standing.position run.standing.stamp track (told_by recorded (of_sub track.feed.sub run.done))) run.standing.tracks

-- and a record of a feed is set aside just by the rule, which asks for a full answer
abbrev pub FreezeOnlyAfterFull : Run → Type 0
FreezeOnlyAfterFull run = AllByRecursion (λ track. FreezesAfterFull recorded run.standing.position run.standing.stamp track (told_by recorded (of_sub track.feed.sub run.done))) run.standing.tracks

-- where all that is selected is awaited, after an incomplete update or eight full answers in a row, the next update of a subscription that resynchronises is just that: what is selected at the position at which it is offered, and made there
abbrev pub Resynchronises : List SchemaNode → List ReceiverInfo → List Entry → ℕ → List Attempt → Type 0
Resynchronises nodes receivers entries receiver offered = (id : ℕ) (ask : Ask) → Gives entries id ask → resyncs ask.trigger ≡ true
    → (before : List Attempt) (a : Attempt) (after : List Attempt) → offered ≡ before ++ a ∷ after → a.sub ≡ id → IsTakenUpdate a → (told_by recorded (of_sub id before)).awaits ≡ true
    → (a.made.body ≡ All (selected_at nodes (state_at nodes receivers entries a.at) id receiver)) × (a.made.position ≡ a.at)

-- ---- the promise

-- of the receiver of this number: what was offered to it, and what it took
pub record Serves (nodes : List SchemaNode) (receivers : List ReceiverInfo) (entries : List Entry) (receiver : ℕ) (offered : List Attempt) (got : List Notification) : Type 0 where
  -- what was offered is what the definition makes for it of the journal, with the answers that its queue gave
  pub own : offered ≡ attempts recorded (receiver ∷ []) (moments_of nodes receivers entries) (answers_in offered)
  -- each was made where it was offered, but for what was set aside
  pub here : AllByRecursion IsMadeWhereOffered offered
  -- each was of a subscription that had started for the receiver and was not dropped since, and each update of one that had not ended: where it was offered, the registry had it, for this receiver
  pub lives : AllByRecursion (IsOfLiving receiver (moments_of nodes receivers entries)) offered
  pub live : AllByRecursion (IsOfLiveAt nodes receivers entries receiver) offered
  -- what it took was accepted first, in the same order
  pub waiting : List Notification
  pub accepted : taken_of offered ≡ got ++ waiting
  -- after each update it holds fresh selection at the update's position
  pub mirrors : Mirrors nodes receivers entries receiver got
  -- the first update is a full one
  pub begins : BeginsFull entries got
  -- the positions of updates never fall
  pub rising : NeverFalls got
  -- nothing is named that its user may not read
  pub concealed : AllByRecursion (IsConcealed nodes receivers entries receiver) offered
  -- suspensions follow only full queues: eight full answers in a row, at as many stamps, of which the eighth suspends a feed, and nothing else does
  pub suspends : SuspendsAfterEight offered
  pub stamps : IsFullAtRisingStamps offered
  pub eighth : SuspendOnlyAtEighth (run_by nodes receivers entries receiver offered)
  -- and so do incomplete updates, for which a record is set aside exactly by the rule, that is after a full answer
  pub leaves_out : LeavesOutAfterFull offered
  pub freezes : FreezeOnlyAfterFull (run_by nodes receivers entries receiver offered)
  -- and the next resynchronisation carries its own position's selection
  pub resynchronises : Resynchronises nodes receivers entries receiver offered
