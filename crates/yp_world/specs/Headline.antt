-- What is promised each receiver wherever the world stands, by all that was offered to it and all that it took (RFC 8641 sections 3.1, 3.3, 3.7 and 3.11, RFC 8639 section 2.7).
use Rattle.std.specs.Prelude.{◌≡◌, ℕ, ◌≤◌, ◌==◌, ◌&&◌, Bool, true, false, List, [], ◌∷◌, ◌++◌, length, filter, Some}
use Rattle.std.specs.List.{AllByRecursion, slice_get}
use Rattle.yp_feed.specs.declared.item.Item.TheVariants.{Suspended}
use Rattle.yp_attempt.specs.Attempts.{Notification, attempts, stream, own_tracks}
use Rattle.yp_attempt.specs.Content.{Content}
use Rattle.yp_attempt.specs.Runs.{Standing}
use Rattle.yp_attempt.specs.Tracks.{Attempt, All, Notice}
use Rattle.yp_mirror.specs.Following.{AllFollow}
use Rattle.yp_mirror.specs.FullQueues.{HasFull, HasEightFull, SuspendsAtEighth, FreezesAfterFull}
use Rattle.yp_mirror.specs.Heard.{Told, told_nothing, after_body, told_by, of_sub, is_update, is_full_update, is_incomplete_update, IsTakenUpdate}
use Rattle.yp_mirror.specs.Stories.{Story, story_of}
use Rattle.yp_world.specs.Holding.{AreOf, absorbed_by}
use Rattle.yp_world.specs.World.{Delivery, World, Setup}

-- ---- what it took

-- what a receiver knows after notifications of one subscription that it took
abbrev pub told_after : Content → Told → List Notification → Told
told_after c t [] = t
told_after c t (n ∷ later) = told_after c (after_body c t n.made.position n.made.body) later

-- what it knows of a subscription by all that it took
abbrev pub known_of : Content → ℕ → List Notification → Told
known_of c sub got = told_after c told_nothing (filter (λ n. n.sub == sub) got)

-- whether a notification is an update of a subscription
abbrev pub is_update_of : ℕ → Notification → Bool
is_update_of sub n = (n.sub == sub) && is_update n.made.body

-- after each update of a mirrored subscription its copy is what is selected at the position at which the update was made
abbrev pub CopiesSelections : Content → Story → List Notification → Type 0
CopiesSelections c story got = (sub : ℕ) → story.mirrored sub ≡ true → (before : List Notification) (update : Notification) (after : List Notification) → got ≡ before ++ update ∷ after → is_update_of sub update ≡ true
    → (known_of c sub (before ++ update ∷ [])).rows ≡ story.want sub update.made.position

-- the first update of a mirrored subscription is a full one
abbrev pub CopiesBeginFull : Story → List Notification → Type 0
CopiesBeginFull story got = (sub : ℕ) → story.mirrored sub ≡ true → (before : List Notification) (update : Notification) (after : List Notification) → got ≡ before ++ update ∷ after → is_update_of sub update ≡ true
    → AllByRecursion (λ n. is_update_of sub n ≡ false) before → is_full_update update.made.body ≡ true

-- of two updates of a subscription the later was made at no lower position
abbrev pub NeverFalls : List Notification → Type 0
NeverFalls got = (sub : ℕ) (before : List Notification) (one : Notification) (between : List Notification) (other : Notification) (after : List Notification)
    → got ≡ before ++ one ∷ (between ++ other ∷ after) → is_update_of sub one ≡ true → is_update_of sub other ≡ true → one.made.position ≤ other.made.position

-- ---- what was offered to it

-- a subscription is told to be suspended only after eight full answers in a row, since which it wasn't told to go on
abbrev pub SuspendsAfterEight : List Attempt → Type 0
SuspendsAfterEight offered = (before : List Attempt) (a : Attempt) (after : List Attempt) → offered ≡ before ++ a ∷ after → a.made.body ≡ Notice Suspended → HasEightFull (of_sub a.sub before)

-- an incomplete update is offered only after a full answer, since which no update was taken
abbrev pub LeavesOutAfterFull : List Attempt → Type 0
LeavesOutAfterFull offered = (before : List Attempt) (a : Attempt) (after : List Attempt) → offered ≡ before ++ a ∷ after → is_incomplete_update a.made.body ≡ true → HasFull (of_sub a.sub before)

-- where all that is selected is awaited, after an incomplete update or eight full answers in a row, the next update of a subscription that resynchronises is just that: what is selected at the position at which it is offered, and made there
abbrev pub CarriesItsSelection : Content → Story → List Attempt → Type 0
CarriesItsSelection c story offered = (before : List Attempt) (a : Attempt) (after : List Attempt) → offered ≡ before ++ a ∷ after → IsTakenUpdate a → story.resyncing a.sub ≡ true → (told_by c (of_sub a.sub before)).awaits ≡ true
    → (a.made.body ≡ All (story.want a.sub a.at)) × (a.made.position ≡ a.at)

-- ---- what is promised it

-- of a receiver of this story, by where its worker stands, what was offered to it and what it took
pub record KeepsPromises (c : Content) (story : Story) (receiver : ℕ) (standing : Standing) (offered : List Attempt) (got : List Notification) : Type 0 where
  -- after each update it has fresh selection at the update's position
  pub copies : CopiesSelections c story got
  -- the first update is a full one
  pub begins : CopiesBeginFull story got
  -- the positions of updates never fall
  pub rising : NeverFalls got
  -- each attempt tells of what was selected, and follows what was told before it
  pub follow : (sub : ℕ) → AllFollow c story sub told_nothing (of_sub sub offered)
  -- suspensions follow only full queues, of which the eighth in a row suspends
  pub suspends : SuspendsAfterEight offered
  pub eighth : AllByRecursion (λ track. SuspendsAtEighth c standing.position standing.stamp track (told_by c (of_sub track.feed.sub offered))) (own_tracks receiver standing.tracks)
  -- and so do incomplete updates, for which a record is set aside exactly by the rule
  pub leaves_out : LeavesOutAfterFull offered
  pub freezes : AllByRecursion (λ track. FreezesAfterFull c standing.position standing.stamp track (told_by c (of_sub track.feed.sub offered))) (own_tracks receiver standing.tracks)
  -- and the next resynchronisation carries its own position's selection
  pub resynchronises : CarriesItsSelection c story offered

-- a receiver is served: it has its delivery and its worker
pub record IsServed (setup : Setup) (world : World) (receiver : ℕ) : Type 0 where
  pub delivery : Delivery
  pub standing : Standing
  pub are : AreOf setup world receiver delivery standing
  pub within : standing.position ≤ length world.journal
  -- what its queue accepted it took, or it stands in the queue, which has its places; and that is what the definition makes for it of the entries that its worker absorbed, with the answers that the queue gave
  pub accepted : stream setup.content receiver (absorbed_by world standing) delivery.answers ≡ delivery.taken ++ delivery.queue
  pub places : slice_get setup.places receiver ≡ Some delivery.places
  pub fits : length delivery.queue ≤ delivery.places
  -- and all that is promised holds of what was offered to it and of what it took
  pub promised : KeepsPromises setup.content (story_of world.journal receiver) receiver standing (attempts setup.content (receiver ∷ []) (absorbed_by world standing) delivery.answers) delivery.taken
