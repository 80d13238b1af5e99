-- What full queues lead to: suspensions (RFC 8639 section 2.7.4) and incomplete updates (RFC 8641 section 3.11.1).
use Rattle.std.specs.Prelude.{◌≡◌, ℕ, ◌<◌, ◌≤◌, true, false, ◌&&◌, ◌↔◌, List, ◌∷◌, ◌++◌, length, Some}
use Rattle.std.specs.List.{AllByRecursion}
use Rattle.yp_feed.specs.declared.item.Item.{Item}
use Rattle.yp_feed.specs.declared.item.Control.{Control}
use Rattle.yp_feed.specs.Machine.{freezes, controlled, taken, refused}
use Rattle.yp_attempt.specs.Content.{Content}
use Rattle.yp_attempt.specs.Tracks.{Track, Attempt, Took, Full, roots_in, offered_item, attempt, freeze_tried, rebased, after_answer, is_taken}
use Rattle.yp_attempt.specs.Moments.{Moment, after_moment}
use Rattle.yp_mirror.specs.Heard.{Told, heard, is_update, is_resumption}

-- a feed that isn't suspended and doesn't end is suspended exactly by the eighth full answer in a row, after which all that is selected must come; nothing else suspends it
pub record SuspendsAtEighth (c : Content) (n stamp : ℕ) (track : Track) (t : Told) : Type 0 where
  pub exactly : (item : Item) → offered_item c stamp track ≡ Some item → track.feed.suspended ≡ false → track.feed.owed.terminated ≡ false
      → ((after_answer c n stamp track item Full).feed.suspended ≡ true) ↔ ((heard c t (attempt c n stamp track item Full)).fulls ≡ 8)
  pub awaits : (item : Item) → (heard c t (attempt c n stamp track item Full)).fulls ≡ 8 → (heard c t (attempt c n stamp track item Full)).awaits ≡ true
  pub takes : (item : Item) → (after_answer c n stamp track item Took).feed.suspended ≡ true → track.feed.suspended ≡ true
  pub looks : (rebased c n stamp track).feed.suspended ≡ track.feed.suspended
  pub moments : (m : Moment) → (after_moment c m n track).feed.suspended ≡ track.feed.suspended

-- a record is set aside exactly where the rule for it holds, which asks that the last answer was a full one; nothing else makes an incomplete update owed
pub record FreezesAfterFull (c : Content) (n stamp : ℕ) (track : Track) (t : Told) : Type 0 where
  pub exactly : track.feed.owed.incomplete ≡ false → ((freeze_tried c n stamp track).feed.owed.incomplete ≡ true) ↔ (freezes track.feed (roots_in c track) ≡ true)
  pub full : freezes track.feed (roots_in c track) ≡ true → 0 < t.fulls
  pub controls : (control : Control) → (controlled track.feed control n stamp).owed.incomplete ≡ true → track.feed.owed.incomplete ≡ true
  pub takes : (item : Item) → (taken track.feed item n stamp).owed.incomplete ≡ true → track.feed.owed.incomplete ≡ true
  pub refuses : (item : Item) → (refused track.feed item stamp).owed.incomplete ≡ true → track.feed.owed.incomplete ≡ true

-- ---- full answers among attempts

-- one of these attempts met a full queue, and no update was taken after it
pub record HasFull (attempts : List Attempt) : Type 0 where
  pub before : List Attempt
  pub full : Attempt
  pub after : List Attempt
  pub parts : attempts ≡ before ++ full ∷ after
  pub answer : is_taken full.answer ≡ false
  pub since : AllByRecursion (λ a. (is_taken a.answer && is_update a.made.body) ≡ false) after

-- eight of them or more met a full queue, one right after the other, and after them it wasn't told that the subscription goes on
pub record HasEightFull (attempts : List Attempt) : Type 0 where
  pub before : List Attempt
  pub fulls : List Attempt
  pub after : List Attempt
  pub parts : attempts ≡ before ++ (fulls ++ after)
  pub eight : 8 ≤ length fulls
  pub answers : AllByRecursion (λ a. is_taken a.answer ≡ false) fulls
  pub since : AllByRecursion (λ a. (is_taken a.answer && is_resumption a.made.body) ≡ false) after
