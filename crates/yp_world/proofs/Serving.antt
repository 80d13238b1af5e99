-- Where all that holds of the world holds, each receiver is served, and all that is promised holds.
use Rattle.std.proofs.Common.{◌≡◌, ℕ, ◌<◌, sym, ap, subst, ◌∙◌, true, List, [], ◌∷◌, ◌++◌, length, drop, Option, arith}
use Rattle.std.specs.Prelude.{◌%◌, option_map}
use Rattle.std.proofs.lemmas.List.{length-map}
use Rattle.std.specs.List.{AllByRecursion, slice_get}
use Rattle.std.proofs.lemmas.List.{take-append-drop}
use Rattle.std.proofs.lemmas.Option.{slice_get-map}
use Rattle.yp_feed.specs.declared.item.Item.TheVariants.{Suspended}
use Rattle.yp_attempt.specs.Attempts.{Replayed, answers_in, attempts, taken_of}
use Rattle.yp_attempt.specs.Content.{Content, IsLawful}
use Rattle.yp_attempt.specs.Moments.{Moment, AllMayFollow}
use Rattle.yp_attempt.specs.Runs.{Standing, Run, Reaches}
use Rattle.yp_attempt.specs.Tracks.{Answer, Attempt, All, Notice}
use Rattle.yp_mirror.specs.FullQueues.{HasEightFull, HasFull, SuspendsAtEighth, FreezesAfterFull}
use Rattle.yp_mirror.specs.Heard.{IsTakenUpdate, is_incomplete_update, of_sub, told_by}
use Rattle.yp_mirror.specs.Links.{IsAttemptOf, IsRunOf, RunIsLinked}
use Rattle.yp_mirror.specs.Stories.{Story, IsStory, Leads, story_of}
use Rattle.yp_world.specs.Headline.{SuspendsAfterEight, LeavesOutAfterFull, CarriesItsSelection, KeepsPromises, IsServed}
use Rattle.yp_world.specs.Holding.{AreOf, Holds, IsDeliveryOf, absorbed_by}
use Rattle.yp_world.specs.TakenLaws.{number_is, sub_parts}
use Rattle.yp_world.specs.World.{Delivery, Setup, World, worker_of}
use Rattle.yp_world.proofs.Copies.{CopyLaws, copies_begin_full, copies_selections, never_falls}
use Rattle.yp_attempt.specs.ElementLaws.{get_below}
use Rattle.yp_world.proofs.Parts.{RunLaws, its_delivery, own_attempts, own_part, own_reaches, own_replay}

-- ---- the laws that are rested on

pub record AttemptLaws : Type 0 where
  pub suspends : (c : Content) (story : Story) (receiver : ℕ) (run : Run) → IsRunOf c story receiver run → (sub : ℕ) (before : List Attempt) (a : Attempt) → IsAttemptOf run sub before a → a.made.body ≡ Notice Suspended → HasEightFull before
  pub eighth : (c : Content) (story : Story) (receiver : ℕ) (run : Run) → IsRunOf c story receiver run
      → AllByRecursion (λ track. SuspendsAtEighth c run.standing.position run.standing.stamp track (told_by c (of_sub track.feed.sub run.done))) run.standing.tracks
  pub leaves_out : (c : Content) (story : Story) (receiver : ℕ) (run : Run) → IsRunOf c story receiver run → (sub : ℕ) (before : List Attempt) (a : Attempt) → IsAttemptOf run sub before a → is_incomplete_update a.made.body ≡ true → HasFull before
  pub freezes : (c : Content) (story : Story) (receiver : ℕ) (run : Run) → IsRunOf c story receiver run
      → AllByRecursion (λ track. FreezesAfterFull c run.standing.position run.standing.stamp track (told_by c (of_sub track.feed.sub run.done))) run.standing.tracks
  pub carries : (c : Content) (story : Story) (receiver : ℕ) (run : Run) → IsRunOf c story receiver run → (sub : ℕ) (before : List Attempt) (a : Attempt) → IsAttemptOf run sub before a → IsTakenUpdate a
      → story.resyncing sub ≡ true → (told_by c before).awaits ≡ true → a.made.body ≡ All (story.want sub a.at)
  pub here : (c : Content) (story : Story) (receiver : ℕ) (run : Run) → IsRunOf c story receiver run → (sub : ℕ) (before : List Attempt) (a : Attempt) → IsAttemptOf run sub before a → IsTakenUpdate a
      → story.resyncing sub ≡ true → (told_by c before).awaits ≡ true → a.made.position ≡ a.at
  pub linked : (c : Content) → IsLawful c → (story : Story) → Leads c story → (receiver : ℕ) (journal : List Moment) → IsStory story receiver journal
      → (past : List Moment) (answers : List Answer) (run : Run) → Reaches c (receiver ∷ []) past answers run → (rest : List Moment) → past ++ rest ≡ journal → RunIsLinked c story receiver past run
  pub tells : (journal : List Moment) (receiver : ℕ) → AllMayFollow [] journal → IsStory (story_of journal receiver) receiver journal

-- ---- one run

module _ (laws : AttemptLaws) (c : Content) (story : Story) (receiver : ℕ) (run : Run) (of : IsRunOf c story receiver run) where
  its_own : (before : List Attempt) (a : Attempt) (after : List Attempt) → run.done ≡ before ++ a ∷ after → IsAttemptOf run a.sub (of_sub a.sub before) a
  its_own before a after is = record { later = of_sub a.sub after; parts = ap (λ (xs : List Attempt). of_sub a.sub xs) is ∙ sub_parts a.sub before a after (number_is a.sub) }

  suspends_after_eight : SuspendsAfterEight run.done
  suspends_after_eight before a after is says = laws.suspends c story receiver run of a.sub (of_sub a.sub before) a (its_own before a after is) says

  leaves_out_after_full : LeavesOutAfterFull run.done
  leaves_out_after_full before a after is says = laws.leaves_out c story receiver run of a.sub (of_sub a.sub before) a (its_own before a after is) says

  carries_its_selection : CarriesItsSelection c story run.done
  carries_its_selection before a after is taken resyncing awaits = (
    laws.carries c story receiver run of a.sub (of_sub a.sub before) a (its_own before a after is) taken resyncing awaits,
    laws.here c story receiver run of a.sub (of_sub a.sub before) a (its_own before a after is) taken resyncing awaits,
  )

-- ---- what there is

less_workers : (receiver workers : ℕ) → 0 < workers → receiver % workers < workers
less_workers receiver workers some = grind (arith, some)

-- ---- each receiver

module _ (copies : CopyLaws) (laws : AttemptLaws) (runs : RunLaws) (setup : Setup) (lawful : IsLawful setup.content) (some : 0 < setup.workers) (world : World) (h : Holds setup world) (receiver : ℕ) (small : receiver < length setup.places)
    (leads : Leads setup.content (story_of world.journal receiver)) where
  served_by : (delivery : Delivery) (standing : Standing) → AreOf setup world receiver delivery standing → IsServed setup world receiver
  served_by delivery standing are =
      let c : Content = setup.content in
      let story : Story = story_of world.journal receiver in
      let past : List Moment = absorbed_by world standing in
      let mine : List Attempt = own_attempts setup world h receiver delivery standing are in
      let own : Run = own_part setup world h receiver delivery standing are in
      let is : IsDeliveryOf delivery mine = its_delivery setup world h receiver delivery standing are in
      let part : Reaches c (receiver ∷ []) past (answers_in mine) own = own_reaches setup world h receiver delivery standing are runs small in
      let tells : IsStory story receiver world.journal = laws.tells world.journal receiver h.legal in
      let whole : past ++ drop standing.position world.journal ≡ world.journal = take-append-drop standing.position world.journal in
      let of : IsRunOf c story receiver own = record { lawful = lawful; leads = leads; journal = world.journal; tells = tells; past = past; rest = drop standing.position world.journal; within = whole; answers = answers_in mine; reaches = part } in
      let linked : RunIsLinked c story receiver past own = laws.linked c lawful story leads receiver world.journal tells past (answers_in mine) own part (drop standing.position world.journal) whole in
      let same : attempts c (receiver ∷ []) past delivery.answers ≡ mine = ap (λ (end : Replayed). end.run.done) (own_replay setup world h receiver delivery standing are runs small) in
      let promised : KeepsPromises c story receiver standing mine delivery.taken = record {
        copies = copies_selections copies c story receiver own of delivery.taken delivery.queue is.accepted;
        begins = copies_begin_full copies c story receiver own of delivery.taken delivery.queue is.accepted;
        rising = never_falls copies c story receiver own of delivery.taken delivery.queue is.accepted;
        follow = linked.follow;
        suspends = suspends_after_eight laws c story receiver own of;
        eighth = laws.eighth c story receiver own of;
        leaves_out = leaves_out_after_full laws c story receiver own of;
        freezes = laws.freezes c story receiver own of;
        resynchronises = carries_its_selection laws c story receiver own of;
      } in
      record {
        delivery = delivery;
        standing = standing;
        are = are;
        within = (h.serves (worker_of setup receiver) standing are.stands).within;
        accepted = ap taken_of same ∙ is.accepted;
        places = ap (λ (ns : List ℕ). slice_get ns receiver) (sym h.places) ∙ (slice_get-map (λ (d : Delivery). d.places) world.deliveries receiver ∙ ap (λ (o : Option Delivery). option_map (λ d. d.places) o) are.delivers);
        fits = is.fits;
        promised = subst (λ (xs : List Attempt). KeepsPromises c story receiver standing xs delivery.taken) (sym same) promised;
      }

  pub served : IsServed setup world receiver
  served =
      let many : length world.deliveries ≡ length setup.places = sym (length-map world.deliveries (λ (d : Delivery). d.places)) ∙ ap (λ (ns : List ℕ). length ns) h.places in
      let less : receiver % setup.workers < setup.workers = less_workers receiver setup.workers some in
      let workers : length world.standings ≡ setup.workers = h.workers in
      let its = get_below world.deliveries receiver (omega (arith, many, small)) in
      let work = get_below world.standings (worker_of setup receiver) (omega (arith, less, workers)) in
      served_by its.0 work.0 (record { delivers = its.1; stands = work.1 })
