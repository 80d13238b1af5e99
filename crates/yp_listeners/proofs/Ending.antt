-- Offers come to an end: the triggers of a legal journal have their due ticks, so each answer leaves fewer that may come.
use Rattle.std.proofs.Common.{◌≡◌, ℕ, ◌<◌, false, List, [], ◌∷◌, ◌++◌, Some, None, subst}
use Rattle.std.specs.Prelude.{ℤ}
use Rattle.std.specs.List.{AllByRecursion}
use Rattle.yp_base.specs.declared.notice.Trigger.{Trigger}
use Rattle.yp_base.specs.declared.notice.Trigger.TheVariants.{Periodic as Every, OnChange}
use Rattle.yp_schema.specs.declared.schema.SchemaNode.{SchemaNode}
use Rattle.yp_journal.specs.declared.entry.Entry.{Entry}
use Rattle.yp_journal.specs.declared.receiver.ReceiverInfo.{ReceiverInfo}
use Rattle.yp_journal.specs.History.{IsLegal, first_state}
use Rattle.yp_feed.specs.declared.item.Control.{Control}
use Rattle.yp_feed.specs.declared.item.Control.TheVariants.{Modify, Resync, Rules, End}
use Rattle.yp_feed.specs.Machine.{HasTerms, IsTrigger}
use Rattle.yp_attempt.specs.Content.{Content, IsLawful}
use Rattle.yp_attempt.specs.ListLaws.{all_before, all_rest}
use Rattle.yp_attempt.specs.Moments.{Act, Moment, Quiet, Starts, Controls, Drops}
use Rattle.yp_attempt.specs.RunLaws.{FindsFirst}
use Rattle.yp_attempt.specs.Runs.{Found, IsFirst, Reaches, Run, Standing, opened, advances, settles, first_offer, run_settled, settled, waits}
use Rattle.yp_attempt.specs.Tracks.{Answer, Full, Took}
use Rattle.yp_serial.specs.DueTicks.{GiveDueTicks, GivesDueTicks, HasDueTicks, HaveDueTicks, KeepsDueTicks}
use Rattle.yp_serial.specs.Posts.{Queueing, first_post}
use Rattle.yp_serial.specs.Serial.{Served, Taking, served_advanced, served_settled}
use Rattle.yp_serial.specs.Weights.{weights}
use Rattle.yp_moment.specs.Entries.{moments_of}
use Rattle.yp_moment.specs.Followed.{CanBeFollowed}
use Rattle.yp_moment.specs.Windows.{recorded}
use Rattle.yp_listeners.specs.Listeners.{offers_left}

-- ---- the laws that are rested on

pub record EndingLaws : Type 0 where
  pub lawful : IsLawful recorded
  pub finds : FindsFirst
  pub followed : (nodes : List SchemaNode) (receivers : List ReceiverInfo) (entries : List Entry) → IsLegal nodes (first_state receivers) entries → AllByRecursion (λ m. CanBeFollowed m.act) (moments_of nodes receivers entries)
  pub anchored : (period : ℕ) (anchor : ℤ) → HasDueTicks (Every period (Some anchor))
  pub entry : (c : Content) (receivers : List ℕ) (takes : Taking) (m : Moment) (served : Served) → GivesDueTicks m.act → HaveDueTicks served.run.standing.tracks → HaveDueTicks (served_advanced c receivers takes m served).run.standing.tracks
  pub offer : (c : Content) (q : Queueing) (served : Served) (found : Found) → HaveDueTicks served.run.standing.tracks → waits c served.run ≡ Some found → HaveDueTicks (served_settled c q found served).run.standing.tracks
  pub fewer : (c : Content) → IsLawful c → (standing : Standing) (found : Found) (answer : Answer) → HasDueTicks found.track.feed.trigger → first_offer c standing.stamp standing.tracks ≡ Some found
      → weights c standing.stamp (settled c standing found answer) < weights c standing.stamp standing.tracks

module _ (laws : EndingLaws) where
  -- ---- what a legal journal hands to feeds has due ticks

  trigger_due : (trigger : Trigger) → IsTrigger trigger → HasDueTicks trigger
  trigger_due (Every period (Some anchor)) is = laws.anchored period anchor
  trigger_due (Every period None) is = absurd is
  trigger_due (OnChange dampening sync excluded) is = tt

  control_due : (control : Control) → HasTerms control → KeepsDueTicks control
  control_due (Modify trigger told) is = trigger_due trigger is
  control_due Resync is = tt
  control_due Rules is = tt
  control_due End is = tt

  act_due : (act : Act) → CanBeFollowed act → GivesDueTicks act
  act_due Quiet is = tt
  act_due (Starts sub trigger configured names) is = trigger_due trigger is.1
  act_due (Controls sub control) is = control_due control is
  act_due (Drops sub) is = tt

  all_due : (moments : List Moment) → AllByRecursion (λ m. CanBeFollowed m.act) moments → GiveDueTicks moments
  all_due [] all = tt
  all_due (m ∷ moments) all = (act_due m.act all.0, all_due moments all.1)

  -- ---- and so have the tracks of its runs, whatever the answers

  answered_due : (c : Content) (run : Run) (found : Found) (answer : Answer) → HaveDueTicks run.standing.tracks → waits c run ≡ Some found → HaveDueTicks (run_settled c run found answer).standing.tracks
  answered_due c run found Took due offers = laws.offer c (record { places = λ number. 1; automatic = λ number. false }) (record { run = run; posts = λ number. first_post }) found due offers
  answered_due c run found Full due offers = laws.offer c (record { places = λ number. 0; automatic = λ number. false }) (record { run = run; posts = λ number. first_post }) found due offers

  run_due : (c : Content) (receivers : List ℕ) (past : List Moment) (answers : List Answer) (run : Run) → Reaches c receivers past answers run → GiveDueTicks past → HaveDueTicks run.standing.tracks
  run_due c receivers _ _ _ opened due = tt
  run_due c receivers _ _ _ (advances past answers run m r may idle) due =
      laws.entry c receivers (λ n number. 0) m (record { run = run; posts = λ number. first_post }) (all_rest (λ m. GivesDueTicks m.act) past (m ∷ []) due).0
      (run_due c receivers past answers run r (all_before (λ m. GivesDueTicks m.act) past (m ∷ []) due))
  run_due c receivers _ _ _ (settles past answers run found answer r offers) due = answered_due c run found answer (run_due c receivers past answers run r due) offers

  -- so an answer leaves fewer offers that may come
  pub fewer_left : (nodes : List SchemaNode) (receivers : List ReceiverInfo) (mine : List ℕ) (entries : List Entry) (answers : List Answer) (run : Run) (found : Found)
      → IsLegal nodes (first_state receivers) entries → Reaches recorded mine (moments_of nodes receivers entries) answers run → waits recorded run ≡ Some found
      → offers_left (run_settled recorded run found Took) < offers_left run
  fewer_left nodes receivers mine entries answers run found legal reaches there =
      let due : HaveDueTicks run.standing.tracks = run_due recorded mine (moments_of nodes receivers entries) answers run reaches (all_due (moments_of nodes receivers entries) (laws.followed nodes receivers entries legal)) in
      let first : IsFirst recorded run.standing.stamp run.standing.tracks found = laws.finds recorded run.standing.stamp run.standing.tracks found there in
      let all : HaveDueTicks (found.before ++ found.track ∷ found.after) = subst HaveDueTicks first.parts due in
      laws.fewer recorded laws.lawful run.standing found Took (all_rest (λ track. HasDueTicks track.feed.trigger) found.before (found.track ∷ found.after) all).0 there
