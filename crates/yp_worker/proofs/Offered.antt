-- What a worker offers, by the run to which its entries and answers lead.
use Rattle.std.proofs.Common.{◌≡◌, ◌∙◌, refl, sym, ap, subst, ℕ, suc, not, List, [], ◌∷◌, ◌++◌, length, Some, None}
use Rattle.std.specs.Prelude.{option_map}
use Rattle.std.proofs.lemmas.List.{length-map}
use Rattle.yp_schema.specs.declared.schema.SchemaNode.{SchemaNode}
use Rattle.yp_journal.specs.declared.entry.Entry.{Entry}
use Rattle.yp_journal.specs.declared.receiver.ReceiverInfo.{ReceiverInfo}
use Rattle.yp_journal.specs.History.{JournalState}
use Rattle.yp_attempt.specs.Attempts.{Replayed, replay}
use Rattle.yp_attempt.specs.Content.{Content, IsLawful}
use Rattle.yp_attempt.specs.Moments.{Moment}
use Rattle.yp_attempt.specs.Runs.{Found, IsFirst, Reaches, Run, Standing, first_offer, first_run, waits}
use Rattle.yp_attempt.specs.Tracks.{Answer, Track, item_made, rebased}
use Rattle.yp_attempt.specs.Workers.{Stands, all_ready, found_rebased, ready}
use Rattle.yp_attempt.specs.AttemptLaws.{none_found, some_found}
use Rattle.yp_attempt.specs.TrackLaws.{offering_stays}
use Rattle.yp_moment.specs.Entries.{moments_of}
use Rattle.yp_moment.specs.Notices.{notice_of}
use Rattle.yp_moment.specs.Windows.{recorded}
use Rattle.yp_slot.specs.declared.slot.Slot.{Slot}
use Rattle.yp_roster.specs.Rosters.{standing_at}
use Rattle.yp_roster.specs.Ordered.{AreSlotsOf}
use Rattle.yp_worker.specs.declared.offering.Sent.{Sent}
use Rattle.yp_worker.specs.declared.worker.Worker.{Worker}
use Rattle.yp_worker.specs.Packets.{packet_of}
use Rattle.yp_worker.specs.Workers.{HasOffered, IsIdleWorkerOf, IsSentBy, IsWorkerOf}

-- ---- the run of a worker

-- the laws of runs that are rested on
pub record RunLaws : Type 0 where
  pub lawful : IsLawful recorded
  pub replayed : (c : Content) (receivers : List ℕ) (past : List Moment) (answers : List Answer) (run : Run) → Reaches c receivers past answers run
      → replay c receivers first_run past answers ≡ record { run = run; rest = []; left = [] }
  pub first : (c : Content) (stamp : ℕ) (tracks : List Track) (found : Found) → first_offer c stamp tracks ≡ Some found → IsFirst c stamp tracks found
  pub finds : (c : Content) → IsLawful c → (receivers : List ℕ) (past : List Moment) (answers : List Answer) (standing : Standing) → (s : Stands c receivers past answers standing)
      → first_offer c standing.stamp (all_ready c standing) ≡ option_map (found_rebased c s.run.standing.position s.run.standing.stamp) (waits c s.run)

module _ (laws : RunLaws) where
  -- the same entries and answers lead to one run
  same_run : (c : Content) (receivers : List ℕ) (past : List Moment) (answers : List Answer) (one other : Run) → Reaches c receivers past answers one → Reaches c receivers past answers other → one ≡ other
  same_run c receivers past answers one other first second = ap (λ (end : Replayed). end.run) (sym (laws.replayed c receivers past answers one first) ∙ laws.replayed c receivers past answers other second)

  module _ (nodes : List SchemaNode) (start : ℕ) (receivers : List ReceiverInfo) (mine : List ℕ) (entries : List Entry) (answers : List Answer) (worker : Worker) (run : Run)
      (reaches : Reaches recorded mine (moments_of nodes receivers entries) answers run) where
    -- what is sent is what its run offers
    pub sent_by_run : (sent : Sent) → HasOffered nodes start receivers mine entries answers sent worker → IsSentBy nodes start run sent
    sent_by_run sent o =
        let state : JournalState = worker.state in
        let past = moments_of nodes receivers entries in
        let found = o.found in
        let tracks : List Track = found.before ++ found.track ∷ found.after in
        let s : Stands recorded mine past answers (standing_at state tracks) = found.stands in
        let its : Run = s.run in
        let n : ℕ = its.standing.position in
        let stamp : ℕ = its.standing.stamp in
        let there = some_found recorded n stamp (waits recorded its) _ (sym (laws.finds recorded laws.lawful mine past answers (standing_at state tracks) s) ∙ found.first) in
        let other : Found = there.0 in
        let stays : rebased recorded n stamp other.track ≡ other.track = offering_stays recorded n stamp other.track other.item (laws.first recorded stamp its.standing.tracks other there.1).offers in
        let track : found.track ≡ other.track = ap (λ (f : Found). f.track) (sym there.2) ∙ stays in
        let item : o.offer.item ≡ other.item = ap (λ (f : Found). f.item) (sym there.2) in
        let of_its : IsSentBy nodes start its sent = record {
          found = other;
          waits = there.1;
          to = o.to ∙ ap (λ (t : Track). t.feed.receiver) track;
          packet = o.made ∙ (λ i. packet_of nodes start (track i).feed.sub (item_made recorded (track i) (item i) (s.position i) (s.stamp i)));
          notice = o.notice ∙ (λ i. notice_of (track i).feed.sub (item_made recorded (track i) (item i) (s.position i) (s.stamp i)));
        } in
        subst (λ (r : Run). IsSentBy nodes start r sent) (same_run recorded mine past answers its run s.reaches reaches) of_its

    -- its run has nothing to offer where it has not
    pub idle_with_run : IsIdleWorkerOf nodes start receivers mine entries answers worker → waits recorded run ≡ None
    idle_with_run w =
        let state : JournalState = worker.state in
        let past = moments_of nodes receivers entries in
        let idle = w.idle in
        let s : Stands recorded mine past answers (standing_at state idle.tracks) = idle.stands in
        let its : Run = s.run in
        let none : first_offer recorded state.stamp (all_ready recorded (standing_at state idle.tracks)) ≡ None = ap (first_offer recorded state.stamp) idle.looked ∙ idle.none in
        let of_its = none_found recorded its.standing.position its.standing.stamp (waits recorded its) (sym (laws.finds recorded laws.lawful mine past answers (standing_at state idle.tracks) s) ∙ none) in
        subst (λ (r : Run). waits recorded r ≡ None) (same_run recorded mine past answers its run s.reaches reaches) of_its

    -- it serves a feed for each track of its run
    pub feeds_of_run : IsWorkerOf nodes start receivers mine entries answers worker → length run.standing.tracks ≡ length worker.roster.slots.items
    feeds_of_run w =
        let state : JournalState = worker.state in
        let past = moments_of nodes receivers entries in
        let roster = w.stands in
        let s : Stands recorded mine past answers (standing_at state roster.tracks) = roster.stands in
        let its : Run = s.run in
        ap (λ (r : Run). length r.standing.tracks) (same_run recorded mine past answers run its reaches s.reaches)
        ∙ (sym (length-map its.standing.tracks (rebased recorded its.standing.position its.standing.stamp))
        ∙ (ap (λ (ts : List Track). length ts) (sym s.tracks)
        ∙ (length-map roster.tracks (ready recorded state.position state.stamp)
        ∙ as_many nodes state worker.roster.slots.items roster.tracks roster.kept)))
      where
        as_many : (nodes : List SchemaNode) (state : JournalState) (slots : List Slot) (tracks : List Track) → AreSlotsOf nodes state slots tracks → length tracks ≡ length slots
        as_many nodes state [] [] are = refl
        as_many nodes state [] (track ∷ tracks) are = absurd are
        as_many nodes state (slot ∷ slots) [] are = absurd are
        as_many nodes state (slot ∷ slots) (track ∷ tracks) are = ap (λ (n : ℕ). suc n) (as_many nodes state slots tracks are.1)
