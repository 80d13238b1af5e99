-- What a roster stands for after an entry.
use Rattle.std.proofs.Common.{◌≡◌, ℕ, ◌+◌, ◌≤◌, refl, sym, ap, subst, ◌∙◌, Bool, true, false, not, List, [], ◌∷◌, ◌++◌, map}
use Rattle.std.specs.Prelude.{filter, if◌then◌else◌, nat_lt}
use Rattle.std.proofs.lemmas.List.{map-append}
use Rattle.yp_schema.specs.declared.schema.SchemaNode.{SchemaNode}
use Rattle.yp_terms.specs.Terms.{Terms}
use Rattle.yp_feed.specs.declared.item.Control.TheVariants.{Rules}
use Rattle.yp_feed.specs.Machine.{FeedState, after_freeze, freezes, frozen, restarted}
use Rattle.yp_journal.specs.declared.command.Command.{Command}
use Rattle.yp_journal.specs.declared.command.Command.TheVariants.{Tick, Edit, Rules as Policies, Establish, Modify, Delete, Kill, Resync, Configure, Reconfigure, Unconfigure, Take}
use Rattle.yp_journal.specs.History.{JournalState, next_state}
use Rattle.yp_attempt.specs.ListLaws.{all_map}
use Rattle.yp_attempt.specs.Moments.{Moment, Act, Starts, after_act, after_moment, after_rules, is_kept_by, with_control}
use Rattle.yp_attempt.specs.Runs.{AreById, Standing, with_started}
use Rattle.yp_attempt.specs.TrackLaws.{act_same}
use Rattle.yp_attempt.specs.Tracks.{Answer, Track, freeze_tried, rebased, roots_in}
use Rattle.yp_attempt.specs.Workers.{Stands, takes}
use Rattle.yp_moment.specs.Windows.{recorded}
use Rattle.yp_slot.specs.declared.following.Entered.{Entered}
use Rattle.yp_slot.specs.declared.slot.Slot.{Slot}
use Rattle.yp_slot.specs.Steps.{IsEntered, entered_moment, entered_track, names_of, with_next}
use Rattle.yp_roster.specs.Ordered.{AreSlotsOf}
use Rattle.yp_roster.specs.Passed.{new_tracks, with_tracks}
use Rattle.yp_roster.specs.Rosters.{ready_at, standing_at, IsIdleAt, IsRosterAt}
use Rattle.yp_roster.proofs.Offering.{LooksChangeNothing}

-- ---- a record is set aside once

-- the law of it that is rested on
abbrev pub RecordsAreSetAsideOnce : Type 0
RecordsAreSetAsideOnce = (n stamp : ℕ) (t : Track) → freeze_tried recorded n stamp (freeze_tried recorded n stamp t) ≡ freeze_tried recorded n stamp t

-- the next look sets it aside, if it was not
ready_again : RecordsAreSetAsideOnce → (state : JournalState) (t : Track) → ready_at state (freeze_tried recorded state.position state.stamp t) ≡ ready_at state t
ready_again once state t = ap (rebased recorded state.position state.stamp) (once state.position state.stamp t)

-- ---- the order of tracks

-- the law of it that is rested on
abbrev pub TracksAreById : Type 0
TracksAreById = (mine : List ℕ) (past : List Moment) (answers : List Answer) (standing : Standing) → (s : Stands recorded mine past answers standing) → AreById s.run.standing.tracks

-- tracks of the same subscriptions stand as these do
pub map_by_id : (f : Track → Track) → ((t : Track) → (f t).feed.sub ≡ t.feed.sub) → (tracks : List Track) → AreById tracks → AreById (map f tracks)
map_by_id f same [] by_id = tt
map_by_id f same (t ∷ tracks) by_id = (
  all_map (λ (later : Track). t.feed.sub ≤ later.feed.sub) (λ (later : Track). (f t).feed.sub ≤ later.feed.sub) f tracks (λ later le. subst (λ (k : ℕ). k ≤ (f later).feed.sub) (sym (same t)) (subst (λ (k : ℕ). t.feed.sub ≤ k) (sym (same later)) le)) by_id.0,
  map_by_id f same tracks by_id.1,
)

-- the tracks of an idle roster
pub idle_by_id : TracksAreById → (nodes : List SchemaNode) (state : JournalState) (mine : List ℕ) (past : List Moment) (answers : List Answer) (slots : List Slot) (idle : IsIdleAt nodes state mine past answers slots) → AreById idle.tracks
idle_by_id law nodes state mine past answers slots idle =
    let s = idle.stands in
    subst AreById (sym s.tracks ∙ idle.looked)
    (map_by_id (rebased recorded s.run.standing.position s.run.standing.stamp) (λ t. refl) s.run.standing.tracks (law mine past answers (standing_at state idle.tracks) s))

control_sub : (f : FeedState) (n : ℕ) (b : Bool) → (if b then f else restarted f n).sub ≡ f.sub
control_sub f n true = refl
control_sub f n false = refl

rules_sub : (n : ℕ) (m : Moment) (t : Track) → (after_rules n m t).feed.sub ≡ t.feed.sub
rules_sub n m t = by (m.rules t.feed.receiver)
  where
    by : (b : Bool) → (if b then with_control n m.stamp Rules t else t).feed.sub ≡ t.feed.sub
    by true = control_sub t.feed n t.feed.owed.terminated
    by false = refl

freeze_sub : (f : FeedState) (r : ℕ) → (after_freeze f r).sub ≡ f.sub
freeze_sub f r = by (freezes f r)
  where
    by : (b : Bool) → (if b then frozen f else f).sub ≡ f.sub
    by true = refl
    by false = refl

-- ---- tracks after an entry

next_position : (nodes : List SchemaNode) (before : JournalState) (command : Command) → (next_state nodes before command).position ≡ before.position + 1
next_position nodes before (Tick tick) = refl
next_position nodes before (Edit patch) = refl
next_position nodes before (Policies policy) = refl
next_position nodes before (Establish by ask) = refl
next_position nodes before (Modify by id amend) = refl
next_position nodes before (Delete by id) = refl
next_position nodes before (Kill by id) = refl
next_position nodes before (Resync by id) = refl
next_position nodes before (Configure id names ask) = refl
next_position nodes before (Reconfigure id amend) = refl
next_position nodes before (Unconfigure id) = refl
next_position nodes before (Take receiver count) = refl

-- the tracks of a worker after an entry that does so
abbrev tracks_by : Moment → ℕ → List ℕ → Act → List Track → List Track
tracks_by m n mine act tracks = with_started m n act mine (map (after_moment recorded m n) (filter (is_kept_by act) tracks))

-- an entry keeps the subscription of a track
pub entered_sub : (e : Entered) (before : JournalState) (t : Track) → (entered_track e before t).feed.sub ≡ t.feed.sub
entered_sub e before t =
    let after : JournalState = e.present.state.now in
    let next : Track = with_next e.present.schema.now after t in
    rules_sub after.position (entered_moment e before) (after_act after.position after.stamp (entered_moment e before).act next) ∙ (act_same after.position after.stamp (entered_moment e before).act next).0

module _ (once : RecordsAreSetAsideOnce) (e : Entered) (before : JournalState) where
  abbrev tried : Track → Track
  tried t = after_moment recorded (entered_moment e before) e.present.state.now.position t

  tried_sub : (t : Track) → (tried t).feed.sub ≡ (entered_track e before t).feed.sub
  tried_sub t = freeze_sub (entered_track e before t).feed (roots_in recorded (entered_track e before t))

  ready_all : (tracks : List Track) → map (ready_at e.present.state.now) (map (entered_track e before) tracks) ≡ map (ready_at e.present.state.now) (map tried tracks)
  ready_all [] = refl
  ready_all (track ∷ tracks) = λ i. sym (ready_again once e.present.state.now (entered_track e before track)) i ∷ ready_all tracks i

  -- also of those that a test of their subscriptions picks
  ready_picked : (p : ℕ → Bool) (tracks : List Track) → map (ready_at e.present.state.now) (filter (λ t. p t.feed.sub) (map (entered_track e before) tracks)) ≡ map (ready_at e.present.state.now) (filter (λ t. p t.feed.sub) (map tried tracks))
  ready_picked p [] = refl
  ready_picked p (track ∷ tracks) =
      let f = entered_track e before track in
      let g = tried track in
      let rest = map tried tracks in
      by (p f.feed.sub) (ready_picked p tracks)
      ∙ ap (λ (k : ℕ). map (ready_at e.present.state.now) (if p k then g ∷ filter (λ t. p t.feed.sub) rest else filter (λ t. p t.feed.sub) rest)) (sym (tried_sub track))
    where
      by : (b : Bool) → map (ready_at e.present.state.now) (filter (λ t. p t.feed.sub) (map (entered_track e before) tracks)) ≡ map (ready_at e.present.state.now) (filter (λ t. p t.feed.sub) (map tried tracks))
          → map (ready_at e.present.state.now) (if b then entered_track e before track ∷ filter (λ t. p t.feed.sub) (map (entered_track e before) tracks) else filter (λ t. p t.feed.sub) (map (entered_track e before) tracks))
          ≡ map (ready_at e.present.state.now) (if b then tried track ∷ filter (λ t. p t.feed.sub) (map tried tracks) else filter (λ t. p t.feed.sub) (map tried tracks))
      by true same = λ i. sym (ready_again once e.present.state.now (entered_track e before track)) i ∷ same i
      by false same = same

  module _ (laws : LooksChangeNothing) (entered : IsEntered e before) (mine : List ℕ) (past : List Moment) (answers : List Answer) (slots : List Slot) (idle : IsIdleAt e.present.schema.now before mine past answers slots)
      (taken : Stands recorded mine (past ++ entered_moment e before ∷ []) answers (takes recorded mine (entered_moment e before) (standing_at before idle.tracks))) where
    further : before.position + 1 ≡ e.present.state.now.position
    further = sym (next_position e.present.schema.now before e.entry.now.command) ∙ ap (λ (s : JournalState). s.position) (sym entered.after)

    stands_with : (act : Act) → (entered_moment e before).act ≡ act → Stands recorded mine (past ++ entered_moment e before ∷ []) answers (standing_at e.present.state.now (tracks_by (entered_moment e before) e.present.state.now.position mine act idle.tracks))
    stands_with act is = subst (λ (s : Standing). Stands recorded mine (past ++ entered_moment e before ∷ []) answers s)
        (λ i. record { position = further i; stamp = e.present.state.now.stamp; tracks = tracks_by (entered_moment e before) (further i) mine (is i) (idle.looked i) }) taken

    -- an entry by which no subscription starts
    pub entered_alone : (act : Act) → (entered_moment e before).act ≡ act → ((m : Moment) (n : ℕ) (receivers : List ℕ) (tracks : List Track) → with_started m n act receivers tracks ≡ tracks)
        → (new : List Slot) → AreSlotsOf e.present.schema.now e.present.state.now new (map (entered_track e before) (filter (is_kept_by act) idle.tracks)) → IsRosterAt e.present.schema.now e.present.state.now mine (past ++ entered_moment e before ∷ []) answers new
    entered_alone act is alone new are =
        let m = entered_moment e before in
        let n = e.present.state.now.position in
        let kept = filter (is_kept_by act) idle.tracks in
        record {
          tracks = map (entered_track e before) kept;
          stands = laws.looks recorded mine (past ++ m ∷ []) answers (standing_at e.present.state.now (tracks_by m n mine act idle.tracks)) (map (entered_track e before) kept)
              (ready_all kept ∙ ap (map (ready_at e.present.state.now)) (sym (alone m n mine (map tried kept)))) (stands_with act is);
          kept = are;
        }

    -- an entry by which a subscription starts
    pub entered_starting : (act : Act) (terms : Terms) → (entered_moment e before).act ≡ act → act ≡ Starts terms.id terms.trigger terms.configured (names_of terms) → (new : List Slot)
        → AreSlotsOf e.present.schema.now e.present.state.now new (with_tracks terms.id (new_tracks (entered_moment e before) e.present.state.now.position terms mine) (map (entered_track e before) (filter (is_kept_by act) idle.tracks)))
        → IsRosterAt e.present.schema.now e.present.state.now mine (past ++ entered_moment e before ∷ []) answers new
    entered_starting act terms is starts new are =
        let m = entered_moment e before in
        let n = e.present.state.now.position in
        let id = terms.id in
        let kept = filter (is_kept_by act) idle.tracks in
        let started = new_tracks m n terms mine in
        let ready : Track → Track = ready_at e.present.state.now in
        let ones = map (entered_track e before) kept in
        let others = map tried kept in
        let low = ready_picked (λ (k : ℕ). nat_lt k id) kept in
        let high = ready_picked (λ (k : ℕ). not (nat_lt k id)) kept in
        let below : List Track → List Track = λ ts. filter (λ (t : Track). nat_lt t.feed.sub id) ts in
        let above : List Track → List Track = λ ts. filter (λ (t : Track). not (nat_lt t.feed.sub id)) ts in
        let same : map ready (with_tracks id started ones) ≡ map ready (with_tracks id started others) =
        map-append ready (below ones) (started ++ above ones)
        ∙ (λ i. low i ++ (map-append ready started (above ones) ∙ (λ j. map ready started ++ high j) ∙ sym (map-append ready started (above others))) i)
        ∙ sym (map-append ready (below others) (started ++ above others)) in
        record {
          tracks = with_tracks id started ones;
          stands = laws.looks recorded mine (past ++ m ∷ []) answers (standing_at e.present.state.now (tracks_by m n mine act idle.tracks)) (with_tracks id started ones)
              (same ∙ ap (λ (a : Act). map ready (with_started m n a mine others)) (sym starts)) (stands_with act is);
          kept = are;
        }
