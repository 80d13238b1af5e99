-- What the runs of a legal journal keep within bounds: ticks, positions, ids, and the edits of a record.
use Rattle.std.proofs.Common.{◌≡◌, ℕ, ◌+◌, ◌*◌, ◌<◌, ◌≤◌, ◌^◌, ◌==◌, List, [], ◌∷◌, ◌++◌, length, map, filter, Bool, true, false, cond, not, Less, Equal, Greater, Option, Some, None, IfSome, nat_lt, refl, sym, subst, arith, length-append}
use Rattle.std.proofs.lemmas.List.{length-map}
use Rattle.std.specs.List.{AllByRecursion, filter_map, cons_option, list_any}
use Rattle.std.specs.Ordering.{match_ordering}
use Rattle.yp_base.specs.declared.notice.Change.{Change}
use Rattle.yp_base.specs.declared.notice.Kinds.{Kinds}
use Rattle.yp_base.specs.declared.notice.Trigger.{Trigger}
use Rattle.yp_base.specs.declared.path.Seg.{Seg}
use Rattle.yp_base.specs.declared.row.Row.{Row}
use Rattle.yp_base.specs.Order.{path_cmp}
use Rattle.yp_base.specs.Paths.{is_above, topmost}
use Rattle.yp_base.specs.Rows.{path_of, put_row, put_rows, last_of}
use Rattle.yp_changes.specs.declared.changed.ChangedRow.{ChangedRow}
use Rattle.yp_changes.specs.Changes.{row_change, paths_of_both, changed_rows}
use Rattle.yp_changes.specs.Records.{changed_paths, change_at, put_path, put_paths, touched_paths, is_excluded, told, window_record}
use Rattle.yp_time.specs.Ticks.{tick_limit}
use Rattle.yp_feed.specs.declared.item.Control.{Control}
use Rattle.yp_feed.specs.declared.item.Control.TheVariants as controls
use Rattle.yp_feed.specs.declared.item.Item.{Item}
use Rattle.yp_feed.specs.declared.item.Item.TheVariants as items
use Rattle.yp_feed.specs.Machine.{FeedState, freezes, frozen, restarted, controlled, restarts, rebases, taken, suspends, suspended, counted, refused}
use Rattle.yp_attempt.specs.ListLaws.{all_append, all_before, all_rest, all_filter, all_map}
use Rattle.yp_attempt.specs.Tracks.{Frozen, Track, current, excluded_kinds, record_in, roots_in, Body, All, Edits, Marked, Notice, Made, made_frozen, item_made, Answer, Took, Full, Attempt, attempt, kept_if, with_feed, freeze_tried, moving, rebased, after_answer}
use Rattle.yp_attempt.specs.Moments.{Moment, Act, Quiet, Starts, Controls, Drops, with_selection, with_control, after_act, after_rules, after_moment, is_kept_by, new_track}
use Rattle.yp_attempt.specs.Runs.{Found, IsFirst, first_offer, unless_ended, with_started, Run, run_advanced, run_settled, Reaches, opened, advances, settles}
use Rattle.yp_moment.specs.Windows.{recorded}
use Rattle.yp_hearing.proofs.States.{FewRows, filter_few, ActFits, MomentFits}
use Rattle.yp_hearing.proofs.Windows.{last_holds}

-- ---- how many edits a record has

put_row_long : (new : Row) (rows : List Row) → length (put_row new rows) ≤ length rows + 1
put_row_long new [] = omega arith
put_row_long new (row ∷ rows) =
    let later : length (put_row new rows) ≤ length rows + 1 = put_row_long new rows in
    elim (path_cmp new.path row.path) as (λ o. length (match_ordering o (new ∷ row ∷ rows) (record row { value = new.value } ∷ rows) (row ∷ put_row new rows)) ≤ length (row ∷ rows) + 1) [
      | Less ↦ omega arith
      | Equal ↦ omega arith
      | Greater ↦ omega (arith, later)
    ]

put_rows_long : (news rows : List Row) → length (put_rows news rows) ≤ length news + length rows
put_rows_long [] rows = omega arith
put_rows_long (new ∷ news) rows =
    let one = put_row_long new rows in
    let rest = put_rows_long news (put_row new rows) in
    omega (arith, one, rest)

found_at : {X Y : Type 0} (f : X → Option Y) (x : X) (xs : List X) (o : Option Y) → length (filter_map f xs) ≤ length xs → length (cons_option o (filter_map f xs)) ≤ length (x ∷ xs)
found_at f x xs None h = omega (arith, h)
found_at f x xs (Some y) h = omega (arith, h)

found_few : {X Y : Type 0} (f : X → Option Y) (xs : List X) → length (filter_map f xs) ≤ length xs
found_few f [] = omega arith
found_few f (x ∷ xs) = found_at f x xs (f x) (found_few f xs)

changed_few : (old new : List Row) → length (changed_paths old new) ≤ length new + length old
changed_few old new =
    let one = put_rows_long new old in
    let two = found_few (row_change old new) (paths_of_both old new) in
    omega (arith, one, two, length-map (changed_rows old new) (λ (change : ChangedRow). change.path), length-map (put_rows new old) path_of)

put_path_long : (new : List Seg) (paths : List (List Seg)) → length (put_path new paths) ≤ length paths + 1
put_path_long new [] = omega arith
put_path_long new (path ∷ paths) =
    let later : length (put_path new paths) ≤ length paths + 1 = put_path_long new paths in
    elim (path_cmp new path) as (λ o. length (match_ordering o (new ∷ path ∷ paths) (path ∷ paths) (path ∷ put_path new paths)) ≤ length (path ∷ paths) + 1) [
      | Less ↦ omega arith
      | Equal ↦ omega arith
      | Greater ↦ omega (arith, later)
    ]

put_paths_long : (news paths : List (List Seg)) → length (put_paths news paths) ≤ length news + length paths
put_paths_long [] paths = omega arith
put_paths_long (new ∷ news) paths =
    let one = put_path_long new paths in
    let rest = put_paths_long news (put_path new paths) in
    omega (arith, one, rest)

touched_few : (later : List (List Row)) (first : List Row) (paths : List (List Seg)) → FewRows first → AllByRecursion FewRows later → length (touched_paths paths first later) ≤ length paths + 40000 * length later
touched_few [] first paths one rest = omega arith
touched_few (next ∷ later) first paths one rest =
    let changed = changed_few first next in
    let put = put_paths_long (changed_paths first next) paths in
    let more = touched_few later next (put_paths (changed_paths first next) paths) rest.0 rest.1 in
    omega (arith, changed, put, more, one, rest.0)

record_few : (kinds : Kinds) (first : List Row) (later : List (List Row)) → FewRows first → AllByRecursion FewRows later → length (window_record kinds first later) ≤ 40000 * length later
record_few kinds first later one rest =
    let touched = touched_paths [] first later in
    let changes = map (change_at first (last_of first later)) (topmost touched) in
    let few = touched_few later first [] one rest in
    let top : length (topmost touched) ≤ length touched = filter_few (λ path. not (list_any (λ above. is_above above path) touched)) touched in
    let kept : length (told kinds changes) ≤ length changes = filter_few (λ (change : Change). not (is_excluded kinds change.kind)) changes in
    omega (arith, few, top, kept, length-map (topmost touched) (change_at first (last_of first later)))

-- ---- tracks and attempts of a journal of so many entries

-- a record that was set aside
record FrozenFits (most : ℕ) (f : Frozen) : Type 0 where
  tick : f.tick ≤ tick_limit
  position : f.position ≤ most
  edits : length f.edits ≤ 40000 * most

abbrev pub BodyFits : ℕ → Body → Type 0
BodyFits most (All rows) = Unit {0}
BodyFits most (Edits edits) = length edits ≤ 40000 * most
BodyFits most (Marked edits) = length edits ≤ 40000 * most
BodyFits most (Notice item) = Unit {0}

-- what was made has a tick, a position of the journal, and so many edits at most
pub record MadeFits (most : ℕ) (made : Made) : Type 0 where
  pub tick : made.tick ≤ tick_limit
  pub position : made.position ≤ most
  pub body : BodyFits most made.body

-- an attempt is of an id of 32 bits
pub record AttemptFits (most : ℕ) (a : Attempt) : Type 0 where
  pub sub : a.sub < 2 ^ 32
  pub made : MadeFits most a.made

-- a track at a position: its window is no longer than the journal so far
record TrackFits (most n : ℕ) (track : Track) : Type 0 where
  sub : track.feed.sub < 2 ^ 32
  first : FewRows track.first
  later : AllByRecursion FewRows track.later
  few : length track.later ≤ n
  aside : IfSome track.frozen (FrozenFits most)

record RunFits (most : ℕ) (past : List Moment) (run : Run) : Type 0 where
  position : run.standing.position ≡ length past
  stamp : run.standing.stamp ≤ tick_limit
  tracks : AllByRecursion (TrackFits most run.standing.position) run.standing.tracks
  done : AllByRecursion (AttemptFits most) run.done

module _ (most : ℕ) where
  -- ---- what becomes of a track

  aside_if : (b : Bool) (o : Option Frozen) → IfSome o (FrozenFits most) → IfSome (kept_if b o) (FrozenFits most)
  aside_if true o h = h
  aside_if false o h = tt

  -- a feed that stays of its subscription, and a window that may begin anew
  fed : (n : ℕ) (track : Track) (feed : FeedState) (moved : Bool) → feed.sub ≡ track.feed.sub → TrackFits most n track → TrackFits most n (with_feed track feed moved)
  fed n track feed true same fits = record {
    sub = subst (λ id. id < 2 ^ 32) (sym same) fits.sub;
    first = last_holds FewRows track.later track.first fits.first fits.later;
    later = tt;
    few = omega arith;
    aside = aside_if feed.owed.incomplete track.frozen fits.aside;
  }
  fed n track feed false same fits = record {
    sub = subst (λ id. id < 2 ^ 32) (sym same) fits.sub;
    first = fits.first;
    later = fits.later;
    few = fits.few;
    aside = aside_if feed.owed.incomplete track.frozen fits.aside;
  }

  window_fits : (n : ℕ) (track : Track) → n ≤ most → TrackFits most n track → length (record_in recorded track) ≤ 40000 * most
  window_fits n track in_journal fits =
      let few = record_few (excluded_kinds track.feed.trigger) track.first track.later fits.first fits.later in
      omega (arith, few, fits.few, in_journal)

  freeze_sub : (f : FeedState) (b : Bool) → (cond b (frozen f) f).sub ≡ f.sub
  freeze_sub f true = refl
  freeze_sub f false = refl

  aside_or : (b : Bool) (o : Option Frozen) (new : Frozen) → FrozenFits most new → IfSome o (FrozenFits most) → IfSome (cond b (Some new) o) (FrozenFits most)
  aside_or true o new one h = one
  aside_or false o new one h = h

  froze : (n stamp : ℕ) (track : Track) → n ≤ most → stamp ≤ tick_limit → TrackFits most n track → TrackFits most n (freeze_tried recorded n stamp track)
  froze n stamp track in_journal early fits =
      let b = freezes track.feed (roots_in recorded track) in
      record {
        sub = subst (λ id. id < 2 ^ 32) (sym (freeze_sub track.feed b)) fits.sub;
        first = fits.first;
        later = fits.later;
        few = fits.few;
        aside = aside_or b track.frozen (record { from = track.feed.base; position = n; tick = stamp; edits = record_in recorded track }) (record { tick = early; position = in_journal; edits = window_fits n track in_journal fits }) fits.aside;
      }

  control_sub : (f : FeedState) (control : Control) (n stamp : ℕ) → (controlled f control n stamp).sub ≡ f.sub
  control_sub f (controls.Modify trigger notify) n stamp = refl
  control_sub f controls.Resync n stamp = refl
  control_sub f controls.Rules n stamp = at f.owed.terminated
    where
      at : (b : Bool) → (cond b f (restarted f n)).sub ≡ f.sub
      at true = refl
      at false = refl
  control_sub f controls.End n stamp = refl

  controlled_fits : (n m stamp : ℕ) (control : Control) (track : Track) → TrackFits most n track → TrackFits most n (with_control m stamp control track)
  controlled_fits n m stamp control track fits = fed n track (controlled track.feed control m stamp) (restarts track.feed control) (control_sub track.feed control m stamp) fits

  if_controlled : (b : Bool) (n : ℕ) (new track : Track) → TrackFits most n new → TrackFits most n track → TrackFits most n (cond b new track)
  if_controlled true n new track h k = h
  if_controlled false n new track h k = k

  acted : (n m stamp : ℕ) (act : Act) (track : Track) → TrackFits most n track → TrackFits most n (after_act m stamp act track)
  acted n m stamp Quiet track fits = fits
  acted n m stamp (Starts sub trigger configured names) track fits = fits
  acted n m stamp (Controls sub control) track fits = if_controlled (track.feed.sub == sub) n (with_control m stamp control track) track (controlled_fits n m stamp control track fits) fits
  acted n m stamp (Drops sub) track fits = fits

  ruled : (n at : ℕ) (m : Moment) (track : Track) → TrackFits most n track → TrackFits most n (after_rules at m track)
  ruled n at m track fits = if_controlled (m.rules track.feed.receiver) n (with_control at m.stamp controls.Rules track) track (controlled_fits n at m.stamp controls.Rules track fits) fits

  selected : (n : ℕ) (m : Moment) (track : Track) → MomentFits m → TrackFits most n track → TrackFits most (n + 1) (with_selection m track)
  selected n m track new fits =
      let one = m.selection track.feed.sub track.feed.receiver in
      record {
        sub = fits.sub;
        first = fits.first;
        later = all_append FewRows track.later (one ∷ []) fits.later (new.selection track.feed.sub track.feed.receiver, tt);
        few = omega (arith, length-append track.later (one ∷ []), fits.few);
        aside = fits.aside;
      }

  moved_on : (n : ℕ) (m : Moment) (track : Track) → n + 1 ≤ most → MomentFits m → TrackFits most n track → TrackFits most (n + 1) (after_moment recorded m (n + 1) track)
  moved_on n m track in_journal new fits =
      let one = with_selection m track in
      let two = after_act (n + 1) m.stamp m.act one in
      froze (n + 1) m.stamp (after_rules (n + 1) m two) in_journal new.stamp (ruled (n + 1) (n + 1) m two (acted (n + 1) (n + 1) m.stamp m.act one (selected n m track new fits)))

  rebased_at : (b : Bool) (n : ℕ) (track : Track) (feed : FeedState) → feed.sub ≡ track.feed.sub → TrackFits most n track
      → TrackFits most n (record track { feed = feed; first = cond b (current track) track.first; later = cond b [] track.later })
  rebased_at true n track feed same fits = record {
    sub = subst (λ id. id < 2 ^ 32) (sym same) fits.sub;
    first = last_holds FewRows track.later track.first fits.first fits.later;
    later = tt;
    few = omega arith;
    aside = fits.aside;
  }
  rebased_at false n track feed same fits = record { sub = subst (λ id. id < 2 ^ 32) (sym same) fits.sub; first = fits.first; later = fits.later; few = fits.few; aside = fits.aside }

  rebased_fits : (n stamp : ℕ) (track : Track) → TrackFits most n track → TrackFits most n (rebased recorded n stamp track)
  rebased_fits n stamp track fits = rebased_at (moving recorded stamp track) n track (rebased recorded n stamp track).feed refl fits

  new_fits : (m : Moment) (n sub : ℕ) (trigger : Trigger) (configured : Bool) (receiver : ℕ) → MomentFits m → sub < 2 ^ 32 → TrackFits most n (new_track m n sub trigger configured receiver)
  new_fits m n sub trigger configured receiver new low = record { sub = low; first = new.selection sub receiver; later = tt; few = omega arith; aside = tt }

  all_new : (m : Moment) (n sub : ℕ) (trigger : Trigger) (configured : Bool) (receivers : List ℕ) → MomentFits m → sub < 2 ^ 32 → AllByRecursion (TrackFits most n) (map (new_track m n sub trigger configured) receivers)
  all_new m n sub trigger configured [] new low = tt
  all_new m n sub trigger configured (receiver ∷ receivers) new low = (new_fits m n sub trigger configured receiver new low, all_new m n sub trigger configured receivers new low)

  started_fits : (m : Moment) (n : ℕ) (act : Act) (receivers : List ℕ) (tracks : List Track) → MomentFits m → ActFits act → AllByRecursion (TrackFits most n) tracks → AllByRecursion (TrackFits most n) (with_started m n act receivers tracks)
  started_fits m n Quiet receivers tracks new low all = all
  started_fits m n (Starts sub trigger configured names) receivers tracks new low all =
      let lower = filter (λ (track : Track). nat_lt track.feed.sub sub) tracks in
      let higher = filter (λ (track : Track). not (nat_lt track.feed.sub sub)) tracks in
      let made = map (new_track m n sub trigger configured) (filter names receivers) in
      all_append (TrackFits most n) lower (made ++ higher) (all_filter (TrackFits most n) (λ (track : Track). nat_lt track.feed.sub sub) tracks all)
      (all_append (TrackFits most n) made higher (all_new m n sub trigger configured (filter names receivers) new low) (all_filter (TrackFits most n) (λ (track : Track). not (nat_lt track.feed.sub sub)) tracks all))
  started_fits m n (Controls sub control) receivers tracks new low all = all
  started_fits m n (Drops sub) receivers tracks new low all = all

  -- ---- what is made, and what becomes of a track by the answer

  aside_made : (o : Option Frozen) (n stamp : ℕ) → n ≤ most → stamp ≤ tick_limit → IfSome o (FrozenFits most) → MadeFits most (made_frozen o n stamp)
  aside_made None n stamp in_journal early fits = record { tick = early; position = in_journal; body = tt }
  aside_made (Some f) n stamp in_journal early fits = record { tick = fits.tick; position = fits.position; body = fits.edits }

  made_fits : (n stamp : ℕ) (track : Track) (item : Item) → n ≤ most → stamp ≤ tick_limit → TrackFits most n track → MadeFits most (item_made recorded track item n stamp)
  made_fits n stamp track items.Started in_journal early fits = record { tick = early; position = in_journal; body = tt }
  made_fits n stamp track items.Modified in_journal early fits = record { tick = early; position = in_journal; body = tt }
  made_fits n stamp track items.Incomplete in_journal early fits = aside_made track.frozen n stamp in_journal early fits.aside
  made_fits n stamp track items.Suspended in_journal early fits = record { tick = early; position = in_journal; body = tt }
  made_fits n stamp track items.Resumed in_journal early fits = record { tick = early; position = in_journal; body = tt }
  made_fits n stamp track items.Sync in_journal early fits = record { tick = early; position = in_journal; body = tt }
  made_fits n stamp track items.Terminated in_journal early fits = record { tick = early; position = in_journal; body = tt }
  made_fits n stamp track items.Changes in_journal early fits = record { tick = early; position = in_journal; body = window_fits n track in_journal fits }
  made_fits n stamp track items.Periodic in_journal early fits = record { tick = early; position = in_journal; body = tt }

  count_sub : (f : FeedState) (b : Bool) → (cond b (suspended f) f).sub ≡ f.sub
  count_sub f true = refl
  count_sub f false = refl

  answered : (n stamp : ℕ) (track : Track) (item : Item) (answer : Answer) → n ≤ most → stamp ≤ tick_limit → TrackFits most n track → TrackFits most n (after_answer recorded n stamp track item answer)
  answered n stamp track item Took in_journal early fits = fed n track (taken track.feed item n stamp) (rebases track.feed item) refl fits
  answered n stamp track item Full in_journal early fits =
      let feed = counted track.feed item stamp in
      froze n stamp (with_feed track (refused track.feed item stamp) false) in_journal early (fed n track (refused track.feed item stamp) false (count_sub feed (suspends feed)) fits)

  if_ended : (b : Bool) (n : ℕ) (track : Track) → TrackFits most n track → AllByRecursion (TrackFits most n) (cond b [] (track ∷ []))
  if_ended true n track fits = tt
  if_ended false n track fits = (fits, tt)

  -- ---- runs

  -- the law that is rested on: what is found stands among the tracks
  abbrev pub OffersAreFound : Type 0
  OffersAreFound = (stamp : ℕ) (tracks : List Track) (found : Found) → first_offer recorded stamp tracks ≡ Some found → IsFirst recorded stamp tracks found

  settled_fits : (past : List Moment) (run : Run) (found : Found) (answer : Answer) → length past ≤ most → RunFits most past run → IsFirst recorded run.standing.stamp run.standing.tracks found → RunFits most past (run_settled recorded run found answer)
  settled_fits past run found answer in_journal fits first =
      let n = run.standing.position in
      let stamp = run.standing.stamp in
      let here : n ≤ most = omega (arith, fits.position, in_journal) in
      let all : AllByRecursion (TrackFits most n) (found.before ++ found.track ∷ found.after) = subst (AllByRecursion (TrackFits most n)) first.parts fits.tracks in
      let before = all_before (TrackFits most n) found.before (found.track ∷ found.after) all in
      let rest = all_rest (TrackFits most n) found.before (found.track ∷ found.after) all in
      let next = after_answer recorded n stamp found.track found.item answer in
      record {
        position = fits.position;
        stamp = fits.stamp;
        tracks = all_append (TrackFits most n) found.before (unless_ended next ++ found.after) before
            (all_append (TrackFits most n) (unless_ended next) found.after (if_ended next.feed.ended n next (answered n stamp found.track found.item answer here fits.stamp rest.0)) rest.1);
        done = all_append (AttemptFits most) run.done (attempt recorded n stamp found.track found.item answer ∷ []) fits.done
            (record { sub = rest.0.sub; made = made_fits n stamp found.track found.item here fits.stamp rest.0 }, tt);
      }

  advanced_fits : (receivers : List ℕ) (past : List Moment) (run : Run) (m : Moment) → length past + 1 ≤ most → MomentFits m → RunFits most past run → RunFits most (past ++ m ∷ []) (run_advanced recorded receivers m run)
  advanced_fits receivers past run m in_journal new fits =
      let n = run.standing.position in
      let here : n + 1 ≤ most = omega (arith, fits.position, in_journal) in
      let looked = map (rebased recorded n run.standing.stamp) run.standing.tracks in
      let kept = filter (is_kept_by m.act) looked in
      record {
        position = omega (arith, fits.position, length-append past (m ∷ []));
        stamp = new.stamp;
        tracks = started_fits m (n + 1) m.act receivers (map (after_moment recorded m (n + 1)) kept) new new.act
            (all_map (TrackFits most n) (TrackFits most (n + 1)) (after_moment recorded m (n + 1)) kept (λ track h. moved_on n m track here new h)
            (all_filter (TrackFits most n) (is_kept_by m.act) looked (all_map (TrackFits most n) (TrackFits most n) (rebased recorded n run.standing.stamp) run.standing.tracks (λ track h. rebased_fits n run.standing.stamp track h) fits.tracks)));
        done = fits.done;
      }

  run_fits : OffersAreFound → (receivers : List ℕ) (past : List Moment) (answers : List Answer) (run : Run) → Reaches recorded receivers past answers run → length past ≤ most → AllByRecursion MomentFits past → RunFits most past run
  run_fits finds receivers _ _ _ opened few all = record { position = refl; stamp = omega arith; tracks = tt; done = tt }
  run_fits finds receivers _ _ _ (advances before given from m reaches follows idle) few all =
      let long = length-append before (m ∷ []) in
      advanced_fits receivers before from m (omega (arith, long, few)) (all_rest MomentFits before (m ∷ []) all).0
      (run_fits finds receivers before given from reaches (omega (arith, long, few)) (all_before MomentFits before (m ∷ []) all))
  run_fits finds receivers _ _ _ (settles before given from found answer reaches offers) few all =
      settled_fits before from found answer few (run_fits finds receivers before given from reaches few all) (finds from.standing.stamp from.standing.tracks found offers)

  -- each attempt of a run of so many entries at most
  pub attempts_fit : OffersAreFound → (receivers : List ℕ) (past : List Moment) (answers : List Answer) (run : Run) → Reaches recorded receivers past answers run → length past ≤ most → AllByRecursion MomentFits past
      → AllByRecursion (AttemptFits most) run.done
  attempts_fit finds receivers past answers run reaches few all = (run_fits finds receivers past answers run reaches few all).done
