-- What a feed keeps, by what it owes.
use Rattle.std.proofs.Common.{◌≡◌, ℕ, refl, sym, subst, Bool, true, false, List, Option, Some, None}
use Rattle.std.specs.Prelude.{is_some}
use Rattle.std.specs.List.{AllByRecursion}
use Rattle.yp_base.specs.declared.row.Row.{Row}
use Rattle.yp_attempt.specs.Content.{Content}
use Rattle.yp_attempt.specs.ListLaws.{all_weaker}
use Rattle.yp_attempt.specs.Runs.{Run}
use Rattle.yp_attempt.specs.Tracks.{Frozen, Track}
use Rattle.yp_mirror.specs.Heard.{of_sub, told_by}
use Rattle.yp_mirror.specs.Keeping.{HasUpdateAtBase, IsSteadySinceBase, KeepsFromUpdate}
use Rattle.yp_mirror.specs.Links.{FrozenFits, IsRunOf, LinkedIn}
use Rattle.yp_mirror.specs.Stories.{Story}
use Rattle.yp_mirror.proofs.Promises.{RunsAreLinked, linked_run}

kept_fits : (c : Content) (story : Story) (sub n k : ℕ) (sync terminated : Bool) (rows : List Row) (last : Option ℕ) (incomplete : Bool) (frozen : Option Frozen) → FrozenFits c story sub n k sync terminated rows last incomplete frozen → is_some frozen ≡ incomplete
kept_fits c story sub n k sync terminated rows last true (Some frozen) fits = refl
kept_fits c story sub n k sync terminated rows last true None fits = absurd fits
kept_fits c story sub n k sync terminated rows last false (Some frozen) fits = absurd fits
kept_fits c story sub n k sync terminated rows last false None fits = refl

begins_fits : (c : Content) (story : Story) (sub n k : ℕ) (sync terminated : Bool) (rows : List Row) (last : Option ℕ) (incomplete : Bool) (frozen : Frozen) → FrozenFits c story sub n k sync terminated rows last incomplete (Some frozen) → story.mirrored sub ≡ true → last ≡ Some frozen.from
begins_fits c story sub n k sync terminated rows last true frozen fits mirrored = fits.from mirrored
begins_fits c story sub n k sync terminated rows last false frozen fits mirrored = absurd fits

module _ (laws : RunsAreLinked) (c : Content) (story : Story) (receiver : ℕ) (run : Run) (of : IsRunOf c story receiver run) where
  abbrev IsLinked : Track → Type 0
  IsLinked track = LinkedIn c story receiver run.standing.position run.standing.stamp run.done track

  linked : AllByRecursion IsLinked run.standing.tracks
  linked = (linked_run laws c story receiver run of).linked

  pub all_kept : AllByRecursion (λ track. is_some track.frozen ≡ track.feed.owed.incomplete) run.standing.tracks
  all_kept =
      all_weaker IsLinked (λ (track : Track). is_some track.frozen ≡ track.feed.owed.incomplete) run.standing.tracks
      (λ track h.
      kept_fits c story track.feed.sub run.standing.position run.standing.position track.feed.owed.sync track.feed.owed.terminated (told_by c (of_sub track.feed.sub run.done)).rows (told_by c (of_sub track.feed.sub run.done)).last track.feed.owed.incomplete track.frozen h.frozen)
      linked

  pub all_steady : AllByRecursion (IsSteadySinceBase story run.standing.position) run.standing.tracks
  all_steady = all_weaker IsLinked (IsSteadySinceBase story run.standing.position) run.standing.tracks (λ track h. h.steady) linked

  pub all_updated : AllByRecursion (HasUpdateAtBase c story run.done) run.standing.tracks
  all_updated = all_weaker IsLinked (HasUpdateAtBase c story run.done) run.standing.tracks (λ track h. h.last) linked

  pub all_begun : AllByRecursion (KeepsFromUpdate c story run.done) run.standing.tracks
  all_begun =
      all_weaker IsLinked (KeepsFromUpdate c story run.done) run.standing.tracks
      (λ track h frozen is mirrored.
      begins_fits c story track.feed.sub run.standing.position run.standing.position track.feed.owed.sync track.feed.owed.terminated (told_by c (of_sub track.feed.sub run.done)).rows (told_by c (of_sub track.feed.sub run.done)).last track.feed.owed.incomplete frozen
      (subst
      (λ (kept : Option Frozen).
      FrozenFits c story track.feed.sub run.standing.position run.standing.position track.feed.owed.sync track.feed.owed.terminated (told_by c (of_sub track.feed.sub run.done)).rows (told_by c (of_sub track.feed.sub run.done)).last track.feed.owed.incomplete kept)
      is h.frozen)
      mirrored)
      linked
