-- What feeds know of selections is lawful.
use Rattle.std.proofs.Common.{◌≡◌, ◌<◌, true, false, ◌||◌, List, [], length, map, refl, ap, ◌∙◌, arith}
use Rattle.std.proofs.lemmas.Bool.{not-true, or_parts}
use Rattle.std.proofs.lemmas.List.{length-map}
use Rattle.yp_base.specs.declared.path.Seg.{Seg}
use Rattle.yp_base.specs.declared.row.Row.{Row}
use Rattle.yp_base.specs.declared.notice.Change.{Change}
use Rattle.yp_base.specs.declared.notice.ChangeKind.TheVariants.{Create, Delete, Insert, Move, Replace}
use Rattle.yp_base.specs.declared.notice.Kinds.{Kinds}
use Rattle.yp_base.specs.Paths.{topmost}
use Rattle.yp_base.specs.Rows.{last_of}
use Rattle.yp_feed.specs.Machine.{excludes_none}
use Rattle.yp_changes.specs.Records.{touched_paths, change_at, HasNone, window_record}
use Rattle.yp_changes.specs.WindowLaws.{told_all}
use Rattle.yp_attempt.specs.Content.{IsLawful}
use Rattle.yp_moment.specs.Windows.{recorded}

-- where none is excluded, no kind of edits is
pub none_excluded : (excluded : Kinds) → excludes_none excluded ≡ true → HasNone excluded
none_excluded excluded none = by
  where
    all_parts : (excluded.create || (excluded.delete || (excluded.insert || (excluded.moved || excluded.replace)))) ≡ false
    all_parts = not-true (excluded.create || (excluded.delete || (excluded.insert || (excluded.moved || excluded.replace)))) none

    from_delete : (excluded.delete || (excluded.insert || (excluded.moved || excluded.replace))) ≡ false
    from_delete = (or_parts excluded.create (excluded.delete || (excluded.insert || (excluded.moved || excluded.replace))) all_parts).1

    from_insert : (excluded.insert || (excluded.moved || excluded.replace)) ≡ false
    from_insert = (or_parts excluded.delete (excluded.insert || (excluded.moved || excluded.replace)) from_delete).1

    from_moved : (excluded.moved || excluded.replace) ≡ false
    from_moved = (or_parts excluded.insert (excluded.moved || excluded.replace) from_insert).1

    by : HasNone excluded
    by Create = (or_parts excluded.create (excluded.delete || (excluded.insert || (excluded.moved || excluded.replace))) all_parts).0
    by Delete = (or_parts excluded.delete (excluded.insert || (excluded.moved || excluded.replace)) from_delete).0
    by Insert = (or_parts excluded.insert (excluded.moved || excluded.replace) from_insert).0
    by Move = (or_parts excluded.moved excluded.replace from_moved).0
    by Replace = (or_parts excluded.moved excluded.replace from_moved).1

-- a record then has an edit for each of the topmost places
counted : (excluded : Kinds) → HasNone excluded → (first : List Row) (later : List (List Row)) → length (window_record excluded first later) ≡ length (topmost (touched_paths [] first later))
counted excluded none first later =
    let places : List (List Seg) = topmost (touched_paths [] first later) in
    let change : List Seg → Change = change_at first (last_of first later) in
    ap (λ (changes : List Change). length changes) (told_all excluded (map change places) none) ∙ length-map places change

edits_where_places : (excluded : Kinds) → excludes_none excluded ≡ true → (first : List Row) (later : List (List Row)) → 0 < length (topmost (touched_paths [] first later)) → 0 < length (window_record excluded first later)
edits_where_places excluded none first later some = omega (arith, some, counted excluded (none_excluded excluded none) first later)

pub lawful : IsLawful recorded
lawful = record { still = λ first. refl; edited = edits_where_places }
