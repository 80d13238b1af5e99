-- The record of a step, and of a window of steps: what differs between two selections of a datastore, as edits of the topmost paths (RFC 8641 sections 3.7 and 3.9).
use Rattle.std.specs.Prelude.{◌≡◌, List, [], ◌∷◌, map, filter, Bool, false, not, None, if◌then◌else◌}
use Rattle.std.specs.Ordering.{match_ordering}
use Rattle.yp_base.specs.declared.path.Seg.{Seg}
use Rattle.yp_base.specs.declared.row.Row.{Row}
use Rattle.yp_base.specs.declared.notice.Change.{Change}
use Rattle.yp_base.specs.declared.notice.ChangeKind.{ChangeKind}
use Rattle.yp_base.specs.declared.notice.ChangeKind.TheVariants as kinds
use Rattle.yp_base.specs.declared.notice.Kinds.{Kinds}
use Rattle.yp_base.specs.Order.{path_cmp}
use Rattle.yp_base.specs.Paths.{topmost}
use Rattle.yp_base.specs.Rows.{last_of, rows_within}
use Rattle.yp_schema.specs.Datastore.{has_row}
use Rattle.yp_changes.specs.Changes.{changed_rows}

-- the paths whose row is in just one of two selections, or in both with two values, in order
abbrev pub changed_paths : List Row → List Row → List (List Seg)
changed_paths old new = map (λ change. change.path) (changed_rows old new)

-- the edit of a path: it is deleted where it isn't selected any more, created where it wasn't before, and replaced otherwise
abbrev pub change_kind : List Row → List Row → List Seg → ChangeKind
change_kind old new path = if has_row path new then (if has_row path old then kinds.Replace else kinds.Create) else kinds.Delete

-- what an edit of a path carries: all that is selected at or below it, and nothing where it is deleted
abbrev pub carried_rows : List Row → List Seg → List Row
carried_rows new path = if has_row path new then rows_within path new else []

-- the edit of a path, whose row differs
abbrev pub change_at : List Row → List Row → List Seg → Change
change_at old new path = record { kind = change_kind old new path; target = path; rows = carried_rows new path; after = None }

-- the edits by which one selection becomes another
abbrev pub change_record : List Row → List Row → List Change
change_record old new = map (change_at old new) (topmost (changed_paths old new))

-- ---- windows: a first selection, and those that came after it

-- paths in order with one more, each once
abbrev pub put_path : List Seg → List (List Seg) → List (List Seg)
put_path new [] = new ∷ []
put_path new (path ∷ paths) = match_ordering (path_cmp new path) (new ∷ path ∷ paths) (path ∷ paths) (path ∷ put_path new paths)

-- paths in order with these, each once
abbrev pub put_paths : List (List Seg) → List (List Seg) → List (List Seg)
put_paths [] paths = paths
put_paths (new ∷ news) paths = put_paths news (put_path new paths)

-- some paths, with each that a step touched: at which a selection differs from the one before it
abbrev pub touched_paths : List (List Seg) → List Row → List (List Row) → List (List Seg)
touched_paths paths selected [] = paths
touched_paths paths selected (next ∷ later) = touched_paths (put_paths (changed_paths selected next) paths) next later

-- whether a kind of edits is excluded
abbrev pub is_excluded : Kinds → ChangeKind → Bool
is_excluded excluded kinds.Create = excluded.create
is_excluded excluded kinds.Delete = excluded.delete
is_excluded excluded kinds.Insert = excluded.insert
is_excluded excluded kinds.Move = excluded.moved
is_excluded excluded kinds.Replace = excluded.replace

-- no kind of edits is excluded
abbrev pub HasNone : Kinds → Type 0
HasNone excluded = (kind : ChangeKind) → is_excluded excluded kind ≡ false

-- the edits whose kinds aren't excluded
abbrev pub told : Kinds → List Change → List Change
told excluded changes = filter (λ change. not (is_excluded excluded change.kind)) changes

-- the record of a window: the edits of the topmost of the paths that were touched in it, from its first selection to its last, without those of excluded kinds
abbrev pub window_record : Kinds → List Row → List (List Row) → List Change
window_record excluded first later = told excluded (map (change_at first (last_of first later)) (topmost (touched_paths [] first later)))
