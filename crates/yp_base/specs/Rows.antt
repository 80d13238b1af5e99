-- Lists of rows: a datastore is one, in the order of its paths, with no path twice (RFC 8342 section 4.1 has the notion of a datastore).
use Rattle.std.specs.Prelude.{List, [], ◌∷◌, map, filter, find, Bool, true, false, ◌||◌, Option, Some, None, ◌&&◌, not, if◌then◌else◌}
use Rattle.std.specs.Ordering.{is_lt, is_eq, eq_by_cmp, match_ordering}
use Rattle.std.specs.List.Sorted.{IsStrictlySortedBy}
use Rattle.yp_base.specs.declared.path.Seg.{Seg}
use Rattle.yp_base.specs.declared.row.Value.{Value}
use Rattle.yp_base.specs.declared.row.Value.TheVariants.{Atom as Plain, Member, Empty, Present}
use Rattle.yp_base.specs.declared.row.Row.{Row}
use Rattle.yp_base.specs.declared.notice.Change.{Change}
use Rattle.yp_base.specs.Order.{atom_cmp, path_cmp, is_within}

abbrev pub path_of : Row → List Seg
path_of row = row.path

-- a path and its value, as a row
abbrev pub row_of : List Seg × Value → Row
row_of entry = record { path = entry.0; value = entry.1 }

abbrev pub rows_of : List (List Seg × Value) → List Row
rows_of entries = map row_of entries

-- rows in the order of their paths, with no path twice
abbrev pub AreInOrder : List Row → Type 0
AreInOrder rows = IsStrictlySortedBy path_cmp (map path_of rows)

-- whether two values are one
abbrev pub same_value : Value → Value → Bool
same_value (Plain one) (Plain other) = eq_by_cmp atom_cmp one other
same_value Member Member = true
same_value Empty Empty = true
same_value Present Present = true
same_value one other = false

-- the value of the row that has this path
abbrev pub value_at : List Seg → List Row → Option Value
value_at path [] = None
value_at path (row ∷ rows) = if is_eq (path_cmp path row.path) then Some row.value else value_at path rows

-- the rows with one more, or with its value at the row that has its path
abbrev pub put_row : Row → List Row → List Row
put_row new [] = new ∷ []
put_row new (row ∷ rows) = match_ordering (path_cmp new.path row.path) (new ∷ row ∷ rows) (record row { value = new.value } ∷ rows) (row ∷ put_row new rows)

-- the rows with these, put one after another
abbrev pub put_rows : List Row → List Row → List Row
put_rows [] rows = rows
put_rows (new ∷ news) rows = put_rows news (put_row new rows)

-- the last of a list of rows and later ones
abbrev pub last_of : List Row → List (List Row) → List Row
last_of first [] = first
last_of first (next ∷ later) = last_of next later

-- the first row past one path that is at or below another
abbrev pub next_row : List Seg → List Seg → List Row → Option Row
next_row after under rows = find (λ row. is_lt (path_cmp after row.path) && is_within under row.path) rows

-- the rows at or below a path
abbrev pub rows_within : List Seg → List Row → List Row
rows_within path rows = filter (λ row. is_within path row.path) rows

-- the other rows
abbrev pub rows_without : List Seg → List Row → List Row
rows_without path rows = filter (λ row. not (is_within path row.path)) rows

-- whether a row is at or below a path
abbrev pub has_within : List Seg → List Row → Bool
has_within path [] = false
has_within path (row ∷ rows) = is_within path row.path || has_within path rows

-- the rows after changes: each takes away what is at or below its target, and puts its rows (RFC 8641 section 3.7)
abbrev pub changed_by : List Change → List Row → List Row
changed_by [] rows = rows
changed_by (change ∷ changes) rows = changed_by changes (put_rows change.rows (rows_without change.target rows))
