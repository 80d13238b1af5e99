-- Rows in little room: each row that is no leaf right below the one before it, with the leaves right below it.
use Rattle.std.specs.Prelude.{ℕ, List, [], ◌∷◌, ◌++◌, map}
use Rattle.std.specs.List.{flat_map}
use Rattle.std.specs.String.{string_bytes}
use Rattle.yp_base.specs.declared.atom.Atom.TheVariants.{Bool as Truth, Int as Signed, Uint as Unsigned, Dec as Decimal, Text as Words}
use Rattle.yp_base.specs.declared.path.Seg.{Seg}
use Rattle.yp_base.specs.declared.row.Row.{Row}
use Rattle.yp_base.specs.declared.row.Value.{Value}
use Rattle.yp_base.specs.declared.row.Value.TheVariants.{Atom as Plain, Member as MemberValue, Empty as EmptyValue, Present as PresentValue}
use Rattle.yp_receiver.specs.declared.compact.CompactValue.{CompactValue}
use Rattle.yp_receiver.specs.declared.compact.CompactValue.TheVariants.{Bool, Int, Uint, Dec, Text, Member, Empty, Present}
use Rattle.yp_receiver.specs.declared.compact.CompactLeaf.{CompactLeaf}
use Rattle.yp_receiver.specs.declared.compact.CompactEntry.{CompactEntry}

-- the value that is kept
abbrev pub value_of : CompactValue → Value
value_of (Bool b) = Plain (Truth b)
value_of (Int n) = Plain (Signed n)
value_of (Uint n) = Plain (Unsigned n)
value_of (Dec places units) = Plain (Decimal places units)
value_of (Text text) = Plain (Words (string_bytes text))
value_of Member = MemberValue
value_of Empty = EmptyValue
value_of Present = PresentValue

-- the path of a node without keys, right below another
abbrev pub below : List Seg → ℕ → List Seg
below path node = path ++ record { node = node; keys = [] } ∷ []

-- the row of a leaf right below a path
abbrev pub leaf_row : List Seg → CompactLeaf → Row
leaf_row path leaf = record { path = below path leaf.node; value = value_of leaf.value }

-- a row, and those of the leaves right below it
abbrev pub entry_rows : CompactEntry → List Row
entry_rows entry = record { path = entry.path; value = value_of entry.value } ∷ map (leaf_row entry.path) entry.leaves.items

-- all rows that are kept, in order
abbrev pub compact_rows : List CompactEntry → List Row
compact_rows entries = flat_map entry_rows entries
