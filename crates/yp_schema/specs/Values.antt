-- The value that JSON is read as at a node, by the node's type (RFC 7951 section 6).
use Rattle.std.specs.Prelude.{Option, Some, None, option_and_then}
use Rattle.serde_json.specs.Data.{Data}
use Rattle.yp_base.specs.declared.atom.Atom.{Atom}
use Rattle.yp_base.specs.declared.leaf_type.LeafType.{LeafType}
use Rattle.yp_base.specs.declared.row.Value.{Value}
use Rattle.yp_base.specs.declared.row.Value.TheVariants.{Atom as Plain, Member, Empty, Present}
use Rattle.yp_value.specs.Json.{value_in}

-- the value that JSON is read as at a node of this type; a node without a type has none
abbrev pub typed_value : Option LeafType → Data → Option Value
typed_value None d = None
typed_value (Some ty) d = value_in ty d

-- the atom that a value is, if it is one
abbrev pub only_atom : Value → Option Atom
only_atom (Plain atom) = Some atom
only_atom Member = None
only_atom Empty = None
only_atom Present = None

-- the same where the value stands in a key or a leaf-list, which has atoms alone
abbrev pub typed_atom : Option LeafType → Data → Option Atom
typed_atom ty d = option_and_then only_atom (typed_value ty d)
