-- Where the keys of an entry lie.
use Rattle.std.specs.Prelude.{List, [], ◌∷◌}
use Rattle.std.specs.Arc.{arc_value}
use Rattle.yp_base.specs.declared.atom.Atom.{Atom}
use Rattle.yp_base.specs.declared.keys.Place.{Place}
use Rattle.yp_base.specs.declared.keys.Place.TheVariants.{Nowhere, One, Several}

-- the keys of a place
abbrev pub placed_keys : Place → List Atom
placed_keys Nowhere = []
placed_keys (One key) = key ∷ []
placed_keys (Several keys) = (arc_value keys).items
