-- What a value keeps by itself, or shares with its copies.
use Rattle.std.specs.Arc.{arc_value}
use Rattle.yp_base.specs.declared.held.Place.{Place}
use Rattle.yp_base.specs.declared.held.Place.TheVariants.{Own, Shared}

-- the value that is kept
abbrev pub held_value : {V : Type 0} → Place V → V
held_value (Own value) = value
held_value (Shared value) = arc_value value
