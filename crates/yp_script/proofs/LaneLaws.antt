-- A number of a lane and a command, put together.
use Rattle.std.proofs.Common.{◌≡◌, Ok, Err, refl}
use Rattle.yp_command.specs.Faults.{Said, said_map, together, both}

-- what two parts say together is said of both
pub together_is : {X Y Z : Type 0} (f : X → Y → Z) (said : Said X) (other : Said Y) → together f said other ≡ said_map (λ parts. f parts.0 parts.1) (both said other)
together_is f (Ok x) (Ok y) = refl
together_is f (Ok x) (Err kind) = refl
together_is f (Err kind) (Ok y) = refl
together_is f (Err kind) (Err other) = refl
