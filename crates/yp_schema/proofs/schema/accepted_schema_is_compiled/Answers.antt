use Rattle.yp_schema.proofs.Compiling.{accepted_compiles}
use Rattle.yp_schema.proofs.schema.accepted_schema_is_compiled.Goals as goal

pub returns : goal.returns
returns c = record { compiled = accepted_compiles }
