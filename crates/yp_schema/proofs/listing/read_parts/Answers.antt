use Rattle.std.proofs.Common.{map}
use Rattle.serde_json.specs.View.{view}
use Rattle.yp_schema.proofs.Schemas.{read_schema}
use Rattle.yp_schema.proofs.listing.read_parts.Goals as goal

pub returns-clause-schema : goal.returns-clause-schema
returns-clause-schema c = read_schema (map view c.args.parts.now) c.take_parts.result c.take_parts.ensures
