use Rattle.serde_json.specs.View.{view}
use Rattle.yp_data_json.proofs.Wholes.{read_whole}
use Rattle.yp_data_json.proofs.at_path.read_rows.Goals as goal

pub returns-clause-rows : goal.returns-clause-rows
returns-clause-rows c = read_whole c.args.schema.now c.args.at.now (view c.args.json.now) c.in_ok-rows.rows c.requires c.in_ok-rows.ensures
