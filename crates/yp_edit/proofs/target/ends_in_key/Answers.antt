use Rattle.std.proofs.Common.{sym}
use Rattle.yp_edit.proofs.Ends.{end_within}
use Rattle.yp_edit.proofs.target.ends_in_key.Goals as goal

pub is_key-requires : goal.is_key-requires
is_key-requires c = end_within c.args.schema.now c.args.path.now c.in-Some.node c.requires (sym c.in-Some.ensures)
