use Rattle.yp_path.proofs.TargetParts.{read_exactly}
use Rattle.yp_path.proofs.laws.target_has_parts.Goals as goal

pub returns : goal.returns
returns c = read_exactly
