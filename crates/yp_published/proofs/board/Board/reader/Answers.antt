use Rattle.yp_published.proofs.Views.{admits}
use Rattle.yp_published.proofs.board.Board.reader.Goals as goal

pub reader-requires : goal.reader-requires
reader-requires g c = admits
