use Rattle.std.proofs.Common.{All, take}
use Rattle.yp_published.specs.Histories.{Begins}
use Rattle.yp_published.specs.Reads.{Reading}
use Rattle.yp_log_share.proofs.close.each_begins.Given as goal

-- what the readers so far got begins the whole journal
abbrev pub invariant-loop-reader : goal.invariant-loop-reader
invariant-loop-reader g l = All (λ (reader : Reading). Begins reader.got l.whole) (take l.reader-index l.readers)
