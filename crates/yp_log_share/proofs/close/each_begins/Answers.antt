use Rattle.std.proofs.Common.{All, subst, arith}
use Rattle.std.proofs.lemmas.List.{take_all}
use Rattle.yp_published.specs.Histories.{Begins}
use Rattle.yp_log_share.proofs.close.each_begins.Goals as goal

pub returns : goal.returns
returns g c =
    subst (All (λ reader. Begins reader.got c.args.whole.now)) (take_all c.loop-reader.reader-index c.args.readers.now (omega (arith, c.loop-reader-test.false, c.loop-reader.auto.reader-index-end))) c.loop-reader.invariant
