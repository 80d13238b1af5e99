use Rattle.std.proofs.Common.{[], refl, sym, append-nil}
use Rattle.yp_takers.proofs.Takers.{taken_on}
use Rattle.yp_takers.proofs.taker.take_on.Goals as goal

pub loop-init : goal.loop-init
loop-init g c = record { receiver = refl; worker = refl; queue = refl; kept = c.requires.kept; more = []; took = sym (append-nil c.args.job.now.taken.items); heard = λ _. refl }

pub loop-preserved-in-Ok-true : goal.loop-preserved-in-Ok-true
loop-preserved-in-Ok-true g c = taken_on c.args.schema.now c.args.job.now c.loop.job _ c.loop.invariant c.in-Ok-true.ensures

pub loop-preserved : goal.loop-preserved
loop-preserved g c = taken_on c.args.schema.now c.args.job.now c.loop.job _ c.loop.invariant c.in-Ok-false.ensures

pub returns-then-last : goal.returns-then-last
returns-then-last g c = taken_on c.args.schema.now c.args.job.now c.loop.job _ c.loop.invariant c.in-Ok-false.ensures

pub returns-in-Err : goal.returns-in-Err
returns-in-Err g c = taken_on c.args.schema.now c.args.job.now c.loop.job _ c.loop.invariant c.in-Err.ensures
