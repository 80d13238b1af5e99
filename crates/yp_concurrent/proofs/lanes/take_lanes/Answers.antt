use Rattle.std.proofs.Common.{◌∙◌, sym}
use Rattle.yp_concurrent.proofs.Going.{none_taken}
use Rattle.yp_concurrent.proofs.lanes.take_lanes.Goals as goal

pub returns-then-len-eq0 : goal.returns-then-len-eq0
returns-then-len-eq0 g c = λ entries at.
    let s = c.args.setting.now in
    none_taken s.schema.now s.start.now s.receivers.now s.workers entries c.args.lanes c.args.standing (sym c.len.ensures ∙ c.if-len-eq0.true) at
