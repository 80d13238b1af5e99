use Rattle.std.proofs.Common.{◌≡◌, take}
use Rattle.std.specs.Prelude.{option_copied}
use Rattle.yp_receiver.proofs.Gone.{AreSwept, AreLost}
use Rattle.yp_receiver.proofs.changing.Layers.gone.Given as goal

abbrev pub invariant-loop-target : goal.invariant-loop-target
invariant-loop-target g l = record {
  swept : AreSwept (take l.target-index l.target-items) (option_copied l.swept);
  lost : AreLost (take l.target-index l.target-items) l.fn.self.news l.fn.self.rows.now l.gone.items;
  same : l.self ≡ l.fn.self;
}
