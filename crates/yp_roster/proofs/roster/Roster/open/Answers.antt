use Rattle.std.proofs.Common.{List, arith, sym, subst}
use Rattle.yp_slot.specs.declared.records.Told.{Told}
use Rattle.yp_slot.specs.Records.{AreTold}
use Rattle.yp_roster.proofs.Classed.{none_classed}
use Rattle.yp_roster.proofs.Quiet.{quiet_none}
use Rattle.yp_roster.proofs.roster.Roster.open.Goals as goal

pub returns-clause-classed : goal.returns-clause-classed
returns-clause-classed c = λ nodes state. record {
  classes = none_classed nodes state c.new-2.result.items c.new.result.items c.new-2.ensures.items c.new.ensures.items;
  told = subst (λ (those : List Told). AreTold nodes state c.new-2.result.items those) (sym c.new-3.ensures.items) tt;
  within = omega arith;
  quiet = quiet_none state c.new.result.items;
}
