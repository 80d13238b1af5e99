use Rattle.std.proofs.Common.{rules, sym, ap, ◌∙◌, ◌++◌, ◌+◌, List, drop, option_map}
use Rattle.yp_base.specs.declared.atom.Atom.{Atom}
use Rattle.yp_base.specs.Cuts.{cut}
use Rattle.yp_base.specs.Results.{same_answer}
use Rattle.yp_path.specs.Targets.{values_read}
use Rattle.yp_path.proofs.Values.{last_there, none_there, one_there}
use Rattle.yp_path.proofs.target.read_bare_values.Goals as goal

pub returns-in-None-2 : goal.returns-in-None-2
returns-in-None-2 c =
    none_there c.args.schema.now c.args.asked.now c.loop-node.node-index c.loop-node.rest.now c.loop-node.values.items _ c.loop-node-test.true c.loop-node.invariant.1
    c.in-Some.text.now c.in-Some.more.now c.in-Some.ensures (sym c.in-None-2.is ∙ c.in_ok-value-in-Some.ensures)

pub returns-in-None : goal.returns-in-None
returns-in-None c =
    same_answer c.read_last.result _ _
    (last_there c.args.schema.now c.args.asked.now c.loop-node.node-index c.loop-node.rest.now c.loop-node.values.items _ c.loop-node-test.true c.loop-node.invariant.1 c.in-None.ensures)
    c.read_last.ensures

pub loop-node-preserved : goal.loop-node-preserved
loop-node-preserved c = (
  search rules,
  ap (λ (l : List Atom). option_map (λ more. l ++ more) (values_read c.args.schema.now (drop (c.loop-node.node-index + 1) c.args.asked.now) (cut 44 c.in-Some.more.now))) c.in_ok-push-in-Some-2.ensures.items
      ∙ one_there c.args.schema.now c.args.asked.now c.loop-node.node-index c.loop-node.rest.now c.loop-node.values.items _ c.loop-node-test.true c.loop-node.invariant.1
      c.in-Some.text.now c.in-Some.more.now c.in-Some.ensures c.in-Some-2.value (sym c.in-Some-2.is ∙ c.in_ok-value-in-Some.ensures),
)
