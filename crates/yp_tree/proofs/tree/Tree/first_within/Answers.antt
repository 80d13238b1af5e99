use Rattle.std.proofs.Common.{ap, sym, ◌∙◌, cond, Some, None}
use Rattle.std.specs.Prelude.{is_some}
use Rattle.yp_base.specs.Rows.{row_of}
use Rattle.yp_tree.proofs.Nexts.{first_row}
use Rattle.yp_tree.proofs.Cuts.{first_from_range, there_where_first}
use Rattle.yp_tree.proofs.tree.Tree.first_within.Goals as goal

pub returns-then-is_prefix-clause-found : goal.returns-then-is_prefix-clause-found
returns-then-is_prefix-clause-found g c =
    sym (ap (λ b. cond b (Some (row_of (c.in-Some.row.0.now, c.in-Some.row.1.now))) None) (sym c.if-is_prefix.ensures.value))
    ∙ sym (ap (first_row c.args.under.now) c.in-Some.ensures.steps)
    ∙ first_from_range c.args.under.now c.self.inside.kept.entries _ _ c.self.invariant c.self.view_is (c.range-rows.ensures.between tt)

pub returns-then-is_prefix-clause-there : goal.returns-then-is_prefix-clause-there
returns-then-is_prefix-clause-there g c = ap is_some (returns-then-is_prefix-clause-found g c) ∙ there_where_first c.args.under.now c.args.self.now

pub returns-else-is_prefix-clause-found : goal.returns-else-is_prefix-clause-found
returns-else-is_prefix-clause-found g c =
    sym (ap (λ b. cond b (Some (row_of (c.in-Some.row.0.now, c.in-Some.row.1.now))) None) (sym c.if-is_prefix.ensures.value))
    ∙ sym (ap (first_row c.args.under.now) c.in-Some.ensures.steps)
    ∙ first_from_range c.args.under.now c.self.inside.kept.entries _ _ c.self.invariant c.self.view_is (c.range-rows.ensures.between tt)

pub returns-else-is_prefix-clause-there : goal.returns-else-is_prefix-clause-there
returns-else-is_prefix-clause-there g c = ap is_some (returns-else-is_prefix-clause-found g c) ∙ there_where_first c.args.under.now c.args.self.now

pub returns-in-None-clause-found : goal.returns-in-None-clause-found
returns-in-None-clause-found g c =
    sym (ap (first_row c.args.under.now) c.in-None.ensures.steps.0)
    ∙ first_from_range c.args.under.now c.self.inside.kept.entries _ _ c.self.invariant c.self.view_is (c.range-rows.ensures.between tt)

pub returns-in-None-clause-there : goal.returns-in-None-clause-there
returns-in-None-clause-there g c = ap is_some (returns-in-None-clause-found g c) ∙ there_where_first c.args.under.now c.args.self.now
