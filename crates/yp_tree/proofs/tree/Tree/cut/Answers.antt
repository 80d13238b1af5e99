use Rattle.std.proofs.Common.{arith, ◌≡◌, ap, sym, ◌∙◌, ◌++◌, ◌∷◌, [], length, List}
use Rattle.yp_base.specs.declared.row.Row.{Row}
use Rattle.yp_base.specs.Rows.{rows_within}
use Rattle.std.specs.Vec.Iter.{into_iter_items}
use Rattle.std.proofs.lemmas.List.{nil_from_length}
use Rattle.yp_tree.proofs.Cuts.{cutting_grows, always_there, others_are_all}
use Rattle.yp_tree.proofs.tree.Tree.cut.Goals as goal

pub loop-each-preserved-in-Continue-branch-3 : goal.loop-each-preserved-in-Continue-branch-3
loop-each-preserved-in-Continue-branch-3 c =
    let row : Row = c.in-Some-take_row.row in
    let whole : row ≡ record { path = c.in-Some.each; value = row.value } = λ i. record { path = c.in-Some-take_row.ensures.path i; value = row.value } in
    let first = c.loop-each.invariant.paths ∙ c.in-Some.ensures.steps.0 in
    let more = cutting_grows c.args.path.now c.in-Some.each c.args.self.now c.loop-each.self c.take_row.new.self c.loop-each.rows.items (into_iter_items c.next.new.self) row.value first c.loop-each.invariant.rows c.in-Some-take_row.ensures.value c.in-Some-take_row.ensures.rest in
    record {
      paths = more.paths;
      rows = ap (λ (rows : List Row). rows ++ rows_within c.args.path.now c.take_row.new.self) c.in_ok-push.ensures.items ∙ ap (λ (taken : Row). (c.loop-each.rows.items ++ taken ∷ []) ++ rows_within c.args.path.now c.take_row.new.self) whole ∙ more.rows;
      others = more.others ∙ c.loop-each.invariant.others;
      room = omega (arith, ap length c.in-Some.ensures.steps.0, c.loop-each.invariant.room, c.in_ok-push.ensures.len, c.in_ok-push.ensures.capacity);
    }

pub loop-each-preserved : goal.loop-each-preserved
loop-each-preserved c = absurd (always_there c.args.path.now c.in-Some.each c.loop-each.self (into_iter_items c.next.new.self) (c.loop-each.invariant.paths ∙ c.in-Some.ensures.steps.0) c.in_default.ensures.value)

pub returns-clause-rest : goal.returns-clause-rest
returns-clause-rest c = sym (others_are_all c.args.path.now c.loop-each.self (c.loop-each.invariant.paths ∙ nil_from_length _ (sym c.loop-each.each-iterator.rest.ok.0 ∙ c.in-None.ensures.steps.0))) ∙ c.loop-each.invariant.others
