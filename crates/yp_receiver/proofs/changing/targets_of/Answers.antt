use Rattle.std.proofs.Common.{◌≡◌, List, Bor, sym, ◌∙◌, arith}
use Rattle.std.proofs.lemmas.Grind.{common_steps}
use Rattle.std.proofs.lemmas.List.Sorted.{list_any-IsPermutation}
use Rattle.yp_base.specs.declared.path.Seg.{Seg}
use Rattle.yp_base.specs.Order.{is_within}
use Rattle.yp_receiver.specs.Gone.{is_below_one, is_targeted}
use Rattle.yp_receiver.proofs.changing.targets_of.Goals as goal

pub returns : goal.returns
returns c =
    λ path.
    let all : is_below_one c.loop-change.targets.items path ≡ is_targeted c.args.changes.now path = grind (arith, common_steps, c.loop-change.invariant path) in
    sym (list_any-IsPermutation (λ (target : Bor (List Seg)). is_within target.now path) c.loop-change.targets.items c.sort.new.self.items c.in_ok-sort.ensures.permutation) ∙ all
