use Rattle.std.proofs.Common.{◌≡◌, [], ◌∷◌, ◌++◌, true, sym, ap, ◌∙◌, append_assoc}
use Rattle.yp_data_json.specs.Runs.{goes_through}
use Rattle.yp_data_json.proofs.Parts.{all_both}
use Rattle.yp_data_json.proofs.runs.split_run.Goals as goal

pub loop-first-preserved : goal.loop-first-preserved
loop-first-preserved c =
    let l = c.loop-first in
    let run = l.invariant.0 in
    let first = c.in-Some.first.now in (
      run ++ first ∷ [],
      l.invariant.1 ∙ ap (λ xs. run ++ xs) c.in-Some.ensures.cases.0 ∙ sym (append_assoc run (first ∷ []) c.in-Some.later.now),
      all_both (λ row. goes_through c.args.depth c.args.node row ≡ true) run (first ∷ []) l.invariant.2 (sym c.goes_through.ensures ∙ c.if-not-goes_through.false, tt),
    )
