use Rattle.std.proofs.Common.{◌∙◌, ◌++◌, ℕ, List, ap, string_bytes}
use Rattle.yp_live.specs.declared.counted.Counted.{Counted}
use Rattle.yp_live.specs.declared.counted.Counted.TheVariants.{FullUpdates, ChangeUpdates, Notices, FullQueues}
use Rattle.std.specs.Prelude.{codes, sum_by}
use Rattle.yp_live.specs.Counts.{count_desk}
use Rattle.yp_live.specs.Summary.{count_line}
use Rattle.yp_live.proofs.CountLaws.{added_four}
use Rattle.yp_live.proofs.summary.push_all_told.Goals as goal

pub returns : goal.returns
returns c =
    let line : List ℕ → Counted → List ℕ = λ name counted. count_line name (sum_by (count_desk counted) c.args.desks.now) in
    let a : List ℕ = line (codes "full-updates") FullUpdates in
    let b : List ℕ = line (codes "change-updates") ChangeUpdates in
    let d : List ℕ = line (codes "notices") Notices in
    let e : List ℕ = line (codes "fulls") FullQueues in
    let text : List ℕ = string_bytes c.args.text.now in
    c.in_ok-push_told-4.ensures
    ∙ (ap (λ (t : List ℕ). t ++ e) (c.in_ok-push_told-3.ensures ∙ ap (λ (t : List ℕ). t ++ d) (c.in_ok-push_told-2.ensures ∙ ap (λ (t : List ℕ). t ++ b) c.in_ok-push_told.ensures))
    ∙ added_four text a b d e)
