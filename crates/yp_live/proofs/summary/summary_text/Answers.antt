use Rattle.std.proofs.Common.{◌∙◌, ◌++◌, ℕ, List, length, ap, string_bytes}
use Rattle.std.specs.Prelude.{codes, count_by, sum_by}
use Rattle.yp_report.specs.declared.replied.Replied.{Replied}
use Rattle.yp_live.specs.Counts.{desk_rows, told_lines}
use Rattle.yp_live.specs.Summary.{count_line, is_refusal}
use Rattle.yp_live.proofs.CountLaws.{added_four}
use Rattle.yp_live.proofs.summary.summary_text.Goals as goal

pub returns : goal.returns
returns g c =
    let replies : List Replied = c.args.replies.now in
    let desks = c.args.desks.now in
    let a : List ℕ = count_line (codes "commands") (length replies) in
    let b : List ℕ = count_line (codes "refused") (count_by (λ (replied : Replied). is_refusal replied.reply) replies) in
    let t : List ℕ = told_lines desks in
    let r : List ℕ = count_line (codes "tree-rows") (sum_by desk_rows desks) in
    c.in_ok-push_str.ensures.bytes
    ∙ (ap (λ (text : List ℕ). text ++ codes "end\n")
    (c.in_ok-push_count-3.ensures
    ∙ (ap (λ (n : ℕ). string_bytes c.push_all_told.new.text ++ count_line (codes "tree-rows") n) c.in_ok-rows.ensures
    ∙ ap (λ (text : List ℕ). text ++ r)
    (c.in_ok-push_all_told.ensures
    ∙ ap (λ (text : List ℕ). text ++ t)
    (c.in_ok-push_count-2.ensures
    ∙ (ap (λ (n : ℕ). string_bytes c.push_count.new.text ++ count_line (codes "refused") n) c.in_ok-refused.ensures
    ∙ ap (λ (text : List ℕ). text ++ b) (c.in_ok-push_count.ensures ∙ ap (λ (text : List ℕ). text ++ a) c.new-text.ensures.bytes))))))
    ∙ added_four a b t r (codes "end\n"))
