use Rattle.std.proofs.Common.{◌≡◌, ◌&&◌, [], ◌∷◌, List, sym, ap, ◌∙◌}
use Rattle.yp_base.specs.declared.notice.Change.{Change}
use Rattle.yp_base.specs.declared.row.Row.{Row}
use Rattle.yp_base.specs.Rows.{changed_by}
use Rattle.yp_receiver.specs.Gone.{AreGone, is_targeted, is_lost, without_paths}
use Rattle.yp_receiver.proofs.AtOnce.{all_at_once}
use Rattle.yp_receiver.proofs.changing.hear_several.Goals as goal

pub returns-clause-heard : goal.returns-clause-heard
returns-clause-heard g c =
    let first : Change = c.in-Some.first.now in
    let later : List Change = c.in-Some.later.now in
    let rows : List Row = c.args.tree.now in
    let whole : c.args.changes.now ≡ first ∷ later = c.in-Some.ensures.cases.0 in
    let made = c.in_ok-news.ensures.rows ∙ ap (λ (changes : List Change). changed_by changes []) whole in
    let news_is : c.new-layers.result.news ≡ c.in_ok-news.news = c.new-layers.ensures.news ∙ c.items.ensures in
    let are : AreGone later c.in_ok-news.news rows c.in_ok-gone.gone.items = λ path. c.in_ok-gone.ensures path ∙ (λ i. is_targeted later path && is_lost (news_is i) (c.new-layers.ensures.rows i) path) in
    c.take_out.ensures
    ∙ (λ i. without_paths (c.as_slice.ensures.value i) (c.in_ok-renew.ensures.rows i))
    ∙ all_at_once first later rows c.in_ok-news.news c.in_ok-gone.gone.items c.len-count.ensures.order made are
    ∙ ap (λ (changes : List Change). changed_by changes rows) (sym whole)
