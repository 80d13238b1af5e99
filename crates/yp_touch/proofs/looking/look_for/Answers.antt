use Rattle.std.proofs.Common.{◌++◌, ◌-◌, ◌∙◌, sym, ap, take, List}
use Rattle.std.proofs.lemmas.List.{length-map}
use Rattle.yp_base.specs.declared.path.Seg.{Seg}
use Rattle.yp_filter.specs.View.{filter_view}
use Rattle.yp_kept.specs.Selection.{selection}
use Rattle.yp_touch.specs.Looked.{roots_found}
use Rattle.yp_touch.proofs.Bounds.{looks_bound}
use Rattle.yp_touch.proofs.Finding.{below_of_schema, two_found, looked_rows}
use Rattle.yp_touch.proofs.Lasts.{above_take}
use Rattle.yp_touch.proofs.looking.look_for.Goals as goal

pub look_at_rows-requires-clause-rows : goal.look_at_rows-requires-clause-rows
look_at_rows-requires-clause-rows g c = below_of_schema c.args.sides.now.schema.now c.in_ok-above.above c.args.sides.now.before.now _ c.requires.old c.in_ok-old.ensures.rows

pub look_at_rows-requires-2-clause-rows : goal.look_at_rows-requires-2-clause-rows
look_at_rows-requires-2-clause-rows g c = below_of_schema c.args.sides.now.schema.now c.in_ok-above.above c.args.sides.now.after.now _ c.requires.new c.in_ok-new.ensures.rows

pub returns-clause-roots : goal.returns-clause-roots
returns-clause-roots g c =
    let sides = c.args.sides.now in
    let nodes = sides.schema.now in
    let asked = filter_view sides.filter.now in
    let may = g.R.Readable.may sides.readable.now nodes in
    let old = selection nodes asked may sides.before.now in
    let new = selection nodes asked may sides.after.now in
    let above = c.in_ok-above.ensures ∙ ap (λ n. take n c.args.row.now.path) (c.saturating_sub.ensures ∙ ap (λ n. n - 1) c.len.ensures) ∙ above_take c.args.row.now.path in
    two_found sides.roots.now old new _ _ _ _ _ c.in_ok-look_at_rows.ensures.roots c.in_ok-look_at_rows-2.ensures.roots
    ∙ ap (λ (paths : List (List Seg)). c.args.found.now.items ++ roots_found sides.roots.now old new paths)
    (looked_rows nodes asked sides.before.now sides.after.now c.args.row.now.path c.in_ok-above.above _ _ (sym c.is_compared.ensures ∙ c.if-not-is_compared.false) above c.in_ok-old.ensures.rows c.in_ok-new.ensures.rows)

pub returns-clause-visits : goal.returns-clause-visits
returns-clause-visits g c =
    let sides = c.args.sides.now in
    let above = c.in_ok-above.ensures ∙ ap (λ n. take n c.args.row.now.path) (c.saturating_sub.ensures ∙ ap (λ n. n - 1) c.len.ensures) ∙ above_take c.args.row.now.path in
    looks_bound sides.schema.now (filter_view sides.filter.now) sides.before.now sides.after.now c.args.row.now.path c.in_ok-above.above _ _ c.args.steps.now _ _ _ _ _ _ (sym c.is_compared.ensures ∙ c.if-not-is_compared.false) above
    c.in_ok-old.ensures.rows c.in_ok-new.ensures.rows (length-map c.in_ok-old.old.items _) (length-map c.in_ok-new.new.items _)
    c.in_ok-old.ensures.visits c.in_ok-look_at_rows.ensures.visits c.in_ok-new.ensures.visits c.in_ok-look_at_rows-2.ensures.visits
