use Rattle.std.proofs.Common.{ap, sym, ◌∙◌, slice_get, map}
use Rattle.std.specs.Prelude.{is_some, option_map}
use Rattle.yp_base.specs.Rows.{path_of, next_row, has_within, rows_within}
use Rattle.yp_edit.specs.Bases.{Touched, untouched}
use Rattle.yp_edit.proofs.Walking.{next_told}
use Rattle.yp_edit.proofs.Touching.{listed_there, first_left, first_gone}
use Rattle.yp_edit.proofs.base.Base.finds_from.Goals as goal

pub returns-then-not-has : goal.returns-then-not-has
returns-then-not-has g c =
    let first = ap (λ (b : Touched). option_map path_of (slice_get (rows_within c.args.target.now b.rows) 0)) c.self.view_is ∙ c.requires in
    sym (first_left c.args.target.now c.args.first.now (map path_of c.self.inside.touched) c.self.inside.tree.now first
    (listed_there c.args.first.now c.self.inside.touched ∙ sym c.has.ensures ∙ c.if-not-has.true))
    ∙ ap (λ (b : Touched). has_within c.args.target.now (untouched b)) c.self.view_is

pub returns : goal.returns
returns g c =
    let first = ap (λ (b : Touched). option_map path_of (slice_get (rows_within c.args.target.now b.rows) 0)) c.self.view_is ∙ c.requires in
    c.is_some.ensures
    ∙ next_told _ c.next.result _ c.next.ensures
    ∙ ap (λ (b : Touched). is_some (next_row c.args.first.now c.args.target.now (untouched b))) (sym c.self.view_is)
    ∙ sym (first_gone c.args.target.now c.args.first.now (map path_of c.self.inside.touched) c.self.inside.tree.now c.self.invariant.0.in_order first
    (listed_there c.args.first.now c.self.inside.touched ∙ sym c.has.ensures ∙ c.if-not-has.false))
    ∙ ap (λ (b : Touched). has_within c.args.target.now (untouched b)) c.self.view_is
