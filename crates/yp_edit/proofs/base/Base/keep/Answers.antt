use Rattle.std.proofs.Common.{◌≡◌, ◌-◌, ◌||◌, List, Some, false, map, ap, sym, subst, refl, ◌∙◌}
use Rattle.std.specs.Prelude.{is_some}
use Rattle.std.specs.Ordering.{is_eq}
use Rattle.yp_base.specs.declared.row.Row.{Row}
use Rattle.yp_base.specs.declared.row.Value.{Value}
use Rattle.yp_base.specs.Order.{path_cmp}
use Rattle.yp_base.specs.Rows.{path_of, value_at}
use Rattle.yp_edit.specs.Bases.{Touched, left, Touches}
use Rattle.yp_changes.specs.Among.{is_listed}
use Rattle.yp_edit.proofs.Bases.{other_there}
use Rattle.yp_edit.proofs.Touching.{Holds, one_counted, one_more_path, one_more_row}
use Rattle.yp_edit.proofs.base.Base.keep.Goals as goal

pub overflow_sub-self : goal.overflow_sub-self
overflow_sub-self c =
    let rows = c.self.inside.tree.now in
    let paths = map path_of c.self.inside.touched in
    let unlisted : is_listed c.args.path.now paths ≡ false = ap (λ (b : Touched). is_listed c.args.path.now b.paths) c.self.view_is ∙ c.requires.untouched in
    let there : value_at c.args.path.now rows ≡ Some c.args.value.now = ap (λ (b : Touched). value_at c.args.path.now b.rows) c.self.view_is ∙ c.requires.there in
    one_counted c.args.path.now (left paths rows) c.self.inside.count c.self.invariant.0.counted (ap is_some (other_there c.args.path.now paths rows unlisted ∙ there))

pub invariant_of-self-2 : goal.invariant_of-self-2
invariant_of-self-2 c =
    let row : Row = record { path = c.in_ok-copy.field-0; value = c.in_ok-copy-2.field-0 } in
    let rows = c.self.inside.tree.now in
    let paths = map path_of c.self.inside.touched in
    let unlisted : is_listed row.path paths ≡ false = ap (λ p. is_listed p paths) c.in_ok-copy.ensures ∙ ap (λ (b : Touched). is_listed c.args.path.now b.paths) c.self.view_is ∙ c.requires.untouched in
    let there : value_at row.path rows ≡ Some row.value =
    ap (λ p. value_at p rows) c.in_ok-copy.ensures ∙ ap (λ (b : Touched). value_at c.args.path.now b.rows) c.self.view_is ∙ c.requires.there ∙ ap (λ (v : Value). Some v) (sym c.in_ok-copy-2.ensures) in
    subst (λ (some : List Row). Holds rows some c.self.inside.bare.keys (c.self.inside.count - 1) c.self.inside.swept c.self.inside.gap) (sym c.in_ok-put.ensures.rows)
    (one_more_row row rows c.self.inside.touched c.self.inside.bare.keys c.self.inside.count c.self.inside.swept c.self.inside.gap unlisted there c.self.invariant)

pub returns-clause-touched : goal.returns-clause-touched
returns-clause-touched c =
    let row : Row = record { path = c.in_ok-copy.field-0; value = c.in_ok-copy-2.field-0 } in
    subst (λ (b : Touched). Touches c.args.path.now b (record { rows = c.self.inside.tree.now; paths = map path_of c.put.new.self })) c.self.view_is (record {
      rows = refl;
      paths = λ q.
          ap (λ (some : List Row). is_listed q (map path_of some)) c.in_ok-put.ensures.rows
          ∙ one_more_path row c.self.inside.touched q
          ∙ ap (λ p. is_eq (path_cmp p q) || is_listed q (map path_of c.self.inside.touched)) c.in_ok-copy.ensures;
    })
