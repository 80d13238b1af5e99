-- Rows in order, with one put among them.
use Rattle.std.proofs.Common.{◌≡◌, List, true, false, refl, sym, ap, subst, ◌∙◌, cond}
use Rattle.std.specs.Prelude.{Some, is_some}
use Rattle.std.specs.Ordering.{is_eq}
use Rattle.std.specs.declared.cmp.Ordering.TheVariants.{Less, Equal, Greater}
use Rattle.std.proofs.lemmas.Cmp.{tied_itself}
use Rattle.yp_base.specs.declared.path.Seg.{Seg}
use Rattle.yp_base.specs.declared.row.Value.{Value}
use Rattle.yp_base.specs.declared.row.Row.{Row}
use Rattle.yp_base.specs.Order.{path_cmp}
use Rattle.yp_base.specs.OrderLaws.{paths_total}
use Rattle.yp_base.specs.Rows.{value_at, put_row}
use Rattle.yp_base.specs.Exact.{paths_exact}
use Rattle.yp_schema.specs.Datastore.{has_row}
use Rattle.yp_base.specs.RowLaws.{value_at_put}

-- the new row is there
pub put_there : (path : List Seg) (value : Value) (rows : List Row) → value_at path (put_row (record { path = path; value = value }) rows) ≡ Some value
put_there path value rows = value_at_put path (record { path = path; value = value }) rows ∙ ap (λ o. cond (is_eq o) (Some value) (value_at path rows)) (tied_itself paths_total path)

-- and each other row is as before
pub put_elsewhere : (other path : List Seg) (value : Value) (rows : List Row) → is_eq (path_cmp other path) ≡ false → value_at other (put_row (record { path = path; value = value }) rows) ≡ value_at other rows
put_elsewhere other path value rows h = value_at_put other (record { path = path; value = value }) rows ∙ ap (λ b. cond b (Some value) (value_at other rows)) h

-- whether two paths are one
pub same_or_apart : {A : Type 0} (one other : List Seg) → (one ≡ other → A) → (is_eq (path_cmp one other) ≡ false → A) → A
same_or_apart {A} one other same apart =
    elim (path_cmp one other) as (λ o. path_cmp one other ≡ o → A) [
      | Less ↦ λ e. apart (ap is_eq e)
      | Equal ↦ λ e. same (paths_exact one other e)
      | Greater ↦ λ e. apart (ap is_eq e)
    ] refl

-- what has a row keeps one
pub put_keeps : (other path : List Seg) (value : Value) (rows : List Row) → has_row other rows ≡ true → has_row other (put_row (record { path = path; value = value }) rows) ≡ true
put_keeps other path value rows h =
    same_or_apart other path
    (λ e. subst (λ (p : List Seg). has_row p (put_row (record { path = path; value = value }) rows) ≡ true) (sym e) (ap is_some (put_there path value rows)))
    (λ e. ap is_some (put_elsewhere other path value rows e) ∙ h)
