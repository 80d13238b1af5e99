-- The rows that differ, told by those that are touched and those that are put.
use Rattle.std.proofs.Common.{◌≡◌, List, refl, sym, ap, ◌∙◌, true, false, true≢false, Option, Some, None}
use Rattle.std.specs.Option.{option_or}
use Rattle.std.specs.Prelude.{is_some, Result, Ok, Err, IfOk}
use Rattle.yp_base.specs.declared.path.Seg.{Seg}
use Rattle.yp_base.specs.declared.row.Value.{Value}
use Rattle.yp_base.specs.declared.row.Row.{Row}
use Rattle.yp_base.specs.Rows.{value_at, AreInOrder}
use Rattle.yp_base.specs.RowLaws.{or_none, value_at_puts}
use Rattle.yp_changes.specs.declared.changed.ChangedRow.{ChangedRow}
use Rattle.yp_edit.specs.Bases.{Touched, untouched, AreTouched}
use Rattle.yp_changes.specs.Among.{is_listed}
use Rattle.yp_edit.specs.Drafts.{drafted, IsDraft}
use Rattle.yp_changes.specs.ChangeLaws.{no_change, same_changes, changed_at, changed_sorted}
use Rattle.yp_changes.specs.Changes.{change_of, row_change, changed_rows}
use Rattle.yp_edit.proofs.Bases.{touched_gone, other_there}
use Rattle.yp_edit.proofs.Touching.{listed_there}

no_row : (value : Option Value) → is_some value ≡ false → value ≡ None
no_row None h = refl
no_row (Some value) h = absurd (true≢false h)

module _ (base : Touched) (taken put : List Row) (touched : AreTouched base taken) (draft : IsDraft base put) (put_order : AreInOrder put) where
  after : List Row
  after = (drafted base put).after

  is_listed_there : (q : List Seg) → is_listed q base.paths ≡ is_some (value_at q taken)
  is_listed_there q = ap (is_listed q) (sym touched.paths) ∙ listed_there q taken

  -- where no row is left, the row that is put is the one after
  told_put : (q : List Seg) → value_at q (untouched base) ≡ None → value_at q put ≡ value_at q after
  unfolding after
  told_put q none = sym (value_at_puts q put (untouched base) put_order ∙ ap (option_or (value_at q put)) none ∙ or_none (value_at q put))

  told_same : (q : List Seg) → value_at q taken ≡ value_at q base.rows → value_at q (untouched base) ≡ None → row_change taken put q ≡ row_change base.rows after q
  told_same q same none = λ i. change_of q (same i) (told_put q none i)

  told_other : (q : List Seg) → value_at q taken ≡ None → is_listed q base.paths ≡ false → row_change taken put q ≡ row_change base.rows after q
  unfolding after
  told_other q none unlisted =
      let there : value_at q (untouched base) ≡ value_at q base.rows = other_there q base.paths base.rows unlisted in
      elim (value_at q put) as (λ r. value_at q put ≡ r → row_change taken put q ≡ row_change base.rows after q) [
        | None ↦ λ is.
            let stays : value_at q after ≡ value_at q base.rows = value_at_puts q put (untouched base) put_order ∙ ap (λ (v : Option Value). option_or v (value_at q (untouched base))) is ∙ there in
            no_change q (value_at q taken) (value_at q put) (none ∙ sym is) ∙ sym (no_change q (value_at q base.rows) (value_at q after) (sym stays))
        | Some value ↦ λ is.
            let gone : value_at q (untouched base) ≡ None = draft.apart q (ap is_some is) in
            told_same q (none ∙ sym gone ∙ there) gone
      ] refl

  told_at : (q : List Seg) → row_change taken put q ≡ row_change base.rows after q
  told_at q =
      elim (is_some (value_at q taken)) as (λ b. is_some (value_at q taken) ≡ b → row_change taken put q ≡ row_change base.rows after q) [
        | true ↦ λ h. told_same q (touched.values q h) (touched_gone q base.paths base.rows (is_listed_there q ∙ h))
        | false ↦ λ h. told_other q (no_row (value_at q taken) h) (is_listed_there q ∙ h)
      ] refl

  -- what differs between the rows that are touched and those that are put differs before and after
  pub told_all : AreInOrder base.rows → changed_rows taken put ≡ changed_rows base.rows (drafted base put).after
  unfolding after
  told_all order =
      same_changes (changed_rows taken put) (changed_rows base.rows after) (changed_sorted taken put touched.in_order) (changed_sorted base.rows after order)
      (λ q. changed_at taken put q ∙ told_at q ∙ sym (changed_at base.rows after q))

pub all_told : {E : Type 0} (changed : Result (List ChangedRow) E) (told differ : List ChangedRow) → told ≡ differ → IfOk changed (λ changes. changes ≡ told) → IfOk changed (λ changes. changes ≡ differ)
all_told (Ok changes) told differ same is = is ∙ same
all_told (Err e) told differ same is = tt
