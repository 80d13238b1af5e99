-- What edits make of rows: the rows that they make of none, put over the rows that are at or below no target.
use Rattle.std.proofs.Common.{◌≡◌, List, [], ◌∷◌, refl, sym, ap, subst, ◌∙◌, cond, Bool, true, false, not, ◌||◌, ◌&&◌, Option, Some, None}
use Rattle.std.specs.Option.{option_or}
use Rattle.std.specs.Ordering.{is_eq}
use Rattle.std.specs.Prelude.{is_some}
use Rattle.yp_base.specs.declared.notice.Change.{Change}
use Rattle.yp_base.specs.declared.path.Seg.{Seg}
use Rattle.yp_base.specs.declared.row.Row.{Row}
use Rattle.yp_base.specs.declared.row.Value.{Value}
use Rattle.yp_base.specs.Order.{path_cmp, is_within}
use Rattle.yp_base.specs.Rows.{value_at, put_row, put_rows, rows_without, changed_by, AreInOrder}
use Rattle.yp_base.specs.RowLaws.{none_order, put_keeps_order, puts_order, without_keeps_order, picked-puts, value_at_put, value_at_puts, value_at_without}
use Rattle.yp_tree.specs.Alike.{same_rows}
use Rattle.yp_receiver.specs.Gone.{is_targeted, is_lost, AreGone, without_paths}
use Rattle.yp_receiver.proofs.Gone.{value_at_gone, gone_order}

-- ---- rows that are put over others

over : (here : Bool) (value : Value) (upper lower : Option Value) → cond here (Some value) (option_or upper lower) ≡ option_or (cond here (Some value) upper) lower
over true value upper lower = refl
over false value upper lower = refl

-- a row that is put over both is one of the upper ones
put_over : (new : Row) (upper lower : List Row) → AreInOrder upper → AreInOrder lower → put_row new (put_rows upper lower) ≡ put_rows (put_row new upper) lower
put_over new upper lower one two =
    same_rows (put_row new (put_rows upper lower)) (put_rows (put_row new upper) lower) (put_keeps_order new (put_rows upper lower) (puts_order upper lower two)) (puts_order (put_row new upper) lower two) (λ path.
    let here = is_eq (path_cmp path new.path) in
    value_at_put path new (put_rows upper lower)
    ∙ ap (cond here (Some new.value)) (value_at_puts path upper lower one)
    ∙ over here new.value (value_at path upper) (value_at path lower)
    ∙ sym (value_at_puts path (put_row new upper) lower (put_keeps_order new upper one) ∙ ap (λ (v : Option Value). option_or v (value_at path lower)) (value_at_put path new upper)))

-- to put rows over what was put over others is to put them over what was put
puts_over_both : (news upper lower : List Row) → AreInOrder upper → AreInOrder lower → put_rows news (put_rows upper lower) ≡ put_rows (put_rows news upper) lower
puts_over_both [] upper lower one two = refl
puts_over_both (new ∷ news) upper lower one two = ap (put_rows news) (put_over new upper lower one two) ∙ puts_over_both news (put_row new upper) lower (put_keeps_order new upper one) two

-- ---- edits

-- the rows that are at or below no target
abbrev others : List Change → List Row → List Row
others [] rows = rows
others (change ∷ changes) rows = others changes (rows_without change.target rows)

others_order : (changes : List Change) (rows : List Row) → AreInOrder rows → AreInOrder (others changes rows)
others_order [] rows order = order
others_order (change ∷ changes) rows order = others_order changes (rows_without change.target rows) (without_keeps_order change.target rows order)

still_none : (one two : Bool) (value : Option Value) → cond two None (cond one None value) ≡ cond (one || two) None value
still_none true true value = refl
still_none true false value = refl
still_none false two value = refl

value_at_others : (path : List Seg) (changes : List Change) (rows : List Row) → value_at path (others changes rows) ≡ cond (is_targeted changes path) None (value_at path rows)
value_at_others path [] rows = refl
value_at_others path (change ∷ changes) rows =
    value_at_others path changes (rows_without change.target rows)
    ∙ ap (cond (is_targeted changes path) None) (value_at_without path change.target rows)
    ∙ still_none (is_within change.target path) (is_targeted changes path) (value_at path rows)

changed_order : (changes : List Change) (rows : List Row) → AreInOrder rows → AreInOrder (changed_by changes rows)
changed_order [] rows order = order
changed_order (change ∷ changes) rows order = changed_order changes (put_rows change.rows (rows_without change.target rows)) (puts_order change.rows (rows_without change.target rows) (without_keeps_order change.target rows order))

-- edits of rows that are put over others: they change the upper ones, and take away lower ones
changed_over : (changes : List Change) (upper lower : List Row) → AreInOrder upper → AreInOrder lower → changed_by changes (put_rows upper lower) ≡ put_rows (changed_by changes upper) (others changes lower)
changed_over [] upper lower one two = refl
changed_over (change ∷ changes) upper lower one two =
    let above = rows_without change.target upper in
    let below = rows_without change.target lower in
    let above_order = without_keeps_order change.target upper one in
    let below_order = without_keeps_order change.target lower two in
    ap (λ (rows : List Row). changed_by changes (put_rows change.rows rows)) (picked-puts (λ path. not (is_within change.target path)) upper lower two)
    ∙ ap (changed_by changes) (puts_over_both change.rows above below above_order below_order)
    ∙ changed_over changes (put_rows change.rows above) below (puts_order change.rows above above_order) below_order

-- the value at a path after edits: that of a row that they make of none, or else the one that was there, unless it is at or below a target
value_at_changed : (path : List Seg) (changes : List Change) (rows : List Row) → AreInOrder rows
    → value_at path (changed_by changes rows) ≡ option_or (value_at path (changed_by changes [])) (cond (is_targeted changes path) None (value_at path rows))
value_at_changed path changes rows order =
    ap (value_at path) (changed_over changes [] rows none_order order)
    ∙ value_at_puts path (changed_by changes []) (others changes rows) (changed_order changes [] none_order)
    ∙ ap (option_or (value_at path (changed_by changes []))) (value_at_others path changes rows)

-- ---- all edits at once

-- by what is at or below the first target, what is at or below a later one, and the new value and the old one
once : (first later : Bool) (new old : Option Value) → cond (later && (is_some old && not (is_some new))) None (option_or new (cond first None old)) ≡ option_or new (cond (first || later) None old)
once true true (Some new) (Some old) = refl
once true true (Some new) None = refl
once true true None (Some old) = refl
once true true None None = refl
once true false new old = refl
once false true (Some new) (Some old) = refl
once false true (Some new) None = refl
once false true None (Some old) = refl
once false true None None = refl
once false false new old = refl

-- what edits make of no rows is put over what is not at or below the first target, and then the rows that are gone are taken out
pub all_at_once : (first : Change) (later : List Change) (rows news : List Row) (gone : List (List Seg)) → AreInOrder rows → news ≡ changed_by (first ∷ later) [] → AreGone later news rows gone
    → without_paths gone (put_rows news (rows_without first.target rows)) ≡ changed_by (first ∷ later) rows
all_at_once first later rows news gone order is are =
    let left = rows_without first.target rows in
    let new_order : AreInOrder news = subst AreInOrder (sym is) (changed_order (first ∷ later) [] none_order) in
    let made = puts_order news left (without_keeps_order first.target rows order) in
    same_rows (without_paths gone (put_rows news left)) (changed_by (first ∷ later) rows) (gone_order gone (put_rows news left) made) (changed_order (first ∷ later) rows order) (λ path.
    value_at_gone path gone (put_rows news left) made
    ∙ ap (λ b. cond b None (value_at path (put_rows news left))) (are path)
    ∙ ap (cond (is_targeted later path && is_lost news rows path) None) (value_at_puts path news left new_order ∙ ap (option_or (value_at path news)) (value_at_without path first.target rows))
    ∙ once (is_within first.target path) (is_targeted later path) (value_at path news) (value_at path rows)
    ∙ ap (λ (made : List Row). option_or (value_at path made) (cond (is_targeted (first ∷ later) path) None (value_at path rows))) is
    ∙ sym (value_at_changed path (first ∷ later) rows order))
