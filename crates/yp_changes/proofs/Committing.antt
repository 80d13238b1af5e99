-- Changes that are made to rows, or taken back.
use Rattle.std.proofs.Common.{◌≡◌, List, [], ◌∷◌, refl, sym, ap, subst, ◌∙◌, cond, true, false, true≢false, not, Option, Some, None}
use Rattle.std.specs.Prelude.{is_some}
use Rattle.std.specs.List.{AllByRecursion, filter_map}
use Rattle.std.specs.Ordering.{is_eq}
use Rattle.yp_base.specs.declared.path.Seg.{Seg}
use Rattle.yp_base.specs.declared.row.Value.{Value}
use Rattle.yp_base.specs.declared.row.Row.{Row}
use Rattle.yp_base.specs.Order.{path_cmp}
use Rattle.yp_base.specs.Rows.{value_at, put_row, put_rows, AreInOrder}
use Rattle.yp_base.specs.RowLaws.{value_at_put}
use Rattle.yp_tree.specs.Alike.{same_rows}
use Rattle.yp_changes.specs.declared.changed.ChangedRow.{ChangedRow}
use Rattle.yp_changes.specs.ChangeLaws.{neither, changed_sorted}
use Rattle.yp_changes.specs.Changes.{are_alike, change_of, changed_rows}
use Rattle.yp_changes.specs.Commits.{Differ, KeepsOthers, added_row, given_row, set_rows, without_missing}
use Rattle.yp_changes.specs.CommitLaws.{put_stays, puts_stay, of_found, brought_order, brought, given_path, added_path, old_value, new_value, is_missing, left_order, left, committed, made_all}
use Rattle.yp_changes.specs.TakingLaws.{each_there}

-- ---- rows that are put

-- each path of some rows has a row
abbrev pub AreThere : List Row → List Row → Type 0
AreThere some rows = AllByRecursion (λ row. is_some (value_at row.path rows) ≡ true) some

all_there : (some one other : List Row) → ((path : List Seg) → is_some (value_at path one) ≡ true → is_some (value_at path other) ≡ true) → AreThere some one → AreThere some other
all_there [] one other stays all = tt
all_there (row ∷ some) one other stays all = (stays row.path all.0, all_there some one other stays all.1)

-- the first of some rows were put, and the rest are left
pub record Putting (all before rest now : List Row) : Type 0 where
  pub rows : put_rows rest now ≡ put_rows all before
  pub others : KeepsOthers all before now
  pub among : (path : List Seg) → value_at path all ≡ None → value_at path rest ≡ None

pub none_put : (all before : List Row) → Putting all before all before
none_put all before = record { rows = refl; others = λ path h. refl; among = λ path h. h }

pub one_put : (all before : List Row) (row : Row) (rest now after : List Row) → Putting all before (row ∷ rest) now → after ≡ put_row row now → Putting all before rest after
one_put all before row rest now after put is = record {
  rows = ap (put_rows rest) is ∙ put.rows;
  others = λ path h.
      ap (value_at path) is ∙ value_at_put path row now ∙ ap (λ b. cond b (Some row.value) (value_at path now)) (neither (is_eq (path_cmp path row.path)) row.value (value_at path rest) (put.among path h)).0 ∙ put.others path h;
  among = λ path h. (neither (is_eq (path_cmp path row.path)) row.value (value_at path rest) (put.among path h)).1;
}

-- ---- changes that are taken back

back_new : (q : List Seg) (old new now : Option Value) → (of_found added_row (Some (record { path = q; old = old; new = new })) ≡ None → now ≡ old) → cond (not (is_some old)) None now ≡ old
back_new q None new now kept = refl
back_new q (Some v) new now kept = kept refl

back_right : (q : List Seg) (old new now : Option Value) → (of_found added_row (change_of q old new) ≡ None → now ≡ old) → cond (is_missing old_value (change_of q old new)) None now ≡ old
back_right q old new now kept =
    elim (are_alike old new) as (λ b. (of_found added_row (cond b None (Some (record { path = q; old = old; new = new }))) ≡ None → now ≡ old) → cond (is_missing old_value (cond b None (Some (record { path = q; old = old; new = new })))) None now ≡ old) [
      | true ↦ λ k. k refl
      | false ↦ λ k. back_new q old new now k
    ] kept

back_all : (before after now : List Row) → AreInOrder before → AreInOrder now → KeepsOthers (filter_map added_row (changed_rows before after)) before now → without_missing old_value (changed_rows before after) now ≡ before
back_all before after now order now_order others =
    same_rows (without_missing old_value (changed_rows before after) now) before (left_order old_value (changed_rows before after) now now_order) order (λ q.
    left old_value before after now q order now_order
    ∙ back_right q (value_at q before) (value_at q after) (value_at q now) (λ none. others q (brought added_row added_path before after q order ∙ none)))

-- what was put is taken back
pub taken_back : (changes : List ChangedRow) (before after now : List Row) → AreInOrder before → AreInOrder now → Differ changes before after → KeepsOthers (filter_map added_row changes) before now → without_missing old_value changes now ≡ before
taken_back changes before after now order now_order differ others =
    ap (λ (cs : List ChangedRow). without_missing old_value cs now) differ.changed
    ∙ back_all before after now order now_order (subst (λ (cs : List ChangedRow). KeepsOthers (filter_map added_row cs) before now) differ.changed others)

-- ---- rows that get their new values

was_given : (q : List Seg) (old new : Option Value) → is_some (of_found given_row (Some (record { path = q; old = old; new = new }))) ≡ true → is_some old ≡ true
was_given q None new h = absurd (true≢false (sym h))
was_given q (Some v) new h = refl

was_there : (q : List Seg) (old new : Option Value) → is_some (of_found given_row (change_of q old new)) ≡ true → is_some old ≡ true
was_there q old new there =
    elim (are_alike old new) as (λ b. is_some (of_found given_row (cond b None (Some (record { path = q; old = old; new = new })))) ≡ true → is_some old ≡ true) [
      | true ↦ λ h. absurd (true≢false (sym h))
      | false ↦ λ h. was_given q old new h
    ] there

all_given : (before after added : List Row) → AreInOrder before → AreThere (filter_map given_row (changed_rows before after)) (put_rows added before)
all_given before after added order =
    let given = filter_map given_row (changed_rows before after) in
    all_there given given (put_rows added before) (λ q there.
    puts_stay q added before (was_there q (value_at q before) (value_at q after) (ap is_some (sym (brought given_row given_path before after q order)) ∙ there)))
    (each_there given (brought_order given_row given_path (changed_rows before after) (changed_sorted before after order)))

-- where a row is there, setting it is putting it
all_set : (news rows : List Row) → AreThere news rows → set_rows news rows ≡ put_rows news rows
all_set [] rows all = refl
all_set (new ∷ news) rows all =
    ap (set_rows news) (ap (λ b. cond b (put_row new rows) rows) all.0)
    ∙ all_set news (put_row new rows) (all_there news rows (put_row new rows) (λ path. put_stays path new rows) all.1)

-- rows that are put, set and taken out as changes ask differ by these changes
pub all_made : (changes : List ChangedRow) (before after added now : List Row) → AreInOrder before → Differ changes before after → added ≡ filter_map added_row changes
    → now ≡ without_missing new_value changes (set_rows (filter_map given_row changes) (put_rows added before)) → Differ changes before now
all_made changes before after added now order differ is_added is =
    let there : AreThere (filter_map given_row changes) (put_rows added before) = subst (λ (cs : List ChangedRow). AreThere (filter_map given_row cs) (put_rows added before)) (sym differ.changed) (all_given before after added order) in
    let put : set_rows (filter_map given_row changes) (put_rows added before) ≡ put_rows (filter_map given_row changes) (put_rows (filter_map added_row changes) before) =
    all_set (filter_map given_row changes) (put_rows added before) there ∙ ap (λ (rows : List Row). put_rows (filter_map given_row changes) (put_rows rows before)) is_added in
    let made : now ≡ committed changes before = is ∙ ap (without_missing new_value changes) put in
    let same : now ≡ after = made ∙ ap (λ (cs : List ChangedRow). committed cs before) differ.changed ∙ made_all before after order differ.in_order in
    subst (λ (rows : List Row). Differ changes before rows) (sym same) differ
