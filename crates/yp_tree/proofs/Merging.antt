-- Rows in order, each one of others, and no fewer than these, are the others as they are put one after another.
use Rattle.std.proofs.Common.{◌≡◌, inl, inr, ℕ, ◌+◌, ◌<◌, ◌≤◌, List, [], ◌∷◌, ◌++◌, length, get_or, set, take, drop, zero, suc, refl, sym, ap, subst, ◌∙◌, cond, true, false, true≢false, not, ◌≢◌, ◌⊎◌, Option, Some, None, Less, Equal, arith}
use Rattle.std.specs.Prelude.{is_some}
use Rattle.std.specs.Bool.{◌==◌}
use Rattle.std.proofs.lemmas.List.{drop_more, get_or-set_other, length-map, take_all, take_more}
use Rattle.std.proofs.lemmas.Option.{get_or_from_slice_get, slice_get_read}
use Rattle.std.specs.List.{AllByRecursion}
use Rattle.std.specs.Ordering.{is_eq, is_lt}
use Rattle.std.proofs.lemmas.Cmp.{tied_itself}
use Rattle.yp_base.specs.declared.path.Seg.{Seg}
use Rattle.yp_base.specs.declared.row.Row.{Row}
use Rattle.yp_base.specs.declared.row.Value.{Value}
use Rattle.yp_base.specs.Order.{path_cmp}
use Rattle.yp_base.specs.OrderLaws.{paths_total}
use Rattle.yp_base.specs.PathLaws.{less_turned, are_one}
use Rattle.yp_base.specs.Rows.{AreInOrder, put_row, put_rows, value_at}
use Rattle.yp_base.specs.RowLaws.{AllPast, all_puts, first_order, holds_at, join_order, none_order, put_to_none, puts_order, rest_order, still_some, value_at_put}
use Rattle.yp_tree.specs.Alike.{same_rows}
use Rattle.yp_tree.specs.Risen.{is_past}
use Rattle.std.specs.BTreeMap.{BTreeMap}
use Rattle.yp_tree.specs.Scattered.{AreNoted, AreOrdered, is_entry, is_noted, no_row, rows_at}
use Rattle.yp_tree.proofs.Appending.{last_order, past_last}
use Rattle.yp_tree.proofs.Gathered.{puts_joined}

-- ---- which rows are among which

-- a row is one of these
abbrev pub IsRowOf : Row → List Row → Type 0
IsRowOf row [] = ⊥
IsRowOf row (first ∷ rows) = (row ≡ first) ⊎ IsRowOf row rows

-- some of these rows, in order
abbrev pub AreSome : List Row → List Row → Type 0
AreSome rows some = AreInOrder some × AllByRecursion (λ row. IsRowOf row rows) some

-- where one of the rows stands
record Split (row : Row) (rows : List Row) : Type 0 where
  pub before : List Row
  pub after : List Row
  pub is : rows ≡ before ++ row ∷ after

split : (row : Row) (rows : List Row) → IsRowOf row rows → Split row rows
split row [] among = absurd among
split row (first ∷ rows) (inl is) = record { before = []; after = rows; is = ap (λ r. r ∷ rows) (sym is) }
split row (first ∷ rows) (inr later) = let s = split row rows later in record { before = first ∷ s.before; after = s.after; is = ap (λ rs. first ∷ rs) s.is }

-- what is one of the rows and not the one in the middle is one of the others
without_middle : (row : Row) (before : List Row) (middle : Row) (after : List Row) → (row ≡ middle → ⊥) → IsRowOf row (before ++ middle ∷ after) → IsRowOf row (before ++ after)
without_middle row [] middle after apart (inl is) = absurd (apart is)
without_middle row [] middle after apart (inr later) = later
without_middle row (first ∷ before) middle after apart (inl is) = inl is
without_middle row (first ∷ before) middle after apart (inr later) = inr (without_middle row before middle after apart later)

all_without_middle : (before : List Row) (middle : Row) (after some : List Row) → AllPast middle.path some → AllByRecursion (λ row. IsRowOf row (before ++ middle ∷ after)) some → AllByRecursion (λ row. IsRowOf row (before ++ after)) some
all_without_middle before middle after [] past all = tt
all_without_middle before middle after (row ∷ some) past all =
    (without_middle row before middle after (not_first middle row past.0) all.0, all_without_middle before middle after some past.1 all.1)
  where
    not_first : (middle row : Row) → path_cmp middle.path row.path ≡ Less → row ≡ middle → ⊥
    not_first middle row less same =
        let both : Equal ≡ Less = sym (tied_itself paths_total middle.path) ∙ ap (λ (r : Row). path_cmp middle.path r.path) (sym same) ∙ less in
        cc

all_with_middle : (before : List Row) (middle : Row) (after some : List Row) → AllByRecursion (λ row. IsRowOf row some) (before ++ after) → AllByRecursion (λ row. IsRowOf row (middle ∷ some)) (before ++ middle ∷ after)
all_with_middle [] middle after some all = (inl refl, more middle some after all)
  where
    more : (first : Row) (some rows : List Row) → AllByRecursion (λ row. IsRowOf row some) rows → AllByRecursion (λ row. IsRowOf row (first ∷ some)) rows
    more first some [] all = tt
    more first some (row ∷ rows) all = (inr all.0, more first some rows all.1)
all_with_middle (row ∷ before) middle after some all = (inr all.0, all_with_middle before middle after some all.1)

length_middle : (before : List Row) (middle : Row) (after : List Row) → length (before ++ middle ∷ after) ≡ length (before ++ after) + 1
length_middle [] middle after = omega arith
length_middle (row ∷ before) middle after = omega (arith, length_middle before middle after)

-- rows in order that are no fewer than those of which they are some are all of them
all_there : (some rows : List Row) → AreInOrder some → AllByRecursion (λ row. IsRowOf row rows) some → length rows ≤ length some → AllByRecursion (λ row. IsRowOf row some) rows
all_there [] [] order all count = tt
all_there [] (row ∷ rows) order all count = absurd (omega (arith, count))
all_there (first ∷ some) rows order all count =
    let s = split first rows all.0 in
    let others = all_without_middle s.before first s.after some (first_order first some order) (subst (λ (rs : List Row). AllByRecursion (λ row. IsRowOf row rs) some) s.is all.1) in
    let fewer : length (s.before ++ s.after) ≤ length some = omega (arith, count, ap length s.is, length_middle s.before first s.after) in
    subst (λ (rs : List Row). AllByRecursion (λ row. IsRowOf row (first ∷ some)) rs) (sym s.is)
    (all_with_middle s.before first s.after some (all_there some (s.before ++ s.after) (rest_order first some order) others fewer))

-- ---- their values

-- a path that comes before rows comes before each of them
past_one : (path : List Seg) (rows : List Row) (row : Row) → AllPast path rows → IsRowOf row rows → path_cmp path row.path ≡ Less
past_one path [] row past among = absurd among
past_one path (first ∷ rows) row past (inl is) = ap (λ (r : Row). path_cmp path r.path) is ∙ past.0
past_one path (first ∷ rows) row past (inr later) = past_one path rows row past.1 later

-- the value of a row is found where rows are in order
found : (rows : List Row) (row : Row) → AreInOrder rows → IsRowOf row rows → value_at row.path rows ≡ Some row.value
found [] row order among = absurd among
found (first ∷ rows) row order (inl is) = ap (λ (r : Row). value_at r.path (first ∷ rows)) is ∙ (rw (tied_itself paths_total first.path) refl) ∙ ap (λ (r : Row). Some r.value) (sym is)
found (first ∷ rows) row order (inr later) =
    rw (less_turned first.path row.path (past_one first.path rows row (first_order first rows order) later)) (found rows row (rest_order first rows order) later)

all_found : (some rows : List Row) → AreInOrder some → AllByRecursion (λ row. IsRowOf row some) rows → AllByRecursion (λ row. value_at row.path some ≡ Some row.value) rows
all_found some [] order all = tt
all_found some (row ∷ rows) order all = (found some row order all.0, all_found some rows order all.1)

-- a path with a row keeps one while more are put
stays : (path : List Seg) (news rows : List Row) → is_some (value_at path rows) ≡ true → is_some (value_at path (put_rows news rows)) ≡ true
stays path [] rows there = there
stays path (new ∷ news) rows there =
    stays path news (put_row new rows) (ap is_some (value_at_put path new rows) ∙ still_some (is_eq (path_cmp path new.path)) new.value (value_at path rows) there)

-- and has one once its row was put
put_there : (row : Row) (news rows : List Row) → IsRowOf row news → is_some (value_at row.path (put_rows news rows)) ≡ true
put_there row [] rows among = absurd among
put_there row (new ∷ news) rows (inl is) =
    stays row.path news (put_row new rows) (ap is_some (value_at_put row.path new rows ∙ ap (λ b. cond b (Some new.value) (value_at row.path rows)) (ap (λ (r : Row). is_eq (path_cmp r.path new.path)) is ∙ ap is_eq (tied_itself paths_total new.path))))
put_there row (new ∷ news) rows (inr later) = put_there row news (put_row new rows) later

all_put_there : (some rows : List Row) → AllByRecursion (λ row. IsRowOf row rows) some → AllByRecursion (λ row. is_some (value_at row.path (put_rows rows [])) ≡ true) some
all_put_there [] rows all = tt
all_put_there (row ∷ some) rows all = (put_there row rows [] all.0, all_put_there some rows all.1)

-- where each row has its value in others, so has each path
value_told : (some rows : List Row) → AllByRecursion (λ row. value_at row.path some ≡ Some row.value) rows → (path : List Seg) (value : Value) → value_at path rows ≡ Some value → value_at path some ≡ Some value
value_told some [] all path value is = absurd (none_some is)
  where
    none_some : None ≡ Some value → ⊥
    none_some e = cc
value_told some (row ∷ rows) all path value is =
    elim (is_eq (path_cmp path row.path)) as (λ b. is_eq (path_cmp path row.path) ≡ b → cond b (Some row.value) (value_at path rows) ≡ Some value → value_at path some ≡ Some value) [
      | true ↦ λ here h. ap (λ p. value_at p some) (are_one path row.path here) ∙ all.0 ∙ h
      | false ↦ λ here h. value_told some rows all.1 path value h
    ] refl is

no_value : (found : Option Value) → (is_some found ≡ true → ⊥) → found ≡ None
no_value None none = refl
no_value (Some value) none = absurd (none refl)

-- two lists of rows have one value at a path, where what one has the other has, and the other has no more
one_value : (path : List Seg) (some rows : List Row) (there : Option Value) → value_at path rows ≡ there
    → ((value : Value) → value_at path rows ≡ Some value → value_at path some ≡ Some value)
    → (is_some (value_at path some) ≡ true → is_some (value_at path rows) ≡ true) → value_at path some ≡ value_at path rows
one_value path some rows None is told back = no_value (value_at path some) (λ has. true≢false (sym (back has) ∙ ap is_some is)) ∙ sym is
one_value path some rows (Some value) is told back = told value is ∙ sym is

pub merged_is : (some rows : List Row) → AreSome rows some → length rows ≤ length some → some ≡ put_rows rows []
merged_is some rows are count =
    let made = put_rows rows [] in
    let told = value_told some made (all_puts (λ row. value_at row.path some ≡ Some row.value) rows [] (all_found some rows are.0 (all_there some rows are.0 are.1 count)) tt) in
    same_rows some made are.0 (puts_order rows [] none_order) (λ path.
    one_value path some made (value_at path made) refl (told path) (holds_at (λ p. is_some (value_at p made) ≡ true) some path (all_put_there some rows are.1)))

-- ---- one row more

one_more : (P : Row → Type 0) (rows : List Row) (row : Row) → AllByRecursion P rows → P row → AllByRecursion P (rows ++ row ∷ [])
one_more P [] row all is = (is, tt)
one_more P (first ∷ rows) row all is = (all.0, one_more P rows row all.1 is)

-- a row more of those that are put
pub puts_step : (rows now after : List Row) (place : ℕ) (row : Row) → place < length rows → row ≡ get_or rows place row → now ≡ put_rows (take place rows) [] → after ≡ put_row row now → after ≡ put_rows (take (place + 1) rows) []
puts_step rows now after place row here is so_far more =
    more ∙ ap (put_row row) so_far ∙ sym (puts_joined (take place rows) (row ∷ []) [])
    ∙ ap (λ rs. put_rows rs []) (ap (λ r. take place rows ++ r ∷ []) is ∙ sym (take_more rows place row here))

pub puts_whole : (rows now : List Row) (count : ℕ) → AreInOrder rows → length rows ≤ count → now ≡ put_rows (take count rows) [] → now ≡ rows
puts_whole rows now count order all so_far = so_far ∙ ap (λ rs. put_rows rs []) (take_all count rows all) ∙ put_to_none rows order

-- a row that is put last
pub put_pushed : (rows after : List Row) (row : Row) → after ≡ rows ++ row ∷ [] → put_rows after [] ≡ put_row row (put_rows rows [])
put_pushed rows after row is = ap (λ rs. put_rows rs []) is ∙ puts_joined rows (row ∷ []) []

-- ---- rows at places

row_there : (rows : List Row) (place : ℕ) → place < length rows → IsRowOf (get_or rows place no_row) rows
row_there [] place less = absurd (omega (arith, less))
row_there (row ∷ rows) zero less = inl refl
row_there (row ∷ rows) (suc place) less = inr (row_there rows place (omega (arith, less)))

all_there_at : (rows : List Row) (places : List ℕ) → AllByRecursion (λ place. place < length rows) places → AllByRecursion (λ row. IsRowOf row rows) (rows_at rows places)
all_there_at rows [] all = tt
all_there_at rows (place ∷ places) all = (row_there rows place all.0, all_there_at rows places all.1)

-- rows at places that are no fewer, in order there, are the rows as they are put one after another
pub ordered_is : (rows : List Row) (places : List ℕ) → AreOrdered rows places → length rows ≤ length places → rows_at rows places ≡ put_rows rows []
ordered_is rows places are count =
    merged_is (rows_at rows places) rows (are.order, all_there_at rows places are.there)
    (omega (arith, count, length-map places (λ place. get_or rows place no_row)))

-- ---- a place more

one_place_more : (rows : List Row) (places : List ℕ) (place : ℕ) → AllByRecursion (λ p. p < length rows) places → place < length rows → AllByRecursion (λ p. p < length rows) (places ++ place ∷ [])
one_place_more rows [] place all less = (less, tt)
one_place_more rows (first ∷ places) place all less = (all.0, one_place_more rows places place all.1 less)

at_joined : (rows : List Row) (places : List ℕ) (place : ℕ) → rows_at rows (places ++ place ∷ []) ≡ rows_at rows places ++ get_or rows place no_row ∷ []
at_joined rows [] place = refl
at_joined rows (first ∷ places) place = ap (λ (some : List Row). get_or rows first no_row ∷ some) (at_joined rows places place)

pub one_ordered : (rows : List Row) (place : ℕ) → place < length rows → AreOrdered rows (place ∷ [])
one_ordered rows place less = record { there = (less, tt); order = join_order (get_or rows place no_row) [] tt none_order }

-- the row at the last of some places
pub record IsLastOf (rows : List Row) (places : List ℕ) (last : Row) : Type 0 where
  pub before : List ℕ
  pub place : ℕ
  pub parts : places ≡ before ++ place ∷ []
  pub is : last ≡ get_or rows place no_row

-- rows at places stay in order with one more that comes past the last
pub more_ordered : (rows : List Row) (places : List ℕ) (last : Row) (place : ℕ) → IsLastOf rows places last → AreOrdered rows places → place < length rows
    → path_cmp last.path (get_or rows place no_row).path ≡ Less → AreOrdered rows (places ++ place ∷ [])
more_ordered rows places last place is are less past =
    let next = get_or rows place no_row in
    let parts : rows_at rows places ≡ rows_at rows is.before ++ last ∷ [] = ap (rows_at rows) is.parts ∙ at_joined rows is.before is.place ∙ ap (λ (r : Row). rows_at rows is.before ++ r ∷ []) (sym is.is) in
    record {
      there = one_place_more rows places place are.there less;
      order =
          subst AreInOrder (sym (at_joined rows places place))
          (last_order (rows_at rows places) next are.order (ap (is_past next.path) parts ∙ past_last next.path (rows_at rows is.before) last ∙ ap is_lt past));
    }

-- ---- a row that is taken

-- a path that comes before the rows at places is at none of them
not_among : (rows : List Row) (place : ℕ) (places : List ℕ) → AllPast (get_or rows place no_row).path (rows_at rows places) → AllByRecursion (λ p. p ≢ place) places
not_among rows place [] past = tt
not_among rows place (p ∷ places) past = (λ same. apart (get_or rows place no_row).path (subst (λ (n : ℕ). path_cmp (get_or rows place no_row).path (get_or rows n no_row).path ≡ Less) same past.0), not_among rows place places past.1)
  where
    apart : (path : List Seg) → path_cmp path path ≡ Less → ⊥
    apart path less =
        let both : Equal ≡ Less = sym (tied_itself paths_total path) ∙ less in
        cc

others_stay : (rows : List Row) (place : ℕ) (row : Row) (places : List ℕ) → AllByRecursion (λ p. p ≢ place) places → rows_at (set rows place row) places ≡ rows_at rows places
others_stay rows place row [] apart = refl
others_stay rows place row (p ∷ places) apart = (λ i. get_or-set_other rows place p row no_row apart.0 i ∷ others_stay rows place row places apart.1 i)

-- where rows at places are in order, those at the later places stay when the one at the first is taken
pub taken_stay : (rows : List Row) (place : ℕ) (row : Row) (places : List ℕ) → AreInOrder (rows_at rows (place ∷ places)) → rows_at (set rows place row) places ≡ rows_at rows places
taken_stay rows place row places order = others_stay rows place row places (not_among rows place places (first_order (get_or rows place no_row) (rows_at rows places) order))

-- the same of rows of which those at the first places so far were taken
at_more : (rows : List Row) (places : List ℕ) (k : ℕ) → k < length places → rows_at rows (drop k places) ≡ get_or rows (get_or places k 0) no_row ∷ rows_at rows (drop (k + 1) places)
at_more rows places k less = ap (rows_at rows) (drop_more places k 0 less)

order_rest : (rows : List Row) (places : List ℕ) (k : ℕ) → k < length places → AreInOrder (rows_at rows places) → AreInOrder (rows_at rows (drop k places))
order_rest rows [] k less order = absurd (omega (arith, less))
order_rest rows (place ∷ places) zero less order = order
order_rest rows (place ∷ places) (suc k) less order = order_rest rows places k (omega (arith, less)) (rest_order (get_or rows place no_row) (rows_at rows places) order)

pub left_more : (rows now : List Row) (places : List ℕ) (k : ℕ) (nothing : Row) → AreOrdered rows places → k < length places
    → rows_at now (drop k places) ≡ rows_at rows (drop k places) → rows_at (set now (get_or places k 0) nothing) (drop (k + 1) places) ≡ rows_at rows (drop (k + 1) places)
left_more rows now places k nothing are less left =
    let place = get_or places k 0 in
    let both : get_or now place no_row ∷ rows_at now (drop (k + 1) places) ≡ get_or rows place no_row ∷ rows_at rows (drop (k + 1) places) = sym (at_more now places k less) ∙ left ∙ at_more rows places k less in
    let order = subst AreInOrder (sym left ∙ at_more now places k less) (order_rest rows places k less are.order) in
    taken_stay now place nothing (drop (k + 1) places) order ∙ ap (drop 1) both

-- the row that is taken is the one at its place
pub one_more_taken : (rows now taken after : List Row) (places : List ℕ) (k : ℕ) (row : Row) → k < length places → rows_at now (drop k places) ≡ rows_at rows (drop k places)
    → get_or now (get_or places k 0) no_row ≡ row → taken ≡ rows_at rows (take k places) → after ≡ taken ++ row ∷ [] → after ≡ rows_at rows (take (k + 1) places)
one_more_taken rows now taken after places k row less left is so_far more =
    let place = get_or places k 0 in
    let both : get_or now place no_row ∷ rows_at now (drop (k + 1) places) ≡ get_or rows place no_row ∷ rows_at rows (drop (k + 1) places) = sym (at_more now places k less) ∙ left ∙ at_more rows places k less in
    let same : row ≡ get_or rows place no_row = sym is ∙ ap (λ some. get_or some 0 no_row) both in
    more ∙ (λ i. so_far i ++ same i ∷ []) ∙ sym (at_joined rows (take k places) place) ∙ ap (rows_at rows) (sym (take_more places k 0 less))

-- a row that is found at a place is the one there
pub found_there : (rows : List Row) (place : ℕ) (row : Row) → place < length rows → row ≡ get_or rows place row → get_or rows place no_row ≡ row
found_there rows place row less is = get_or_from_slice_get rows place row no_row (slice_get_read rows (length rows) place row refl less is)

pub all_of : (places : List ℕ) (count : ℕ) (rows : List Row) → AllByRecursion (λ p. p < length rows) places → count < length places → get_or places count 0 < length rows
all_of [] count rows all less = absurd (omega (arith, less))
all_of (place ∷ places) zero rows all less = all.0
all_of (place ∷ places) (suc count) rows all less = all_of places count rows all.1 (omega (arith, less))

-- ---- places one after another

pub none_ordered : (rows : List Row) (places : List ℕ) → length places ≡ 0 → AreOrdered rows places
none_ordered rows [] none = record { there = tt; order = none_order }
none_ordered rows (place ∷ places) none = absurd (omega (arith, none))

place_more : (first : ℕ) (later : List ℕ) (k : ℕ) → k < length later → first ∷ take (k + 1) later ≡ (first ∷ take k later) ++ get_or later k 0 ∷ []
place_more first later k less = ap (λ places. first ∷ places) (take_more later k 0 less)

pub ordered_more : (rows : List Row) (first : ℕ) (later : List ℕ) (k : ℕ) (last next : Row) → k < length later → IsLastOf rows (first ∷ take k later) last → AreOrdered rows (first ∷ take k later)
    → get_or later k 0 < length rows → next ≡ get_or rows (get_or later k 0) next → path_cmp last.path next.path ≡ Less → AreOrdered rows (first ∷ take (k + 1) later)
ordered_more rows first later k last next less is are there found past =
    subst (AreOrdered rows) (sym (place_more first later k less))
    (more_ordered rows (first ∷ take k later) last (get_or later k 0) is are there (ap (λ (r : Row). path_cmp last.path r.path) (found_there rows (get_or later k 0) next there found) ∙ past))

pub last_more : (rows : List Row) (first : ℕ) (later : List ℕ) (k : ℕ) (next : Row) → k < length later → get_or later k 0 < length rows → next ≡ get_or rows (get_or later k 0) next → IsLastOf rows (first ∷ take (k + 1) later) next
last_more rows first later k next less there found = record {
  before = first ∷ take k later;
  place = get_or later k 0;
  parts = place_more first later k less;
  is = sym (found_there rows (get_or later k 0) next there found);
}

-- ---- entries

pub entry_last : (segments : List Seg) (last : Seg) → is_entry (segments ++ last ∷ []) ≡ not (length last.keys == 0)
entry_last [] last = refl
entry_last (segment ∷ []) last = refl
entry_last (segment ∷ next ∷ segments) last = entry_last (next ∷ segments) last

-- an entry without a place is not among rows whose entries have one
pub absent : (starts : BTreeMap (List Seg) ℕ) (rows : List Row) (path : List Seg) → AreNoted starts rows → is_entry path ≡ true → is_noted starts path ≡ false → value_at path (put_rows rows []) ≡ None
absent starts rows path noted entry missing =
    let has : List Seg → Type 0 = λ p. is_entry p ≡ true → is_noted starts p ≡ true in
    no_value (value_at path (put_rows rows [])) (λ there. true≢false (sym (holds_at has (put_rows rows []) path (all_puts (λ row. has row.path) rows [] noted tt) there entry) ∙ missing))

-- those of rows and of one more have places
pub noted_last : (starts : BTreeMap (List Seg) ℕ) (rows : List Row) (row : Row) → AreNoted starts rows → (is_entry row.path ≡ true → is_noted starts row.path ≡ true) → AreNoted starts (rows ++ row ∷ [])
noted_last starts rows row all last = one_more (λ r. is_entry r.path ≡ true → is_noted starts r.path ≡ true) rows row all last
