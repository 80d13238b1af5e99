-- What putting, keeping and leaving out do to rows in order.
use Rattle.std.proofs.Common.{◌≡◌, List, [], ◌∷◌, ◌++◌, map, refl, sym, ap, subst, ◌∙◌, cond, Bool, true, false, true≢false, not, Some, None, Less, Equal, Greater, append-nil, append_assoc, Option}
use Rattle.std.specs.Prelude.{filter, is_some}
use Rattle.std.specs.Option.{option_or}
use Rattle.std.specs.Ordering.{is_eq, eq_by_cmp, match_ordering}
use Rattle.std.specs.Bool.{Decides}
use Rattle.std.proofs.lemmas.Bool.Decides.{Decides-like}
use Rattle.std.specs.declared.cmp.Ordering.{Ordering}
use Rattle.std.specs.List.{AllByRecursion}
use Rattle.std.specs.List.Sorted.{IsStrictlySortedBy}
use Rattle.std.proofs.lemmas.List.Kept.{IsStrictlySortedBy-filter}
use Rattle.std.proofs.lemmas.Cmp.{alike_right}
use Rattle.std.proofs.lemmas.Map.Views.{tells_apart}
use Rattle.yp_base.specs.declared.path.Seg.{Seg}
use Rattle.yp_base.specs.declared.row.Row.{Row}
use Rattle.yp_base.specs.Order.{atom_cmp, path_cmp, is_within}
use Rattle.yp_base.specs.OrderLaws.{atoms_total, paths_total}
use Rattle.yp_base.specs.Exact.{atoms_exact, paths_exact, order_decides}
pub use Rattle.yp_base.specs.PathLaws.{greater_turned as below}
use Rattle.yp_base.specs.PathLaws.{less_turned, greater_turned, are_one, IsBefore, before_all}
use Rattle.yp_base.specs.Rows.{same_value, put_row, put_rows, value_at, path_of, rows_within, rows_without, AreInOrder, last_of}
use Rattle.yp_base.specs.declared.row.Value.{Value}
use Rattle.yp_base.specs.declared.row.Value.TheVariants.{Atom as Plain, Member, Empty, Present}

pub values_decide : (a b : Value) → Decides (same_value a b) (a ≡ b)
values_decide (Plain a) (Plain b) = Decides-like (eq_by_cmp atom_cmp a b) (λ e. ap Plain e) (λ e. cc) (order_decides atoms_total atoms_exact a b)
values_decide Member Member = (λ t. refl, λ e. refl)
values_decide Empty Empty = (λ t. refl, λ e. refl)
values_decide Present Present = (λ t. refl, λ e. refl)
values_decide a b = (λ t. cc, λ e. cc)

-- a path is before each of these rows
abbrev pub AllPast : List Seg → List Row → Type 0
AllPast path rows = IsBefore path (map path_of rows)

-- a path that is before another is before all that the other is before
pub all_past : (one two : List Seg) (rows : List Row) → path_cmp one two ≡ Less → AllPast two rows → AllPast one rows
all_past one two rows less h = before_all one two (map path_of rows) less h

pub none_order : AreInOrder []
unfolding IsStrictlySortedBy
none_order = tt

pub first_order : (row : Row) (rows : List Row) → AreInOrder (row ∷ rows) → AllPast row.path rows
unfolding IsStrictlySortedBy
first_order row rows order = order.0

pub rest_order : (row : Row) (rows : List Row) → AreInOrder (row ∷ rows) → AreInOrder rows
unfolding IsStrictlySortedBy
rest_order row rows order = order.1

pub join_order : (row : Row) (rows : List Row) → AllPast row.path rows → AreInOrder rows → AreInOrder (row ∷ rows)
unfolding IsStrictlySortedBy
join_order row rows past order = (past, order)

below_middle : (first : Row) (done : List Row) (e : Row) (more : List Row) → AllPast first.path (done ++ e ∷ more) → path_cmp first.path e.path ≡ Less
below_middle first [] e more h = h.0
below_middle first (row ∷ done) e more h = below_middle first done e more h.1

-- a row that is past those before it goes last
pub put_last_row : (done : List Row) (e : Row) (more : List Row) → AreInOrder (done ++ e ∷ more) → put_row e done ≡ done ++ e ∷ []
unfolding IsStrictlySortedBy
put_last_row [] e more h = refl
put_last_row (first ∷ done) e more h = rw (less_turned first.path e.path (below_middle first done e more h.0)) (ap (λ rows. first ∷ rows) (put_last_row done e more h.1))

pub none_past : (path : List Seg) (rows : List Row) → AllPast path rows → value_at path rows ≡ None
none_past path [] past = refl
none_past path (row ∷ rows) past = rw past.0 (none_past path rows past.1)

-- and isn't among them
pub not_there_yet : (done : List Row) (e : Row) (more : List Row) → AreInOrder (done ++ e ∷ more) → value_at e.path done ≡ None
unfolding IsStrictlySortedBy
not_there_yet [] e more h = refl
not_there_yet (first ∷ done) e more h = rw (less_turned first.path e.path (below_middle first done e more h.0)) (not_there_yet done e more h.1)

-- a row that is before the others goes first
pub put_first : (new : Row) (rows : List Row) → AllPast new.path rows → put_row new rows ≡ new ∷ rows
put_first new [] h = refl
put_first new (row ∷ rows) h = ap (λ o. match_ordering o (new ∷ row ∷ rows) (record row { value = new.value } ∷ rows) (row ∷ put_row new rows)) h.0

-- a path that is before the rows and before the new one is before all of them
pub put_above : (path : List Seg) (new : Row) (rows : List Row) → path_cmp path new.path ≡ Less → AllPast path rows → AllPast path (put_row new rows)
put_above path new [] less h = (less, tt)
put_above path new (row ∷ rows) less h =
    elim (path_cmp new.path row.path) as (λ r. AllPast path (match_ordering r (new ∷ row ∷ rows) (record row { value = new.value } ∷ rows) (row ∷ put_row new rows))) [
      | Less ↦ (less, h)
      | Equal ↦ h
      | Greater ↦ (h.0, put_above path new rows less h.1)
    ]

-- rows in order are so with one more
pub put_keeps_order : (new : Row) (rows : List Row) → AreInOrder rows → AreInOrder (put_row new rows)
unfolding IsStrictlySortedBy
put_keeps_order new [] h = (tt, tt)
put_keeps_order new (row ∷ rows) h =
    elim (path_cmp new.path row.path) as (λ r. path_cmp new.path row.path ≡ r → IsStrictlySortedBy path_cmp (map path_of (match_ordering r (new ∷ row ∷ rows) (record row { value = new.value } ∷ rows) (row ∷ put_row new rows)))) [
      | Less ↦ λ e. ((e, all_past new.path row.path rows e h.0), h)
      | Equal ↦ λ e. h
      | Greater ↦ λ e. (put_above row.path new rows (greater_turned new.path row.path e) h.0, put_keeps_order new rows h.1)
    ] refl

-- what holds of the new row and of all rows holds of all after
pub all_put : (P : Row → Type 0) (new : Row) (rows : List Row) → P new → AllByRecursion P rows → AllByRecursion P (put_row new rows)
all_put P new [] h all = (h, tt)
all_put P new (row ∷ rows) h all =
    elim (path_cmp new.path row.path) as (λ o. path_cmp new.path row.path ≡ o → AllByRecursion P (match_ordering o (new ∷ row ∷ rows) (record row { value = new.value } ∷ rows) (row ∷ put_row new rows))) [
      | Less ↦ λ e. (h, all)
      | Equal ↦ λ e. (subst (λ (path : List Seg). P (record { path = path; value = new.value })) (paths_exact new.path row.path e) h, all.1)
      | Greater ↦ λ e. (all.0, all_put P new rows h all.1)
    ] refl

-- what holds of the rows and of those that are put holds of all
pub all_puts : (P : Row → Type 0) (news rows : List Row) → AllByRecursion P news → AllByRecursion P rows → AllByRecursion P (put_rows news rows)
all_puts P [] rows new all = all
all_puts P (first ∷ news) rows new all = all_puts P news (put_row first rows) new.1 (all_put P first rows new.0 all)

-- what holds of the path of each row holds of a path that has a row
pub holds_at : (P : List Seg → Type 0) (rows : List Row) (path : List Seg) → AllByRecursion (λ row. P row.path) rows → is_some (value_at path rows) ≡ true → P path
holds_at P [] path all there = absurd (true≢false (sym there))
holds_at P (row ∷ rows) path all there =
    elim (is_eq (path_cmp path row.path)) as (λ b. is_eq (path_cmp path row.path) ≡ b → is_some (cond b (Some row.value) (value_at path rows)) ≡ true → P path) [
      | true ↦ λ e h. subst P (sym (are_one path row.path e)) all.0
      | false ↦ λ e h. holds_at P rows path all.1 h
    ] refl there

-- rows in order are so with more
pub puts_order : (news rows : List Row) → AreInOrder rows → AreInOrder (put_rows news rows)
puts_order [] rows h = h
puts_order (new ∷ news) rows h = puts_order news (put_row new rows) (put_keeps_order new rows h)

put_all_past : (done news : List Row) → AreInOrder (done ++ news) → put_rows news done ≡ done ++ news
put_all_past done [] h = sym (append-nil done)
put_all_past done (new ∷ news) h =
    ap (put_rows news) (put_last_row done new news h)
    ∙ put_all_past (done ++ new ∷ []) news (subst AreInOrder (sym (append_assoc done (new ∷ []) news)) h)
    ∙ append_assoc done (new ∷ []) news

-- rows in order that are put to none are those rows
pub put_to_none : (news : List Row) → AreInOrder news → put_rows news [] ≡ news
put_to_none news h = put_all_past [] news h

module _ (p : List Seg → Bool) where
  -- the rows whose paths pass a test
  abbrev pub picked : List Row → List Row
  picked rows = filter (λ row. p row.path) rows

  -- the paths of some rows are some of the paths
  pub paths_of_some : (rows : List Row) → map path_of (picked rows) ≡ filter p (map path_of rows)
  paths_of_some [] = refl
  paths_of_some (row ∷ rows) =
      elim (p row.path) as (λ b. map path_of (cond b (row ∷ picked rows) (picked rows)) ≡ cond b (row.path ∷ filter p (map path_of rows)) (filter p (map path_of rows))) [
        | true ↦ ap (λ paths. row.path ∷ paths) (paths_of_some rows)
        | false ↦ paths_of_some rows
      ]

  -- some rows of rows in order are in order
  pub some_keep_order : (rows : List Row) → AreInOrder rows → AreInOrder (picked rows)
  some_keep_order rows h = subst (λ (paths : List (List Seg)). IsStrictlySortedBy path_cmp paths) (sym (paths_of_some rows)) (IsStrictlySortedBy-filter path_cmp p (map path_of rows) h)

  -- a path that is before the rows is before some of them
  pub past_picked : (path : List Seg) (rows : List Row) → AllPast path rows → AllPast path (picked rows)
  past_picked path [] h = tt
  past_picked path (row ∷ rows) h =
      elim (p row.path) as (λ b. AllPast path (cond b (row ∷ picked rows) (picked rows))) [
        | true ↦ (h.0, past_picked path rows h.1)
        | false ↦ past_picked path rows h.1
      ]

  less_case : (b : Bool) (new : Row) (rows : List Row) → put_row new rows ≡ new ∷ rows → cond b (new ∷ rows) rows ≡ cond b (put_row new rows) rows
  less_case true new rows first = sym first
  less_case false new rows first = refl

  equal_case : (b : Bool) (new row : Row) (rows : List Row) → path_cmp new.path row.path ≡ Equal
      → cond b (record row { value = new.value } ∷ rows) rows ≡ cond b (put_row new (cond b (row ∷ rows) rows)) (cond b (row ∷ rows) rows)
  equal_case true new row rows is = sym (ap (λ o. match_ordering o (new ∷ row ∷ rows) (record row { value = new.value } ∷ rows) (row ∷ put_row new rows)) is)
  equal_case false new row rows is = refl

  greater_case : (b c : Bool) (new row : Row) (rows : List Row) → path_cmp new.path row.path ≡ Greater
      → cond b (row ∷ cond c (put_row new rows) rows) (cond c (put_row new rows) rows) ≡ cond c (put_row new (cond b (row ∷ rows) rows)) (cond b (row ∷ rows) rows)
  greater_case true true new row rows is = sym (ap (λ o. match_ordering o (new ∷ row ∷ rows) (record row { value = new.value } ∷ rows) (row ∷ put_row new rows)) is)
  greater_case true false new row rows is = refl
  greater_case false true new row rows is = refl
  greater_case false false new row rows is = refl

  put_at : (o : Ordering) (new row : Row) (rows : List Row) → path_cmp new.path row.path ≡ o → AllPast row.path rows
      → picked (put_row new rows) ≡ cond (p new.path) (put_row new (picked rows)) (picked rows)
      → picked (match_ordering o (new ∷ row ∷ rows) (record row { value = new.value } ∷ rows) (row ∷ put_row new rows)) ≡ cond (p new.path) (put_row new (picked (row ∷ rows))) (picked (row ∷ rows))
  put_at Less new row rows is past later =
      less_case (p new.path) new (picked (row ∷ rows)) (put_first new (picked (row ∷ rows)) (past_picked new.path (row ∷ rows) (is, all_past new.path row.path rows is past)))
  put_at Equal new row rows is past later =
      let same = ap p (paths_exact new.path row.path is) in
      equal_case (p row.path) new row (picked rows) is ∙ ap (λ b. cond b (put_row new (picked (row ∷ rows))) (picked (row ∷ rows))) (sym same)
  put_at Greater new row rows is past later =
      ap (λ xs. cond (p row.path) (row ∷ xs) xs) later ∙ greater_case (p row.path) (p new.path) new row (picked rows) is

  -- what is kept after a row is put is the row put to what is kept, or what was kept
  pub picked-put : (new : Row) (rows : List Row) → AreInOrder rows → picked (put_row new rows) ≡ cond (p new.path) (put_row new (picked rows)) (picked rows)
  picked-put new [] h = refl
  picked-put new (row ∷ rows) h = put_at (path_cmp new.path row.path) new row rows refl (first_order row rows h) (picked-put new rows (rest_order row rows h))

  puts_at : (b : Bool) (new : Row) (news rows : List Row) → put_rows (picked news) (cond b (put_row new rows) rows) ≡ put_rows (cond b (new ∷ picked news) (picked news)) rows
  puts_at true new news rows = refl
  puts_at false new news rows = refl

  -- the same of rows that are put one after another
  pub picked-puts : (news rows : List Row) → AreInOrder rows → picked (put_rows news rows) ≡ put_rows (picked news) (picked rows)
  picked-puts [] rows h = refl
  picked-puts (new ∷ news) rows h =
      picked-puts news (put_row new rows) (put_keeps_order new rows h) ∙ ap (put_rows (picked news)) (picked-put new rows h) ∙ puts_at (p new.path) new news (picked rows)

pub within_keeps_order : (path : List Seg) (rows : List Row) → AreInOrder rows → AreInOrder (rows_within path rows)
within_keeps_order path rows h = some_keep_order (is_within path) rows h

pub without_keeps_order : (path : List Seg) (rows : List Row) → AreInOrder rows → AreInOrder (rows_without path rows)
without_keeps_order path rows h = some_keep_order (λ x. not (is_within path x)) rows h

-- what has a value has one with a row more
pub still_some : (here : Bool) (value : Value) (later : Option Value) → is_some later ≡ true → is_some (cond here (Some value) later) ≡ true
still_some true value later h = refl
still_some false value later h = h

-- the value at a path after a row is put
pub value_at_put : (path : List Seg) (new : Row) (rows : List Row) → value_at path (put_row new rows) ≡ cond (is_eq (path_cmp path new.path)) (Some new.value) (value_at path rows)
value_at_put path new [] = refl
value_at_put path new (row ∷ rows) =
    elim (path_cmp new.path row.path) as (λ r. path_cmp new.path row.path ≡ r → value_at path (match_ordering r (new ∷ row ∷ rows) (record row { value = new.value } ∷ rows) (row ∷ put_row new rows)) ≡ cond (is_eq (path_cmp path new.path)) (Some new.value) (cond (is_eq (path_cmp path row.path)) (Some row.value) (value_at path rows))) [
      | Less ↦ λ e. refl
      | Equal ↦ λ e.
          rw (alike_right paths_total new.path row.path path e) (elim (is_eq (path_cmp path row.path)) as (λ b. cond b (Some new.value) (value_at path rows) ≡ cond b (Some new.value) (cond b (Some row.value) (value_at path rows))) [ true ↦ refl | false ↦ refl ])
      | Greater ↦ λ e.
          elim (is_eq (path_cmp path row.path)) as (λ b. is_eq (path_cmp path row.path) ≡ b → cond b (Some row.value) (value_at path (put_row new rows)) ≡ cond (is_eq (path_cmp path new.path)) (Some new.value) (cond b (Some row.value) (value_at path rows))) [
            | true ↦ λ h.
                let same = tells_apart paths_exact path row.path h in
                let apart : path_cmp path new.path ≡ Less = ap (λ p. path_cmp p new.path) same ∙ greater_turned new.path row.path e in
                rw apart refl
            | false ↦ λ h. value_at_put path new rows
          ] refl
    ] refl

pub or_none : (value : Option Value) → option_or value None ≡ value
or_none None = refl
or_none (Some value) = refl

here_or : (here : Bool) (value : Value) (there other : Option Value) → (here ≡ true → there ≡ None) → option_or there (cond here (Some value) other) ≡ option_or (cond here (Some value) there) other
here_or true value there other none = ap (λ (v : Option Value). option_or v (Some value)) (none refl)
here_or false value there other none = refl

-- the value at a path after rows in order are put: that of one of these, or else the one that was there
pub value_at_puts : (path : List Seg) (news rows : List Row) → AreInOrder news → value_at path (put_rows news rows) ≡ option_or (value_at path news) (value_at path rows)
value_at_puts path [] rows order = refl
value_at_puts path (new ∷ news) rows order =
    value_at_puts path news (put_row new rows) (rest_order new news order)
    ∙ ap (option_or (value_at path news)) (value_at_put path new rows)
    ∙ here_or (is_eq (path_cmp path new.path)) new.value (value_at path news) (value_at path rows) (λ here. none_past path news (subst (λ (p : List Seg). AllPast p news) (sym (are_one path new.path here)) (first_order new news order)))

-- the value at a path once the rows at or below another are gone
pub value_at_without : (path upper : List Seg) (rows : List Row) → value_at path (rows_without upper rows) ≡ cond (is_within upper path) None (value_at path rows)
value_at_without path upper [] = elim (is_within upper path) as (λ b. value_at path [] ≡ cond b None (value_at path [])) [ true ↦ refl | false ↦ refl ]
value_at_without path upper (row ∷ rows) =
    elim (is_within upper row.path) as (λ b. is_within upper row.path ≡ b → value_at path (cond (not b) (row ∷ rows_without upper rows) (rows_without upper rows)) ≡ cond (is_within upper path) None (cond (is_eq (path_cmp path row.path)) (Some row.value) (value_at path rows))) [
      | true ↦ λ h.
          elim (is_eq (path_cmp path row.path)) as (λ b. is_eq (path_cmp path row.path) ≡ b → value_at path (rows_without upper rows) ≡ cond (is_within upper path) None (cond b (Some row.value) (value_at path rows))) [
            | true ↦ λ e.
                let within : is_within upper path ≡ true = ap (is_within upper) (tells_apart paths_exact path row.path e) ∙ h in
                value_at_without path upper rows ∙ (rw within refl)
            | false ↦ λ e. value_at_without path upper rows
          ] refl
      | false ↦ λ h.
          elim (is_eq (path_cmp path row.path)) as (λ b. is_eq (path_cmp path row.path) ≡ b → cond b (Some row.value) (value_at path (rows_without upper rows)) ≡ cond (is_within upper path) None (cond b (Some row.value) (value_at path rows))) [
            | true ↦ λ e.
                let apart : is_within upper path ≡ false = ap (is_within upper) (tells_apart paths_exact path row.path e) ∙ h in
                rw apart refl
            | false ↦ λ e. value_at_without path upper rows
          ] refl
    ] refl

-- all rows are at or below the top
pub all_at_top : (rows : List Row) → AllByRecursion (λ (row : Row). is_within [] row.path ≡ true) rows
all_at_top [] = tt
all_at_top (row ∷ rows) = (refl, all_at_top rows)

pub all_within : (rows : List Row) → rows_within [] rows ≡ rows
all_within [] = refl
all_within (row ∷ rows) = ap (λ (more : List Row). row ∷ more) (all_within rows)

-- rows that come later are the last
pub last_more : (first : List Row) (later : List (List Row)) (next : List Row) → last_of first (later ++ next ∷ []) ≡ next
last_more first [] next = refl
last_more first (one ∷ later) next = last_more one later next
