-- Beginnings of one list, and of one history.
use Rattle.std.proofs.Common.{◌≡◌, ℕ, ◌<◌, ◌≤◌, List, [], ◌∷◌, ◌++◌, true, false, length, length-append, refl, ap, sym, subst, ◌∙◌, arith, suc}
use Rattle.std.proofs.lemmas.List.{append-nil}
use mathlib.Core.List.{IsPrefix}
use Rattle.yp_journal.specs.declared.entry.Entry.{Entry}
use Rattle.yp_published.specs.declared.history.Item.{Item}
use Rattle.yp_published.specs.declared.history.Item.TheVariants.{Added, End}
use Rattle.yp_published.specs.Histories.{entries_in, has_end, known_in, EndsOnce, Begins, AreOfLanes}

-- ---- lists

-- of two beginnings of one list the shorter begins the longer
pub prefix_shorter : {A : Type 0} (xs ys zs : List A) → IsPrefix xs zs → IsPrefix ys zs → length xs ≤ length ys → IsPrefix xs ys
prefix_shorter [] ys zs p q le = (ys, refl)
prefix_shorter (x ∷ xs) [] zs p q le = absurd (omega arith)
prefix_shorter (x ∷ xs) (y ∷ ys) [] p q le = absurd (cc (p.1))
prefix_shorter (x ∷ xs) (y ∷ ys) (z ∷ zs) p q le =
    let heads : x ≡ y = cc (p.1, q.1) in
    let rest = prefix_shorter xs ys zs (p.0, cc (p.1)) (q.0, cc (q.1)) (omega arith) in
    (rest.0, cc (heads, rest.1))

-- a beginning as long as the whole is the whole
pub prefix_whole : {A : Type 0} (xs ys : List A) → IsPrefix xs ys → length ys ≤ length xs → xs ≡ ys
prefix_whole [] [] p le = refl
prefix_whole [] (y ∷ ys) p le = absurd (omega arith)
prefix_whole (x ∷ xs) [] p le = absurd (cc (p.1))
prefix_whole (x ∷ xs) (y ∷ ys) p le =
    let rest = prefix_whole xs ys (p.0, cc (p.1)) (omega arith) in cc (p.1, rest)

pub prefix_length : {A : Type 0} (xs ys : List A) → IsPrefix xs ys → length xs ≤ length ys
prefix_length xs ys p = omega (arith, sym (ap length p.1) ∙ length-append xs p.0)

none_added : {A : Type 0} (xs ys : List A) → xs ++ ys ≡ [] → xs ≡ []
none_added [] ys none = refl
none_added (x ∷ xs) ys none = absurd (cc none)

-- ---- histories

pub entries_added : (xs ys : List Item) → entries_in (xs ++ ys) ≡ entries_in xs ++ entries_in ys
entries_added [] ys = refl
entries_added (Added entry ∷ xs) ys = ap (λ entries. entry ∷ entries) (entries_added xs ys)
entries_added (End ∷ xs) ys = entries_added xs ys

entries_begin : (xs zs : List Item) → IsPrefix xs zs → IsPrefix (entries_in xs) (entries_in zs)
entries_begin xs zs p = (entries_in p.0, sym (entries_added xs p.0) ∙ ap entries_in p.1)

-- of two beginnings of one history the one with fewer entries begins the other
pub compared : (xs ys both : List Item) → IsPrefix xs both → IsPrefix ys both → length (entries_in xs) ≤ length (entries_in ys) → IsPrefix (entries_in xs) (entries_in ys)
compared xs ys both p q le = prefix_shorter (entries_in xs) (entries_in ys) (entries_in both) (entries_begin xs both p) (entries_begin ys both q) le

-- a beginning with the end mark is the whole
end_is_last : (xs both : List Item) → IsPrefix xs both → EndsOnce both → has_end xs ≡ true → xs ≡ both
end_is_last [] both p once ends = absurd (cc ends)
end_is_last (x ∷ xs) [] p once ends = absurd (cc (p.1))
end_is_last (Added entry ∷ xs) (Added other ∷ both) p once ends =
    let rest : xs ≡ both = end_is_last xs both (p.0, cc (p.1)) once ends in cc (p.1, rest)
end_is_last (Added entry ∷ xs) (End ∷ both) p once ends = absurd (cc (p.1))
end_is_last (End ∷ xs) (Added other ∷ both) p once ends = absurd (cc (p.1))
end_is_last (End ∷ xs) (End ∷ both) p once ends =
    let rest : xs ++ p.0 ≡ both = cc (p.1) in
    let none : xs ≡ [] = none_added xs p.0 (rest ∙ once) in cc (none, once)

-- any beginning begins the history that has ended
pub begun : (xs ys both : List Item) → IsPrefix xs both → IsPrefix ys both → EndsOnce both → has_end ys ≡ true → Begins (known_in xs) (known_in ys)
begun xs ys both p q once ends =
    let all : ys ≡ both = end_is_last ys both q once ends in
    record {
      entries = subst (λ zs. IsPrefix (entries_in xs) (entries_in zs)) (sym all) (entries_begin xs both p);
      whole = λ here. ap known_in (end_is_last xs both p once here ∙ sym all);
    }

-- ---- one item more

-- a history that goes on may get one item more
pub once_more : (items : List Item) (ask : Item) → EndsOnce items → has_end items ≡ false → EndsOnce (items ++ ask ∷ [])
once_more [] (Added entry) once goes_on = tt
once_more [] End once goes_on = refl
once_more (Added entry ∷ items) ask once goes_on = once_more items ask once goes_on
once_more (End ∷ items) ask once goes_on = absurd (cc goes_on)

end_more : (items : List Item) (ask : Item) → has_end items ≡ false → has_end (items ++ ask ∷ []) ≡ has_end (ask ∷ [])
end_more [] ask goes_on = refl
end_more (Added entry ∷ items) ask goes_on = end_more items ask goes_on
end_more (End ∷ items) ask goes_on = absurd (cc goes_on)

-- a history that goes on is all entries
pub all_entries : (items : List Item) → has_end items ≡ false → length (entries_in items) ≡ length items
all_entries [] goes_on = refl
all_entries (Added entry ∷ items) goes_on = ap (λ n. suc n) (all_entries items goes_on)
all_entries (End ∷ items) goes_on = absurd (cc goes_on)

-- the history with one entry more
pub with_one : (items new : List Item) (entry : Entry) → new ≡ items ++ Added entry ∷ [] → EndsOnce items → has_end items ≡ false
    → (entries_in new ≡ entries_in items ++ entry ∷ []) × (has_end new ≡ false) × EndsOnce new
with_one items new entry is once goes_on = (
  ap entries_in is ∙ entries_added items (Added entry ∷ []),
  ap has_end is ∙ end_more items (Added entry) goes_on,
  subst EndsOnce (sym is) (once_more items (Added entry) once goes_on),
)

-- the history at its end
pub with_end : (items new : List Item) → new ≡ items ++ End ∷ [] → EndsOnce items → has_end items ≡ false
    → (entries_in new ≡ entries_in items) × (has_end new ≡ true) × EndsOnce new
with_end items new is once goes_on = (
  ap entries_in is ∙ (entries_added items (End ∷ []) ∙ append-nil (entries_in items)),
  ap has_end is ∙ end_more items End goes_on,
  subst EndsOnce (sym is) (once_more items End once goes_on),
)

-- what begins a history begins what is known of it
pub known_begins : (xs items : List Item) → IsPrefix xs items → EndsOnce items → Begins (known_in xs) (known_in items)
known_begins xs items p once = record { entries = entries_begin xs items p; whole = λ here. ap known_in (end_is_last xs items p once here) }

-- entries of lanes with one more
pub of_lanes_added : (lanes : ℕ) (xs : List Entry) (entry : Entry) → AreOfLanes lanes xs → (0 < entry.lane) × (entry.lane ≤ lanes) → AreOfLanes lanes (xs ++ entry ∷ [])
of_lanes_added lanes [] entry all own = (own, tt)
of_lanes_added lanes (x ∷ xs) entry all own = (all.0, of_lanes_added lanes xs entry all.1 own)
