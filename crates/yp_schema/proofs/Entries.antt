-- Entries in order of their paths: what is among them, what is put in, and that what is among them determines them.
use Rattle.std.proofs.Common.{◌≡◌, ℕ, List, [], ◌∷◌, map, true, false, cond, refl, sym, ap, ◌∙◌, Option, Some, None, option_map, Less, Equal, Greater}
use Rattle.std.specs.Ordering.{is_eq, match_ordering}
use Rattle.std.specs.BTreeMap.{insert_entry}
use Rattle.std.specs.List.{slice_get, Contains, AllByRecursion}
use Rattle.std.specs.List.Sorted.{IsPermutation, IsStrictlySortedBy}
use Rattle.std.specs.Map.{keys_of}
use Rattle.std.proofs.lemmas.Option.{slice_get_within, get_or_from_slice_get, slice_get-get_or, slice_get-map}
use Rattle.std.proofs.lemmas.List.Sorted.{IsPermutation-refl, IsPermutation-trans, IsPermutation-cons, IsPermutation-middle}
use Rattle.yp_schema.specs.declared.listing.Listed.{Listed}
use Rattle.yp_names.specs.Names.{Names, names_cmp}
use Rattle.yp_schema.specs.Rounds.{Nodes, listed_at}
use Rattle.yp_base.specs.Elements.{get_map}
use Rattle.yp_schema.proofs.Rising.{Above, Rising, names_exact, same_path, turned_back, above_all, listed_get, get_listed}

-- ---- what is among them

get_contains : {X : Type 0} (xs : List X) (n : ℕ) (x : X) → slice_get xs n ≡ Some x → Contains xs x
get_contains xs n x h = (n, slice_get_within xs n x h, get_or_from_slice_get xs n x x h)

contains_get : {X : Type 0} (xs : List X) (x : X) → Contains xs x → (n : ℕ) × (slice_get xs n ≡ Some x)
contains_get xs x c = (c.0, slice_get-get_or xs c.0 x c.1 ∙ ap Some c.2)

pub contains_map : {X Y : Type 0} (f : X → Y) (xs : List X) (x : X) → Contains xs x → Contains (map f xs) (f x)
contains_map f xs x c = let at = contains_get xs x c in get_contains (map f xs) at.0 (f x) (slice_get-map f xs at.0 ∙ ap (option_map f) at.1)

pub map_contains : {X Y : Type 0} (f : X → Y) (xs : List X) (y : Y) → Contains (map f xs) y → (x : X) × Contains xs x × (f x ≡ y)
map_contains f xs y c =
    let at = contains_get (map f xs) y c in
    let from = get_map f xs at.0 y at.1 in
    (from.0, get_contains xs at.0 from.0 from.1, from.2)

pub listed_contains : (nodes : Nodes) (path : Names) (x : Listed) → listed_at path nodes ≡ Some x → Contains nodes (path, x)
listed_contains nodes path x h = let found = get_listed nodes path x h in get_contains nodes found.0 (path, x) found.1

pub contains_listed : (nodes : Nodes) (e : Names × Listed) → Rising nodes → Contains nodes e → listed_at e.0 nodes ≡ Some e.1
contains_listed nodes e rise c = let at = contains_get nodes e c in listed_get nodes at.0 e rise at.1

-- ---- what is put in

pub entries_more : (nodes : Nodes) (path : Names) (node : Listed) → listed_at path nodes ≡ None → IsPermutation ((path, node) ∷ nodes) (insert_entry names_cmp nodes path node)
entries_more [] path node fresh = IsPermutation-refl ((path, node) ∷ [])
entries_more (e ∷ es) path node fresh =
    elim (names_cmp path e.0) as (λ r. names_cmp path e.0 ≡ r → IsPermutation ((path, node) ∷ e ∷ es) (match_ordering r ((path, node) ∷ e ∷ es) ((e.0, node) ∷ es) (e ∷ insert_entry names_cmp es path node))) [
      | Less ↦ λ is. IsPermutation-refl ((path, node) ∷ e ∷ es)
      | Equal ↦ λ is. let bad : Some e.1 ≡ None = sym (ap (λ r. cond (is_eq r) (Some e.1) (listed_at path es)) is) ∙ fresh in cc
      | Greater ↦ λ is.
          let rest : listed_at path es ≡ None = sym (ap (λ r. cond (is_eq r) (Some e.1) (listed_at path es)) is) ∙ fresh in
          IsPermutation-trans ((path, node) ∷ e ∷ es) (e ∷ (path, node) ∷ es) (e ∷ insert_entry names_cmp es path node) (IsPermutation-middle ((path, node) ∷ []) e es)
          (IsPermutation-cons e ((path, node) ∷ es) (insert_entry names_cmp es path node) (entries_more es path node rest))
    ] refl

-- ---- their order

above_sorted : (path : Names) (es : Nodes) → Above path es → AllByRecursion (λ y. names_cmp path y ≡ Less) (keys_of es)
above_sorted path [] all = tt
above_sorted path (e ∷ es) all = (all.0, above_sorted path es all.1)

sorted_above : (path : Names) (es : Nodes) → AllByRecursion (λ y. names_cmp path y ≡ Less) (keys_of es) → Above path es
sorted_above path [] all = tt
sorted_above path (e ∷ es) all = (all.0, sorted_above path es all.1)

pub sorted_of : (nodes : Nodes) → Rising nodes → IsStrictlySortedBy names_cmp (keys_of nodes)
unfolding IsStrictlySortedBy
sorted_of [] rise = tt
sorted_of (e ∷ es) rise = (above_sorted e.0 es rise.0, sorted_of es rise.1)

pub rising_of : (nodes : Nodes) → IsStrictlySortedBy names_cmp (keys_of nodes) → Rising nodes
unfolding IsStrictlySortedBy
rising_of [] sorted = tt
rising_of (e ∷ es) sorted = (sorted_above e.0 es sorted.0, rising_of es sorted.1)

-- ---- what is among them determines them

listed_below : (path : Names) (es : Nodes) → Above path es → listed_at path es ≡ None
listed_below path [] all = refl
listed_below path (e ∷ es) all = ap (λ r. cond (is_eq r) (Some e.1) (listed_at path es)) all.0 ∙ listed_below path es all.1

same_rising : (a b : Nodes) → Rising a → Rising b → ((q : Names) → listed_at q a ≡ listed_at q b) → a ≡ b
same_rising [] [] ra rb same = refl
same_rising [] (y ∷ ys) ra rb same = let bad : None ≡ Some y.1 = same y.0 ∙ listed_get (y ∷ ys) 0 y rb refl in cc
same_rising (x ∷ xs) [] ra rb same = let bad : Some x.1 ≡ None = sym (listed_get (x ∷ xs) 0 x ra refl) ∙ same x.0 in cc
same_rising (x ∷ xs) (y ∷ ys) ra rb same =
    elim (names_cmp x.0 y.0) as (λ r. names_cmp x.0 y.0 ≡ r → x ∷ xs ≡ y ∷ ys) [
      | Less ↦ λ is.
          let bad : Some x.1 ≡ None = sym (listed_get (x ∷ xs) 0 x ra refl) ∙ same x.0 ∙ listed_below x.0 (y ∷ ys) (is, above_all x.0 y.0 ys is rb.0) in cc
      | Greater ↦ λ is.
          let less : names_cmp y.0 x.0 ≡ Less = turned_back x.0 y.0 is in
          let bad : None ≡ Some y.1 = sym (listed_below y.0 (x ∷ xs) (less, above_all y.0 x.0 xs less ra.0)) ∙ same y.0 ∙ listed_get (y ∷ ys) 0 y rb refl in cc
      | Equal ↦ λ is.
          let paths : x.0 ≡ y.0 = names_exact x.0 y.0 is in
          let found : Some x.1 ≡ Some y.1 = sym (listed_get (x ∷ xs) 0 x ra refl) ∙ same x.0 ∙ ap (λ r. cond (is_eq r) (Some y.1) (listed_at x.0 ys)) is in
          let values : x.1 ≡ y.1 = cc in
          let rest : xs ≡ ys = same_rising xs ys ra.1 rb.1 (λ q. tail paths q) in
          λ i. (paths i, values i) ∷ rest i
    ] refl
  where
    tail : x.0 ≡ y.0 → (q : Names) → listed_at q xs ≡ listed_at q ys
    tail paths q =
        elim (is_eq (names_cmp q x.0)) as (λ t. is_eq (names_cmp q x.0) ≡ t → listed_at q xs ≡ listed_at q ys) [
          | true ↦ λ is.
              let one : q ≡ x.0 = same_path q x.0 is in
              ap (λ p. listed_at p xs) one ∙ listed_below x.0 xs ra.0 ∙ sym (ap (λ p. listed_at p ys) (one ∙ paths) ∙ listed_below y.0 ys rb.0)
          | false ↦ λ is.
              let other : is_eq (names_cmp q y.0) ≡ false = ap (λ p. is_eq (names_cmp q p)) (sym paths) ∙ is in
              sym (ap (λ t. cond t (Some x.1) (listed_at q xs)) is) ∙ same q ∙ ap (λ t. cond t (Some y.1) (listed_at q ys)) other
        ] refl

pub same_entries : (a b : Nodes) → Rising a → Rising b → ((e : Names × Listed) → Contains a e → Contains b e) → ((e : Names × Listed) → Contains b e → Contains a e) → a ≡ b
same_entries a b ra rb there back = same_rising a b ra rb (λ q. found q (listed_at q a) (listed_at q b) refl refl)
  where
    found : (q : Names) (o p : Option Listed) → listed_at q a ≡ o → listed_at q b ≡ p → listed_at q a ≡ listed_at q b
    found q (Some x) p is at = is ∙ sym (contains_listed b (q, x) rb (there (q, x) (listed_contains a q x is)))
    found q None None is at = is ∙ sym at
    found q None (Some y) is at = contains_listed a (q, y) ra (back (q, y) (listed_contains b q y at)) ∙ sym at
