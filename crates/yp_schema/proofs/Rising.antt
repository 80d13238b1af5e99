-- Nodes in the order of the names on the way to them: look-ups, places and what is put in.
use Rattle.std.proofs.Common.{◌≡◌, ℕ, zero, suc, ◌+◌, ◌<◌, [], ◌∷◌, length, Bool, true, false, cond, refl, sym, ap, ◌∙◌, subst, Some, Ordering, Less, Equal, Greater, arith}
use Rattle.std.specs.Ordering.{is_eq, match_ordering, ordering_reverse}
use Rattle.std.specs.BTreeMap.{insert_entry}
use Rattle.std.specs.FinMap.{slice_cmp-IsAntisymmetric}
use Rattle.std.specs.List.{slice_get}
use Rattle.std.proofs.lemmas.Cmp.{alike_right, tied_itself}
use Rattle.std.proofs.lemmas.Map.Lookups.{CmpEqualImpliesEq, exact_bytes}
use Rattle.yp_schema.specs.declared.listing.Listed.{Listed}
use Rattle.yp_names.specs.Names.{Names, names_cmp, names_total}
use Rattle.yp_schema.specs.Rounds.{Nodes, listed_at}
use Rattle.yp_schema.specs.Reading.{numbers_from, number_of}

abbrev pub Above : Names → Nodes → Type 0
Above path [] = Unit {0}
Above path (e ∷ es) = (names_cmp path e.0 ≡ Less) × Above path es

abbrev pub Rising : Nodes → Type 0
Rising [] = Unit {0}
Rising (e ∷ es) = Above e.0 es × Rising es

pub names_exact : CmpEqualImpliesEq names_cmp
names_exact = slice_cmp-IsAntisymmetric exact_bytes

pub itself : (path : Names) → names_cmp path path ≡ Equal
itself path = tied_itself names_total path

pub equal_from : (r : Ordering) → is_eq r ≡ true → r ≡ Equal
equal_from Less h = cc
equal_from Equal h = refl
equal_from Greater h = cc

pub same_path : (q p : Names) → is_eq (names_cmp q p) ≡ true → q ≡ p
same_path q p h = names_exact q p (equal_from (names_cmp q p) h)

pub turned : (p q : Names) → names_cmp p q ≡ Less → names_cmp q p ≡ Greater
turned p q h = names_total.antisymm q p ∙ ap ordering_reverse h

pub turned_back : (p q : Names) → names_cmp p q ≡ Greater → names_cmp q p ≡ Less
turned_back p q h = names_total.antisymm q p ∙ ap ordering_reverse h

-- ---- what is put in

cond_twice : {X : Type 0} (c : Bool) (x y z : X) → cond c x z ≡ cond c x (cond c y z)
cond_twice true x y z = refl
cond_twice false x y z = refl

cond_swap : {X : Type 0} (c d : Bool) (x y z : X) → (c ≡ true → d ≡ true → ⊥) → cond c x (cond d y z) ≡ cond d y (cond c x z)
cond_swap true true x y z h = absurd (h refl refl)
cond_swap true false x y z h = refl
cond_swap false true x y z h = refl
cond_swap false false x y z h = refl

apart : (q p e : Names) → names_cmp p e ≡ Greater → is_eq (names_cmp q e) ≡ true → is_eq (names_cmp q p) ≡ true → ⊥
apart q p e is at_e at_p =
    let one : p ≡ e = sym (same_path q p at_p) ∙ same_path q e at_e in
    let two : names_cmp p e ≡ Equal = subst (λ (x : Names). names_cmp p x ≡ Equal) one (itself p) in
    let bad : Greater ≡ Equal = sym is ∙ two in
    cc

pub listed_insert : (nodes : Nodes) (path : Names) (node : Listed) (q : Names)
    → listed_at q (insert_entry names_cmp nodes path node) ≡ cond (is_eq (names_cmp q path)) (Some node) (listed_at q nodes)
listed_insert [] path node q = refl
listed_insert (e ∷ es) path node q =
    elim (names_cmp path e.0) as (λ r. names_cmp path e.0 ≡ r
    → listed_at q (match_ordering r ((path, node) ∷ e ∷ es) ((e.0, node) ∷ es) (e ∷ insert_entry names_cmp es path node))
    ≡ cond (is_eq (names_cmp q path)) (Some node) (cond (is_eq (names_cmp q e.0)) (Some e.1) (listed_at q es))) [
      | Less ↦ λ is. refl
      | Equal ↦ λ is. cond_twice (is_eq (names_cmp q e.0)) (Some node) (Some e.1) (listed_at q es)
          ∙ ap (λ r. cond (is_eq r) (Some node) (cond (is_eq (names_cmp q e.0)) (Some e.1) (listed_at q es))) (sym (alike_right names_total path e.0 q is))
      | Greater ↦ λ is. ap (λ found. cond (is_eq (names_cmp q e.0)) (Some e.1) found) (listed_insert es path node q)
          ∙ cond_swap (is_eq (names_cmp q e.0)) (is_eq (names_cmp q path)) (Some e.1) (Some node) (listed_at q es) (apart q path e.0 is)
    ] refl

above_insert : (first : Names) (nodes : Nodes) (path : Names) (node : Listed) → names_cmp first path ≡ Less → Above first nodes → Above first (insert_entry names_cmp nodes path node)
above_insert first [] path node h all = (h, tt)
above_insert first (e ∷ es) path node h all =
    elim (names_cmp path e.0) as (λ r. Above first (match_ordering r ((path, node) ∷ e ∷ es) ((e.0, node) ∷ es) (e ∷ insert_entry names_cmp es path node))) [
      | Less ↦ (h, all)
      | Equal ↦ all
      | Greater ↦ (all.0, above_insert first es path node h all.1)
    ]

pub above_all : (path first : Names) (es : Nodes) → names_cmp path first ≡ Less → Above first es → Above path es
above_all path first [] h all = tt
above_all path first (e ∷ es) h all = (names_total.trans path first e.0 h all.0, above_all path first es h all.1)

pub rising_insert : (nodes : Nodes) (path : Names) (node : Listed) → Rising nodes → Rising (insert_entry names_cmp nodes path node)
rising_insert [] path node h = (tt, tt)
rising_insert (e ∷ es) path node h =
    elim (names_cmp path e.0) as (λ r. names_cmp path e.0 ≡ r → Rising (match_ordering r ((path, node) ∷ e ∷ es) ((e.0, node) ∷ es) (e ∷ insert_entry names_cmp es path node))) [
      | Less ↦ λ is. ((is, above_all path e.0 es is h.0), h)
      | Equal ↦ λ is. h
      | Greater ↦ λ is. (above_insert e.0 es path node (turned_back path e.0 is) h.0, rising_insert es path node h.1)
    ] refl

-- ---- places

pub above_get : (path : Names) (nodes : Nodes) (n : ℕ) (e : Names × Listed) → Above path nodes → slice_get nodes n ≡ Some e → names_cmp path e.0 ≡ Less
above_get path [] n e all h = cc
above_get path (x ∷ xs) zero e all h = let one : x ≡ e = cc in subst (λ (y : Names × Listed). names_cmp path y.0 ≡ Less) one all.0
above_get path (x ∷ xs) (suc n) e all h = above_get path xs n e all.1 h

pub listed_get : (nodes : Nodes) (n : ℕ) (e : Names × Listed) → Rising nodes → slice_get nodes n ≡ Some e → listed_at e.0 nodes ≡ Some e.1
listed_get [] n e rise h = cc
listed_get (x ∷ xs) zero e rise h =
    let one : x ≡ e = cc in
    subst (λ (y : Names × Listed). cond (is_eq (names_cmp y.0 x.0)) (Some x.1) (listed_at y.0 xs) ≡ Some y.1) one (ap (λ r. cond (is_eq r) (Some x.1) (listed_at x.0 xs)) (itself x.0))
listed_get (x ∷ xs) (suc n) e rise h =
    ap (λ r. cond (is_eq r) (Some x.1) (listed_at e.0 xs)) (turned x.0 e.0 (above_get x.0 xs n e rise.0 h)) ∙ listed_get xs n e rise.1 h

pub number_get : (from : ℕ) (nodes : Nodes) (n : ℕ) (e : Names × Listed) → Rising nodes → slice_get nodes n ≡ Some e → number_of e.0 (numbers_from from nodes) ≡ Some (from + n)
number_get from [] n e rise h = cc
number_get from (x ∷ xs) zero e rise h =
    let one : x ≡ e = cc in
    let same : from ≡ from + 0 = omega arith in
    subst (λ (y : Names × Listed). cond (is_eq (names_cmp y.0 x.0)) (Some from) (number_of y.0 (numbers_from (from + 1) xs)) ≡ Some (from + 0)) one
    (ap (λ r. cond (is_eq r) (Some from) (number_of x.0 (numbers_from (from + 1) xs))) (itself x.0) ∙ ap Some same)
number_get from (x ∷ xs) (suc n) e rise h =
    let same : from + 1 + n ≡ from + suc n = omega arith in
    ap (λ r. cond (is_eq r) (Some from) (number_of e.0 (numbers_from (from + 1) xs))) (turned x.0 e.0 (above_get x.0 xs n e rise.0 h)) ∙ number_get (from + 1) xs n e rise.1 h ∙ ap Some same

-- a number is the place of the node of that path
pub get_number : (from : ℕ) (nodes : Nodes) (path : Names) (m : ℕ) → number_of path (numbers_from from nodes) ≡ Some m
    → (n : ℕ) × (e : Names × Listed) × (m ≡ from + n) × (slice_get nodes n ≡ Some e) × (e.0 ≡ path)
get_number from [] path m h = cc
get_number from (x ∷ xs) path m h =
    elim (is_eq (names_cmp path x.0)) as (λ t. is_eq (names_cmp path x.0) ≡ t → cond t (Some from) (number_of path (numbers_from (from + 1) xs)) ≡ Some m
    → (n : ℕ) × (e : Names × Listed) × (m ≡ from + n) × (slice_get (x ∷ xs) n ≡ Some e) × (e.0 ≡ path)) [
      | true ↦ λ is k. let same : from ≡ m = cc in (0, x, sym same ∙ omega arith, refl, sym (same_path path x.0 is))
      | false ↦ λ is k. let found = get_number (from + 1) xs path m k in (suc found.0, found.1, found.2 ∙ omega arith, found.3, found.4)
    ] refl h

pub get_listed : (nodes : Nodes) (path : Names) (x : Listed) → listed_at path nodes ≡ Some x → (n : ℕ) × (slice_get nodes n ≡ Some (path, x))
get_listed [] path x h = cc
get_listed (e ∷ es) path x h =
    elim (is_eq (names_cmp path e.0)) as (λ t. is_eq (names_cmp path e.0) ≡ t → cond t (Some e.1) (listed_at path es) ≡ Some x → (n : ℕ) × (slice_get (e ∷ es) n ≡ Some (path, x))) [
      | true ↦ λ is k. let one : path ≡ e.0 = same_path path e.0 is in let two : e.1 ≡ x = cc in (0, λ i. Some (sym one i, two i))
      | false ↦ λ is k. let found = get_listed es path x k in (suc found.0, found.1)
    ] refl h

pub less_from_places : (nodes : Nodes) (m n : ℕ) (d e : Names × Listed) → Rising nodes → slice_get nodes m ≡ Some d → slice_get nodes n ≡ Some e → m < n → names_cmp d.0 e.0 ≡ Less
less_from_places [] m n d e rise at_m at_n h = cc
less_from_places (x ∷ xs) m zero d e rise at_m at_n h = absurd (omega arith)
less_from_places (x ∷ xs) zero (suc n) d e rise at_m at_n h =
    let one : x ≡ d = cc in subst (λ (y : Names × Listed). names_cmp y.0 e.0 ≡ Less) one (above_get x.0 xs n e rise.0 at_n)
less_from_places (x ∷ xs) (suc m) (suc n) d e rise at_m at_n h = less_from_places xs m n d e rise.1 at_m at_n (omega arith)

pub get_within : (nodes : Nodes) (n : ℕ) → n < length nodes → (e : Names × Listed) × (slice_get nodes n ≡ Some e)
get_within [] n h = absurd (omega arith)
get_within (x ∷ xs) zero h = (x, refl)
get_within (x ∷ xs) (suc n) h = get_within xs n (omega arith)

pub within_get : (nodes : Nodes) (n : ℕ) (e : Names × Listed) → slice_get nodes n ≡ Some e → n < length nodes
within_get [] n e h = cc
within_get (x ∷ xs) zero e h = omega arith
within_get (x ∷ xs) (suc n) e h = omega (arith, within_get xs n e h)
