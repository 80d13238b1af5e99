-- What the rounds leave is a schema, once it is numbered.
use Rattle.std.proofs.Common.{◌≡◌, ℕ, zero, suc, ◌+◌, ◌<◌, ◌≤◌, ◌&&◌, ◌||◌, List, [], ◌∷◌, ◌++◌, map, length, get_or, Bool, true, false, not, cond, refl, sym, ap, ◌∙◌, subst, Option, Some, None, is_some, option_and_then, Ordering, Less, Equal, Greater, arith, nat_lt, nat_eq, ◌⊎◌, inl, inr, Result, Ok, Err, IfOk}
use Rattle.std.specs.Ordering.{nat_cmp, ordering_then}
use Rattle.std.specs.Cmp.Lexicographic.{slice_cmp}
use Rattle.std.specs.List.{slice_get}
use Rattle.std.proofs.lemmas.List.{length-map}
use Rattle.std.proofs.lemmas.Cmp.{tied_itself, nat_list_cmp_total}
use Rattle.std.proofs.lemmas.Bool.Decides.{nat_tests}
use Rattle.serde_json.specs.Data.{Data}
use Rattle.std.proofs.lemmas.Bool.{and_parts}
use Rattle.yp_base.specs.PathLaws.{texts_same, texts_turned, texts_itself}
use Rattle.yp_base.specs.Types.{same_text, is_among, are_distinct, is_type, has_atoms}
use Rattle.yp_base.specs.declared.leaf_type.LeafType.{LeafType}
use Rattle.yp_schema.specs.declared.schema.Kind.{Kind}
use Rattle.yp_schema.specs.declared.schema.Kind.TheVariants.{Container, Presence, List as Listing, Leaf, LeafList}
use Rattle.yp_schema.specs.declared.schema.SchemaNode.{SchemaNode}
use Rattle.yp_schema.specs.declared.fault.SchemaFault.{SchemaFault}
use Rattle.yp_schema.specs.declared.listing.Listed.{Listed}
use Rattle.yp_names.specs.Names.{Names, names_cmp, front, last, is_name, go_on_name}
use Rattle.yp_base.specs.Paths.{same_number}
use Rattle.yp_schema.specs.Nodes.{node_at, no_node, child_of, is_child, place_from, is_in, may_hold}
use Rattle.yp_schema.specs.WellFormed.{is_parent_of, is_at_home, member_form, has_atom_type, has_type, has_none, is_leaf, is_key_leaf, are_key_leaves, is_empty, kind_stands, Stands, SiblingsInOrder, AreAbove, AreShallow, IsSchema}
use Rattle.yp_schema.specs.Stated.{are_key_names, all_names}
use Rattle.yp_schema.specs.Rounds.{Nodes, listed_at, module_of_holder, parent_module, atoms_in, is_typed, is_key_type, may_be_key, keys_fit, parts_in}
use Rattle.yp_schema.specs.Reading.{Reads, Numbers, numbers_from, number_of, with_number, key_numbers, numbered_node, numbered}
use Rattle.yp_names.specs.NameLaws.{front_append, last_append}
use Rattle.yp_schema.proofs.Numbering.{length_more}
use Rattle.yp_schema.proofs.Rising.{Rising, itself, turned, above_get, listed_get, number_get, get_number, get_listed, less_from_places, get_within, within_get}
use Rattle.yp_schema.proofs.Sound.{type_fits, kind_fits}
use Rattle.yp_schema.proofs.Kept.{IsKept, AreNodes, member_text, parts_kept, no_nodes}

-- ---- names

front_first : (xs : Names) (x : List ℕ) → names_cmp xs (xs ++ x ∷ []) ≡ Less
front_first [] x = refl
front_first (y ∷ ys) x = ap (λ r. ordering_then r (names_cmp ys (ys ++ x ∷ []))) (tied_itself nat_list_cmp_total y) ∙ front_first ys x

front_less : (path : Names) → front path ++ last path ∷ [] ≡ path → names_cmp (front path) path ≡ Less
front_less path way = subst (λ (p : Names). names_cmp (front path) p ≡ Less) way (front_first (front path) (last path))

siblings_cmp : (xs : Names) (a b : List ℕ) → names_cmp (xs ++ a ∷ []) (xs ++ b ∷ []) ≡ slice_cmp nat_cmp a b
siblings_cmp [] a b = then_equal (slice_cmp nat_cmp a b)
  where
    then_equal : (r : Ordering) → ordering_then r Equal ≡ r
    then_equal Less = refl
    then_equal Equal = refl
    then_equal Greater = refl
siblings_cmp (y ∷ ys) a b = ap (λ r. ordering_then r (names_cmp (ys ++ a ∷ []) (ys ++ b ∷ []))) (tied_itself nat_list_cmp_total y) ∙ siblings_cmp ys a b

go_on_colon : (xs ys : List ℕ) → go_on_name (xs ++ 58 ∷ ys) ≡ true → ⊥
go_on_colon [] ys h = cc
go_on_colon (x ∷ xs) ys h = go_on_colon xs ys (and_parts _ _ h).1

no_colon : (xs ys : List ℕ) → is_name (xs ++ 58 ∷ ys) ≡ true → ⊥
no_colon [] ys h = cc
no_colon (x ∷ xs) ys h = go_on_colon xs ys (and_parts _ _ (and_parts _ _ h).0).1

eq_itself : (n : ℕ) → nat_eq n n ≡ true
eq_itself n = grind (arith, nat_tests)

-- ---- places

places_from_less : (nodes : Nodes) (m n : ℕ) (d e : Names × Listed) → Rising nodes → slice_get nodes m ≡ Some d → slice_get nodes n ≡ Some e → names_cmp d.0 e.0 ≡ Less → m < n
places_from_less [] m n d e rise at_m at_n h = cc
places_from_less (x ∷ xs) zero zero d e rise at_m at_n h =
    let one : d ≡ e = cc in
    let bad : Less ≡ Equal = sym h ∙ ap (λ (y : Names × Listed). names_cmp y.0 e.0) one ∙ itself e.0 in
    cc
places_from_less (x ∷ xs) (suc m) zero d e rise at_m at_n h =
    let one : x ≡ e = cc in
    let bad : Less ≡ Greater = sym h ∙ ap (λ (y : Names × Listed). names_cmp d.0 y.0) (sym one) ∙ turned x.0 d.0 (above_get x.0 xs m d rise.0 at_m) in
    cc
places_from_less (x ∷ xs) zero (suc n) d e rise at_m at_n h = omega arith
places_from_less (x ∷ xs) (suc m) (suc n) d e rise at_m at_n h = omega (arith, places_from_less xs m n d e rise.1 at_m at_n h)

map_get : {X Y : Type 0} (f : X → Y) (xs : List X) (n : ℕ) (x : X) (d : Y) → slice_get xs n ≡ Some x → get_or (map f xs) n d ≡ f x
map_get f [] n x d h = cc
map_get f (y ∷ ys) zero x d h = let one : y ≡ x = cc in ap f one
map_get f (y ∷ ys) (suc n) x d h = map_get f ys n x d h

-- the only place where a test holds is the first
only_place : {X : Type 0} (test : X → Bool) (d : X) (from : ℕ) (xs : List X) (n : ℕ) → n < length xs → test (get_or xs n d) ≡ true
    → ((m : ℕ) → m < length xs → test (get_or xs m d) ≡ true → m ≡ n) → place_from test from xs ≡ Some (from + n)
only_place test d from [] n h is only = absurd (omega arith)
only_place test d from (x ∷ xs) zero h is only = ap (λ t. cond t (Some from) (place_from test (from + 1) xs)) is ∙ ap Some (let same : from ≡ from + 0 = omega arith in same)
only_place {X} test d from (x ∷ xs) (suc n) h is only =
    let same : from + 1 + n ≡ from + suc n = omega arith in
    let first : test x ≡ false = not_first (test x) refl in
    ap (λ t. cond t (Some from) (place_from test (from + 1) xs)) first
    ∙ only_place test d (from + 1) xs n (omega arith) is (λ m less holds. let one : suc m ≡ suc n = only (suc m) (omega arith) holds in omega (arith, one))
    ∙ ap Some same
  where
    not_first : (t : Bool) → test x ≡ t → test x ≡ false
    not_first true k = let bad : 0 ≡ suc n = only 0 (omega arith) k in absurd (omega arith)
    not_first false k = k

abbrev way_in : Option (Names × Listed) → Names
way_in None = []
way_in (Some e) = e.0

module _ (nodes : Nodes) (are : AreNodes nodes) where
  abbrev numbers : Numbers
  numbers = numbers_from 0 nodes

  abbrev schema : List SchemaNode
  schema = numbered nodes

  rise : Rising nodes
  rise = are.kept.rising

  node_is : (n : ℕ) (e : Names × Listed) → slice_get nodes n ≡ Some e → node_at n schema ≡ numbered_node numbers e
  node_is n e h = map_get (numbered_node numbers) nodes n e no_node h

  entry_at : (n : ℕ) → n < length schema → (e : Names × Listed) × (slice_get nodes n ≡ Some e)
  entry_at n h = get_within nodes n (omega (arith, length-map nodes (numbered_node numbers)))

  within : (n : ℕ) (e : Names × Listed) → slice_get nodes n ≡ Some e → n < length schema
  within n e h = omega (arith, length-map nodes (numbered_node numbers), within_get nodes n e h)

  kept_at : (n : ℕ) (e : Names × Listed) → slice_get nodes n ≡ Some e → IsKept nodes e.0 e.1
  kept_at n e h = are.kept.each e.0 e.1 (listed_get nodes n e rise h)

  number_at : (n : ℕ) (e : Names × Listed) → slice_get nodes n ≡ Some e → number_of e.0 numbers ≡ Some n
  number_at n e h = number_get 0 nodes n e rise h ∙ ap Some (let same : 0 + n ≡ n = omega arith in same)

  at_number : (path : Names) (m : ℕ) → number_of path numbers ≡ Some m → (x : Listed) × (slice_get nodes m ≡ Some (path, x))
  at_number path m h =
      let found = get_number 0 nodes path m h in
      let same : m ≡ found.0 = omega (arith, found.2) in
      let x : Listed = found.1.1 in
      let at : slice_get nodes found.0 ≡ Some (path, x) = found.3 ∙ (λ i. Some (found.4 i, x)) in
      (x, ap (slice_get nodes) same ∙ at)

  number_listed : (path : Names) (x : Listed) → listed_at path nodes ≡ Some x → (n : ℕ) × (number_of path numbers ≡ Some n) × (slice_get nodes n ≡ Some (path, x))
  number_listed path x h =
      let found = get_listed nodes path x h in
      (found.0, number_at found.0 (path, x) found.1, found.1)

  -- no node stands at the top itself
  no_top : (o : Option ℕ) → number_of [] numbers ≡ o → o ≡ None
  no_top None h = refl
  no_top (Some m) h =
      let found = at_number [] m h in
      let e : Names × Listed = ([], found.0) in
      let way : front e.0 ++ last e.0 ∷ [] ≡ e.0 = (kept_at m e found.1).way in
      cc

  -- the parent of a node is the top, or a node that is listed
  abbrev Parent : Names → Option (List ℕ) → Type 0
  Parent path above = ((path ≡ []) × (above ≡ None) × (number_of path numbers ≡ None))
      ⊎ ((p : ℕ) × (y : Listed) × (above ≡ Some y.home) × (may_hold y.body.kind ≡ true) × (number_of path numbers ≡ Some p) × (slice_get nodes p ≡ Some (path, y)))

  parent_of : (path : Names) (above : Option (List ℕ)) → parent_module path nodes ≡ Some above → Parent path above
  parent_of [] above h = inl (refl, (cc), no_top (number_of [] numbers) refl)
  parent_of (name ∷ names) above h = holder (listed_at (name ∷ names) nodes) refl h
    where
      holder : (o : Option Listed) → listed_at (name ∷ names) nodes ≡ o → option_and_then module_of_holder o ≡ Some above → Parent (name ∷ names) above
      holder None is k = cc
      holder (Some y) is k =
          elim (may_hold y.body.kind) as (λ t. may_hold y.body.kind ≡ t → cond t (Some (Some y.home)) None ≡ Some above → Parent (name ∷ names) above) [
            | false ↦ λ holds l. cc
            | true ↦ λ holds l.
                let found = number_listed (name ∷ names) y is in
                inr (found.0, y, (cc), holds, found.1, found.2)
          ] refl k

  parent_listed : (path : Names) (x : Listed) → front path ++ last path ∷ [] ≡ path → listed_at path nodes ≡ Some x → may_hold x.body.kind ≡ true → parent_module path nodes ≡ Some (Some x.home)
  parent_listed [] x way h holds = cc
  parent_listed (name ∷ names) x way h holds = ap (option_and_then module_of_holder) h ∙ ap (λ t. cond t (Some (Some x.home)) None) holds

  -- ---- what is so of the node of a number

  stands_parent : (n : ℕ) (e : Names × Listed) → slice_get nodes n ≡ Some e → is_parent_of (number_of (front e.0) numbers) n schema ≡ true
  stands_parent n e h =
      let k = kept_at n e h in
      elim (parent_of (front e.0) k.above k.parent) [
        | inl w ↦ ap (λ o. is_parent_of o n schema) w.2
        | inr w ↦
            let less : w.0 < n = places_from_less nodes w.0 n (front e.0, w.1) e rise w.5 h (front_less e.0 k.way) in
            let test : nat_lt w.0 n ≡ true = grind (arith, nat_tests) in
            ap (λ o. is_parent_of o n schema) w.4
            ∙ ap (λ t. t && may_hold (node_at w.0 schema).kind) test
            ∙ ap (λ (node : SchemaNode). may_hold node.kind) (node_is w.0 (front e.0, w.1) w.5) ∙ w.3
      ]

  stands_form : (n : ℕ) (e : Names × Listed) → slice_get nodes n ≡ Some e → last e.0 ≡ member_form (numbered_node numbers e) schema
  stands_form n e h =
      let k = kept_at n e h in
      let home = e.1.home in
      let name = e.1.name in
      elim (parent_of (front e.0) k.above k.parent) [
        | inl w ↦ k.written ∙ ap (λ a. member_text a home name) w.1 ∙ sym (ap (λ o. cond (is_at_home o home schema) name (home ++ 58 ∷ name)) w.2)
        | inr w ↦ k.written ∙ ap (λ a. member_text a home name) w.2
            ∙ sym (ap (λ (node : SchemaNode). cond (same_text node.home home) name (home ++ 58 ∷ name)) (node_is w.0 (front e.0, w.1) w.5))
            ∙ sym (ap (λ o. cond (is_at_home o home schema) name (home ++ 58 ∷ name)) w.4)
      ]

  -- ---- keys

  -- a number among those of some keys is of one of these keys
  in_among : (path : Names) (key : List ℕ) (k : ℕ) → number_of (path ++ key ∷ []) numbers ≡ Some k → (keys : Names) → is_in k (key_numbers path keys numbers) ≡ true → is_among key keys ≡ true
  in_among path key k at [] h = cc
  in_among path key k at (other ∷ keys) h =
      elim (number_of (path ++ other ∷ []) numbers) as (λ o. number_of (path ++ other ∷ []) numbers ≡ o → is_in k (with_number o (key_numbers path keys numbers)) ≡ true → (same_text key other || is_among key keys) ≡ true) [
        | None ↦ λ is i. or_right (same_text key other) (is_among key keys) (in_among path key k at keys i)
        | Some m ↦ λ is i.
            elim (nat_eq k m) as (λ t. nat_eq k m ≡ t → (t || is_in k (key_numbers path keys numbers)) ≡ true → (same_text key other || is_among key keys) ≡ true) [
              | true ↦ λ eq j.
                  let same : k ≡ m = grind (arith, nat_tests) in
                  let one = at_number (path ++ key ∷ []) k at in
                  let two = at_number (path ++ other ∷ []) m is in
                  let ways : path ++ key ∷ [] ≡ path ++ other ∷ [] = ap way_in (sym one.1 ∙ ap (slice_get nodes) same ∙ two.1) in
                  let keys_same : key ≡ other = sym (last_append path key) ∙ ap last ways ∙ last_append path other in
                  ap (λ t. t || is_among key keys) (sym (ap (same_text key) keys_same) ∙ texts_itself key)
              | false ↦ λ eq j. or_right (same_text key other) (is_among key keys) (in_among path key k at keys j)
            ] refl i
      ] refl h
    where
      or_right : (s t : Bool) → t ≡ true → (s || t) ≡ true
      or_right true t h = refl
      or_right false t h = h

  key_type : (kind : Kind) (keys : Names) (ty : Option LeafType) → is_key_type kind ty ≡ true → kind_fits kind keys ty ≡ true → (is_leaf kind ≡ true) × (has_atom_type ty ≡ true)
  key_type Container keys ty h fits = cc
  key_type Presence keys ty h fits = cc
  key_type Listing keys ty h fits = cc
  key_type Leaf keys None h fits = cc
  key_type Leaf keys (Some ty) h fits = (refl, ap (λ t. is_type ty && t) h ∙ ap (λ t. t && true) (and_parts (is_empty keys) (is_type ty) fits).1)
  key_type LeafList keys ty h fits = cc

  -- a leaf of a list, whose member form is a name, is of the list's module
  key_home : (above home name key : List ℕ) → is_name key ≡ true → key ≡ cond (same_text above home) name (home ++ 58 ∷ name) → same_text home above ≡ true
  key_home above home name key named written =
      elim (same_text above home) as (λ t. same_text above home ≡ t → key ≡ cond t name (home ++ 58 ∷ name) → same_text home above ≡ true) [
        | true ↦ λ is k. texts_turned home above ∙ is
        | false ↦ λ is k. absurd (no_colon home name (sym (ap is_name k) ∙ named))
      ] refl written

  key_leaf : (n : ℕ) (e : Names × Listed) → slice_get nodes n ≡ Some e → may_hold e.1.body.kind ≡ true → (key : List ℕ) → is_name key ≡ true
      → (z : Listed) → listed_at (e.0 ++ key ∷ []) nodes ≡ Some z → may_be_key (Some z) ≡ true
      → (k : ℕ) → slice_get nodes k ≡ Some (e.0 ++ key ∷ [], z) → is_key_leaf n schema k ≡ true
  key_leaf n e h holds key named z there may k at =
      let kept : IsKept nodes (e.0 ++ key ∷ []) z = are.kept.each (e.0 ++ key ∷ []) z there in
      let types = key_type z.body.kind z.body.keys z.body.ty may kept.body in
      let parent : parent_module e.0 nodes ≡ Some (Some e.1.home) = parent_listed e.0 e.1 (kept_at n e h).way (listed_get nodes n e rise h) holds in
      let above : Some kept.above ≡ Some (Some e.1.home) = sym kept.parent ∙ ap (λ p. parent_module p nodes) (front_append e.0 key) ∙ parent in
      let above_is : kept.above ≡ Some e.1.home = cc in
      let written : key ≡ member_text (Some e.1.home) z.home z.name = sym (last_append e.0 key) ∙ kept.written ∙ ap (λ a. member_text a z.home z.name) above_is in
      let home : same_text z.home e.1.home ≡ true = key_home e.1.home z.home z.name key named written in
      let node : node_at k schema ≡ numbered_node numbers (e.0 ++ key ∷ [], z) = node_is k (e.0 ++ key ∷ [], z) at in
      let own : node_at n schema ≡ numbered_node numbers e = node_is n e h in
      let less : k < length schema = within k (e.0 ++ key ∷ [], z) at in
      let in_range : nat_lt k (length schema) ≡ true = grind (arith, nat_tests) in
      let same_parent : same_number (number_of (front (e.0 ++ key ∷ [])) numbers) (Some n) ≡ true
      = ap (λ p. same_number (number_of p numbers) (Some n)) (front_append e.0 key) ∙ ap (λ o. same_number o (Some n)) (number_at n e h) ∙ eq_itself n in
      ap (λ t. t && same_number (node_at k schema).parent (Some n) && is_leaf (node_at k schema).kind && has_atom_type (node_at k schema).ty && same_text (node_at k schema).home (node_at n schema).home) in_range
      ∙ ap (λ (m : SchemaNode). same_number m.parent (Some n) && is_leaf m.kind && has_atom_type m.ty && same_text m.home (node_at n schema).home) node
      ∙ ap (λ (m : SchemaNode). same_number (number_of (front (e.0 ++ key ∷ [])) numbers) (Some n) && is_leaf z.body.kind && has_atom_type z.body.ty && same_text z.home m.home) own
      ∙ ap (λ t. t && is_leaf z.body.kind && has_atom_type z.body.ty && same_text z.home e.1.home) same_parent
      ∙ ap (λ t. t && has_atom_type z.body.ty && same_text z.home e.1.home) types.0
      ∙ ap (λ t. t && same_text z.home e.1.home) types.1
      ∙ home

  key_leaves : (n : ℕ) (e : Names × Listed) → slice_get nodes n ≡ Some e → may_hold e.1.body.kind ≡ true → (keys : Names) → keys_fit e.0 keys nodes ≡ true → all_names keys ≡ true → are_distinct keys ≡ true
      → are_key_leaves n schema (key_numbers e.0 keys numbers) ≡ true
  key_leaves n e h holds [] fit named distinct = refl
  key_leaves n e h holds (key ∷ keys) fit named distinct =
      let fits = and_parts _ _ fit in
      let names = and_parts (is_name key) (all_names keys) named in
      let others = and_parts (not (is_among key keys)) (are_distinct keys) distinct in
      one (listed_at (e.0 ++ key ∷ []) nodes) refl fits.0 names.0 others.0 (key_leaves n e h holds keys fits.1 names.1 others.1)
    where
      not_in : (k : ℕ) → number_of (e.0 ++ key ∷ []) numbers ≡ Some k → not (is_among key keys) ≡ true → not (is_in k (key_numbers e.0 keys numbers)) ≡ true
      not_in k at other =
          elim (is_in k (key_numbers e.0 keys numbers)) as (λ t. is_in k (key_numbers e.0 keys numbers) ≡ t → not t ≡ true) [
            | true ↦ λ is. let bad : not true ≡ true = sym (ap not (in_among e.0 key k at keys is)) ∙ other in cc
            | false ↦ λ is. refl
          ] refl

      one : (o : Option Listed) → listed_at (e.0 ++ key ∷ []) nodes ≡ o → may_be_key (listed_at (e.0 ++ key ∷ []) nodes) ≡ true → is_name key ≡ true → not (is_among key keys) ≡ true
          → are_key_leaves n schema (key_numbers e.0 keys numbers) ≡ true → are_key_leaves n schema (key_numbers e.0 (key ∷ keys) numbers) ≡ true
      one None is may name other rest = let bad : false ≡ true = sym (ap may_be_key is) ∙ may in cc
      one (Some z) is may name other rest =
          let found = number_listed (e.0 ++ key ∷ []) z is in
          let leaf = key_leaf n e h holds key name z is (sym (ap may_be_key is) ∙ may) found.0 found.2 in
          ap (λ o. are_key_leaves n schema (with_number o (key_numbers e.0 keys numbers))) found.1
          ∙ ap (λ t. t && not (is_in found.0 (key_numbers e.0 keys numbers)) && are_key_leaves n schema (key_numbers e.0 keys numbers)) leaf
          ∙ ap (λ t. t && are_key_leaves n schema (key_numbers e.0 keys numbers)) (not_in found.0 found.1 other)
          ∙ rest

  -- some keys have some numbers
  some_numbers : (path keys : Names) → keys_fit path keys nodes ≡ true → is_empty keys ≡ false → is_empty (key_numbers path keys numbers) ≡ false
  some_numbers path [] fit some = cc
  some_numbers path (key ∷ keys) fit some = one (listed_at (path ++ key ∷ []) nodes) refl (and_parts _ _ fit).0
    where
      one : (o : Option Listed) → listed_at (path ++ key ∷ []) nodes ≡ o → may_be_key (listed_at (path ++ key ∷ []) nodes) ≡ true → is_empty (key_numbers path (key ∷ keys) numbers) ≡ false
      one None is may = let bad : false ≡ true = sym (ap may_be_key is) ∙ may in cc
      one (Some z) is may = ap (λ o. is_empty (with_number o (key_numbers path keys numbers))) (number_listed (path ++ key ∷ []) z is).1

  no_keys : (path keys : Names) → is_empty keys ≡ true → is_empty (key_numbers path keys numbers) ≡ true
  no_keys path [] h = refl
  no_keys path (key ∷ keys) h = cc

  -- ---- kinds

  leaf_type : (ty : Option LeafType) → type_fits ty ≡ true → is_some ty ≡ true → has_type ty ≡ true
  leaf_type None fits some = cc
  leaf_type (Some ty) fits some = fits

  atom_type : (ty : Option LeafType) → type_fits ty ≡ true → atoms_in ty ≡ true → has_atom_type ty ≡ true
  atom_type None fits some = cc
  atom_type (Some ty) fits some = ap (λ t. t && has_atoms ty) fits ∙ some

  none_empty : (keys : Names) → are_key_names keys ≡ true → is_empty keys ≡ false
  none_empty [] h = cc
  none_empty (key ∷ keys) h = refl

  names_and_distinct : (keys : Names) → are_key_names keys ≡ true → (all_names keys ≡ true) × (are_distinct keys ≡ true)
  names_and_distinct [] h = cc
  names_and_distinct (key ∷ keys) h = and_parts (all_names (key ∷ keys)) (are_distinct (key ∷ keys)) h

  kind_at : (kind : Kind) (n : ℕ) (e : Names × Listed) → slice_get nodes n ≡ Some e → e.1.body.kind ≡ kind → kind_fits kind e.1.body.keys e.1.body.ty ≡ true → is_typed kind e.1.body.ty ≡ true
      → keys_fit e.0 e.1.body.keys nodes ≡ true → kind_stands kind n schema (numbered_node numbers e) ≡ true
  kind_at Container n e h is fits typed keys = let both = and_parts _ (has_none e.1.body.ty) fits in ap (λ t. t && has_none e.1.body.ty) (no_keys e.0 e.1.body.keys both.0) ∙ both.1
  kind_at Presence n e h is fits typed keys = let both = and_parts _ (has_none e.1.body.ty) fits in ap (λ t. t && has_none e.1.body.ty) (no_keys e.0 e.1.body.keys both.0) ∙ both.1
  kind_at Listing n e h is fits typed keys =
      let both = and_parts (are_key_names e.1.body.keys) (has_none e.1.body.ty) fits in
      let names = names_and_distinct e.1.body.keys both.0 in
      let numbers_of = key_numbers e.0 e.1.body.keys numbers in
      ap (λ t. not t && are_key_leaves n schema numbers_of && has_none e.1.body.ty) (some_numbers e.0 e.1.body.keys keys (none_empty e.1.body.keys both.0))
      ∙ ap (λ t. t && has_none e.1.body.ty) (key_leaves n e h (ap may_hold is) e.1.body.keys keys names.0 names.1)
      ∙ both.1
  kind_at Leaf n e h is fits typed keys =
      let both = and_parts _ (type_fits e.1.body.ty) fits in ap (λ t. t && has_type e.1.body.ty) (no_keys e.0 e.1.body.keys both.0) ∙ leaf_type e.1.body.ty both.1 typed
  kind_at LeafList n e h is fits typed keys =
      let both = and_parts _ (type_fits e.1.body.ty) fits in ap (λ t. t && has_atom_type e.1.body.ty) (no_keys e.0 e.1.body.keys both.0) ∙ atom_type e.1.body.ty both.1 typed

  -- ---- children of one node

  same_from : (a b : Option ℕ) → same_number a b ≡ true → a ≡ b
  same_from None None h = refl
  same_from None (Some y) h = cc
  same_from (Some x) None h = cc
  same_from (Some x) (Some y) h = let one : x ≡ y = grind (arith, nat_tests) in ap Some one

  same_number_itself : (a : Option ℕ) → same_number a a ≡ true
  same_number_itself None = refl
  same_number_itself (Some x) = eq_itself x

  -- nodes with one parent have one way to it
  one_way : (p q : Names) (a b : Option (List ℕ)) → Parent p a → Parent q b → number_of p numbers ≡ number_of q numbers → p ≡ q
  one_way p q a b above below same =
      elim above [
        | inl v ↦ elim below [
          | inl w ↦ v.0 ∙ sym w.0
          | inr w ↦ let bad : None ≡ Some w.0 = sym v.2 ∙ same ∙ w.4 in cc
        ]
        | inr v ↦ elim below [
          | inl w ↦ let bad : Some v.0 ≡ None = sym v.4 ∙ same ∙ w.2 in cc
          | inr w ↦
              let numbers_same : Some v.0 ≡ Some w.0 = sym v.4 ∙ same ∙ w.4 in
              let one : v.0 ≡ w.0 = cc in
              ap way_in (sym v.5 ∙ ap (slice_get nodes) one ∙ w.5)
        ]
      ]

  fronts_same : (m n : ℕ) (d e : Names × Listed) → slice_get nodes m ≡ Some d → slice_get nodes n ≡ Some e → number_of (front d.0) numbers ≡ number_of (front e.0) numbers → front d.0 ≡ front e.0
  fronts_same m n d e at_m at_n same =
      let j = kept_at m d at_m in
      let k = kept_at n e at_n in
      one_way (front d.0) (front e.0) j.above k.above (parent_of (front d.0) j.above j.parent) (parent_of (front e.0) k.above k.parent) same

  only_child : (n : ℕ) (e : Names × Listed) → slice_get nodes n ≡ Some e → (m : ℕ) → m < length schema
      → is_child (number_of (front e.0) numbers) (last e.0) (node_at m schema) ≡ true → m ≡ n
  only_child n e h m less child =
      let found = entry_at m less in
      let d = found.0 in
      let node : node_at m schema ≡ numbered_node numbers d = node_is m d found.1 in
      let both = and_parts (same_number (number_of (front d.0) numbers) (number_of (front e.0) numbers)) (same_text (last d.0) (last e.0))
      (sym (ap (is_child (number_of (front e.0) numbers) (last e.0)) node) ∙ child) in
      let fronts : front d.0 ≡ front e.0 = fronts_same m n d e found.1 h (same_from _ _ both.0) in
      let lasts : last d.0 ≡ last e.0 = texts_same (last d.0) (last e.0) both.1 in
      let ways : d.0 ≡ e.0 = sym (kept_at m d found.1).way ∙ (λ i. fronts i ++ lasts i ∷ []) ∙ (kept_at n e h).way in
      let numbers_same : Some m ≡ Some n = sym (number_at m d found.1) ∙ ap (λ p. number_of p numbers) ways ∙ number_at n e h in
      cc

  stands_found : (n : ℕ) (e : Names × Listed) → slice_get nodes n ≡ Some e → child_of (number_of (front e.0) numbers) (last e.0) schema ≡ Some n
  stands_found n e h =
      let same : 0 + n ≡ n = omega arith in
      only_place (is_child (number_of (front e.0) numbers) (last e.0)) no_node 0 schema n (within n e h)
      (ap (is_child (number_of (front e.0) numbers) (last e.0)) (node_is n e h)
      ∙ ap (λ t. t && same_text (last e.0) (last e.0)) (same_number_itself (number_of (front e.0) numbers)) ∙ texts_itself (last e.0))
      (only_child n e h) ∙ ap Some same

  stands : (n : ℕ) → n < length schema → Stands schema n
  stands n less =
      let found = entry_at n less in
      let e = found.0 in
      let h = found.1 in
      let node : numbered_node numbers e ≡ node_at n schema = sym (node_is n e h) in
      let k = kept_at n e h in
      record {
        parent = ap (λ (m : SchemaNode). is_parent_of m.parent n schema) (sym node) ∙ stands_parent n e h;
        module_name = ap (λ (m : SchemaNode). is_name m.home) (sym node) ∙ k.home;
        node_name = ap (λ (m : SchemaNode). is_name m.name) (sym node) ∙ k.name;
        form = subst (λ (m : SchemaNode). m.member ≡ member_form m schema) node (stands_form n e h);
        kind = ap (λ (m : SchemaNode). kind_stands m.kind n schema m) (sym node)
            ∙ kind_at e.1.body.kind n e h refl k.body k.typed (are.keys e.0 e.1 (listed_get nodes n e rise h));
        found = ap (λ (m : SchemaNode). child_of m.parent m.member schema) (sym node) ∙ stands_found n e h;
      }

  in_order : SiblingsInOrder schema
  in_order m n less within_n same =
      let at_m = entry_at m (omega arith) in
      let at_n = entry_at n within_n in
      let d = at_m.0 in
      let e = at_n.0 in
      let one : node_at m schema ≡ numbered_node numbers d = node_is m d at_m.1 in
      let two : node_at n schema ≡ numbered_node numbers e = node_is n e at_n.1 in
      let parents : number_of (front d.0) numbers ≡ number_of (front e.0) numbers
      = same_from _ _ (sym (λ i. same_number (one i).parent (two i).parent) ∙ same) in
      let fronts : front d.0 ≡ front e.0 = fronts_same m n d e at_m.1 at_n.1 parents in
      let cmp : names_cmp d.0 e.0 ≡ Less = less_from_places nodes m n d e rise at_m.1 at_n.1 less in
      let ways : names_cmp d.0 e.0 ≡ names_cmp (front e.0 ++ last d.0 ∷ []) (front e.0 ++ last e.0 ∷ [])
      = sym (λ i. names_cmp ((kept_at m d at_m.1).way i) ((kept_at n e at_n.1).way i)) ∙ ap (λ p. names_cmp (p ++ last d.0 ∷ []) (front e.0 ++ last e.0 ∷ [])) fronts in
      (λ i. slice_cmp nat_cmp (one i).member (two i).member) ∙ sym (siblings_cmp (front e.0) (last d.0) (last e.0)) ∙ sym ways ∙ cmp

  -- ---- ways down

  -- what stands above a node is fewer than the names on the way to it
  above_fewer : (above : List ℕ) (n : ℕ) (e : Names × Listed) → slice_get nodes n ≡ Some e → AreAbove schema n above → length above < length e.0
  above_fewer [] n e h up =
      let way : length (front e.0 ++ last e.0 ∷ []) ≡ length e.0 = ap length (kept_at n e h).way in
      let one : length (front e.0) + 1 ≡ length (front e.0 ++ last e.0 ∷ []) = length_more (front e.0) (last e.0) in
      omega arith
  above_fewer (parent ∷ above) n e h up =
      let way : length (front e.0 ++ last e.0 ∷ []) ≡ length e.0 = ap length (kept_at n e h).way in
      let one : length (front e.0) + 1 ≡ length (front e.0 ++ last e.0 ∷ []) = length_more (front e.0) (last e.0) in
      let number : number_of (front e.0) numbers ≡ Some parent = sym (ap (λ (m : SchemaNode). m.parent) (node_is n e h)) ∙ up.0 in
      let found = at_number (front e.0) parent number in
      let fewer : length above < length (front e.0) = above_fewer above parent (front e.0, found.0) found.1 up.1 in
      omega arith

  are_shallow : AreShallow schema
  are_shallow n above less up =
      let found = entry_at n less in
      let fewer : length above < length found.0.0 = above_fewer above n found.0 found.1 up in
      let deep : length found.0.0 ≤ 16 = (kept_at n found.0 found.1).depth in
      omega arith

  is_schema : IsSchema schema
  is_schema = record {
    few = omega (arith, length-map nodes (numbered_node numbers), are.kept.few);
    shallow = are_shallow;
    each = stands;
    siblings = in_order;
  }

-- what is read of some parts is a schema
pub parts_are_schema : (ds : List Data) (nodes : Nodes) → parts_in 0 ds [] ≡ Ok nodes → IsSchema (numbered nodes)
parts_are_schema ds nodes h = is_schema nodes (parts_kept 0 ds [] nodes no_nodes h)

pub read_schema : (ds : List Data) (r : Result Nodes SchemaFault) → Reads r (parts_in 0 ds []) → IfOk r (λ nodes. IsSchema (numbered nodes))
read_schema ds (Ok nodes) h = parts_are_schema ds nodes h
read_schema ds (Err e) h = tt
