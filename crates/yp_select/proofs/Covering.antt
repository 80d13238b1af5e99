-- What a filter keeps is within its reaches.
use Rattle.std.proofs.Common.{◌≡◌, ◌≤◌, ◌+◌, ℕ, List, [], ◌∷◌, ◌++◌, length, refl, sym, ap, subst, ◌∙◌, cond, Bool, true, false, true≢false, not, ◌||◌, ◌&&◌, Option, Some, None, append_assoc, append-nil, length-append, arith}
use Rattle.std.specs.Prelude.{nat_eq, nat_lt, is_some}
use Rattle.std.specs.Ordering.{is_eq}
use Rattle.std.proofs.lemmas.Bool.{and_parts, and_from}
use Rattle.std.proofs.lemmas.List.Folds.{list_any-append}
use Rattle.std.proofs.lemmas.Cmp.{tied_itself}
use Rattle.std.proofs.lemmas.Map.Views.{tells_apart}
use Rattle.yp_base.specs.declared.atom.Atom.{Atom}
use Rattle.yp_base.specs.declared.path.Seg.{Seg}
use Rattle.yp_base.specs.declared.row.Value.{Value}
use Rattle.yp_base.specs.declared.row.Value.TheVariants.{Atom as Plain, Member, Empty, Present}
use Rattle.yp_base.specs.declared.row.Row.{Row}
use Rattle.yp_base.specs.Exact.{atoms_exact}
use Rattle.yp_base.specs.Order.{path_cmp, is_within}
use Rattle.yp_base.specs.OrderLaws.{paths_total}
use Rattle.yp_base.specs.Paths.{last_segment, same_number}
use Rattle.yp_base.specs.PathLaws.{within_itself, within_longer}
use Rattle.yp_base.specs.Rows.{value_at}
use Rattle.yp_schema.specs.declared.schema.SchemaNode.{SchemaNode}
use Rattle.yp_schema.specs.declared.schema.Kind.{Kind}
use Rattle.yp_schema.specs.declared.schema.Kind.TheVariants.{Container, Presence, List as Listing, Leaf, LeafList}
use Rattle.yp_schema.specs.Nodes.{node_at, is_in}
use Rattle.yp_schema.specs.WellFormed.{IsSchema, is_empty, is_leaf, is_key_leaf, are_key_leaves, kind_stands}
use Rattle.yp_schema.specs.Datastore.{keys_fit, keys_of_kind, is_segment, goes_down, atom_fits}
use Rattle.yp_schema.specs.SchemaLaws.{segment_within, first_segment}
use Rattle.yp_filter.specs.Filters.{Node, Nodes, select, compare, within, unknown, unknown_compare, none, more, of_set, node_size, set_size}
use Rattle.yp_filter.specs.Fits.{is_child_of, node_fits, set_fits}
use Rattle.yp_kept.specs.Matches.{atom_in, either_of, key_among, key_in, key_at, match_segment, holds_by, match_holds, all_hold}
use Rattle.yp_kept.specs.Selection.{enters_by, all_match, has_match, set_names, set_selects, enters, keeps, node_leads, set_leads, kept}
use Rattle.yp_select.specs.Reaches.{key_asked, asks_keys, onto, entry_keys, names_one, way_segment, is_narrow, are_narrow, own_by, own_of_node, own_of_nodes, own_reached, below_by, below_of_node, below_of_nodes, below_reached, is_one_of, is_below, is_reached, node_stands, set_stands}
use Rattle.yp_kept.specs.KeptLaws.{keeps_hold}

-- ---- the entry that a set asks for

-- the key of an instance is that of its last segment
key_of_last : (nodes : List SchemaNode) (at : List Seg) (seg : Seg) (n : ℕ) → key_at nodes (at ++ seg ∷ []) n ≡ key_in nodes seg n
key_of_last nodes [] seg n = refl
key_of_last nodes (first ∷ at) seg n = ap (λ (last : Seg). key_in nodes last n) (last_of first at)
  where
    last_of : (first : Seg) (at : List Seg) → last_segment first (at ++ seg ∷ []) ≡ seg
    last_of first [] = refl
    last_of first (next ∷ at) = last_of next at

self_same : (n : ℕ) → nat_eq n n ≡ true
self_same n = grind arith

is_same : (n m : ℕ) → nat_eq n m ≡ true → n ≡ m
is_same n m same = grind (arith, same)

plain_asked : (value : Value) (atom : Atom) → atom_in (Some value) ≡ Some atom → value ≡ Plain atom
plain_asked (Plain one) atom is = let same : one ≡ atom = cc in ap Plain same
plain_asked Member atom is = let no : None ≡ Some atom = is in cc
plain_asked Empty atom is = let no : None ≡ Some atom = is in cc
plain_asked Present atom is = let no : None ≡ Some atom = is in cc

-- where all match nodes of a set hold, so does the one that asks for a key
asked_holds : (nodes : List SchemaNode) (rows : List Row) (at : List Seg) (key : ℕ) (atom : Atom) (set : Nodes) → all_hold nodes rows at set ≡ true → key_asked key set ≡ Some atom → match_holds nodes rows at key (Plain atom) ≡ true
asked_holds nodes rows at key atom none hold asked = let no : None ≡ Some atom = asked in cc
asked_holds nodes rows at key atom (more (select n) set) hold asked = asked_holds nodes rows at key atom set hold asked
asked_holds nodes rows at key atom (more (compare n value) set) hold asked =
    let parts = and_parts (match_holds nodes rows at n value) (all_hold nodes rows at set) hold in
    elim (nat_eq n key) as (λ b. nat_eq n key ≡ b → either_of (cond b (atom_in (Some value)) None) (key_asked key set) ≡ Some atom → match_holds nodes rows at key (Plain atom) ≡ true) [
      | true ↦ λ same.
          elim (atom_in (Some value)) as (λ o. atom_in (Some value) ≡ o → either_of o (key_asked key set) ≡ Some atom → match_holds nodes rows at key (Plain atom) ≡ true) [
            | None ↦ λ is later. asked_holds nodes rows at key atom set parts.1 later
            | Some one ↦ λ is here. (λ i. match_holds nodes rows at (sym (is_same n key same) i) (sym (plain_asked value atom (is ∙ here)) i)) ∙ parts.0
          ] refl
      | false ↦ λ same later. asked_holds nodes rows at key atom set parts.1 later
    ] refl asked
asked_holds nodes rows at key atom (more (within n inner) set) hold asked = asked_holds nodes rows at key atom set hold asked
asked_holds nodes rows at key atom (more unknown set) hold asked = asked_holds nodes rows at key atom set hold asked
asked_holds nodes rows at key atom (more unknown_compare set) hold asked = absurd (true≢false (sym hold))

-- an entry with an atom for each key has one for this
has_key : (nodes : List SchemaNode) (key : ℕ) (keys : List ℕ) (atoms : List Atom) → is_in key keys ≡ true → keys_fit nodes keys atoms ≡ true → key_among key keys atoms ≡ None → ⊥
has_key nodes key [] atoms among fit gone = true≢false (sym among)
has_key nodes key (k ∷ keys) [] among fit gone = true≢false (sym fit)
has_key nodes key (k ∷ keys) (atom ∷ atoms) among fit gone =
    elim (nat_eq key k) as (λ b. (b || is_in key keys) ≡ true → cond b (Some atom) (key_among key keys atoms) ≡ None → ⊥) [
      | true ↦ λ there missing. (let no : Some atom ≡ None = missing in cc)
      | false ↦ λ there missing. has_key nodes key keys atoms there (and_parts (atom_fits (node_at k nodes).ty atom) (keys_fit nodes keys atoms) fit).1 missing
    ] among gone

-- where a match on a key that an entry has holds, the key is the atom that is asked for
key_is : (kind : Kind) (key : Option Atom) (asked : Atom) (found : Option Value) (has : key ≡ None → ⊥) → kind ≡ Leaf → holds_by kind key (Plain asked) found ≡ true → key ≡ Some asked
key_is Container key asked found has leaf holds = absurd (true≢false (sym holds))
key_is Presence key asked found has leaf holds = absurd (true≢false (sym holds))
key_is Listing key asked found has leaf holds = absurd (true≢false (sym holds))
key_is Leaf None asked found has leaf holds = absurd (has refl)
key_is Leaf (Some atom) asked found has leaf holds = ap (λ a. Some a) (tells_apart atoms_exact atom asked holds)
key_is LeafList key asked found has leaf holds = absurd (true≢false (sym (ap is_leaf leaf)))

-- a node of a kind that is_leaf tells is a leaf
leaf_kind : (kind : Kind) → is_leaf kind ≡ true → kind ≡ Leaf
leaf_kind Container is = absurd (true≢false (sym is))
leaf_kind Presence is = absurd (true≢false (sym is))
leaf_kind Listing is = absurd (true≢false (sym is))
leaf_kind Leaf is = refl
leaf_kind LeafList is = absurd (true≢false (sym is))

not_in : (key other : ℕ) (keys : List ℕ) → not (is_in other keys) ≡ true → is_in key keys ≡ true → nat_eq key other ≡ false
not_in key other keys apart among =
    elim (nat_eq key other) as (λ b. nat_eq key other ≡ b → b ≡ false) [
      | true ↦ λ same. absurd (true≢false (sym apart ∙ ap (λ k. not (is_in k keys)) (sym (is_same key other same)) ∙ ap not among))
      | false ↦ λ same. refl
    ] refl

-- the atoms that a set asks for of distinct keys are those of the entry, where it has these
keys_are : (n : ℕ) (nodes : List SchemaNode) (set : Nodes) (keys : List ℕ) (atoms : List Atom) → are_key_leaves n nodes keys ≡ true → keys_fit nodes keys atoms ≡ true → asks_keys keys set ≡ true
    → ((key : ℕ) (atom : Atom) → is_in key keys ≡ true → key_asked key set ≡ Some atom → key_among key keys atoms ≡ Some atom) → entry_keys keys set ≡ atoms
keys_are n nodes set [] [] leaves fit asks has = refl
keys_are n nodes set [] (atom ∷ atoms) leaves fit asks has = absurd (true≢false (sym fit))
keys_are n nodes set (key ∷ keys) [] leaves fit asks has = absurd (true≢false (sym fit))
keys_are n nodes set (key ∷ keys) (atom ∷ atoms) leaves fit asks has =
    let told = and_parts (is_some (key_asked key set)) (asks_keys keys set) asks in
    let fits = and_parts (atom_fits (node_at key nodes).ty atom) (keys_fit nodes keys atoms) fit in
    let leaf = and_parts (is_key_leaf n nodes key && not (is_in key keys)) (are_key_leaves n nodes keys) leaves in
    let apart = (and_parts (is_key_leaf n nodes key) (not (is_in key keys)) leaf.0).1 in
    let later : entry_keys keys set ≡ atoms =
    keys_are n nodes set keys atoms leaf.1 fits.1 told.1 (λ k a among asked.
    ap (λ b. cond b (Some atom) (key_among k keys atoms)) (sym (not_in k key keys apart among)) ∙ has k a (or_right (nat_eq k key) (is_in k keys) among) asked) in
    elim (key_asked key set) as (λ o. key_asked key set ≡ o → is_some o ≡ true → onto o (entry_keys keys set) ≡ atom ∷ atoms) [
      | None ↦ λ is there. absurd (true≢false (sym there))
      | Some asked ↦ λ is there.
          let here : Some atom ≡ Some asked = ap (λ b. cond b (Some atom) (key_among key keys atoms)) (sym (self_same key)) ∙ has key asked (or_left (nat_eq key key) (is_in key keys) (self_same key)) is in
          let same : atom ≡ asked = cc in
          λ i. sym same i ∷ later i
    ] refl told.0
  where
    or_right : (a b : Bool) → b ≡ true → (a || b) ≡ true
    or_right true b is = refl
    or_right false b is = is

    or_left : (a b : Bool) → a ≡ true → (a || b) ≡ true
    or_left true b is = refl
    or_left false b is = absurd (true≢false (sym is))

leaf_of : (n : ℕ) (nodes : List SchemaNode) (key : ℕ) (keys : List ℕ) → are_key_leaves n nodes keys ≡ true → is_in key keys ≡ true → (node_at key nodes).kind ≡ Leaf
leaf_of n nodes key [] leaves among = absurd (true≢false (sym among))
leaf_of n nodes key (other ∷ keys) leaves among =
    let parts = and_parts (is_key_leaf n nodes other && not (is_in other keys)) (are_key_leaves n nodes keys) leaves in
    let here : (node_at other nodes).kind ≡ Leaf = leaf_kind (node_at other nodes).kind (and_parts _ _ (and_parts _ _ (and_parts _ _ (and_parts (is_key_leaf n nodes other) (not (is_in other keys)) parts.0).0).0).0).1 in
    elim (nat_eq key other) as (λ b. nat_eq key other ≡ b → (b || is_in key keys) ≡ true → (node_at key nodes).kind ≡ Leaf) [
      | true ↦ λ same there. ap (λ k. (node_at k nodes).kind) (is_same key other same) ∙ here
      | false ↦ λ same there. leaf_of n nodes key keys parts.1 there
    ] refl among

none_empty : {X : Type 0} (xs : List X) → is_empty xs ≡ true → xs ≡ []
none_empty [] is = refl
none_empty (x ∷ xs) is = absurd (true≢false (sym is))

no_keys : (keys : List ℕ) (set : Nodes) (atoms : List Atom) → is_empty keys ≡ true → is_empty atoms ≡ true → entry_keys keys set ≡ atoms
no_keys keys set atoms without empty = ap (λ ks. entry_keys ks set) (none_empty keys without) ∙ sym (none_empty atoms empty)

module _ (nodes : List SchemaNode) (schema : IsSchema nodes) (rows : List Row) where
  asked_at : (at : List Seg) (seg : Seg) (set : Nodes) → are_key_leaves seg.node nodes (node_at seg.node nodes).keys ≡ true → keys_fit nodes (node_at seg.node nodes).keys seg.keys ≡ true → all_hold nodes rows (at ++ seg ∷ []) set ≡ true
      → (key : ℕ) (atom : Atom) → is_in key (node_at seg.node nodes).keys ≡ true → key_asked key set ≡ Some atom → key_among key (node_at seg.node nodes).keys seg.keys ≡ Some atom
  asked_at at seg set leaves fit hold key atom among asked =
      let keys = (node_at seg.node nodes).keys in
      let holds = asked_holds nodes rows (at ++ seg ∷ []) key atom set hold asked in
      let last : key_at nodes (at ++ seg ∷ []) key ≡ key_among key keys seg.keys = key_of_last nodes at seg key in
      sym last ∙ key_is (node_at key nodes).kind (key_at nodes (at ++ seg ∷ []) key) atom (value_at ((at ++ seg ∷ []) ++ match_segment nodes key (Plain atom) ∷ []) rows) (λ gone. has_key nodes key keys seg.keys among fit (sym last ∙ gone)) (leaf_of seg.node nodes key keys leaves among) holds

  entry_by : (kind : Kind) (at : List Seg) (seg : Seg) (set : Nodes) → kind_stands kind seg.node nodes (node_at seg.node nodes) ≡ true → enters_by kind (asks_keys (node_at seg.node nodes).keys set) ≡ true → keys_of_kind kind nodes (node_at seg.node nodes) seg.keys ≡ true
      → all_hold nodes rows (at ++ seg ∷ []) set ≡ true → entry_keys (node_at seg.node nodes).keys set ≡ seg.keys
  entry_by Container at seg set stands asks fit hold = no_keys (node_at seg.node nodes).keys set seg.keys (and_parts _ _ stands).0 fit
  entry_by Presence at seg set stands asks fit hold = no_keys (node_at seg.node nodes).keys set seg.keys (and_parts _ _ stands).0 fit
  entry_by Listing at seg set stands asks fit hold =
      let leaves = (and_parts _ _ (and_parts _ _ stands).0).1 in
      keys_are seg.node nodes set (node_at seg.node nodes).keys seg.keys leaves fit asks (asked_at at seg set leaves fit hold)
  entry_by Leaf at seg set stands asks fit hold = absurd (true≢false (sym asks))
  entry_by LeafList at seg set stands asks fit hold = absurd (true≢false (sym asks))

  -- a segment at which a set holds that asks for one instance is that instance's
  way_is : (at : List Seg) (seg : Seg) (set : Nodes) → names_one nodes seg.node set ≡ true → is_segment nodes seg ≡ true → all_hold nodes rows (at ++ seg ∷ []) set ≡ true → seg ≡ way_segment nodes seg.node set
  way_is at seg set names segment hold =
      let fit = (and_parts (nat_lt seg.node (length nodes)) (keys_of_kind (node_at seg.node nodes).kind nodes (node_at seg.node nodes) seg.keys) segment).1 in
      let keys : entry_keys (node_at seg.node nodes).keys set ≡ seg.keys =
      entry_by (node_at seg.node nodes).kind at seg set (schema.each seg.node (segment_within nodes seg segment)).kind names fit hold in
      λ i. record { node = seg.node; keys = sym keys i }

  -- ---- a set whose nodes are narrow keeps by its containment nodes alone

  no_names : (seg : Seg) (set : Nodes) → are_narrow nodes set ≡ true → set_names nodes seg set ≡ false
  no_names seg none narrow = refl
  no_names seg (more (select n) set) narrow = absurd (true≢false (sym narrow))
  no_names seg (more (compare n value) set) narrow = absurd (true≢false (sym narrow))
  no_names seg (more (within n inner) set) narrow = no_names seg set (and_parts (names_one nodes n inner) (are_narrow nodes set) narrow).1
  no_names seg (more unknown set) narrow = no_names seg set narrow
  no_names seg (more unknown_compare set) narrow = absurd (true≢false (sym narrow))

  no_match : (set : Nodes) → are_narrow nodes set ≡ true → has_match set ≡ false
  no_match none narrow = refl
  no_match (more (select n) set) narrow = absurd (true≢false (sym narrow))
  no_match (more (compare n value) set) narrow = absurd (true≢false (sym narrow))
  no_match (more (within n inner) set) narrow = no_match set (and_parts (names_one nodes n inner) (are_narrow nodes set) narrow).1
  no_match (more unknown set) narrow = no_match set narrow
  no_match (more unknown_compare set) narrow = absurd (true≢false (sym narrow))

  no_selects : (n : ℕ) (set : Nodes) → are_narrow nodes set ≡ true → set_selects n set ≡ false
  no_selects n none narrow = refl
  no_selects n (more (select m) set) narrow = absurd (true≢false (sym narrow))
  no_selects n (more (compare m value) set) narrow = absurd (true≢false (sym narrow))
  no_selects n (more (within m inner) set) narrow = no_selects n set (and_parts (names_one nodes m inner) (are_narrow nodes set) narrow).1
  no_selects n (more unknown set) narrow = no_selects n set narrow
  no_selects n (more unknown_compare set) narrow = absurd (true≢false (sym narrow))

  leads_alone : (hold ends names has all selects leads : Bool) → names ≡ false → has ≡ false → selects ≡ false → (hold && ((((ends && names) || (has && all)) || selects) || leads)) ≡ true → leads ≡ true
  leads_alone false ends names has all selects leads n m s is = absurd (true≢false (sym is))
  leads_alone true ends true has all selects leads n m s is = absurd (true≢false n)
  leads_alone true ends false true all selects leads n m s is = absurd (true≢false m)
  leads_alone true ends false false all true leads n m s is = absurd (true≢false s)
  leads_alone true true false false all false leads n m s is = is
  leads_alone true false false false all false leads n m s is = is

  leads_on : (set : Nodes) (at : List Seg) (seg : Seg) (segs : List Seg) → are_narrow nodes set ≡ true → keeps nodes rows set at (seg ∷ segs) ≡ true → set_leads nodes rows set at (seg ∷ segs) ≡ true
  leads_on set at seg segs narrow keep =
      leads_alone (all_hold nodes rows at set) (is_empty segs) (set_names nodes seg set) (has_match set) (all_match set) (set_selects seg.node set) (set_leads nodes rows set at (seg ∷ segs))
      (no_names seg set narrow) (no_match set narrow) (no_selects seg.node set narrow) keep

  -- ---- reaches of several nodes

  moved : (a b c d : Bool) → (a || c) ≡ true → ((a || b) || (c || d)) ≡ true
  moved true b c d is = refl
  moved false true c d is = refl
  moved false false true d is = refl
  moved false false false d is = absurd (true≢false (sym is))

  other_moved : (a b c d : Bool) → (b || d) ≡ true → ((a || b) || (c || d)) ≡ true
  other_moved true b c d is = refl
  other_moved false true c d is = refl
  other_moved false false true d is = refl
  other_moved false false false d is = is

  first_reached : (own more_own below more_below : List (List Seg)) (path : List Seg) → is_reached own below path ≡ true → is_reached (own ++ more_own) (below ++ more_below) path ≡ true
  first_reached own more_own below more_below path is =
      (λ i. list_any-append (λ each. is_eq (path_cmp path each)) own more_own i || list_any-append (λ each. is_within each path) below more_below i)
      ∙ moved (is_one_of own path) (is_one_of more_own path) (is_below below path) (is_below more_below path) is

  other_reached : (own more_own below more_below : List (List Seg)) (path : List Seg) → is_reached more_own more_below path ≡ true → is_reached (own ++ more_own) (below ++ more_below) path ≡ true
  other_reached own more_own below more_below path is =
      (λ i. list_any-append (λ each. is_eq (path_cmp path each)) own more_own i || list_any-append (λ each. is_within each path) below more_below i)
      ∙ other_moved (is_one_of own path) (is_one_of more_own path) (is_below below path) (is_below more_below path) is

  own_grows : (own more_own below : List (List Seg)) (path : List Seg) → is_reached own below path ≡ true → is_reached (own ++ more_own) below path ≡ true
  own_grows own more_own below path is =
      ap (λ paths. is_reached (own ++ more_own) paths path) (sym (append-nil below)) ∙ first_reached own more_own below [] path is

  itself_reached : (own below : List (List Seg)) (at : List Seg) → is_reached (own ++ at ∷ []) below (at ++ []) ≡ true
  itself_reached own below at =
      let same : is_eq (path_cmp (at ++ []) at) ≡ true = ap (λ path. is_eq (path_cmp path at)) (append-nil at) ∙ ap is_eq (tied_itself paths_total at) in
      let one : is_reached (at ∷ []) [] (at ++ []) ≡ true = ap (λ b. (b || false) || false) same in
      ap (λ paths. is_reached (own ++ at ∷ []) paths (at ++ [])) (sym (append-nil below)) ∙ other_reached own (at ∷ []) below [] (at ++ []) one

  -- ---- what is kept is reached

  covered_rest : (set : Nodes) (at rest : List Seg) (own below : List (List Seg)) → are_narrow nodes set ≡ true → keeps nodes rows set at rest ≡ true → (set_leads nodes rows set at rest ≡ true → is_reached own below (at ++ rest) ≡ true)
      → is_reached (own ++ at ∷ []) below (at ++ rest) ≡ true
  covered_rest set at [] own below narrow keep inner = itself_reached own below at
  covered_rest set at (seg ∷ segs) own below narrow keep inner = own_grows own (at ∷ []) below (at ++ seg ∷ segs) (inner (leads_on set at seg segs narrow keep))

  covered_by : (set : Nodes) (at rest : List Seg) (own below : List (List Seg)) → keeps nodes rows set at rest ≡ true → (are_narrow nodes set ≡ true → set_leads nodes rows set at rest ≡ true → is_reached own below (at ++ rest) ≡ true)
      → is_reached (own_by (are_narrow nodes set) at own) (below_by (are_narrow nodes set) at below) (at ++ rest) ≡ true
  covered_by set at rest own below keep inner =
      elim (are_narrow nodes set) as (λ b. are_narrow nodes set ≡ b → is_reached (own_by b at own) (below_by b at below) (at ++ rest) ≡ true) [
        | true ↦ λ narrow. covered_rest set at rest own below narrow keep (inner narrow)
        | false ↦ λ wide. ap (λ b. false || (b || false)) (within_longer at at rest (within_itself at))
      ] refl

  mutual
    node_covered : (node : Node) (parent : Option ℕ) (at rest : List Seg) → is_narrow nodes node ≡ true → goes_down nodes parent rest ≡ true → node_leads nodes rows node at rest ≡ true → is_reached (own_of_node nodes node at) (below_of_node nodes node at) (at ++ rest) ≡ true
    node_covered (select n) parent at rest narrow down leads = absurd (true≢false (sym leads))
    node_covered (compare n value) parent at rest narrow down leads = absurd (true≢false (sym leads))
    node_covered (within n set) parent at [] narrow down leads = absurd (true≢false (sym leads))
    node_covered (within n set) parent at (seg ∷ segs) narrow down leads =
        let deeper = at ++ seg ∷ [] in
        let parts = and_parts (nat_eq seg.node n && enters nodes rows deeper n) (keeps nodes rows set deeper segs) leads in
        let same : seg.node ≡ n = is_same seg.node n (and_parts (nat_eq seg.node n) (enters nodes rows deeper n) parts.0).0 in
        let hold = keeps_hold nodes rows set deeper segs (set_leads nodes rows set deeper segs) parts.1 in
        let is : seg ≡ way_segment nodes n set = way_is at seg set (ap (λ k. names_one nodes k set) same ∙ narrow) (first_segment nodes parent seg segs down) hold ∙ ap (λ k. way_segment nodes k set) same in
        let further = (and_parts (same_number (node_at seg.node nodes).parent parent && is_segment nodes seg) (goes_down nodes (Some seg.node) segs) down).1 in
        let covered = covered_by set deeper segs (own_of_nodes nodes set deeper) (below_of_nodes nodes set deeper) parts.1 (λ inner led. nodes_covered set (Some seg.node) deeper segs inner further led) in
        let whole : deeper ++ segs ≡ at ++ seg ∷ segs = append_assoc at (seg ∷ []) segs in
        subst (λ (s : Seg). is_reached (own_by (are_narrow nodes set) (at ++ s ∷ []) (own_of_nodes nodes set (at ++ s ∷ []))) (below_by (are_narrow nodes set) (at ++ s ∷ []) (below_of_nodes nodes set (at ++ s ∷ []))) (at ++ seg ∷ segs) ≡ true) is
        (subst (λ (path : List Seg). is_reached (own_by (are_narrow nodes set) deeper (own_of_nodes nodes set deeper)) (below_by (are_narrow nodes set) deeper (below_of_nodes nodes set deeper)) path ≡ true) whole covered)
    node_covered unknown parent at rest narrow down leads = absurd (true≢false (sym leads))
    node_covered unknown_compare parent at rest narrow down leads = absurd (true≢false (sym leads))

    nodes_covered : (set : Nodes) (parent : Option ℕ) (at rest : List Seg) → are_narrow nodes set ≡ true → goes_down nodes parent rest ≡ true → set_leads nodes rows set at rest ≡ true → is_reached (own_of_nodes nodes set at) (below_of_nodes nodes set at) (at ++ rest) ≡ true
    nodes_covered none parent at rest narrow down leads = absurd (true≢false (sym leads))
    nodes_covered (more node set) parent at rest narrow down leads =
        let parts = and_parts (is_narrow nodes node) (are_narrow nodes set) narrow in
        elim (node_leads nodes rows node at rest) as (λ b. node_leads nodes rows node at rest ≡ b → (b || set_leads nodes rows set at rest) ≡ true → is_reached (own_of_node nodes node at ++ own_of_nodes nodes set at) (below_of_node nodes node at ++ below_of_nodes nodes set at) (at ++ rest) ≡ true) [
          | true ↦ λ here either. first_reached (own_of_node nodes node at) (own_of_nodes nodes set at) (below_of_node nodes node at) (below_of_nodes nodes set at) (at ++ rest) (node_covered node parent at rest parts.0 down here)
          | false ↦ λ here either. other_reached (own_of_node nodes node at) (own_of_nodes nodes set at) (below_of_node nodes node at) (below_of_nodes nodes set at) (at ++ rest) (nodes_covered set parent at rest parts.1 down either)
        ] refl leads

  -- what a filter keeps is within its reaches
  pub kept_covered : (set : Nodes) (path : List Seg) → goes_down nodes None path ≡ true → kept nodes (of_set set) rows path ≡ true → is_reached (own_reached nodes set []) (below_reached nodes set []) path ≡ true
  kept_covered set path down keep = covered_by set [] path (own_of_nodes nodes set []) (below_of_nodes nodes set []) keep (λ narrow led. nodes_covered set None [] path narrow down led)

-- ---- there are no more reaches than nodes, and one

few_by : (b : Bool) (at : List Seg) (own below : List (List Seg)) (size : ℕ) → length own + length below ≤ size → length (own_by b at own) + length (below_by b at below) ≤ size + 1
few_by true at own below size few = omega (arith, few, length-append own (at ∷ []))
few_by false at own below size few = omega (arith, few)

mutual
  node_few : (nodes : List SchemaNode) (node : Node) (at : List Seg) → length (own_of_node nodes node at) + length (below_of_node nodes node at) ≤ node_size node
  node_few nodes (select n) at = omega arith
  node_few nodes (compare n value) at = omega arith
  node_few nodes (within n set) at =
      let deeper = at ++ way_segment nodes n set ∷ [] in
      omega (arith, few_by (are_narrow nodes set) deeper (own_of_nodes nodes set deeper) (below_of_nodes nodes set deeper) (set_size set) (nodes_few nodes set deeper))
  node_few nodes unknown at = omega arith
  node_few nodes unknown_compare at = omega arith

  nodes_few : (nodes : List SchemaNode) (set : Nodes) (at : List Seg) → length (own_of_nodes nodes set at) + length (below_of_nodes nodes set at) ≤ set_size set
  nodes_few nodes none at = omega arith
  nodes_few nodes (more node set) at =
      omega (arith, node_few nodes node at, nodes_few nodes set at, length-append (own_of_node nodes node at) (own_of_nodes nodes set at), length-append (below_of_node nodes node at) (below_of_nodes nodes set at))

pub reached_few : (nodes : List SchemaNode) (set : Nodes) → length (own_reached nodes set []) + length (below_reached nodes set []) ≤ set_size set + 1
reached_few nodes set = few_by (are_narrow nodes set) [] (own_of_nodes nodes set []) (below_of_nodes nodes set []) (set_size set) (nodes_few nodes set [])

-- ---- the nodes of a filter of the schema are its

mutual
  node_stands_so : (nodes : List SchemaNode) (parent : Option ℕ) (node : Node) → node_fits nodes parent node ≡ true → node_stands nodes node ≡ true
  node_stands_so nodes parent (select n) fits = refl
  node_stands_so nodes parent (compare n value) fits = refl
  node_stands_so nodes parent (within n set) fits =
      let parts = and_parts (is_child_of nodes parent n) (set_fits nodes (Some n) set) fits in
      and_from (nat_lt n (length nodes)) (set_stands nodes set) (and_parts (nat_lt n (length nodes)) _ parts.0).0 (stands_so nodes (Some n) set parts.1)
  node_stands_so nodes parent unknown fits = refl
  node_stands_so nodes parent unknown_compare fits = refl

  pub stands_so : (nodes : List SchemaNode) (parent : Option ℕ) (set : Nodes) → set_fits nodes parent set ≡ true → set_stands nodes set ≡ true
  stands_so nodes parent none fits = refl
  stands_so nodes parent (more node set) fits =
      let parts = and_parts (node_fits nodes parent node) (set_fits nodes parent set) fits in
      and_from (node_stands nodes node) (set_stands nodes set) (node_stands_so nodes parent node parts.0) (stands_so nodes parent set parts.1)
