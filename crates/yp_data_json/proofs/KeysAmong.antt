-- Keys put among the members of an entry.
use Rattle.std.proofs.Common.{◌≡◌, ◌≢◌, ℕ, zero, suc, ◌+◌, ◌-◌, ◌<◌, ◌≤◌, List, [], ◌∷◌, ◌++◌, length, drop, take, Bool, true, false, true≢false, Option, Some, None, refl, sym, ap, subst, ◌∙◌, arith, add-one, append-nil, append_assoc, Ordering, Less, Equal, Greater, nat_cmp, not}
use Rattle.std.specs.Prelude.{nat_eq}
use Rattle.std.specs.Cmp.Lexicographic.{slice_cmp}
use Rattle.std.specs.List.{AllByRecursion}
use Rattle.std.proofs.lemmas.Bool.{and_parts, eqb-true, eq-eqb, ltb-true, or_left, or_right, or_parts}
use Rattle.std.proofs.lemmas.Cmp.{nat_list_cmp_total, alike_right}
use Rattle.std.proofs.lemmas.List.{take-append-drop, drop-drop, length-drop}
use Rattle.yp_base.specs.declared.atom.Atom.{Atom}
use Rattle.yp_base.specs.declared.path.Seg.{Seg}
use Rattle.yp_base.specs.declared.row.Row.{Row}
use Rattle.yp_base.specs.Paths.{same_number}
use Rattle.yp_base.specs.PathLaws.{less_text_turned}
use Rattle.yp_schema.specs.declared.schema.SchemaNode.{SchemaNode}
use Rattle.yp_schema.specs.declared.schema.Kind.{Kind}
use Rattle.yp_schema.specs.declared.schema.Kind.TheVariants.{Container, Presence, List as Listing, Leaf, LeafList}
use Rattle.yp_schema.specs.Nodes.{node_at, may_hold, is_in, is_key}
use Rattle.yp_schema.specs.WellFormed.{IsSchema, is_leaf, is_key_leaf, are_key_leaves}
use Rattle.yp_schema.specs.Datastore.{goes_to_row, goes_down, is_key_node}
use Rattle.yp_schema.specs.SchemaLaws.{row_goes_down, row_ends, end_open, leaf_ends, segment_within, first_segment, first_parent}
use Rattle.serde_json.specs.Data.{Data, Members, no_members, member, put}
use Rattle.yp_data_json.specs.declared.entry_keys.Key.{Key}
use Rattle.yp_data_json.specs.Writing.{key_data, with_keys}
use Rattle.yp_data_json.specs.Runs.{GoesOn, IsRest, HasSegment, StandsBefore}
use Rattle.yp_data_json.specs.EntryKeys.{key_name, key_json, among, followed_by, IsKeyBelow, AreAscending, IsPlaceOf}
use Rattle.yp_data_json.specs.RunLaws.{before_put}
use Rattle.yp_data_json.proofs.Parts.{all_front, all_back, all_mapped}
use Rattle.yp_data_json.proofs.Below.{rest_down}
use Rattle.yp_data_json.proofs.Members.{put_first}
use Rattle.yp_data_json.proofs.KeysPut.{keys_step}
use Rattle.yp_data_json.proofs.Firsts.{name_less}

-- ---- two names put

swap_at : (o p : Ordering) (a b c : List ℕ) (x y e : Data) (ms : Members) → slice_cmp nat_cmp b c ≡ o → slice_cmp nat_cmp a c ≡ p → slice_cmp nat_cmp a b ≡ Less → put a x (put b y ms) ≡ put b y (put a x ms)
    → put a x (put b y (member c e ms)) ≡ put b y (put a x (member c e ms))
swap_at Less p a b c x y e ms is too less later =
    let first = nat_list_cmp_total.trans a b c less is in
    let back = less_text_turned a b less in
    rw (is, first, less, back, is) refl
swap_at Equal p a b c x y e ms is too less later =
    let first : slice_cmp nat_cmp a c ≡ Less = sym (alike_right nat_list_cmp_total b c a is) ∙ less in
    let back = less_text_turned a b less in
    rw (is, first, back, is) refl
swap_at Greater Less a b c x y e ms is too less later = let back = less_text_turned a b less in rw (is, too, back, is) refl
swap_at Greater Equal a b c x y e ms is too less later = rw (is, too, is) refl
swap_at Greater Greater a b c x y e ms is too less later = rw (is, too, is) (ap (member c e) later)

-- it makes no difference which of two names is put first
put_swap : (a b : List ℕ) (x y : Data) (ms : Members) → slice_cmp nat_cmp a b ≡ Less → put a x (put b y ms) ≡ put b y (put a x ms)
put_swap a b x y no_members less = let back = less_text_turned a b less in rw (less, back) refl
put_swap a b x y (member c e ms) less = swap_at (slice_cmp nat_cmp b c) (slice_cmp nat_cmp a c) a b c x y e ms refl refl less (put_swap a b x y ms less)

-- a key put among earlier ones and others
pub among_insert : (nodes : List SchemaNode) (front back : List Key) (key : Key) (ms : Members) → AllByRecursion (λ other. slice_cmp nat_cmp (key_name nodes other) (key_name nodes key) ≡ Less) front
    → among nodes (front ++ key ∷ back) ms ≡ put (key_name nodes key) (key_json nodes key) (among nodes (front ++ back) ms)
among_insert nodes [] back key ms before = refl
among_insert nodes (first ∷ front) back key ms before =
    ap (put (key_name nodes first) (key_json nodes first)) (among_insert nodes front back key ms before.1)
    ∙ put_swap (key_name nodes first) (key_name nodes key) (key_json nodes first) (key_json nodes key) (among nodes (front ++ back) ms) before.0

-- keys put one by one and among others are put among all
pub among_put : (nodes : List SchemaNode) (keys : List Key) (name : List ℕ) (d : Data) (ms : Members) → AllByRecursion (λ key. slice_cmp nat_cmp (key_name nodes key) name ≡ Greater) keys
    → among nodes keys (member name d ms) ≡ member name d (among nodes keys ms)
among_put nodes [] name d ms after = refl
among_put nodes (key ∷ keys) name d ms after = ap (put (key_name nodes key) (key_json nodes key)) (among_put nodes keys name d ms after.1) ∙ put_after (key_name nodes key) name (key_json nodes key) d (among nodes keys ms) after.0
  where
    put_after : (name first : List ℕ) (d e : Data) (ms : Members) → slice_cmp nat_cmp name first ≡ Greater → put name d (member first e ms) ≡ member first e (put name d ms)
    put_after name first d e ms h = rw h refl

before_among : (nodes : List SchemaNode) (name : List ℕ) (keys : List Key) (ms : Members) → AllByRecursion (λ key. slice_cmp nat_cmp name (key_name nodes key) ≡ Less) keys → StandsBefore name ms → StandsBefore name (among nodes keys ms)
before_among nodes name [] ms less before = before
before_among nodes name (key ∷ keys) ms less before = before_put name (key_name nodes key) (key_json nodes key) (among nodes keys ms) less.0 (before_among nodes name keys ms less.1 before)

-- ---- keys of one list

later_names : (nodes : List SchemaNode) → IsSchema nodes → (parent : Option ℕ) (key : Key) (keys : List Key) → IsKeyBelow nodes parent key → AllByRecursion (IsKeyBelow nodes parent) keys → AllByRecursion (λ other. key.leaf < other.leaf) keys
    → AllByRecursion (λ other. slice_cmp nat_cmp (key_name nodes key) (key_name nodes other) ≡ Less) keys
later_names nodes schema parent key [] is are less = tt
later_names nodes schema parent key (other ∷ keys) is are less =
    (name_less nodes schema parent key.leaf other.leaf less.0 are.0.within is.child are.0.child, later_names nodes schema parent key keys is are.1 less.1)

-- a key before all others and all members goes first
key_first : (nodes : List SchemaNode) → IsSchema nodes → (parent : Option ℕ) (key : Key) (keys : List Key) (ms : Members) → AllByRecursion (IsKeyBelow nodes parent) (key ∷ keys) → AreAscending (key ∷ keys)
    → StandsBefore (key_name nodes key) ms → among nodes (key ∷ keys) ms ≡ member (key_name nodes key) (key_json nodes key) (among nodes keys ms)
key_first nodes schema parent key keys ms are order before =
    put_first (key_name nodes key) (key_json nodes key) (among nodes keys ms) (before_among nodes (key_name nodes key) keys ms (later_names nodes schema parent key keys are.0 are.1 order.0) before)

-- keys before all others and all members are the first of them
among_first : (nodes : List SchemaNode) → IsSchema nodes → (parent : Option ℕ) (front rest : List Key) (ms : Members) → AllByRecursion (IsKeyBelow nodes parent) (front ++ rest) → AreAscending (front ++ rest)
    → AllByRecursion (λ key. StandsBefore (key_name nodes key) ms) front → among nodes (front ++ rest) ms ≡ followed_by nodes front (among nodes rest ms)
among_first nodes schema parent [] rest ms are order before = refl
among_first nodes schema parent (key ∷ front) rest ms are order before =
    key_first nodes schema parent key (front ++ rest) ms are order before.0
    ∙ ap (member (key_name nodes key) (key_json nodes key)) (among_first nodes schema parent front rest ms are.1 order.1 before.1)

none_before : (nodes : List SchemaNode) (keys : List Key) → AllByRecursion (λ key. StandsBefore (key_name nodes key) no_members) keys
none_before nodes [] = tt
none_before nodes (key ∷ keys) = (tt, none_before nodes keys)

-- keys alone are members in their order
pub among_none : (nodes : List SchemaNode) → IsSchema nodes → (parent : Option ℕ) (keys : List Key) → AllByRecursion (IsKeyBelow nodes parent) keys → AreAscending keys → among nodes keys no_members ≡ followed_by nodes keys no_members
among_none nodes schema parent keys are order =
    ap (λ xs. among nodes xs no_members) (sym (append-nil keys))
    ∙ among_first nodes schema parent keys [] no_members (subst (AllByRecursion (IsKeyBelow nodes parent)) (sym (append-nil keys)) are) (subst AreAscending (sym (append-nil keys)) order) (none_before nodes keys)

front_names : (nodes : List SchemaNode) → IsSchema nodes → (parent : Option ℕ) (n : ℕ) (keys : List Key) → n < length nodes → same_number (node_at n nodes).parent parent ≡ true → AllByRecursion (IsKeyBelow nodes parent) keys → AllByRecursion (λ key. key.leaf < n) keys
    → AllByRecursion (λ key. slice_cmp nat_cmp (key_name nodes key) (node_at n nodes).member ≡ Less) keys
front_names nodes schema parent n [] within child are less = tt
front_names nodes schema parent n (key ∷ keys) within child are less =
    (name_less nodes schema parent key.leaf n less.0 within are.0.child child, front_names nodes schema parent n keys within child are.1 less.1)

-- a row goes through no key
key_apart : (nodes : List SchemaNode) → IsSchema nodes → (parent : Option ℕ) (depth : ℕ) (seg : Seg) (row : Row) (key : Key) → IsRest nodes parent depth row → HasSegment depth seg row → IsKeyBelow nodes parent key → key.leaf ≡ seg.node → ⊥
key_apart nodes schema parent depth seg row key rest here is same =
    let goes : goes_to_row nodes parent (seg ∷ drop (depth + 1) row.path) row.value ≡ true = subst (λ path. GoesOn nodes parent path row.value) here rest in
    let kind : (node_at seg.node nodes).kind ≡ Leaf = subst (λ k. (node_at k nodes).kind ≡ Leaf) same is.kind in
    let down = (and_parts _ _ (row_goes_down nodes parent (seg ∷ drop (depth + 1) row.path) row.value goes)).1 in
    let none = leaf_ends nodes schema seg.node (drop (depth + 1) row.path) (ap may_hold kind) down in
    let ends : goes_to_row nodes parent (seg ∷ []) row.value ≡ true = subst (λ path. goes_to_row nodes parent (seg ∷ path) row.value ≡ true) none goes in
    let no_key = end_open nodes seg row.value (row_ends nodes parent [] seg row.value ends) in
    true≢false (sym is.named ∙ ap (is_key_node nodes) same ∙ no_key)

-- keys that don't come before a row's node come after it
pub keys_after : (nodes : List SchemaNode) → IsSchema nodes → (parent : Option ℕ) (depth : ℕ) (seg : Seg) (row : Row) (keys : List Key) → IsRest nodes parent depth row → HasSegment depth seg row → seg.node < length nodes → same_number (node_at seg.node nodes).parent parent ≡ true
    → AllByRecursion (IsKeyBelow nodes parent) keys → AllByRecursion (λ key. seg.node ≤ key.leaf) keys → AllByRecursion (λ key. slice_cmp nat_cmp (key_name nodes key) (node_at seg.node nodes).member ≡ Greater) keys
keys_after nodes schema parent depth seg row [] rest here within child are after = tt
keys_after nodes schema parent depth seg row (key ∷ keys) rest here within child are after =
    let other : key.leaf ≢ seg.node = key_apart nodes schema parent depth seg row key rest here are.0 in
    let lower = after.0 in
    let less : seg.node < key.leaf = omega arith in
    (less_text_turned (node_at seg.node nodes).member (key_name nodes key) (name_less nodes schema parent seg.node key.leaf less are.0.within child are.0.child), keys_after nodes schema parent depth seg row keys rest here within child are.1 after.1)

-- the keys before a row's node, the node's member, and the other keys among the members after it
pub among_member : (nodes : List SchemaNode) → IsSchema nodes → (parent : Option ℕ) (depth : ℕ) (seg : Seg) (row : Row) (keys front rest : List Key) (d : Data) (ms : Members) → keys ≡ front ++ rest → IsRest nodes parent depth row → HasSegment depth seg row
    → AllByRecursion (IsKeyBelow nodes parent) keys → AreAscending keys → AllByRecursion (λ key. key.leaf < seg.node) front → AllByRecursion (λ key. seg.node ≤ key.leaf) rest
    → among nodes keys (member (node_at seg.node nodes).member d ms) ≡ followed_by nodes front (member (node_at seg.node nodes).member d (among nodes rest ms))
among_member nodes schema parent depth seg row keys front rest d ms parts goes_on here are order before after =
    let name = (node_at seg.node nodes).member in
    let all = subst (AllByRecursion (IsKeyBelow nodes parent)) parts are in
    let down : goes_down nodes parent (seg ∷ drop (depth + 1) row.path) ≡ true = subst (λ path. goes_down nodes parent path ≡ true) here (rest_down nodes parent depth row goes_on) in
    let within = segment_within nodes seg (first_segment nodes parent seg (drop (depth + 1) row.path) down) in
    let child = first_parent nodes parent seg (drop (depth + 1) row.path) down in
    let later = keys_after nodes schema parent depth seg row rest goes_on here within child (all_back (IsKeyBelow nodes parent) front rest all) after in
    ap (λ xs. among nodes xs (member name d ms)) parts
    ∙ among_first nodes schema parent front rest (member name d ms) all (subst AreAscending parts order) (front_names nodes schema parent seg.node front within child (all_front (IsKeyBelow nodes parent) front rest all) before)
    ∙ ap (followed_by nodes front) (among_put nodes rest name d ms later)

-- ---- places among keys

all_at : {X : Type 0} (P : X → Type 0) (xs : List X) (i : ℕ) (x : X) (more : List X) → AllByRecursion P xs → drop i xs ≡ x ∷ more → P x
all_at P [] zero x more all is = cc
all_at P [] (suc i) x more all is = cc
all_at P (y ∷ xs) zero x more all is = let same : y ≡ x = cc in subst P same all.0
all_at P (y ∷ xs) (suc i) x more all is = all_at P xs i x more all.1 is

less_to : (leaf : ℕ) (keys : List Key) (i : ℕ) (key : Key) (more : List Key) → AreAscending keys → drop i keys ≡ key ∷ more → key.leaf < leaf → AllByRecursion (λ other. other.leaf < leaf) (take (suc i) keys)
less_to leaf [] zero key more order is less = cc
less_to leaf [] (suc i) key more order is less = cc
less_to leaf (first ∷ keys) zero key more order is less = let same : first ≡ key = cc in (subst (λ (k : Key). k.leaf < leaf) (sym same) less, tt)
less_to leaf (first ∷ keys) (suc i) key more order is less =
    let before : first.leaf < key.leaf = all_at (λ other. first.leaf < other.leaf) keys i key more order.0 is in
    (omega arith, less_to leaf keys i key more order.1 is less)

-- where a key is of an earlier leaf, so are those before it
pub all_less : (leaf : ℕ) (keys : List Key) (i : ℕ) (key : Key) → AreAscending keys → drop i keys ≡ key ∷ drop (i + 1) keys → key.leaf < leaf → AllByRecursion (λ other. other.leaf < leaf) (take (i + 1) keys)
all_less leaf keys i key order is less = subst (λ n. AllByRecursion (λ (other : Key). other.leaf < leaf) (take n keys)) (sym (add-one i)) (less_to leaf keys i key (drop (i + 1) keys) order is less)

ascending_from : (i : ℕ) (keys : List Key) → AreAscending keys → AreAscending (drop i keys)
ascending_from zero keys order = order
ascending_from (suc i) [] order = tt
ascending_from (suc i) (key ∷ keys) order = ascending_from i keys order.1

-- where one isn't, neither are those after it
pub none_less : (leaf : ℕ) (keys : List Key) (i : ℕ) (key : Key) → AreAscending keys → drop i keys ≡ key ∷ drop (i + 1) keys → leaf ≤ key.leaf → AllByRecursion (λ other. leaf ≤ other.leaf) (drop i keys)
none_less leaf keys i key order is least =
    let later = (subst AreAscending is (ascending_from i keys order)).0 in
    subst (AllByRecursion (λ (other : Key). leaf ≤ other.leaf)) (sym is) (least, all_mapped (λ (other : Key). key.leaf < other.leaf) (λ other. leaf ≤ other.leaf) (λ other less. omega arith) (drop (i + 1) keys) later)

pub ascending_back : (front back : List Key) → AreAscending (front ++ back) → AreAscending back
ascending_back [] back order = order
ascending_back (key ∷ front) back order = ascending_back front back order.1

-- keys from a place on are those before a leaf, and the others
pub cut_at : (keys : List Key) (next leaf place : ℕ) (waiting before : List Key) → waiting ≡ drop next keys → IsPlaceOf leaf waiting place → before ≡ take place waiting
    → (drop next keys ≡ before ++ drop (next + place) keys) × (AllByRecursion (λ key. key.leaf < leaf) before × AllByRecursion (λ key. leaf ≤ key.leaf) (drop (next + place) keys))
cut_at keys next leaf place waiting before wait at front =
    let after : drop place waiting ≡ drop (next + place) keys = ap (drop place) wait ∙ drop-drop place next keys in (
      sym wait ∙ sym (take-append-drop place waiting) ∙ ap (λ xs. xs ++ drop place waiting) (sym front) ∙ ap (λ xs. before ++ xs) after,
      (subst (AllByRecursion (λ (key : Key). key.leaf < leaf)) (sym front) at.before, subst (AllByRecursion (λ (key : Key). leaf ≤ key.leaf)) after at.after),
    )

-- a place among the keys that are left is a place among all
pub place_within : (keys : List Key) (next place : ℕ) (waiting : List Key) → waiting ≡ drop next keys → next ≤ length keys → place ≤ length waiting → next + place ≤ length keys
place_within keys next place waiting wait within low = let e : length waiting ≡ length keys - next = ap length wait ∙ length-drop next keys in omega arith

-- ---- keys that are brought into order

-- keys so far are those of a list whose other keys are left
pub record HoldsKeys (nodes : List SchemaNode) (node : ℕ) (left : List ℕ) (made : List Key) : Type 0 where
  pub below : AllByRecursion (IsKeyBelow nodes (Some node)) made
  pub ascending : AreAscending made
  pub fresh : AllByRecursion (λ key. is_in key.leaf left ≡ false) made
  pub leaves : are_key_leaves node nodes left ≡ true
  pub part : (before : List ℕ) × ((node_at node nodes).keys ≡ before ++ left)

is_in_middle : (before : List ℕ) (k : ℕ) (later : List ℕ) → is_in k (before ++ k ∷ later) ≡ true
is_in_middle [] k later = or_left (nat_eq k k) (is_in k later) (eq-eqb k k refl)
is_in_middle (first ∷ before) k later = or_right (nat_eq k first) (is_in k (before ++ k ∷ later)) (is_in_middle before k later)

leaf_kind : (k : Kind) → is_leaf k ≡ true → k ≡ Leaf
leaf_kind Leaf h = refl
leaf_kind Container h = absurd (true≢false (sym h))
leaf_kind Presence h = absurd (true≢false (sym h))
leaf_kind Listing h = absurd (true≢false (sym h))
leaf_kind LeafList h = absurd (true≢false (sym h))

same_some : (a : Option ℕ) (n : ℕ) → same_number a (Some n) ≡ true → a ≡ Some n
same_some None n h = absurd (true≢false (sym h))
same_some (Some m) n h = ap (λ k. Some k) (eqb-true m n h)

key_stands : (nodes : List SchemaNode) (node : ℕ) (key : Key) → is_key_leaf node nodes key.leaf ≡ true → is_in key.leaf (node_at node nodes).keys ≡ true → IsKeyBelow nodes (Some node) key
key_stands nodes node key leaf among_keys =
    let typed = (and_parts _ _ leaf).0 in
    let kinds = (and_parts _ _ typed).0 in
    let children = (and_parts _ _ kinds).0 in
    let child = (and_parts _ _ children).1 in record {
      within = ltb-true key.leaf (length nodes) (and_parts _ _ children).0;
      child = child;
      kind = leaf_kind (node_at key.leaf nodes).kind (and_parts _ _ kinds).1;
      named = ap (λ p. is_key key.leaf p nodes) (same_some (node_at key.leaf nodes).parent node child) ∙ among_keys;
    }

all_insert : {X : Type 0} (P : X → Type 0) (front back : List X) (x : X) → AllByRecursion P (front ++ back) → P x → AllByRecursion P (front ++ x ∷ back)
all_insert P [] back x all here = (here, all)
all_insert P (first ∷ front) back x all here = (all.0, all_insert P front back x all.1 here)

ascending_insert : (front back : List Key) (key : Key) → AreAscending (front ++ back) → AllByRecursion (λ other. other.leaf < key.leaf) front → AllByRecursion (λ other. key.leaf < other.leaf) back → AreAscending (front ++ key ∷ back)
ascending_insert [] back key order before after = (after, order)
ascending_insert (first ∷ front) back key order before after =
    (all_insert (λ other. first.leaf < other.leaf) front back key order.0 before.0, ascending_insert front back key order.1 before.1 after)

-- keys that are none of a leaf and not of earlier ones are of later ones
strictly_after : (leaf : ℕ) (later : List ℕ) (keys : List Key) → AllByRecursion (λ key. is_in key.leaf (leaf ∷ later) ≡ false) keys → AllByRecursion (λ key. leaf ≤ key.leaf) keys → AllByRecursion (λ key. leaf < key.leaf) keys
strictly_after leaf later [] fresh after = tt
strictly_after leaf later (key ∷ keys) fresh after =
    let apart = (or_parts (nat_eq key.leaf leaf) (is_in key.leaf later) fresh.0).0 in
    let other : key.leaf ≢ leaf = λ e. true≢false (sym (eq-eqb key.leaf leaf e) ∙ apart) in
    let least = after.0 in
    (omega arith, strictly_after leaf later keys fresh.1 after.1)

not_true : (b : Bool) → not b ≡ true → b ≡ false
not_true true h = absurd (true≢false (sym h))
not_true false h = refl

-- one more key at its place
pub one_more_key : (nodes : List SchemaNode) (node : ℕ) (left : List ℕ) (leaf : ℕ) (later : List ℕ) (made now : List Key) (place : ℕ) (key : Key) → left ≡ leaf ∷ later → key.leaf ≡ leaf → now ≡ take place made ++ key ∷ drop place made
    → IsPlaceOf leaf made place → HoldsKeys nodes node left made → HoldsKeys nodes node later now
one_more_key nodes node left leaf later made now place key is of_leaf new at h =
    let front = take place made in
    let back = drop place made in
    let whole = sym (take-append-drop place made) in
    let leaves = subst (λ ks. are_key_leaves node nodes ks ≡ true) is h.leaves in
    let first = (and_parts _ (are_key_leaves node nodes later) leaves) in
    let stands = (and_parts (is_key_leaf node nodes leaf) (not (is_in leaf later)) first.0) in
    let fresh = subst (λ ks. AllByRecursion (λ (k : Key). is_in k.leaf ks ≡ false) made) is h.fresh in
    let fresh_back = all_back (λ (k : Key). is_in k.leaf (leaf ∷ later) ≡ false) front back (subst (AllByRecursion (λ (k : Key). is_in k.leaf (leaf ∷ later) ≡ false)) whole fresh) in
    let fresh_later = all_mapped (λ (k : Key). is_in k.leaf (leaf ∷ later) ≡ false) (λ k. is_in k.leaf later ≡ false) (λ k f. (or_parts (nat_eq k.leaf leaf) (is_in k.leaf later) f).1) made fresh in
    let keys_are : (node_at node nodes).keys ≡ h.part.0 ++ leaf ∷ later = h.part.1 ∙ ap (λ ks. h.part.0 ++ ks) is in
    let named : is_in leaf (node_at node nodes).keys ≡ true = ap (is_in leaf) keys_are ∙ is_in_middle h.part.0 leaf later in
    let here = key_stands nodes node key (ap (is_key_leaf node nodes) of_leaf ∙ stands.0) (ap (λ k. is_in k (node_at node nodes).keys) of_leaf ∙ named) in
    let before = subst (λ n. AllByRecursion (λ (k : Key). k.leaf < n) front) (sym of_leaf) at.before in
    let after = subst (λ n. AllByRecursion (λ (k : Key). n < k.leaf) back) (sym of_leaf) (strictly_after leaf later back fresh_back at.after) in record {
      below = subst (AllByRecursion (IsKeyBelow nodes (Some node))) (sym new) (all_insert (IsKeyBelow nodes (Some node)) front back key (subst (AllByRecursion (IsKeyBelow nodes (Some node))) whole h.below) here);
      ascending = subst AreAscending (sym new) (ascending_insert front back key (subst AreAscending whole h.ascending) before after);
      fresh = subst (AllByRecursion (λ (k : Key). is_in k.leaf later ≡ false)) (sym new)
          (all_insert (λ (k : Key). is_in k.leaf later ≡ false) front back key (subst (AllByRecursion (λ (k : Key). is_in k.leaf later ≡ false)) whole fresh_later) (ap (λ k. is_in k later) of_leaf ∙ not_true (is_in leaf later) stands.1));
      leaves = first.1;
      part = (h.part.0 ++ leaf ∷ [], keys_are ∙ sym (append_assoc h.part.0 (leaf ∷ []) later));
    }

-- is put among the others, whatever members there are
pub one_more_put : (nodes : List SchemaNode) → IsSchema nodes → (node : ℕ) (left : List ℕ) (leaf : ℕ) (later : List ℕ) (atoms : List Atom) (atom : Atom) (others : List Atom) (made now : List Key) (place : ℕ) (key : Key) (ms : Members)
    → left ≡ leaf ∷ later → atoms ≡ atom ∷ others → key.leaf ≡ leaf → key.value.now ≡ atom → now ≡ take place made ++ key ∷ drop place made → IsPlaceOf leaf made place → HoldsKeys nodes node left made → HoldsKeys nodes node later now
    → with_keys nodes later others (among nodes now ms) ≡ with_keys nodes left atoms (among nodes made ms)
one_more_put nodes schema node left leaf later atoms atom others made now place key ms is are of_leaf of_value new at h after =
    let front = take place made in
    let back = drop place made in
    let stands = all_back (IsKeyBelow nodes (Some node)) front (key ∷ back) (subst (AllByRecursion (IsKeyBelow nodes (Some node))) new after.below) in
    let all = all_front (IsKeyBelow nodes (Some node)) front (key ∷ back) (subst (AllByRecursion (IsKeyBelow nodes (Some node))) new after.below) in
    let before = subst (λ n. AllByRecursion (λ (k : Key). k.leaf < n) front) (sym of_leaf) at.before in
    let names = front_names nodes schema (Some node) key.leaf front stands.0.within stands.0.child all before in
    ap (λ xs. with_keys nodes later others (among nodes xs ms)) new
    ∙ ap (with_keys nodes later others) (among_insert nodes front back key ms names)
    ∙ ap (λ xs. with_keys nodes later others (put (key_name nodes key) (key_json nodes key) (among nodes xs ms))) (take-append-drop place made)
    ∙ ap (λ n. with_keys nodes later others (put (node_at n nodes).member (key_data (node_at n nodes).ty key.value.now) (among nodes made ms))) of_leaf
    ∙ ap (λ (a : Atom). with_keys nodes later others (put (node_at leaf nodes).member (key_data (node_at leaf nodes).ty a) (among nodes made ms))) of_value
    ∙ sym (keys_step nodes left leaf later atoms atom others (among nodes made ms) is are)

-- keys of nodes are within all
pub keys_below : (nodes : List SchemaNode) (parent : Option ℕ) (keys : List Key) → AllByRecursion (IsKeyBelow nodes parent) keys → AllByRecursion (λ key. key.leaf < length nodes) keys
keys_below nodes parent keys are = all_mapped (IsKeyBelow nodes parent) (λ key. key.leaf < length nodes) (λ key is. is.within) keys are
