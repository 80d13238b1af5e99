-- Whole rows make a forest that fits.
use Rattle.std.proofs.Common.{◌≡◌, ℕ, ◌<◌, List, [], ◌∷◌, ◌++◌, length, drop, map, Bool, true, false, true≢false, Option, Some, None, is_some, refl, sym, ap, subst, ◌∙◌, cond, arith, append_assoc, append-nil, ◌||◌, nat_eq, Ordering, Less, Equal, Greater}
use Rattle.std.specs.Ordering.{eq_by_cmp, is_eq, is_lt, ordering_then}
use Rattle.std.specs.List.{AllByRecursion}
use Rattle.std.specs.List.Sorted.{IsStrictlySortedBy}
use Rattle.std.proofs.lemmas.Cmp.{tied_itself}
use Rattle.std.proofs.lemmas.Bool.{and_parts, eqb-true, ltb-true}
use Rattle.yp_base.specs.declared.atom.Atom.{Atom}
use Rattle.yp_base.specs.declared.leaf_type.LeafType.{LeafType}
use Rattle.yp_base.specs.declared.path.Seg.{Seg}
use Rattle.yp_base.specs.declared.row.Value.{Value}
use Rattle.yp_base.specs.declared.row.Value.TheVariants.{Atom as Plain, Member, Empty, Present}
use Rattle.yp_base.specs.declared.row.Row.{Row}
use Rattle.yp_base.specs.Order.{segment_cmp, path_cmp}
use Rattle.yp_base.specs.OrderLaws.{segments_total, paths_total}
use Rattle.yp_base.specs.Rows.{path_of, AreInOrder, value_at}
use Rattle.yp_base.specs.Exact.{segments_decide}
use Rattle.yp_schema.specs.declared.schema.SchemaNode.{SchemaNode}
use Rattle.yp_schema.specs.declared.schema.Kind.{Kind}
use Rattle.yp_schema.specs.declared.schema.Kind.TheVariants.{Container, Presence, List as Listing, Leaf, LeafList}
use Rattle.yp_schema.specs.Nodes.{node_at, child_of, is_key, is_in, may_hold}
use Rattle.yp_schema.specs.WellFormed.{IsSchema, is_parent_of, is_empty, is_key_leaf, are_key_leaves, kind_stands}
use Rattle.yp_schema.specs.Datastore.{atom_fits, keys_fit, one_fits, typed_fits, keys_of_kind, goes_down, goes_to_row, is_member, value_of_kind, is_entry_kind, last_kind_is, ends_in_entry, has_row}
use Rattle.yp_data_json.specs.Forest.{Forest, bare, branch, own_of, in_front, laid, forest_at}
use Rattle.std.proofs.Math.Seq.{drop-append_seam}
use Rattle.yp_base.specs.Order.{is_within}
use Rattle.yp_data_json.specs.Runs.{GoesOn, IsRest}
use Rattle.yp_base.specs.PathLaws.{less_turned, within_itself, within_longer, numbers_same}
use Rattle.yp_data_json.proofs.Laying.{StandsUnder}
use Rattle.yp_data_json.proofs.Parts.{less_middle}
use Rattle.yp_data_json.proofs.AtPlace.{same_front}
use Rattle.yp_schema.specs.SchemaLaws.{segment_within, row_goes_down, row_ends, end_kind, end_open, first_parent, first_segment, child_holds, last_node_append, empty_keys, present_is}
use Rattle.yp_data_json.proofs.Fits.{BranchFits, Fits}
use Rattle.yp_base.specs.RowLaws.{still_some}

-- ---- paths

pub less_front : (p : List Seg) (s : Seg) (rest : List Seg) → path_cmp p (p ++ s ∷ rest) ≡ Less
less_front [] s rest = refl
less_front (x ∷ p) s rest = ap (λ o. ordering_then o (path_cmp p (p ++ s ∷ rest))) (tied_itself segments_total x) ∙ less_front p s rest

abbrev IsBranch : Forest → Type 0
IsBranch bare = ⊥
IsBranch (branch seg own kids next) = Unit {0}

-- the path of a forest's first row
abbrev first_path : List Seg → Forest → List Seg
first_path path bare = path
first_path path (branch seg None kids next) = first_path (path ++ seg ∷ []) kids
first_path path (branch seg (Some v) kids next) = path ++ seg ∷ []

first_front : (path : List Seg) (g : Forest) → (more : List Seg) × (first_path path g ≡ path ++ more)
first_front path bare = ([], sym (append-nil path))
first_front path (branch seg None kids next) = let later = first_front (path ++ seg ∷ []) kids in (seg ∷ later.0, later.1 ∙ append_assoc path (seg ∷ []) later.0)
first_front path (branch seg (Some v) kids next) = (seg ∷ [], refl)

first_head : (path : List Seg) (seg : Seg) (own : Option Value) (kids next : Forest) → (more : List Seg) × (first_path path (branch seg own kids next) ≡ path ++ seg ∷ more)
first_head path seg None kids next = let later = first_front (path ++ seg ∷ []) kids in (later.0, later.1 ∙ append_assoc path (seg ∷ []) later.0)
first_head path seg (Some v) kids next = ([], refl)

first_beyond : (path : List Seg) (g : Forest) → IsBranch g → path_cmp path (first_path path g) ≡ Less
first_beyond path bare h = absurd h
first_beyond path (branch seg own kids next) h = let head = first_head path seg own kids next in ap (path_cmp path) head.1 ∙ less_front path seg head.0

-- ---- what a branch may be while rows are laid

abbrev PresentOrNone : Option Value → Type 0
PresentOrNone None = Unit {0}
PresentOrNone (Some v) = v ≡ Present

abbrev BranchMay : List SchemaNode → Kind → SchemaNode → Seg → Option Value → Forest → Type 0
BranchMay nodes Container node seg own kids = (own ≡ None) × (seg.keys ≡ [])
BranchMay nodes Presence node seg own kids = PresentOrNone own × (seg.keys ≡ [])
BranchMay nodes Listing node seg own kids = PresentOrNone own × (keys_fit nodes node.keys seg.keys ≡ true)
BranchMay nodes Leaf node seg own kids = (v : Value) × (own ≡ Some v) × (typed_fits node.ty v ≡ true) × (seg.keys ≡ []) × (kids ≡ bare)
BranchMay nodes LeafList node seg own kids = (a : Atom) × (own ≡ Some Member) × (seg.keys ≡ a ∷ []) × (atom_fits node.ty a ≡ true) × (kids ≡ bare)

-- a forest that fits but for the own rows of its first branches, which may come yet
abbrev Spine : List SchemaNode → Option ℕ → Forest → Type 0
Spine nodes parent bare = Unit {0}
Spine nodes parent (branch seg None kids next) =
    (child_of parent (node_at seg.node nodes).member nodes ≡ Some seg.node) × (is_key seg.node parent nodes ≡ false) × (seg.node < length nodes)
    × BranchMay nodes (node_at seg.node nodes).kind (node_at seg.node nodes) seg None kids × IsBranch kids × Spine nodes (Some seg.node) kids × Fits nodes parent next
Spine nodes parent (branch seg (Some v) kids next) =
    (child_of parent (node_at seg.node nodes).member nodes ≡ Some seg.node) × (is_key seg.node parent nodes ≡ false) × (seg.node < length nodes)
    × BranchMay nodes (node_at seg.node nodes).kind (node_at seg.node nodes) seg (Some v) kids × Fits nodes (Some seg.node) kids × Fits nodes parent next

none_some : {A : Type 0} (x : A) → None ≡ Some x → ⊥
none_some x e = true≢false (sym (ap is_some e))

some_none : {A : Type 0} (x : A) → Some x ≡ None → ⊥
some_none x e = true≢false (ap is_some e)

may_some : (nodes : List SchemaNode) (k : Kind) (node : SchemaNode) (seg : Seg) (v : Value) (kids : Forest) → BranchMay nodes k node seg (Some v) kids → BranchFits nodes k node seg (Some v) kids
may_some nodes Container node seg v kids h = h
may_some nodes Presence node seg v kids h = (ap (λ w. Some w) h.0, h.1)
may_some nodes Listing node seg v kids h = (ap (λ w. Some w) h.0, h.1)
may_some nodes Leaf node seg v kids h = h
may_some nodes LeafList node seg v kids h = h

may_none : (nodes : List SchemaNode) (k : Kind) (node : SchemaNode) (seg : Seg) (kids : Forest) → (is_entry_kind k ≡ true → ⊥) → BranchMay nodes k node seg None kids → BranchFits nodes k node seg None kids
may_none nodes Container node seg kids never h = h
may_none nodes Presence node seg kids never h = absurd (never refl)
may_none nodes Listing node seg kids never h = absurd (never refl)
may_none nodes Leaf node seg kids never h = absurd (none_some h.0 h.1)
may_none nodes LeafList node seg kids never h = absurd (none_some Member h.1)

pub member_is : (v : Value) → is_member v ≡ true → v ≡ Member
member_is (Plain a) h = absurd (true≢false (sym h))
member_is Member h = refl
member_is Empty h = absurd (true≢false (sym h))
member_is Present h = absurd (true≢false (sym h))

pub one_is : (ty : Option LeafType) (keys : List Atom) → one_fits ty keys ≡ true → (a : Atom) × ((keys ≡ a ∷ []) × (atom_fits ty a ≡ true))
one_is ty [] h = absurd (true≢false (sym h))
one_is ty (a ∷ []) h = (a, (refl, h))
one_is ty (a ∷ b ∷ keys) h = absurd (true≢false (sym h))

end_new : (nodes : List SchemaNode) (k : Kind) (node : SchemaNode) (seg : Seg) (v : Value) → keys_of_kind k nodes node seg.keys ≡ true → value_of_kind k node.ty v ≡ true → BranchMay nodes k node seg (Some v) bare
end_new nodes Container node seg v keys value = absurd (true≢false (sym value))
end_new nodes Presence node seg v keys value = (present_is v value, empty_keys seg.keys keys)
end_new nodes Listing node seg v keys value = (present_is v value, keys)
end_new nodes Leaf node seg v keys value = (v, refl, value, empty_keys seg.keys keys, refl)
end_new nodes LeafList node seg v keys value = let one = one_is node.ty seg.keys keys in (one.0, ap (λ w. Some w) (member_is v value), one.1.0, one.1.1, refl)

end_old : (nodes : List SchemaNode) (k : Kind) (node : SchemaNode) (seg : Seg) (v : Value) (kids : Forest) → value_of_kind k node.ty v ≡ true → BranchMay nodes k node seg None kids → BranchMay nodes k node seg (Some v) kids
end_old nodes Container node seg v kids value h = absurd (true≢false (sym value))
end_old nodes Presence node seg v kids value h = (present_is v value, h.1)
end_old nodes Listing node seg v kids value h = (present_is v value, h.1)
end_old nodes Leaf node seg v kids value h = absurd (none_some h.0 h.1)
end_old nodes LeafList node seg v kids value h = absurd (none_some Member h.1)

passes : (nodes : List SchemaNode) (k : Kind) (node : SchemaNode) (seg : Seg) (kids : Forest) → keys_of_kind k nodes node seg.keys ≡ true → may_hold k ≡ true → BranchMay nodes k node seg None kids
passes nodes Container node seg kids keys holds = (refl, empty_keys seg.keys keys)
passes nodes Presence node seg kids keys holds = (tt, empty_keys seg.keys keys)
passes nodes Listing node seg kids keys holds = (tt, keys)
passes nodes Leaf node seg kids keys holds = absurd (true≢false (sym holds))
passes nodes LeafList node seg kids keys holds = absurd (true≢false (sym holds))

-- whatever is below, a branch without a row of its own may have other rows below
still : (nodes : List SchemaNode) (k : Kind) (node : SchemaNode) (seg : Seg) (kids other : Forest) → BranchMay nodes k node seg None kids → BranchMay nodes k node seg None other
still nodes Container node seg kids other h = h
still nodes Presence node seg kids other h = h
still nodes Listing node seg kids other h = h
still nodes Leaf node seg kids other h = absurd (none_some h.0 h.1)
still nodes LeafList node seg kids other h = absurd (none_some Member h.1)

-- ---- of a schema

leaf_kind_at : (nodes : List SchemaNode) (n k : ℕ) (j : Kind) → (node_at k nodes).kind ≡ j → is_key_leaf n nodes k ≡ true → may_hold j ≡ false
leaf_kind_at nodes n k Leaf e h = refl
leaf_kind_at nodes n k LeafList e h = refl
leaf_kind_at nodes n k Container e h = let y = rw e at h in absurd (true≢false (sym (and_parts _ _ (and_parts _ _ (and_parts _ _ y).0).0).1))
leaf_kind_at nodes n k Presence e h = let y = rw e at h in absurd (true≢false (sym (and_parts _ _ (and_parts _ _ (and_parts _ _ y).0).0).1))
leaf_kind_at nodes n k Listing e h = let y = rw e at h in absurd (true≢false (sym (and_parts _ _ (and_parts _ _ (and_parts _ _ y).0).0).1))

key_among_at : (nodes : List SchemaNode) (p n k : ℕ) (b rest : Bool) → nat_eq n k ≡ b → is_key_leaf p nodes k ≡ true → (b || rest) ≡ true → (rest ≡ true → is_key_leaf p nodes n ≡ true) → is_key_leaf p nodes n ≡ true
key_among_at nodes p n k true rest e leaf h later = subst (λ j. is_key_leaf p nodes j ≡ true) (sym (eqb-true n k e)) leaf
key_among_at nodes p n k false rest e leaf h later = later h

pub key_among : (nodes : List SchemaNode) (p n : ℕ) (ks : List ℕ) → are_key_leaves p nodes ks ≡ true → is_in n ks ≡ true → is_key_leaf p nodes n ≡ true
key_among nodes p n [] all h = absurd (true≢false (sym h))
key_among nodes p n (k ∷ ks) all h = key_among_at nodes p n k (nat_eq n k) (is_in n ks) refl (and_parts _ _ (and_parts _ _ all).0).0 h (λ later. key_among nodes p n ks (and_parts _ _ all).1 later)

pub no_key_in : (n : ℕ) (ks : List ℕ) → is_empty ks ≡ true → is_in n ks ≡ false
no_key_in n [] h = refl
no_key_in n (k ∷ ks) h = absurd (true≢false (sym h))

child_no_key : (nodes : List SchemaNode) (p n : ℕ) (k : Kind) → kind_stands k p nodes (node_at p nodes) ≡ true → may_hold (node_at n nodes).kind ≡ true → is_in n (node_at p nodes).keys ≡ false
child_no_key nodes p n Container h holds = no_key_in n (node_at p nodes).keys (and_parts _ _ h).0
child_no_key nodes p n Presence h holds = no_key_in n (node_at p nodes).keys (and_parts _ _ h).0
child_no_key nodes p n Leaf h holds = no_key_in n (node_at p nodes).keys (and_parts _ _ h).0
child_no_key nodes p n LeafList h holds = no_key_in n (node_at p nodes).keys (and_parts _ _ h).0
child_no_key nodes p n Listing h holds = either (is_in n (node_at p nodes).keys) refl
  where
    either : (b : Bool) → is_in n (node_at p nodes).keys ≡ b → b ≡ false
    either false e = refl
    either true e = absurd (true≢false (sym holds ∙ leaf_kind_at nodes p n (node_at n nodes).kind refl (key_among nodes p n (node_at p nodes).keys (and_parts _ _ (and_parts _ _ h).0).1 e)))

no_key_at : (nodes : List SchemaNode) → IsSchema nodes → (n : ℕ) (parent : Option ℕ) → is_parent_of parent n nodes ≡ true → n < length nodes → may_hold (node_at n nodes).kind ≡ true → is_key n parent nodes ≡ false
no_key_at nodes schema n None h within holds = refl
no_key_at nodes schema n (Some p) h within holds =
    let less : p < n = ltb-true p n (and_parts _ _ h).0 in
    child_no_key nodes p n (node_at p nodes).kind (schema.each p (omega arith)).kind holds

-- each list entry and presence container that is below a place and above a row is itself a row
abbrev pub EntriesBelow : List SchemaNode → List Seg → List Row → Type 0
EntriesBelow nodes at rows =
    (path rest : List Seg) (seg : Seg) → is_within at path ≡ true → ends_in_entry nodes (path ++ seg ∷ []) ≡ true → has_row ((path ++ seg ∷ []) ++ rest) rows ≡ true → has_row (path ++ seg ∷ []) rows ≡ true

module _ (nodes : List SchemaNode) (schema : IsSchema nodes) where
  kind_holds : (seg next : Seg) (rest : List Seg) → goes_down nodes (Some seg.node) (next ∷ rest) ≡ true → may_hold (node_at seg.node nodes).kind ≡ true
  kind_holds seg next rest down =
      child_holds nodes schema seg.node next.node (segment_within nodes next (first_segment nodes (Some seg.node) next rest down)) (first_parent nodes (Some seg.node) next rest down)

  parent_of : (parent : Option ℕ) (seg : Seg) (rest : List Seg) → goes_down nodes parent (seg ∷ rest) ≡ true → (node_at seg.node nodes).parent ≡ parent
  parent_of parent seg rest down = numbers_same (node_at seg.node nodes).parent parent (first_parent nodes parent seg rest down)

  within_of : (parent : Option ℕ) (seg : Seg) (rest : List Seg) → goes_down nodes parent (seg ∷ rest) ≡ true → seg.node < length nodes
  within_of parent seg rest down = segment_within nodes seg (first_segment nodes parent seg rest down)

  found_of : (parent : Option ℕ) (seg : Seg) (rest : List Seg) → goes_down nodes parent (seg ∷ rest) ≡ true → child_of parent (node_at seg.node nodes).member nodes ≡ Some seg.node
  found_of parent seg rest down = subst (λ p. child_of p (node_at seg.node nodes).member nodes ≡ Some seg.node) (parent_of parent seg rest down) (schema.each seg.node (within_of parent seg rest down)).found

  further : (parent : Option ℕ) (seg : Seg) (rest : List Seg) → goes_down nodes parent (seg ∷ rest) ≡ true → goes_down nodes (Some seg.node) rest ≡ true
  further parent seg rest down = (and_parts _ _ down).1

  keys_right : (parent : Option ℕ) (seg : Seg) (rest : List Seg) → goes_down nodes parent (seg ∷ rest) ≡ true → keys_of_kind (node_at seg.node nodes).kind nodes (node_at seg.node nodes) seg.keys ≡ true
  keys_right parent seg rest down = (and_parts _ _ (first_segment nodes parent seg rest down)).1

  no_key_of : (parent : Option ℕ) (seg : Seg) (rest : List Seg) (v : Value) → goes_to_row nodes parent (seg ∷ rest) v ≡ true → is_key seg.node parent nodes ≡ false
  no_key_of parent seg [] v goes = subst (λ p. is_key seg.node p nodes ≡ false) (parent_of parent seg [] (row_goes_down nodes parent (seg ∷ []) v goes)) (end_open nodes seg v (row_ends nodes parent [] seg v goes))
  no_key_of parent seg (next ∷ rest) v goes =
      let down = row_goes_down nodes parent (seg ∷ next ∷ rest) v goes in
      let within = within_of parent seg (next ∷ rest) down in
      subst (λ p. is_key seg.node p nodes ≡ false) (parent_of parent seg (next ∷ rest) down)
      (no_key_at nodes schema seg.node (node_at seg.node nodes).parent (schema.each seg.node within).parent within (kind_holds seg next rest (further parent seg (next ∷ rest) down)))

  value_right : (parent : Option ℕ) (seg : Seg) (v : Value) → goes_to_row nodes parent (seg ∷ []) v ≡ true → value_of_kind (node_at seg.node nodes).kind (node_at seg.node nodes).ty v ≡ true
  value_right parent seg v goes = end_kind nodes seg v (row_ends nodes parent [] seg v goes)

  goes_further : (parent : Option ℕ) (seg s : Seg) (rest : List Seg) (v : Value) → goes_to_row nodes parent (seg ∷ s ∷ rest) v ≡ true → goes_to_row nodes (Some seg.node) (s ∷ rest) v ≡ true
  goes_further parent seg s rest v goes = (and_parts _ _ goes).1

  -- a new first branch
  fresh : (parent : Option ℕ) (path : List Seg) (seg : Seg) (rest : List Seg) (v : Value) (next : Forest) (r : List Seg) → r ≡ path ++ seg ∷ rest → goes_to_row nodes parent (seg ∷ rest) v ≡ true → Fits nodes parent next
      → Spine nodes parent (branch seg (own_of rest v None) (laid rest v bare) next) × (first_path path (branch seg (own_of rest v None) (laid rest v bare) next) ≡ r)
  fresh parent path seg [] v next r is goes fits =
      let down = row_goes_down nodes parent (seg ∷ []) v goes in (
        (
          found_of parent seg [] down,
          no_key_of parent seg [] v goes,
          within_of parent seg [] down,
          end_new nodes (node_at seg.node nodes).kind (node_at seg.node nodes) seg v (keys_right parent seg [] down) (value_right parent seg v goes),
          tt,
          fits,
        ),
        sym is,
      )
  fresh parent path seg (s ∷ rest) v next r is goes fits =
      let down = row_goes_down nodes parent (seg ∷ s ∷ rest) v goes in
      let below = further parent seg (s ∷ rest) down in
      let inner = fresh (Some seg.node) (path ++ seg ∷ []) s rest v bare r (is ∙ sym (append_assoc path (seg ∷ []) (s ∷ rest))) (goes_further parent seg s rest v goes) tt in (
        (
          found_of parent seg (s ∷ rest) down,
          no_key_of parent seg (s ∷ rest) v goes,
          within_of parent seg (s ∷ rest) down,
          passes nodes (node_at seg.node nodes).kind (node_at seg.node nodes) seg (laid (s ∷ rest) v bare) (keys_right parent seg (s ∷ rest) down) (kind_holds seg s rest below),
          tt,
          inner.0,
          fits,
        ),
        inner.1,
      )

  module _ (at : List Seg) (full : List Row) (entries : EntriesBelow nodes at full) where
    abbrev FirstLow : (List Seg → Type 0) → List Seg → Forest → Type 0
    FirstLow low path bare = Unit {0}
    FirstLow low path (branch seg own kids next) = low (path ++ seg ∷ [])

    low_below : (low : List Seg → Type 0) → ((p q : List Seg) → path_cmp p q ≡ Less → low p → low q) → (path : List Seg) (g : Forest) → low path → FirstLow low path g
    low_below low up path bare h = tt
    low_below low up path (branch seg own kids next) h = up path (path ++ seg ∷ []) (less_front path seg []) h

    -- where no row stands before the first, the first branches have theirs
    close : (low : List Seg → Type 0) → ((p q : List Seg) → path_cmp p q ≡ Less → low p → low q) → (k : List Seg) → has_row k full ≡ true → ((q : List Seg) → low q → path_cmp q k ≡ Less → has_row q full ≡ false)
        → (parent : Option ℕ) (path : List Seg) (g : Forest) → is_within at path ≡ true → (IsBranch g → k ≡ first_path path g) → FirstLow low path g → Spine nodes parent g → Fits nodes parent g
    close low up k there gap parent path bare inside first lo sp = tt
    close low up k there gap parent path (branch seg (Some v) kids next) inside first lo sp =
        (sp.0, sp.1, sp.2, may_some nodes (node_at seg.node nodes).kind (node_at seg.node nodes) seg v kids sp.3, sp.4, sp.5)
    close low up k there gap parent path (branch seg None kids next) inside first lo sp =
        let p = path ++ seg ∷ [] in
        let front = first_front p kids in
        let before : path_cmp p k ≡ Less = ap (path_cmp p) (first tt) ∙ first_beyond p kids sp.4 in
        let never : is_entry_kind (node_at seg.node nodes).kind ≡ true → ⊥ = λ entry.
        true≢false (sym (entries path front.0 seg inside (ap (last_kind_is is_entry_kind nodes) (last_node_append path seg) ∙ entry) (sym (ap (λ q. has_row q full) (first tt ∙ front.1)) ∙ there)) ∙ gap p lo before) in (
          sp.0,
          sp.1,
          sp.2,
          may_none nodes (node_at seg.node nodes).kind (node_at seg.node nodes) seg kids never sp.3,
          close low up k there gap (Some seg.node) p kids (within_longer at path (seg ∷ []) inside) (λ b. first tt) (low_below low up p kids lo) sp.5,
          sp.6,
        )

    -- ---- one more row in front

    -- the new row comes before the first, and no row stands between
    abbrev Behind : List Seg → List Seg → List Seg → Forest → Type 0
    Behind r k path g = (k ≡ first_path path g) × (path_cmp r k ≡ Less) × (has_row k full ≡ true) × ((q : List Seg) → path_cmp r q ≡ Less → path_cmp q k ≡ Less → has_row q full ≡ false)

    rises : (r p q : List Seg) → path_cmp p q ≡ Less → path_cmp r p ≡ Less → path_cmp r q ≡ Less
    rises r p q h lo = paths_total.trans r p q lo h

    seg_less : (o x y : Ordering) → is_eq o ≡ false → ordering_then o x ≡ Less → ordering_then o y ≡ Less
    seg_less Less x y apart h = refl
    seg_less Equal x y apart h = absurd (true≢false apart)
    seg_less Greater x y apart h = absurd (true≢false (sym (ap is_lt h)))

    beside : (path : List Seg) (seg first : Seg) (rest : List Seg) (own : Option Value) (kids next : Forest) (r k : List Seg) → r ≡ path ++ seg ∷ rest → eq_by_cmp segment_cmp seg first ≡ false
        → k ≡ first_path path (branch first own kids next) → path_cmp r k ≡ Less → path_cmp r (path ++ first ∷ []) ≡ Less
    beside path seg first rest own kids next r k is apart first_is h =
        let head = first_head path first own kids next in
        let less : path_cmp (seg ∷ rest) (first ∷ head.0) ≡ Less =
        sym (same_front path (seg ∷ rest) (first ∷ head.0)) ∙ sym (ap (λ p. path_cmp p (path ++ first ∷ head.0)) is) ∙ sym (ap (path_cmp r) (first_is ∙ head.1)) ∙ h in
        ap (λ p. path_cmp p (path ++ first ∷ [])) is ∙ same_front path (seg ∷ rest) (first ∷ []) ∙ seg_less (segment_cmp seg first) (path_cmp rest head.0) (path_cmp rest []) apart less

    rest_not : (rest : List Seg) → path_cmp rest [] ≡ Less → ⊥
    rest_not [] h = true≢false (sym (ap is_lt h))
    rest_not (s ∷ rest) h = true≢false (sym (ap is_lt h))

    no_own : (path : List Seg) (seg first : Seg) (rest r k : List Seg) → r ≡ path ++ seg ∷ rest → seg ≡ first → k ≡ path ++ first ∷ [] → path_cmp r k ≡ Less → ⊥
    no_own path seg first rest r k is same k_is h =
        let less : path_cmp (first ∷ rest) (first ∷ []) ≡ Less =
        sym (same_front path (first ∷ rest) (first ∷ [])) ∙ ap (λ (s : Seg). path_cmp (path ++ s ∷ rest) (path ++ first ∷ [])) (sym same) ∙ sym (ap (λ p. path_cmp p (path ++ first ∷ [])) is) ∙ sym (ap (path_cmp r) k_is) ∙ h in
        rest_not rest (sym (ap (λ o. ordering_then o (path_cmp rest [])) (tied_itself segments_total first)) ∙ less)

    low_kids : (p r : List Seg) (g : Forest) → r ≡ p → FirstLow (λ q. path_cmp r q ≡ Less) p g
    low_kids p r bare e = tt
    low_kids p r (branch seg own kids next) e = ap (λ x. path_cmp x (p ++ seg ∷ [])) e ∙ less_front p seg []

    abbrev Laid : Option ℕ → List Seg → Forest → List Seg → Type 0
    Laid parent path g r = Spine nodes parent g × (first_path path g ≡ r)

    lay_end : (b : Bool) (parent : Option ℕ) (path : List Seg) (seg : Seg) (v : Value) (first : Seg) (own : Option Value) (kids next : Forest) (r k : List Seg) → is_within at path ≡ true → eq_by_cmp segment_cmp seg first ≡ b
        → r ≡ path ++ seg ∷ [] → goes_to_row nodes parent (seg ∷ []) v ≡ true → Behind r k path (branch first own kids next) → Spine nodes parent (branch first own kids next)
        → Laid parent path (cond b (branch first (Some v) kids next) (branch seg (Some v) bare (branch first own kids next))) r
    lay_end false parent path seg v first own kids next r k inside apart is goes behind sp =
        fresh parent path seg [] v (branch first own kids next) r is goes
        (close (λ q. path_cmp r q ≡ Less) (rises r) k behind.2 behind.3 parent path (branch first own kids next) inside (λ b. behind.0) (beside path seg first [] own kids next r k is apart behind.0 behind.1) sp)
    lay_end true parent path seg v first (Some w) kids next r k inside alike is goes behind sp = absurd (no_own path seg first [] r k is ((segments_decide seg first).0 alike) behind.0 behind.1)
    lay_end true parent path seg v first None kids next r k inside alike is goes behind sp =
        let same = (segments_decide seg first).0 alike in
        let here : r ≡ path ++ first ∷ [] = is ∙ ap (λ (s : Seg). path ++ s ∷ []) same in (
          (
            sp.0,
            sp.1,
            sp.2,
            end_old nodes (node_at first.node nodes).kind (node_at first.node nodes) first v kids (value_right parent first v (subst (λ (s : Seg). goes_to_row nodes parent (s ∷ []) v ≡ true) same goes)) sp.3,
            close (λ q. path_cmp r q ≡ Less) (rises r) k behind.2 behind.3 (Some first.node) (path ++ first ∷ []) kids (within_longer at path (first ∷ []) inside) (λ b. behind.0) (low_kids (path ++ first ∷ []) r kids here) sp.5,
            sp.6,
          ),
          sym here,
        )

    branch_at : (b : Bool) (s first : Seg) (one two three : Option Value) (f g h next : Forest) → IsBranch (cond b (branch first one f next) (branch s two g (branch first three h next)))
    branch_at true s first one two three f g h next = tt
    branch_at false s first one two three f g h next = tt

    laid_branch : (s : Seg) (rest : List Seg) (v : Value) (inner : Forest → Forest) (g : Forest) → IsBranch (in_front s rest v inner g)
    laid_branch s rest v inner bare = tt
    laid_branch s rest v inner (branch first own kids next) = branch_at (eq_by_cmp segment_cmp s first) s first (own_of rest v own) (own_of rest v None) own (inner kids) (inner bare) kids next

    lay_on : (b : Bool) (parent : Option ℕ) (path : List Seg) (seg s : Seg) (rest : List Seg) (v : Value) (first : Seg) (own : Option Value) (kids next : Forest) (r k : List Seg) → is_within at path ≡ true → eq_by_cmp segment_cmp seg first ≡ b
        → r ≡ path ++ seg ∷ s ∷ rest → goes_to_row nodes parent (seg ∷ s ∷ rest) v ≡ true → Behind r k path (branch first own kids next) → Spine nodes parent (branch first own kids next)
        → (own ≡ None → seg ≡ first → Laid (Some first.node) (path ++ first ∷ []) (laid (s ∷ rest) v kids) r)
        → Laid parent path (cond b (branch first own (laid (s ∷ rest) v kids) next) (branch seg None (laid (s ∷ rest) v bare) (branch first own kids next))) r
    lay_on false parent path seg s rest v first own kids next r k inside apart is goes behind sp inner =
        fresh parent path seg (s ∷ rest) v (branch first own kids next) r is goes
        (close (λ q. path_cmp r q ≡ Less) (rises r) k behind.2 behind.3 parent path (branch first own kids next) inside (λ b. behind.0) (beside path seg first (s ∷ rest) own kids next r k is apart behind.0 behind.1) sp)
    lay_on true parent path seg s rest v first (Some w) kids next r k inside alike is goes behind sp inner = absurd (no_own path seg first (s ∷ rest) r k is ((segments_decide seg first).0 alike) behind.0 behind.1)
    lay_on true parent path seg s rest v first None kids next r k inside alike is goes behind sp inner =
        let i = inner refl ((segments_decide seg first).0 alike) in
        ((sp.0, sp.1, sp.2, still nodes (node_at first.node nodes).kind (node_at first.node nodes) first kids (laid (s ∷ rest) v kids) sp.3, laid_branch s rest v (laid rest v) kids, i.0, sp.6), i.1)

    lay : (parent : Option ℕ) (path : List Seg) (seg : Seg) (rest : List Seg) (v : Value) (g : Forest) (r k : List Seg) → is_within at path ≡ true → r ≡ path ++ seg ∷ rest → goes_to_row nodes parent (seg ∷ rest) v ≡ true
        → (IsBranch g → Behind r k path g) → Spine nodes parent g → Laid parent path (laid (seg ∷ rest) v g) r
    lay parent path seg rest v bare r k inside is goes behind sp = fresh parent path seg rest v bare r is goes tt
    lay parent path seg [] v (branch first own kids next) r k inside is goes behind sp = lay_end (eq_by_cmp segment_cmp seg first) parent path seg v first own kids next r k inside refl is goes (behind tt) sp
    lay parent path seg (s ∷ rest) v (branch first (Some w) kids next) r k inside is goes behind sp =
        lay_on (eq_by_cmp segment_cmp seg first) parent path seg s rest v first (Some w) kids next r k inside refl is goes (behind tt) sp (λ none same. absurd (some_none w none))
    lay parent path seg (s ∷ rest) v (branch first None kids next) r k inside is goes behind sp =
        lay_on (eq_by_cmp segment_cmp seg first) parent path seg s rest v first None kids next r k inside refl is goes (behind tt) sp
        (λ none same. lay (Some first.node) (path ++ first ∷ []) s rest v kids r k (within_longer at path (first ∷ []) inside)
        (is ∙ ap (λ (x : Seg). path ++ x ∷ s ∷ rest) same ∙ sym (append_assoc path (first ∷ []) (s ∷ rest)))
        (subst (λ (x : Seg). goes_to_row nodes (Some x.node) (s ∷ rest) v ≡ true) same (goes_further parent seg s rest v goes)) (λ b. behind tt) sp.5)

    -- ---- all rows

    later_all : (q x : List Seg) (ys : List (List Seg)) → path_cmp q x ≡ Less → AllByRecursion (λ p. path_cmp x p ≡ Less) ys → AllByRecursion (λ p. path_cmp q p ≡ Less) ys
    later_all q x [] h all = tt
    later_all q x (y ∷ ys) h all = (paths_total.trans q x y h all.0, later_all q x ys h all.1)

    none_after : (q : List Seg) (rows : List Row) → AllByRecursion (λ p. path_cmp q p ≡ Less) (map path_of rows) → value_at q rows ≡ None
    none_after q [] h = refl
    none_after q (x ∷ xs) h = ap (λ o. cond (is_eq o) (Some x.value) (value_at q xs)) h.0 ∙ none_after q xs h.1

    gap_at : (before : List Row) (row next : Row) (more : List Row) → AreInOrder (before ++ row ∷ next ∷ more) → (q : List Seg) → path_cmp row.path q ≡ Less → path_cmp q next.path ≡ Less → value_at q (before ++ row ∷ next ∷ more) ≡ None
    unfolding IsStrictlySortedBy
    gap_at [] row next more order q lo hi =
        ap (λ o. cond (is_eq o) (Some row.value) (value_at q (next ∷ more))) (less_turned row.path q lo) ∙ none_after q (next ∷ more) (hi, later_all q next.path (map path_of more) hi order.1.0)
    gap_at (x ∷ before) row next more order q lo hi =
        let less = paths_total.trans x.path row.path q (less_middle path_cmp path_of x before row (next ∷ more) order.0) lo in
        ap (λ o. cond (is_eq o) (Some x.value) (value_at q (before ++ row ∷ next ∷ more))) (less_turned x.path q less) ∙ gap_at before row next more order.1 q lo hi

    there_at : (before : List Row) (x : Row) (more : List Row) → has_row x.path (before ++ x ∷ more) ≡ true
    there_at [] x more = ap (λ o. is_some (cond (is_eq o) (Some x.value) (value_at x.path more))) (tied_itself paths_total x.path)
    there_at (y ∷ before) x more = still_some (is_eq (path_cmp x.path y.path)) y.value (value_at x.path (before ++ x ∷ more)) (there_at before x more)

    row_less : (before : List Row) (row next : Row) (more : List Row) → AreInOrder (before ++ row ∷ next ∷ more) → path_cmp row.path next.path ≡ Less
    unfolding IsStrictlySortedBy
    row_less [] row next more order = order.0.0
    row_less (x ∷ before) row next more order = row_less before row next more order.1

    abbrev FirstIs : List Row → Forest → Type 0
    FirstIs [] f = Unit {0}
    FirstIs (row ∷ rows) f = first_path at f ≡ row.path

    abbrev first_of : List Row → List Seg
    first_of [] = []
    first_of (row ∷ rows) = row.path

    behind_of : (before : List Row) (row : Row) (rest : List Row) (f : Forest) → full ≡ before ++ row ∷ rest → AreInOrder full → f ≡ forest_at (length at) rest → FirstIs rest f → IsBranch f → Behind row.path (first_of rest) at f
    behind_of before row [] f e order is first b = absurd (subst IsBranch is b)
    behind_of before row (next ∷ more) f e order is first b =
        let sorted = subst AreInOrder e order in (
          sym first,
          row_less before row next more sorted,
          subst (λ rows. has_row next.path rows ≡ true) (append_assoc before (row ∷ []) (next ∷ more) ∙ sym e) (there_at (before ++ row ∷ []) next more),
          λ q lo hi. ap (has_row q) e ∙ ap is_some (gap_at before row next more sorted q lo hi),
        )

    lay_row : (parent : Option ℕ) (row : Row) (seg : Seg) (rest : List Seg) (g : Forest) (k : List Seg) → row.path ≡ at ++ seg ∷ rest → IsRest nodes parent (length at) row → (IsBranch g → Behind row.path k at g) → Spine nodes parent g
        → Laid parent at (laid (drop (length at) row.path) row.value g) row.path
    lay_row parent row seg rest g k is goes behind sp =
        let left = ap (drop (length at)) is ∙ drop-append_seam at (seg ∷ rest) in
        subst (λ path. Laid parent at (laid path row.value g) row.path) (sym left)
        (lay parent at seg rest row.value g row.path k (within_itself at) is (subst (λ path. GoesOn nodes parent path row.value) left goes) behind sp)

    spine_rows : (parent : Option ℕ) (before rows : List Row) → full ≡ before ++ rows → AreInOrder full → AllByRecursion (IsRest nodes parent (length at)) rows → AllByRecursion (StandsUnder at) rows
        → Spine nodes parent (forest_at (length at) rows) × FirstIs rows (forest_at (length at) rows)
    spine_rows parent before [] e order all under = (tt, tt)
    spine_rows parent before (row ∷ rest) e order all under =
        let inner = spine_rows parent (before ++ row ∷ []) rest (e ∙ sym (append_assoc before (row ∷ []) rest)) order all.1 under.1 in
        lay_row parent row under.0.0 under.0.1 (forest_at (length at) rest) (first_of rest) under.0.2 all.0 (behind_of before row rest (forest_at (length at) rest) e order refl inner.1) inner.0

-- the forest of whole rows below a place fits
pub whole_fits : (nodes : List SchemaNode) → IsSchema nodes → (at : List Seg) (parent : Option ℕ) (rows : List Row) → EntriesBelow nodes at rows → AreInOrder rows → AllByRecursion (IsRest nodes parent (length at)) rows → AllByRecursion (StandsUnder at) rows
    → Fits nodes parent (forest_at (length at) rows)
unfolding IsStrictlySortedBy
whole_fits nodes schema at parent [] entries order all under = tt
whole_fits nodes schema at parent (row ∷ rest) entries order all under =
    let full = row ∷ rest in
    let sp = spine_rows nodes schema at full entries parent [] full refl order all under in
    close nodes schema at full entries (λ q. Unit {0}) (λ p q h lo. tt) row.path (there_at nodes schema at full entries [] row rest)
    (λ q lo h. ap is_some (none_after nodes schema at full entries q full (h, later_all nodes schema at full entries q row.path (map path_of rest) h order.0)))
    parent at (forest_at (length at) full) (within_itself at) (λ b. sym sp.1) (low_below nodes schema at full entries (λ q. Unit {0}) (λ p q h lo. tt) at (forest_at (length at) full) tt) sp.0
