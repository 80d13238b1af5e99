-- A filter that is read is of its schema.
use Rattle.std.proofs.Common.{◌≡◌, ℕ, zero, suc, ◌<◌, ◌+◌, ◌-◌, List, [], ◌∷◌, ◌++◌, length, get_or, Bool, true, false, cond, refl, subst, arith, Option, Some, None, ◌&&◌}
use Rattle.std.specs.Prelude.{Result, Ok, Err, option_and_then}
use Rattle.std.proofs.lemmas.Bool.{and_parts, and_from, lt-ltb}
use Rattle.serde_json.specs.Data.{Data, null, boolean, number, string, array, object, Items, no_items, item, Members, no_members, member}
use Rattle.yp_base.specs.declared.atom.Atom.{Atom}
use Rattle.yp_base.specs.declared.leaf_type.LeafType.{LeafType}
use Rattle.yp_base.specs.declared.row.Value.{Value}
use Rattle.yp_base.specs.declared.row.Value.TheVariants.{Atom as Plain, Member, Empty, Present}
use Rattle.yp_value.specs.Json.{value_in, is_one_null}
use Rattle.yp_value.specs.JsonLaws.{json_fits}
use Rattle.yp_base.specs.Paths.{same_number}
use Rattle.yp_base.specs.Results.{◌>>=◌, or_fault}
use Rattle.yp_schema.specs.declared.schema.SchemaNode.{SchemaNode}
use Rattle.yp_schema.specs.Datastore.{atom_fits, is_leaf_kind}
use Rattle.yp_schema.specs.Nodes.{no_node, node_at, is_child, place_from, child_of}
use Rattle.yp_schema.specs.Values.{typed_atom, only_atom}
use Rattle.yp_filter.specs.declared.fault.FilterFault.{FilterFault}
use Rattle.yp_filter.specs.declared.fault.FilterFault.TheVariants.{Value as BadValue}
use Rattle.yp_filter.specs.declared.naming.Place.{Place}
use Rattle.yp_filter.specs.declared.naming.Place.TheVariants.{Children, Nowhere}
use Rattle.yp_filter.specs.Filters.{Node, compare, Asked, of_set}
use Rattle.yp_filter.specs.Fits.{is_child_of, node_fits, set_fits, filter_fits}
use Rattle.yp_filter.specs.Reading.{named_by, place_below, selection, atom_asked, content_match, of_object, some_items, only, joined, set_in, member_in, items_in, item_in, asked_by as filter_by, filter_in}
use Rattle.yp_filter.specs.View.{nodes_of}

-- ---- what a name names

abbrev Placed : (SchemaNode → Bool) → List SchemaNode → ℕ → ℕ → Type 0
Placed test nodes from n = (k : ℕ) × (n ≡ from + k) × (k < length nodes) × (test (get_or nodes k no_node) ≡ true)

placed : (test : SchemaNode → Bool) (from : ℕ) (nodes : List SchemaNode) (n : ℕ) → place_from test from nodes ≡ Some n → Placed test nodes from n
placed test from [] n h = let no : ⊥ = cc in absurd no
placed test from (x ∷ nodes) n h =
    elim (test x) as (λ t. test x ≡ t → cond t (Some from) (place_from test (from + 1) nodes) ≡ Some n → Placed test (x ∷ nodes) from n) [
      | true ↦ λ e g. let same : from ≡ n = cc in (0, omega arith, omega arith, e)
      | false ↦ λ e g.
          let later = placed test (from + 1) nodes n g in
          (suc later.0, omega (arith, later.1), omega (arith, later.2), later.3)
    ] refl h

-- what is named is a child there
named_child : (nodes : List SchemaNode) (parent : Option ℕ) (name : List ℕ) (n : ℕ) → child_of parent name nodes ≡ Some n → is_child_of nodes parent n ≡ true
named_child nodes parent name n h =
    let found = placed (is_child parent name) 0 nodes n h in
    let number : found.0 ≡ n = omega (arith, found.1) in
    and_from _ _ (lt-ltb n (length nodes) (omega (arith, found.2))) (subst (λ (k : ℕ). same_number (node_at k nodes).parent parent ≡ true) number (and_parts _ _ found.3).0)

-- ---- values

only_fits : (ty : LeafType) (d : Data) (o : Option Value) (a : Atom) → value_in ty d ≡ o → option_and_then only_atom o ≡ Some a → atom_fits (Some ty) a ≡ true
only_fits ty d None a e h = let no : ⊥ = cc in absurd no
only_fits ty d (Some (Plain b)) a e h = let same : b ≡ a = cc in subst (λ (x : Atom). atom_fits (Some ty) x ≡ true) same (json_fits ty d (Plain b) e)
only_fits ty d (Some Member) a e h = let no : ⊥ = cc in absurd no
only_fits ty d (Some Empty) a e h = let no : ⊥ = cc in absurd no
only_fits ty d (Some Present) a e h = let no : ⊥ = cc in absurd no

atom_typed : (ty : Option LeafType) (d : Data) (a : Atom) → typed_atom ty d ≡ Some a → atom_fits ty a ≡ true
atom_typed None d a h = let no : ⊥ = cc in absurd no
atom_typed (Some ty) d a h = only_fits ty d (value_in ty d) a refl h

-- what a match asks for fits its node
asked_fits : (leaf : Bool) (ty : Option LeafType) (d : Data) (a : Atom) → cond leaf (typed_atom ty d) None ≡ Some a → (leaf && atom_fits ty a) ≡ true
asked_fits true ty d a h = atom_typed ty d a h
asked_fits false ty d a h = let no : ⊥ = cc in absurd no

-- ---- lists of nodes

abbrev list_fits : List SchemaNode → Option ℕ → List Node → Bool
list_fits nodes parent list = set_fits nodes parent (nodes_of list)

both_fit : (nodes : List SchemaNode) (parent : Option ℕ) (first rest : List Node) → list_fits nodes parent first ≡ true → list_fits nodes parent rest ≡ true → list_fits nodes parent (first ++ rest) ≡ true
both_fit nodes parent [] rest f r = r
both_fit nodes parent (node ∷ first) rest f r = let parts = and_parts _ _ f in and_from _ _ parts.0 (both_fit nodes parent first rest parts.1 r)

-- what is read of one node, and of several, fits below a schema node or at the top
abbrev NodeFits : List SchemaNode → Option ℕ → Result Node FilterFault → Type 0
NodeFits nodes parent (Ok node) = node_fits nodes parent node ≡ true
NodeFits nodes parent (Err fault) = Unit {0}

abbrev ListFits : List SchemaNode → Option ℕ → Result (List Node) FilterFault → Type 0
ListFits nodes parent (Ok list) = list_fits nodes parent list ≡ true
ListFits nodes parent (Err fault) = Unit {0}

-- what is read where names are looked up at a place
abbrev FitsAt : List SchemaNode → Place → Result (List Node) FilterFault → Type 0
FitsAt nodes (Children parent) read = ListFits nodes parent read
FitsAt nodes Nowhere read = Unit {0}

-- what is named is a child
abbrev NamesChild : List SchemaNode → Option ℕ → Option ℕ → Type 0
NamesChild nodes parent None = Unit {0}
NamesChild nodes parent (Some n) = is_child_of nodes parent n ≡ true

module _ (nodes : List SchemaNode) where
  only_one : (parent : Option ℕ) (read : Result Node FilterFault) → NodeFits nodes parent read → ListFits nodes parent (only read)
  only_one parent (Ok node) h = and_from _ _ h refl
  only_one parent (Err fault) h = tt

  joined_fit : (parent : Option ℕ) (first rest : Result (List Node) FilterFault) → ListFits nodes parent first → ListFits nodes parent rest → ListFits nodes parent (joined first rest)
  joined_fit parent (Ok first) (Ok rest) f r = both_fit nodes parent first rest f r
  joined_fit parent (Ok first) (Err fault) f r = tt
  joined_fit parent (Err fault) rest f r = tt

  selection_fits : (parent named : Option ℕ) → NamesChild nodes parent named → node_fits nodes parent (selection named) ≡ true
  selection_fits parent None h = refl
  selection_fits parent (Some n) h = h

  asked_node : (parent : Option ℕ) (n : ℕ) (d : Data) (o : Option Atom) → is_child_of nodes parent n ≡ true → atom_asked (node_at n nodes).kind (node_at n nodes).ty d ≡ o
      → NodeFits nodes parent (or_fault BadValue o >>= λ atom. Ok (compare n (Plain atom)))
  asked_node parent n d None h e = tt
  asked_node parent n d (Some a) h e = and_from _ _ h (asked_fits (is_leaf_kind (node_at n nodes).kind) (node_at n nodes).ty d a e)

  match_fits_there : (parent named : Option ℕ) (d : Data) → NamesChild nodes parent named → NodeFits nodes parent (content_match nodes named d)
  match_fits_there parent None d h = refl
  match_fits_there parent (Some n) d h = asked_node parent n d (atom_asked (node_at n nodes).kind (node_at n nodes).ty d) h refl

  object_fits : (parent : Option ℕ) (room : ℕ) (named : Option ℕ) (ms : Members) (set : Result (List Node) FilterFault) → NamesChild nodes parent named → FitsAt nodes (place_below named) set
      → NodeFits nodes parent (of_object room named ms set)
  object_fits parent room named no_members set h s = selection_fits parent named h
  object_fits parent zero named (member name d ms) set h s = tt
  object_fits parent (suc room) None (member name d ms) (Ok list) h s = refl
  object_fits parent (suc room) (Some n) (member name d ms) (Ok list) h s = and_from _ _ h s
  object_fits parent (suc room) named (member name d ms) (Err fault) h s = tt

  some_fit : (parent : Option ℕ) (ds : Items) (read : Result (List Node) FilterFault) → ListFits nodes parent read → ListFits nodes parent (some_items ds read)
  some_fit parent no_items read r = tt
  some_fit parent (item d ds) read r = r

  array_cases : (parent named : Option ℕ) (is : Bool) (read : Result (List Node) FilterFault) → NamesChild nodes parent named → ListFits nodes parent read
      → ListFits nodes parent (cond is (Ok (selection named ∷ [])) read)
  array_cases parent named true read h r = and_from _ _ (selection_fits parent named h) refl
  array_cases parent named false read h r = r

  joined_at : (place : Place) (first rest : Result (List Node) FilterFault) → FitsAt nodes place first → FitsAt nodes place rest → FitsAt nodes place (joined first rest)
  joined_at (Children parent) first rest f r = joined_fit parent first rest f r
  joined_at Nowhere first rest f r = tt

  names_child : (parent : Option ℕ) (name : List ℕ) (named : Option ℕ) → child_of parent name nodes ≡ named → NamesChild nodes parent named
  names_child parent name None e = tt
  names_child parent name (Some n) e = named_child nodes parent name n e

  at_place : (place : Place) (room : ℕ) (name : List ℕ) (d : Data) → ((parent named : Option ℕ) → NamesChild nodes parent named → ListFits nodes parent (member_in nodes room named d))
      → FitsAt nodes place (member_in nodes room (named_by nodes place name) d)
  at_place (Children parent) room name d go = go parent (child_of parent name nodes) (names_child parent name (child_of parent name nodes) refl)
  at_place Nowhere room name d go = tt

  mutual
    pub set_read_fits : (room : ℕ) (place : Place) (ms : Members) → FitsAt nodes place (set_in nodes room place ms)
    set_read_fits room (Children parent) no_members = refl
    set_read_fits room Nowhere no_members = tt
    set_read_fits room place (member name d ms) =
        joined_at place (member_in nodes room (named_by nodes place name) d) (set_in nodes room place ms)
        (at_place place room name d (λ parent named h. member_read_fits room parent named d h)) (set_read_fits room place ms)

    member_read_fits : (room : ℕ) (parent named : Option ℕ) (d : Data) → NamesChild nodes parent named → ListFits nodes parent (member_in nodes room named d)
    member_read_fits room parent named null h = tt
    member_read_fits room parent named (boolean b) h = only_one parent (content_match nodes named (boolean b)) (match_fits_there parent named (boolean b) h)
    member_read_fits room parent named (number x) h = only_one parent (content_match nodes named (number x)) (match_fits_there parent named (number x) h)
    member_read_fits room parent named (string s) h = only_one parent (content_match nodes named (string s)) (match_fits_there parent named (string s) h)
    member_read_fits room parent named (array ds) h =
        array_cases parent named (is_one_null ds) (some_items ds (items_in nodes room named ds)) h
        (some_fit parent ds (items_in nodes room named ds) (items_read_fit room parent named ds h))
    member_read_fits room parent named (object ms) h =
        only_one parent (of_object room named ms (set_in nodes (room - 1) (place_below named) ms))
        (object_fits parent room named ms (set_in nodes (room - 1) (place_below named) ms) h (set_read_fits (room - 1) (place_below named) ms))

    items_read_fit : (room : ℕ) (parent named : Option ℕ) (ds : Items) → NamesChild nodes parent named → ListFits nodes parent (items_in nodes room named ds)
    items_read_fit room parent named no_items h = refl
    items_read_fit room parent named (item d ds) h =
        joined_fit parent (only (item_in nodes room named d)) (items_in nodes room named ds)
        (only_one parent (item_in nodes room named d) (item_read_fits room parent named d h)) (items_read_fit room parent named ds h)

    item_read_fits : (room : ℕ) (parent named : Option ℕ) (d : Data) → NamesChild nodes parent named → NodeFits nodes parent (item_in nodes room named d)
    item_read_fits room parent named null h = tt
    item_read_fits room parent named (boolean b) h = tt
    item_read_fits room parent named (number x) h = tt
    item_read_fits room parent named (string s) h = tt
    item_read_fits room parent named (array ds) h = tt
    item_read_fits room parent named (object ms) h =
        object_fits parent room named ms (set_in nodes (room - 1) (place_below named) ms) h (set_read_fits (room - 1) (place_below named) ms)

-- the set of a filter that is read
pub read_set_fits : (nodes : List SchemaNode) (room : ℕ) (ms : Members) (list : List Node) → set_in nodes room (Children None) ms ≡ Ok list → set_fits nodes None (nodes_of list) ≡ true
read_set_fits nodes room ms list e = subst (λ (read : Result (List Node) FilterFault). ListFits nodes None read) e (set_read_fits nodes room (Children None) ms)

-- what is read of members, as a filter
members_fit : (nodes : List SchemaNode) (read : Result (List Node) FilterFault) (asked : Asked) → ListFits nodes None read → filter_by read ≡ Ok asked → filter_fits nodes asked ≡ true
members_fit nodes (Ok list) asked fits e =
    let same : of_set (nodes_of list) ≡ asked = cc in
    subst (λ (a : Asked). filter_fits nodes a ≡ true) same fits
members_fit nodes (Err fault) asked fits e = let no : ⊥ = cc in absurd no

-- a filter that is read
pub read_filter_fits : (nodes : List SchemaNode) (json : Data) (asked : Asked) → filter_in nodes json ≡ Ok asked → filter_fits nodes asked ≡ true
read_filter_fits nodes null asked e = let no : ⊥ = cc in absurd no
read_filter_fits nodes (boolean b) asked e = let no : ⊥ = cc in absurd no
read_filter_fits nodes (number x) asked e = let no : ⊥ = cc in absurd no
read_filter_fits nodes (string s) asked e = let no : ⊥ = cc in absurd no
read_filter_fits nodes (array ds) asked e = let no : ⊥ = cc in absurd no
read_filter_fits nodes (object ms) asked e = members_fit nodes (set_in nodes 15 (Children None) ms) asked (set_read_fits nodes 15 (Children None) ms) e
