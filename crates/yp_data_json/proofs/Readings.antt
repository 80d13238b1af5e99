-- What is read below a place stands there: each function of the reading gives rows that are of the schema and come with those of their entries.
use Rattle.std.proofs.Common.{◌≡◌, ℕ, suc, ◌+◌, ◌<◌, length, get_or, List, [], ◌∷◌, Bool, true, false, refl, sym, ap, subst, ◌∙◌, cond, arith}
use Rattle.std.specs.Prelude.{Option, Some, None, option_and_then, Result, Ok, Err}
use Rattle.std.proofs.lemmas.Bool.{and_parts, and_from}
use Rattle.yp_base.specs.declared.atom.Atom.{Atom}
use Rattle.yp_base.specs.declared.leaf_type.LeafType.{LeafType}
use Rattle.yp_base.specs.declared.row.Value.{Value}
use Rattle.yp_base.specs.declared.row.Value.TheVariants.{Atom as Plain, Member, Empty, Present}
use Rattle.yp_base.specs.declared.row.Row.{Row}
use Rattle.yp_value.specs.Json.{value_in}
use Rattle.yp_value.specs.JsonLaws.{json_fits}
use Rattle.yp_schema.specs.declared.schema.SchemaNode.{SchemaNode}
use Rattle.yp_base.specs.Paths.{same_number}
use Rattle.yp_schema.specs.Nodes.{no_node, node_at, is_child, place_from, child_of}
use Rattle.yp_schema.specs.Datastore.{atom_fits, keys_fit, typed_fits}
use Rattle.serde_json.specs.Data.{Data, Members}
use Rattle.serde_json.specs.Find.{get_member}
use Rattle.yp_data_json.specs.declared.fault.DataFault.{DataFault}
use Rattle.yp_schema.specs.Values.{typed_value, only_atom, typed_atom}
use Rattle.yp_base.specs.Results.{◌>>=◌}
use Rattle.yp_data_json.specs.Reading.{valid, KeyFault, at_key, key_in, with_key, keys_found, fault_alone, keys_in}

-- ---- steps

-- a step that gives something was made with what the one before gave
pub bound : {A B C : Type 0} (r : Result A DataFault) (f : A → Result B DataFault) (after : B) → (r >>= f) ≡ Ok after → ((x : A) → r ≡ Ok x → f x ≡ Ok after → C) → C
bound (Ok x) f after h go = go x refl h
bound (Err e) f after h go = let no : ⊥ = cc in absurd no

-- the only rows that a reading gives
abbrev pub ok_rows : List Row → Result (List Row) DataFault
ok_rows rows = Ok rows

pub given : (x y : List Row) → ok_rows x ≡ ok_rows y → x ≡ y
given x y h = cc

-- ---- values

pub valid_some : {X : Type 0} (o : Option X) (v : X) → valid o ≡ Ok v → o ≡ Some v
valid_some None v h = let no : ⊥ = cc in absurd no
valid_some {X} (Some w) v h = let same : w ≡ v = cc in ap (λ (x : X). Some x) same

pub value_typed : (ty : Option LeafType) (d : Data) (v : Value) → valid (typed_value ty d) ≡ Ok v → typed_fits ty v ≡ true
value_typed None d v h = let no : ⊥ = cc in absurd no
value_typed (Some ty) d v h = json_fits ty d v (valid_some (value_in ty d) v h)

only_is : (v : Value) (a : Atom) → only_atom v ≡ Some a → v ≡ Plain a
only_is (Plain b) a h = let same : b ≡ a = cc in ap (λ (x : Atom). Plain x) same
only_is Member a h = let no : ⊥ = cc in absurd no
only_is Empty a h = let no : ⊥ = cc in absurd no
only_is Present a h = let no : ⊥ = cc in absurd no

only_some : (o : Option Value) (a : Atom) → option_and_then only_atom o ≡ Some a → o ≡ Some (Plain a)
only_some None a h = let no : ⊥ = cc in absurd no
only_some (Some v) a h = ap (λ (x : Value). Some x) (only_is v a h)

-- an atom is a value
pub atom_some : (ty : Option LeafType) (d : Data) (a : Atom) → valid (typed_atom ty d) ≡ Ok a → typed_value ty d ≡ Some (Plain a)
atom_some ty d a h = only_some (typed_value ty d) a (valid_some (typed_atom ty d) a h)

pub valid_atom : (ty : Option LeafType) (d : Data) (a : Atom) → valid (typed_value ty d) ≡ Ok (Plain a) → valid (typed_atom ty d) ≡ Ok a
valid_atom ty d a h = ap (λ (o : Option Value). valid (option_and_then only_atom o)) (valid_some (typed_value ty d) (Plain a) h)

plain_fits : (ty : Option LeafType) (a : Atom) → typed_fits ty (Plain a) ≡ atom_fits ty a
plain_fits None a = refl
plain_fits (Some ty) a = refl

pub atom_typed : (ty : Option LeafType) (d : Data) (a : Atom) → valid (typed_atom ty d) ≡ Ok a → atom_fits ty a ≡ true
atom_typed ty d a h = sym (plain_fits ty a) ∙ value_typed ty d (Plain a) (ap valid (atom_some ty d a h))

-- ---- keys

key_typed : (ty : Option LeafType) (o : Option Data) (a : Atom) → key_in ty o ≡ Ok a → atom_fits ty a ≡ true
key_typed ty None a h = let no : ⊥ = cc in absurd no
key_typed ty (Some d) a h = atom_typed ty d a h

pub at_key_ok : (k : ℕ) (r : Result Atom DataFault) (a : Atom) → at_key k r ≡ Ok a → r ≡ Ok a
at_key_ok k (Ok b) a h = let same : b ≡ a = cc in ap (λ (x : Atom). Ok x) same
at_key_ok k (Err e) a h = let no : ⊥ = cc in absurd no

pub both_ok : {C : Type 0} (nodes : List SchemaNode) (r : Result Atom KeyFault) (rest : Result (List Atom) KeyFault) (keys : List Atom) → with_key nodes r rest ≡ Ok keys →
    ((a : Atom) (more : List Atom) → r ≡ Ok a → rest ≡ Ok more → keys ≡ a ∷ more → C) → C
both_ok nodes (Ok a) (Ok more) keys h go = let same : a ∷ more ≡ keys = cc in go a more refl refl (sym same)
both_ok nodes (Ok a) (Err f) keys h go = let no : ⊥ = cc in absurd no
both_ok nodes (Err f) (Ok more) keys h go = let no : ⊥ = cc in absurd no
both_ok nodes (Err f) (Err g) keys h go = let no : ⊥ = cc in absurd no

found_fit : (nodes : List SchemaNode) (ks : List ℕ) (ms : Members) (keys : List Atom) → keys_found nodes ks ms ≡ Ok keys → keys_fit nodes ks keys ≡ true
found_fit nodes [] ms keys h = let same : [] ≡ keys = cc in subst (λ (as' : List Atom). keys_fit nodes [] as' ≡ true) same refl
found_fit nodes (k ∷ ks) ms keys h =
    both_ok nodes (at_key k (key_in (node_at k nodes).ty (get_member (node_at k nodes).member ms))) (keys_found nodes ks ms) keys h
    (λ a more e f same.
    subst (λ (as' : List Atom). keys_fit nodes (k ∷ ks) as' ≡ true) (sym same)
    (and_from _ _ (key_typed (node_at k nodes).ty (get_member (node_at k nodes).member ms) a (at_key_ok k _ a e)) (found_fit nodes ks ms more f)))

pub alone_ok : (r : Result (List Atom) KeyFault) (keys : List Atom) → fault_alone r ≡ Ok keys → r ≡ Ok keys
alone_ok (Ok as') keys h = let same : as' ≡ keys = cc in ap (λ (x : List Atom). Ok x) same
alone_ok (Err f) keys h = let no : ⊥ = cc in absurd no

-- the keys that are read fit
pub keys_typed : (nodes : List SchemaNode) (ks : List ℕ) (ms : Members) (keys : List Atom) → keys_in nodes ks ms ≡ Ok keys → keys_fit nodes ks keys ≡ true
keys_typed nodes ks ms keys h = found_fit nodes ks ms keys (alone_ok (keys_found nodes ks ms) keys h)

-- ---- children

pub found_place : (test : SchemaNode → Bool) (from : ℕ) (nodes : List SchemaNode) (n : ℕ) → place_from test from nodes ≡ Some n → (k : ℕ) × (n ≡ from + k) × (k < length nodes) × (test (get_or nodes k no_node) ≡ true)
found_place test from [] n h = let no : ⊥ = cc in absurd no
found_place test from (x ∷ nodes) n h =
    elim (test x) as (λ t. test x ≡ t → cond t (Some from) (place_from test (from + 1) nodes) ≡ Some n → (k : ℕ) × (n ≡ from + k) × (k < length (x ∷ nodes)) × (test (get_or (x ∷ nodes) k no_node) ≡ true)) [
      | true ↦ λ e g. let same : from ≡ n = cc in (0, omega arith, omega arith, e)
      | false ↦ λ e g.
          let later = found_place test (from + 1) nodes n g in
          (suc later.0, omega (arith, later.1), omega (arith, later.2), later.3)
    ] refl h

-- the child of a name is a node below its parent
pub child_is : {C : Type 0} (nodes : List SchemaNode) (parent : Option ℕ) (name : List ℕ) (n : ℕ) → child_of parent name nodes ≡ Some n → (n < length nodes → same_number (node_at n nodes).parent parent ≡ true → C) → C
child_is nodes parent name n h go =
    let found = found_place (is_child parent name) 0 nodes n h in
    let number : found.0 ≡ n = omega (arith, found.1) in
    go (omega (arith, found.2)) (subst (λ (k : ℕ). same_number (node_at k nodes).parent parent ≡ true) number (and_parts _ _ found.3).0)
