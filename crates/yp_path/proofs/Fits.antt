use Rattle.std.proofs.Common.{◌≡◌, ℕ, zero, suc, ◌<◌, List, [], ◌∷◌, length, get_or, true, false, refl, sym, ap, subst, ◌∙◌, Option, Some, None, arith}
use Rattle.std.proofs.lemmas.Bool.{and_parts}
use Rattle.yp_value.specs.Writable.{fits_writable}
use Rattle.yp_base.specs.declared.atom.Atom.{Atom}
use Rattle.yp_base.specs.declared.leaf_type.LeafType.{LeafType}
use Rattle.yp_base.specs.declared.path.Seg.{Seg}
use Rattle.yp_value.specs.Texts.{is_writable}
use Rattle.yp_schema.specs.declared.schema.SchemaNode.{SchemaNode}
use Rattle.yp_schema.specs.declared.schema.Kind.{Kind}
use Rattle.yp_schema.specs.declared.schema.Kind.TheVariants.{Container, Presence, List as Listing, Leaf, LeafList}
use Rattle.yp_schema.specs.Nodes.{node_at}
use Rattle.yp_schema.specs.WellFormed.{IsSchema, is_empty}
use Rattle.yp_schema.specs.Datastore.{is_path_of, is_segment, keys_of_kind, keys_fit, one_fits, atom_fits}
use Rattle.yp_schema.specs.SchemaLaws.{type_is, keys_within, segment_within, path_segments}

-- ---- the keys of a segment can be written

abbrev pub AreWritten : List Atom → Type 0
AreWritten keys = (k : ℕ) → (d : Atom) → k < length keys → is_writable (get_or keys k d) ≡ true

module _ (nodes : List SchemaNode) (schema : IsSchema nodes) where
  atom_written : (n : ℕ) (t : Option LeafType) (a : Atom) → n < length nodes → (node_at n nodes).ty ≡ t → atom_fits t a ≡ true → is_writable a ≡ true
  atom_written n None a h is e = let wrong : false ≡ true = e in cc
  atom_written n (Some ty) a h is e = fits_writable ty a (type_is nodes n ty schema h is) e

  none_written : (keys : List Atom) → is_empty keys ≡ true → AreWritten keys
  none_written [] e k d h = absurd (omega (arith, h))
  none_written (key ∷ keys) e k d h = let wrong : false ≡ true = e in cc

  all_written : (ks : List ℕ) (keys : List Atom) → ((k d : ℕ) → k < length ks → get_or ks k d < length nodes) → keys_fit nodes ks keys ≡ true → AreWritten keys
  all_written ks [] below e k d h = absurd (omega (arith, h))
  all_written [] (key ∷ keys) below e k d h = let wrong : false ≡ true = e in cc
  all_written (n ∷ ns) (key ∷ keys) below e zero d h = atom_written n (node_at n nodes).ty key (below 0 0 (omega arith)) refl (and_parts _ _ e).0
  all_written (n ∷ ns) (key ∷ keys) below e (suc k) d h =
      all_written ns keys (λ j c l. below (suc j) c (omega (arith, l))) (and_parts _ _ e).1 k d (omega (arith, h))

  one_written : (n : ℕ) (keys : List Atom) → n < length nodes → one_fits (node_at n nodes).ty keys ≡ true → AreWritten keys
  one_written n [] below e k d h = absurd (omega (arith, h))
  one_written n (key ∷ []) below e zero d h = atom_written n (node_at n nodes).ty key below refl e
  one_written n (key ∷ []) below e (suc k) d h = absurd (omega (arith, h))
  one_written n (key ∷ next ∷ keys) below e k d h = let wrong : false ≡ true = e in cc

  kind_written : (n : ℕ) (kind : Kind) (keys : List Atom) → n < length nodes → (node_at n nodes).kind ≡ kind → keys_of_kind kind nodes (node_at n nodes) keys ≡ true → AreWritten keys
  kind_written n Container keys below is e = none_written keys e
  kind_written n Presence keys below is e = none_written keys e
  kind_written n Listing keys below is e = all_written (node_at n nodes).keys keys (keys_within nodes n schema below) e
  kind_written n Leaf keys below is e = none_written keys e
  kind_written n LeafList keys below is e = one_written n keys below e

pub segment_written : (nodes : List SchemaNode) (seg : Seg) → IsSchema nodes → is_segment nodes seg ≡ true → AreWritten seg.keys
segment_written nodes seg schema e = kind_written nodes schema seg.node (node_at seg.node nodes).kind seg.keys (segment_within nodes seg e) refl (and_parts _ _ e).1

-- a segment of a path, as a loop over it meets it
pub path_item : (nodes : List SchemaNode) (path items : List Seg) (i : ℕ) (seg : Seg) → is_path_of nodes path ≡ true → items ≡ path → i < length items → seg ≡ get_or items i seg → is_segment nodes seg ≡ true
path_item nodes path items i seg e same h is =
    let P : List Seg → Type 0 = λ l. is_path_of nodes l ≡ true in
    ap (is_segment nodes) is ∙ path_segments nodes items (subst P (sym same) e) i seg h
