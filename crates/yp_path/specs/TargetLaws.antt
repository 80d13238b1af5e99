-- What is read of a text is a path of the schema.
use Rattle.std.proofs.Common.{◌≡◌, ℕ, ◌<◌, ◌==◌, List, [], ◌∷◌, length, Bool, true, false, cond, refl, sym, ap, subst, ◌∙◌, Option, Some, None, option_map, Result, Ok, Err, IfOk, arith}
use Rattle.std.proofs.lemmas.Bool.{lt-ltb, eqb-true, and_from, and_parts}
use Rattle.yp_base.specs.declared.atom.Atom.{Atom}
use Rattle.yp_base.specs.declared.leaf_type.LeafType.{LeafType}
use Rattle.yp_base.specs.declared.path.Seg.{Seg}
use Rattle.yp_value.specs.Texts.{fits, atom_in}
use Rattle.yp_schema.specs.declared.schema.SchemaNode.{SchemaNode}
use Rattle.yp_schema.specs.declared.schema.Kind.{Kind}
use Rattle.yp_schema.specs.declared.schema.Kind.TheVariants.{Container, Presence, List as Listing, Leaf, LeafList}
use Rattle.yp_base.specs.Paths.{same_number}
use Rattle.yp_schema.specs.Nodes.{node_at}
use Rattle.yp_schema.specs.WellFormed.{is_empty}
use Rattle.yp_schema.specs.Datastore.{is_path_of, goes_down, is_segment, keys_of_kind, keys_fit, one_fits, atom_fits}
use Rattle.yp_path.specs.declared.fault.PathFault.{PathFault}
use Rattle.yp_path.specs.declared.fault.PathFault.TheVariants.{Syntax, UnknownNode, KeyCount, KeyValue}
use Rattle.yp_base.specs.Cuts.{cut, onto_first}
use Rattle.yp_path.specs.Names.{child_named}
use Rattle.yp_base.specs.Results.{◌>>=◌, or_fault}
use Rattle.yp_path.specs.Targets.{value_of, values_read, as_many, asked_of_kind, asked, with_values, some_name, name_part, key_parts, keys_read, segment_in, segments_in, target_in, Gives}
use Rattle.yp_path.specs.NameLaws.{named_at}
use Rattle.yp_path.specs.StepLaws.{step_ok, ok_same, there, and_then_some, map_some}

-- ---- keys

abbrev pub ReadFits : Type 0
ReadFits = (ty : LeafType) (text : List ℕ) (a : Atom) → atom_in ty text ≡ Some a → fits ty a ≡ true

module _ (read_fits : ReadFits) (nodes : List SchemaNode) where
  pub value_fits : (t : Option LeafType) (text : List ℕ) (a : Atom) → value_of t text ≡ Some a → atom_fits t a ≡ true
  value_fits None text a e = cc
  value_fits (Some ty) text a e = read_fits ty text a e

  values_fit : (ks : List ℕ) (texts : List (List ℕ)) (keys : List Atom) → length ks ≡ length texts → values_read nodes ks texts ≡ Some keys → keys_fit nodes ks keys ≡ true
  values_fit [] texts [] same e = refl
  values_fit [] texts (key ∷ keys) same e = cc
  values_fit (k ∷ ks) [] keys same e = absurd (omega (arith, same))
  values_fit (k ∷ ks) (text ∷ texts) keys same e =
      let first = and_then_some (value_of (node_at k nodes).ty text) (λ value. option_map (λ values. value ∷ values) (values_read nodes ks texts)) keys e in
      let rest = map_some (values_read nodes ks texts) (λ values. first.0 ∷ values) keys first.1.1 in
      let here = value_fits (node_at k nodes).ty text first.0 first.1.0 in
      let others = values_fit ks texts rest.0 (omega (arith, same)) rest.1.0 in
      let P : List Atom → Type 0 = λ l. keys_fit nodes (k ∷ ks) l ≡ true in
      subst P rest.1.1 (and_from _ _ here others)

  no_key_fits : (keys : List Atom) → keys_fit nodes [] keys ≡ true → is_empty keys ≡ true
  no_key_fits [] e = refl
  no_key_fits (key ∷ keys) e = let wrong : false ≡ true = e in cc

  one_key_fits : (n : ℕ) (keys : List Atom) → keys_fit nodes (n ∷ []) keys ≡ true → one_fits (node_at n nodes).ty keys ≡ true
  one_key_fits n [] e = let wrong : false ≡ true = e in cc
  one_key_fits n (key ∷ []) e = (and_parts _ _ e).0
  one_key_fits n (key ∷ next ∷ keys) e = let wrong : false ≡ true = (and_parts _ _ e).1 in cc

  asked_fit : (n : ℕ) (kind : Kind) (keys : List Atom) → keys_fit nodes (asked_of_kind kind n (node_at n nodes)) keys ≡ true → keys_of_kind kind nodes (node_at n nodes) keys ≡ true
  asked_fit n Container keys e = no_key_fits keys e
  asked_fit n Presence keys e = no_key_fits keys e
  asked_fit n Listing keys e = e
  asked_fit n Leaf keys e = no_key_fits keys e
  asked_fit n LeafList keys e = one_key_fits n keys e

  as_many_same : (ks : List ℕ) (texts counted : List (List ℕ)) → as_many ks texts ≡ Some counted → length ks ≡ length counted
  as_many_same ks texts counted e = as_many_at (length ks == length texts) refl e
    where
      as_many_at : (b : Bool) → (length ks == length texts) ≡ b → cond b (Some texts) None ≡ Some counted → length ks ≡ length counted
      as_many_at true is h = let same : texts ≡ counted = cc in eqb-true _ _ is ∙ ap (λ (l : List (List ℕ)). length l) same
      as_many_at false is h = cc

  with_values_fit : (n : ℕ) (texts : List (List ℕ)) (seg : Seg) → with_values nodes n (asked n nodes) texts ≡ Ok seg → (seg.node ≡ n) × (keys_of_kind (node_at n nodes).kind nodes (node_at n nodes) seg.keys ≡ true)
  with_values_fit n texts seg e =
      let counted = step_ok (or_fault KeyCount (as_many (asked n nodes) texts)) (λ counted. or_fault KeyValue (values_read nodes (asked n nodes) counted) >>= λ keys. Ok (record { node = n; keys = keys })) seg e in
      let valued = step_ok (or_fault KeyValue (values_read nodes (asked n nodes) counted.0)) (λ keys. Ok (record { node = n; keys = keys })) seg counted.1.1 in
      let made : Seg = record { node = n; keys = valued.0 } in
      let same : made ≡ seg = ok_same (Ok made) made seg refl valued.1.1 in
      let fit = asked_fit n (node_at n nodes).kind valued.0 (values_fit (asked n nodes) counted.0 valued.0 (as_many_same (asked n nodes) texts counted.0 (there KeyCount _ _ counted.1.0)) (there KeyValue _ _ valued.1.0)) in
      (sym (ap (λ (s : Seg). s.node) same), subst (λ (s : Seg). keys_of_kind (node_at n nodes).kind nodes (node_at n nodes) s.keys ≡ true) same fit)

  -- a segment that is read stands below its parent, with its keys
  segment_goes : (parent : Option ℕ) (part : List ℕ) (seg : Seg) → segment_in nodes parent part ≡ Ok seg → (same_number (node_at seg.node nodes).parent parent ≡ true) × (is_segment nodes seg ≡ true)
  segment_goes parent part seg e =
      let named = step_ok (or_fault Syntax (some_name (name_part part))) (λ name. or_fault Syntax (keys_read (key_parts part)) >>= λ texts. or_fault UnknownNode (child_named parent name nodes) >>= λ n. with_values nodes n (asked n nodes) texts) seg e in
      let keyed = step_ok (or_fault Syntax (keys_read (key_parts part))) (λ texts. or_fault UnknownNode (child_named parent named.0 nodes) >>= λ n. with_values nodes n (asked n nodes) texts) seg named.1.1 in
      let found = step_ok (or_fault UnknownNode (child_named parent named.0 nodes)) (λ n. with_values nodes n (asked n nodes) keyed.0) seg keyed.1.1 in
      let at = named_at nodes parent named.0 found.0 (there UnknownNode _ _ found.1.0) in
      let fit = with_values_fit found.0 keyed.0 seg found.1.1 in
      let P : ℕ → Type 0 = λ n. (same_number (node_at n nodes).parent parent ≡ true) × ((n < length nodes) × (keys_of_kind (node_at n nodes).kind nodes (node_at n nodes) seg.keys ≡ true)) in
      let here = subst P (sym fit.0) ((and_parts _ _ at.1).0, (at.0, fit.1)) in
      (here.0, and_from _ _ (lt-ltb _ _ here.1.0) here.1.1)

  segments_go : (parent : Option ℕ) (parts : List (List ℕ)) (segs : List Seg) → segments_in nodes parent parts ≡ Ok segs → (goes_down nodes parent segs ≡ true) × (length segs ≡ length parts)
  segments_go parent [] [] e = (refl, refl)
  segments_go parent [] (seg ∷ segs) e = cc
  segments_go parent (part ∷ parts) segs e =
      let first = step_ok (segment_in nodes parent part) (λ seg. segments_in nodes (Some seg.node) parts >>= λ rest. Ok (seg ∷ rest)) segs e in
      let others = step_ok (segments_in nodes (Some first.0.node) parts) (λ rest. Ok (first.0 ∷ rest)) segs first.1.1 in
      let here = segment_goes parent part first.0 first.1.0 in
      let below = segments_go (Some first.0.node) parts others.0 others.1.0 in
      let same : first.0 ∷ others.0 ≡ segs = ok_same (Ok (first.0 ∷ others.0)) (first.0 ∷ others.0) segs refl others.1.1 in
      subst (λ l. (goes_down nodes parent l ≡ true) × (length l ≡ length (part ∷ parts))) same (and_from _ _ (and_from _ _ here.0 here.1) below.0, omega (arith, below.1))

  cut_some : (mark : ℕ) (bs : List ℕ) → 0 < length (cut mark bs)
  cut_some mark [] = omega arith
  cut_some mark (b ∷ bs) = cut_some_at (b == mark) b (cut mark bs)
    where
      onto_some : (b : ℕ) (texts : List (List ℕ)) → 0 < length (onto_first b texts)
      onto_some b [] = omega arith
      onto_some b (text ∷ texts) = omega arith

      cut_some_at : (t : Bool) (b : ℕ) (texts : List (List ℕ)) → 0 < length (cond t ([] ∷ texts) (onto_first b texts))
      cut_some_at true b texts = omega arith
      cut_some_at false b texts = onto_some b texts

  path_some : (segs : List Seg) → 0 < length segs → goes_down nodes None segs ≡ true → is_path_of nodes segs ≡ true
  path_some [] h e = absurd (omega (arith, h))
  path_some (seg ∷ segs) h e = e

  pub path_of_cut : (bs : List ℕ) (segs : List Seg) → segments_in nodes None (cut 47 bs) ≡ Ok segs → is_path_of nodes segs ≡ true
  path_of_cut bs segs e =
      let go = segments_go None (cut 47 bs) segs e in
      let some = cut_some 47 bs in
      path_some segs (omega (arith, go.1, some)) go.0

  -- the same of an answer
  pub path_answered : (bs : List ℕ) (answer : Result (List Seg) PathFault) → Gives answer (segments_in nodes None (cut 47 bs)) → IfOk answer (λ path. is_path_of nodes path ≡ true)
  path_answered bs (Ok path) h = path_of_cut bs path h
  path_answered bs (Err w) h = tt

  pub path_of_text : (text : List ℕ) (path : List Seg) → target_in nodes text ≡ Ok path → is_path_of nodes path ≡ true
  path_of_text [] path e = cc
  path_of_text (b ∷ bs) path e =
      elim (b == 47) as (λ t. cond t (segments_in nodes None (cut 47 bs)) (Err Syntax) ≡ Ok path → is_path_of nodes path ≡ true) [
        | true ↦ λ h. path_of_cut bs path h
        | false ↦ λ h. cc
      ] e
