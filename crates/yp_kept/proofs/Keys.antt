-- Keys of instances.
use Rattle.std.proofs.Common.{◌≡◌, ℕ, List, [], ◌∷◌, length, ◌-◌, refl, Option, Some, None, arith, sym, ap, ◌∙◌}
use Rattle.std.specs.Prelude.{slice_get}
use Rattle.yp_base.specs.declared.atom.Atom.{Atom}
use Rattle.yp_base.specs.declared.path.Seg.{Seg}
use Rattle.yp_schema.specs.declared.schema.SchemaNode.{SchemaNode}
use Rattle.yp_schema.specs.Nodes.{node_at}
use Rattle.yp_kept.specs.Matches.{key_among, key_at}

-- without atoms there is no key
pub key_none : (n : ℕ) (keys : List ℕ) → key_among n keys [] ≡ None
key_none n [] = refl
key_none n (key ∷ keys) = refl

pub none_left : (n : ℕ) (keys : List ℕ) (atoms : List Atom) (whole : Option Atom) → key_among n keys atoms ≡ whole → length atoms ≡ 0 → None ≡ whole
none_left n keys [] whole is none = sym (key_none n keys) ∙ is
none_left n keys (atom ∷ atoms) whole is none = absurd (omega (arith, none))

-- the key of an instance is that of its last segment
pub key_last : (nodes : List SchemaNode) (at : List Seg) (n : ℕ) (seg : Seg) → slice_get at (length at - 1) ≡ Some seg → key_among n (node_at seg.node nodes).keys seg.keys ≡ key_at nodes at n
key_last nodes [] n seg h = let no : None ≡ Some seg = h in cc
key_last nodes (s ∷ []) n seg h = let same : Some s ≡ Some seg = h in let one : s ≡ seg = cc in ap (λ (x : Seg). key_among n (node_at x.node nodes).keys x.keys) (sym one)
key_last nodes (s ∷ t ∷ at) n seg h = key_last nodes (t ∷ at) n seg (later s t at ∙ h)
  where
    later : (s t : Seg) (at : List Seg) → slice_get (t ∷ at) (length (t ∷ at) - 1) ≡ slice_get (s ∷ t ∷ at) (length (s ∷ t ∷ at) - 1)
    later s t at = grind arith
