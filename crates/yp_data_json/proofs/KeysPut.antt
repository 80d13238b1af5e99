-- Keys put one by one.
use Rattle.std.proofs.Common.{◌≡◌, ℕ, List, [], ◌∷◌, refl, ap, ◌∙◌}
use Rattle.yp_base.specs.declared.atom.Atom.{Atom}
use Rattle.yp_schema.specs.declared.schema.SchemaNode.{SchemaNode}
use Rattle.yp_schema.specs.Nodes.{node_at}
use Rattle.serde_json.specs.Data.{Members, put}
use Rattle.yp_data_json.specs.Writing.{key_data, with_keys}

pub keys_step : (nodes : List SchemaNode) (all : List ℕ) (k : ℕ) (ks : List ℕ) (atoms : List Atom) (key : Atom) (keys : List Atom) (ms : Members) → all ≡ k ∷ ks → atoms ≡ key ∷ keys
    → with_keys nodes all atoms ms ≡ with_keys nodes ks keys (put (node_at k nodes).member (key_data (node_at k nodes).ty key) ms)
keys_step nodes all k ks atoms key keys ms is are = ap (λ ns. with_keys nodes ns atoms ms) is ∙ ap (λ xs. with_keys nodes (k ∷ ks) xs ms) are

-- where no keys are left all are put
pub none_put : (nodes : List SchemaNode) (ks : List ℕ) (ms : Members) → with_keys nodes ks [] ms ≡ ms
none_put nodes [] ms = refl
none_put nodes (k ∷ ks) ms = refl
