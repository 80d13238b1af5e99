-- The places on a path, counted by their depth.
use Rattle.std.proofs.Common.{◌≡◌, ℕ, suc, ◌+◌, ◌-◌, ◌<◌, ◌≤◌, List, [], ◌∷◌, ◌++◌, length, take, drop, get_or, true, Some, None, refl, sym, ap, ◌∙◌, arith}
use Rattle.std.specs.Prelude.{◌&&◌}
use Rattle.std.proofs.Math.Seq.{take-suc, drop-cons}
use Rattle.std.proofs.lemmas.Bool.{and_parts}
use Rattle.std.proofs.lemmas.List.{append-nil, append_assoc, take-append-drop}
use Rattle.std.proofs.lemmas.List.Elements.{All-get_or}
use Rattle.yp_base.specs.declared.path.Seg.{Seg}
use Rattle.yp_schema.specs.declared.schema.SchemaNode.{SchemaNode}
use Rattle.yp_base.specs.Paths.{last_node}
use Rattle.yp_schema.specs.Datastore.{is_path_of}
use Rattle.yp_schema.specs.SchemaLaws.{last_node_append, path_within}
use Rattle.yp_nacm.specs.declared.compile.UserRules.{UserRules}
use Rattle.yp_nacm.specs.Decision.{is_open, is_readable, leaf_step, opens_down}

-- the first so many segments end in the last of them
ends_in : (path : List Seg) (depth : ℕ) (other : Seg) → 1 ≤ depth → depth ≤ length path → take depth path ≡ take (depth - 1) path ++ get_or path (depth - 1) other ∷ []
ends_in path depth other some within =
    let e : depth ≡ suc (depth - 1) = omega arith in
    let lt : depth - 1 < length path = omega arith in
    ap (λ n. take n path) e ∙ take-suc path (depth - 1) other lt

pub end_of_place : (path : List Seg) (depth : ℕ) (other : Seg) → 1 ≤ depth → depth ≤ length path → last_node (take depth path ++ leaf_step None) ≡ Some (get_or path (depth - 1) other).node
end_of_place path depth other some within =
    ap last_node (append-nil (take depth path) ∙ ends_in path depth other some within) ∙ last_node_append (take (depth - 1) path) (get_or path (depth - 1) other)

pub end_of_leaf : (above : List Seg) (leaf : ℕ) → last_node (above ++ leaf_step (Some leaf)) ≡ Some leaf
end_of_leaf above leaf = last_node_append above (record { node = leaf; keys = [] })

-- the node of a place is the schema's
pub node_within : (nodes : List SchemaNode) (path : List Seg) (depth : ℕ) (other : Seg) → is_path_of nodes path ≡ true → 1 ≤ depth → depth ≤ length path → (get_or path (depth - 1) other).node < length nodes
node_within nodes path depth other is some within =
    let lt : depth - 1 < length path = omega arith in
    All-get_or (λ seg. seg.node < length nodes) path (depth - 1) other lt (path_within nodes path is)

-- one place further down
pub next_open : (nodes : List SchemaNode) (rules : UserRules) (path : List Seg) (depth : ℕ) → depth < length path
    → opens_down nodes rules (take depth path) (drop depth path) ≡ (is_open nodes rules (take (depth + 1) path) && opens_down nodes rules (take (depth + 1) path) (drop (depth + 1) path))
next_open nodes rules path depth lt =
    let top : Seg = record { node = 0; keys = [] } in
    let e : suc depth ≡ depth + 1 = omega arith in
    ap (opens_down nodes rules (take depth path)) (drop-cons path depth top lt)
    ∙ ap (λ place. is_open nodes rules place && opens_down nodes rules place (drop (suc depth) path)) (sym (take-suc path depth top lt))
    ∙ ap (λ n. is_open nodes rules (take n path) && opens_down nodes rules (take n path) (drop n path)) e

pub last_open : (nodes : List SchemaNode) (rules : UserRules) (above path : List Seg) (depth : ℕ) → depth ≡ length path → opens_down nodes rules above (drop depth path) ≡ true
last_open nodes rules above path depth e = ap (opens_down nodes rules above) (ap (λ n. drop n path) e ∙ none path)
  where
    none : (path : List Seg) → drop (length path) path ≡ []
    none [] = refl
    none (seg ∷ segs) = none segs

-- ---- below a place that may be read

opens_in_parts : (nodes : List SchemaNode) (rules : UserRules) (above path rest : List Seg) → opens_down nodes rules above path ≡ true → opens_down nodes rules above (path ++ rest) ≡ opens_down nodes rules (above ++ path) rest
opens_in_parts nodes rules above [] rest h = ap (λ place. opens_down nodes rules place rest) (sym (append-nil above))
opens_in_parts nodes rules above (seg ∷ segs) rest h =
    let parts = and_parts _ _ h in
    ap (λ b. b && opens_down nodes rules (above ++ seg ∷ []) (segs ++ rest)) parts.0
    ∙ opens_in_parts nodes rules (above ++ seg ∷ []) segs rest parts.1
    ∙ ap (λ place. opens_down nodes rules place rest) (append_assoc above (seg ∷ []) segs)

-- where the first so many segments may be read, what is left decides
pub opens_below : (nodes : List SchemaNode) (rules : UserRules) (path : List Seg) (depth : ℕ) → is_readable nodes rules (take depth path) ≡ true → opens_down nodes rules (take depth path) (drop depth path) ≡ is_readable nodes rules path
opens_below nodes rules path depth h = sym (opens_in_parts nodes rules [] (take depth path) (drop depth path) h) ∙ ap (is_readable nodes rules) (take-append-drop depth path)
