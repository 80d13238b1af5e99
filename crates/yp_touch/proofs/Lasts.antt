-- The last segment of a path, and the path above.
use Rattle.std.proofs.Common.{◌≡◌, ℕ, suc, ◌-◌, ◌<◌, List, [], ◌∷◌, length, take, Option, refl, sym, ap, subst, ◌∙◌, arith, true}
use Rattle.std.specs.Prelude.{option_map, slice_get, IfSome}
use Rattle.yp_base.specs.declared.path.Seg.{Seg}
use Rattle.yp_base.specs.Paths.{last_node, above_last}
use Rattle.yp_schema.specs.declared.schema.SchemaNode.{SchemaNode}
use Rattle.yp_schema.specs.Datastore.{is_path_of}
use Rattle.yp_schema.specs.SchemaLaws.{path_end}
use Rattle.yp_select.specs.Places.{path_above}

-- the node of the last segment
last_told : (path : List Seg) → option_map (λ (seg : Seg). seg.node) (slice_get path (length path - 1)) ≡ last_node path
last_told [] = refl
last_told (one ∷ []) = refl
last_told (one ∷ next ∷ path) =
    let more : length (one ∷ next ∷ path) - 1 ≡ suc (length (next ∷ path) - 1) = omega arith in
    ap (λ n. option_map (λ (seg : Seg). seg.node) (slice_get (one ∷ next ∷ path) n)) more ∙ last_told (next ∷ path)

pub last_some : (path : List Seg) (items : List Seg) (found : Option Seg) (o : Option ℕ) → items ≡ path → found ≡ slice_get items (length items - 1) → option_map (λ (seg : Seg). seg.node) found ≡ o → o ≡ last_node path
last_some path items found o same is told = sym told ∙ ap (option_map (λ (seg : Seg). seg.node)) (is ∙ ap (λ (xs : List Seg). slice_get xs (length xs - 1)) same) ∙ last_told path

pub last_within : (nodes : List SchemaNode) (path : List Seg) (o : Option ℕ) → is_path_of nodes path ≡ true → o ≡ last_node path → IfSome o (λ n. n < length nodes)
last_within nodes path o is told = subst (λ (o : Option ℕ). IfSome o (λ n. n < length nodes)) (sym told) (path_end nodes path is)

pub above_take : (path : List Seg) → take (length path - 1) path ≡ path_above path
above_take [] = refl
above_take (one ∷ path) = after one path
  where
    after : (one : Seg) (path : List Seg) → take (length (one ∷ path) - 1) (one ∷ path) ≡ above_last one path
    after one [] = refl
    after one (next ∷ path) =
        let more : length (one ∷ next ∷ path) - 1 ≡ suc (length (next ∷ path) - 1) = omega arith in
        ap (λ n. take n (one ∷ next ∷ path)) more ∙ ap (λ (xs : List Seg). one ∷ xs) (after next path)
