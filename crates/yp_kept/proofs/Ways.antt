-- Ways down a schema, to the row that a match node asks for.
use Rattle.std.proofs.Common.{◌≡◌, ◌<◌, ◌+◌, ℕ, zero, suc, List, [], ◌∷◌, ◌++◌, length, take, drop, refl, sym, ap, ◌∙◌, true, true≢false, ◌&&◌, Option, Some, None, arith}
use Rattle.std.specs.Prelude.{All, nat_lt, slice_get}
use Rattle.std.proofs.lemmas.Bool.{and_parts, and_from}
use Rattle.std.proofs.lemmas.List.Elements.{All-nil}
use Rattle.yp_base.specs.declared.path.Seg.{Seg}
use Rattle.yp_base.specs.declared.row.Value.{Value}
use Rattle.yp_base.specs.declared.row.Value.TheVariants.{Atom as Plain, Member, Empty, Present}
use Rattle.yp_base.specs.Paths.{same_number}
use Rattle.yp_schema.specs.declared.schema.SchemaNode.{SchemaNode}
use Rattle.yp_schema.specs.declared.schema.Kind.{Kind}
use Rattle.yp_schema.specs.declared.schema.Kind.TheVariants.{Container, Presence, List as Listing, Leaf, LeafList}
use Rattle.yp_schema.specs.Nodes.{node_at}
use Rattle.yp_schema.specs.Datastore.{keys_of_kind, is_segment, goes_down, is_path_of, is_leaf_kind}
use Rattle.yp_schema.specs.SchemaLaws.{node_after, path_within, segment_within, first_segment}
use Rattle.yp_filter.specs.Filters.{compare}
use Rattle.yp_filter.specs.Fits.{match_fits, is_child_of, node_fits}
use Rattle.yp_kept.specs.Matches.{keys_asked, match_segment}

-- the nodes on a way are the schema's
pub way_all : (nodes : List SchemaNode) (at : List Seg) → goes_down nodes None at ≡ true → All (λ seg. seg.node < length nodes) at
way_all nodes [] down = All-nil _
way_all nodes (seg ∷ at) down = path_within nodes (seg ∷ at) down

pub down_last : (nodes : List SchemaNode) (parent : Option ℕ) (at : List Seg) (seg : Seg) → goes_down nodes parent at ≡ true → same_number (node_at seg.node nodes).parent (node_after parent at) ≡ true → is_segment nodes seg ≡ true
    → goes_down nodes parent (at ++ seg ∷ []) ≡ true
down_last nodes parent [] seg down child is =
    and_from (same_number (node_at seg.node nodes).parent parent && is_segment nodes seg) true (and_from (same_number (node_at seg.node nodes).parent parent) (is_segment nodes seg) child is) refl
down_last nodes parent (s ∷ at) seg down child is =
    let parts = and_parts (same_number (node_at s.node nodes).parent parent && is_segment nodes s) (goes_down nodes (Some s.node) at) down in
    and_from (same_number (node_at s.node nodes).parent parent && is_segment nodes s) (goes_down nodes (Some s.node) (at ++ seg ∷ [])) parts.0 (down_last nodes (Some s.node) at seg parts.1 child is)

path_of_down : (nodes : List SchemaNode) (at : List Seg) (seg : Seg) → goes_down nodes None (at ++ seg ∷ []) ≡ true → is_path_of nodes (at ++ seg ∷ []) ≡ true
path_of_down nodes [] seg down = down
path_of_down nodes (s ∷ at) seg down = down

keys_fit_by : (kind : Kind) (nodes : List SchemaNode) (node : SchemaNode) (value : Value) → match_fits kind node.ty value ≡ true → keys_of_kind kind nodes node (keys_asked kind value) ≡ true
keys_fit_by Container nodes node value fits = absurd (true≢false (sym fits))
keys_fit_by Presence nodes node value fits = absurd (true≢false (sym fits))
keys_fit_by Listing nodes node value fits = absurd (true≢false (sym fits))
keys_fit_by Leaf nodes node value fits = refl
keys_fit_by LeafList nodes node (Plain atom) fits = fits
keys_fit_by LeafList nodes node Member fits = absurd (true≢false (sym fits))
keys_fit_by LeafList nodes node Empty fits = absurd (true≢false (sym fits))
keys_fit_by LeafList nodes node Present fits = absurd (true≢false (sym fits))

-- the row that a match node asks for has a path of the schema
pub child_path : (nodes : List SchemaNode) (at : List Seg) (n : ℕ) (value : Value) → goes_down nodes None at ≡ true → node_fits nodes (node_after None at) (compare n value) ≡ true
    → is_leaf_kind (node_at n nodes).kind ≡ true → is_path_of nodes (at ++ match_segment nodes n value ∷ []) ≡ true
child_path nodes at n value down fits leaf =
    let seg = match_segment nodes n value in
    let parts = and_parts (is_child_of nodes (node_after None at) n) (match_fits (node_at n nodes).kind (node_at n nodes).ty value) fits in
    let child = and_parts (nat_lt n (length nodes)) (same_number (node_at n nodes).parent (node_after None at)) parts.0 in
    let is : is_segment nodes seg ≡ true = and_from (nat_lt n (length nodes)) (keys_of_kind (node_at n nodes).kind nodes (node_at n nodes) (keys_asked (node_at n nodes).kind value)) child.0 (keys_fit_by (node_at n nodes).kind nodes (node_at n nodes) value parts.1) in
    path_of_down nodes at seg (down_last nodes None at seg down child.1 is)

pub down_take : (nodes : List SchemaNode) (parent : Option ℕ) (path : List Seg) (d : ℕ) → goes_down nodes parent path ≡ true → goes_down nodes parent (take d path) ≡ true
down_take nodes parent path zero down = refl
down_take nodes parent [] (suc d) down = refl
down_take nodes parent (s ∷ path) (suc d) down =
    let here = same_number (node_at s.node nodes).parent parent && is_segment nodes s in
    let parts = and_parts here (goes_down nodes (Some s.node) path) down in
    and_from here (goes_down nodes (Some s.node) (take d path)) parts.0 (down_take nodes (Some s.node) path d parts.1)

pub one_more : (d : ℕ) → d + 1 ≡ suc d
one_more d = omega arith

-- the first segments of a path of the schema are one
pub path_take : (nodes : List SchemaNode) (path : List Seg) (d : ℕ) → d < length path → goes_down nodes None path ≡ true → is_path_of nodes (take (d + 1) path) ≡ true
path_take nodes [] d less down = absurd (omega (arith, less))
path_take nodes (s ∷ path) d less down = ap (λ k. is_path_of nodes (take k (s ∷ path))) (one_more d) ∙ down_take nodes None (s ∷ path) (suc d) down

-- each segment of a way is of a node
pub next_within : (nodes : List SchemaNode) (parent : Option ℕ) (path : List Seg) (d : ℕ) (seg : Seg) → goes_down nodes parent path ≡ true → slice_get (drop d path) 0 ≡ Some seg → seg.node < length nodes
next_within nodes parent [] d seg down first = let no : None ≡ Some seg = sym (none_left d) ∙ first in cc
  where
    none_left : (d : ℕ) → slice_get (drop {A = Seg} d []) 0 ≡ None
    none_left zero = refl
    none_left (suc d) = refl
next_within nodes parent (s ∷ path) zero seg down first =
    let some : Some s ≡ Some seg = first in
    let same : s ≡ seg = cc in
    segment_within nodes seg (ap (is_segment nodes) (sym same) ∙ first_segment nodes parent s path down)
next_within nodes parent (s ∷ path) (suc d) seg down first =
    next_within nodes (Some s.node) path d seg (and_parts (same_number (node_at s.node nodes).parent parent && is_segment nodes s) (goes_down nodes (Some s.node) path) down).1 first
