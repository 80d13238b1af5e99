-- The rule paths of a schema (RFC 8341 section 3.3.5): paths down from the top, each of whose keys is given or left open.
use Rattle.std.specs.Prelude.{◌≡◌, ℕ, List, [], ◌∷◌, length, Bool, true, false, ◌&&◌, nat_lt, Option, Some, None}
use Rattle.yp_base.specs.declared.atom.Atom.{Atom}
use Rattle.yp_base.specs.declared.leaf_type.LeafType.{LeafType}
use Rattle.yp_schema.specs.declared.schema.SchemaNode.{SchemaNode}
use Rattle.yp_schema.specs.declared.schema.Kind.{Kind}
use Rattle.yp_schema.specs.declared.schema.Kind.TheVariants.{Container, Presence, List as Listing, Leaf, LeafList}
use Rattle.yp_base.specs.declared.rule_path.RuleSeg.{RuleSeg}
use Rattle.yp_base.specs.Paths.{same_number}
use Rattle.yp_schema.specs.Nodes.{node_at}
use Rattle.yp_schema.specs.WellFormed.{is_empty}
use Rattle.yp_schema.specs.Datastore.{atom_fits}

-- whether a key is left open, or a value of this type
abbrev pub is_rule_key : Option LeafType → Option Atom → Bool
is_rule_key ty None = true
is_rule_key ty (Some atom) = atom_fits ty atom

-- one key for each key leaf, each open or of its type
abbrev pub are_rule_keys : List SchemaNode → List ℕ → List (Option Atom) → Bool
are_rule_keys nodes [] [] = true
are_rule_keys nodes [] (key ∷ keys) = false
are_rule_keys nodes (k ∷ ks) [] = false
are_rule_keys nodes (k ∷ ks) (key ∷ keys) = is_rule_key (node_at k nodes).ty key && are_rule_keys nodes ks keys

-- one key, open or of this type
abbrev pub is_rule_value : Option LeafType → List (Option Atom) → Bool
is_rule_value ty [] = false
is_rule_value ty (key ∷ []) = is_rule_key ty key
is_rule_value ty (key ∷ other ∷ keys) = false

-- the keys that a node of a kind asks for: of a list its keys, of a leaf-list its value, of any other none
abbrev pub rule_keys_of_kind : Kind → List SchemaNode → SchemaNode → List (Option Atom) → Bool
rule_keys_of_kind Container nodes node keys = is_empty keys
rule_keys_of_kind Presence nodes node keys = is_empty keys
rule_keys_of_kind Listing nodes node keys = are_rule_keys nodes node.keys keys
rule_keys_of_kind Leaf nodes node keys = is_empty keys
rule_keys_of_kind LeafList nodes node keys = is_rule_value node.ty keys

-- a segment of a node, with the keys that it asks for
abbrev pub is_rule_segment : List SchemaNode → RuleSeg → Bool
is_rule_segment nodes seg = nat_lt seg.node (length nodes) && rule_keys_of_kind (node_at seg.node nodes).kind nodes (node_at seg.node nodes) seg.keys

-- each segment's node is a child of the one before, the first one's of `parent`
abbrev pub rule_goes_down : List SchemaNode → Option ℕ → List RuleSeg → Bool
rule_goes_down nodes parent [] = true
rule_goes_down nodes parent (seg ∷ segs) = same_number (node_at seg.node nodes).parent parent && is_rule_segment nodes seg && rule_goes_down nodes (Some seg.node) segs

-- a rule path of a schema: it isn't empty and goes down from the top
abbrev pub is_rule_path_of : List SchemaNode → List RuleSeg → Bool
is_rule_path_of nodes [] = false
is_rule_path_of nodes (seg ∷ segs) = rule_goes_down nodes None (seg ∷ segs)

abbrev pub IsRulePathOf : List SchemaNode → List RuleSeg → Type 0
IsRulePathOf nodes path = is_rule_path_of nodes path ≡ true
