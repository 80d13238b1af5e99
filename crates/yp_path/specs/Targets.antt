-- Targets: paths as texts (RFC 8040 section 3.5.3), `/` and a name for each node, with `=` and its keys where it has any.
use Rattle.std.specs.Prelude.{◌≡◌, ℕ, List, [], ◌∷◌, ◌++◌, Bool, true, ◌&&◌, ◌==◌, length, nat_lt, if◌then◌else◌, Option, Some, None, option_map, option_and_then, Result, Ok, Err}
use Rattle.std.specs.List.{position_or_len, before_first, after_first}
use Rattle.std.specs.Str.{is_utf8}
use Rattle.yp_value.specs.Texts.{atom_in, atom_text}
use Rattle.yp_base.specs.declared.atom.Atom.{Atom}
use Rattle.yp_base.specs.declared.leaf_type.LeafType.{LeafType}
use Rattle.yp_base.specs.declared.path.Seg.{Seg}
use Rattle.yp_schema.specs.declared.schema.SchemaNode.{SchemaNode}
use Rattle.yp_schema.specs.Nodes.{node_at}
use Rattle.yp_schema.specs.declared.schema.Kind.{Kind}
use Rattle.yp_schema.specs.declared.schema.Kind.TheVariants.{Container, Presence, List as Listing, Leaf, LeafList}
use Rattle.yp_path.specs.declared.fault.PathFault.{PathFault}
use Rattle.yp_path.specs.declared.fault.PathFault.TheVariants.{Syntax, UnknownNode, KeyCount, KeyValue, Memory}
use Rattle.yp_base.specs.Cuts.{cut}
use Rattle.yp_path.specs.Escapes.{escaped, key_read}
use Rattle.yp_path.specs.Names.{child_named}
use Rattle.yp_path.specs.TargetGrammar.{TargetPart}
use Rattle.yp_base.specs.Results.{◌>>=◌, or_fault}

-- ---- reading

abbrev pub is_equals : ℕ → Bool
is_equals b = b == 61

-- what stands before the first `=`
abbrev pub name_part : List ℕ → List ℕ
name_part part = before_first is_equals part

-- the keys after it, with commas between them; none where there is no `=`
abbrev pub key_parts : List ℕ → List (List ℕ)
key_parts part = if nat_lt (position_or_len is_equals part) (length part) then cut 44 (after_first is_equals part) else []

abbrev pub some_name : List ℕ → Option (List ℕ)
some_name [] = None
some_name (b ∷ bs) = Some (b ∷ bs)

-- the texts that keys stand for
abbrev pub keys_read : List (List ℕ) → Option (List (List ℕ))
keys_read [] = Some []
keys_read (key ∷ keys) = option_and_then (λ text. option_map (λ texts. text ∷ texts) (keys_read keys)) (key_read key)

-- the nodes whose types the keys of a segment have: a list's key leaves, and a leaf-list itself
abbrev pub asked_of_kind : Kind → ℕ → SchemaNode → List ℕ
asked_of_kind Container n node = []
asked_of_kind Presence n node = []
asked_of_kind Listing n node = node.keys
asked_of_kind Leaf n node = []
asked_of_kind LeafList n node = n ∷ []

abbrev pub asked : ℕ → List SchemaNode → List ℕ
asked n nodes = asked_of_kind (node_at n nodes).kind n (node_at n nodes)

abbrev pub as_many : List ℕ → List (List ℕ) → Option (List (List ℕ))
as_many ks texts = if length ks == length texts then Some texts else None

abbrev pub value_of : Option LeafType → List ℕ → Option Atom
value_of None text = None
value_of (Some ty) text = atom_in ty text

-- the values of key texts, each by the type of its node
abbrev pub values_read : List SchemaNode → List ℕ → List (List ℕ) → Option (List Atom)
values_read nodes [] texts = Some []
values_read nodes (k ∷ ks) [] = Some []
values_read nodes (k ∷ ks) (text ∷ texts) = option_and_then (λ value. option_map (λ values. value ∷ values) (values_read nodes ks texts)) (value_of (node_at k nodes).ty text)

-- the segment at a node, by the nodes whose types its keys have and the texts of its keys
abbrev pub with_values : List SchemaNode → ℕ → List ℕ → List (List ℕ) → Result Seg PathFault
with_values nodes n ks texts =
    or_fault KeyCount (as_many ks texts) >>= λ counted.
    or_fault KeyValue (values_read nodes ks counted) >>= λ keys.
    Ok (record { node = n; keys = keys })

-- the segment that a part names below a node, or at the top; its least fault is the answer
abbrev pub target_part_in : List SchemaNode → Option ℕ → TargetPart → Result Seg PathFault
target_part_in nodes parent part = or_fault UnknownNode (child_named parent part.name nodes) >>= λ n. with_values nodes n (asked n nodes) part.keys

-- the segments that parts name, each below the one before; the leftmost with a fault decides
abbrev pub target_parts_in : List SchemaNode → Option ℕ → List TargetPart → Result (List Seg) PathFault
target_parts_in nodes parent [] = Ok []
target_parts_in nodes parent (part ∷ parts) = target_part_in nodes parent part >>= λ seg. target_parts_in nodes (Some seg.node) parts >>= λ segs. Ok (seg ∷ segs)

-- the segment that a text without its `/` is; a text that is no part comes before all other faults
abbrev pub segment_in : List SchemaNode → Option ℕ → List ℕ → Result Seg PathFault
segment_in nodes parent part =
    or_fault Syntax (some_name (name_part part)) >>= λ name.
    or_fault Syntax (keys_read (key_parts part)) >>= λ texts.
    target_part_in nodes parent (record { name = name; keys = texts })

-- segments from the left, each below the one before; the leftmost with a fault decides
abbrev pub segments_in : List SchemaNode → Option ℕ → List (List ℕ) → Result (List Seg) PathFault
segments_in nodes parent [] = Ok []
segments_in nodes parent (part ∷ parts) = segment_in nodes parent part >>= λ seg. segments_in nodes (Some seg.node) parts >>= λ segs. Ok (seg ∷ segs)

-- the path that a text is
abbrev pub target_in : List SchemaNode → List ℕ → Result (List Seg) PathFault
target_in nodes [] = Err Syntax
target_in nodes (b ∷ bs) = if b == 47 then segments_in nodes None (cut 47 bs) else Err Syntax

-- an answer is that of the definition, but where memory ran out
abbrev pub Gives : {X : Type 0} → Result X PathFault → Result X PathFault → Type 0
Gives (Ok x) read = read ≡ Ok x
Gives (Err Syntax) read = read ≡ Err Syntax
Gives (Err UnknownNode) read = read ≡ Err UnknownNode
Gives (Err KeyCount) read = read ≡ Err KeyCount
Gives (Err KeyValue) read = read ≡ Err KeyValue
Gives (Err Memory) read = Unit {0}

-- ---- writing

-- keys, the first after `=` and each other after a comma
abbrev pub keys_text : ℕ → List Atom → List ℕ
keys_text mark [] = []
keys_text mark (key ∷ keys) = mark ∷ (escaped (atom_text key) ++ keys_text 44 keys)

abbrev pub segment_text : List SchemaNode → Seg → List ℕ
segment_text nodes seg = 47 ∷ ((node_at seg.node nodes).member ++ keys_text 61 seg.keys)

-- the text of a path, with names in member form
abbrev pub target_text : List SchemaNode → List Seg → List ℕ
target_text nodes [] = []
target_text nodes (seg ∷ segs) = segment_text nodes seg ++ target_text nodes segs

-- whether the canonical texts of the keys are UTF-8, as the texts of all values are
abbrev pub are_texts : List Atom → Bool
are_texts [] = true
are_texts (key ∷ keys) = is_utf8 (atom_text key) && are_texts keys

abbrev pub has_texts : List Seg → Bool
has_texts [] = true
has_texts (seg ∷ segs) = are_texts seg.keys && has_texts segs
