-- A path as its last segment and those above it.
use Rattle.std.proofs.Common.{◌≡◌, ℕ, ◌<◌, length, List, [], ◌∷◌, ◌++◌, true, refl, ap, ◌∙◌, append_assoc}
use Rattle.std.specs.Prelude.{Option, Some, None}
use Rattle.std.proofs.lemmas.Bool.{and_parts}
use Rattle.serde_json.specs.Data.{Data}
use Rattle.yp_base.specs.declared.path.Seg.{Seg}
use Rattle.yp_schema.specs.declared.schema.SchemaNode.{SchemaNode}
use Rattle.yp_schema.specs.Datastore.{goes_down, is_place}
use Rattle.yp_schema.specs.SchemaLaws.{segment_within}
use Rattle.yp_data_json.specs.AtPath.{object_read, last_read, rows_read}

last_is : (nodes : List SchemaNode) (front : List Seg) (s : Seg) (above : List Seg) (seg : Seg) (d : Data) → last_read nodes front s (above ++ seg ∷ []) d ≡ object_read nodes seg.node (front ++ s ∷ above) seg.keys d
last_is nodes front s [] seg d = refl
last_is nodes front s (t ∷ above) seg d = last_is nodes (front ++ s ∷ []) t above seg d ∙ ap (λ path. object_read nodes seg.node path seg.keys d) (append_assoc front (s ∷ []) (t ∷ above))

-- what is read at a path is what is read at its last segment
pub rows_last : (nodes : List SchemaNode) (above : List Seg) (seg : Seg) (d : Data) → rows_read nodes (above ++ seg ∷ []) d ≡ object_read nodes seg.node above seg.keys d
rows_last nodes [] seg d = refl
rows_last nodes (s ∷ above) seg d = last_is nodes [] s above seg d

down_within : (nodes : List SchemaNode) (parent : Option ℕ) (above : List Seg) (seg : Seg) → goes_down nodes parent (above ++ seg ∷ []) ≡ true → seg.node < length nodes
down_within nodes parent [] seg h = segment_within nodes seg (and_parts _ _ (and_parts _ _ h).0).1
down_within nodes parent (s ∷ above) seg h = down_within nodes (Some s.node) above seg (and_parts _ _ h).1

-- the last segment of a place is of a node
pub place_within : (nodes : List SchemaNode) (above : List Seg) (seg : Seg) → is_place nodes (above ++ seg ∷ []) ≡ true → seg.node < length nodes
place_within nodes [] seg h = down_within nodes None [] seg (and_parts _ _ h).0
place_within nodes (s ∷ above) seg h = down_within nodes None (s ∷ above) seg (and_parts _ _ h).0
