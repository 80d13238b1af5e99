-- What is read below a place are rows that stand there.
use Rattle.std.proofs.Common.{◌≡◌, ℕ, List, [], ◌∷◌, ◌++◌, true, refl, sym, ap, subst, ◌∙◌}
use Rattle.std.specs.Prelude.{Option, Some, None, is_some}
use Rattle.std.specs.List.{AllByRecursion}
use Rattle.std.proofs.lemmas.Bool.{and_parts, and_from}
use Rattle.yp_base.specs.declared.atom.Atom.{Atom}
use Rattle.yp_base.specs.declared.path.Seg.{Seg}
use Rattle.yp_base.specs.declared.row.Value.{Value}
use Rattle.yp_base.specs.declared.row.Row.{Row}
use Rattle.yp_base.specs.Order.{is_within}
use Rattle.yp_base.specs.Rows.{AreInOrder, put_row}
use Rattle.yp_schema.specs.declared.schema.SchemaNode.{SchemaNode}
use Rattle.yp_base.specs.Paths.{same_number}
use Rattle.yp_schema.specs.Nodes.{node_at}
use Rattle.yp_schema.specs.Datastore.{is_segment, goes_down, is_path_of, IsRowOf, ends_in_entry, has_row, HaveEntries}
use Rattle.yp_data_json.specs.Reading.{below, row_at}
use Rattle.yp_data_json.proofs.PutRows.{put_there, put_elsewhere, same_or_apart, put_keeps}
use Rattle.yp_base.specs.RowLaws.{all_put, put_keeps_order}

-- rows of a schema at or below a place, with those of the entries above each
pub record Stand (nodes : List SchemaNode) (at : List Seg) (rows : List Row) : Type 0 where
  pub in_order : AreInOrder rows
  pub of_schema : AllByRecursion (IsRowOf nodes) rows
  pub within : AllByRecursion (λ row. is_within at row.path ≡ true) rows
  pub entries : HaveEntries nodes at rows

-- such rows, with at least the paths of those before
pub record Grown (nodes : List SchemaNode) (at : List Seg) (before after : List Row) : Type 0 where
  pub stand : Stand nodes at after
  pub keep : (path : List Seg) → has_row path before ≡ true → has_row path after ≡ true

-- each entry at or above a path has its row
abbrev pub Entered : List SchemaNode → List Seg → List Seg → List Row → Type 0
Entered nodes at path rows = (above rest : List Seg) → above ++ rest ≡ path → is_within at above ≡ true → ends_in_entry nodes above ≡ true → has_row above rows ≡ true

pub grown_still : {nodes : List SchemaNode} {at : List Seg} {rows : List Row} → Stand nodes at rows → Grown nodes at rows rows
grown_still stand = record { stand = stand; keep = λ path h. h }

pub grown_on : {nodes : List SchemaNode} {at : List Seg} {a b c : List Row} → Grown nodes at a b → Grown nodes at b c → Grown nodes at a c
grown_on one two = record { stand = two.stand; keep = λ path h. two.keep path (one.keep path h) }

pub entered_on : {nodes : List SchemaNode} {at path : List Seg} {before after : List Row} → Entered nodes at path before → Grown nodes at before after → Entered nodes at path after
entered_on entered grown = λ above rest e within entry. grown.keep above (entered above rest e within entry)

-- a front of a path with one more segment is all of it, or a front of the path
pub cut : {A : Type 0} (above rest path : List Seg) (seg : Seg) → above ++ rest ≡ path ++ seg ∷ [] → (above ≡ path ++ seg ∷ [] → A) → ((more : List Seg) → above ++ more ≡ path → A) → A
cut [] rest path seg e whole front = front path refl
cut (a ∷ []) rest [] seg e whole front = let same : a ≡ seg = cc in whole (ap (λ (s : Seg). s ∷ []) same)
cut (a ∷ b ∷ above) rest [] seg e whole front = let no : ⊥ = cc in absurd no
cut (a ∷ above) rest (p ∷ path) seg e whole front =
    let head : a ≡ p = cc in
    let tail : above ++ rest ≡ path ++ seg ∷ [] = cc in
    cut above rest path seg tail (λ w. whole (cc)) (λ more f. front more (cc))

-- rows with one more that may stand there
pub put_grown : (nodes : List SchemaNode) (at path : List Seg) (n : ℕ) (keys : List Atom) (value : Value) (rows : List Row) → Stand nodes at rows → IsRowOf nodes (row_at (below path n keys) value) →
    is_within at (below path n keys) ≡ true → Entered nodes at path rows → Grown nodes at rows (put_row (row_at (below path n keys) value) rows)
put_grown nodes at path n keys value rows stand row within entered = record {
  stand = record {
    in_order = put_keeps_order (row_at (below path n keys) value) rows stand.in_order;
    of_schema = all_put (IsRowOf nodes) (row_at (below path n keys) value) rows row stand.of_schema;
    within = all_put (λ row. is_within at row.path ≡ true) (row_at (below path n keys) value) rows within stand.within;
    entries = λ above rest inside entry h.
        same_or_apart (above ++ rest) (below path n keys)
        (λ e. cut above rest path (record { node = n; keys = keys }) e
        (λ whole. subst (λ (p : List Seg). has_row p (put_row (row_at (below path n keys) value) rows) ≡ true) (sym whole) (ap is_some (put_there (below path n keys) value rows)))
        (λ more front. put_keeps above (below path n keys) value rows (entered above more front inside entry)))
        (λ apart. put_keeps above (below path n keys) value rows (stand.entries above rest inside entry (sym (ap is_some (put_elsewhere (above ++ rest) (below path n keys) value rows apart)) ∙ h)));
  };
  keep = λ other h. put_keeps other (below path n keys) value rows h;
}

-- ---- paths

down_more : (nodes : List SchemaNode) (parent : Option ℕ) (path : List Seg) (last seg : Seg) → goes_down nodes parent (path ++ last ∷ []) ≡ true → same_number (node_at seg.node nodes).parent (Some last.node) ≡ true → is_segment nodes seg ≡ true →
    goes_down nodes parent ((path ++ last ∷ []) ++ seg ∷ []) ≡ true
down_more nodes parent [] last seg h child segment = and_from _ _ (and_parts _ _ h).0 (and_from _ _ (and_from _ _ child segment) refl)
down_more nodes parent (s ∷ path) last seg h child segment = and_from _ _ (and_parts _ _ h).0 (down_more nodes (Some s.node) path last seg (and_parts _ _ h).1 child segment)

-- a path goes on to a child of its last node
pub path_more : (nodes : List SchemaNode) (path : List Seg) (last seg : Seg) → is_path_of nodes (path ++ last ∷ []) ≡ true → same_number (node_at seg.node nodes).parent (Some last.node) ≡ true → is_segment nodes seg ≡ true →
    is_path_of nodes ((path ++ last ∷ []) ++ seg ∷ []) ≡ true
path_more nodes [] last seg h child segment = down_more nodes None [] last seg h child segment
path_more nodes (s ∷ path) last seg h child segment = down_more nodes None (s ∷ path) last seg h child segment
