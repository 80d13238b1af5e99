-- How deep the JSON of a notice nests: a path of a schema has at most 16 segments, and each nests three deep at most.
use Rattle.std.proofs.Common.{◌≡◌, ℕ, zero, suc, ◌+◌, ◌*◌, ◌<◌, ◌≤◌, ◌&&◌, max, List, [], ◌∷◌, length, drop, Bool, true, false, cond, Less, Equal, Greater, Option, Some, None, nat_eq, nat_cmp, refl, sym, subst, arith}
use Rattle.std.specs.Cmp.Lexicographic.{slice_cmp}
use Rattle.std.specs.List.{AllByRecursion}
use Rattle.std.specs.Ordering.{match_ordering, eq_by_cmp}
use Rattle.std.proofs.lemmas.Bool.{and_parts}
use Rattle.std.proofs.lemmas.List.{length-drop}
use Rattle.serde_json.specs.Data.{Num, unsigned, Data, number, string, object, Members, no_members, member, put, depth, items_depth, members_depth}
use Rattle.serde_json.specs.Find.{of_integer}
use Rattle.yp_base.specs.declared.atom.Atom.{Atom}
use Rattle.yp_base.specs.declared.atom.Atom.TheVariants.{Bool as Truth, Int, Uint, Dec, Text}
use Rattle.yp_base.specs.declared.leaf_type.LeafType.{LeafType}
use Rattle.yp_base.specs.declared.notice.Change.{Change}
use Rattle.yp_base.specs.declared.notice.Notice.{Notice}
use Rattle.yp_base.specs.declared.notice.Notice.TheVariants as notices
use Rattle.yp_base.specs.declared.path.Seg.{Seg}
use Rattle.yp_base.specs.declared.row.Row.{Row}
use Rattle.yp_base.specs.declared.row.Value.{Value}
use Rattle.yp_base.specs.declared.row.Value.TheVariants.{Atom as Plain, Member, Empty, Present}
use Rattle.yp_value.specs.Json.{has_string_numbers, atom_data, value_data}
use Rattle.yp_base.specs.Order.{segment_cmp}
use Rattle.yp_base.specs.PathLaws.{numbers_same}
use Rattle.yp_base.specs.Paths.{same_number, last_segment}
use Rattle.yp_base.specs.Rows.{value_at}
use Rattle.yp_value.specs.Texts.{atom_text}
use Rattle.yp_schema.specs.declared.schema.SchemaNode.{SchemaNode}
use Rattle.yp_schema.specs.declared.schema.Kind.{Kind}
use Rattle.yp_schema.specs.declared.schema.Kind.TheVariants.{Container, Presence, List as Listing, Leaf, LeafList}
use Rattle.yp_schema.specs.Datastore.{is_segment, goes_down, is_path_of, IsRowOf}
use Rattle.yp_schema.specs.Nodes.{node_at}
use Rattle.yp_schema.specs.SchemaLaws.{segment_within, row_path}
use Rattle.yp_schema.specs.WellFormed.{IsSchema, AreAbove}
use Rattle.yp_data_json.specs.Forest.{Forest, bare, branch, own_of, laid, forest_at}
use Rattle.yp_data_json.specs.Writing.{leaf_data, key_data, one_key_data, with_keys, item_data, Entry, Gathered, no_nodes, single, entries, entry_in_front, branch_in_front, members_of, gathered, members_in, place_data, place_json, rows_json}
use Rattle.yp_encode.specs.Lines.{carries_value, value_member, edits_from, mark, body_of}
use Rattle.yp_encode.specs.Sendable.{HasRows, IsSendableChange, IsSendable}

-- ---- values and keys

either_flat : (b : Bool) (text : List ℕ) (n : Num) → depth (cond b (string text) (number n)) ≤ 1
either_flat true text n = omega arith
either_flat false text n = omega arith

atom_flat : (ty : LeafType) (atom : Atom) → depth (atom_data ty atom) ≤ 1
atom_flat ty (Truth truth) = omega arith
atom_flat ty (Int n) = either_flat (has_string_numbers ty) (atom_text (Int n)) (of_integer n)
atom_flat ty (Uint n) = either_flat (has_string_numbers ty) (atom_text (Uint n)) (unsigned n)
atom_flat ty (Dec places units) = omega arith
atom_flat ty (Text text) = omega arith

value_flat : (ty : LeafType) (value : Value) → depth (value_data ty value) ≤ 1
value_flat ty (Plain atom) = atom_flat ty atom
value_flat ty Member = omega arith
value_flat ty Empty = omega arith
value_flat ty Present = omega arith

leaf_flat : (ty : Option LeafType) (own : Option Value) → depth (leaf_data ty own) ≤ 1
leaf_flat None own = omega arith
leaf_flat (Some ty) None = omega arith
leaf_flat (Some ty) (Some value) = value_flat ty value

one_key_flat : (ty : Option LeafType) (keys : List Atom) → depth (one_key_data ty keys) ≤ 1
one_key_flat ty [] = omega arith
one_key_flat ty (key ∷ keys) = leaf_flat ty (Some (Plain key))

-- a member that is put among others nests no deeper than these and it
put_deep : (n : ℕ) (k : List ℕ) (d : Data) (ms : Members) → depth d ≤ n → members_depth ms ≤ n → members_depth (put k d ms) ≤ n
put_deep n k d no_members one rest = omega (arith, one)
put_deep n k d (member l e ms) one rest =
    let later : members_depth (put k d ms) ≤ n = put_deep n k d ms one (omega (arith, rest)) in
    elim (slice_cmp nat_cmp k l) as (λ o. members_depth (match_ordering o (member k d (member l e ms)) (member l d ms) (member l e (put k d ms))) ≤ n) [
      | Less ↦ omega (arith, one, rest)
      | Equal ↦ omega (arith, one, rest)
      | Greater ↦ omega (arith, later, rest)
    ]

keys_deep : (nodes : List SchemaNode) (n : ℕ) (ks : List ℕ) (keys : List Atom) (ms : Members) → 1 ≤ n → members_depth ms ≤ n → members_depth (with_keys nodes ks keys ms) ≤ n
keys_deep nodes n [] keys ms some rest = rest
keys_deep nodes n (k ∷ ks) [] ms some rest = rest
keys_deep nodes n (k ∷ ks) (key ∷ keys) ms some rest =
    let one : depth (key_data (node_at k nodes).ty key) ≤ 1 = leaf_flat (node_at k nodes).ty (Some (Plain key)) in
    keys_deep nodes n ks keys (put (node_at k nodes).member (key_data (node_at k nodes).ty key) ms) some (put_deep n (node_at k nodes).member (key_data (node_at k nodes).ty key) ms (omega (arith, one, some)) rest)

-- ---- forests

entry_at : (b : Bool) (nodes : List SchemaNode) (n node m : ℕ) (e : Entry) (each : List Entry) (g : Gathered) → depth e.json + 1 ≤ n → members_depth (members_of nodes (entries m each g)) ≤ n
    → members_depth (members_of nodes (cond b (entries m (e ∷ each) g) (entries node (e ∷ []) (entries m each g)))) ≤ n
entry_at true nodes n node m e each g one rest = omega (arith, one, rest)
entry_at false nodes n node m e each g one rest = omega (arith, one, rest)

entry_deep : (nodes : List SchemaNode) (n node : ℕ) (e : Entry) (g : Gathered) → depth e.json + 1 ≤ n → members_depth (members_of nodes g) ≤ n → members_depth (members_of nodes (entry_in_front node e g)) ≤ n
entry_deep nodes n node e no_nodes one rest = omega (arith, one)
entry_deep nodes n node e (single m d g) one rest = omega (arith, one, rest)
entry_deep nodes n node e (entries m each g) one rest = entry_at (nat_eq node m) nodes n node m e each g one rest

item_deep : (nodes : List SchemaNode) (k : Kind) (node : SchemaNode) (seg : Seg) (kids : Members) → depth (item_data nodes k node seg kids) ≤ members_depth kids + 2
item_deep nodes Container node seg kids = omega arith
item_deep nodes Presence node seg kids = omega arith
item_deep nodes Listing node seg kids =
    let keys : members_depth (with_keys nodes node.keys seg.keys kids) ≤ members_depth kids + 1 = keys_deep nodes (members_depth kids + 1) node.keys seg.keys kids (omega arith) (omega arith) in
    omega (arith, keys)
item_deep nodes Leaf node seg kids = omega arith
item_deep nodes LeafList node seg kids = let one : depth (one_key_data node.ty seg.keys) ≤ 1 = one_key_flat node.ty seg.keys in omega (arith, one)

branch_deep : (nodes : List SchemaNode) (n : ℕ) (k : Kind) (node : SchemaNode) (seg : Seg) (own : Option Value) (kids : Members) (g : Gathered) → members_depth kids + 3 ≤ n → members_depth (members_of nodes g) ≤ n
    → members_depth (members_of nodes (branch_in_front nodes k node seg own kids g)) ≤ n
branch_deep nodes n Container node seg own kids g below rest = omega (arith, below, rest)
branch_deep nodes n Presence node seg own kids g below rest = omega (arith, below, rest)
branch_deep nodes n Listing node seg own kids g below rest =
    let one : depth (item_data nodes Listing node seg kids) ≤ members_depth kids + 2 = item_deep nodes Listing node seg kids in
    entry_deep nodes n seg.node (record { keys = seg.keys; json = item_data nodes Listing node seg kids }) g (omega (arith, one, below)) rest
branch_deep nodes n Leaf node seg own kids g below rest = let one : depth (leaf_data node.ty own) ≤ 1 = leaf_flat node.ty own in omega (arith, one, below, rest)
branch_deep nodes n LeafList node seg own kids g below rest =
    let one : depth (item_data nodes LeafList node seg kids) ≤ members_depth kids + 2 = item_deep nodes LeafList node seg kids in
    entry_deep nodes n seg.node (record { keys = seg.keys; json = item_data nodes LeafList node seg kids }) g (omega (arith, one, below)) rest

-- how many branches stand above one another
abbrev height : Forest → ℕ
height bare = 0
height (branch seg own kids next) = max (height kids + 1) (height next)

forest_deep : (nodes : List SchemaNode) (f : Forest) (n : ℕ) → height f ≤ n → members_depth (members_in nodes f) ≤ 3 * n
forest_deep nodes bare n high = omega arith
forest_deep nodes (branch seg own kids next) zero high = absurd (omega (arith, high))
forest_deep nodes (branch seg own kids next) (suc n) high =
    let below : members_depth (members_in nodes kids) ≤ 3 * n = forest_deep nodes kids n (omega (arith, high)) in
    let later : members_depth (members_in nodes next) ≤ 3 * suc n = forest_deep nodes next (suc n) (omega (arith, high)) in
    branch_deep nodes (3 * suc n) (node_at seg.node nodes).kind (node_at seg.node nodes) seg own (members_in nodes kids) (gathered nodes next) (omega (arith, below)) later

laid_at : (b : Bool) (n : ℕ) (seg first : Seg) (rest : List Seg) (v : Value) (own : Option Value) (kids next : Forest) → height (laid rest v kids) ≤ n → height (laid rest v bare) ≤ n → height (branch first own kids next) ≤ suc n
    → height (cond b (branch first (own_of rest v own) (laid rest v kids) next) (branch seg (own_of rest v None) (laid rest v bare) (branch first own kids next))) ≤ suc n
laid_at true n seg first rest v own kids next more new high = omega (arith, more, high)
laid_at false n seg first rest v own kids next more new high = omega (arith, new, high)

laid_high : (path : List Seg) (v : Value) (f : Forest) (n : ℕ) → length path ≤ n → height f ≤ n → height (laid path v f) ≤ n
laid_high [] v f n long high = high
laid_high (seg ∷ rest) v f zero long high = absurd (omega (arith, long))
laid_high (seg ∷ rest) v bare (suc n) long high = let new : height (laid rest v bare) ≤ n = laid_high rest v bare n (omega (arith, long)) (omega arith) in omega (arith, new)
laid_high (seg ∷ rest) v (branch first own kids next) (suc n) long high =
    laid_at (eq_by_cmp segment_cmp seg first) n seg first rest v own kids next (laid_high rest v kids n (omega (arith, long)) (omega (arith, high))) (laid_high rest v bare n (omega (arith, long)) (omega arith)) high

-- rows whose paths have at most 16 segments
abbrev AreShort : List Row → Type 0
AreShort rows = AllByRecursion (λ (row : Row). length row.path ≤ 16) rows

forest_high : (at : ℕ) (rows : List Row) → AreShort rows → height (forest_at at rows) ≤ 16
forest_high at [] short = omega arith
forest_high at (row ∷ rows) short = laid_high (drop at row.path) row.value (forest_at at rows) 16 (omega (arith, length-drop at row.path, short.0)) (forest_high at rows short.1)

-- ---- the JSON of rows

rows_deep : (nodes : List SchemaNode) (at : List Seg) (rows : List Row) → AreShort rows → depth (rows_json nodes at rows) ≤ 60
rows_deep nodes [] rows short = let below : members_depth (members_in nodes (forest_at 0 rows)) ≤ 3 * 16 = forest_deep nodes (forest_at 0 rows) 16 (forest_high 0 rows short) in omega (arith, below)
rows_deep nodes (seg ∷ rest) rows short =
    let last : Seg = last_segment seg rest in
    let below : members_depth (members_in nodes (forest_at (length (seg ∷ rest)) rows)) ≤ 3 * 16 = forest_deep nodes (forest_at (length (seg ∷ rest)) rows) 16 (forest_high (length (seg ∷ rest)) rows short) in
    let place : depth (place_json nodes last (seg ∷ rest) rows) ≤ 58 = place_deep (node_at last.node nodes).kind (node_at last.node nodes) last (value_at (seg ∷ rest) rows) (members_in nodes (forest_at (length (seg ∷ rest)) rows)) (omega (arith, below)) in
    omega (arith, place)
  where
    place_deep : (k : Kind) (node : SchemaNode) (s : Seg) (own : Option Value) (kids : Members) → members_depth kids ≤ 48 → depth (place_data nodes k node s own kids) ≤ 58
    place_deep Container node s own kids below = omega (arith, below)
    place_deep Presence node s own kids below = omega (arith, below)
    place_deep Listing node s own kids below = let one : depth (item_data nodes Listing node s kids) ≤ members_depth kids + 2 = item_deep nodes Listing node s kids in omega (arith, one, below)
    place_deep Leaf node s own kids below = let one : depth (leaf_data node.ty own) ≤ 1 = leaf_flat node.ty own in omega (arith, one)
    place_deep LeafList node s own kids below = let one : depth (item_data nodes LeafList node s kids) ≤ members_depth kids + 2 = item_deep nodes LeafList node s kids in omega (arith, one, below)

-- ---- the body of a notice

value_deep : (b : Bool) (d : Data) → (b ≡ true → depth d ≤ 60) → members_depth (value_member b d) ≤ 60
value_deep true d deep = omega (arith, deep refl)
value_deep false d deep = omega arith

-- each change that carries rows carries short ones
abbrev CarryShort : List Change → Type 0
CarryShort changes = AllByRecursion (λ (change : Change). AreShort change.rows) changes

edits_deep : (nodes : List SchemaNode) (changes : List Change) (n : ℕ) → CarryShort changes → items_depth (edits_from nodes n changes) ≤ 61
edits_deep nodes [] n short = omega arith
edits_deep nodes (change ∷ changes) n short =
    let value : members_depth (value_member (carries_value change.kind) (rows_json nodes change.target change.rows)) ≤ 60
    = value_deep (carries_value change.kind) (rows_json nodes change.target change.rows) (λ is. rows_deep nodes change.target change.rows short.0) in
    let later : items_depth (edits_from nodes (n + 1) changes) ≤ 61 = edits_deep nodes changes (n + 1) short.1 in
    omega (arith, value, later)

mark_deep : (b : Bool) → members_depth (mark b) ≤ 1
mark_deep true = omega arith
mark_deep false = omega arith

full_deep : (nodes : List SchemaNode) (id : ℕ) (rows : List Row) → AreShort rows → depth (object (body_of nodes (notices.Full id rows))) ≤ 125
full_deep nodes id rows short = let deep : depth (rows_json nodes [] rows) ≤ 60 = rows_deep nodes [] rows short in omega (arith, deep)

changes_deep : (nodes : List SchemaNode) (id patch : ℕ) (changes : List Change) (incomplete : Bool) → CarryShort changes → depth (object (body_of nodes (notices.Changes id patch changes incomplete))) ≤ 125
changes_deep nodes id patch changes incomplete short =
    let edits : items_depth (edits_from nodes 1 changes) ≤ 61 = edits_deep nodes changes 1 short in
    let marked : members_depth (mark incomplete) ≤ 1 = mark_deep incomplete in
    omega (arith, edits, marked)

-- ---- paths of a schema

module _ (nodes : List SchemaNode) (schema : IsSchema nodes) where
  -- a path that goes on below a node, with the way up from there
  down_short : (segs : List Seg) (n : ℕ) (above : List ℕ) → n < length nodes → AreAbove nodes n above → goes_down nodes (Some n) segs ≡ true → length segs + length (n ∷ above) ≤ 16
  down_short [] n above low up goes = omega (arith, schema.shallow n above low up)
  down_short (seg ∷ segs) n above low up goes =
      let p = and_parts (same_number (node_at seg.node nodes).parent (Some n) && is_segment nodes seg) (goes_down nodes (Some seg.node) segs) goes in
      let q = and_parts (same_number (node_at seg.node nodes).parent (Some n)) (is_segment nodes seg) p.0 in
      let rest = down_short segs seg.node (n ∷ above) (segment_within nodes seg q.1) (numbers_same (node_at seg.node nodes).parent (Some n) q.0, up) p.1 in
      omega (arith, rest)

  path_short : (path : List Seg) → is_path_of nodes path ≡ true → length path ≤ 16
  path_short [] is = omega arith
  path_short (seg ∷ segs) is =
      let p = and_parts (same_number (node_at seg.node nodes).parent None && is_segment nodes seg) (goes_down nodes (Some seg.node) segs) is in
      let q = and_parts (same_number (node_at seg.node nodes).parent None) (is_segment nodes seg) p.0 in
      let rest = down_short segs seg.node [] (segment_within nodes seg q.1) tt p.1 in
      omega (arith, rest)

  rows_short : (rows : List Row) → AllByRecursion (IsRowOf nodes) rows → AreShort rows
  rows_short [] of = tt
  rows_short (row ∷ rows) of = (path_short row.path (row_path nodes row of.0), rows_short rows of.1)

  carried_short : (b : Bool) (target : List Seg) (rows : List Row) → HasRows nodes b target rows → AreShort rows
  carried_short true target rows has = rows_short rows has.of_schema
  carried_short false target rows has = subst AreShort (sym has) tt

  changes_short : (changes : List Change) → AllByRecursion (IsSendableChange nodes) changes → CarryShort changes
  changes_short [] sendable = tt
  changes_short (change ∷ changes) sendable = (carried_short (carries_value change.kind) change.target change.rows sendable.0.rows, changes_short changes sendable.1)

  -- the JSON of what can be sent is shallow
  pub sent_shallow : (notice : Notice) → IsSendable nodes notice → depth (object (body_of nodes notice)) ≤ 125
  sent_shallow (notices.Full id rows) sendable = full_deep nodes id rows (rows_short rows sendable.of_schema)
  sent_shallow (notices.Changes id patch changes incomplete) sendable = changes_deep nodes id patch changes incomplete (changes_short changes sendable)
  sent_shallow (notices.Started id) sendable = omega arith
  sent_shallow (notices.Modified id) sendable = omega arith
  sent_shallow (notices.Suspended id) sendable = omega arith
  sent_shallow (notices.Resumed id) sendable = omega arith
  sent_shallow (notices.Terminated id) sendable = omega arith
