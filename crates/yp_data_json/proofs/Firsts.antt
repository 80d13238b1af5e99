-- The first member of rows has the name of the first row's node.
use Rattle.std.proofs.Common.{◌≡◌, ◌≢◌, ℕ, ◌+◌, ◌<◌, ◌≤◌, List, [], ◌∷◌, ◌++◌, length, drop, Bool, true, false, true≢false, Option, None, refl, sym, ap, subst, ◌∙◌, cond, arith, Less, nat_cmp}
use Rattle.std.specs.Prelude.{nat_eq}
use Rattle.std.specs.Cmp.Lexicographic.{slice_cmp}
use Rattle.std.specs.Ordering.{eq_by_cmp}
use Rattle.std.specs.List.{AllByRecursion}
use Rattle.std.proofs.lemmas.Bool.{eqb-true, eq-eqb}
use Rattle.yp_base.specs.declared.path.Seg.{Seg}
use Rattle.yp_base.specs.declared.row.Value.{Value}
use Rattle.yp_base.specs.declared.row.Row.{Row}
use Rattle.yp_base.specs.Order.{segment_cmp, path_cmp}
use Rattle.yp_base.specs.Exact.{segments_decide}
use Rattle.yp_schema.specs.declared.schema.SchemaNode.{SchemaNode}
use Rattle.yp_schema.specs.declared.schema.Kind.{Kind}
use Rattle.yp_schema.specs.declared.schema.Kind.TheVariants.{Container, Presence, List as Listing, Leaf, LeafList}
use Rattle.yp_schema.specs.Nodes.{node_at}
use Rattle.yp_schema.specs.WellFormed.{IsSchema}
use Rattle.yp_base.specs.Paths.{same_number}
use Rattle.yp_schema.specs.Datastore.{goes_down}
use Rattle.yp_schema.specs.SchemaLaws.{segment_within, first_segment, first_parent}
use Rattle.serde_json.specs.Data.{Data, Members, member}
use Rattle.yp_data_json.specs.Forest.{Forest, bare, branch, own_of, in_front, laid, laid_all, forest_at}
use Rattle.yp_data_json.specs.Writing.{Entry, Gathered, no_nodes, single, entries, entry_in_front, branch_in_front, members_of, gathered, members_in}
use Rattle.yp_data_json.specs.Runs.{IsRest, rest_at, AreBelow, begins_with, goes_through, AllGoThrough, begins_through, HasSegment, StandsBefore, AreOneMember}
use Rattle.yp_data_json.proofs.Parts.{all_back}
use Rattle.yp_data_json.proofs.Branches.{laid_append}
use Rattle.yp_data_json.proofs.Below.{rest_down, nodes_rise, less_next, same_parent, through_parent, drop_next, segment_of}

entry_at : (b : Bool) (nodes : List SchemaNode) (name : List ℕ) (n m : ℕ) (e : Entry) (each : List Entry) (g : Gathered) → nat_eq n m ≡ b → slice_cmp nat_cmp name (node_at n nodes).member ≡ Less
    → StandsBefore name (members_of nodes (cond b (entries m (e ∷ each) g) (entries n (e ∷ []) (entries m each g))))
entry_at false nodes name n m e each g is h = h
entry_at true nodes name n m e each g is h = subst (λ k. slice_cmp nat_cmp name (node_at k nodes).member ≡ Less) (eqb-true n m is) h

entry_first : (nodes : List SchemaNode) (name : List ℕ) (n : ℕ) (e : Entry) (g : Gathered) → slice_cmp nat_cmp name (node_at n nodes).member ≡ Less → StandsBefore name (members_of nodes (entry_in_front n e g))
entry_first nodes name n e no_nodes h = h
entry_first nodes name n e (single m d g) h = h
entry_first nodes name n e (entries m each g) h = entry_at (nat_eq n m) nodes name n m e each g refl h

branch_first : (nodes : List SchemaNode) (k : Kind) (name : List ℕ) (node : SchemaNode) (seg : Seg) (own : Option Value) (kids : Members) (next : Gathered) → slice_cmp nat_cmp name (node_at seg.node nodes).member ≡ Less
    → StandsBefore name (members_of nodes (branch_in_front nodes k node seg own kids next))
branch_first nodes Container name node seg own kids next h = h
branch_first nodes Presence name node seg own kids next h = h
branch_first nodes Listing name node seg own kids next h = entry_first nodes name seg.node _ next h
branch_first nodes Leaf name node seg own kids next h = h
branch_first nodes LeafList name node seg own kids next h = entry_first nodes name seg.node _ next h

forest_first : (nodes : List SchemaNode) (name : List ℕ) (seg : Seg) (own : Option Value) (kids next : Forest) → slice_cmp nat_cmp name (node_at seg.node nodes).member ≡ Less → StandsBefore name (members_in nodes (branch seg own kids next))
forest_first nodes name seg own kids next h = branch_first nodes (node_at seg.node nodes).kind name (node_at seg.node nodes) seg own (members_in nodes kids) (gathered nodes next) h

laid_at : (b : Bool) (nodes : List SchemaNode) (name : List ℕ) (s first : Seg) (inner_own other own : Option Value) (inner below kids next : Forest) → eq_by_cmp segment_cmp s first ≡ b → slice_cmp nat_cmp name (node_at s.node nodes).member ≡ Less
    → StandsBefore name (members_in nodes (cond b (branch first inner_own inner next) (branch s other below (branch first own kids next))))
laid_at false nodes name s first inner_own other own inner below kids next is h = forest_first nodes name s other below (branch first own kids next) h
laid_at true nodes name s first inner_own other own inner below kids next is h =
    forest_first nodes name first inner_own inner next (subst (λ (x : Seg). slice_cmp nat_cmp name (node_at x.node nodes).member ≡ Less) ((segments_decide s first).0 is) h)

laid_first : (nodes : List SchemaNode) (name : List ℕ) (s : Seg) (rest : List Seg) (v : Value) (inner : Forest → Forest) (f : Forest) → slice_cmp nat_cmp name (node_at s.node nodes).member ≡ Less → StandsBefore name (members_in nodes (in_front s rest v inner f))
laid_first nodes name s rest v inner bare h = forest_first nodes name s (own_of rest v None) (inner bare) bare h
laid_first nodes name s rest v inner (branch first own kids next) h =
    laid_at (eq_by_cmp segment_cmp s first) nodes name s first (own_of rest v own) (own_of rest v None) own (inner kids) (inner bare) kids next refl h

-- a name before that of the first row's node stands before all members
pub rows_first : (nodes : List SchemaNode) (name : List ℕ) (depth : ℕ) (s : Seg) (row : Row) (rows : List Row) → HasSegment depth s row → slice_cmp nat_cmp name (node_at s.node nodes).member ≡ Less
    → StandsBefore name (members_in nodes (forest_at depth (row ∷ rows)))
rows_first nodes name depth s row rows here h =
    subst (λ path. StandsBefore name (members_in nodes (laid path row.value (forest_at depth rows)))) (sym here)
    (laid_first nodes name s (drop (depth + 1) row.path) row.value (laid (drop (depth + 1) row.path) row.value) (forest_at depth rows) h)

-- names of children of one node are in the order of their numbers
pub name_less : (nodes : List SchemaNode) → IsSchema nodes → (parent : Option ℕ) (m n : ℕ) → m < n → n < length nodes → same_number (node_at m nodes).parent parent ≡ true → same_number (node_at n nodes).parent parent ≡ true
    → slice_cmp nat_cmp (node_at m nodes).member (node_at n nodes).member ≡ Less
name_less nodes schema parent m n less within one two = schema.siblings m n less within (same_parent (node_at m nodes).parent (node_at n nodes).parent parent one two)

next_before : (nodes : List SchemaNode) → IsSchema nodes → (parent : Option ℕ) (depth n : ℕ) (first : Seg) (rest : List Seg) (next : Row) (later : List Row) (path : List Seg)
    → drop depth next.path ≡ path → first.node ≡ n → path_cmp (first ∷ rest) path ≡ Less → begins_with n path ≡ false → goes_down nodes parent path ≡ true → same_number (node_at n nodes).parent parent ≡ true
    → StandsBefore (node_at n nodes).member (members_in nodes (forest_at depth (next ∷ later)))
next_before nodes schema parent depth n first rest next later [] is same less apart down child = cc
next_before nodes schema parent depth n first rest next later (s ∷ path) is same less apart down child =
    let rise = nodes_rise first s rest path less in
    let other : s.node ≢ n = λ e. true≢false (sym (eq-eqb s.node n e) ∙ apart) in
    let lower : n < s.node = omega arith in
    let here : HasSegment depth s next = is ∙ ap (λ xs. s ∷ xs) (sym (drop_next depth next.path s path is)) in
    rows_first nodes (node_at n nodes).member depth s next later here
    (name_less nodes schema parent n s.node lower (segment_within nodes s (first_segment nodes parent s path down)) child (first_parent nodes parent s path down))

-- the member of a run of one node stands before those of the rows after it
pub run_before : (nodes : List SchemaNode) → IsSchema nodes → (parent : Option ℕ) (depth n : ℕ) (run others : List Row) → AreBelow nodes parent depth (run ++ others) → AllGoThrough depth n run → 0 < length run → begins_through depth n others ≡ false
    → StandsBefore (node_at n nodes).member (members_in nodes (forest_at depth others))
run_before nodes schema parent depth n [] others below through some apart = absurd (omega arith)
run_before nodes schema parent depth n (row ∷ run) [] below through some apart = tt
run_before nodes schema parent depth n (row ∷ run) (next ∷ later) below through some apart =
    let found = segment_of depth n row through.0 in
    let less = less_next depth row run next later below.in_order in
    let child = through_parent nodes parent n (drop depth row.path) (rest_down nodes parent depth row below.each.0) through.0 in
    let next_rest = (all_back (IsRest nodes parent depth) (row ∷ run) (next ∷ later) below.each).0 in
    next_before nodes schema parent depth n found.0 (drop (depth + 1) row.path) next later (drop depth next.path) refl found.1.1 (sym (ap (λ p. path_cmp p (rest_at depth next)) found.1.0) ∙ less) apart
    (rest_down nodes parent depth next next_rest) child.0

-- so it is the first of all
pub run_first_member : (nodes : List SchemaNode) → IsSchema nodes → (parent : Option ℕ) (depth n : ℕ) (left run others : List Row) (d : Data) → left ≡ run ++ others → AreBelow nodes parent depth left → AllGoThrough depth n run → 0 < length run
    → begins_through depth n others ≡ false → AreOneMember nodes depth n run d → members_in nodes (forest_at depth left) ≡ member (node_at n nodes).member d (members_in nodes (forest_at depth others))
run_first_member nodes schema parent depth n left run others d parts below through some apart one =
    ap (λ rows. members_in nodes (forest_at depth rows)) parts
    ∙ ap (members_in nodes) (laid_append depth run others bare)
    ∙ one (forest_at depth others) (run_before nodes schema parent depth n run others (subst (λ rows. AreBelow nodes parent depth rows) parts below) through some apart)

-- the run that begins with the first row has a row
pub run_has_rows : (depth : ℕ) (seg : Seg) (left : List Row) (first : Row) (later run others : List Row) → left ≡ first ∷ later → HasSegment depth seg first → left ≡ run ++ others → begins_through depth seg.node others ≡ false → 0 < length run
run_has_rows depth seg left first later [] others is here parts apart =
    absurd (true≢false (sym (ap (begins_with seg.node) here ∙ eq-eqb seg.node seg.node refl) ∙ sym (ap (begins_through depth seg.node) is) ∙ ap (begins_through depth seg.node) parts ∙ apart))
run_has_rows depth seg left first later (row ∷ run) others is here parts apart = omega arith
