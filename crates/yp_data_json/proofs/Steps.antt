-- What each call of the writer adds.
use Rattle.std.proofs.Common.{◌≡◌, ℕ, ◌+◌, ◌<◌, ◌≤◌, List, [], ◌∷◌, ◌++◌, length, drop, map, Bool, true, false, true≢false, Option, Some, None, cond, refl, sym, ap, subst, ◌∙◌, arith, not, ◌&&◌}
use Rattle.std.specs.Prelude.{nat_eq}
use Rattle.std.specs.Ordering.{eq_by_cmp}
use Rattle.yp_base.specs.Order.{segment_cmp}
use Rattle.std.specs.List.{AllByRecursion}
use Rattle.std.proofs.lemmas.Bool.{eqb-true, and_parts}
use Rattle.yp_base.specs.declared.path.Seg.{Seg}
use Rattle.yp_base.specs.declared.atom.Atom.{Atom}
use Rattle.yp_base.specs.declared.row.Value.{Value}
use Rattle.yp_base.specs.declared.row.Row.{Row}
use Rattle.yp_schema.specs.declared.schema.SchemaNode.{SchemaNode}
use Rattle.yp_schema.specs.declared.schema.Kind.{Kind}
use Rattle.yp_schema.specs.declared.schema.Kind.TheVariants.{Container, Presence, List as Listing, Leaf, LeafList}
use Rattle.yp_schema.specs.Nodes.{node_at, may_hold}
use Rattle.yp_schema.specs.WellFormed.{IsSchema, is_empty, are_key_leaves, has_none, kind_stands}
use Rattle.yp_schema.specs.Datastore.{goes_down, is_segment, keys_of_kind}
use Rattle.serde_json.specs.Data.{Data, array, object, Members, member}
use Rattle.serde_json.specs.View.{items_of}
use Rattle.yp_data_json.specs.Forest.{Forest, bare, branch, own_of, in_front, laid, laid_all, forest_at}
use Rattle.yp_data_json.specs.Writing.{leaf_data, item_data, Entry, Gathered, no_nodes, single, entries, entry_in_front, branch_in_front, members_of, gathered, members_in}
use Rattle.yp_data_json.specs.Runs.{IsRest, AreBelow, longest, begins_with, goes_through, AllGoThrough, HasSegment, StartsApart, StandsBefore, all_in_front, has_items, AreOneMember, AreEntries}
use Rattle.yp_data_json.proofs.Branches.{StartsElse, own_at, one_branch, laid_append, rows_start}
use Rattle.yp_data_json.proofs.Members.{other_first, run_is, entries_append, starts_else}
use Rattle.yp_schema.specs.SchemaLaws.{first_segment, leaf_ends, empty_keys}
use Rattle.yp_data_json.proofs.Below.{rest_down, further, segment_of, deep_enough}

-- ---- the most segments

pub longest_front : (xs ys : List Row) → longest xs ≤ longest (xs ++ ys)
longest_front [] ys = omega arith
longest_front (x ∷ xs) ys = let later = longest_front xs ys in omega arith

pub longest_back : (xs ys : List Row) → longest ys ≤ longest (xs ++ ys)
longest_back [] ys = omega arith
longest_back (x ∷ xs) ys = let later = longest_back xs ys in omega arith

pub deep_rows : (depth node : ℕ) (rows : List Row) → AllGoThrough depth node rows → 0 < length rows → depth < longest rows
deep_rows depth node [] all some = omega arith
deep_rows depth node (row ∷ rows) all some =
    let found = segment_of depth node row all.0 in
    let deep = deep_enough depth found.0 row found.1.0 in
    omega arith

-- the first row's next segment
pub first_next : (nodes : List SchemaNode) (parent : Option ℕ) (depth : ℕ) (seg : Seg) (left : List Row) (first : Row) (later : List Row) → left ≡ first ∷ later → HasSegment depth seg first → AreBelow nodes parent depth left
    → goes_down nodes parent (seg ∷ drop (depth + 1) first.path) ≡ true
first_next nodes parent depth seg left first later is here below =
    let each = subst (λ rows. AllByRecursion (IsRest nodes parent depth) rows) is below.each in
    subst (λ path. goes_down nodes parent path ≡ true) here (rest_down nodes parent depth first each.0)

pub first_node : (depth n : ℕ) (seg : Seg) (left : List Row) (first : Row) (later : List Row) → left ≡ first ∷ later → HasSegment depth seg first → AllGoThrough depth n left → seg.node ≡ n
first_node depth n seg left first later is here through =
    let found = (subst (λ rows. AllGoThrough depth n rows) is through).0 in
    eqb-true seg.node n (sym (ap (begins_with n) here) ∙ found)

pub deep_left : (depth node : ℕ) (left : List Row) (first : Row) (later all : List Row) → left ≡ first ∷ later → AllGoThrough depth node left → longest left ≤ longest all → depth < longest all
deep_left depth node left first later all is through long = let deep = deep_rows depth node left through (some_at left first later is) in omega arith
  where
    some_at : (rows : List Row) (row : Row) (more : List Row) → rows ≡ row ∷ more → 0 < length rows
    some_at rows row more is = let e : length rows ≡ length (row ∷ more) = ap length is in omega arith

-- ---- members

-- a row of which nothing is left adds nothing
pub own_row_adds : (depth : ℕ) (row : Row) (rows : List Row) → drop depth row.path ≡ [] → forest_at depth (row ∷ rows) ≡ forest_at depth rows
own_row_adds depth row rows none = ap (λ path. laid path row.value (forest_at depth rows)) none

pub some_rows : (rows : List Row) (row : Row) (more : List Row) → rows ≡ row ∷ more → 0 < length rows
some_rows rows row more is = let e : length rows ≡ length (row ∷ more) = ap length is in omega arith

-- ---- containers and leaves

abbrev pub plain_segment : ℕ → Seg
plain_segment n = record { node = n; keys = [] }

plain_is : (nodes : List SchemaNode) (n : ℕ) (seg : Seg) → seg.node ≡ n → is_segment nodes seg ≡ true → (k : Kind) → (node_at n nodes).kind ≡ k → (keys_of_kind k nodes (node_at n nodes) seg.keys ≡ true → is_empty seg.keys ≡ true) → seg ≡ plain_segment n
plain_is nodes n seg same is k kind none =
    let asked = (and_parts _ (keys_of_kind (node_at seg.node nodes).kind nodes (node_at seg.node nodes) seg.keys) is).1 in
    let here : keys_of_kind (node_at n nodes).kind nodes (node_at n nodes) seg.keys ≡ true = subst (λ m. keys_of_kind (node_at m nodes).kind nodes (node_at m nodes) seg.keys ≡ true) same asked in
    let by_kind : keys_of_kind k nodes (node_at n nodes) seg.keys ≡ true = subst (λ j. keys_of_kind j nodes (node_at n nodes) seg.keys ≡ true) kind here in
    let bare_keys = empty_keys seg.keys (none by_kind) in
    λ i. record { node = same i; keys = bare_keys i }

-- whether nodes of a kind have no keys in paths
abbrev pub has_plain : Kind → Bool
has_plain Container = true
has_plain Presence = true
has_plain Listing = false
has_plain Leaf = true
has_plain LeafList = false

plain_keys : (k : Kind) (nodes : List SchemaNode) (node : SchemaNode) (keys : List Atom) → has_plain k ≡ true → keys_of_kind k nodes node keys ≡ true → is_empty keys ≡ true
plain_keys Container nodes node keys plain h = h
plain_keys Presence nodes node keys plain h = h
plain_keys Listing nodes node keys plain h = absurd (true≢false (sym plain))
plain_keys Leaf nodes node keys plain h = h
plain_keys LeafList nodes node keys plain h = absurd (true≢false (sym plain))

pub plain_at : (nodes : List SchemaNode) (parent : Option ℕ) (depth n : ℕ) (row : Row) → has_plain (node_at n nodes).kind ≡ true → goes_through depth n row ≡ true → IsRest nodes parent depth row → HasSegment depth (plain_segment n) row
plain_at nodes parent depth n row plain through rest =
    let found = segment_of depth n row through in
    let down : goes_down nodes parent (found.0 ∷ drop (depth + 1) row.path) ≡ true = subst (λ path. goes_down nodes parent path ≡ true) found.1.0 (rest_down nodes parent depth row rest) in
    let same : found.0 ≡ plain_segment n =
    plain_is nodes n found.0 found.1.1 (first_segment nodes parent found.0 (drop (depth + 1) row.path) down) (node_at n nodes).kind refl (plain_keys (node_at n nodes).kind nodes (node_at n nodes) found.0.keys plain) in
    subst (λ (s : Seg). HasSegment depth s row) same found.1.0

-- rows through a node without keys in paths have one segment
pub plain_rows : (nodes : List SchemaNode) (parent : Option ℕ) (depth n : ℕ) (rows : List Row) → has_plain (node_at n nodes).kind ≡ true → AllGoThrough depth n rows → AllByRecursion (IsRest nodes parent depth) rows
    → AllByRecursion (HasSegment depth (plain_segment n)) rows
plain_rows nodes parent depth n [] plain through rest = tt
plain_rows nodes parent depth n (row ∷ rows) plain through rest = (plain_at nodes parent depth n row plain through.0 rest.0, plain_rows nodes parent depth n rows plain through.1 rest.1)

pub plain_below : (nodes : List SchemaNode) (parent : Option ℕ) (depth n : ℕ) (rows : List Row) → has_plain (node_at n nodes).kind ≡ true → AllGoThrough depth n rows → AreBelow nodes parent depth rows → AreBelow nodes (Some n) (depth + 1) rows
plain_below nodes parent depth n rows plain through below = further nodes parent depth (plain_segment n) rows (plain_rows nodes parent depth n rows plain through below.each) below

-- one segment's rows are one branch in front
plain_branch : (nodes : List SchemaNode) (parent : Option ℕ) (depth n : ℕ) (rows : List Row) (f : Forest) → has_plain (node_at n nodes).kind ≡ true → AllGoThrough depth n rows → AreBelow nodes parent depth rows → 0 < length rows
    → StandsBefore (node_at n nodes).member (members_in nodes f) → laid_all depth rows f ≡ branch (plain_segment n) (own_at depth rows) (forest_at (depth + 1) rows) f
plain_branch nodes parent depth n [] f plain through below some before = absurd (omega arith)
plain_branch nodes parent depth n (row ∷ rows) f plain through below some before =
    let all = plain_rows nodes parent depth n (row ∷ rows) plain through below.each in
    one_branch depth (plain_segment n) row rows f (starts_else nodes (plain_segment n) f before) all.0 all.1

is_container : (k : Kind) → Bool
is_container Container = true
is_container Presence = true
is_container Listing = false
is_container Leaf = false
is_container LeafList = false

pub container_member : (nodes : List SchemaNode) (parent : Option ℕ) (depth n : ℕ) (rows : List Row) (ms : Members) → (node_at n nodes).kind ≡ Container → AllGoThrough depth n rows → AreBelow nodes parent depth rows → 0 < length rows
    → ms ≡ members_in nodes (forest_at (depth + 1) rows) → AreOneMember nodes depth n rows (object ms)
container_member nodes parent depth n rows ms kind through below some is f before =
    ap (members_in nodes) (plain_branch nodes parent depth n rows f (ap has_plain kind) through below some before)
    ∙ ap (λ k. members_of nodes (branch_in_front nodes k (node_at n nodes) (plain_segment n) (own_at depth rows) (members_in nodes (forest_at (depth + 1) rows)) (gathered nodes f))) kind
    ∙ ap (λ (x : Members). member (node_at n nodes).member (object x) (members_in nodes f)) (sym is)

pub presence_member : (nodes : List SchemaNode) (parent : Option ℕ) (depth n : ℕ) (rows : List Row) (ms : Members) → (node_at n nodes).kind ≡ Presence → AllGoThrough depth n rows → AreBelow nodes parent depth rows → 0 < length rows
    → ms ≡ members_in nodes (forest_at (depth + 1) rows) → AreOneMember nodes depth n rows (object ms)
presence_member nodes parent depth n rows ms kind through below some is f before =
    ap (members_in nodes) (plain_branch nodes parent depth n rows f (ap has_plain kind) through below some before)
    ∙ ap (λ k. members_of nodes (branch_in_front nodes k (node_at n nodes) (plain_segment n) (own_at depth rows) (members_in nodes (forest_at (depth + 1) rows)) (gathered nodes f))) kind
    ∙ ap (λ (x : Members). member (node_at n nodes).member (object x) (members_in nodes f)) (sym is)

-- a row through a leaf ends there
pub leaf_row : (nodes : List SchemaNode) → IsSchema nodes → (parent : Option ℕ) (depth n : ℕ) (row : Row) → (node_at n nodes).kind ≡ Leaf → goes_through depth n row ≡ true → IsRest nodes parent depth row
    → drop (depth + 1) row.path ≡ []
leaf_row nodes schema parent depth n row kind through rest =
    let here = plain_at nodes parent depth n row (ap has_plain kind) through rest in
    let down : goes_down nodes parent (plain_segment n ∷ drop (depth + 1) row.path) ≡ true = subst (λ path. goes_down nodes parent path ≡ true) here (rest_down nodes parent depth row rest) in
    leaf_ends nodes schema n (drop (depth + 1) row.path) (ap may_hold kind) (and_parts _ (goes_down nodes (Some n) (drop (depth + 1) row.path)) down).1

pub leaf_member : (nodes : List SchemaNode) → IsSchema nodes → (parent : Option ℕ) (depth n : ℕ) (rows : List Row) (row : Row) (more : List Row) (d : Data) → (node_at n nodes).kind ≡ Leaf → AllGoThrough depth n rows → AreBelow nodes parent depth rows
    → rows ≡ row ∷ more → d ≡ leaf_data (node_at n nodes).ty (Some row.value) → AreOneMember nodes depth n rows d
leaf_member nodes schema parent depth n rows row more d kind through below is written f before =
    let first_through = (subst (λ xs. AllGoThrough depth n xs) is through).0 in
    let first_rest = (subst (λ xs. AllByRecursion (IsRest nodes parent depth) xs) is below.each).0 in
    let own : own_at depth rows ≡ Some row.value = ap (own_at depth) is ∙ ap (λ rest. own_of rest row.value (own_at depth more)) (leaf_row nodes schema parent depth n row kind first_through first_rest) in
    ap (members_in nodes) (plain_branch nodes parent depth n rows f (ap has_plain kind) through below (some_rows rows row more is) before)
    ∙ ap (λ k. members_of nodes (branch_in_front nodes k (node_at n nodes) (plain_segment n) (own_at depth rows) (members_in nodes (forest_at (depth + 1) rows)) (gathered nodes f))) kind
    ∙ ap (λ o. member (node_at n nodes).member (leaf_data (node_at n nodes).ty o) (members_in nodes f)) own
    ∙ ap (λ (x : Data). member (node_at n nodes).member x (members_in nodes f)) (sym written)

-- ---- entries

pub entry_some : (depth : ℕ) (seg : Seg) (left : List Row) (first : Row) (later entry others : List Row) → left ≡ first ∷ later → HasSegment depth seg first → left ≡ entry ++ others → StartsApart depth seg others
    → (row : Row) × ((more : List Row) × (entry ≡ row ∷ more))
entry_some depth seg left first later [] others is here parts apart = absurd ((subst (λ xs. StartsApart depth seg xs) (sym parts ∙ is) apart) here)
entry_some depth seg left first later (row ∷ more) others is here parts apart = (row, (more, refl))

others_start : (nodes : List SchemaNode) (depth n : ℕ) (seg : Seg) (others : List Row) (f : Forest) → seg.node ≡ n → AllGoThrough depth n others → StartsApart depth seg others → StandsBefore (node_at n nodes).member (members_in nodes f)
    → StartsElse seg (laid_all depth others f)
others_start nodes depth n seg [] f same through apart before = starts_else nodes seg f (subst (λ k. StandsBefore (node_at k nodes).member (members_in nodes f)) (sym same) before)
others_start nodes depth n seg (row ∷ rows) f same through apart before = let found = segment_of depth n row through.0 in rows_start depth seg found.0 row rows f found.1.0 apart

item_branch : (k : Kind) (nodes : List SchemaNode) (node : SchemaNode) (seg : Seg) (own : Option Value) (kids : Members) (next : Gathered) → has_items k ≡ true
    → branch_in_front nodes k node seg own kids next ≡ entry_in_front seg.node (record { keys = seg.keys; json = item_data nodes k node seg kids }) next
item_branch Container nodes node seg own kids next items = absurd (true≢false (sym items))
item_branch Presence nodes node seg own kids next items = absurd (true≢false (sym items))
item_branch Listing nodes node seg own kids next items = refl
item_branch Leaf nodes node seg own kids next items = absurd (true≢false (sym items))
item_branch LeafList nodes node seg own kids next items = refl

-- the entry that is written of rows with one segment
abbrev IsEntryOf : List SchemaNode → ℕ → Seg → List Row → Entry → Type 0
IsEntryOf nodes depth seg rows e = e ≡ record { keys = seg.keys; json = item_data nodes (node_at seg.node nodes).kind (node_at seg.node nodes) seg (members_in nodes (forest_at (depth + 1) rows)) }

entry_laid : (nodes : List SchemaNode) (depth n : ℕ) (seg : Seg) (entry others : List Row) (row : Row) (more : List Row) (e : Entry) (f : Forest) → has_items (node_at n nodes).kind ≡ true → seg.node ≡ n
    → entry ≡ row ∷ more → AllByRecursion (HasSegment depth seg) entry → StartsElse seg (laid_all depth others f) → IsEntryOf nodes depth seg entry e
    → gathered nodes (laid_all depth (entry ++ others) f) ≡ entry_in_front n e (gathered nodes (laid_all depth others f))
entry_laid nodes depth n seg entry others row more e f items same is here starts written =
    let all = subst (λ rows. AllByRecursion (HasSegment depth seg) rows) is here in
    let one : laid_all depth entry (laid_all depth others f) ≡ branch seg (own_at depth entry) (forest_at (depth + 1) entry) (laid_all depth others f) =
    subst (λ (rows : List Row). laid_all depth rows (laid_all depth others f) ≡ branch seg (own_at depth rows) (forest_at (depth + 1) rows) (laid_all depth others f)) (sym is)
    (one_branch depth seg row more (laid_all depth others f) starts all.0 all.1) in
    ap (gathered nodes) (laid_append depth entry others f ∙ one)
    ∙ item_branch (node_at seg.node nodes).kind nodes (node_at seg.node nodes) seg (own_at depth entry) (members_in nodes (forest_at (depth + 1) entry)) (gathered nodes (laid_all depth others f))
    (ap (λ k. has_items (node_at k nodes).kind) same ∙ items)
    ∙ ap (λ (x : Entry). entry_in_front seg.node x (gathered nodes (laid_all depth others f))) (sym written)
    ∙ ap (λ k. entry_in_front k e (gathered nodes (laid_all depth others f))) same

-- one more entry behind those so far
pub entry_step : (nodes : List SchemaNode) (depth n : ℕ) (seg : Seg) (all left entry others : List Row) (row : Row) (more : List Row) (es : List Entry) (e : Entry) → has_items (node_at n nodes).kind ≡ true → seg.node ≡ n
    → left ≡ entry ++ others → entry ≡ row ∷ more → AllByRecursion (HasSegment depth seg) entry → AllGoThrough depth n others → StartsApart depth seg others
    → e ≡ record { keys = seg.keys; json = item_data nodes (node_at seg.node nodes).kind (node_at seg.node nodes) seg (members_in nodes (forest_at (depth + 1) entry)) }
    → ((f : Forest) → StandsBefore (node_at n nodes).member (members_in nodes f) → gathered nodes (laid_all depth all f) ≡ all_in_front n es (gathered nodes (laid_all depth left f)))
    → (f : Forest) → StandsBefore (node_at n nodes).member (members_in nodes f) → gathered nodes (laid_all depth all f) ≡ all_in_front n (es ++ e ∷ []) (gathered nodes (laid_all depth others f))
entry_step nodes depth n seg all left entry others row more es e items same parts is here through apart written so_far f before =
    so_far f before
    ∙ ap (λ rows. all_in_front n es (gathered nodes (laid_all depth rows f))) parts
    ∙ ap (all_in_front n es) (entry_laid nodes depth n seg entry others row more e f items same is here (others_start nodes depth n seg others f same through apart before) written)
    ∙ sym (entries_append n es (e ∷ []) (gathered nodes (laid_all depth others f)))

abbrev is_none : Gathered → Bool
is_none no_nodes = true
is_none (single n d next) = false
is_none (entries n each next) = false

entry_some_at : (b : Bool) (n m : ℕ) (e : Entry) (each : List Entry) (g : Gathered) → is_none (cond b (entries m (e ∷ each) g) (entries n (e ∷ []) (entries m each g))) ≡ false
entry_some_at true n m e each g = refl
entry_some_at false n m e each g = refl

entry_is_some : (n : ℕ) (e : Entry) (g : Gathered) → is_none (entry_in_front n e g) ≡ false
entry_is_some n e no_nodes = refl
entry_is_some n e (single m d g) = refl
entry_is_some n e (entries m each g) = entry_some_at (nat_eq n m) n m e each g

branch_some : (k : Kind) (nodes : List SchemaNode) (node : SchemaNode) (seg : Seg) (own : Option Value) (kids : Members) (next : Gathered) → is_none (branch_in_front nodes k node seg own kids next) ≡ false
branch_some Container nodes node seg own kids next = refl
branch_some Presence nodes node seg own kids next = refl
branch_some Listing nodes node seg own kids next = entry_is_some seg.node _ next
branch_some Leaf nodes node seg own kids next = refl
branch_some LeafList nodes node seg own kids next = entry_is_some seg.node _ next

gathered_some : (nodes : List SchemaNode) (seg : Seg) (own : Option Value) (kids next : Forest) → is_none (gathered nodes (branch seg own kids next)) ≡ false
gathered_some nodes seg own kids next = branch_some (node_at seg.node nodes).kind nodes (node_at seg.node nodes) seg own (members_in nodes kids) (gathered nodes next)

in_front_some_at : (b : Bool) (nodes : List SchemaNode) (seg first : Seg) (one two three : Option Value) (f g h next : Forest) → is_none (gathered nodes (cond b (branch first one f next) (branch seg two g (branch first three h next)))) ≡ false
in_front_some_at true nodes seg first one two three f g h next = gathered_some nodes first one f next
in_front_some_at false nodes seg first one two three f g h next = gathered_some nodes seg two g (branch first three h next)

in_front_some : (nodes : List SchemaNode) (seg : Seg) (rest : List Seg) (v : Value) (inner : Forest → Forest) (f : Forest) → is_none (gathered nodes (in_front seg rest v inner f)) ≡ false
in_front_some nodes seg rest v inner bare = gathered_some nodes seg (own_of rest v None) (inner bare) bare
in_front_some nodes seg rest v inner (branch first own kids next) =
    in_front_some_at (eq_by_cmp segment_cmp seg first) nodes seg first (own_of rest v own) (own_of rest v None) own (inner kids) (inner bare) kids next

-- of rows of which the first goes on something is gathered
rows_some : (nodes : List SchemaNode) (depth : ℕ) (seg : Seg) (row : Row) (rows : List Row) → HasSegment depth seg row → is_none (gathered nodes (laid_all depth (row ∷ rows) bare)) ≡ false
rows_some nodes depth seg row rows here =
    ap (λ path. is_none (gathered nodes (laid path row.value (laid_all depth rows bare)))) here
    ∙ in_front_some nodes seg (drop (depth + 1) row.path) row.value (laid (drop (depth + 1) row.path) row.value) (laid_all depth rows bare)

entries_some : (nodes : List SchemaNode) (depth n : ℕ) (rows : List Row) → AllGoThrough depth n rows → 0 < length rows → AreEntries nodes depth n rows [] → ⊥
entries_some nodes depth n [] through some are = absurd (omega arith)
entries_some nodes depth n (row ∷ rows) through some are =
    let found = segment_of depth n row through.0 in
    true≢false (sym (ap is_none (are bare tt)) ∙ rows_some nodes depth found.0 row rows found.1.0)

-- entries of some rows are one member with the array of all
pub entries_member : (nodes : List SchemaNode) (depth n : ℕ) (rows : List Row) (es : List Entry) → AllGoThrough depth n rows → 0 < length rows → AreEntries nodes depth n rows es
    → AreOneMember nodes depth n rows (array (items_of (map (λ e. e.json) es)))
entries_member nodes depth n rows [] through some are f before = absurd (entries_some nodes depth n rows through some are)
entries_member nodes depth n rows (e ∷ es) through some are f before = ap (members_of nodes) (are f before ∙ run_is n e es (gathered nodes f) (other_first nodes n (gathered nodes f) before))

-- ---- keys of a list

listing_keys : (nodes : List SchemaNode) (n : ℕ) (node : SchemaNode) → kind_stands Listing n nodes node ≡ true → are_key_leaves n nodes node.keys ≡ true
listing_keys nodes n node h =
    (and_parts (not (is_empty node.keys)) (are_key_leaves n nodes node.keys) (and_parts (not (is_empty node.keys) && are_key_leaves n nodes node.keys) (has_none node.ty) h).0).1

pub key_leaves : (nodes : List SchemaNode) → IsSchema nodes → (n : ℕ) → n < length nodes → (node_at n nodes).kind ≡ Listing → are_key_leaves n nodes (node_at n nodes).keys ≡ true
key_leaves nodes schema n within kind = listing_keys nodes n (node_at n nodes) (subst (λ k. kind_stands k n nodes (node_at n nodes) ≡ true) kind (schema.each n within).kind)
