-- Members in front of others.
use Rattle.std.proofs.Common.{◌≡◌, ℕ, List, [], ◌∷◌, ◌++◌, Bool, true, false, true≢false, Option, refl, sym, ap, subst, ◌∙◌, cond, Less, nat_cmp}
use Rattle.std.specs.Prelude.{nat_eq}
use Rattle.std.specs.Cmp.Lexicographic.{slice_cmp}
use Rattle.std.specs.Ordering.{eq_by_cmp, is_lt}
use Rattle.std.proofs.lemmas.Cmp.{tied_itself, nat_list_cmp_total}
use Rattle.std.proofs.lemmas.Bool.{eq-eqb, eqb-true}
use Rattle.serde_json.specs.Data.{Data, Members, no_members, member, put}
use Rattle.yp_base.specs.declared.path.Seg.{Seg}
use Rattle.yp_base.specs.declared.row.Value.{Value}
use Rattle.yp_base.specs.Order.{segment_cmp}
use Rattle.yp_base.specs.Exact.{segments_decide}
use Rattle.yp_schema.specs.declared.schema.SchemaNode.{SchemaNode}
use Rattle.yp_schema.specs.declared.schema.Kind.{Kind}
use Rattle.yp_schema.specs.declared.schema.Kind.TheVariants.{Container, Presence, List as Listing, Leaf, LeafList}
use Rattle.yp_schema.specs.Nodes.{node_at}
use Rattle.yp_data_json.specs.Forest.{Forest, bare, branch}
use Rattle.yp_data_json.specs.Writing.{Entry, Gathered, no_nodes, single, entries, entry_in_front, branch_in_front, members_of, gathered, members_in}
use Rattle.yp_data_json.specs.Runs.{StandsBefore, all_in_front}
use Rattle.yp_data_json.proofs.Branches.{StartsElse}

-- a name that stands before all goes first
pub put_first : (name : List ℕ) (d : Data) (ms : Members) → StandsBefore name ms → put name d ms ≡ member name d ms
put_first name d no_members h = refl
put_first name d (member other e ms) h = rw h refl

-- a node whose member stands before all isn't the first of these
abbrev pub OtherFirst : ℕ → Gathered → Type 0
OtherFirst n no_nodes = Unit {0}
OtherFirst n (single m d next) = Unit {0}
OtherFirst n (entries m each next) = nat_eq n m ≡ false

not_before_itself : (name : List ℕ) → slice_cmp nat_cmp name name ≡ Less → ⊥
not_before_itself name h = true≢false (sym (ap is_lt h) ∙ ap is_lt (tied_itself nat_list_cmp_total name))

other_at : (b : Bool) (nodes : List SchemaNode) (n m : ℕ) → nat_eq n m ≡ b → slice_cmp nat_cmp (node_at n nodes).member (node_at m nodes).member ≡ Less → b ≡ false
other_at false nodes n m is h = refl
other_at true nodes n m is h = absurd (not_before_itself (node_at m nodes).member (subst (λ k. slice_cmp nat_cmp (node_at k nodes).member (node_at m nodes).member ≡ Less) (eqb-true n m is) h))

pub other_first : (nodes : List SchemaNode) (n : ℕ) (g : Gathered) → StandsBefore (node_at n nodes).member (members_of nodes g) → OtherFirst n g
other_first nodes n no_nodes h = tt
other_first nodes n (single m d next) h = tt
other_first nodes n (entries m each next) h = other_at (nat_eq n m) nodes n m refl h

new_first : (n : ℕ) (e : Entry) (g : Gathered) → OtherFirst n g → entry_in_front n e g ≡ entries n (e ∷ []) g
new_first n e no_nodes h = refl
new_first n e (single m d next) h = refl
new_first n e (entries m each next) h = rw h refl

old_first : (n : ℕ) (e : Entry) (each : List Entry) (g : Gathered) → entry_in_front n e (entries n each g) ≡ entries n (e ∷ each) g
old_first n e each g = let same : nat_eq n n ≡ true = eq-eqb n n refl in rw same refl

-- a run of entries is one node with all of them
pub run_is : (n : ℕ) (e : Entry) (es : List Entry) (g : Gathered) → OtherFirst n g → all_in_front n (e ∷ es) g ≡ entries n (e ∷ es) g
run_is n d [] g h = new_first n d g h
run_is n d (e ∷ es) g h = ap (entry_in_front n d) (run_is n e es g h) ∙ old_first n d (e ∷ es) g

pub entries_append : (n : ℕ) (ds es : List Entry) (g : Gathered) → all_in_front n (ds ++ es) g ≡ all_in_front n ds (all_in_front n es g)
entries_append n [] es g = refl
entries_append n (d ∷ ds) es g = ap (entry_in_front n d) (entries_append n ds es g)

-- ---- the first member of a forest has the name of its first branch

entry_at : (b : Bool) (nodes : List SchemaNode) (name : List ℕ) (n m : ℕ) (e : Entry) (each : List Entry) (g : Gathered) → nat_eq n m ≡ b
    → StandsBefore name (members_of nodes (cond b (entries m (e ∷ each) g) (entries n (e ∷ []) (entries m each g)))) → slice_cmp nat_cmp name (node_at n nodes).member ≡ Less
entry_at false nodes name n m e each g is h = h
entry_at true nodes name n m e each g is h = subst (λ k. slice_cmp nat_cmp name (node_at k nodes).member ≡ Less) (sym (eqb-true n m is)) h

entry_name : (nodes : List SchemaNode) (name : List ℕ) (n : ℕ) (e : Entry) (g : Gathered) → StandsBefore name (members_of nodes (entry_in_front n e g)) → slice_cmp nat_cmp name (node_at n nodes).member ≡ Less
entry_name nodes name n e no_nodes h = h
entry_name nodes name n e (single m d g) h = h
entry_name nodes name n e (entries m each g) h = entry_at (nat_eq n m) nodes name n m e each g refl h

branch_name : (nodes : List SchemaNode) (k : Kind) (name : List ℕ) (node : SchemaNode) (seg : Seg) (own : Option Value) (kids : Members) (next : Gathered)
    → StandsBefore name (members_of nodes (branch_in_front nodes k node seg own kids next)) → slice_cmp nat_cmp name (node_at seg.node nodes).member ≡ Less
branch_name nodes Container name node seg own kids next h = h
branch_name nodes Presence name node seg own kids next h = h
branch_name nodes Listing name node seg own kids next h = entry_name nodes name seg.node _ next h
branch_name nodes Leaf name node seg own kids next h = h
branch_name nodes LeafList name node seg own kids next h = entry_name nodes name seg.node _ next h

begins_at : (b : Bool) (nodes : List SchemaNode) (seg first : Seg) (own : Option Value) (kids next : Forest) → eq_by_cmp segment_cmp seg first ≡ b
    → StandsBefore (node_at seg.node nodes).member (members_in nodes (branch first own kids next)) → b ≡ false
begins_at false nodes seg first own kids next is h = refl
begins_at true nodes seg first own kids next is h =
    let less = branch_name nodes (node_at first.node nodes).kind (node_at seg.node nodes).member (node_at first.node nodes) first own (members_in nodes kids) (gathered nodes next) h in
    absurd (not_before_itself (node_at first.node nodes).member (subst (λ (s : Seg). slice_cmp nat_cmp (node_at s.node nodes).member (node_at first.node nodes).member ≡ Less) ((segments_decide seg first).0 is) less))

-- a forest whose first member is a later one begins with another segment
pub starts_else : (nodes : List SchemaNode) (seg : Seg) (f : Forest) → StandsBefore (node_at seg.node nodes).member (members_in nodes f) → StartsElse seg f
starts_else nodes seg bare h = tt
starts_else nodes seg (branch first own kids next) h = begins_at (eq_by_cmp segment_cmp seg first) nodes seg first own kids next refl h
