-- The rounds take up exactly the nodes that meet the rules: one node, a part, the parts.
use Rattle.std.proofs.Common.{◌≡◌, ℕ, ◌+◌, ◌<◌, ◌≤◌, List, [], ◌∷◌, ◌++◌, map, length, true, false, not, ◌&&◌, cond, refl, sym, ap, ◌∙◌, subst, Option, Some, None, is_some, option_and_then, Ok, Err, arith, nat_le, nat_lt, ◌⊎◌, inl, inr, append_assoc, append-nil}
use Rattle.std.specs.Option.{unwrap_or}
use Rattle.std.specs.BTreeMap.{insert_entry}
use Rattle.std.specs.List.{AllByRecursion, AllZip, Contains}
use Rattle.std.specs.List.Sorted.{IsPermutation}
use Rattle.std.proofs.lemmas.Bool.Decides.{nat_tests}
use Rattle.std.proofs.lemmas.List.{length-map, map-append}
use Rattle.std.proofs.lemmas.List.Elements.{Contains-push_cases}
use Rattle.std.proofs.lemmas.List.Sorted.{IsPermutation-refl, IsPermutation-sym, Contains-permutation, length_permutation, IsPermutation-push_more}
use Rattle.serde_json.specs.Data.{Data, Items, no_items, item}
use Rattle.serde_json.specs.Find.{as_array}
use Rattle.std.proofs.lemmas.Bool.{and_parts}
use Rattle.yp_schema.specs.declared.stated.Stated.{Stated}
use Rattle.yp_schema.specs.declared.fault.SchemaKind.TheVariants as faults
use Rattle.yp_schema.specs.declared.listing.Listed.{Listed}
use Rattle.yp_names.specs.Names.{Names, names_cmp, front}
use Rattle.yp_schema.specs.Nodes.{may_hold}
use Rattle.yp_schema.specs.Stated.{node_in}
use Rattle.yp_base.specs.Results.{◌>>=◌}
use Rattle.yp_schema.specs.Rounds.{Nodes, listed_at, module_of_holder, parent_module, own_module, is_typed, in_module, added, at_place, first_round, keys_there, is_key_type, may_be_key, keys_fit, checked, second_round, part_in, parts_in}
use Rattle.yp_schema.specs.Compiled.{ItemsState, PartStates, nodes_in, HasNewPath, HasParent, module_of, HasModule, HasKey, HasKeys, placed_node}
use Rattle.yp_schema.proofs.Rising.{Rising, rising_insert}
use Rattle.yp_schema.proofs.Kept.{listed_of, Takes, takes_from, checked_keys}
use Rattle.yp_schema.proofs.After.{AllAfter}
use Rattle.yp_schema.proofs.Entries.{contains_map, map_contains, listed_contains, contains_listed, entries_more}
use Rattle.yp_schema.proofs.Stating.{IsRead, node_read, has_module, module_own}

-- ---- what is listed of the stated nodes

-- the listed nodes are those that were stated so far
pub record Holds (before : List Stated) (nodes : Nodes) : Type 0 where
  pub rising : Rising nodes
  pub all : IsPermutation (map placed_node before) nodes
  pub modules : (node : Stated) → Contains before node → HasModule node

pub no_nodes_hold : Holds [] []
no_nodes_hold = record { rising = tt; all = IsPermutation-refl []; modules = λ node c. absurd (omega (arith, c.1)) }

holds_listed : (before : List Stated) (nodes : Nodes) → Holds before nodes → (node : Stated) → Contains before node → listed_at node.path nodes ≡ Some (placed_node node).1
holds_listed before nodes h node c = contains_listed nodes (placed_node node) h.rising (Contains-permutation (map placed_node before) nodes (placed_node node) h.all (contains_map placed_node before node c))

listed_holds : (before : List Stated) (nodes : Nodes) → Holds before nodes → (path : Names) (x : Listed) → listed_at path nodes ≡ Some x → (node : Stated) × Contains before node × (placed_node node ≡ (path, x))
listed_holds before nodes h path x is =
    map_contains placed_node before (path, x) (Contains-permutation nodes (map placed_node before) (path, x) (IsPermutation-sym (map placed_node before) nodes h.all) (listed_contains nodes path x is))

holds_length : (before : List Stated) (nodes : Nodes) → Holds before nodes → length nodes ≡ length before
holds_length before nodes h = length_permutation (map placed_node before) nodes h.all ∙ length-map before placed_node

placed_home : (node : Stated) (home : List ℕ) → module_of node.path ≡ Some home → (placed_node node).1.home ≡ home
placed_home node home is = ap (λ o. unwrap_or o []) is

-- ---- parents

-- a path of the top, or of a container or list
abbrev HasAbove : List Stated → Names → Type 0
HasAbove before path = (path ≡ []) ⊎ ((parent : Stated) × Contains before parent × (parent.path ≡ path) × (may_hold parent.body.kind ≡ true))

module_above : (before : List Stated) (nodes : Nodes) → Holds before nodes → (path : Names) (above : Option (List ℕ)) → parent_module path nodes ≡ Some above → HasAbove before path × (above ≡ module_of path)
module_above before nodes h [] above is = (inl refl, (cc))
module_above before nodes h (name ∷ names) above is = holder (listed_at (name ∷ names) nodes) refl is
  where
    found : (x : Listed) → listed_at (name ∷ names) nodes ≡ Some x → may_hold x.body.kind ≡ true → Some (Some x.home) ≡ Some above → HasAbove before (name ∷ names) × (above ≡ module_of (name ∷ names))
    found x at holds k =
        let from = listed_holds before nodes h (name ∷ names) x at in
        let node : Stated = from.0 in
        let paths : node.path ≡ name ∷ names = ap (λ (e : Names × Listed). e.0) from.2 in
        let values : (placed_node node).1 ≡ x = ap (λ (e : Names × Listed). e.1) from.2 in
        let m : HasModule node = h.modules node from.1 in
        let home : x.home ≡ m.home = sym (ap (λ (y : Listed). y.home) values) ∙ placed_home node m.home m.own in
        let one : above ≡ Some x.home = cc in
        (inr (node, from.1, paths, ap (λ (y : Listed). may_hold y.body.kind) values ∙ holds), one ∙ ap Some home ∙ sym m.own ∙ ap module_of paths)

    holder : (o : Option Listed) → listed_at (name ∷ names) nodes ≡ o → option_and_then module_of_holder o ≡ Some above → HasAbove before (name ∷ names) × (above ≡ module_of (name ∷ names))
    holder None at k = cc
    holder (Some x) at k =
        elim (may_hold x.body.kind) as (λ t. may_hold x.body.kind ≡ t → cond t (Some (Some x.home)) None ≡ Some above → HasAbove before (name ∷ names) × (above ≡ module_of (name ∷ names))) [
          | false ↦ λ holds l. cc
          | true ↦ λ holds l. found x at holds l
        ] refl k

above_module : (before : List Stated) (nodes : Nodes) → Holds before nodes → (path : Names) → HasAbove before path → parent_module path nodes ≡ Some (module_of path)
above_module before nodes h [] above = refl
above_module before nodes h (name ∷ names) (inl bad) = cc
above_module before nodes h (name ∷ names) (inr w) =
    let node : Stated = w.0 in
    let m : HasModule node = h.modules node w.1 in
    let at : listed_at (name ∷ names) nodes ≡ Some (placed_node node).1 = ap (λ p. listed_at p nodes) (sym w.2) ∙ holds_listed before nodes h node w.1 in
    ap (option_and_then module_of_holder) at
    ∙ ap (λ t. cond t (Some (Some (placed_node node).1.home)) None) w.3
    ∙ ap (λ home. Some (Some home)) (placed_home node m.home m.own) ∙ ap Some (sym m.own ∙ ap module_of w.2)

-- ---- one node

pub record Admits (before : List Stated) (node : Stated) : Type 0 where
  pub path : HasNewPath before node
  pub parent : HasParent before node
  pub own : HasModule node
  pub typed : is_typed node.body.kind node.body.ty ≡ true
  pub depth : length node.path ≤ 16
  pub room : length before < 4096

-- one more node is held
one_more : (before : List Stated) (nodes : Nodes) → Holds before nodes → (node : Stated) (m : HasModule node) → listed_at node.path nodes ≡ None → (after : Nodes) → after ≡ insert_entry names_cmp nodes node.path (listed_of node m.home) → Holds (before ++ node ∷ []) after
one_more before nodes h node m fresh after is =
    let entry : (node.path, listed_of node m.home) ≡ placed_node node = λ i. (node.path, listed_of node (sym (placed_home node m.home m.own) i)) in
    let put : IsPermutation ((node.path, listed_of node m.home) ∷ nodes) after
    = subst (λ ns. IsPermutation ((node.path, listed_of node m.home) ∷ nodes) ns) (sym is) (entries_more nodes node.path (listed_of node m.home) fresh) in
    let more : IsPermutation (map placed_node before ++ placed_node node ∷ []) after
    = IsPermutation-push_more (map placed_node before) nodes after (placed_node node) h.all (subst (λ (e : Names × Listed). IsPermutation (e ∷ nodes) after) entry put) in
    record {
      rising = subst Rising (sym is) (rising_insert nodes node.path (listed_of node m.home) h.rising);
      all = subst (λ es. IsPermutation es after) (sym (map-append placed_node before (node ∷ []))) more;
      modules = λ other c. elim (Contains-push_cases before node other c) [ inl old ↦ h.modules other old | inr new ↦ subst HasModule new m ];
    }

pub added_admits : (before : List Stated) (nodes : Nodes) → Holds before nodes → (node : Stated) → IsRead node → (after : Nodes) → added (Some node) nodes ≡ Ok after → Admits before node × Holds (before ++ node ∷ []) after
added_admits before nodes h node read after is =
    let t : Takes nodes node after = takes_from node nodes after (parent_module (front node.path) nodes) refl is in
    let above = module_above before nodes h (front node.path) t.above t.parent in
    let own = has_module node t.home read (ap (λ a. own_module a node.home) (sym above.1) ∙ t.own) in
    let m : HasModule node = own.0 in
    let held : length nodes ≡ length before = holds_length before nodes h in (
      record {
        path = λ other c paths. let bad : Some (placed_node other).1 ≡ None = sym (holds_listed before nodes h other c) ∙ ap (λ p. listed_at p nodes) paths ∙ t.puts.fresh in cc;
        parent = above.0;
        own = m;
        typed = t.puts.typed;
        depth = t.puts.depth;
        room = subst (λ n. n < 4096) held t.puts.room;
      },
      one_more before nodes h node m t.puts.fresh after (t.puts.is ∙ ap (λ home. insert_entry names_cmp nodes node.path (listed_of node home)) (sym own.1)),
    )

fresh_path : (before : List Stated) (nodes : Nodes) → Holds before nodes → (node : Stated) → HasNewPath before node → listed_at node.path nodes ≡ None
fresh_path before nodes h node new = found (listed_at node.path nodes) refl
  where
    found : (o : Option Listed) → listed_at node.path nodes ≡ o → listed_at node.path nodes ≡ None
    found None is = is
    found (Some x) is =
        let from = listed_holds before nodes h node.path x is in
        absurd (new from.0 from.1 (ap (λ (e : Names × Listed). e.0) from.2))

not_over : (n most : ℕ) → n ≤ most → nat_lt most n ≡ false
not_over n most h = grind (arith, nat_tests)

not_reached : (n bound : ℕ) → n < bound → nat_le bound n ≡ false
not_reached n bound h = grind (arith, nat_tests)

pub admits_added : (before : List Stated) (nodes : Nodes) → Holds before nodes → (node : Stated) → IsRead node → Admits before node → (after : Nodes) × (added (Some node) nodes ≡ Ok after)
admits_added before nodes h node read a =
    let fresh : listed_at node.path nodes ≡ None = fresh_path before nodes h node a.path in
    let held : length nodes ≡ length before = holds_length before nodes h in
    let deep : nat_lt 16 (length node.path) ≡ false = not_over (length node.path) 16 a.depth in
    let many : nat_le 4096 (length nodes) ≡ false = not_reached (length nodes) 4096 (subst (λ n. n < 4096) (sym held) a.room) in
    let x : Listed = listed_of node a.own.home in
    let after : Nodes = insert_entry names_cmp nodes node.path x in (
      after,
      ap (λ (o : Option (Option (List ℕ))). in_module node (option_and_then (λ above. own_module above node.home) o) nodes) (above_module before nodes h (front node.path) a.parent)
          ∙ ap (λ o. in_module node o nodes) (module_own node read a.own)
          ∙ ap (λ o. cond (is_some o) (Err faults.Duplicate) (cond (not (is_typed node.body.kind node.body.ty)) (Err faults.UnknownType) (cond (nat_lt 16 (length node.path)) (Err faults.TooDeep) (cond (nat_le 4096 (length nodes)) (Err faults.TooMany) (Ok after))))) fresh
          ∙ ap (λ t. cond (not t) (Err faults.UnknownType) (cond (nat_lt 16 (length node.path)) (Err faults.TooDeep) (cond (nat_le 4096 (length nodes)) (Err faults.TooMany) (Ok after)))) a.typed
          ∙ ap (λ t. cond t (Err faults.TooDeep) (cond (nat_le 4096 (length nodes)) (Err faults.TooMany) (Ok after))) deep
          ∙ ap (λ t. cond t (Err faults.TooMany) (Ok after)) many,
    )

-- ---- the first round

pub record FirstRound (ds : Items) (before : List Stated) (after : Nodes) : Type 0 where
  pub stated : List Stated
  pub states : ItemsState ds stated
  pub admits : AllAfter Admits before stated
  pub holds : Holds (before ++ stated) after

one_node : (part place : ℕ) (d : Data) (ds : Items) (before : List Stated) (nodes after : Nodes) → Holds before nodes → (o : Option Stated) → node_in d ≡ o
    → (at_place part place (added o nodes) >>= λ middle. first_round part (place + 1) ds middle) ≡ Ok after
    → ((next : List Stated) (middle : Nodes) → Holds next middle → first_round part (place + 1) ds middle ≡ Ok after → FirstRound ds next after)
    → FirstRound (item d ds) before after
one_node part place d ds before nodes after h None is k more = cc
one_node part place d ds before nodes after h (Some node) is k more =
    elim (added (Some node) nodes) as (λ r. added (Some node) nodes ≡ r → (at_place part place r >>= λ middle. first_round part (place + 1) ds middle) ≡ Ok after → FirstRound (item d ds) before after) [
      | Err e ↦ λ ok l. cc
      | Ok middle ↦ λ ok l.
          let one = added_admits before nodes h node (node_read d node is) middle ok in
          let rest : FirstRound ds (before ++ node ∷ []) after = more (before ++ node ∷ []) middle one.1 l in
          record {
            stated = node ∷ rest.stated;
            states = (is, rest.states);
            admits = (one.0, rest.admits);
            holds = subst (λ all. Holds all after) (append_assoc before (node ∷ []) rest.stated) rest.holds;
          }
    ] refl k

pub first_admits : (part place : ℕ) (ds : Items) (before : List Stated) (nodes after : Nodes) → Holds before nodes → first_round part place ds nodes ≡ Ok after → FirstRound ds before after
first_admits part place no_items before nodes after h is =
    let one : nodes ≡ after = cc in
    record { stated = []; states = tt; admits = tt; holds = subst (λ all. Holds all after) (sym (append-nil before)) (subst (λ ns. Holds before ns) one h) }
first_admits part place (item d ds) before nodes after h is =
    one_node part place d ds before nodes after h (node_in d) refl is (λ next middle held k. first_admits part (place + 1) ds next middle after held k)

pub admits_first : (part place : ℕ) (ds : Items) (stated before : List Stated) (nodes : Nodes) → Holds before nodes → ItemsState ds stated → AllAfter Admits before stated
    → (after : Nodes) × (first_round part place ds nodes ≡ Ok after) × Holds (before ++ stated) after
admits_first part place no_items [] before nodes h states admits = (nodes, refl, subst (λ all. Holds all nodes) (sym (append-nil before)) h)
admits_first part place no_items (node ∷ stated) before nodes h states admits = absurd states
admits_first part place (item d ds) [] before nodes h states admits = absurd states
admits_first part place (item d ds) (node ∷ stated) before nodes h states admits =
    let read : IsRead node = node_read d node states.0 in
    let one = admits_added before nodes h node read admits.0 in
    let held = (added_admits before nodes h node read one.0 one.1).1 in
    let rest = admits_first part (place + 1) ds stated (before ++ node ∷ []) one.0 held states.1 admits.1 in (
      rest.0,
      ap (λ o. at_place part place (added o nodes) >>= λ middle. first_round part (place + 1) ds middle) states.0
          ∙ ap (λ r. at_place part place r >>= λ middle. first_round part (place + 1) ds middle) one.1
          ∙ rest.1,
      subst (λ all. Holds all rest.0) (append_assoc before (node ∷ []) stated) rest.2,
    )

-- ---- keys

key_held : (all : List Stated) (nodes : Nodes) → Holds all nodes → (list : Stated) (key : List ℕ) → may_be_key (listed_at (list.path ++ key ∷ []) nodes) ≡ true → HasKey all list key
key_held all nodes h list key may = found (listed_at (list.path ++ key ∷ []) nodes) refl may
  where
    found : (o : Option Listed) → listed_at (list.path ++ key ∷ []) nodes ≡ o → may_be_key o ≡ true → HasKey all list key
    found None is k = cc
    found (Some x) is k =
        let from = listed_holds all nodes h (list.path ++ key ∷ []) x is in
        record {
          leaf = from.0;
          there = from.1;
          child = ap (λ (e : Names × Listed). e.0) from.2;
          fits = ap (λ (e : Names × Listed). is_key_type e.1.body.kind e.1.body.ty) from.2 ∙ k;
        }

held_key : (all : List Stated) (nodes : Nodes) → Holds all nodes → (list : Stated) (key : List ℕ) → HasKey all list key → may_be_key (listed_at (list.path ++ key ∷ []) nodes) ≡ true
held_key all nodes h list key k = ap (λ p. may_be_key (listed_at p nodes)) (sym k.child) ∙ ap may_be_key (holds_listed all nodes h k.leaf k.there) ∙ k.fits

keys_held : (all : List Stated) (nodes : Nodes) → Holds all nodes → (list : Stated) (keys : Names) → keys_fit list.path keys nodes ≡ true → AllByRecursion (HasKey all list) keys
keys_held all nodes h list [] fit = tt
keys_held all nodes h list (key ∷ keys) fit =
    let both = and_parts (may_be_key (listed_at (list.path ++ key ∷ []) nodes)) (keys_fit list.path keys nodes) fit in
    (key_held all nodes h list key both.0, keys_held all nodes h list keys both.1)

held_keys : (all : List Stated) (nodes : Nodes) → Holds all nodes → (list : Stated) (keys : Names) → AllByRecursion (HasKey all list) keys → keys_fit list.path keys nodes ≡ true
held_keys all nodes h list [] has = refl
held_keys all nodes h list (key ∷ keys) has =
    ap (λ t. t && keys_fit list.path keys nodes) (held_key all nodes h list key has.0) ∙ held_keys all nodes h list keys has.1

fit_there : (path keys : Names) (nodes : Nodes) → keys_fit path keys nodes ≡ true → keys_there path keys nodes ≡ true
fit_there path [] nodes fit = refl
fit_there path (key ∷ keys) nodes fit =
    let both = and_parts (may_be_key (listed_at (path ++ key ∷ []) nodes)) (keys_fit path keys nodes) fit in
    ap (λ t. t && keys_there path keys nodes) (there (listed_at (path ++ key ∷ []) nodes) both.0) ∙ fit_there path keys nodes both.1
  where
    there : (o : Option Listed) → may_be_key o ≡ true → is_some o ≡ true
    there None may = cc
    there (Some x) may = refl

fit_checked : (node : Stated) (nodes : Nodes) → keys_fit node.path node.body.keys nodes ≡ true → checked (Some node) nodes ≡ Ok nodes
fit_checked node nodes fit =
    ap (λ t. cond (not t) (Err faults.NoKey) (cond (not (keys_fit node.path node.body.keys nodes)) (Err faults.KeyNotLeaf) (Ok nodes))) (fit_there node.path node.body.keys nodes fit)
    ∙ ap (λ t. cond (not t) (Err faults.KeyNotLeaf) (Ok nodes)) fit

-- ---- the second round

abbrev Fit : Nodes → List Stated → Type 0
Fit nodes stated = AllByRecursion (λ list. keys_fit list.path list.body.keys nodes ≡ true) stated

second_fit : (part place : ℕ) (ds : Items) (stated : List Stated) (nodes after : Nodes) → ItemsState ds stated → second_round part place ds nodes ≡ Ok after → (nodes ≡ after) × Fit nodes stated
second_fit part place no_items [] nodes after states is = ((cc), tt)
second_fit part place no_items (node ∷ stated) nodes after states is = absurd states
second_fit part place (item d ds) [] nodes after states is = absurd states
second_fit part place (item d ds) (node ∷ stated) nodes after states is =
    elim (checked (Some node) nodes) as (λ r. checked (Some node) nodes ≡ r → (at_place part place r >>= λ middle. second_round part (place + 1) ds middle) ≡ Ok after → (nodes ≡ after) × Fit nodes (node ∷ stated)) [
      | Err e ↦ λ ok k. cc
      | Ok middle ↦ λ ok k.
          let one = checked_keys node nodes middle ok in
          let rest = second_fit part (place + 1) ds stated middle after states.1 k in
          (one.1 ∙ rest.0, (one.0, subst (λ ns. Fit ns stated) (sym one.1) rest.1))
    ] refl (sym (ap (λ o. at_place part place (checked o nodes) >>= λ middle. second_round part (place + 1) ds middle) states.0) ∙ is)

fit_second : (part place : ℕ) (ds : Items) (stated : List Stated) (nodes : Nodes) → ItemsState ds stated → Fit nodes stated → second_round part place ds nodes ≡ Ok nodes
fit_second part place no_items [] nodes states fit = refl
fit_second part place no_items (node ∷ stated) nodes states fit = absurd states
fit_second part place (item d ds) [] nodes states fit = absurd states
fit_second part place (item d ds) (node ∷ stated) nodes states fit =
    ap (λ o. at_place part place (checked o nodes) >>= λ middle. second_round part (place + 1) ds middle) states.0
    ∙ ap (λ r. at_place part place r >>= λ middle. second_round part (place + 1) ds middle) (fit_checked node nodes fit.0)
    ∙ fit_second part (place + 1) ds stated nodes states.1 fit.1

all_keys_held : (all : List Stated) (nodes : Nodes) → Holds all nodes → (stated : List Stated) → Fit nodes stated → AllByRecursion (λ list. AllByRecursion (HasKey all list) list.body.keys) stated
all_keys_held all nodes h [] fit = tt
all_keys_held all nodes h (node ∷ stated) fit = (keys_held all nodes h node node.body.keys fit.0, all_keys_held all nodes h stated fit.1)

held_all_keys : (all : List Stated) (nodes : Nodes) → Holds all nodes → (stated : List Stated) → AllByRecursion (λ list. AllByRecursion (HasKey all list) list.body.keys) stated → Fit nodes stated
held_all_keys all nodes h [] has = tt
held_all_keys all nodes h (node ∷ stated) has = (held_keys all nodes h node node.body.keys has.0, held_all_keys all nodes h stated has.1)

-- ---- a part

pub nodes_append : (parts more : List (List Stated)) → nodes_in parts ++ nodes_in more ≡ nodes_in (parts ++ more)
nodes_append [] more = refl
nodes_append (part ∷ parts) more = append_assoc part (nodes_in parts) (nodes_in more) ∙ ap (λ ns. part ++ ns) (nodes_append parts more)

pub nodes_more : (parts : List (List Stated)) (part : List Stated) → nodes_in parts ++ part ≡ nodes_in (parts ++ part ∷ [])
nodes_more parts part = ap (λ ns. nodes_in parts ++ ns) (sym (append-nil part)) ∙ nodes_append parts (part ∷ [])

pub record AdmitsPart (before : List (List Stated)) (part : List Stated) : Type 0 where
  pub nodes : AllAfter Admits (nodes_in before) part
  pub keys : HasKeys before part

pub record OnePart (d : Data) (before : List (List Stated)) (after : Nodes) : Type 0 where
  pub stated : List Stated
  pub states : PartStates d stated
  pub admits : AdmitsPart before stated
  pub holds : Holds (nodes_in (before ++ stated ∷ [])) after

part_admits : (part : ℕ) (d : Data) (before : List (List Stated)) (nodes after : Nodes) → Holds (nodes_in before) nodes → (o : Option Items) → as_array d ≡ o → part_in part o nodes ≡ Ok after → OnePart d before after
part_admits part d before nodes after h None array is = cc
part_admits part d before nodes after h (Some ds) array is =
    elim (first_round part 0 ds nodes) as (λ r. first_round part 0 ds nodes ≡ r → (r >>= λ middle. second_round part 0 ds middle) ≡ Ok after → OnePart d before after) [
      | Err e ↦ λ ok k. cc
      | Ok middle ↦ λ ok k.
          let first : FirstRound ds (nodes_in before) middle = first_admits part 0 ds (nodes_in before) nodes middle h ok in
          let second = second_fit part 0 ds first.stated middle after first.states k in
          let held : Holds (nodes_in (before ++ first.stated ∷ [])) middle = subst (λ all. Holds all middle) (nodes_more before first.stated) first.holds in
          record {
            stated = first.stated;
            states = record { items = ds; array = array; states = first.states };
            admits = record { nodes = first.admits; keys = all_keys_held (nodes_in (before ++ first.stated ∷ [])) middle held first.stated second.1 };
            holds = subst (λ ns. Holds (nodes_in (before ++ first.stated ∷ [])) ns) second.0 held;
          }
    ] refl is

admits_part : (part : ℕ) (d : Data) (before : List (List Stated)) (stated : List Stated) (nodes : Nodes) → Holds (nodes_in before) nodes → PartStates d stated → AdmitsPart before stated
    → (after : Nodes) × (part_in part (as_array d) nodes ≡ Ok after) × Holds (nodes_in (before ++ stated ∷ [])) after
admits_part part d before stated nodes h states admits =
    let first = admits_first part 0 states.items stated (nodes_in before) nodes h states.states admits.nodes in
    let middle : Nodes = first.0 in
    let held : Holds (nodes_in (before ++ stated ∷ [])) middle = subst (λ all. Holds all middle) (nodes_more before stated) first.2 in
    let fit : Fit middle stated = held_all_keys (nodes_in (before ++ stated ∷ [])) middle held stated admits.keys in (
      middle,
      ap (λ o. part_in part o nodes) states.array
          ∙ ap (λ r. r >>= λ after. second_round part 0 states.items after) first.1
          ∙ fit_second part 0 states.items stated middle states.states fit,
      held,
    )

-- ---- the parts

pub record AllParts (ds : List Data) (before : List (List Stated)) (after : Nodes) : Type 0 where
  pub stated : List (List Stated)
  pub states : AllZip PartStates ds stated
  pub admits : AllAfter AdmitsPart before stated
  pub holds : Holds (nodes_in (before ++ stated)) after

pub parts_admit : (part : ℕ) (ds : List Data) (before : List (List Stated)) (nodes after : Nodes) → Holds (nodes_in before) nodes → parts_in part ds nodes ≡ Ok after → AllParts ds before after
parts_admit part [] before nodes after h is =
    let one : nodes ≡ after = cc in
    record { stated = []; states = tt; admits = tt; holds = subst (λ parts. Holds (nodes_in parts) after) (sym (append-nil before)) (subst (λ ns. Holds (nodes_in before) ns) one h) }
parts_admit part (d ∷ ds) before nodes after h is =
    elim (part_in part (as_array d) nodes) as (λ r. part_in part (as_array d) nodes ≡ r → (r >>= λ middle. parts_in (part + 1) ds middle) ≡ Ok after → AllParts (d ∷ ds) before after) [
      | Err e ↦ λ ok k. cc
      | Ok middle ↦ λ ok k.
          let one : OnePart d before middle = part_admits part d before nodes middle h (as_array d) refl ok in
          let rest : AllParts ds (before ++ one.stated ∷ []) after = parts_admit (part + 1) ds (before ++ one.stated ∷ []) middle after one.holds k in
          record {
            stated = one.stated ∷ rest.stated;
            states = (one.states, rest.states);
            admits = (one.admits, rest.admits);
            holds = subst (λ parts. Holds (nodes_in parts) after) (append_assoc before (one.stated ∷ []) rest.stated) rest.holds;
          }
    ] refl is

pub admit_parts : (part : ℕ) (ds : List Data) (stated before : List (List Stated)) (nodes : Nodes) → Holds (nodes_in before) nodes → AllZip PartStates ds stated → AllAfter AdmitsPart before stated
    → (after : Nodes) × (parts_in part ds nodes ≡ Ok after) × Holds (nodes_in (before ++ stated)) after
admit_parts part [] [] before nodes h states admits = (nodes, refl, subst (λ parts. Holds (nodes_in parts) nodes) (sym (append-nil before)) h)
admit_parts part [] (one ∷ stated) before nodes h states admits = absurd states
admit_parts part (d ∷ ds) [] before nodes h states admits = absurd states
admit_parts part (d ∷ ds) (one ∷ stated) before nodes h states admits =
    let first = admits_part part d before one nodes h states.0 admits.0 in
    let rest = admit_parts (part + 1) ds stated (before ++ one ∷ []) first.0 first.2 states.1 admits.1 in (
      rest.0,
      ap (λ r. r >>= λ middle. parts_in (part + 1) ds middle) first.1 ∙ rest.1,
      subst (λ parts. Holds (nodes_in parts) rest.0) (append_assoc before (one ∷ []) stated) rest.2,
    )
