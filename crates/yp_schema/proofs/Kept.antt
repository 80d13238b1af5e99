-- What is so of the nodes so far, and what the rounds of a part keep.
use Rattle.std.proofs.Common.{◌≡◌, ℕ, ◌+◌, ◌<◌, ◌≤◌, ◌&&◌, List, [], ◌∷◌, ◌++◌, length, Bool, true, false, not, cond, refl, sym, ap, ◌∙◌, subst, Option, Some, None, is_some, option_and_then, Result, Ok, Err, Less, Equal, Greater, arith, nat_le, nat_lt, ◌⊎◌, inl, inr}
use Rattle.std.specs.Ordering.{is_eq, match_ordering}
use Rattle.std.specs.BTreeMap.{insert_entry}
use Rattle.std.proofs.lemmas.Bool.Decides.{nat_tests}
use Rattle.serde_json.specs.Data.{Data, Items, no_items, item}
use Rattle.serde_json.specs.Find.{as_array}
use Rattle.std.proofs.lemmas.Bool.{and_parts}
use Rattle.yp_base.specs.PathLaws.{texts_turned, texts_itself}
use Rattle.yp_base.specs.Types.{same_text}
use Rattle.yp_schema.specs.declared.stated.Body.{Body}
use Rattle.yp_schema.specs.declared.stated.Stated.{Stated}
use Rattle.yp_schema.specs.declared.fault.SchemaKind.TheVariants as faults
use Rattle.yp_schema.specs.declared.listing.Listed.{Listed}
use Rattle.yp_names.specs.Names.{Names, names_cmp, front, last, is_name}
use Rattle.yp_schema.specs.Nodes.{may_hold}
use Rattle.yp_schema.specs.Stated.{node_in}
use Rattle.yp_base.specs.Results.{◌>>=◌, none_is}
use Rattle.yp_schema.specs.Rounds.{Nodes, listed_at, module_of_holder, parent_module, own_module, is_typed, placed, in_module, added, at_place, first_round, keys_there, may_be_key, keys_fit, checked, second_round, part_in, parts_in}
use Rattle.yp_schema.proofs.Rising.{Rising, listed_insert, rising_insert, same_path}
use Rattle.yp_schema.proofs.Sound.{body_fits, IsSound, form_text, home_fits, Has, has_at, node_sound}

-- the text of a member form, by the parent's module
abbrev pub member_text : Option (List ℕ) → List ℕ → List ℕ → List ℕ
member_text None home name = home ++ 58 ∷ name
member_text (Some above) home name = cond (same_text above home) name (home ++ 58 ∷ name)

-- what is so of a listed node
pub record IsKept (nodes : Nodes) (path : Names) (node : Listed) : Type 0 where
  pub way : front path ++ last path ∷ [] ≡ path
  pub above : Option (List ℕ)
  pub parent : parent_module (front path) nodes ≡ Some above
  pub written : last path ≡ member_text above node.home node.name
  pub home : is_name node.home ≡ true
  pub name : is_name node.name ≡ true
  pub body : body_fits node.body ≡ true
  pub typed : is_typed node.body.kind node.body.ty ≡ true
  pub depth : length path ≤ 16

pub record AreKept (nodes : Nodes) : Type 0 where
  pub rising : Rising nodes
  pub few : length nodes ≤ 4096
  pub each : (path : Names) (node : Listed) → listed_at path nodes ≡ Some node → IsKept nodes path node

-- what was listed stays
abbrev pub Grows : Nodes → Nodes → Type 0
Grows before after = (path : Names) (node : Listed) → listed_at path before ≡ Some node → listed_at path after ≡ Some node

parent_grows : (before after : Nodes) → Grows before after → (path : Names) (above : Option (List ℕ)) → parent_module path before ≡ Some above → parent_module path after ≡ Some above
parent_grows before after grow [] above h = h
parent_grows before after grow (name ∷ names) above h = holder (listed_at (name ∷ names) before) refl h
  where
    holder : (o : Option Listed) → listed_at (name ∷ names) before ≡ o → option_and_then module_of_holder o ≡ Some above → option_and_then module_of_holder (listed_at (name ∷ names) after) ≡ Some above
    holder None is k = cc
    holder (Some node) is k = ap (option_and_then module_of_holder) (grow (name ∷ names) node is) ∙ k

kept_grows : (before after : Nodes) → Grows before after → (path : Names) (node : Listed) → IsKept before path node → IsKept after path node
kept_grows before after grow path node k = record {
  way = k.way;
  above = k.above;
  parent = parent_grows before after grow (front path) k.above k.parent;
  written = k.written;
  home = k.home;
  name = k.name;
  body = k.body;
  typed = k.typed;
  depth = k.depth;
}

-- ---- one node is taken up

past : {A F : Type 0} (t : Bool) (e : F) (r : Result A F) (x : A) → cond t (Err e) r ≡ Ok x → (t ≡ false) × (r ≡ Ok x)
past true e r x h = cc
past false e r x h = (refl, h)

not_false : (t : Bool) → not t ≡ false → t ≡ true
not_false true h = refl
not_false false h = cc

-- what stands so far after a node was put in
pub record Puts (nodes : Nodes) (path : Names) (node : Listed) (after : Nodes) : Type 0 where
  pub fresh : listed_at path nodes ≡ None
  pub typed : is_typed node.body.kind node.body.ty ≡ true
  pub depth : length path ≤ 16
  pub room : length nodes < 4096
  pub is : after ≡ insert_entry names_cmp nodes path node

placed_puts : (path : Names) (node : Listed) (nodes after : Nodes) → placed path node nodes ≡ Ok after → Puts nodes path node after
placed_puts path node nodes after h =
    let one = past (is_some (listed_at path nodes)) faults.Duplicate _ after h in
    let two = past (not (is_typed node.body.kind node.body.ty)) faults.UnknownType _ after one.1 in
    let three = past (nat_lt 16 (length path)) faults.TooDeep _ after two.1 in
    let four = past (nat_le 4096 (length nodes)) faults.TooMany _ after three.1 in
    record {
      fresh = none_is _ one.0;
      typed = not_false _ two.0;
      depth = let f : nat_lt 16 (length path) ≡ false = three.0 in grind (arith, nat_tests);
      room = let f : nat_le 4096 (length nodes) ≡ false = four.0 in grind (arith, nat_tests);
      is = cc;
    }

length_insert : (nodes : Nodes) (path : Names) (node : Listed) → length (insert_entry names_cmp nodes path node) ≤ length nodes + 1
length_insert [] path node = omega arith
length_insert (e ∷ es) path node =
    elim (names_cmp path e.0) as (λ r. length (match_ordering r ((path, node) ∷ e ∷ es) ((e.0, node) ∷ es) (e ∷ insert_entry names_cmp es path node)) ≤ length (e ∷ es) + 1) [
      | Less ↦ omega arith
      | Equal ↦ omega arith
      | Greater ↦ omega (arith, length_insert es path node)
    ]

some_of_cond : {X : Type 0} (t : Bool) (x y : X) (o : Option X) → cond t (Some x) o ≡ Some y → ((t ≡ true) × (x ≡ y)) ⊎ ((t ≡ false) × (o ≡ Some y))
some_of_cond true x y o h = inl (refl, (cc))
some_of_cond false x y o h = inr (refl, h)

puts_grow : (nodes : Nodes) (path : Names) (node : Listed) (after : Nodes) → Puts nodes path node after → Grows nodes after
puts_grow nodes path node after p q x h =
    ap (listed_at q) p.is ∙ listed_insert nodes path node q ∙ other (is_eq (names_cmp q path)) refl
  where
    other : (t : Bool) → is_eq (names_cmp q path) ≡ t → cond t (Some node) (listed_at q nodes) ≡ Some x
    other true is =
        let one : q ≡ path = same_path q path is in
        let bad : Some x ≡ None = sym h ∙ ap (λ r. listed_at r nodes) one ∙ p.fresh in
        cc
    other false is = h

-- what is listed after a node was put in
puts_listed : (nodes : Nodes) (path : Names) (node : Listed) (after : Nodes) → Puts nodes path node after → (q : Names) (x : Listed) → listed_at q after ≡ Some x
    → ((path ≡ q) × (node ≡ x)) ⊎ (listed_at q nodes ≡ Some x)
puts_listed nodes path node after p q x h =
    elim (some_of_cond (is_eq (names_cmp q path)) node x (listed_at q nodes) (sym (listed_insert nodes path node q) ∙ sym (ap (listed_at q) p.is) ∙ h)) [
      | inl w ↦ inl (sym (same_path q path w.0), w.1)
      | inr w ↦ inr w.1
    ]

-- ---- the module of a node

-- what the module of a node and its parent's have to do with what stands in front of its name
own_written : (above stated : Option (List ℕ)) (home name : List ℕ) → home_fits stated ≡ true → (Has (λ h. is_name h ≡ true) above) → own_module above stated ≡ Some home
    → (form_text stated name ≡ member_text above home name) × (is_name home ≡ true)
own_written None None home name fits high is = cc
own_written None (Some h) home name fits high is =
    let one : h ≡ home = cc in (ap (λ x. x ++ 58 ∷ name) one, sym (ap is_name one) ∙ fits)
own_written (Some above) None home name fits high is =
    let one : above ≡ home = cc in
    (sym (ap (λ t. cond t name (home ++ 58 ∷ name)) (ap (same_text above) (sym one) ∙ texts_itself above)), sym (ap is_name one) ∙ high)
own_written (Some above) (Some h) home name fits high is =
    elim (same_text h above) as (λ t. same_text h above ≡ t → cond t None (Some h) ≡ Some home → (h ++ 58 ∷ name ≡ member_text (Some above) home name) × (is_name home ≡ true)) [
      | true ↦ λ same k. cc
      | false ↦ λ same k.
          let one : h ≡ home = cc in
          (ap (λ x. x ++ 58 ∷ name) one ∙ sym (ap (λ t. cond t name (home ++ 58 ∷ name)) (texts_turned above home ∙ sym (ap (λ x. same_text x above) one) ∙ same)), sym (ap is_name one) ∙ fits)
    ] refl is

-- the module of a parent is a name
parent_high : (nodes : Nodes) → AreKept nodes → (path : Names) → Has (Has (λ h. is_name h ≡ true)) (parent_module path nodes)
parent_high nodes kept [] = tt
parent_high nodes kept (name ∷ names) = high (listed_at (name ∷ names) nodes) refl
  where
    high : (o : Option Listed) → listed_at (name ∷ names) nodes ≡ o → Has (Has (λ h. is_name h ≡ true)) (option_and_then module_of_holder o)
    high None is = tt
    high (Some node) is =
        elim (may_hold node.body.kind) as (λ t. Has (Has (λ h. is_name h ≡ true)) (cond t (Some (Some node.home)) None)) [ true ↦ (kept.each (name ∷ names) node is).home | false ↦ tt ]

-- a node that was stated, as it is listed
abbrev pub listed_of : Stated → List ℕ → Listed
listed_of node home = record { home = home; name = node.name; body = node.body }

pub record Takes (nodes : Nodes) (node : Stated) (after : Nodes) : Type 0 where
  pub home : List ℕ
  pub puts : Puts nodes node.path (listed_of node home) after
  pub above : Option (List ℕ)
  pub parent : parent_module (front node.path) nodes ≡ Some above
  pub own : own_module above node.home ≡ Some home

pub takes_from : (node : Stated) (nodes after : Nodes) (m : Option (Option (List ℕ))) → parent_module (front node.path) nodes ≡ m
    → in_module node (option_and_then (λ above. own_module above node.home) m) nodes ≡ Ok after → Takes nodes node after
takes_from node nodes after None is h = cc
takes_from node nodes after (Some above) is h =
    elim (own_module above node.home) as (λ o. own_module above node.home ≡ o → in_module node o nodes ≡ Ok after → Takes nodes node after) [
      | None ↦ λ own k. cc
      | Some home ↦ λ own k. record { home = home; puts = placed_puts node.path (listed_of node home) nodes after k; above = above; parent = is; own = own }
    ] refl h

takes_kept : (nodes : Nodes) (node : Stated) (after : Nodes) → AreKept nodes → IsSound node → (t : Takes nodes node after) → IsKept nodes node.path (listed_of node t.home)
takes_kept nodes node after kept sound t =
    let written = own_written t.above node.home t.home node.name sound.form.home (has_at (Has (λ h. is_name h ≡ true)) (parent_module (front node.path) nodes) t.above (parent_high nodes kept (front node.path)) t.parent) t.own in
    record {
      way = sound.way;
      above = t.above;
      parent = t.parent;
      written = sound.form.written ∙ written.0;
      home = written.1;
      name = sound.form.name;
      body = sound.body;
      typed = t.puts.typed;
      depth = t.puts.depth;
    }

moved : {nodes : Nodes} (p q : Names) (x y : Listed) → p ≡ q → x ≡ y → IsKept nodes p x → IsKept nodes q y
moved {nodes} p q x y path node k = subst (λ (r : Names). IsKept nodes r y) path (subst (λ (z : Listed). IsKept nodes p z) node k)

pub takes_all : (nodes : Nodes) (node : Stated) (after : Nodes) → AreKept nodes → IsSound node → Takes nodes node after → AreKept after
takes_all nodes node after kept sound t = record {
  rising = subst Rising (sym t.puts.is) (rising_insert nodes node.path (listed_of node t.home) kept.rising);
  few = let more : length (insert_entry names_cmp nodes node.path (listed_of node t.home)) ≤ length nodes + 1 = length_insert nodes node.path (listed_of node t.home) in
      let same : length after ≡ length (insert_entry names_cmp nodes node.path (listed_of node t.home)) = ap length t.puts.is in
      let room : length nodes < 4096 = t.puts.room in omega arith;
  each = λ path x h.
      let grow : Grows nodes after = puts_grow nodes node.path (listed_of node t.home) after t.puts in
      elim (puts_listed nodes node.path (listed_of node t.home) after t.puts path x h) [
        | inl w ↦ kept_grows nodes after grow path x (moved node.path path (listed_of node t.home) x w.0 w.1 (takes_kept nodes node after kept sound t))
        | inr w ↦ kept_grows nodes after grow path x (kept.each path x w)
      ];
}

-- ---- the rounds

-- a node that one of some items states
abbrev pub IsStated : Items → Names → Body → Type 0
IsStated no_items path body = ⊥
IsStated (item d ds) path body = ((node : Stated) × (node_in d ≡ Some node) × (node.path ≡ path) × (node.body ≡ body)) ⊎ IsStated ds path body

-- what a round leaves: what is listed was listed before, or is stated by an item
pub record Round (ds : Items) (nodes after : Nodes) : Type 0 where
  pub kept : AreKept after
  pub grow : Grows nodes after
  pub from : (path : Names) (x : Listed) → listed_at path after ≡ Some x → IsStated ds path x.body ⊎ (listed_at path nodes ≡ Some x)

one_node : (part place : ℕ) (d : Data) (ds : Items) (nodes after : Nodes) (o : Option Stated) → node_in d ≡ o → Has IsSound o → AreKept nodes
    → (at_place part place (added o nodes) >>= λ middle. first_round part (place + 1) ds middle) ≡ Ok after
    → ((middle : Nodes) → AreKept middle → first_round part (place + 1) ds middle ≡ Ok after → Round ds middle after)
    → Round (item d ds) nodes after
one_node part place d ds nodes after None is sound kept h more = cc
one_node part place d ds nodes after (Some node) is sound kept h more =
    elim (added (Some node) nodes) as (λ r. added (Some node) nodes ≡ r → (at_place part place r >>= λ middle. first_round part (place + 1) ds middle) ≡ Ok after → Round (item d ds) nodes after) [
      | Err e ↦ λ ok k. cc
      | Ok middle ↦ λ ok k.
          let takes : Takes nodes node middle = takes_from node nodes middle (parent_module (front node.path) nodes) refl ok in
          let listed = listed_of node takes.home in
          let rest = more middle (takes_all nodes node middle kept sound takes) k in
          record {
            kept = rest.kept;
            grow = λ path x l. rest.grow path x (puts_grow nodes node.path listed middle takes.puts path x l);
            from = λ path x l. elim (rest.from path x l) [
              | inl w ↦ inl (inr w)
              | inr w ↦ elim (puts_listed nodes node.path listed middle takes.puts path x w) [
                | inl v ↦ inl (inl (node, is, v.0, ap (λ (y : Listed). y.body) v.1))
                | inr v ↦ inr v
              ]
            ];
          }
    ] refl h

pub first_kept : (part place : ℕ) (ds : Items) (nodes after : Nodes) → AreKept nodes → first_round part place ds nodes ≡ Ok after → Round ds nodes after
first_kept part place no_items nodes after kept h =
    let one : nodes ≡ after = cc in
    subst (λ (ns : Nodes). Round no_items nodes ns) one (record { kept = kept; grow = λ path x l. l; from = λ path x l. inr l })
first_kept part place (item d ds) nodes after kept h =
    one_node part place d ds nodes after (node_in d) refl (node_sound d) kept h (λ middle k r. first_kept part (place + 1) ds middle after k r)

-- the keys of a node are leaves of its own
abbrev pub HasKeys : Nodes → Names → Body → Type 0
HasKeys nodes path body = keys_fit path body.keys nodes ≡ true

pub checked_keys : (node : Stated) (nodes after : Nodes) → checked (Some node) nodes ≡ Ok after → HasKeys nodes node.path node.body × (nodes ≡ after)
checked_keys node nodes after h =
    let one = past (not (keys_there node.path node.body.keys nodes)) faults.NoKey _ after h in
    let two = past (not (keys_fit node.path node.body.keys nodes)) faults.KeyNotLeaf _ after one.1 in
    (not_false _ two.0, (cc))

-- the keys of what the items state
one_check : (part place : ℕ) (d : Data) (ds : Items) (nodes after : Nodes) (o : Option Stated) → node_in d ≡ o
    → (at_place part place (checked o nodes) >>= λ middle. second_round part (place + 1) ds middle) ≡ Ok after
    → ((middle : Nodes) → second_round part (place + 1) ds middle ≡ Ok after → (middle ≡ after) × ((path : Names) (body : Body) → IsStated ds path body → HasKeys middle path body))
    → (nodes ≡ after) × ((path : Names) (body : Body) → IsStated (item d ds) path body → HasKeys nodes path body)
one_check part place d ds nodes after None is h more =
    let rest = more nodes h in (
      rest.0,
      λ path body s. elim s [
        | inl w ↦ let bad : None ≡ Some w.0 = sym is ∙ w.1 in cc
        | inr w ↦ rest.1 path body w
      ],
    )
one_check part place d ds nodes after (Some node) is h more =
    elim (checked (Some node) nodes) as (λ r. checked (Some node) nodes ≡ r → (at_place part place r >>= λ middle. second_round part (place + 1) ds middle) ≡ Ok after
    → (nodes ≡ after) × ((path : Names) (body : Body) → IsStated (item d ds) path body → HasKeys nodes path body)) [
      | Err e ↦ λ ok k. cc
      | Ok middle ↦ λ ok k.
          let keys = checked_keys node nodes middle ok in
          let rest = more middle k in (
            keys.1 ∙ rest.0,
            λ path body s. elim s [
              | inl w ↦
                  let one : Some node ≡ Some w.0 = sym is ∙ w.1 in
                  let two : node ≡ w.0 = cc in
                  subst (λ (p : Names). HasKeys nodes p body) (ap (λ (s : Stated). s.path) two ∙ w.2)
                  (subst (λ (b : Body). HasKeys nodes node.path b) (ap (λ (s : Stated). s.body) two ∙ w.3) keys.0)
              | inr w ↦ subst (λ (ns : Nodes). HasKeys ns path body) (sym keys.1) (rest.1 path body w)
            ],
          )
    ] refl h

pub second_checked : (part place : ℕ) (ds : Items) (nodes after : Nodes) → second_round part place ds nodes ≡ Ok after
    → (nodes ≡ after) × ((path : Names) (body : Body) → IsStated ds path body → HasKeys nodes path body)
second_checked part place no_items nodes after h = let one : nodes ≡ after = cc in (one, λ path body s. absurd s)
second_checked part place (item d ds) nodes after h = one_check part place d ds nodes after (node_in d) refl h (λ middle r. second_checked part (place + 1) ds middle after r)

-- ---- the parts

keys_grow : (before after : Nodes) → Grows before after → (path keys : Names) → keys_fit path keys before ≡ true → keys_fit path keys after ≡ true
keys_grow before after grow path [] h = refl
keys_grow before after grow path (key ∷ keys) h =
    let both = and_parts (may_be_key (listed_at (path ++ key ∷ []) before)) (keys_fit path keys before) h in
    ap (λ t. t && keys_fit path keys after) (fit (listed_at (path ++ key ∷ []) before) refl both.0) ∙ keys_grow before after grow path keys both.1
  where
    fit : (o : Option Listed) → listed_at (path ++ key ∷ []) before ≡ o → may_be_key o ≡ true → may_be_key (listed_at (path ++ key ∷ []) after) ≡ true
    fit None is k = cc
    fit (Some node) is k = ap may_be_key (grow (path ++ key ∷ []) node is) ∙ k

-- what is so of the nodes after some parts
pub record AreNodes (nodes : Nodes) : Type 0 where
  pub kept : AreKept nodes
  pub keys : (path : Names) (node : Listed) → listed_at path nodes ≡ Some node → HasKeys nodes path node.body

part_kept : (part : ℕ) (o : Option Items) (nodes after : Nodes) → AreNodes nodes → part_in part o nodes ≡ Ok after → AreNodes after
part_kept part None nodes after are h = cc
part_kept part (Some ds) nodes after are h =
    elim (first_round part 0 ds nodes) as (λ r. first_round part 0 ds nodes ≡ r → (r >>= λ middle. second_round part 0 ds middle) ≡ Ok after → AreNodes after) [
      | Err e ↦ λ ok k. cc
      | Ok middle ↦ λ ok k.
          let round = first_kept part 0 ds nodes middle are.kept ok in
          let check = second_checked part 0 ds middle after k in
          subst AreNodes check.0 (record {
            kept = round.kept;
            keys = λ path node l. elim (round.from path node l) [
              | inl w ↦ check.1 path node.body w
              | inr w ↦ keys_grow nodes middle round.grow path node.body.keys (are.keys path node w)
            ];
          })
    ] refl h

pub parts_kept : (part : ℕ) (ds : List Data) (nodes after : Nodes) → AreNodes nodes → parts_in part ds nodes ≡ Ok after → AreNodes after
parts_kept part [] nodes after are h = let one : nodes ≡ after = cc in subst AreNodes one are
parts_kept part (d ∷ ds) nodes after are h =
    elim (part_in part (as_array d) nodes) as (λ r. part_in part (as_array d) nodes ≡ r → (r >>= λ middle. parts_in (part + 1) ds middle) ≡ Ok after → AreNodes after) [
      | Err e ↦ λ ok k. cc
      | Ok middle ↦ λ ok k. parts_kept (part + 1) ds middle after (part_kept part (as_array d) nodes middle are ok) k
    ] refl h

pub no_nodes : AreNodes []
no_nodes = record { kept = record { rising = tt; few = omega arith; each = λ path node h. cc }; keys = λ path node h. cc }
