use Rattle.std.proofs.Common.{◌≡◌, ℕ, zero, suc, ◌<◌, ◌+◌, ◌==◌, List, [], ◌∷◌, ◌++◌, length, get_or, Bool, true, false, ◌||◌, cond, refl, sym, ap, subst, ◌∙◌, ◌⊎◌, inl, inr, ⊎_elim, arith, length-append, Option, Some, None}
use Rattle.std.specs.List.{position_or_len, before_first, after_first}
use Rattle.std.proofs.lemmas.Bool.{cond-true, cond-false, cases_Bool, and_from, or_left, or_right, and_parts}
use Rattle.yp_base.specs.PathLaws.{numbers_same, texts_same, texts_told}
use Rattle.yp_base.specs.Types.{same_text}
use Rattle.yp_schema.specs.declared.schema.SchemaNode.{SchemaNode}
use Rattle.yp_base.specs.Paths.{same_number}
use Rattle.yp_schema.specs.Nodes.{node_at, no_node, is_child, place_from, child_of, qualified_name}
use Rattle.yp_schema.specs.WellFormed.{IsSchema, is_at_home}
use Rattle.yp_path.specs.NameLaws.{placed}
use Rattle.yp_path.specs.Names.{is_named, child_named, with_name, own_child}
use Rattle.yp_path.specs.StepLaws.{some_same}
use Rattle.yp_path.proofs.Free.{position_free, before_mark, after_mark, position_inside, free_name}
use Rattle.yp_names.specs.NameLaws.{colon_found}

-- ---- the first place of a test

module _ {X : Type 0} (test : X → Bool) (d : X) where
  none_at : (b : Bool) (x : X) (xs : List X) (from k : ℕ) → test x ≡ b → cond b (Some from) (place_from test (from + 1) xs) ≡ None
      → (place_from test (from + 1) xs ≡ None → (k : ℕ) → k < length xs → test (get_or xs k d) ≡ false) → k < length (x ∷ xs) → test (get_or (x ∷ xs) k d) ≡ false
  none_at true x xs from k is e later h = cc
  none_at false x xs from zero is e later h = is
  none_at false x xs from (suc k) is e later h = later e k (omega (arith, h))

  pub not_placed : (xs : List X) (from : ℕ) → place_from test from xs ≡ None → (k : ℕ) → k < length xs → test (get_or xs k d) ≡ false
  not_placed [] from e k h = absurd (omega (arith, h))
  not_placed (x ∷ xs) from e k h = none_at (test x) x xs from k refl e (not_placed xs (from + 1)) h

  -- a look-up that answers a place where the test holds, and each such place, is the first place
  same_at : (xs : List X) (p o : Option ℕ) → place_from test 0 xs ≡ p → ((n : ℕ) → o ≡ Some n → (n < length xs) × (test (get_or xs n d) ≡ true))
      → ((n : ℕ) → n < length xs → test (get_or xs n d) ≡ true → o ≡ Some n) → o ≡ p
  same_at xs (Some m) o is sound complete =
      let at = placed test d xs 0 m is in
      let same : at.0 ≡ m = omega (arith, at.1.0) in
      complete at.0 at.1.1 at.1.2 ∙ ap (λ k. Some k) same
  same_at xs None None is sound complete = refl
  same_at xs None (Some n) is sound complete =
      let here = sound n refl in
      let no = not_placed xs 0 is n here.0 in
      let wrong : false ≡ true = sym no ∙ here.1 in
      cc

  pub same_place : (xs : List X) (o : Option ℕ) → ((n : ℕ) → o ≡ Some n → (n < length xs) × (test (get_or xs n d) ≡ true))
      → ((n : ℕ) → n < length xs → test (get_or xs n d) ≡ true → o ≡ Some n) → o ≡ place_from test 0 xs
  same_place xs o sound complete = same_at xs (place_from test 0 xs) o refl sound complete

-- ---- children

abbrev IsChildAt : List SchemaNode → Option ℕ → List ℕ → ℕ → Type 0
IsChildAt nodes parent name n = (n < length nodes) × (same_number (node_at n nodes).parent parent ≡ true) × ((node_at n nodes).member ≡ name)

pub child_sound : (nodes : List SchemaNode) (parent : Option ℕ) (name : List ℕ) (n : ℕ) → child_of parent name nodes ≡ Some n → IsChildAt nodes parent name n
child_sound nodes parent name n e =
    let at = placed (is_child parent name) no_node nodes 0 n e in
    let same : at.0 ≡ n = omega (arith, at.1.0) in
    let P : ℕ → Type 0 = λ k. (k < length nodes) × (is_child parent name (node_at k nodes) ≡ true) in
    let here : P n = subst P same (at.1.1, at.1.2) in
    let parts = and_parts _ _ here.1 in
    (here.0, parts.0, texts_same _ _ parts.1)

pub child_complete : (nodes : List SchemaNode) (parent : Option ℕ) (name : List ℕ) (n : ℕ) → IsSchema nodes → n < length nodes → same_number (node_at n nodes).parent parent ≡ true → (node_at n nodes).member ≡ name → child_of parent name nodes ≡ Some n
child_complete nodes parent name n schema h p m =
    ap (λ q. child_of q name nodes) (sym (numbers_same _ _ p)) ∙ ap (λ t. child_of (node_at n nodes).parent t nodes) (sym m) ∙ (schema.each n h).found

-- ---- one look-up finds the child that is named

named_by_member : (nodes : List SchemaNode) (parent : Option ℕ) (name : List ℕ) (n : ℕ) → IsChildAt nodes parent name n → (n < length nodes) × (is_named parent name (node_at n nodes) ≡ true)
named_by_member nodes parent name n (h, p, m) = (h, and_from _ _ p (or_left _ _ (texts_told _ _ m)))

abbrev IsColon : ℕ → Bool
IsColon b = b == 58

-- the two ways to be named
pub named_ways : (nodes : List SchemaNode) (parent : Option ℕ) (name : List ℕ) (n : ℕ) → is_named parent name (node_at n nodes) ≡ true
    → (same_number (node_at n nodes).parent parent ≡ true) × (((node_at n nodes).member ≡ name) ⊎ (qualified_name (node_at n nodes) ≡ name))
named_ways nodes parent name n e =
    let parts = and_parts _ _ e in
    let node = node_at n nodes in
    (parts.0, ⊎_elim (λ t. inl (texts_same _ _ t)) (λ f. inr (texts_same _ _ (sym (ap (λ b. b || same_text (qualified_name node) name) f) ∙ parts.1))) (cases_Bool (same_text node.member name)))

pub named_bare : (nodes : List SchemaNode) (parent : Option ℕ) (name : List ℕ) → IsSchema nodes → position_or_len (λ b. b == 58) name ≡ length name
    → child_of parent name nodes ≡ child_named parent name nodes
named_bare nodes parent name schema bare =
    same_place (is_named parent name) no_node nodes (child_of parent name nodes)
    (λ n e. named_by_member nodes parent name n (child_sound nodes parent name n e))
    (λ n h e.
    let ways = named_ways nodes parent name n e in
    let node = node_at n nodes in
    ⊎_elim (λ m. child_complete nodes parent name n schema h ways.0 m)
    (λ q. let inside = position_inside 58 node.home node.name in let P : List ℕ → Type 0 = λ t. position_or_len (λ b. b == 58) t < length t in let less = subst P q inside in absurd (omega (arith, bare, less)))
    ways.1)

-- what a qualified name has before and behind its colon
module _ (nodes : List SchemaNode) (schema : IsSchema nodes) (n : ℕ) (h : n < length nodes) (name : List ℕ) (q : qualified_name (node_at n nodes) ≡ name) where
  home_before : before_first (λ b. b == 58) name ≡ (node_at n nodes).home
  home_before = ap (λ t. before_first (λ b. b == 58) t) (sym q) ∙ before_mark 58 (node_at n nodes).home (node_at n nodes).name (free_name 58 (node_at n nodes).home refl (schema.each n h).module_name)

  name_after : after_first (λ b. b == 58) name ≡ (node_at n nodes).name
  name_after = ap (λ t. after_first (λ b. b == 58) t) (sym q) ∙ after_mark 58 (node_at n nodes).home (node_at n nodes).name (free_name 58 (node_at n nodes).home refl (schema.each n h).module_name)

pub form_elsewhere : (nodes : List SchemaNode) (schema : IsSchema nodes) (n : ℕ) → n < length nodes → is_at_home (node_at n nodes).parent (node_at n nodes).home nodes ≡ false → (node_at n nodes).member ≡ qualified_name (node_at n nodes)
form_elsewhere nodes schema n h e = (schema.each n h).form ∙ cond-false _ _ _ e

pub form_at_home : (nodes : List SchemaNode) (schema : IsSchema nodes) (n : ℕ) → n < length nodes → is_at_home (node_at n nodes).parent (node_at n nodes).home nodes ≡ true → (node_at n nodes).member ≡ (node_at n nodes).name
form_at_home nodes schema n h e = (schema.each n h).form ∙ cond-true _ _ _ e

-- whether the module named is the parent's, said of the node
home_same : (nodes : List SchemaNode) (n : ℕ) (parent : Option ℕ) (home : List ℕ) → same_number (node_at n nodes).parent parent ≡ true → home ≡ (node_at n nodes).home
    → is_at_home (node_at n nodes).parent (node_at n nodes).home nodes ≡ is_at_home parent home nodes
home_same nodes n parent home p e = ap (λ q. is_at_home q (node_at n nodes).home nodes) (numbers_same _ _ p) ∙ ap (λ t. is_at_home parent t nodes) (sym e)

pub named_elsewhere : (nodes : List SchemaNode) (parent : Option ℕ) (name : List ℕ) → IsSchema nodes → is_at_home parent (before_first (λ b. b == 58) name) nodes ≡ false
    → child_of parent name nodes ≡ child_named parent name nodes
named_elsewhere nodes parent name schema away =
    same_place (is_named parent name) no_node nodes (child_of parent name nodes)
    (λ n e. named_by_member nodes parent name n (child_sound nodes parent name n e))
    (λ n h e.
    let ways = named_ways nodes parent name n e in
    ⊎_elim (λ m. child_complete nodes parent name n schema h ways.0 m)
    (λ q. child_complete nodes parent name n schema h ways.0 (form_elsewhere nodes schema n h (home_same nodes n parent _ ways.0 (home_before nodes schema n h name q) ∙ away) ∙ q))
    ways.1)

one_home : (nodes : List SchemaNode) (parent : Option ℕ) (a b : List ℕ) → is_at_home parent a nodes ≡ true → is_at_home parent b nodes ≡ true → a ≡ b
one_home nodes None a b e f = let wrong : false ≡ true = e in cc
one_home nodes (Some p) a b e f = sym (texts_same _ _ e) ∙ texts_same _ _ f

-- a text is not its own end behind more
no_end : (xs ys : List ℕ) → xs ++ 58 ∷ ys ≡ ys → ⊥
no_end xs ys e = let long = length-append xs (58 ∷ ys) in let same = ap (λ (l : List ℕ). length l) e in omega (arith, long, same)

own_sound : (nodes : List SchemaNode) (parent : Option ℕ) (name : List ℕ) (o : Option ℕ) (n : ℕ) → o ≡ child_of parent name nodes → with_name name nodes o ≡ Some n → IsChildAt nodes parent name n × ((node_at n nodes).name ≡ name)
own_sound nodes parent name None n is e = cc
own_sound nodes parent name (Some k) n is e = own_at nodes parent name k n (same_text (node_at k nodes).name name) refl (sym is) e
  where
    own_at : (nodes : List SchemaNode) (parent : Option ℕ) (name : List ℕ) (k n : ℕ) (b : Bool) → same_text (node_at k nodes).name name ≡ b → child_of parent name nodes ≡ Some k → cond b (Some k) None ≡ Some n → IsChildAt nodes parent name n × ((node_at n nodes).name ≡ name)
    own_at nodes parent name k n true same is e =
        let P : ℕ → Type 0 = λ j. IsChildAt nodes parent name j × ((node_at j nodes).name ≡ name) in
        subst P (some_same k n e) (child_sound nodes parent name k is, texts_same _ _ same)
    own_at nodes parent name k n false same is e = cc

own_complete : (nodes : List SchemaNode) (parent : Option ℕ) (name : List ℕ) (n : ℕ) → child_of parent name nodes ≡ Some n → (node_at n nodes).name ≡ name → own_child parent name nodes ≡ Some n
own_complete nodes parent name n e same = ap (with_name name nodes) e ∙ cond-true _ _ _ (texts_told _ _ same)

pub named_at_home : (nodes : List SchemaNode) (parent : Option ℕ) (name : List ℕ) → IsSchema nodes → position_or_len (λ b. b == 58) name < length name → is_at_home parent (before_first (λ b. b == 58) name) nodes ≡ true
    → own_child parent (after_first (λ b. b == 58) name) nodes ≡ child_named parent name nodes
named_at_home nodes parent name schema inside home =
    same_place (is_named parent name) no_node nodes (own_child parent own nodes) sound complete
  where
    p : ℕ → Bool
    p b = b == 58

    own : List ℕ
    own = after_first (λ b. b == 58) name

    sound : (n : ℕ) → own_child parent own nodes ≡ Some n → (n < length nodes) × (is_named parent name (node_at n nodes) ≡ true)
    sound n e =
        let found = own_sound nodes parent own (child_of parent own nodes) n refl e in
        let node = node_at n nodes in
        let same_home : node.home ≡ before_first p name =
        ⊎_elim
        (λ t. one_home nodes parent node.home (before_first p name) (sym (home_same nodes n parent node.home found.0.1 refl) ∙ t) home)
        (λ f. absurd (no_end node.home node.name (sym (form_elsewhere nodes schema n found.0.0 f) ∙ found.0.2 ∙ sym found.1)))
        (cases_Bool (is_at_home node.parent node.home nodes)) in
        let same : qualified_name node ≡ name = ap (λ t. t ++ 58 ∷ node.name) same_home ∙ ap (λ t. before_first p name ++ 58 ∷ t) found.1 ∙ sym (colon_found name inside) in
        (found.0.0, and_from _ _ found.0.1 (or_right _ _ (texts_told _ _ same)))

    by_qualified : (n : ℕ) → n < length nodes → same_number (node_at n nodes).parent parent ≡ true → qualified_name (node_at n nodes) ≡ name → own_child parent own nodes ≡ Some n
    by_qualified n h up q =
        let before = home_before nodes schema n h name q in
        let behind = name_after nodes schema n h name q in
        let form = form_at_home nodes schema n h (home_same nodes n parent _ up before ∙ home) in
        own_complete nodes parent own n (child_complete nodes parent own n schema h up (form ∙ sym behind)) (sym behind)

    complete : (n : ℕ) → n < length nodes → is_named parent name (node_at n nodes) ≡ true → own_child parent own nodes ≡ Some n
    complete n h e =
        let ways = named_ways nodes parent name n e in
        let node = node_at n nodes in
        ⊎_elim
        (λ m. ⊎_elim
        (λ t.
        let same : node.name ≡ name = sym (form_at_home nodes schema n h t) ∙ m in
        let free = position_free 58 node.name (free_name 58 node.name refl (schema.each n h).node_name) in
        let P : List ℕ → Type 0 = λ l. position_or_len p l ≡ length l in
        let all = subst P same free in
        absurd (omega (arith, all, inside)))
        (λ f. by_qualified n h ways.0 (sym (form_elsewhere nodes schema n h f) ∙ m))
        (cases_Bool (is_at_home node.parent node.home nodes)))
        (λ q. by_qualified n h ways.0 q)
        ways.1
