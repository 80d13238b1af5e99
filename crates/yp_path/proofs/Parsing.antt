-- A text that is read as a rule path is of the grammar.
use Rattle.std.proofs.Common.{◌≡◌, ◌↔◌, ℕ, suc, ◌<◌, ◌+◌, ◌==◌, List, [], ◌∷◌, ◌++◌, length, take, Bool, true, false, ◌&&◌, ◌||◌, cond, inl, inr, ⊎_elim, refl, sym, ap, subst, ◌∙◌, arith, append_assoc, append-nil, Option, Some, None, option_map, option_and_then, Ok, nat_lt, codes}
use Rattle.std.specs.List.{position_or_len, before_first, after_first}
use Rattle.std.proofs.lemmas.Bool.{cond-true, cond-false, cases_Bool, eqb-true, ltb-true, ltb-false, and_parts}
use Rattle.std.proofs.lemmas.List.{take_all}
use Rattle.std.proofs.lemmas.List.Sums.{split_at_first, passes_at_first}
use Rattle.yp_base.specs.PathLaws.{texts_same}
use Rattle.yp_base.specs.declared.rule_path.RuleSeg.{RuleSeg}
use Rattle.yp_schema.specs.declared.schema.SchemaNode.{SchemaNode}
use Rattle.yp_schema.specs.Nodes.{node_at, qualified_name}
use Rattle.yp_names.specs.Names.{is_identifier}
use Rattle.yp_schema.specs.WellFormed.{IsSchema, is_empty, is_at_home}
use Rattle.yp_base.specs.Types.{same_text}
use Rattle.yp_path.specs.declared.fault.PathFault.TheVariants.{Syntax, UnknownNode, KeyCount, KeyValue}
use Rattle.yp_path.specs.declared.mark.Place.{Place}
use Rattle.yp_path.specs.declared.mark.Place.TheVariants.{Outside, Within}
use Rattle.yp_path.specs.declared.predicate.Predicate.{Predicate}
use Rattle.yp_base.specs.Cuts.{onto_first}
use Rattle.yp_path.specs.Grammar.{IsNodeName, IsKeyName, is_free, spaces, spaced, quoted, IsQuote, IsPredicate, ArePredicates, RulePart, IsSegment, AreSegments, IsRuleText}
use Rattle.yp_path.specs.Names.{child_named}
use Rattle.yp_base.specs.Results.{◌>>=◌, or_fault}
use Rattle.yp_path.specs.RulePaths.{is_quote, next_place, is_unquoted, pieces, opened, bodies, all_bodies, without_spaces, are_spaces, around, name_in, closed, quoted_value, predicate_in, predicates_in, predicates_behind, is_bracket, predicates_of, node_named, among, key_named, is_new, each_once, rule_keys, with_predicates, rule_part_in, rule_parts_in, rule_segment_in, rule_segments_in, rule_path_in}
use Rattle.yp_path.specs.Targets.{some_name, asked}
use Rattle.yp_path.specs.NameLaws.{named_at}
use Rattle.yp_path.proofs.Names.{named_ways, form_elsewhere, form_at_home}
use Rattle.yp_path.proofs.Passing.{text_read}
use Rattle.yp_path.proofs.Predicates.{Cut, some_pieces}
use Rattle.yp_path.specs.StepLaws.{step_ok, there, and_then_some, map_some, some_same, cond_some, cond_ok}

-- ---- cut texts, put together again

abbrev pub without_first : List ℕ → List ℕ
without_first [] = []
without_first (b ∷ bs) = bs

-- pieces, each after a mark
abbrev pub marked : ℕ → List (List ℕ) → List ℕ
marked mark [] = []
marked mark (piece ∷ more) = mark ∷ (piece ++ marked mark more)

pub marked_onto : (mark b : ℕ) (bs : List ℕ) (l : List (List ℕ)) → Cut l → marked mark l ≡ mark ∷ bs → marked mark (onto_first b l) ≡ mark ∷ b ∷ bs
marked_onto mark b bs l (piece, (more, e)) h =
    let rest : piece ++ marked mark more ≡ bs = ap without_first (sym (ap (marked mark) e) ∙ h) in
    ap (λ x. marked mark (onto_first b x)) e ∙ ap (λ x. mark ∷ b ∷ x) rest

joined_at : (mark : ℕ) (place : Place) (b : ℕ) (bs : List ℕ) (t : Bool) → (b == mark && is_unquoted place) ≡ t → marked mark (pieces mark Outside bs) ≡ mark ∷ bs
    → marked mark (pieces mark (next_place place b) bs) ≡ mark ∷ bs → marked mark (cond t ([] ∷ pieces mark Outside bs) (onto_first b (pieces mark (next_place place b) bs))) ≡ mark ∷ b ∷ bs
joined_at mark place b bs true e outside on = ap (λ l. mark ∷ l) (outside ∙ ap (λ c. c ∷ bs) (sym (eqb-true b mark (and_parts _ _ e).0)))
joined_at mark place b bs false e outside on = marked_onto mark b bs (pieces mark (next_place place b) bs) (some_pieces mark (next_place place b) bs) on

pieces_joined : (mark : ℕ) (place : Place) (bs : List ℕ) → marked mark (pieces mark place bs) ≡ mark ∷ bs
pieces_joined mark place [] = refl
pieces_joined mark place (b ∷ bs) = joined_at mark place b bs (b == mark && is_unquoted place) refl (pieces_joined mark Outside bs) (pieces_joined mark (next_place place b) bs)

-- bodies, each in brackets
abbrev bracketed : List (List ℕ) → List ℕ
bracketed [] = []
bracketed (body ∷ more) = 91 ∷ (body ++ 93 ∷ bracketed more)

opened_is : (b : ℕ) (bs next : List ℕ) → opened (b ∷ bs) ≡ Some next → b ∷ bs ≡ 91 ∷ next
opened_is b bs next e =
    let parts = cond_some (b == 91) (Some bs) next e in
    ap (λ c. c ∷ bs) (eqb-true b 91 parts.0) ∙ ap (λ l. 91 ∷ l) (some_same bs next parts.1)

bodies_joined : (body : List ℕ) (l all : List (List ℕ)) → bodies body l ≡ Some all → 91 ∷ (body ++ marked 93 l) ≡ bracketed all
bodies_joined body [] all e = cc
bodies_joined body ([] ∷ []) all e = ap bracketed (some_same (body ∷ []) all e)
bodies_joined body ([] ∷ (piece ∷ more)) all e = cc
bodies_joined body ((b ∷ bs) ∷ more) all e =
    let others = map_some (option_and_then (λ next. bodies next more) (opened (b ∷ bs))) (λ (others : List (List ℕ)). body ∷ others) all e in
    let next = and_then_some (opened (b ∷ bs)) (λ next. bodies next more) others.0 others.1.0 in
    ap (λ l. 91 ∷ (body ++ 93 ∷ (l ++ marked 93 more))) (opened_is b bs next.0 next.1.0)
    ∙ ap (λ l. 91 ∷ (body ++ 93 ∷ l)) (bodies_joined next.0 more others.0 next.1.1)
    ∙ ap bracketed others.1.1

-- ---- what stands around a mark

free_at : (mark b : ℕ) (bs : List ℕ) (t : Bool) → (b == mark) ≡ t → is_free mark (before_first (λ b. b == mark) bs) ≡ true → is_free mark (before_first (λ b. b == mark) (b ∷ bs)) ≡ true
free_at mark b bs true is later =
    let none : position_or_len (λ b. b == mark) (b ∷ bs) ≡ 0 = rw is refl in
    ap (λ n. is_free mark (take n (b ∷ bs))) none
free_at mark b bs false is later =
    let p = position_or_len (λ b. b == mark) bs in
    let one : position_or_len (λ b. b == mark) (b ∷ bs) ≡ 1 + p = rw is refl in
    let next : 1 + p ≡ suc p = omega arith in
    let first : before_first (λ b. b == mark) (b ∷ bs) ≡ b ∷ take p bs = ap (λ n. take n (b ∷ bs)) (one ∙ next) in
    ap (is_free mark) first ∙ rw (is, later) refl

pub free_before : (mark : ℕ) (bs : List ℕ) → is_free mark (before_first (λ b. b == mark) bs) ≡ true
free_before mark [] = refl
free_before mark (b ∷ bs) = free_at mark b bs (b == mark) refl (free_before mark bs)

pub split_is : (mark : ℕ) (bs : List ℕ) → nat_lt (position_or_len (λ b. b == mark) bs) (length bs) ≡ true → bs ≡ before_first (λ b. b == mark) bs ++ mark ∷ after_first (λ b. b == mark) bs
split_is mark bs inside =
    let p : ℕ → Bool = λ b. b == mark in
    let h = ltb-true _ _ inside in
    split_at_first p bs 0 h ∙ ap (λ b. before_first p bs ++ b ∷ after_first p bs) (eqb-true _ _ (passes_at_first p bs 0 h))

pub whole_is : (mark : ℕ) (bs : List ℕ) → nat_lt (position_or_len (λ b. b == mark) bs) (length bs) ≡ false → before_first (λ b. b == mark) bs ≡ bs
whole_is mark bs outside = take_all (position_or_len (λ b. b == mark) bs) bs (ltb-false _ _ outside)

around_is : (mark : ℕ) (bs before after : List ℕ) → around mark bs ≡ Some (before, after) → (bs ≡ before ++ mark ∷ after) × (is_free mark before ≡ true)
around_is mark bs before after e =
    let p : ℕ → Bool = λ b. b == mark in
    let parts = cond_some (nat_lt (position_or_len p bs) (length bs)) (Some (before_first p bs, after_first p bs)) (before, after) e in
    let same = some_same (before_first p bs, after_first p bs) (before, after) parts.1 in
    let first : before_first p bs ≡ before = ap (λ x. x.0) same in
    let last : after_first p bs ≡ after = ap (λ x. x.1) same in
    (split_is mark bs parts.0 ∙ ap (λ l. l ++ mark ∷ after_first p bs) first ∙ ap (λ l. before ++ mark ∷ l) last, ap (is_free mark) (sym first) ∙ free_before mark bs)

-- ---- spaces

spaces_at : (b : ℕ) (bs : List ℕ) (t : Bool) → (b == 32) ≡ t → (n : ℕ) × (bs ≡ spaces n ++ without_spaces bs) → (n : ℕ) × (b ∷ bs ≡ spaces n ++ cond t (without_spaces bs) (b ∷ bs))
spaces_at b bs true is (n, e) = (suc n, ap (λ c. c ∷ bs) (eqb-true b 32 is) ∙ ap (λ l. 32 ∷ l) e)
spaces_at b bs false is later = (0, refl)

-- a text is its spaces, and what stands after them
spaces_before : (bs : List ℕ) → (n : ℕ) × (bs ≡ spaces n ++ without_spaces bs)
spaces_before [] = (0, refl)
spaces_before (b ∷ bs) = spaces_at b bs (b == 32) refl (spaces_before bs)

spaces_are : (bs : List ℕ) → are_spaces bs ≡ true → (n : ℕ) × (bs ≡ spaces n)
spaces_are bs e =
    let parts = spaces_before bs in
    (parts.0, parts.1 ∙ ap (λ l. spaces parts.0 ++ l) (nothing (without_spaces bs) e) ∙ append-nil (spaces parts.0))
  where
    nothing : (l : List ℕ) → is_empty l ≡ true → l ≡ []
    nothing [] e = refl
    nothing (b ∷ bs) e = let wrong : false ≡ true = e in cc

pub some_is : (text name : List ℕ) → some_name text ≡ Some name → text ≡ name
some_is [] name e = cc
some_is (b ∷ bs) name e = some_same (b ∷ bs) name e

name_is : (bs name : List ℕ) → name_in bs ≡ Some name → (n : ℕ) × (bs ≡ name ++ spaces n)
name_is bs name e =
    let p : ℕ → Bool = λ b. b == 32 in
    let parts = cond_some (are_spaces (after_first p bs)) (some_name (before_first p bs)) name e in
    let first = some_is (before_first p bs) name parts.1 in
    let last = spaces_are (after_first p bs) parts.0 in
    ⊎_elim
    (λ inside. (suc last.0, split_is 32 bs inside ∙ ap (λ l. l ++ 32 ∷ after_first p bs) first ∙ ap (λ l. name ++ 32 ∷ l) last.1))
    (λ outside. (0, sym (whole_is 32 bs outside) ∙ first ∙ sym (append-nil name)))
    (cases_Bool (nat_lt (position_or_len p bs) (length bs)))

-- ---- values

quote_of : (b : ℕ) → is_quote b ≡ true → IsQuote b
quote_of b e = ⊎_elim (λ t. inl (eqb-true b 39 t)) (λ f. inr (eqb-true b 34 (sym (ap (λ x. x || b == 34) f) ∙ e))) (cases_Bool (b == 39))

abbrev Quoting : List ℕ → List ℕ → Type 0
Quoting bs value = (quote : ℕ) × ((n : ℕ) × ((bs ≡ quoted quote value ++ spaces n) × IsQuote quote × (is_free quote value ≡ true)))

value_is : (bs value : List ℕ) → quoted_value bs ≡ Some value → Quoting bs value
value_is [] value e = cc
value_is (quote ∷ bs) value e =
    let parts = cond_some (is_quote quote) (closed quote bs) value e in
    let both_sides = and_then_some (around quote bs) (λ (value, rest). cond (are_spaces rest) (Some value) None) value parts.1 in
    let ends = cond_some (are_spaces both_sides.0.1) (Some both_sides.0.0) value both_sides.1.1 in
    let is = around_is quote bs both_sides.0.0 both_sides.0.1 both_sides.1.0 in
    let same = some_same both_sides.0.0 value ends.1 in
    let last = spaces_are both_sides.0.1 ends.0 in (
      quote,
      (
        last.0,
        (
          ap (λ l. quote ∷ l) (is.0 ∙ ap (λ l. l ++ quote ∷ both_sides.0.1) same ∙ ap (λ l. value ++ quote ∷ l) last.1 ∙ sym (append_assoc value (quote ∷ []) (spaces last.0))),
          quote_of quote parts.0,
          ap (is_free quote) (sym same) ∙ is.1,
        ),
      ),
    )

-- ---- predicates

predicate_is : (body : List ℕ) (predicate : Predicate) → predicate_in body ≡ Some predicate → IsKeyName predicate.name → IsPredicate (91 ∷ (body ++ 93 ∷ [])) predicate
predicate_is body predicate e named =
    let sides = and_then_some (around 61 body) (λ (front, back). option_and_then (λ name. option_map (λ value. made name value) (quoted_value (without_spaces back))) (name_in (without_spaces front))) predicate e in
    let front = sides.0.0 in
    let back = sides.0.1 in
    let name = and_then_some (name_in (without_spaces front)) (λ name. option_map (λ value. made name value) (quoted_value (without_spaces back))) predicate sides.1.1 in
    let value = map_some (quoted_value (without_spaces back)) (λ value. made name.0 value) predicate name.1.1 in
    let whole = around_is 61 body front back sides.1.0 in
    let first = spaces_before front in
    let after = name_is (without_spaces front) name.0 name.1.0 in
    let next = spaces_before back in
    let quoting = value_is (without_spaces back) value.0 value.1.0 in
    let front_is : front ≡ spaced first.0 name.0 after.0 = first.1 ∙ ap (λ l. spaces first.0 ++ l) after.1 in
    let back_is : back ≡ spaced next.0 (quoted quoting.0 value.0) quoting.1.0 = next.1 ∙ ap (λ l. spaces next.0 ++ l) quoting.1.1.0 in
    let text_is : 91 ∷ (body ++ 93 ∷ []) ≡ 91 ∷ (spaced first.0 name.0 after.0 ++ (61 ∷ (spaced next.0 (quoted quoting.0 value.0) quoting.1.0 ++ (93 ∷ [])))) =
    ap (λ l. 91 ∷ (l ++ 93 ∷ [])) whole.0 ∙ ap (λ l. 91 ∷ l) (append_assoc front (61 ∷ back) (93 ∷ []))
    ∙ ap (λ l. 91 ∷ (l ++ (61 ∷ (back ++ 93 ∷ [])))) front_is ∙ ap (λ l. 91 ∷ (spaced first.0 name.0 after.0 ++ (61 ∷ (l ++ 93 ∷ [])))) back_is in
    let key : IsKeyName name.0 = subst IsKeyName (sym (ap (λ (p : Predicate). p.name) value.1.1)) named in
    let written : IsPredicate (91 ∷ (body ++ 93 ∷ [])) (made name.0 value.0) =
    record { before_name = first.0; after_name = after.0; quote = quoting.0; before_value = next.0; after_value = quoting.1.0; written = text_is; names = key; quotes = quoting.1.1.1; value = quoting.1.1.2 } in
    subst (λ (p : Predicate). IsPredicate (91 ∷ (body ++ 93 ∷ [])) p) value.1.1 written
  where
    made : List ℕ → List ℕ → Predicate
    made name value = record { name = name; value = value }

abbrev AreNamed : List Predicate → Type 0
AreNamed [] = Unit {0}
AreNamed (predicate ∷ others) = IsKeyName predicate.name × AreNamed others

predicates_are : (all : List (List ℕ)) (predicates : List Predicate) → predicates_in all ≡ Some predicates → AreNamed predicates → ArePredicates (bracketed all) predicates
predicates_are [] predicates e named = subst (ArePredicates []) (some_same [] predicates e) refl
predicates_are (body ∷ others) predicates e named =
    let first = and_then_some (predicate_in body) (λ predicate. option_map (λ more. predicate ∷ more) (predicates_in others)) predicates e in
    let rest = map_some (predicates_in others) (λ (more : List Predicate). first.0 ∷ more) predicates first.1.1 in
    let names : AreNamed (first.0 ∷ rest.0) = subst AreNamed (sym rest.1.1) named in
    let here : ArePredicates (bracketed (body ∷ others)) (first.0 ∷ rest.0) = (
      91 ∷ (body ++ 93 ∷ []),
      (
        bracketed others,
        (
          ap (λ l. 91 ∷ l) (sym (append_assoc body (93 ∷ []) (bracketed others))),
          predicate_is body first.0 first.1.0 names.0,
          predicates_are others rest.0 rest.1.0 names.1,
        ),
      ),
    ) in
    subst (ArePredicates (bracketed (body ∷ others))) rest.1.1 here

behind_are : (text : List ℕ) (predicates : List Predicate) → predicates_behind text ≡ Some predicates → AreNamed predicates → ArePredicates (91 ∷ text) predicates
behind_are text predicates e named =
    let all = and_then_some (all_bodies (pieces 93 Within text)) predicates_in predicates e in
    let cut = some_pieces 93 Within text in
    let joined : bodies cut.0 cut.1.0 ≡ Some all.0 = sym (ap all_bodies cut.1.1) ∙ all.1.0 in
    let whole : cut.0 ++ marked 93 cut.1.0 ≡ text = ap without_first (sym (ap (marked 93) cut.1.1) ∙ pieces_joined 93 Within text) in
    let is : bracketed all.0 ≡ 91 ∷ text = sym (bodies_joined cut.0 cut.1.0 all.0 joined) ∙ ap (λ l. 91 ∷ l) whole in
    subst (λ l. ArePredicates l predicates) is (predicates_are all.0 predicates all.1.1 named)

-- ---- names of a schema

module _ (nodes : List SchemaNode) (schema : IsSchema nodes) where
  qualified_is : (n : ℕ) (name : List ℕ) → n < length nodes → qualified_name (node_at n nodes) ≡ name → IsNodeName name
  qualified_is n name h e =
      let node = node_at n nodes in
      inr (record { home = node.home; name = node.name; written = sym e; homes = (and_parts _ _ (schema.each n h).module_name).0; names = (and_parts _ _ (schema.each n h).node_name).0 })

  member_is : (n : ℕ) (name : List ℕ) → n < length nodes → (node_at n nodes).member ≡ name → IsNodeName name
  member_is n name h e =
      let node = node_at n nodes in
      ⊎_elim
      (λ t. inl (ap is_identifier (sym e ∙ form_at_home nodes schema n h t) ∙ (and_parts _ _ (schema.each n h).node_name).0))
      (λ f. qualified_is n name h (sym (form_elsewhere nodes schema n h f) ∙ e))
      (cases_Bool (is_at_home node.parent node.home nodes))

  pub node_name_is : (parent : Option ℕ) (name : List ℕ) (n : ℕ) → child_named parent name nodes ≡ Some n → IsNodeName name
  node_name_is parent name n e =
      let at = named_at nodes parent name n e in
      ⊎_elim (member_is n name at.0) (qualified_is n name at.0) (named_ways nodes parent name n at.1).1

  among_is : (ks : List ℕ) (o : Option ℕ) (k : ℕ) → among ks o ≡ Some k → (j : ℕ) × (o ≡ Some j)
  among_is ks None k e = cc
  among_is ks (Some j) k e = (j, refl)

  key_name_is : (n : ℕ) (ks : List ℕ) (name : List ℕ) (k : ℕ) → key_named nodes n ks name ≡ Some k → IsKeyName name
  key_name_is n ks name k e =
      let found = among_is ks (node_named nodes n name) k e in
      ⊎_elim
      (λ t. inr (texts_same name (codes ".") t))
      (λ f. inl (node_name_is (Some n) name found.0 (sym (cond-false _ _ _ f) ∙ found.1)))
      (cases_Bool (same_text name (codes ".")))

  new_is : (n : ℕ) (ks : List ℕ) (others : List Predicate) (o : Option ℕ) → is_new nodes n ks others o ≡ true → (k : ℕ) × (o ≡ Some k)
  new_is n ks others None e = let wrong : false ≡ true = e in cc
  new_is n ks others (Some k) e = (k, refl)

  once_named : (n : ℕ) (ks : List ℕ) (predicates : List Predicate) → each_once nodes n ks predicates ≡ true → AreNamed predicates
  once_named n ks [] e = tt
  once_named n ks (predicate ∷ others) e =
      let parts = and_parts _ _ e in
      let key = new_is n ks others (key_named nodes n ks predicate.name) parts.0 in
      (key_name_is n ks predicate.name key.0 key.1, once_named n ks others parts.1)

  -- ---- segments

  split_are : (part : List ℕ) (predicates : List Predicate) → predicates_of part ≡ Some predicates → AreNamed predicates
      → (rest : List ℕ) × ((part ≡ before_first is_bracket part ++ rest) × ArePredicates rest predicates)
  split_are part predicates e named =
      let p = position_or_len is_bracket part in
      ⊎_elim
      (λ inside. (
        91 ∷ after_first is_bracket part,
        (split_is 91 part inside, behind_are (after_first is_bracket part) predicates (sym (cond-true _ _ _ inside) ∙ e) named),
      ))
      (λ outside. (
        [],
        (
          sym (whole_is 91 part outside) ∙ sym (append-nil (before_first is_bracket part)),
          subst (ArePredicates []) (some_same [] predicates (sym (cond-false _ _ _ outside) ∙ e)) refl,
        ),
      ))
      (cases_Bool (nat_lt p (length part)))

  segment_is : (parent : Option ℕ) (text : List ℕ) (seg : RuleSeg) → rule_segment_in nodes parent text ≡ Ok seg → (part : RulePart) × (IsSegment (47 ∷ text) part × (rule_part_in nodes parent part ≡ Ok seg))
  segment_is parent text seg e =
      let name = step_ok (or_fault Syntax (some_name (before_first is_bracket text))) (λ (name : List ℕ). or_fault Syntax (predicates_of text) >>= λ predicates. rule_part_in nodes parent (record { name = name; predicates = predicates })) seg e in
      let predicates = step_ok (or_fault Syntax (predicates_of text)) (λ predicates. rule_part_in nodes parent (record { name = name.0; predicates = predicates })) seg name.1.1 in
      let part : RulePart = record { name = name.0; predicates = predicates.0 } in
      let found = step_ok (or_fault UnknownNode (child_named parent name.0 nodes)) (λ n. with_predicates nodes n (asked n nodes) predicates.0) seg predicates.1.1 in
      let n = found.0 in
      let once = cond_ok (each_once nodes n (asked n nodes) predicates.0) (or_fault KeyValue (rule_keys nodes n (asked n nodes) predicates.0 (asked n nodes)) >>= λ keys. Ok (record { node = n; keys = keys })) KeyCount seg found.1.1 in
      let named = some_is (before_first is_bracket text) name.0 (there Syntax _ _ name.1.0) in
      let split = split_are text predicates.0 (there Syntax _ _ predicates.1.0) (once_named n (asked n nodes) predicates.0 once) in (
        part,
        (
          record { rest = split.0; written = ap (λ l. 47 ∷ l) (split.1.0 ∙ ap (λ l. l ++ split.0) named); names = node_name_is parent name.0 n (there UnknownNode _ _ found.1.0); predicates = split.1.1 },
          predicates.1.1,
        ),
      )

  segments_are : (parent : Option ℕ) (texts : List (List ℕ)) (path : List RuleSeg) → rule_segments_in nodes parent texts ≡ Ok path
      → (parts : List RulePart) × (AreSegments (marked 47 texts) parts × (rule_parts_in nodes parent parts ≡ Ok path))
  segments_are parent [] path e = ([], (refl, e))
  segments_are parent (text ∷ texts) path e =
      let first = step_ok (rule_segment_in nodes parent text) (λ seg. rule_segments_in nodes (Some seg.node) texts >>= λ segs. Ok (seg ∷ segs)) path e in
      let others = step_ok (rule_segments_in nodes (Some first.0.node) texts) (λ segs. Ok (first.0 ∷ segs)) path first.1.1 in
      let here = segment_is parent text first.0 first.1.0 in
      let below = segments_are (Some first.0.node) texts others.0 others.1.0 in (
        here.0 ∷ below.0,
        (
          (47 ∷ text, (marked 47 texts, (refl, here.1.0, below.1.0))),
          ap (λ r. r >>= λ (seg : RuleSeg). rule_parts_in nodes (Some seg.node) below.0 >>= λ segs. Ok (seg ∷ segs)) here.1.1
              ∙ ap (λ r. r >>= λ segs. Ok (first.0 ∷ segs)) below.1.1 ∙ others.1.1,
        ),
      )

  some_parts : (b : ℕ) (bs : List ℕ) (parts : List RulePart) → AreSegments (b ∷ bs) parts → IsRuleText (b ∷ bs) parts
  some_parts b bs [] e = cc
  some_parts b bs (part ∷ parts) are = are

  -- a text that is read has parts, which name what was read
  pub text_parts : (text : List ℕ) (path : List RuleSeg) → rule_path_in nodes text ≡ Ok path → (parts : List RulePart) × (IsRuleText text parts × (rule_parts_in nodes None parts ≡ Ok path))
  text_parts [] path e = cc
  text_parts (b ∷ bs) path e =
      let slash = cond_ok (b == 47) (rule_segments_in nodes None (pieces 47 Outside bs)) Syntax path e in
      let are = segments_are None (pieces 47 Outside bs) path (sym (cond-true _ _ _ slash) ∙ e) in
      let whole : marked 47 (pieces 47 Outside bs) ≡ b ∷ bs = pieces_joined 47 Outside bs ∙ ap (λ c. c ∷ bs) (sym (eqb-true b 47 slash)) in
      (are.0, (some_parts b bs are.0 (subst (λ l. AreSegments l are.0) whole are.1.0), are.1.1))

-- a text is read exactly when it has parts that name what is read
pub read_exactly : (nodes : List SchemaNode) (text : List ℕ) (path : List RuleSeg) → IsSchema nodes
    → ((rule_path_in nodes text ≡ Ok path) ↔ ((parts : List RulePart) × (IsRuleText text parts × (rule_parts_in nodes None parts ≡ Ok path))))
read_exactly nodes text path schema = (λ e. text_parts nodes schema text path e, λ (parts, (is, e)). text_read nodes text parts is ∙ e)
