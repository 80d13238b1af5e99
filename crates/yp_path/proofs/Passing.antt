-- A text of the grammar of rule paths is read as its parts.
use Rattle.std.proofs.Common.{◌≡◌, ℕ, zero, suc, ◌==◌, List, [], ◌∷◌, ◌++◌, length, Bool, true, false, not, ◌&&◌, ◌||◌, cond, ◌⊎◌, inl, inr, ⊎_elim, refl, sym, ap, subst, ◌∙◌, arith, append_assoc, append-nil, Option, Some, None, option_map, option_and_then, Result, Ok, nat_lt, drop, ◌+◌}
use Rattle.std.specs.List.{position_or_len, before_first, after_first}
use Rattle.std.proofs.Math.Bool.{and-false}
use Rattle.std.proofs.lemmas.List.{drop_all}
use Rattle.std.proofs.lemmas.Bool.{cond-true, cond-false, lt-ltb, eqb-true, and_parts, not-true}
use Rattle.yp_base.specs.declared.rule_path.RuleSeg.{RuleSeg}
use Rattle.yp_schema.specs.declared.schema.SchemaNode.{SchemaNode}
use Rattle.yp_names.specs.Names.{is_identifier, go_on_name, goes_on_name, begins_name}
use Rattle.yp_path.specs.declared.fault.PathFault.{PathFault}
use Rattle.yp_path.specs.declared.fault.PathFault.TheVariants.{Syntax}
use Rattle.yp_path.specs.declared.mark.Place.{Place}
use Rattle.yp_path.specs.declared.mark.Place.TheVariants.{Outside, Within, Quoted}
use Rattle.yp_path.specs.declared.predicate.Predicate.{Predicate}
use Rattle.yp_base.specs.Cuts.{onto_first}
use Rattle.yp_path.specs.Grammar.{IsQualified, IsNodeName, IsKeyName, is_free, spaces, spaced, quoted, IsQuote, IsPredicate, ArePredicates, RulePart, AreSegments, IsRuleText}
use Rattle.yp_base.specs.Results.{◌>>=◌, or_fault, bind_same}
use Rattle.yp_path.specs.RulePaths.{is_quote, next_place, is_unquoted, pieces, bodies, all_bodies, without_spaces, are_spaces, around, name_in, closed, quoted_value, predicate_in, predicates_in, predicates_behind, is_bracket, predicates_of, rule_part_in, rule_parts_in, rule_segment_in, rule_segments_in, rule_path_in}
use Rattle.yp_path.specs.Targets.{some_name}
use Rattle.yp_path.proofs.Free.{position_free, before_mark, after_mark, before_free, position_inside, free_append}
use Rattle.yp_path.proofs.Pieces.{onto_all, onto_some}
use Rattle.yp_path.proofs.Predicates.{after_read, bodies_next}

-- ---- bytes of names

abbrev pub is_worded : ℕ → Bool
is_worded b = goes_on_name b || b == 58

abbrev pub are_worded : List ℕ → Bool
are_worded [] = true
are_worded (b ∷ bs) = is_worded b && are_worded bs

worded_append : (xs ys : List ℕ) → are_worded xs ≡ true → are_worded ys ≡ true → are_worded (xs ++ ys) ≡ true
worded_append [] ys h k = k
worded_append (x ∷ xs) ys h k = let parts = and_parts (is_worded x) (are_worded xs) h in rw (parts.0, worded_append xs ys parts.1 k) refl

worded_go_on : (bs : List ℕ) → go_on_name bs ≡ true → are_worded bs ≡ true
worded_go_on [] e = refl
worded_go_on (b ∷ bs) e = let parts = and_parts (goes_on_name b) (go_on_name bs) e in rw (parts.0, worded_go_on bs parts.1) refl

worded_identifier : (bs : List ℕ) → is_identifier bs ≡ true → are_worded bs ≡ true
worded_identifier [] e = refl
worded_identifier (b ∷ bs) e = let parts = and_parts (begins_name b) (go_on_name bs) e in rw (parts.0, worded_go_on bs parts.1) refl

pub worded_node : (bs : List ℕ) → IsNodeName bs → are_worded bs ≡ true
worded_node bs is =
    ⊎_elim (worded_identifier bs)
    (λ (q : IsQualified bs). ap are_worded q.written ∙ worded_append q.home (58 ∷ q.name) (worded_identifier q.home q.homes) (rw (worded_identifier q.name q.names) refl))
    is

worded_key : (bs : List ℕ) → IsKeyName bs → are_worded bs ≡ true
worded_key bs is = ⊎_elim (worded_node bs) (λ e. ap are_worded e) is

-- a name is not empty
abbrev Starts : List ℕ → Type 0
Starts bs = (b : ℕ) × ((more : List ℕ) × (bs ≡ b ∷ more))

starts_identifier : (bs : List ℕ) → is_identifier bs ≡ true → Starts bs
starts_identifier [] e = let wrong : false ≡ true = e in cc
starts_identifier (b ∷ bs) e = (b, (bs, refl))

starts_append : (home name : List ℕ) → Starts (home ++ 58 ∷ name)
starts_append [] name = (58, (name, refl))
starts_append (b ∷ bs) name = (b, (bs ++ 58 ∷ name, refl))

starts_node : (bs : List ℕ) → IsNodeName bs → Starts bs
starts_node bs is = ⊎_elim (starts_identifier bs) (λ (q : IsQualified bs). subst Starts (sym q.written) (starts_append q.home q.name)) is

starts_key : (bs : List ℕ) → IsKeyName bs → Starts bs
starts_key bs is = ⊎_elim (starts_node bs) (λ e. (46, ([], e))) is

pub some_node : (bs : List ℕ) → Starts bs → some_name bs ≡ Some bs
some_node bs (b, (more, e)) = ap some_name e ∙ ap (λ l. Some l) (sym e)

pub some_named : (bs : List ℕ) → IsNodeName bs → some_name bs ≡ Some bs
some_named bs is = some_node bs (starts_node bs is)

worded_other : (mark b : ℕ) → is_worded mark ≡ false → is_worded b ≡ true → (b == mark) ≡ false
worded_other mark b m h = at (b == mark) refl
  where
    at : (t : Bool) → (b == mark) ≡ t → t ≡ false
    at true e = let same : is_worded b ≡ is_worded mark = ap is_worded (eqb-true b mark e) in let wrong : true ≡ false = sym h ∙ same ∙ m in cc
    at false e = refl

pub worded_free : (mark : ℕ) (bs : List ℕ) → is_worded mark ≡ false → are_worded bs ≡ true → is_free mark bs ≡ true
worded_free mark [] m e = refl
worded_free mark (b ∷ bs) m e = let parts = and_parts (is_worded b) (are_worded bs) e in rw (worded_other mark b m parts.0, worded_free mark bs m parts.1) refl

-- ---- spaces and quotes

quote_is : (p : ℕ → Bool) (t : Bool) (q : ℕ) → IsQuote q → p 39 ≡ t → p 34 ≡ t → p q ≡ t
quote_is p t q is apostrophe quotation = ⊎_elim (λ e. ap p e ∙ apostrophe) (λ e. ap p e ∙ quotation) is

past_spaces : (n : ℕ) (bs : List ℕ) → without_spaces (spaces n ++ bs) ≡ without_spaces bs
past_spaces zero bs = refl
past_spaces (suc n) bs = past_spaces n bs

only_spaces : (n : ℕ) → are_spaces (spaces n) ≡ true
only_spaces zero = refl
only_spaces (suc n) = only_spaces n

no_space : (b : ℕ) (bs : List ℕ) → (b == 32) ≡ false → without_spaces (b ∷ bs) ≡ b ∷ bs
no_space b bs e = cond-false _ _ _ e

-- what stands around the first mark
pub around_at : (mark : ℕ) (xs ys : List ℕ) → is_free mark xs ≡ true → around mark (xs ++ mark ∷ ys) ≡ Some (xs, ys)
around_at mark xs ys free =
    cond-true _ _ _ (lt-ltb _ _ (position_inside mark xs ys))
    ∙ ap (λ l. Some (l, after_first (λ b. b == mark) (xs ++ mark ∷ ys))) (before_mark mark xs ys free)
    ∙ ap (λ l. Some (xs, l)) (after_mark mark xs ys free)

-- ---- texts that a cut passes over

abbrev pub Passes : ℕ → Place → List ℕ → Place → Type 0
Passes mark place text next = (more : List ℕ) → pieces mark place (text ++ more) ≡ onto_all text (pieces mark next more)

onto_append : (xs ys : List ℕ) (texts : List (List ℕ)) → onto_all (xs ++ ys) texts ≡ onto_all xs (onto_all ys texts)
onto_append [] ys texts = refl
onto_append (x ∷ xs) ys texts = ap (onto_first x) (onto_append xs ys texts)

pub pass_both : (mark : ℕ) (a b c : Place) (xs ys : List ℕ) → Passes mark a xs b → Passes mark b ys c → Passes mark a (xs ++ ys) c
pass_both mark a b c xs ys first second = λ more.
    ap (pieces mark a) (append_assoc xs ys more) ∙ first (ys ++ more) ∙ ap (onto_all xs) (second more) ∙ sym (onto_append xs ys (pieces mark c more))

pub pass_one : (mark : ℕ) (place next last : Place) (b : ℕ) (bs : List ℕ) → (b == mark && is_unquoted place) ≡ false → next_place place b ≡ next → Passes mark next bs last → Passes mark place (b ∷ bs) last
pass_one mark place next last b bs stays is rest = λ more.
    cond-false _ _ _ stays ∙ ap (λ p. onto_first b (pieces mark p (bs ++ more))) is ∙ ap (onto_first b) (rest more)

pass_none : (mark : ℕ) (place : Place) → Passes mark place [] place
pass_none mark place = λ more. refl

pass_word_outside : (bs : List ℕ) → are_worded bs ≡ true → Passes 47 Outside bs Outside
pass_word_outside [] e = pass_none 47 Outside
pass_word_outside (b ∷ bs) e =
    let parts = and_parts (is_worded b) (are_worded bs) e in
    let slash = worded_other 47 b refl parts.0 in
    let bracket = worded_other 91 b refl parts.0 in
    pass_one 47 Outside Outside Outside b bs (rw slash refl) (rw bracket refl) (pass_word_outside bs parts.1)

pass_value : (mark q : ℕ) (bs : List ℕ) → is_free q bs ≡ true → Passes mark (Quoted q) bs (Quoted q)
pass_value mark q [] e = pass_none mark (Quoted q)
pass_value mark q (b ∷ bs) e =
    let parts = and_parts (not (b == q)) (is_free q bs) e in
    let other = not-true (b == q) parts.0 in
    pass_one mark (Quoted q) (Quoted q) (Quoted q) b bs (and-false (b == mark)) (rw other refl) (pass_value mark q bs parts.1)

module _ (mark : ℕ) (word : is_worded mark ≡ false) (space : (32 == mark) ≡ false) (equals : (61 == mark) ≡ false) (apostrophe : (39 == mark) ≡ false) (quotation : (34 == mark) ≡ false) where
  pass_spaces : (n : ℕ) → Passes mark Within (spaces n) Within
  pass_spaces zero = pass_none mark Within
  pass_spaces (suc n) = pass_one mark Within Within Within 32 (spaces n) (rw space refl) refl (pass_spaces n)

  pass_word : (bs : List ℕ) → are_worded bs ≡ true → Passes mark Within bs Within
  pass_word [] e = pass_none mark Within
  pass_word (b ∷ bs) e =
      let parts = and_parts (is_worded b) (are_worded bs) e in
      let here = worded_other mark b word parts.0 in
      let closes = worded_other 93 b refl parts.0 in
      let one = worded_other 39 b refl parts.0 in
      let two = worded_other 34 b refl parts.0 in
      pass_one mark Within Within Within b bs (rw here refl) (rw (closes, one, two) refl) (pass_word bs parts.1)

  pass_spaced : (before after : ℕ) (bs : List ℕ) → Passes mark Within bs Within → Passes mark Within (spaced before bs after) Within
  pass_spaced before after bs inner =
      pass_both mark Within Within Within (spaces before) (bs ++ spaces after) (pass_spaces before)
      (pass_both mark Within Within Within bs (spaces after) inner (pass_spaces after))

  pass_quoted : (q : ℕ) (value : List ℕ) → IsQuote q → is_free q value ≡ true → Passes mark Within (quoted q value) Within
  pass_quoted q value is free =
      let other = quote_is (λ b. b == mark) false q is apostrophe quotation in
      let closes = quote_is (λ b. b == 93) false q is refl refl in
      let opens = quote_is is_quote true q is refl refl in
      let same : (q == q) ≡ true = grind arith in
      pass_one mark Within (Quoted q) Within q (value ++ q ∷ []) (rw other refl) (rw (closes, opens) refl)
      (pass_both mark (Quoted q) (Quoted q) Within value (q ∷ []) (pass_value mark q value free)
      (pass_one mark (Quoted q) Within Within q [] (and-false (q == mark)) (rw same refl) (pass_none mark Within)))

  pub pass_inside : (a b c d q : ℕ) (name value : List ℕ) → are_worded name ≡ true → IsQuote q → is_free q value ≡ true
      → Passes mark Within (spaced a name b ++ (61 ∷ spaced c (quoted q value) d)) Within
  pass_inside a b c d q name value worded is free =
      pass_both mark Within Within Within (spaced a name b) (61 ∷ spaced c (quoted q value) d) (pass_spaced a b name (pass_word name worded))
      (pass_one mark Within Within Within 61 (spaced c (quoted q value) d) (rw equals refl) refl (pass_spaced c d (quoted q value) (pass_quoted q value is free)))

-- ---- one predicate

name_before : (name : List ℕ) (after : ℕ) → are_worded name ≡ true → Starts name → name_in (name ++ spaces after) ≡ Some name
name_before name zero worded starts =
    let free = worded_free 32 name refl worded in
    let all = position_free 32 name free in
    let rest : after_first (λ b. b == 32) name ≡ [] = ap (λ n. drop (n + 1) name) all ∙ past_end name in
    ap name_in (append-nil name)
    ∙ cond-true _ _ _ (ap are_spaces rest)
    ∙ ap some_name (before_free 32 name free) ∙ some_node name starts
  where
    past_end : (l : List ℕ) → drop (length l + 1) l ≡ []
    past_end l = drop_all (length l + 1) l (omega arith)
name_before name (suc after) worded starts =
    let free = worded_free 32 name refl worded in
    cond-true _ _ _ (ap are_spaces (after_mark 32 name (spaces after) free) ∙ only_spaces after)
    ∙ ap some_name (before_mark 32 name (spaces after) free) ∙ some_node name starts

past_word : (name more : List ℕ) → are_worded name ≡ true → Starts name → without_spaces (name ++ more) ≡ name ++ more
past_word name more worded (b, (bs, e)) =
    let other = worded_other 32 b refl (and_parts (is_worded b) (are_worded bs) (sym (ap are_worded e) ∙ worded)).0 in
    ap (λ l. without_spaces (l ++ more)) e ∙ no_space b (bs ++ more) other ∙ ap (λ l. l ++ more) (sym e)

front_read : (before after : ℕ) (name : List ℕ) → IsKeyName name → name_in (without_spaces (spaced before name after)) ≡ Some name
front_read before after name is =
    let worded = worded_key name is in
    let starts = starts_key name is in
    ap name_in (past_spaces before (name ++ spaces after) ∙ past_word name (spaces after) worded starts) ∙ name_before name after worded starts

back_read : (before after q : ℕ) (value : List ℕ) → IsQuote q → is_free q value ≡ true → quoted_value (without_spaces (spaced before (quoted q value) after)) ≡ Some value
back_read before after q value is free =
    let other = quote_is (λ b. b == 32) false q is refl refl in
    let opens = quote_is is_quote true q is refl refl in
    ap quoted_value (past_spaces before (quoted q value ++ spaces after) ∙ no_space q ((value ++ q ∷ []) ++ spaces after) other)
    ∙ cond-true _ _ _ opens
    ∙ ap (closed q) (append_assoc value (q ∷ []) (spaces after))
    ∙ ap (λ o. option_and_then (λ (value, rest). cond (are_spaces rest) (Some value) None) o) (around_at q value (spaces after) free)
    ∙ cond-true _ _ _ (only_spaces after)

free_spaces : (mark n : ℕ) → (32 == mark) ≡ false → is_free mark (spaces n) ≡ true
free_spaces mark zero e = refl
free_spaces mark (suc n) e = rw (e, free_spaces mark n e) refl

pub inside_read : (a b c d q : ℕ) (predicate : Predicate) → IsKeyName predicate.name → IsQuote q → is_free q predicate.value ≡ true
    → predicate_in (spaced a predicate.name b ++ (61 ∷ spaced c (quoted q predicate.value) d)) ≡ Some predicate
inside_read a b c d q predicate names is free =
    let front = spaced a predicate.name b in
    let back = spaced c (quoted q predicate.value) d in
    let plain : is_free 61 front ≡ true =
    free_append 61 (spaces a) (predicate.name ++ spaces b) (free_spaces 61 a refl)
    (free_append 61 predicate.name (spaces b) (worded_free 61 predicate.name refl (worded_key predicate.name names)) (free_spaces 61 b refl)) in
    ap (λ o. option_and_then (λ (front, back). option_and_then (λ name. option_map (λ value. made name value) (quoted_value (without_spaces back))) (name_in (without_spaces front))) o) (around_at 61 front back plain)
    ∙ ap (λ o. option_and_then (λ name. option_map (λ value. made name value) (quoted_value (without_spaces back))) o) (front_read a b predicate.name names)
    ∙ ap (λ o. option_map (λ value. made predicate.name value) o) (back_read c d q predicate.value is free)
  where
    made : List ℕ → List ℕ → Predicate
    made name value = record { name = name; value = value }

-- what stands within the brackets of a predicate's text
abbrev Inside : List ℕ → Predicate → Type 0
Inside text predicate = (inside : List ℕ) × ((text ≡ 91 ∷ (inside ++ 93 ∷ [])) × (predicate_in inside ≡ Some predicate) × Passes 47 Within inside Within × Passes 93 Within inside Within)

inside_of : (text : List ℕ) (predicate : Predicate) → IsPredicate text predicate → Inside text predicate
inside_of text predicate is =
    let front = spaced is.before_name predicate.name is.after_name in
    let back = spaced is.before_value (quoted is.quote predicate.value) is.after_value in
    let worded = worded_key predicate.name is.names in (
      front ++ (61 ∷ back),
      (
        is.written ∙ ap (λ l. 91 ∷ l) (sym (append_assoc front (61 ∷ back) (93 ∷ []))),
        inside_read is.before_name is.after_name is.before_value is.after_value is.quote predicate is.names is.quotes is.value,
        pass_inside 47 refl refl refl refl refl is.before_name is.after_name is.before_value is.after_value is.quote predicate.name predicate.value worded is.quotes is.value,
        pass_inside 93 refl refl refl refl refl is.before_name is.after_name is.before_value is.after_value is.quote predicate.name predicate.value worded is.quotes is.value,
      ),
    )

-- ---- predicates

-- a text that is empty, or begins with this byte
abbrev Opens : ℕ → List ℕ → Type 0
Opens mark text = (text ≡ []) ⊎ ((next : List ℕ) × (text ≡ mark ∷ next))

opens_predicates : (text : List ℕ) (predicates : List Predicate) → ArePredicates text predicates → Opens 91 text
opens_predicates text [] e = inl e
opens_predicates text (predicate ∷ others) (first, (rest, parts)) =
    let inside = inside_of first predicate parts.1 in
    inr ((inside.0 ++ 93 ∷ []) ++ rest, parts.0 ∙ ap (λ l. l ++ rest) inside.1.0)

-- the predicates of a text that is empty or begins with a bracket
abbrev read_at : List ℕ → Option (List Predicate)
read_at [] = Some []
read_at (b ∷ bs) = predicates_behind bs

one_behind : (text inside rest : List ℕ) (predicate : Predicate) → pieces 93 Within text ≡ inside ∷ pieces 93 Outside rest → predicate_in inside ≡ Some predicate → Opens 91 rest
    → predicates_behind text ≡ option_map (λ more. predicate ∷ more) (read_at rest)
one_behind text inside rest predicate e h opens =
    ap (λ l. option_and_then predicates_in (all_bodies l)) e
    ∙ ⊎_elim
    (λ none.
    ap (λ l. option_and_then predicates_in (bodies inside (pieces 93 Outside l))) none
    ∙ after_read inside (Some []) predicate h
    ∙ ap (λ l. option_map (λ more. predicate ∷ more) (read_at l)) (sym none))
    (λ (next, is).
    ap (λ l. option_and_then predicates_in (bodies inside (pieces 93 Outside l))) is
    ∙ ap (option_and_then predicates_in) (bodies_next inside next)
    ∙ after_read inside (all_bodies (pieces 93 Within next)) predicate h
    ∙ ap (λ l. option_map (λ more. predicate ∷ more) (read_at l)) (sym is))
    opens

predicates_read : (text : List ℕ) (predicates : List Predicate) → ArePredicates text predicates → read_at text ≡ Some predicates
predicates_read text [] e = ap read_at e
predicates_read text (predicate ∷ others) (first, (rest, parts)) =
    let inside = inside_of first predicate parts.1 in
    let body = inside.0 in
    let cut : pieces 93 Within (body ++ 93 ∷ rest) ≡ body ∷ pieces 93 Outside rest =
    inside.1.3 (93 ∷ rest) ∙ onto_some body [] (pieces 93 Outside rest) ∙ ap (λ l. l ∷ pieces 93 Outside rest) (append-nil body) in
    ap read_at parts.0
    ∙ ap (λ l. read_at (l ++ rest)) inside.1.0
    ∙ ap predicates_behind (append_assoc body (93 ∷ []) rest)
    ∙ one_behind (body ++ 93 ∷ rest) body rest predicate cut inside.1.1 (opens_predicates rest others parts.2)
    ∙ ap (option_map (λ more. predicate ∷ more)) (predicates_read rest others parts.2)

predicates_pass : (text : List ℕ) (predicates : List Predicate) → ArePredicates text predicates → Passes 47 Outside text Outside
predicates_pass text [] e = subst (λ l. Passes 47 Outside l Outside) (sym e) (pass_none 47 Outside)
predicates_pass text (predicate ∷ others) (first, (rest, parts)) =
    let inside = inside_of first predicate parts.1 in
    let here : Passes 47 Outside (91 ∷ (inside.0 ++ 93 ∷ [])) Outside =
    pass_one 47 Outside Within Outside 91 (inside.0 ++ 93 ∷ []) refl refl
    (pass_both 47 Within Within Outside inside.0 (93 ∷ []) inside.1.2 (pass_one 47 Within Outside Outside 93 [] refl refl (pass_none 47 Outside))) in
    subst (λ l. Passes 47 Outside l Outside) (sym parts.0)
    (pass_both 47 Outside Outside Outside first rest (subst (λ l. Passes 47 Outside l Outside) (sym inside.1.0) here) (predicates_pass rest others parts.2))

-- ---- a segment

split_read : (name text : List ℕ) (predicates : List Predicate) → IsNodeName name → read_at text ≡ Some predicates → Opens 91 text
    → (before_first is_bracket (name ++ text) ≡ name) × (predicates_of (name ++ text) ≡ Some predicates)
split_read name text predicates is read opens =
    let free = worded_free 91 name refl (worded_node name is) in
    ⊎_elim
    (λ none.
    let whole : name ++ text ≡ name = ap (λ l. name ++ l) none ∙ append-nil name in
    let all = position_free 91 name free in
    let no : nat_lt (position_or_len is_bracket name) (length name) ≡ false = grind (arith, all) in
    (ap (before_first is_bracket) whole ∙ before_free 91 name free, ap predicates_of whole ∙ cond-false _ _ _ no ∙ ap read_at (sym none) ∙ read))
    (λ (next, e).
    let whole : name ++ text ≡ name ++ 91 ∷ next = ap (λ l. name ++ l) e in (
      ap (before_first is_bracket) whole ∙ before_mark 91 name next free,
      ap predicates_of whole ∙ cond-true _ _ _ (lt-ltb _ _ (position_inside 91 name next)) ∙ ap predicates_behind (after_mark 91 name next free) ∙ ap read_at (sym e) ∙ read,
    ))
    opens

module _ (nodes : List SchemaNode) where
  segment_read : (parent : Option ℕ) (name text : List ℕ) (predicates : List Predicate) → IsNodeName name → ArePredicates text predicates
      → rule_segment_in nodes parent (name ++ text) ≡ rule_part_in nodes parent (record { name = name; predicates = predicates })
  segment_read parent name text predicates is are =
      let split = split_read name text predicates is (predicates_read text predicates are) (opens_predicates text predicates are) in
      ap (λ o. or_fault Syntax o >>= λ (n : List ℕ). or_fault Syntax (predicates_of (name ++ text)) >>= λ ps. rule_part_in nodes parent (record { name = n; predicates = ps })) (ap some_name split.0 ∙ some_named name is)
      ∙ ap (λ o. or_fault Syntax o >>= λ ps. rule_part_in nodes parent (record { name = name; predicates = ps })) split.1

  -- ---- the path

  abbrev segments_at : Option ℕ → List ℕ → Result (List RuleSeg) PathFault
  segments_at parent [] = Ok []
  segments_at parent (b ∷ bs) = rule_segments_in nodes parent (pieces 47 Outside bs)

  opens_segments : (text : List ℕ) (parts : List RulePart) → AreSegments text parts → Opens 47 text
  opens_segments text [] e = inl e
  opens_segments text (part ∷ parts) (first, (rest, are)) =
      inr ((part.name ++ are.1.rest) ++ rest, are.0 ∙ ap (λ l. l ++ rest) are.1.written)

  one_before : (parent : Option ℕ) (part rest : List ℕ) → Passes 47 Outside part Outside → Opens 47 rest
      → rule_segments_in nodes parent (pieces 47 Outside (part ++ rest)) ≡ (rule_segment_in nodes parent part >>= λ seg. segments_at (Some seg.node) rest >>= λ segs. Ok (seg ∷ segs))
  one_before parent part rest passes opens =
      ap (rule_segments_in nodes parent) (passes rest)
      ∙ ⊎_elim
      (λ none.
      ap (λ l. rule_segments_in nodes parent (onto_all part (pieces 47 Outside l))) none
      ∙ ap (rule_segments_in nodes parent) (onto_some part [] [] ∙ ap (λ l. l ∷ []) (append-nil part))
      ∙ ap (λ l. rule_segment_in nodes parent part >>= λ seg. segments_at (Some seg.node) l >>= λ segs. Ok (seg ∷ segs)) (sym none))
      (λ (next, e).
      ap (λ l. rule_segments_in nodes parent (onto_all part (pieces 47 Outside l))) e
      ∙ ap (rule_segments_in nodes parent) (onto_some part [] (pieces 47 Outside next) ∙ ap (λ l. l ∷ pieces 47 Outside next) (append-nil part))
      ∙ ap (λ l. rule_segment_in nodes parent part >>= λ seg. segments_at (Some seg.node) l >>= λ segs. Ok (seg ∷ segs)) (sym e))
      opens

  segments_read : (parent : Option ℕ) (text : List ℕ) (parts : List RulePart) → AreSegments text parts → segments_at parent text ≡ rule_parts_in nodes parent parts
  segments_read parent text [] e = ap (segments_at parent) e
  segments_read parent text (part ∷ parts) (first, (rest, are)) =
      let body = part.name ++ are.1.rest in
      let passes = pass_both 47 Outside Outside Outside part.name are.1.rest (pass_word_outside part.name (worded_node part.name are.1.names)) (predicates_pass are.1.rest part.predicates are.1.predicates) in
      ap (segments_at parent) (are.0 ∙ ap (λ l. l ++ rest) are.1.written)
      ∙ one_before parent body rest passes (opens_segments rest parts are.2)
      ∙ ap (λ r. r >>= λ (seg : RuleSeg). segments_at (Some seg.node) rest >>= λ segs. Ok (seg ∷ segs)) (segment_read parent part.name are.1.rest part.predicates are.1.names are.1.predicates)
      ∙ bind_same (rule_part_in nodes parent part) (λ seg. segments_at (Some seg.node) rest >>= λ segs. Ok (seg ∷ segs)) (λ seg. rule_parts_in nodes (Some seg.node) parts >>= λ segs. Ok (seg ∷ segs))
      (λ seg. ap (λ r. r >>= λ segs. Ok (seg ∷ segs)) (segments_read (Some seg.node) rest parts are.2))

  -- a text of the grammar is read as what its parts name
  pub text_read : (text : List ℕ) (parts : List RulePart) → IsRuleText text parts → rule_path_in nodes text ≡ rule_parts_in nodes None parts
  text_read text [] is = absurd is
  text_read text (part ∷ parts) is =
      ⊎_elim
      (λ none. let wrong : [] ≡ 47 ∷ ((part.name ++ is.1.1.1.rest) ++ is.1.0) = sym none ∙ is.1.1.0 ∙ ap (λ l. l ++ is.1.0) is.1.1.1.written in cc)
      (λ (next, e). ap (rule_path_in nodes) e ∙ ap (segments_at None) (sym e) ∙ segments_read None text (part ∷ parts) is)
      (opens_segments text (part ∷ parts) is)
