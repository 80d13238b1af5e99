-- A text is read as a target exactly when it is of the grammar of targets.
use Rattle.std.proofs.Common.{◌≡◌, ◌↔◌, ℕ, ◌==◌, List, [], ◌∷◌, ◌++◌, length, Bool, true, false, not, cond, ◌⊎◌, inl, inr, ⊎_elim, refl, sym, ap, subst, ◌∙◌, arith, append-nil, Option, Some, None, option_map, option_and_then, Result, Ok, nat_lt}
use Rattle.std.specs.List.{position_or_len, after_first}
use Rattle.std.proofs.lemmas.Bool.{cond-true, cond-false, cases_Bool, eqb-true, lt-ltb, not-true, and_parts}
use Rattle.yp_base.specs.declared.path.Seg.{Seg}
use Rattle.yp_base.specs.Cuts.{onto_first, cut}
use Rattle.yp_base.specs.Results.{◌>>=◌, or_fault, bind_same}
use Rattle.yp_schema.specs.declared.schema.SchemaNode.{SchemaNode}
use Rattle.yp_schema.specs.WellFormed.{IsSchema}
use Rattle.yp_path.specs.declared.fault.PathFault.{PathFault}
use Rattle.yp_path.specs.declared.fault.PathFault.TheVariants.{Syntax, UnknownNode}
use Rattle.yp_path.specs.Escapes.{key_read}
use Rattle.yp_path.specs.Grammar.{IsNodeName, is_free}
use Rattle.yp_path.specs.Names.{child_named}
use Rattle.yp_path.specs.TargetGrammar.{IsKeyText, AreKeyTexts, TargetPart, IsTargetSegment, AreTargetSegments, IsTargetText}
use Rattle.yp_path.specs.Targets.{is_equals, name_part, key_parts, some_name, keys_read, asked, with_values, target_part_in, target_parts_in, segment_in, segments_in, target_in}
use Rattle.yp_path.proofs.Free.{position_free, before_mark, after_mark, before_free, position_inside, free_append, cut_free, cut_at}
use Rattle.yp_path.proofs.Parsing.{marked, marked_onto, without_first, split_is, whole_is, some_is, node_name_is}
use Rattle.yp_path.proofs.Passing.{some_named, worded_node, worded_free}
use Rattle.yp_path.specs.StepLaws.{step_ok, there, and_then_some, map_some, some_same, cond_ok}

-- ---- a text of the grammar is read as its parts

keys_again : (first rest key : List ℕ) (keys : List (List ℕ)) → IsKeyText first key → AreKeyTexts 44 rest keys → keys_read (cut 44 (first ++ rest)) ≡ Some (key ∷ keys)
keys_again first rest key [] is e =
    ap (λ l. keys_read (cut 44 (first ++ l))) e
    ∙ ap (λ l. keys_read (cut 44 l)) (append-nil first)
    ∙ ap keys_read (cut_free 44 first is.commas)
    ∙ ap (λ o. option_and_then (λ text. option_map (λ (texts : List (List ℕ)). text ∷ texts) (Some [])) o) is.decoded
keys_again first rest key (next ∷ keys) is (second, (more, parts)) =
    ap (λ l. keys_read (cut 44 (first ++ l))) parts.0
    ∙ ap keys_read (cut_at 44 first (second ++ more) is.commas)
    ∙ ap (λ o. option_and_then (λ text. option_map (λ texts. text ∷ texts) (keys_read (cut 44 (second ++ more)))) o) is.decoded
    ∙ ap (option_map (λ texts. key ∷ texts)) (keys_again second more next keys parts.1 parts.2)

split_again : (name rest : List ℕ) (keys : List (List ℕ)) → IsNodeName name → AreKeyTexts 61 rest keys → (name_part (name ++ rest) ≡ name) × (keys_read (key_parts (name ++ rest)) ≡ Some keys)
split_again name rest [] is e =
    let free = worded_free 61 name refl (worded_node name is) in
    let whole : name ++ rest ≡ name = ap (λ l. name ++ l) e ∙ append-nil name in
    let all = position_free 61 name free in
    let no : nat_lt (position_or_len is_equals name) (length name) ≡ false = grind (arith, all) in
    (ap name_part whole ∙ before_free 61 name free, ap (λ l. keys_read (key_parts l)) whole ∙ ap keys_read (cond-false _ _ _ no))
split_again name rest (key ∷ keys) is (first, (more, parts)) =
    let free = worded_free 61 name refl (worded_node name is) in
    let text = first ++ more in
    let whole : name ++ rest ≡ name ++ 61 ∷ text = ap (λ l. name ++ l) parts.0 in (
      ap name_part whole ∙ before_mark 61 name text free,
      ap (λ l. keys_read (key_parts l)) whole
          ∙ ap keys_read (cond-true _ _ _ (lt-ltb _ _ (position_inside 61 name text)) ∙ ap (cut 44) (after_mark 61 name text free))
          ∙ keys_again first more key keys parts.1 parts.2,
    )

keys_free : (mark : ℕ) (rest : List ℕ) (keys : List (List ℕ)) → (mark == 47) ≡ false → AreKeyTexts mark rest keys → is_free 47 rest ≡ true
keys_free mark rest [] other e = ap (is_free 47) e
keys_free mark rest (key ∷ keys) other (first, (more, parts)) =
    ap (is_free 47) parts.0 ∙ rw (other, free_append 47 first more parts.1.slashes (keys_free 44 more keys refl parts.2)) refl

-- a text that is empty, or begins with a slash
abbrev Opens : List ℕ → Type 0
Opens text = (text ≡ []) ⊎ ((next : List ℕ) × (text ≡ 47 ∷ next))

opens_segments : (text : List ℕ) (parts : List TargetPart) → AreTargetSegments text parts → Opens text
opens_segments text [] e = inl e
opens_segments text (part ∷ parts) (first, (rest, are)) = inr ((part.name ++ are.1.rest) ++ rest, are.0 ∙ ap (λ l. l ++ rest) are.1.written)

module _ (nodes : List SchemaNode) where
  segment_again : (parent : Option ℕ) (name rest : List ℕ) (keys : List (List ℕ)) → IsNodeName name → AreKeyTexts 61 rest keys
      → segment_in nodes parent (name ++ rest) ≡ target_part_in nodes parent (record { name = name; keys = keys })
  segment_again parent name rest keys is are =
      let split = split_again name rest keys is are in
      ap (λ o. or_fault Syntax o >>= λ (n : List ℕ). or_fault Syntax (keys_read (key_parts (name ++ rest))) >>= λ texts. target_part_in nodes parent (record { name = n; keys = texts })) (ap some_name split.0 ∙ some_named name is)
      ∙ ap (λ o. or_fault Syntax o >>= λ texts. target_part_in nodes parent (record { name = name; keys = texts })) split.1

  abbrev segments_at : Option ℕ → List ℕ → Result (List Seg) PathFault
  segments_at parent [] = Ok []
  segments_at parent (b ∷ bs) = segments_in nodes parent (cut 47 bs)

  one_before : (parent : Option ℕ) (part rest : List ℕ) → is_free 47 part ≡ true → Opens rest
      → segments_in nodes parent (cut 47 (part ++ rest)) ≡ (segment_in nodes parent part >>= λ seg. segments_at (Some seg.node) rest >>= λ segs. Ok (seg ∷ segs))
  one_before parent part rest free opens =
      ⊎_elim
      (λ none.
      ap (λ l. segments_in nodes parent (cut 47 (part ++ l))) none
      ∙ ap (λ l. segments_in nodes parent (cut 47 l)) (append-nil part)
      ∙ ap (segments_in nodes parent) (cut_free 47 part free)
      ∙ ap (λ l. segment_in nodes parent part >>= λ seg. segments_at (Some seg.node) l >>= λ segs. Ok (seg ∷ segs)) (sym none))
      (λ (next, e).
      ap (λ l. segments_in nodes parent (cut 47 (part ++ l))) e
      ∙ ap (segments_in nodes parent) (cut_at 47 part next free)
      ∙ ap (λ l. segment_in nodes parent part >>= λ seg. segments_at (Some seg.node) l >>= λ segs. Ok (seg ∷ segs)) (sym e))
      opens

  segments_again : (parent : Option ℕ) (text : List ℕ) (parts : List TargetPart) → AreTargetSegments text parts → segments_at parent text ≡ target_parts_in nodes parent parts
  segments_again parent text [] e = ap (segments_at parent) e
  segments_again parent text (part ∷ parts) (first, (rest, are)) =
      let body = part.name ++ are.1.rest in
      let free = free_append 47 part.name are.1.rest (worded_free 47 part.name refl (worded_node part.name are.1.names)) (keys_free 61 are.1.rest part.keys refl are.1.keyed) in
      ap (segments_at parent) (are.0 ∙ ap (λ l. l ++ rest) are.1.written)
      ∙ one_before parent body rest free (opens_segments rest parts are.2)
      ∙ ap (λ r. r >>= λ (seg : Seg). segments_at (Some seg.node) rest >>= λ segs. Ok (seg ∷ segs)) (segment_again parent part.name are.1.rest part.keys are.1.names are.1.keyed)
      ∙ bind_same (target_part_in nodes parent part) (λ seg. segments_at (Some seg.node) rest >>= λ segs. Ok (seg ∷ segs)) (λ seg. target_parts_in nodes (Some seg.node) parts >>= λ segs. Ok (seg ∷ segs))
      (λ seg. ap (λ r. r >>= λ segs. Ok (seg ∷ segs)) (segments_again (Some seg.node) rest parts are.2))

  pub text_read : (text : List ℕ) (parts : List TargetPart) → IsTargetText text parts → target_in nodes text ≡ target_parts_in nodes None parts
  text_read text [] is = absurd is
  text_read text (part ∷ parts) is =
      ⊎_elim
      (λ none. let wrong : [] ≡ 47 ∷ ((part.name ++ is.1.1.1.rest) ++ is.1.0) = sym none ∙ is.1.1.0 ∙ ap (λ l. l ++ is.1.0) is.1.1.1.written in cc)
      (λ (next, e). ap (target_in nodes) e ∙ ap (segments_at None) (sym e) ∙ segments_again None text (part ∷ parts) is)
      (opens_segments text (part ∷ parts) is)

-- ---- a text that is read is of the grammar

abbrev Cut : List (List ℕ) → Type 0
Cut l = (piece : List ℕ) × ((more : List (List ℕ)) × (l ≡ piece ∷ more))

some_onto : (b : ℕ) (l : List (List ℕ)) → Cut (onto_first b l)
some_onto b [] = (b ∷ [], ([], refl))
some_onto b (piece ∷ more) = (b ∷ piece, (more, refl))

some_cut : (mark : ℕ) (bs : List ℕ) → Cut (cut mark bs)
some_cut mark [] = ([], ([], refl))
some_cut mark (b ∷ bs) = at (b == mark) (cut mark bs)
  where
    at : (t : Bool) (l : List (List ℕ)) → Cut (cond t ([] ∷ l) (onto_first b l))
    at true l = ([], (l, refl))
    at false l = some_onto b l

joined_at : (mark b : ℕ) (bs : List ℕ) (t : Bool) → (b == mark) ≡ t → marked mark (cut mark bs) ≡ mark ∷ bs → marked mark (cond t ([] ∷ cut mark bs) (onto_first b (cut mark bs))) ≡ mark ∷ b ∷ bs
joined_at mark b bs true e later = ap (λ l. mark ∷ l) (later ∙ ap (λ c. c ∷ bs) (sym (eqb-true b mark e)))
joined_at mark b bs false e later = marked_onto mark b bs (cut mark bs) (some_cut mark bs) later

cut_joined : (mark : ℕ) (bs : List ℕ) → marked mark (cut mark bs) ≡ mark ∷ bs
cut_joined mark [] = refl
cut_joined mark (b ∷ bs) = joined_at mark b bs (b == mark) refl (cut_joined mark bs)

-- texts in which a byte doesn't stand
abbrev AreFree : ℕ → List (List ℕ) → Type 0
AreFree mark [] = Unit {0}
AreFree mark (text ∷ texts) = (is_free mark text ≡ true) × AreFree mark texts

onto_free : (mark b : ℕ) (texts : List (List ℕ)) → (b == mark) ≡ false → AreFree mark texts → AreFree mark (onto_first b texts)
onto_free mark b [] e free = (rw e refl, tt)
onto_free mark b (text ∷ texts) e free = (rw (e, free.0) refl, free.1)

own_free : (mark : ℕ) (bs : List ℕ) → AreFree mark (cut mark bs)
own_free mark [] = (refl, tt)
own_free mark (b ∷ bs) = at (b == mark) refl (own_free mark bs)
  where
    at : (t : Bool) → (b == mark) ≡ t → AreFree mark (cut mark bs) → AreFree mark (cond t ([] ∷ cut mark bs) (onto_first b (cut mark bs)))
    at true e later = (refl, later)
    at false e later = onto_free mark b (cut mark bs) e later

other_free : (other mark : ℕ) (bs : List ℕ) → is_free other bs ≡ true → AreFree other (cut mark bs)
other_free other mark [] e = (refl, tt)
other_free other mark (b ∷ bs) e = at (b == mark) (and_parts _ _ e) (other_free other mark bs (and_parts _ _ e).1)
  where
    at : (t : Bool) → (not (b == other) ≡ true) × (is_free other bs ≡ true) → AreFree other (cut mark bs) → AreFree other (cond t ([] ∷ cut mark bs) (onto_first b (cut mark bs)))
    at true parts later = (refl, later)
    at false parts later = onto_free other b (cut mark bs) (not-true _ parts.0) later

free_after : (mark : ℕ) (xs ys : List ℕ) → is_free mark (xs ++ ys) ≡ true → is_free mark ys ≡ true
free_after mark [] ys e = e
free_after mark (x ∷ xs) ys e = free_after mark xs ys (and_parts _ _ e).1

keys_are : (texts keys : List (List ℕ)) → keys_read texts ≡ Some keys → AreFree 47 texts → AreFree 44 texts → AreKeyTexts 44 (marked 44 texts) keys
keys_are [] keys e slashes commas = subst (AreKeyTexts 44 []) (some_same [] keys e) refl
keys_are (text ∷ texts) keys e slashes commas =
    let first = and_then_some (key_read text) (λ key. option_map (λ keys. key ∷ keys) (keys_read texts)) keys e in
    let rest = map_some (keys_read texts) (λ (keys : List (List ℕ)). first.0 ∷ keys) keys first.1.1 in
    let here : AreKeyTexts 44 (marked 44 (text ∷ texts)) (first.0 ∷ rest.0) =
    (text, (marked 44 texts, (refl, record { slashes = slashes.0; commas = commas.0; decoded = first.1.0 }, keys_are texts rest.0 rest.1.0 slashes.1 commas.1))) in
    subst (AreKeyTexts 44 (marked 44 (text ∷ texts))) rest.1.1 here

-- the same after `=`
after_equals : (bs : List ℕ) (keys : List (List ℕ)) → keys_read (cut 44 bs) ≡ Some keys → is_free 47 bs ≡ true → AreKeyTexts 61 (61 ∷ bs) keys
after_equals bs keys e free =
    let are = keys_are (cut 44 bs) keys e (other_free 47 44 bs free) (own_free 44 bs) in
    turned bs keys (subst (λ l. AreKeyTexts 44 l keys) (cut_joined 44 bs) are)
  where
    turned : (bs : List ℕ) (keys : List (List ℕ)) → AreKeyTexts 44 (44 ∷ bs) keys → AreKeyTexts 61 (61 ∷ bs) keys
    turned bs [] e = cc
    turned bs (key ∷ keys) (first, (rest, parts)) = (first, (rest, (ap (λ l. 61 ∷ without_first l) parts.0, parts.1, parts.2)))

split_are : (part : List ℕ) (keys : List (List ℕ)) → keys_read (key_parts part) ≡ Some keys → is_free 47 part ≡ true → (rest : List ℕ) × ((part ≡ name_part part ++ rest) × AreKeyTexts 61 rest keys)
split_are part keys e free =
    ⊎_elim
    (λ inside.
    let whole = split_is 61 part inside in (
      61 ∷ after_first is_equals part,
      (whole, after_equals (after_first is_equals part) keys (ap keys_read (sym (cond-true _ _ _ inside)) ∙ e) (free_after 47 (name_part part) (61 ∷ after_first is_equals part) (sym (ap (is_free 47) whole) ∙ free))),
    ))
    (λ outside. (
      [],
      (
        sym (whole_is 61 part outside) ∙ sym (append-nil (name_part part)),
        subst (AreKeyTexts 61 []) (some_same [] keys (ap keys_read (sym (cond-false _ _ _ outside)) ∙ e)) refl,
      ),
    ))
    (cases_Bool (nat_lt (position_or_len is_equals part) (length part)))

module _ (nodes : List SchemaNode) (schema : IsSchema nodes) where
  segment_is : (parent : Option ℕ) (text : List ℕ) (seg : Seg) → segment_in nodes parent text ≡ Ok seg → is_free 47 text ≡ true → (part : TargetPart) × (IsTargetSegment (47 ∷ text) part × (target_part_in nodes parent part ≡ Ok seg))
  segment_is parent text seg e free =
      let name = step_ok (or_fault Syntax (some_name (name_part text))) (λ (name : List ℕ). or_fault Syntax (keys_read (key_parts text)) >>= λ texts. target_part_in nodes parent (record { name = name; keys = texts })) seg e in
      let keys = step_ok (or_fault Syntax (keys_read (key_parts text))) (λ texts. target_part_in nodes parent (record { name = name.0; keys = texts })) seg name.1.1 in
      let found = step_ok (or_fault UnknownNode (child_named parent name.0 nodes)) (λ n. with_values nodes n (asked n nodes) keys.0) seg keys.1.1 in
      let named = some_is (name_part text) name.0 (there Syntax _ _ name.1.0) in
      let split = split_are text keys.0 (there Syntax _ _ keys.1.0) free in (
        record { name = name.0; keys = keys.0 },
        (
          record { rest = split.0; written = ap (λ l. 47 ∷ l) (split.1.0 ∙ ap (λ l. l ++ split.0) named); names = node_name_is nodes schema parent name.0 found.0 (there UnknownNode _ _ found.1.0); keyed = split.1.1 },
          keys.1.1,
        ),
      )

  segments_are : (parent : Option ℕ) (texts : List (List ℕ)) (path : List Seg) → segments_in nodes parent texts ≡ Ok path → AreFree 47 texts
      → (parts : List TargetPart) × (AreTargetSegments (marked 47 texts) parts × (target_parts_in nodes parent parts ≡ Ok path))
  segments_are parent [] path e free = ([], (refl, e))
  segments_are parent (text ∷ texts) path e free =
      let first = step_ok (segment_in nodes parent text) (λ seg. segments_in nodes (Some seg.node) texts >>= λ segs. Ok (seg ∷ segs)) path e in
      let others = step_ok (segments_in nodes (Some first.0.node) texts) (λ segs. Ok (first.0 ∷ segs)) path first.1.1 in
      let here = segment_is parent text first.0 first.1.0 free.0 in
      let below = segments_are (Some first.0.node) texts others.0 others.1.0 free.1 in (
        here.0 ∷ below.0,
        (
          (47 ∷ text, (marked 47 texts, (refl, here.1.0, below.1.0))),
          ap (λ r. r >>= λ (seg : Seg). target_parts_in nodes (Some seg.node) below.0 >>= λ segs. Ok (seg ∷ segs)) here.1.1
              ∙ ap (λ r. r >>= λ segs. Ok (first.0 ∷ segs)) below.1.1 ∙ others.1.1,
        ),
      )

  some_parts : (b : ℕ) (bs : List ℕ) (parts : List TargetPart) → AreTargetSegments (b ∷ bs) parts → IsTargetText (b ∷ bs) parts
  some_parts b bs [] e = cc
  some_parts b bs (part ∷ parts) are = are

  pub text_parts : (text : List ℕ) (path : List Seg) → target_in nodes text ≡ Ok path → (parts : List TargetPart) × (IsTargetText text parts × (target_parts_in nodes None parts ≡ Ok path))
  text_parts [] path e = cc
  text_parts (b ∷ bs) path e =
      let slash = cond_ok (b == 47) (segments_in nodes None (cut 47 bs)) Syntax path e in
      let are = segments_are None (cut 47 bs) path (sym (cond-true _ _ _ slash) ∙ e) (own_free 47 bs) in
      let whole : marked 47 (cut 47 bs) ≡ b ∷ bs = cut_joined 47 bs ∙ ap (λ c. c ∷ bs) (sym (eqb-true b 47 slash)) in
      (are.0, (some_parts b bs are.0 (subst (λ l. AreTargetSegments l are.0) whole are.1.0), are.1.1))

-- a text is read exactly when it has parts that name what is read
pub read_exactly : (nodes : List SchemaNode) (text : List ℕ) (path : List Seg) → IsSchema nodes
    → ((target_in nodes text ≡ Ok path) ↔ ((parts : List TargetPart) × (IsTargetText text parts × (target_parts_in nodes None parts ≡ Ok path))))
read_exactly nodes text path schema = (λ e. text_parts nodes schema text path e, λ (parts, (is, e)). text_read nodes text parts is ∙ e)
