-- The text of a path is read again as this path.
use Rattle.std.proofs.Common.{◌≡◌, ℕ, zero, suc, ◌<◌, ◌≤◌, drop, ◌+◌, ◌/◌, ◌%◌, ◌==◌, List, [], ◌∷◌, ◌++◌, length, get_or, Bool, true, false, ◌||◌, cond, refl, sym, ap, subst, ◌∙◌, ⊎_elim, Option, Some, None, Ok, arith, append-nil, nat_lt}
use Rattle.std.specs.List.{position_or_len, before_first}
use Rattle.std.specs.Str.{is_utf8}
use Rattle.std.proofs.lemmas.List.{drop_all}
use Rattle.std.proofs.lemmas.Bool.{lt-ltb, eq-eqb, cases_Bool, cond-true, cond-false, and_parts}
use Rattle.percent_encoding.proofs.PercentLemmas.{round_trip}
use Rattle.percent_encoding.specs.Percent.{percent_decode}
use Rattle.yp_base.specs.PathLaws.{numbers_same}
use Rattle.yp_base.specs.declared.atom.Atom.{Atom}
use Rattle.yp_base.specs.declared.leaf_type.LeafType.{LeafType}
use Rattle.yp_base.specs.declared.path.Seg.{Seg}
use Rattle.yp_value.specs.Texts.{atom_text}
use Rattle.yp_value.specs.TextLaws.{text_again}
use Rattle.yp_schema.specs.declared.schema.SchemaNode.{SchemaNode}
use Rattle.yp_schema.specs.declared.schema.Kind.{Kind}
use Rattle.yp_schema.specs.declared.schema.Kind.TheVariants.{Container, Presence, List as Listing, Leaf, LeafList}
use Rattle.yp_base.specs.Paths.{same_number}
use Rattle.yp_schema.specs.Nodes.{node_at}
use Rattle.yp_names.specs.Names.{is_name}
use Rattle.yp_schema.specs.WellFormed.{IsSchema, is_at_home, is_empty}
use Rattle.yp_schema.specs.Datastore.{is_path_of, goes_down, is_segment, keys_of_kind, keys_fit, one_fits, atom_fits}
use Rattle.yp_path.specs.declared.escape.TheConstants.{ESCAPED}
use Rattle.yp_path.specs.declared.fault.PathFault.TheVariants.{Syntax, UnknownNode, KeyCount, KeyValue}
use Rattle.yp_base.specs.Cuts.{cut}
use Rattle.yp_path.specs.Escapes.{is_plain, capital_digit, escaped, is_hexadecimal, has_whole_escapes, key_read}
use Rattle.yp_path.specs.Grammar.{is_free}
use Rattle.yp_path.specs.Names.{child_named}
use Rattle.yp_base.specs.Results.{◌>>=◌, or_fault}
use Rattle.yp_path.specs.Targets.{is_equals, value_of, values_read, as_many, asked_of_kind, asked, with_values, some_name, name_part, key_parts, keys_read, segment_in, segments_in, target_in, keys_text, target_text, are_texts, has_texts}
use Rattle.yp_path.proofs.Bytes.{utf8_bytes}
use Rattle.yp_path.proofs.Escapes.{escaped_is}
use Rattle.yp_path.proofs.Free.{is_outside, position_free, position_inside, before_mark, after_mark, before_free, free_name, free_append, cut_free, cut_at}
use Rattle.yp_path.proofs.Names.{child_complete, named_bare, named_elsewhere, form_elsewhere, form_at_home}
use Rattle.yp_schema.specs.SchemaLaws.{type_is, keys_within, segment_within}

-- ---- one key

digit_hexadecimal : (n : ℕ) → n < 16 → is_hexadecimal (capital_digit n) ≡ true
digit_hexadecimal n h = at (nat_lt n 10) refl
  where
    at : (t : Bool) → nat_lt n 10 ≡ t → is_hexadecimal (cond t (48 + n) (55 + n)) ≡ true
    at true e = grind (arith, e, h)
    at false e = grind (arith, e, h)

hexadecimal_other : (b : ℕ) → is_hexadecimal b ≡ true → (b == 37) ≡ false
hexadecimal_other b h = grind (arith, h)

plain_other : (b : ℕ) → is_plain b ≡ true → (b == 37) ≡ false
plain_other b h = grind (arith, h)

whole_at : (t : Bool) (b : ℕ) (rest : List ℕ) → is_plain b ≡ t → has_whole_escapes rest ≡ true → has_whole_escapes (cond t (b ∷ []) (37 ∷ capital_digit (b / 16 % 16) ∷ capital_digit (b % 16) ∷ []) ++ rest) ≡ true
whole_at true b rest is h = rw (plain_other b is, h) refl
whole_at false b rest is h =
    let high = digit_hexadecimal (b / 16 % 16) (omega arith) in
    let low = digit_hexadecimal (b % 16) (omega arith) in
    rw (high, low, hexadecimal_other _ high, hexadecimal_other _ low, h) refl

pub escapes_whole : (bs : List ℕ) → has_whole_escapes (escaped bs) ≡ true
escapes_whole [] = refl
escapes_whole (b ∷ bs) = whole_at (is_plain b) b (escaped bs) refl (escapes_whole bs)

-- what stands in no escaped key
abbrev is_between : ℕ → Bool
is_between mark = mark == 47 || (mark == 61 || mark == 44)

plain_free : (mark b : ℕ) → is_between mark ≡ true → is_plain b ≡ true → (b == mark) ≡ false
plain_free mark b m h = grind (arith, m, h)

digit_free : (mark n : ℕ) → is_between mark ≡ true → (capital_digit n == mark) ≡ false
digit_free mark n m = at (nat_lt n 10) refl
  where
    at : (t : Bool) → nat_lt n 10 ≡ t → (cond t (48 + n) (55 + n) == mark) ≡ false
    at true e = grind (arith, e, m)
    at false e = grind (arith, e, m)

percent_free : (mark : ℕ) → is_between mark ≡ true → (37 == mark) ≡ false
percent_free mark m = grind (arith, m)

free_at : (t : Bool) (mark b : ℕ) (rest : List ℕ) → is_between mark ≡ true → is_plain b ≡ t → is_free mark rest ≡ true → is_free mark (cond t (b ∷ []) (37 ∷ capital_digit (b / 16 % 16) ∷ capital_digit (b % 16) ∷ []) ++ rest) ≡ true
free_at true mark b rest m is h = rw (plain_free mark b m is, h) refl
free_at false mark b rest m is h = rw (percent_free mark m, digit_free mark (b / 16 % 16) m, digit_free mark (b % 16) m, h) refl

pub escaped_free : (mark : ℕ) (bs : List ℕ) → is_between mark ≡ true → is_free mark (escaped bs) ≡ true
escaped_free mark [] m = refl
escaped_free mark (b ∷ bs) m = free_at (is_plain b) mark b (escaped bs) m refl (escaped_free mark bs m)

pub key_again : (bs : List ℕ) → is_utf8 bs ≡ true → key_read (escaped bs) ≡ Some bs
key_again bs e =
    let back : percent_decode (escaped bs) ≡ bs = ap percent_decode (sym (escaped_is bs)) ∙ round_trip ESCAPED bs refl (utf8_bytes bs e) in
    rw (escapes_whole bs, back, e) refl

-- ---- the keys of a segment

abbrev key_texts : List Atom → List (List ℕ)
key_texts [] = []
key_texts (key ∷ keys) = escaped (atom_text key) ∷ key_texts keys

abbrev plain_texts : List Atom → List (List ℕ)
plain_texts [] = []
plain_texts (key ∷ keys) = atom_text key ∷ plain_texts keys

keys_cut : (key : Atom) (keys : List Atom) → cut 44 (escaped (atom_text key) ++ keys_text 44 keys) ≡ key_texts (key ∷ keys)
keys_cut key [] = ap (cut 44) (append-nil (escaped (atom_text key))) ∙ cut_free 44 (escaped (atom_text key)) (escaped_free 44 (atom_text key) refl)
keys_cut key (next ∷ keys) =
    cut_at 44 (escaped (atom_text key)) (escaped (atom_text next) ++ keys_text 44 keys) (escaped_free 44 (atom_text key) refl)
    ∙ ap (λ l. escaped (atom_text key) ∷ l) (keys_cut next keys)

keys_free : (mark sign : ℕ) (keys : List Atom) → is_between mark ≡ true → (sign == mark) ≡ false → (44 == mark) ≡ false → is_free mark (keys_text sign keys) ≡ true
keys_free mark sign [] m s c = refl
keys_free mark sign (key ∷ keys) m s c =
    rw (s, free_append mark (escaped (atom_text key)) (keys_text 44 keys) (escaped_free mark (atom_text key) m) (keys_free mark 44 keys m c c)) refl

keys_again : (keys : List Atom) → are_texts keys ≡ true → keys_read (key_texts keys) ≡ Some (plain_texts keys)
keys_again [] e = refl
keys_again (key ∷ keys) e =
    let parts = and_parts _ _ e in
    rw (key_again (atom_text key) parts.0, keys_again keys parts.1) refl

-- ---- a segment

abbrev part_text : List SchemaNode → Seg → List ℕ
part_text nodes seg = (node_at seg.node nodes).member ++ keys_text 61 seg.keys

name_again : (member : List ℕ) (keys : List Atom) → is_free 61 member ≡ true → name_part (member ++ keys_text 61 keys) ≡ member
name_again member [] free = ap name_part (append-nil member) ∙ before_free 61 member free
name_again member (key ∷ keys) free = before_mark 61 member (escaped (atom_text key) ++ keys_text 44 keys) free

parts_again : (member : List ℕ) (keys : List Atom) → is_free 61 member ≡ true → key_parts (member ++ keys_text 61 keys) ≡ key_texts keys
parts_again member [] free =
    let all = position_free 61 member free in
    let none : nat_lt (position_or_len is_equals member) (length member) ≡ false = grind (arith, all) in
    ap key_parts (append-nil member) ∙ cond-false _ _ _ none
parts_again member (key ∷ keys) free =
    let rest = escaped (atom_text key) ++ keys_text 44 keys in
    cond-true _ _ _ (lt-ltb _ _ (position_inside 61 member rest)) ∙ ap (cut 44) (after_mark 61 member rest free) ∙ keys_cut key keys

module _ (nodes : List SchemaNode) (schema : IsSchema nodes) where
  member_free : (mark n : ℕ) → n < length nodes → is_outside mark ≡ true → (58 == mark) ≡ false → is_free mark (node_at n nodes).member ≡ true
  member_free mark n h out other =
      let node = node_at n nodes in
      let name = free_name mark node.name out (schema.each n h).node_name in
      let home = free_name mark node.home out (schema.each n h).module_name in
      ⊎_elim (λ e. ap (is_free mark) (form_at_home nodes schema n h e) ∙ name)
      (λ e. ap (is_free mark) (form_elsewhere nodes schema n h e) ∙ free_append mark node.home (58 ∷ node.name) home (rw (other, name) refl))
      (cases_Bool (is_at_home node.parent node.home nodes))

  name_some : (name : List ℕ) → is_name name ≡ true → some_name name ≡ Some name
  name_some [] e = let wrong : false ≡ true = e in cc
  name_some (b ∷ bs) e = refl

  some_behind : (home name : List ℕ) → some_name (home ++ 58 ∷ name) ≡ Some (home ++ 58 ∷ name)
  some_behind [] name = refl
  some_behind (b ∷ bs) name = refl

  member_some : (n : ℕ) → n < length nodes → some_name (node_at n nodes).member ≡ Some (node_at n nodes).member
  member_some n h =
      let node = node_at n nodes in
      let P : List ℕ → Type 0 = λ m. some_name m ≡ Some m in
      ⊎_elim (λ e. subst P (sym (form_at_home nodes schema n h e)) (name_some node.name (schema.each n h).node_name))
      (λ e. subst P (sym (form_elsewhere nodes schema n h e)) (some_behind node.home node.name))
      (cases_Bool (is_at_home node.parent node.home nodes))

  named_again : (n : ℕ) (parent : Option ℕ) → n < length nodes → same_number (node_at n nodes).parent parent ≡ true → child_named parent (node_at n nodes).member nodes ≡ Some n
  named_again n parent h p =
      let node = node_at n nodes in
      let found = child_complete nodes parent node.member n schema h p refl in
      let up = numbers_same _ _ p in
      ⊎_elim
      (λ e.
      let form = form_at_home nodes schema n h e in
      let bare : position_or_len (λ b. b == 58) node.member ≡ length node.member = position_free 58 node.member (ap (is_free 58) form ∙ free_name 58 node.name refl (schema.each n h).node_name) in
      sym (named_bare nodes parent node.member schema bare) ∙ found)
      (λ e.
      let form = form_elsewhere nodes schema n h e in
      let before : before_first (λ b. b == 58) node.member ≡ node.home = ap (λ t. before_first (λ b. b == 58) t) form ∙ before_mark 58 node.home node.name (free_name 58 node.home refl (schema.each n h).module_name) in
      let away : is_at_home parent (before_first (λ b. b == 58) node.member) nodes ≡ false = ap (λ t. is_at_home parent t nodes) before ∙ ap (λ q. is_at_home q node.home nodes) (sym up) ∙ e in
      sym (named_elsewhere nodes parent node.member schema away) ∙ found)
      (cases_Bool (is_at_home node.parent node.home nodes))

  -- values

  value_again : (n : ℕ) (t : Option LeafType) (a : Atom) → n < length nodes → (node_at n nodes).ty ≡ t → atom_fits t a ≡ true → value_of t (atom_text a) ≡ Some a
  value_again n None a h is e = let wrong : false ≡ true = e in cc
  value_again n (Some ty) a h is e = text_again ty a (type_is nodes n ty schema h is) e

  values_again : (ks : List ℕ) (keys : List Atom) → ((k d : ℕ) → k < length ks → get_or ks k d < length nodes) → keys_fit nodes ks keys ≡ true
      → (length ks ≡ length (plain_texts keys)) × (values_read nodes ks (plain_texts keys) ≡ Some keys)
  values_again [] [] below e = (refl, refl)
  values_again [] (key ∷ keys) below e = let wrong : false ≡ true = e in (cc, cc)
  values_again (k ∷ ks) [] below e = let wrong : false ≡ true = e in (cc, cc)
  values_again (k ∷ ks) (key ∷ keys) below e =
      let parts = and_parts _ _ e in
      let rest = values_again ks keys (λ j d l. below (suc j) d (omega (arith, l))) parts.1 in
      let here = value_again k (node_at k nodes).ty key (below 0 0 (omega arith)) refl parts.0 in
      (omega (arith, rest.0), rw (here, rest.1) refl)

  fit_none : (keys : List Atom) → is_empty keys ≡ true → keys_fit nodes [] keys ≡ true
  fit_none [] e = refl
  fit_none (key ∷ keys) e = e

  fit_one : (n : ℕ) (keys : List Atom) → one_fits (node_at n nodes).ty keys ≡ true → keys_fit nodes (n ∷ []) keys ≡ true
  fit_one n [] e = e
  fit_one n (key ∷ []) e = rw e refl
  fit_one n (key ∷ next ∷ keys) e = let wrong : false ≡ true = e in cc

  asked_again : (n : ℕ) (kind : Kind) (keys : List Atom) → n < length nodes → (node_at n nodes).kind ≡ kind → keys_of_kind kind nodes (node_at n nodes) keys ≡ true
      → (keys_fit nodes (asked_of_kind kind n (node_at n nodes)) keys ≡ true) × ((k d : ℕ) → k < length (asked_of_kind kind n (node_at n nodes)) → get_or (asked_of_kind kind n (node_at n nodes)) k d < length nodes)
  asked_again n Container keys h is e = (fit_none keys e, λ k d l. absurd (omega (arith, l)))
  asked_again n Presence keys h is e = (fit_none keys e, λ k d l. absurd (omega (arith, l)))
  asked_again n Listing keys h is e = (e, keys_within nodes n schema h)
  asked_again n Leaf keys h is e = (fit_none keys e, λ k d l. absurd (omega (arith, l)))
  asked_again n LeafList keys h is e = (fit_one n keys e, one_below)
    where
      one_below : (k d : ℕ) → k < length {A = ℕ} (n ∷ []) → get_or (n ∷ []) k d < length nodes
      one_below zero d l = h
      one_below (suc k) d l = absurd (omega (arith, l))

  with_again : (seg : Seg) → is_segment nodes seg ≡ true → with_values nodes seg.node (asked seg.node nodes) (plain_texts seg.keys) ≡ Ok seg
  with_again seg e =
      let h = segment_within nodes seg e in
      let fit = asked_again seg.node (node_at seg.node nodes).kind seg.keys h refl (and_parts _ _ e).1 in
      let values = values_again (asked seg.node nodes) seg.keys fit.1 fit.0 in
      let many : as_many (asked seg.node nodes) (plain_texts seg.keys) ≡ Some (plain_texts seg.keys) = cond-true _ _ _ (eq-eqb _ _ values.0) in
      ap (λ o. or_fault KeyCount o >>= λ counted. or_fault KeyValue (values_read nodes (asked seg.node nodes) counted) >>= λ keys. Ok (record { node = seg.node; keys = keys })) many
      ∙ ap (λ o. or_fault KeyValue o >>= λ keys. Ok (record { node = seg.node; keys = keys })) values.1

  segment_again : (parent : Option ℕ) (seg : Seg) → same_number (node_at seg.node nodes).parent parent ≡ true → is_segment nodes seg ≡ true → are_texts seg.keys ≡ true → segment_in nodes parent (part_text nodes seg) ≡ Ok seg
  segment_again parent seg p e t =
      let h = segment_within nodes seg e in
      let member = (node_at seg.node nodes).member in
      let free = member_free 61 seg.node h refl refl in
      let named : some_name (name_part (part_text nodes seg)) ≡ Some member = ap some_name (name_again member seg.keys free) ∙ member_some seg.node h in
      let keyed : keys_read (key_parts (part_text nodes seg)) ≡ Some (plain_texts seg.keys) = ap keys_read (parts_again member seg.keys free) ∙ keys_again seg.keys t in
      ap (λ o. or_fault Syntax o >>= λ name. or_fault Syntax (keys_read (key_parts (part_text nodes seg))) >>= λ texts. or_fault UnknownNode (child_named parent name nodes) >>= λ n. with_values nodes n (asked n nodes) texts) named
      ∙ ap (λ o. or_fault Syntax o >>= λ texts. or_fault UnknownNode (child_named parent member nodes) >>= λ n. with_values nodes n (asked n nodes) texts) keyed
      ∙ ap (λ o. or_fault UnknownNode o >>= λ n. with_values nodes n (asked n nodes) (plain_texts seg.keys)) (named_again seg.node parent h p)
      ∙ with_again seg e

  -- ---- the path

  part_free : (seg : Seg) → is_segment nodes seg ≡ true → is_free 47 (part_text nodes seg) ≡ true
  part_free seg e = free_append 47 (node_at seg.node nodes).member (keys_text 61 seg.keys) (member_free 47 seg.node (segment_within nodes seg e) refl refl) (keys_free 47 61 seg.keys refl refl refl)

  segments_again : (parent : Option ℕ) (seg : Seg) (segs : List Seg) → goes_down nodes parent (seg ∷ segs) ≡ true → has_texts (seg ∷ segs) ≡ true
      → segments_in nodes parent (cut 47 (part_text nodes seg ++ target_text nodes segs)) ≡ Ok (seg ∷ segs)
  segments_again parent seg [] e t =
      let goes = and_parts _ _ e in
      let here = and_parts _ _ goes.0 in
      let read = segment_again parent seg here.0 here.1 (and_parts _ _ t).0 in
      ap (λ l. segments_in nodes parent (cut 47 l)) (append-nil (part_text nodes seg))
      ∙ ap (segments_in nodes parent) (cut_free 47 (part_text nodes seg) (part_free seg here.1))
      ∙ ap (λ r. r >>= λ (s : Seg). segments_in nodes (Some s.node) [] >>= λ rest. Ok (s ∷ rest)) read
  segments_again parent seg (next ∷ segs) e t =
      let goes = and_parts _ _ e in
      let here = and_parts _ _ goes.0 in
      let texts = and_parts _ _ t in
      let read = segment_again parent seg here.0 here.1 texts.0 in
      let parts = cut 47 (part_text nodes next ++ target_text nodes segs) in
      ap (segments_in nodes parent) (cut_at 47 (part_text nodes seg) (part_text nodes next ++ target_text nodes segs) (part_free seg here.1))
      ∙ ap (λ r. r >>= λ (s : Seg). segments_in nodes (Some s.node) parts >>= λ rest. Ok (s ∷ rest)) read
      ∙ ap (λ r. r >>= λ rest. Ok (seg ∷ rest)) (segments_again (Some seg.node) next segs goes.1 texts.1)

  pub target_again : (path : List Seg) → is_path_of nodes path ≡ true → has_texts path ≡ true → target_in nodes (target_text nodes path) ≡ Ok path
  target_again [] e t = let wrong : false ≡ true = e in cc
  target_again (seg ∷ segs) e t = segments_again None seg segs e t

-- the same where each segment was written
pub all_again : (nodes : List SchemaNode) (path items : List Seg) (i : ℕ) (written text : List ℕ) → IsSchema nodes → is_path_of nodes path ≡ true → items ≡ path → length items ≤ i
    → (written ++ target_text nodes (drop i items) ≡ target_text nodes items) × (has_texts (drop i items) ≡ has_texts items) → text ≡ written → target_in nodes text ≡ Ok path
all_again nodes path items i written text schema e same h parts is =
    let none : drop i items ≡ [] = drop_all i items h in
    let whole : written ≡ target_text nodes items = sym (append-nil written) ∙ ap (λ l. written ++ target_text nodes l) (sym none) ∙ parts.0 in
    let texts : has_texts path ≡ true = ap has_texts (sym same) ∙ sym parts.1 ∙ ap has_texts none in
    ap (target_in nodes) (is ∙ whole ∙ ap (target_text nodes) same) ∙ target_again nodes schema path e texts
