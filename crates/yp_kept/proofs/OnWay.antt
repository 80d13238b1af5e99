-- What is kept, by what stands at the instances on the way to it.
use Rattle.std.proofs.Common.{◌≡◌, ◌<◌, ◌≤◌, ◌+◌, ◌-◌, ℕ, zero, suc, List, [], ◌∷◌, ◌++◌, length, take, get_or, map, refl, sym, ap, subst, ◌∙◌, cond, Bool, true, false, true≢false, ◌||◌, ◌&&◌, Option, Some, None, append_assoc, append-nil, length-append, arith}
use Rattle.std.specs.Prelude.{not, nat_eq, slice_get}
use Rattle.std.specs.List.{list_any, AllByRecursion}
use Rattle.std.proofs.lemmas.Bool.{and_parts}
use Rattle.std.proofs.lemmas.List.Folds.{list_any-append}
use Rattle.std.proofs.Math.Bool.{or-false}
use Rattle.std.proofs.Math.Seq.{take-length, take-nil}
use Rattle.std.proofs.lemmas.Option.{slice_get_past, slice_get-get_or}
use Rattle.std.proofs.lemmas.List.{length-map}
use Rattle.yp_base.specs.declared.path.Seg.{Seg}
use Rattle.yp_base.specs.declared.row.Row.{Row}
use Rattle.yp_schema.specs.declared.schema.SchemaNode.{SchemaNode}
use Rattle.yp_schema.specs.WellFormed.{is_empty}
use Rattle.yp_schema.specs.SchemaLaws.{node_after}
use Rattle.yp_filter.specs.Filters.{Node, Nodes, select, compare, within, unknown, unknown_compare, none, more, of_set, set_size}
use Rattle.yp_filter.specs.Fits.{set_fits}
use Rattle.yp_kept.specs.Matches.{all_hold}
use Rattle.yp_kept.specs.Selection.{only_matches, set_names, set_selects, enters, keeps, node_leads, set_leads, kept}
use Rattle.yp_kept.specs.declared.standing.Standing.{Standing}
use Rattle.yp_kept.specs.Standing.{Stands, standing_view, StandOnWay, child_at, left_by, visits_left, everything, these, node_led, set_led, sets_led, select_child, stands_below, stands_at_top, stand_on, stand_to, is_selected, stands_name, selected_last, named_above, way_keeps, StandsFit, stands_visits}
use Rattle.yp_kept.specs.KeptLaws.{keeps_hold}
use Rattle.yp_kept.proofs.Led.{all_append, below_fits, top_fits, below_few, top_few}

-- ---- tests of some of a list

any_or : (f g : Nodes → Bool) (sets : List Nodes) → list_any (λ set. f set || g set) sets ≡ (list_any f sets || list_any g sets)
any_or f g [] = refl
any_or f g (set ∷ sets) = ap (λ b. (f set || g set) || b) (any_or f g sets) ∙ turned (f set) (g set) (list_any f sets) (list_any g sets)
  where
    turned : (a b c d : Bool) → ((a || b) || (c || d)) ≡ ((a || c) || (b || d))
    turned true b c d = refl
    turned false true true d = refl
    turned false true false d = refl
    turned false false c d = refl

any_and : (b : Bool) (f : Nodes → Bool) (sets : List Nodes) → list_any (λ set. b && f set) sets ≡ (b && list_any f sets)
any_and true f sets = refl
any_and false f [] = refl
any_and false f (set ∷ sets) = any_and false f sets

-- a test that all pass decides nothing
any_held : (h f : Nodes → Bool) (sets : List Nodes) → AllByRecursion (λ set. h set ≡ true) sets → list_any (λ set. h set && f set) sets ≡ list_any f sets
any_held h f [] all = refl
any_held h f (set ∷ sets) all = (λ i. (all.0 i && f set) || any_held h f sets all.1 i)

any_all : (h : Nodes → Bool) (sets : List Nodes) → AllByRecursion (λ set. h set ≡ true) sets → list_any h sets ≡ not (is_empty sets)
any_all h [] all = refl
any_all h (set ∷ sets) all = ap (λ b. b || list_any h sets) all.0

-- ---- lists of standings

abbrev head_or : Stands → List Stands → Stands
head_or stands [] = stands
head_or stands (first ∷ others) = first

abbrev tail_of : List Stands → List Stands
tail_of [] = []
tail_of (first ∷ others) = others

abbrev first_seg : Seg → List Seg → Seg
first_seg seg [] = seg
first_seg seg (first ∷ segs) = first

abbrev segs_after : List Seg → List Seg
segs_after [] = []
segs_after (first ∷ segs) = segs

nothing : (seg : Seg) (segs : List Seg) → seg ∷ segs ≡ [] → ⊥
nothing seg segs is = true≢false (ap (λ (xs : List Seg). not (is_empty xs)) is)

none_mapped : (standings : List Standing) → map standing_view standings ≡ [] → standings ≡ []
none_mapped [] is = refl
none_mapped (one ∷ others) is = absurd (true≢false (ap (λ (xs : List Stands). not (is_empty xs)) is))

none_there : {X : Type 0} (standings : List Standing) → map standing_view standings ≡ [] → (k : ℕ) (standing : Standing) → slice_get standings k ≡ Some standing → X
none_there standings gone k standing found =
    let no : None ≡ Some standing = sym (slice_get_past [] k (omega arith)) ∙ ap (λ xs. slice_get xs k) (sym (none_mapped standings gone)) ∙ found in cc

module _ (nodes : List SchemaNode) (rows : List Row) where
  -- ---- what is led to

  abbrev Hold : List Seg → List Nodes → Type 0
  Hold at sets = AllByRecursion (λ set. all_hold nodes rows at set ≡ true) sets

  one_of : (P : Nodes → Type 0) (gate : Bool) (set : Nodes) → (gate ≡ true → P set) → AllByRecursion P (cond gate (set ∷ []) [])
  one_of P true set is = (is refl, tt)
  one_of P false set is = tt

  -- all match nodes of each set that is led to hold
  node_led_hold : (at : List Seg) (n : ℕ) (node : Node) → Hold at (node_led nodes rows at n node)
  node_led_hold at n (select m) = tt
  node_led_hold at n (compare m value) = tt
  node_led_hold at n (within m set) =
      let gate = nat_eq n m && enters nodes rows at m in
      one_of (λ one. all_hold nodes rows at one ≡ true) (gate && all_hold nodes rows at set) set (λ is. (and_parts gate (all_hold nodes rows at set) is).1)
  node_led_hold at n unknown = tt
  node_led_hold at n unknown_compare = tt

  set_led_hold : (at : List Seg) (n : ℕ) (set : Nodes) → Hold at (set_led nodes rows at n set)
  set_led_hold at n none = tt
  set_led_hold at n (more node set) = all_append (λ one. all_hold nodes rows at one ≡ true) (node_led nodes rows at n node) (set_led nodes rows at n set) (node_led_hold at n node) (set_led_hold at n set)

  led_hold : (at : List Seg) (n : ℕ) (sets : List Nodes) → Hold at (sets_led nodes rows at n sets)
  led_hold at n [] = tt
  led_hold at n (set ∷ sets) = all_append (λ one. all_hold nodes rows at one ≡ true) (set_led nodes rows at n set) (sets_led nodes rows at n sets) (set_led_hold at n set) (led_hold at n sets)

  -- a set that is led to keeps what the containment node does
  one_led : (gate hold keep : Bool) (test : Nodes → Bool) (set : Nodes) → test set ≡ keep → (keep ≡ true → hold ≡ true) → (gate && keep) ≡ list_any test (cond (gate && hold) (set ∷ []) [])
  one_led false hold keep test set is then = refl
  one_led true true keep test set is then = sym (or-false (test set) ∙ is)
  one_led true false true test set is then = absurd (true≢false (sym (then refl)))
  one_led true false false test set is then = refl

  node_leads_led : (at : List Seg) (seg : Seg) (segs : List Seg) (node : Node)
      → node_leads nodes rows node at (seg ∷ segs) ≡ list_any (λ set. keeps nodes rows set (at ++ seg ∷ []) segs) (node_led nodes rows (at ++ seg ∷ []) seg.node node)
  node_leads_led at seg segs (select m) = refl
  node_leads_led at seg segs (compare m value) = refl
  node_leads_led at seg segs (within m set) =
      let deeper = at ++ seg ∷ [] in
      one_led (nat_eq seg.node m && enters nodes rows deeper m) (all_hold nodes rows deeper set) (keeps nodes rows set deeper segs) (λ one. keeps nodes rows one deeper segs) set refl
      (keeps_hold nodes rows set deeper segs (set_leads nodes rows set deeper segs))
  node_leads_led at seg segs unknown = refl
  node_leads_led at seg segs unknown_compare = refl

  set_leads_led : (at : List Seg) (seg : Seg) (segs : List Seg) (set : Nodes)
      → set_leads nodes rows set at (seg ∷ segs) ≡ list_any (λ one. keeps nodes rows one (at ++ seg ∷ []) segs) (set_led nodes rows (at ++ seg ∷ []) seg.node set)
  set_leads_led at seg segs none = refl
  set_leads_led at seg segs (more node set) =
      let deeper = at ++ seg ∷ [] in
      (λ i. node_leads_led at seg segs node i || set_leads_led at seg segs set i)
      ∙ sym (list_any-append (λ one. keeps nodes rows one deeper segs) (node_led nodes rows deeper seg.node node) (set_led nodes rows deeper seg.node set))

  sets_lead_led : (at : List Seg) (seg : Seg) (segs : List Seg) (sets : List Nodes)
      → list_any (λ set. set_leads nodes rows set at (seg ∷ segs)) sets ≡ list_any (λ set. keeps nodes rows set (at ++ seg ∷ []) segs) (sets_led nodes rows (at ++ seg ∷ []) seg.node sets)
  sets_lead_led at seg segs [] = refl
  sets_lead_led at seg segs (set ∷ sets) =
      let deeper = at ++ seg ∷ [] in
      (λ i. set_leads_led at seg segs set i || sets_lead_led at seg segs sets i)
      ∙ sym (list_any-append (λ one. keeps nodes rows one deeper segs) (set_led nodes rows deeper seg.node set) (sets_led nodes rows deeper seg.node sets))

  -- ---- what some sets keep

  -- some of the sets that stand at an instance keep what is left of a path where the row is named, or all below is selected, or some that are led to keep what is left then
  some_keep : (at : List Seg) (seg : Seg) (segs : List Seg) (sets : List Nodes) → Hold at sets
      → list_any (λ set. keeps nodes rows set at (seg ∷ segs)) sets
      ≡ (((is_empty segs && list_any (set_names nodes seg) sets) || select_child seg.node sets) || list_any (λ set. keeps nodes rows set (at ++ seg ∷ []) segs) (sets_led nodes rows (at ++ seg ∷ []) seg.node sets))
  some_keep at seg segs sets hold =
      let named = λ (set : Nodes). is_empty segs && set_names nodes seg set in
      let leads = λ (set : Nodes). set_leads nodes rows set at (seg ∷ segs) in
      any_held (λ set. all_hold nodes rows at set) (λ set. ((named set || only_matches set) || set_selects seg.node set) || leads set) sets hold
      ∙ any_or (λ set. (named set || only_matches set) || set_selects seg.node set) leads sets
      ∙ (λ i. (any_or (λ set. named set || only_matches set) (λ set. set_selects seg.node set) sets i) || list_any leads sets)
      ∙ (λ i. (any_or named only_matches sets i || list_any (set_selects seg.node) sets) || list_any leads sets)
      ∙ ap (λ b. b || list_any leads sets) (turned (list_any named sets) (list_any only_matches sets) (list_any (set_selects seg.node) sets))
      ∙ (λ i. (any_and (is_empty segs) (set_names nodes seg) sets i || sym (any_or only_matches (set_selects seg.node) sets) i) || sets_lead_led at seg segs sets i)
    where
      turned : (a b c : Bool) → ((a || b) || c) ≡ (a || (b || c))
      turned true b c = refl
      turned false b c = refl

  -- what stands keeps of what is left of a path
  abbrev pub stands_keep : Stands → List Seg → List Seg → Bool
  stands_keep everything at rest = true
  stands_keep (these sets) at rest = list_any (λ set. keeps nodes rows set at rest) sets

  abbrev Holds : List Seg → Stands → Type 0
  Holds at everything = Hold at []
  Holds at (these sets) = Hold at sets

  below_holds : (at : List Seg) (n : ℕ) (stands : Stands) → Holds at (stands_below nodes rows at n stands)
  below_holds at n everything = tt
  below_holds at n (these sets) = by (select_child n sets)
    where
      by : (b : Bool) → Holds at (cond b everything (these (sets_led nodes rows at n sets)))
      by true = tt
      by false = led_hold at n sets

  here_kept : (at : List Seg) (stands : Stands) → Holds at stands → stands_keep stands at [] ≡ is_selected stands
  here_kept at everything holds = refl
  here_kept at (these sets) holds = any_all (λ set. all_hold nodes rows at set) sets holds

  -- by what stands one segment down
  below_kept : (at : List Seg) (seg : Seg) (segs : List Seg) (stands : Stands) → Holds at stands
      → stands_keep stands at (seg ∷ segs) ≡ (stands_keep (stands_below nodes rows (at ++ seg ∷ []) seg.node stands) (at ++ seg ∷ []) segs || (is_empty segs && stands_name nodes seg stands))
  below_kept at seg segs everything holds = refl
  below_kept at seg segs (these sets) holds =
      some_keep at seg segs sets holds ∙ by (select_child seg.node sets) (is_empty segs && list_any (set_names nodes seg) sets)
    where
      by : (b named : Bool) → ((named || b) || list_any (λ set. keeps nodes rows set (at ++ seg ∷ []) segs) (sets_led nodes rows (at ++ seg ∷ []) seg.node sets))
          ≡ (stands_keep (cond b everything (these (sets_led nodes rows (at ++ seg ∷ []) seg.node sets))) (at ++ seg ∷ []) segs || named)
      by true true = refl
      by true false = refl
      by false named = turned named (list_any (λ set. keeps nodes rows set (at ++ seg ∷ []) segs) (sets_led nodes rows (at ++ seg ∷ []) seg.node sets))
        where
          turned : (a b : Bool) → ((a || false) || b) ≡ (b || a)
          turned true true = refl
          turned true false = refl
          turned false true = refl
          turned false false = refl

  -- ---- on the way

  -- there is one at each instance
  pub on_way : (at : List Seg) (stands : Stands) (path : List Seg) → length (stand_on nodes rows at stands path) ≡ length path + 1
  on_way at stands [] = omega arith
  on_way at stands (seg ∷ path) = omega (arith, on_way (at ++ seg ∷ []) (stands_below nodes rows (at ++ seg ∷ []) seg.node stands) path)

  first_on : (at : List Seg) (stands : Stands) (path : List Seg) → take 1 (stand_on nodes rows at stands path) ≡ stands ∷ []
  first_on at stands [] = refl
  first_on at stands (seg ∷ path) = refl

  -- the first of some is what stands first
  first_is : (at : List Seg) (stands : Stands) (path : List Seg) (first : Stands) (others : List Stands) (k : ℕ) → first ∷ others ≡ take (suc k) (stand_on nodes rows at stands path) → first ≡ stands
  first_is at stands [] first others k is = ap (head_or stands) is
  first_is at stands (seg ∷ path) first others k is = ap (head_or stands) is

  -- what holds at the first, and one segment down of what it holds at, holds at each
  pub each_on : (P : List Seg → Stands → Type 0) → ((at : List Seg) (seg : Seg) (stands : Stands) → P at stands → P (at ++ seg ∷ []) (stands_below nodes rows (at ++ seg ∷ []) seg.node stands))
      → (at : List Seg) (stands : Stands) (path : List Seg) (standings : List Standing) (k : ℕ) (standing : Standing) → P at stands
      → map standing_view standings ≡ take (length standings) (stand_on nodes rows at stands path) → slice_get standings k ≡ Some standing → P (at ++ take k path) (standing_view standing)
  each_on P step at stands path [] k standing first are found = let no : None ≡ Some standing = found in cc
  each_on P step at stands path (one ∷ others) zero standing first are found =
      let same : one ≡ standing = cc in
      let is : standing_view standing ≡ stands = ap standing_view (sym same) ∙ first_is at stands path (standing_view one) (map standing_view others) (length others) are in
      subst (λ way. P way (standing_view standing)) (sym (append-nil at)) (subst (P at) (sym is) first)
  each_on P step at stands [] (one ∷ others) (suc k) standing first are found =
      let gone : map standing_view others ≡ [] = ap tail_of are ∙ take-nil (length others) in
      none_there others gone k standing found
  each_on P step at stands (seg ∷ path) (one ∷ others) (suc k) standing first are found =
      let deeper = at ++ seg ∷ [] in
      subst (λ way. P way (standing_view standing)) (append_assoc at (seg ∷ []) (take k path))
      (each_on P step deeper (stands_below nodes rows deeper seg.node stands) path others k standing (step at seg stands first) (ap tail_of are) found)

  -- what stands one segment further down
  pub next_on : (at : List Seg) (stands : Stands) (path : List Seg) (standings : List Standing) (k : ℕ) (above next : Standing) → length standings ≡ suc k → k < length path
      → map standing_view standings ≡ take (length standings) (stand_on nodes rows at stands path) → slice_get standings k ≡ Some above
      → standing_view next ≡ stands_below nodes rows (at ++ take (suc k) path) (child_at k path) (standing_view above)
      → map standing_view (standings ++ next ∷ []) ≡ take (suc (suc k)) (stand_on nodes rows at stands path)
  next_on at stands path [] k above next len less are found told = absurd (omega (arith, len))
  next_on at stands [] (one ∷ others) k above next len less are found told = absurd (omega (arith, less))
  next_on at stands (seg ∷ path) (one ∷ []) zero above next len less are found told =
      let same : one ≡ above = cc in
      let deeper = at ++ seg ∷ [] in
      let is : standing_view above ≡ stands = ap standing_view (sym same) ∙ first_is at stands (seg ∷ path) (standing_view one) [] 0 are in
      (λ i. (ap standing_view same ∙ is) i ∷ (told ∙ ap (stands_below nodes rows deeper seg.node) is) i ∷ [])
      ∙ ap (λ (xs : List Stands). stands ∷ xs) (sym (first_on deeper (stands_below nodes rows deeper seg.node stands) path))
  next_on at stands (seg ∷ path) (one ∷ two ∷ others) zero above next len less are found told = absurd (omega (arith, len))
  next_on at stands (seg ∷ path) (one ∷ others) (suc k) above next len less are found told =
      let deeper = at ++ seg ∷ [] in
      let few : length others ≡ suc k = omega (arith, len) in
      let short : k < length path = omega (arith, less) in
      (λ i. first_is at stands (seg ∷ path) (standing_view one) (map standing_view others) (length others) are i
      ∷ next_on deeper (stands_below nodes rows deeper seg.node stands) path others k above next few short (ap tail_of are) found
      (told ∙ ap (λ way. stands_below nodes rows way (child_at k path) (standing_view above)) (sym (append_assoc at (seg ∷ []) (take (suc k) path)))) i)

  -- what stands at the instances that two ways pass
  pub cut_on : (at : List Seg) (stands : Stands) (last path : List Seg) (standings : List Standing) (k : ℕ) → take k last ≡ take k path
      → map standing_view standings ≡ take (length standings) (stand_on nodes rows at stands last)
      → map standing_view (take (suc k) standings) ≡ take (length (take (suc k) standings)) (stand_on nodes rows at stands path)
  cut_on at stands last path [] k same are = refl
  cut_on at stands last path (one ∷ others) zero same are =
      ap (λ (first : Stands). first ∷ []) (first_is at stands last (standing_view one) (map standing_view others) (length others) are) ∙ sym (first_on at stands path)
  cut_on at stands [] path (one ∷ others) (suc k) same are =
      let gone : others ≡ [] = none_mapped others (ap tail_of are ∙ take-nil (length others)) in
      subst (λ xs. map standing_view (one ∷ take (suc k) xs) ≡ take (suc (length (take (suc k) xs))) (stand_on nodes rows at stands path)) (sym gone)
      (ap (λ (first : Stands). first ∷ []) (first_is at stands [] (standing_view one) (map standing_view others) (length others) are) ∙ sym (first_on at stands path))
  cut_on at stands (seg ∷ last) [] (one ∷ others) (suc k) same are = absurd (nothing seg (take k last) same)
  cut_on at stands (seg ∷ last) (other ∷ path) (one ∷ others) (suc k) same are =
      let deeper = at ++ other ∷ [] in
      let one_seg : seg ≡ other = ap (first_seg seg) same in
      let rest : take k last ≡ take k path = ap segs_after same in
      let later = subst (λ s. map standing_view others ≡ take (length others) (stand_on nodes rows (at ++ s ∷ []) (stands_below nodes rows (at ++ s ∷ []) s.node stands) last)) one_seg (ap tail_of are) in
      (λ i. first_is at stands (seg ∷ last) (standing_view one) (map standing_view others) (length others) are i
      ∷ cut_on deeper (stands_below nodes rows deeper other.node stands) last path others k rest later i)

  way_kept : (at : List Seg) (stands : Stands) (path : List Seg) → Holds at stands → stands_keep stands at path ≡ way_keeps nodes (stand_on nodes rows at stands path) path
  way_kept at stands [] holds = here_kept at stands holds ∙ sym (or-false (is_selected stands))
  way_kept at stands (seg ∷ []) holds =
      let deeper = at ++ seg ∷ [] in
      let below = stands_below nodes rows deeper seg.node stands in
      below_kept at seg [] stands holds ∙ ap (λ b. b || stands_name nodes seg stands) (here_kept deeper below (below_holds deeper seg.node stands))
  way_kept at stands (seg ∷ next ∷ path) holds =
      let deeper = at ++ seg ∷ [] in
      let below = stands_below nodes rows deeper seg.node stands in
      let way = stand_on nodes rows deeper below (next ∷ path) in
      let last : length (next ∷ path) - 1 ≡ length path = omega arith in
      let above : suc (length path) ≡ length (seg ∷ next ∷ path) - 1 = omega arith in
      below_kept at seg (next ∷ path) stands holds ∙ or-false (stands_keep below deeper (next ∷ path)) ∙ way_kept deeper below (next ∷ path) (below_holds deeper seg.node stands)
      ∙ ap (λ k. selected_last (slice_get way (length (next ∷ path))) || named_above nodes (slice_get (next ∷ path) k) (slice_get way k)) last
      ∙ ap (λ k. selected_last (slice_get way (length (next ∷ path))) || named_above nodes (slice_get (seg ∷ next ∷ path) k) (slice_get (stands ∷ way) k)) above

  -- a path is kept as what stands on the way to it says
  pub kept_on_way : (set : Nodes) (path : List Seg) → way_keeps nodes (stand_to nodes rows set path) path ≡ kept nodes (of_set set) rows path
  kept_on_way set path =
      sym (way_kept [] (stands_at_top nodes rows set) path (one_of (λ one. all_hold nodes rows [] one ≡ true) (all_hold nodes rows [] set) set (λ is. is)))
      ∙ sym (one_led true (all_hold nodes rows [] set) (keeps nodes rows set [] path) (λ one. keeps nodes rows one [] path) set refl (keeps_hold nodes rows set [] path (set_leads nodes rows set [] path)))

  -- ---- the program's

  -- before the first there is none
  none_yet : (standings : List Standing) → slice_get standings (length standings - 1) ≡ None → standings ≡ []
  none_yet [] found = refl
  none_yet (one ∷ others) found =
      let k = length (one ∷ others) - 1 in
      let no : Some (get_or (one ∷ others) k one) ≡ None = sym (slice_get-get_or (one ∷ others) k one (omega arith)) ∙ found in cc

  last_one : (standings : List Standing) (next : Standing) → slice_get (standings ++ next ∷ []) (length (standings ++ next ∷ []) - 1) ≡ Some next
  last_one standings next = ap (slice_get (standings ++ next ∷ [])) (omega (arith, length-append standings (next ∷ []))) ∙ at standings
    where
      at : (standings : List Standing) → slice_get (standings ++ next ∷ []) (length standings) ≡ Some next
      at [] = refl
      at (one ∷ others) = at others

  module _ (set : Nodes) where
    -- what stands at the top stands first
    pub first_stands : (path : List Seg) (standings : List Standing) (next : Standing) → slice_get standings (length standings - 1) ≡ None → standing_view next ≡ stands_at_top nodes rows set → StandOnWay nodes rows set path (standings ++ next ∷ [])
    first_stands path standings next gone told =
        subst (λ xs. StandOnWay nodes rows set path (xs ++ next ∷ [])) (sym (none_yet standings gone))
        (ap (λ (stands : Stands). stands ∷ []) told ∙ sym (first_on [] (stands_at_top nodes rows set) path))

    -- and below each what stands one segment down
    pub next_stands : (path : List Seg) (standings : List Standing) (above next : Standing) → StandOnWay nodes rows set path standings → length standings ≤ length path → slice_get standings (length standings - 1) ≡ Some above
        → standing_view next ≡ stands_below nodes rows (take (length standings - 1 + 1) path) (child_at (length standings - 1) path) (standing_view above) → StandOnWay nodes rows set path (standings ++ next ∷ [])
    next_stands path [] above next stand short found told = let no : None ≡ Some above = found in cc
    next_stands path (one ∷ others) above next stand short found told =
        let k = length others in
        let before : length (one ∷ others) - 1 ≡ k = omega arith in
        let more : length (one ∷ others) - 1 + 1 ≡ suc k = omega arith in
        let all : suc (suc k) ≡ length ((one ∷ others) ++ next ∷ []) = omega (arith, length-append (one ∷ others) (next ∷ [])) in
        next_on [] (stands_at_top nodes rows set) path (one ∷ others) k above next refl (omega (arith, short)) stand (ap (slice_get (one ∷ others)) (sym before) ∙ found)
        (told ∙ (λ i. stands_below nodes rows (take (more i) path) (child_at (before i) path) (standing_view above)))
        ∙ ap (λ n. take n (stand_to nodes rows set path)) all

    -- the last of what stands fits
    pub last_fits : (path : List Seg) (standings : List Standing) (k : ℕ) (above : Standing) → set_fits nodes None set ≡ true → StandOnWay nodes rows set path standings → slice_get standings k ≡ Some above
        → StandsFit nodes (node_after None (take k path)) (standing_view above)
    last_fits path standings k above fits stand found =
        each_on (λ at stands. StandsFit nodes (node_after None at) stands) (below_fits nodes rows) [] (stands_at_top nodes rows set) path standings k above (top_fits nodes rows set fits) stand found

    -- what stands leaves no more visits than there are nodes of the filter
    pub left_few : (path : List Seg) (standings : List Standing) → StandOnWay nodes rows set path standings → visits_left set standings ≤ set_size set
    left_few path standings stand = by (slice_get standings (length standings - 1)) refl
      where
        by : (found : Option Standing) → slice_get standings (length standings - 1) ≡ found → left_by set found ≤ set_size set
        by None is = omega arith
        by (Some above) is =
            each_on (λ at stands. stands_visits stands ≤ set_size set) (λ at seg stands. below_few nodes rows (at ++ seg ∷ []) seg.node (set_size set) stands) [] (stands_at_top nodes rows set) path standings (length standings - 1) above (top_few nodes rows set) stand is

    pub left_last : (standings : List Standing) (next : Standing) → visits_left set (standings ++ next ∷ []) ≡ stands_visits (standing_view next)
    left_last standings next = ap (left_by set) (last_one standings next)

    -- where all stand that there are, they are those
    pub all_stand : (path : List Seg) (standings : List Standing) → StandOnWay nodes rows set path standings → length standings ≡ length path + 1 → map standing_view standings ≡ stand_to nodes rows set path
    all_stand path standings stand all =
        stand ∙ ap (λ n. take n (stand_to nodes rows set path)) (all ∙ sym (on_way [] (stands_at_top nodes rows set) path)) ∙ take-length (stand_to nodes rows set path)

    pub stand_long : (path : List Seg) (standings : List Standing) → map standing_view standings ≡ stand_to nodes rows set path → length standings ≡ length path + 1
    stand_long path standings are = sym (length-map standings standing_view) ∙ ap (λ (xs : List Stands). length xs) are ∙ on_way [] (stands_at_top nodes rows set) path

    pub cut_stands : (last path : List Seg) (standings : List Standing) (k : ℕ) → take k last ≡ take k path → StandOnWay nodes rows set last standings → StandOnWay nodes rows set path (take (suc k) standings)
    cut_stands last path standings k same stand = cut_on [] (stands_at_top nodes rows set) last path standings k same stand
