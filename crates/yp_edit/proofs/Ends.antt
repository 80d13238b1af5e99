-- The end of a path.
use Rattle.std.proofs.Common.{◌≡◌, ℕ, ◌<◌, ◌==◌, Bool, true, false, true≢false, not, ◌&&◌, List, [], ◌∷◌, ◌++◌, length, map, take, append-nil, append_assoc, arith, suc, ◌+◌, ◌-◌, Option, Some, None, refl, sym, ap, subst, ◌∙◌, IfSome}
use Rattle.std.specs.List.{AllByRecursion, list_all}
use Rattle.std.proofs.lemmas.Bool.{and_parts}
use Rattle.std.proofs.lemmas.List.{length-append}
use Rattle.std.proofs.lemmas.List.Folds.{list_all-map}
use Rattle.yp_base.specs.declared.path.Seg.{Seg}
use Rattle.yp_schema.specs.declared.schema.SchemaNode.{SchemaNode}
use Rattle.yp_base.specs.Paths.{same_number, last_node}
use Rattle.yp_schema.specs.Nodes.{node_at}
use Rattle.yp_schema.specs.SchemaLaws.{segment_within, path_end}
use Rattle.yp_schema.specs.Datastore.{is_segment, goes_down, is_path_of, is_place, ends_in_key}
use Rattle.yp_edit.specs.Patches.{paths_above}

cut_behind : (above : List Seg) (seg : Seg) (more : List Seg) → take (suc (length above)) (above ++ seg ∷ more) ≡ above ++ seg ∷ []
cut_behind [] seg more = refl
cut_behind (first ∷ above) seg more = ap (λ (path : List Seg). first ∷ path) (cut_behind above seg more)

-- the first segments of a path, without those that are left after one, are those before it and itself
pub first_to : (above : List Seg) (seg : Seg) (more target rest longer : List Seg) (all left : ℕ) → above ++ rest ≡ target → rest ≡ seg ∷ more → all ≡ length target → left ≡ length more → longer ≡ take (all - left) target → longer ≡ above ++ seg ∷ []
first_to above seg more target rest longer all left whole split all_are left_are is =
    let both : above ++ seg ∷ more ≡ target = ap (λ (path : List Seg). above ++ path) (sym split) ∙ whole in
    let count : all ≡ length above + suc (length more) = all_are ∙ ap length (sym both) ∙ length-append above (seg ∷ more) in
    let here : all - left ≡ suc (length above) = omega (arith, count, left_are) in
    is ∙ (λ i. take (here i) (sym both i)) ∙ cut_behind above seg more

-- the node that a path of a schema ends in is one of the schema's
pub end_within : (nodes : List SchemaNode) (path : List Seg) (n : ℕ) → is_path_of nodes path ≡ true → last_node path ≡ Some n → n < length nodes
end_within nodes path n is last = subst (λ (o : Option ℕ). IfSome o (λ n. n < length nodes)) last (path_end nodes path is)

goes_all : (nodes : List SchemaNode) (parent : Option ℕ) (path : List Seg) → goes_down nodes parent path ≡ true → AllByRecursion (λ seg. seg.node < length nodes) path
goes_all nodes parent [] down = tt
goes_all nodes parent (seg ∷ path) down =
    let here = and_parts (same_number (node_at seg.node nodes).parent parent && is_segment nodes seg) (goes_down nodes (Some seg.node) path) down in
    (segment_within nodes seg (and_parts (same_number (node_at seg.node nodes).parent parent) (is_segment nodes seg) here.0).1, goes_all nodes (Some seg.node) path here.1)

-- the nodes of a path of a schema are the schema's
pub each_within : (nodes : List SchemaNode) (path : List Seg) → is_path_of nodes path ≡ true → AllByRecursion (λ seg. seg.node < length nodes) path
each_within nodes [] is = tt
each_within nodes (seg ∷ path) is = goes_all nodes None (seg ∷ path) is

-- data may stand at a path that ends in no key leaf
pub may_stand : (nodes : List SchemaNode) (path : List Seg) (ends : Bool) → is_path_of nodes path ≡ true → ends ≡ ends_in_key nodes path → ends ≡ false → is_place nodes path ≡ true
may_stand nodes [] ends is key other = refl
may_stand nodes (seg ∷ path) ends is key other = ap (λ b. b && not (ends_in_key nodes (seg ∷ path))) is ∙ ap not (sym key ∙ other)

-- ---- the paths above a path

module _ (t : List Seg → Bool) where
  -- of the paths above one that goes on from a front, the front is the first
  front_passes : (front : List Seg) (seg : Seg) (rest : List Seg) → t front ≡ true → list_all (λ above. t (front ++ above)) (paths_above (seg ∷ rest)) ≡ list_all (λ above. t ((front ++ seg ∷ []) ++ above)) (paths_above rest)
  front_passes front seg rest here =
      ap (λ b. b && list_all (λ above. t (front ++ above)) (map (λ above. seg ∷ above) (paths_above rest))) (ap t (append-nil front) ∙ here)
      ∙ list_all-map (λ above. t (front ++ above)) (λ (above : List Seg). seg ∷ above) (paths_above rest)
      ∙ (λ i. list_all (λ above. t (sym (append_assoc front (seg ∷ []) above) i)) (paths_above rest))

  -- with one more segment the paths above go on
  pub one_further : (front longer : List Seg) (seg : Seg) (rest more : List Seg) (b : Bool) → rest ≡ seg ∷ more → longer ≡ front ++ seg ∷ [] → t front ≡ true → list_all (λ above. t (front ++ above)) (paths_above rest) ≡ b → list_all (λ above. t (longer ++ above)) (paths_above more) ≡ b
  one_further front longer seg rest more b split is here so_far =
      (λ i. list_all (λ above. t (is i ++ above)) (paths_above more))
      ∙ sym (front_passes front seg more here)
      ∙ ap (λ (segs : List Seg). list_all (λ above. t (front ++ above)) (paths_above segs)) (sym split)
      ∙ so_far

  -- where a path above doesn't pass, they don't all
  pub one_fails : (front rest : List Seg) (empty b : Bool) → empty ≡ (length rest == 0) → empty ≡ false → t front ≡ false → list_all (λ above. t (front ++ above)) (paths_above rest) ≡ b → false ≡ b
  one_fails front [] empty b is not here so_far = absurd (true≢false (sym is ∙ not))
  one_fails front (seg ∷ rest) empty b is not here so_far =
      sym (ap (λ b. b && list_all (λ above. t (front ++ above)) (map (λ above. seg ∷ above) (paths_above rest))) (ap t (append-nil front) ∙ here)) ∙ so_far
