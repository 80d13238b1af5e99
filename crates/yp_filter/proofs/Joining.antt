-- What is read piece by piece.
use Rattle.std.proofs.Common.{◌≡◌, ℕ, zero, suc, ◌<◌, List, [], ◌∷◌, ◌++◌, length, Bool, true, false, refl, sym, ap, ◌∙◌, append_assoc, arith, Option}
use Rattle.std.specs.Prelude.{Result, Ok, Err, IsTrue, ◌↔◌}
use Rattle.serde_json.specs.View.{members_view}
use Rattle.serde_json.proofs.Views.{Entry}
use Rattle.yp_filter.specs.declared.fault.FilterFault.{FilterFault}
use Rattle.yp_filter.specs.declared.fault.FilterFault.TheVariants.{TooDeep}
use Rattle.yp_filter.specs.Filters.{Node}
use Rattle.yp_filter.specs.Reading.{after_these, joined, containment, of_object}
use Rattle.yp_filter.specs.View.{nodes_of}

-- with the first nodes added, the rest is added to them
pub joined_more : (before now : List Node) (first rest : Result (List Node) FilterFault) → after_these before first ≡ Ok now → after_these now rest ≡ after_these before (joined first rest)
joined_more before now (Err fault) rest e = let no : ⊥ = cc in absurd no
joined_more before now (Ok list) (Err fault) e = refl
joined_more before now (Ok list) (Ok rest) e =
    let same : before ++ list ≡ now = cc in
    ap (λ (nodes : List Node). Ok (nodes ++ rest)) (sym same) ∙ ap (λ (nodes : List Node). Ok nodes) (append_assoc before list rest)

module _ (named : Option ℕ) where
  -- an object that isn't empty, where no set may nest
  pub too_deep : (room : ℕ) (entries : List Entry) (empty : Bool) (set : Result (List Node) FilterFault) → IsTrue empty ↔ (length entries ≡ 0) → empty ≡ false → room ≡ 0
      → of_object room named (members_view entries) set ≡ Err TooDeep
  too_deep room [] empty set h is_no e = let yes : empty ≡ true = h.1 refl in let wrong : ⊥ = cc in absurd wrong
  too_deep zero (entry ∷ entries) empty set h is_no e = refl
  too_deep (suc room) (entry ∷ entries) empty set h is_no e = absurd (omega (arith, e))

  -- one where sets may nest
  pub nests : (room : ℕ) (entries : List Entry) (empty : Bool) (set : Result (List Node) FilterFault) (list : List Node) → IsTrue empty ↔ (length entries ≡ 0) → empty ≡ false → 0 < room → set ≡ Ok list
      → of_object room named (members_view entries) set ≡ Ok (containment named (nodes_of list))
  nests room [] empty set list h is_no more e = let yes : empty ≡ true = h.1 refl in let wrong : ⊥ = cc in absurd wrong
  nests zero (entry ∷ entries) empty set list h is_no more e = absurd (omega (arith, more))
  nests (suc room) (entry ∷ entries) empty (Ok nodes) list h is_no more e = let same : nodes ≡ list = cc in ap (λ (l : List Node). Ok (containment named (nodes_of l))) same
  nests (suc room) (entry ∷ entries) empty (Err fault) list h is_no more e = let wrong : ⊥ = cc in absurd wrong
