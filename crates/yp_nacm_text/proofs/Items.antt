-- The items of an array, read one after another.
use Rattle.std.proofs.Common.{◌≡◌, ℕ, ◌+◌, ◌<◌, List, [], ◌∷◌, ◌++◌, length, drop, get_or, sym, ap, ◌∙◌}
use Rattle.std.specs.Prelude.{Result, Ok}
use Rattle.std.proofs.lemmas.List.{drop_more}
use Rattle.serde_json.specs.Data.{Data}
use Rattle.serde_json.specs.View.{view, items_view}
use Rattle.serde_json.specs.declared.value.Value.{Value}
use Rattle.yp_base.specs.Results.{◌>>=◌}
use Rattle.yp_nacm_text.specs.declared.fault.PolicyFault.{PolicyFault}
use Rattle.yp_nacm_text.specs.declared.fault.PolicyFault.TheVariants.{At, Memory}
use Rattle.yp_nacm_text.specs.Faults.{Fault, Tells}
use Rattle.yp_nacm_text.specs.Members.{each_in}

module _ {X : Type 0} (read : List X → Data → Result X Fault) (items : List Value) (i : ℕ) (item : Value) (before : List X) (got : Result X Fault) (here : i < length items) (is : item ≡ get_or items i item) (as_read : got ≡ read before (view item)) where
  -- what the next item gives decides on it and the others
  next : (got >>= λ x. each_in read (before ++ x ∷ []) (items_view (drop (i + 1) items))) ≡ each_in read before (items_view (drop i items))
  next =
      ap (λ (first : Result X Fault). first >>= λ x. each_in read (before ++ x ∷ []) (items_view (drop (i + 1) items))) as_read
      ∙ ap (λ values. each_in read before (items_view values)) (ap (λ value. value ∷ drop (i + 1) items) is ∙ sym (drop_more items i item here))

  -- with one more the others are read as before
  pub each_more : (after : List X) (x : X) → got ≡ Ok x → after ≡ before ++ x ∷ [] → each_in read after (items_view (drop (i + 1) items)) ≡ each_in read before (items_view (drop i items))
  each_more after x one grown =
      ap (λ (done : List X). each_in read done (items_view (drop (i + 1) items))) grown
      ∙ ap (λ (first : Result X Fault). first >>= λ y. each_in read (before ++ y ∷ []) (items_view (drop (i + 1) items))) (sym one)
      ∙ next

  -- its fault is that of all
  pub each_fault : (error : PolicyFault) → Tells error got → Tells error (each_in read before (items_view (drop i items)))
  each_fault (At place kind) told = sym next ∙ ap (λ (first : Result X Fault). first >>= λ x. each_in read (before ++ x ∷ []) (items_view (drop (i + 1) items))) told
  each_fault Memory told = tt
