-- Edits read one after another.
use Rattle.std.proofs.Common.{◌≡◌, ℕ, ◌+◌, ◌<◌, List, [], ◌∷◌, ◌++◌, length, drop, get_or, refl, sym, ap, ◌∙◌, append_assoc}
use Rattle.std.proofs.lemmas.List.{drop_more}
use Rattle.serde_json.specs.declared.value.Value.{Value}
use Rattle.serde_json.specs.View.{view, items_view}
use Rattle.std.specs.Prelude.{Option, Some, None, option_map, option_and_then}
use Rattle.serde_json.specs.Data.{Data, Items, item}
use Rattle.serde_json.specs.Find.{as_object}
use Rattle.yp_patch.specs.declared.patch.Edit.{Edit}
use Rattle.yp_patch.specs.Shapes.{edit_in, edits_in}

at_rest : (done : List Edit) (edit : Edit) (read : Option (List Edit)) → option_map (λ rest. (done ++ edit ∷ []) ++ rest) read ≡ option_map (λ rest. done ++ rest) (option_map (λ edits. edit ∷ edits) read)
at_rest done edit None = refl
at_rest done edit (Some rest) = ap (λ (edits : List Edit). Some edits) (append_assoc done (edit ∷ []) rest)

-- with one more edit the rest is read as before
pub one_more : (done : List Edit) (edit : Edit) (d : Data) (ds : Items) → option_and_then edit_in (as_object d) ≡ Some edit → option_map (λ rest. (done ++ edit ∷ []) ++ rest) (edits_in ds) ≡ option_map (λ rest. done ++ rest) (edits_in (item d ds))
one_more done edit d ds read =
    at_rest done edit (edits_in ds)
    ∙ ap (λ (first : Option Edit). option_map (λ rest. done ++ rest) (option_and_then (λ edit. option_map (λ edits. edit ∷ edits) (edits_in ds)) first)) (sym read)

pub one_more_at : (items : List Value) (i : ℕ) (x : Value) (done now : List Edit) (edit : Edit) (all : Option (List Edit)) → i < length items → x ≡ get_or items i x → option_and_then edit_in (as_object (view x)) ≡ Some edit → now ≡ done ++ edit ∷ []
    → option_map (λ rest. done ++ rest) (edits_in (items_view (drop i items))) ≡ all → option_map (λ rest. now ++ rest) (edits_in (items_view (drop (i + 1) items))) ≡ all
one_more_at items i x done now edit all here is read grown so_far =
    let first : drop i items ≡ x ∷ drop (i + 1) items = drop_more items i x here ∙ ap (λ y. y ∷ drop (i + 1) items) (sym is) in
    ap (λ (edits : List Edit). option_map (λ rest. edits ++ rest) (edits_in (items_view (drop (i + 1) items)))) grown
    ∙ one_more done edit (view x) (items_view (drop (i + 1) items)) read
    ∙ ap (λ (vs : List Value). option_map (λ rest. done ++ rest) (edits_in (items_view vs))) (sym first)
    ∙ so_far
