-- The numbers of nodes are their places.
use Rattle.std.proofs.Common.{◌≡◌, ℕ, ◌+◌, List, [], ◌∷◌, ◌++◌, length, refl, ap, ◌∙◌, Less, Greater, arith}
use Rattle.std.specs.Ordering.{ordering_reverse}
use Rattle.std.specs.BTreeMap.{insert_entry}
use Rattle.std.specs.Map.{keys_of}
use Rattle.std.specs.List.{AllByRecursion}
use Rattle.std.specs.List.Sorted.{IsStrictlySortedBy}
use Rattle.yp_schema.specs.declared.listing.Listed.{Listed}
use Rattle.yp_names.specs.Names.{Names, names_cmp, names_total}
use Rattle.yp_schema.specs.Rounds.{Nodes}
use Rattle.yp_schema.specs.Reading.{numbers_from}

between : (first : Names) (es : Nodes) (e : Names × Listed) (more : Nodes) → AllByRecursion (λ y. names_cmp first y ≡ Less) (keys_of (es ++ e ∷ more)) → names_cmp first e.0 ≡ Less
between first [] e more h = h.0
between first (x ∷ es) e more h = between first es e more h.1

-- a path past those before it goes last
pub path_last : (from : ℕ) (done : Nodes) (e : Names × Listed) (more : Nodes) (place : ℕ) → place ≡ from + length done → IsStrictlySortedBy names_cmp (keys_of (done ++ e ∷ more))
    → insert_entry names_cmp (numbers_from from done) e.0 place ≡ numbers_from from (done ++ e ∷ [])
unfolding IsStrictlySortedBy
path_last from [] e more place is h = ap (λ n. (e.0, n) ∷ []) (is ∙ omega arith)
path_last from (first ∷ done) e more place is h =
    let above : names_cmp e.0 first.0 ≡ Greater = names_total.antisymm e.0 first.0 ∙ ap ordering_reverse (between first.0 done e more h.0) in
    rw above (ap (λ es. (first.0, from) ∷ es) (path_last (from + 1) done e more place (is ∙ omega arith) h.1))

pub length_more : {X : Type 0} (done : List X) (e : X) → length done + 1 ≡ length (done ++ e ∷ [])
length_more [] e = refl
length_more (x ∷ done) e = omega (arith, length_more done e)
