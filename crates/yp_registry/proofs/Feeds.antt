-- How many feeds live subscriptions are.
use Rattle.std.proofs.Common.{◌≡◌, ℕ, suc, ◌+◌, ◌<◌, length, drop, get_or, arith, List, [], ◌∷◌, ◌++◌, ap, ◌∙◌}
use Rattle.std.proofs.Math.Seq.{drop-cons}
use Rattle.std.proofs.lemmas.List.Sums.{sum_by-cons, sum_by_push}
use Rattle.yp_terms.specs.Terms.{Terms}
use Rattle.yp_registry.specs.Registry.{feeds}

-- those from a place on are those there and those after it
pub feeds_from : (live : List Terms) (i : ℕ) (other : Terms) → i < length live → feeds (drop i live) ≡ length (get_or live i other).receivers + feeds (drop (i + 1) live)
feeds_from live i other lt =
    let e : suc i ≡ i + 1 = omega arith in
    ap feeds (drop-cons live i other lt)
    ∙ sum_by-cons (λ (terms : Terms). length terms.receivers) (get_or live i other) (drop (suc i) live)
    ∙ ap (λ n. length (get_or live i other).receivers + feeds (drop n live)) e

-- one subscription more adds a feed for each of its receivers
pub feeds_pushed : (live : List Terms) (terms : Terms) → feeds (live ++ terms ∷ []) ≡ feeds live + length terms.receivers
feeds_pushed live terms = sum_by_push (λ (terms : Terms). length terms.receivers) live terms
