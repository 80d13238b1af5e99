use Rattle.std.proofs.Common.{◌∙◌, rules, ℕ, List}
use Rattle.std.specs.Ordering.{nat_cmp}
use Rattle.std.specs.Cmp.Lexicographic.{slice_cmp}
use Rattle.std.proofs.lemmas.Fn.{always_returns_same}
use Rattle.yp_value.proofs.Named.{found_named}
use Rattle.yp_value.proofs.text.is_named.Goals as goal

-- each call compares a name with the text
pub returns : goal.returns
returns c =
    let facts = c.binary_search_by-found.ensures in
    let by_text = facts.position (λ (name : List ℕ). slice_cmp nat_cmp name c.args.text.now) (always_returns_same _ _ _ (λ a r g called. (search rules, search rules))) in
    c.is_ok.ensures.value ∙ found_named c.args.text.now c.args.names.now c.binary_search_by-found.result c.requires (rw c.items.ensures at facts.bound) (rw c.items.ensures at by_text)
