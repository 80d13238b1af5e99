-- The members of a JSON value have their names once.
use Rattle.std.proofs.Common.{◌≡◌, List, [], ◌∷◌, None, Some, refl, ap, ◌∙◌, String, Global, string_bytes, string_cmp, Less}
use Rattle.std.specs.List.{AllByRecursion}
use Rattle.std.specs.List.Sorted.{IsStrictlySortedBy}
use Rattle.std.specs.Map.{keys_of}
use Rattle.std.specs.Ordering.{match_ordering}
use Rattle.serde_json.specs.Find.{get_member}
use Rattle.serde_json.specs.View.{view, members_view}
use Rattle.serde_json.proofs.Views.{Entry}
use Rattle.yp_data_json.specs.Holding.{HasNamesOnce, MembersHaveNamesOnce}

-- a name before all others is none of them
none_later : (name : String Global) (rest : List Entry) → AllByRecursion (λ k. string_cmp name k ≡ Less) (keys_of rest) → get_member (string_bytes name) (members_view rest) ≡ None
none_later name [] h = refl
none_later name (e ∷ rest) h =
    ap (λ o. match_ordering o (get_member (string_bytes name) (members_view rest)) (Some (view e.1)) (get_member (string_bytes name) (members_view rest))) h.0 ∙ none_later name rest h.1

pub sorted_rest : (e : Entry) (rest : List Entry) → IsStrictlySortedBy string_cmp (keys_of (e ∷ rest)) → IsStrictlySortedBy string_cmp (keys_of rest)
unfolding IsStrictlySortedBy
sorted_rest e rest h = h.1

-- one more member in front, in the order of names
pub names_in_front : (e : Entry) (rest : List Entry) → IsStrictlySortedBy string_cmp (keys_of (e ∷ rest)) → HasNamesOnce (view e.1) → MembersHaveNamesOnce (members_view rest) → MembersHaveNamesOnce (members_view (e ∷ rest))
unfolding IsStrictlySortedBy
names_in_front e rest sorted here later = (none_later e.0 rest sorted.0, here, later)
