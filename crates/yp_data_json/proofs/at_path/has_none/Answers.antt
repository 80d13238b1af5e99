use Rattle.std.proofs.Common.{◌≡◌, suc, Bool, true, false, List, [], ◌∷◌, length, refl, arith}
use Rattle.std.specs.Prelude.{IsTrue, ◌↔◌}
use Rattle.serde_json.specs.View.{members_view}
use Rattle.serde_json.proofs.Views.{Entry}
use Rattle.yp_data_json.specs.AtPath.{has_no_members}
use Rattle.yp_data_json.proofs.at_path.has_none.Goals as goal

bare_is : (entries : List Entry) (answer : Bool) → IsTrue answer ↔ (length entries ≡ 0) → answer ≡ has_no_members (members_view entries)
bare_is [] answer h = h.1 refl
bare_is (entry ∷ entries) false h = refl
bare_is (entry ∷ entries) true h = let none : suc (length entries) ≡ 0 = h.0 refl in absurd (omega arith)

pub returns : goal.returns
returns c = bare_is c.args.members.now.entries c.is_empty.result c.is_empty.ensures
