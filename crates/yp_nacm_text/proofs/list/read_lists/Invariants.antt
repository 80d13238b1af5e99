use Rattle.std.proofs.Common.{◌≡◌, ℕ, List, [], drop}
use Rattle.std.specs.Prelude.{All}
use Rattle.serde_json.specs.View.{items_view}
use Rattle.yp_base.specs.Types.{is_among}
use Rattle.yp_nacm_text.specs.Members.{each_in}
use Rattle.yp_nacm.specs.Policies.{IsListOf}
use Rattle.yp_nacm_text.specs.Policies.{names_list, next_list}
use Rattle.yp_nacm_text.proofs.list.read_lists.Given as goal

-- the rule lists so far, and after them the others, are all; their names are taken, and their paths are of the schema
abbrev pub invariant-loop-item : goal.invariant-loop-item
invariant-loop-item l = record {
  read : each_in (next_list l.schema) l.lists.items (items_view (drop l.item-index l.items)) ≡ each_in (next_list l.schema) [] (items_view l.fn.items);
  names : (text : List ℕ) → is_among text l.names ≡ names_list l.lists.items text;
  paths : All (IsListOf l.schema) l.lists.items;
}
