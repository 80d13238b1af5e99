use Rattle.std.proofs.Common.{◌≡◌, ℕ, List, [], drop}
use Rattle.serde_json.specs.View.{items_view}
use Rattle.yp_base.specs.Types.{is_among}
use Rattle.yp_nacm_text.specs.Members.{each_in}
use Rattle.yp_nacm_text.specs.Policies.{names_group, next_group}
use Rattle.yp_nacm_text.proofs.group.read_groups.Given as goal

-- the groups so far, and after them the others, are all; their names are taken
abbrev pub invariant-loop-item : goal.invariant-loop-item
invariant-loop-item l = record {
  read : each_in next_group l.groups.items (items_view (drop l.item-index l.items)) ≡ each_in next_group [] (items_view l.fn.items);
  names : (text : List ℕ) → is_among text l.names ≡ names_group l.groups.items text;
}
