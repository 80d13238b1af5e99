-- When two filters say the same: node for node, in order.
use Rattle.std.specs.Prelude.{◌&&◌, Bool, true, false, nat_eq}
use Rattle.yp_base.specs.Rows.{same_value}
use Rattle.yp_filter.specs.Filters.{Node, Nodes, select, compare, within, unknown, unknown_compare, none, more}

abbrev mutual
  pub same_node : Node → Node → Bool
  same_node (select n) (select m) = nat_eq n m
  same_node (compare n one) (compare m other) = nat_eq n m && same_value one other
  same_node (within n one) (within m other) = nat_eq n m && same_set one other
  same_node unknown unknown = true
  same_node unknown_compare unknown_compare = true
  same_node one other = false

  pub same_set : Nodes → Nodes → Bool
  same_set none none = true
  same_set (more one ones) (more other others) = same_node one other && same_set ones others
  same_set ones others = false
