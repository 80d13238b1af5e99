use Rattle.std.proofs.Common.{◌∙◌, ap}
use Rattle.yp_value.specs.Enumerations.{in_byte_order}
use Rattle.yp_value.proofs.ByteOrder.{sorted_is}
use Rattle.yp_value.proofs.enumeration.sort_names.Goals as goal

pub returns : goal.returns
returns c =
    let order = c.in_ok-sort.ensures in
    sorted_is c.in_ok-sorted.sorted.items c.sort.new.self.items order.permutation order.sorted ∙ ap in_byte_order c.in_ok-sorted.ensures
