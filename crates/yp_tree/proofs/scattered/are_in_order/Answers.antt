use Rattle.std.proofs.Common.{length, refl, sym}
use Rattle.std.proofs.lemmas.Bool.{ltb-true}
use Rattle.std.proofs.lemmas.Option.{slice_get_read}
use Rattle.yp_tree.proofs.Merging.{none_ordered}
use Rattle.yp_tree.proofs.scattered.are_in_order.Goals as goal

pub returns-in-None : goal.returns-in-None
returns-in-None c = λ all. none_ordered c.args.rows.now c.args.places.now c.in-None.ensures.cases

pub follow_in_order-requires : goal.follow_in_order-requires
follow_in_order-requires c =
    slice_get_read c.args.rows.now (length c.args.rows.now) c.in-Some.parts.0.now c.in-Some-get.row.now refl
    (ltb-true c.in-Some.parts.0.now (length c.args.rows.now) (sym c.in-Some-get.ensures.lookup.0)) c.in-Some-get.ensures.lookup.1
