use Rattle.std.proofs.Common.{◌≡◌, ◌∙◌, ◌∷◌, [], ℕ, List, true≢false, refl, ap, sym, subst}
use Rattle.std.specs.List.{AllByRecursion}
use Rattle.std.specs.List.Sorted.{IsStrictlySortedBy}
use Rattle.yp_base.specs.declared.notice.Notice.TheVariants.{Full}
use Rattle.yp_base.specs.declared.row.Row.{Row}
use Rattle.yp_base.specs.Rows.{AreInOrder}
use Rattle.yp_schema.specs.declared.schema.SchemaNode.{SchemaNode}
use Rattle.yp_schema.specs.Datastore.{AreWritable}
use Rattle.yp_receiver.specs.Held.{hears}
use Rattle.receiver_tests.proofs.report.no_rows_held.Goals as goal

none_in_order : AreInOrder []
unfolding IsStrictlySortedBy
none_in_order = tt

none_writable : (nodes : List SchemaNode) → AreWritable nodes [] []
none_writable nodes = record { place = refl; in_order = none_in_order; of_schema = tt; within = tt; leaf = λ leaf. absurd (true≢false (sym leaf)) }

pub returns : goal.returns
returns c = λ nodes.
    let held : c.hear.new.self ≡ (9, []) ∷ [] = c.in_ok-hear.ensures.heard ∙ ((λ i. hears (Full 9 (c.from_vec-rows.ensures i)) (c.new-trees.ensures i)) ∙ ap (λ (rows : List Row). hears (Full 9 rows) []) c.new.ensures.items) in
    subst (λ (trees : List (ℕ × List Row)). AllByRecursion (λ tree. AreWritable nodes [] tree.1) trees) (sym held) (none_writable nodes, tt)
