use Rattle.yp_path.proofs.Back.{all_again}
use Rattle.yp_path.proofs.Fits.{path_item, segment_written}
use Rattle.yp_schema.specs.SchemaLaws.{segment_within}
use Rattle.yp_path.proofs.target.write_target.Goals as goal

pub push_segment-requires-clause-node : goal.push_segment-requires-clause-node
push_segment-requires-clause-node c =
    segment_within c.args.schema.now c.segment-item.result (path_item c.args.schema.now _ _ _ _ c.requires c.items-segment-items.ensures c.loop-segment-test.true c.segment-item.is)

pub push_segment-requires-clause-keys : goal.push_segment-requires-clause-keys
push_segment-requires-clause-keys c =
    segment_written c.args.schema.now c.segment-item.result c.count-count.ensures.schema (path_item c.args.schema.now _ _ _ _ c.requires c.items-segment-items.ensures c.loop-segment-test.true c.segment-item.is)

pub returns-clause-again : goal.returns-clause-again
returns-clause-again c =
    all_again c.args.schema.now c.args.path.now _ c.loop-segment.segment-index _ _ c.count-count.ensures.schema c.requires c.items-segment-items.ensures c.loop-segment-test.false c.loop-segment.invariant c.in_ok-written.ensures
