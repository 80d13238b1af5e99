use Rattle.std.proofs.Common.{ap, ◌+◌, string_bytes}
use Rattle.yp_encode.proofs.Edits.{sendable_here}
use Rattle.yp_encode.proofs.Told.{one_told, all_told}
use Rattle.yp_encode.proofs.contents.push_edits.Goals as goal

pub push_edit-requires : goal.push_edit-requires
push_edit-requires c = (sendable_here c.args.schema.now c.loop-change.change-index c.args.changes.now c.change-item.result c.loop-change-test.true c.change-item.is c.loop-change.invariant.sendable).0

pub loop-change-preserved : goal.loop-change-preserved
loop-change-preserved c = record {
  count = ap (λ n. n + 1) c.loop-change.invariant.count;
  sendable = (sendable_here c.args.schema.now c.loop-change.change-index c.args.changes.now c.change-item.result c.loop-change-test.true c.change-item.is c.loop-change.invariant.sendable).1;
  all = one_told c.args.schema.now c.loop-change.number c.loop-change.change-index c.args.changes.now c.change-item.result c.loop-change.later (string_bytes c.loop-change.text) (string_bytes c.push_comma.new.text) (string_bytes c.push_edit.new.text) _
      c.loop-change-test.true c.change-item.is c.in_ok-push_comma.ensures c.in_ok-push_edit.ensures c.loop-change.invariant.all;
}

pub returns : goal.returns
returns c =
    all_told c.args.schema.now c.loop-change.number c.loop-change.change-index c.args.changes.now c.loop-change.later (string_bytes c.loop-change.text) (string_bytes c.push_str.new.self) _
    c.loop-change-test.false c.in_ok-push_str.ensures.bytes c.loop-change.invariant.all
