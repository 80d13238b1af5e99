use Rattle.std.proofs.Common.{◌+◌, ◌∷◌, [], take}
use Rattle.yp_followers.proofs.Journals.{legal_next, one_taken}
use Rattle.yp_followers.proofs.Following.{still_up, takes_more, takes_none}
use Rattle.yp_followers.proofs.Outboxes.{same_boxes, same_through}
use Rattle.yp_followers.proofs.follower.take_all.Goals as goal

pub loop-entry-init : goal.loop-entry-init
loop-entry-init g c = record {
  ready = c.requires.ready;
  legal = c.requires.legal;
  taken = takes_none c.args.schema.now c.args.worker.now c.args.outboxes.now.items;
  same = same_boxes c.args.outboxes.now.items;
}

pub loop-entry-preserved : goal.loop-entry-preserved
loop-entry-preserved g c =
    let nodes = c.args.schema.now in
    let fresh = c.args.fresh.now in
    let index = c.loop-entry.entry-index in
    let entry = c.entry-item.result in
    let boxes = c.args.outboxes.now.items in
    let between = c.loop-entry.outboxes.items in
    let left = c.take_in.new.outboxes.items in
    record {
      ready = still_up nodes c.loop-entry.worker c.take_in.new.worker between left (entry ∷ []) c.loop-entry.invariant.ready c.in_ok-take_in.ensures.taken;
      legal = legal_next nodes c.loop-entry.worker.state c.take_in.new.worker.state fresh index entry c.loop-entry-test.true c.entry-item.is c.loop-entry.invariant.legal c.in_ok-take_in.ensures.state;
      taken =
          takes_more nodes c.args.worker.now c.loop-entry.worker boxes between (take index fresh) (entry ∷ []) (take (index + 1) fresh) c.take_in.new.worker left (one_taken fresh index entry c.loop-entry-test.true c.entry-item.is)
          c.loop-entry.invariant.taken c.in_ok-take_in.ensures.taken;
      same = same_through boxes between left c.loop-entry.invariant.same c.take_in.ensures.same;
    }

pub returns-in_err-take_in-clause-same : goal.returns-in_err-take_in-clause-same
returns-in_err-take_in-clause-same g c = same_through c.args.outboxes.now.items c.loop-entry.outboxes.items c.take_in.new.outboxes.items c.loop-entry.invariant.same c.take_in.ensures.same
