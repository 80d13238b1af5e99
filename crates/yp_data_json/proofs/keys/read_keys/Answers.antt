use Rattle.std.proofs.Common.{sym, ◌∙◌}
use Rattle.serde_json.specs.View.{members_view}
use Rattle.yp_data_json.specs.Reading.{keys_found}
use Rattle.yp_data_json.proofs.KeyLaws.{step_key, step_fault}
use Rattle.yp_data_json.proofs.keys.read_keys.Goals as goal
use Rattle.yp_data_json.proofs.keys.read_keys.Goals.{in-Ok+in_ok-push-in-Ok, in-Err}

pub loop-node-preserved : goal.loop-node-preserved
loop-node-preserved c =
    let l = c.loop-node in
    let nodes = c.args.schema.now in
    let ms = members_view c.args.members.now.entries in
    elim c.match-branch-3.branch [
      | in-Ok+in_ok-push-in-Ok w ↦
          let step = step_key nodes l.first l.keys.items c.args.nodes.now l.node-index ms w.in-Ok.key (keys_found nodes c.args.nodes.now ms) c.loop-node-test.true (sym w.in-Ok.is ∙ c.in_ok-key.ensures.read) l.invariant.1 in
          rw (w.first-is, w.keys-is, w.in_ok-push-in-Ok.ensures.items) (l.invariant.0, step)
      | in-Err w ↦
          let step = step_fault nodes l.first l.keys.items c.args.nodes.now l.node-index ms w.in-Err.fault (keys_found nodes c.args.nodes.now ms) c.loop-node-test.true (sym w.in-Err.is ∙ c.in_ok-key.ensures.read) l.invariant.1 in
          rw (w.first-is, w.keys-is, w.earliest_fault.ensures.fault) (rw w.earliest_fault.ensures.fault at w.earliest_fault.ensures.within, step)
    ]
