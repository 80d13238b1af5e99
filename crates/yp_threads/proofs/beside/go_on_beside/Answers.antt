use Rattle.std.proofs.lemmas.Result.{IfOk-weaker}
use Rattle.yp_threads.proofs.beside.go_on_beside.Goals as goal

pub returns-clause-served : goal.returns-clause-served
returns-clause-served g c =
    IfOk-weaker c.live.result _ _
    (λ beside goes start workers worker before runs legal begun are.
    c.crews_go_on_by_threads.ensures c.args.schema.now c.args.state start c.args.receivers.now workers worker before beside.entries.items runs c.args.crews.items beside.crews.items legal begun are goes) c.live.ensures.crews
