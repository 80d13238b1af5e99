use Rattle.std.proofs.Common.{◌∙◌, ◌++◌, ◌∷◌, [], List, ap, subst, sym}
use Rattle.yp_listeners.specs.declared.listener.Listener.{Listener}
use Rattle.yp_listeners.specs.Listeners.{IsReady}
use Rattle.yp_listeners.proofs.Going.{opened_ready}
use Rattle.worker_tests.proofs.listeners.open.Goals as goal

pub returns-clause-ready : goal.returns-clause-ready
returns-clause-ready c =
    let nodes = c.args.schema.now in
    let worker = c.in_ok-worker.worker in
    let listener : Listener = record { receiver = 0; log = c.new.result; heard = c.new-2.result } in
    subst (λ (listeners : List Listener). IsReady nodes worker listeners) (sym (c.in_ok-push.ensures.items ∙ ap (λ (listeners : List Listener). listeners ++ listener ∷ []) c.new-listeners.ensures.items))
    (opened_ready nodes c.args.start.now _ _ worker listener c.in_ok-worker.ensures.idle c.new.ensures.items c.new-2.ensures)
