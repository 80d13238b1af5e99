use Rattle.std.proofs.Common.{List, [], ◌∷◌, sym, ap, subst, ◌∙◌}
use Rattle.std.specs.List.{AllByRecursion}
use Rattle.yp_attempt.specs.ListLaws.{all_append}
use Rattle.yp_listeners.specs.declared.listener.Listener.{Listener}
use Rattle.yp_listeners.specs.Listeners.{IsListenerOf, numbers_in}
use Rattle.yp_crews.proofs.Opening.{no_listener_more, one_listener_more}
use Rattle.yp_crews.proofs.crew.open_listeners.Goals as goal
use Rattle.yp_crews.proofs.crew.open_listeners.Goals.{then-number-workers+in_ok-push, else-number-workers}

pub loop-number-preserved : goal.loop-number-preserved
loop-number-preserved c =
    let before : List Listener = c.loop-number.listeners.items in
    let so_far = c.loop-number.invariant in
    elim c.if-number-workers.branch [
      | then-number-workers+in_ok-push w ↦
          let one : Listener = w.new_listener.result in
          record {
            each = ap (λ listeners. numbers_in listeners.items) w.listeners-is
                ∙ (ap numbers_in w.in_ok-push.ensures.items
                ∙ one_listener_more c.args.worker c.args.workers c.loop-number.number before one so_far.each w.new_listener.ensures.receiver w.if-number-workers.true);
            opened = λ nodes start.
                subst (AllByRecursion (IsListenerOf nodes start [])) (sym (ap (λ listeners. listeners.items) w.listeners-is ∙ w.in_ok-push.ensures.items))
                (all_append (IsListenerOf nodes start []) before (one ∷ []) (so_far.opened nodes start) (w.new_listener.ensures.opened nodes start, tt));
          }
      | else-number-workers w ↦
          record {
            each = ap (λ listeners. numbers_in listeners.items) w.listeners-is
                ∙ no_listener_more c.args.worker c.args.workers c.loop-number.number before so_far.each w.if-number-workers.false;
            opened = λ nodes start. subst (AllByRecursion (IsListenerOf nodes start [])) (sym (ap (λ listeners. listeners.items) w.listeners-is)) (so_far.opened nodes start);
          }
    ]
