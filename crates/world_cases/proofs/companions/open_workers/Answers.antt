use Rattle.std.proofs.Common.{◌≡◌, ◌+◌, ◌++◌, ◌∷◌, [], List, length, ap, arith, length-append}
use Rattle.std.proofs.lemmas.List.Elements.{All-push, All-same}
use Rattle.yp_attempt.specs.Workers.{numbers_of}
use Rattle.yp_worker.specs.declared.worker.Worker.{Worker}
use Rattle.world_cases.specs.Companions.{Accompanies}
use Rattle.world_cases.proofs.companions.open_workers.Goals as goal

pub loop-worker-preserved : goal.loop-worker-preserved
loop-worker-preserved c =
    let receivers = c.args.receivers.now in
    let before : List Worker = c.loop-worker.opened.items in
    let one : Worker = c.in_ok-open.field-0 in
    let here : Accompanies c.args.schema.now receivers one = record {
      start = c.args.start.now;
      mine = numbers_of c.loop-worker.worker c.args.workers (length receivers);
      entries = [];
      answers = [];
      stands = c.in_ok-open.ensures.stands;
    } in
    let items : c.push.new.self.items ≡ before ++ one ∷ [] = c.in_ok-push.ensures.items in
    record {
      count = omega (arith, ap length items, length-append before (one ∷ []), c.loop-worker.invariant.count);
      stand = All-same (Accompanies c.args.schema.now receivers) c.push.new.self.items (before ++ one ∷ []) items
          (All-push (Accompanies c.args.schema.now receivers) before one c.loop-worker.invariant.stand here);
    }
