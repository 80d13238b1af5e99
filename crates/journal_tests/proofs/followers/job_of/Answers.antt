use Rattle.std.proofs.Common.{◌≡◌, ℕ, List, [], ◌∷◌, ◌++◌, refl, sym, ap, subst, ◌∙◌, length}
use Rattle.yp_schema.specs.declared.schema.SchemaNode.{SchemaNode}
use Rattle.yp_journal.specs.declared.entry.Entry.{Entry}
use Rattle.yp_journal.specs.declared.receiver.ReceiverInfo.{ReceiverInfo}
use Rattle.yp_journal.specs.History.{JournalState, first_state}
use Rattle.yp_attempt.specs.Runs.{first_run, opened}
use Rattle.yp_attempt.specs.Workers.{numbers_of}
use Rattle.yp_published.specs.Reads.{Reading, fresh_reading}
use Rattle.yp_worker.specs.declared.worker.Worker.{Worker}
use Rattle.yp_worker.specs.Workers.{IsIdleWorkerOf}
use Rattle.yp_followers.specs.declared.outbox.Outbox.{Outbox}
use Rattle.yp_followers.specs.Followers.{IsReady}
use Rattle.yp_followers.proofs.Fulls.{not_none}
use Rattle.journal_tests.proofs.followers.job_of.Goals as goal

-- a worker that was opened, with an outbox that was
opened_ready : (nodes schema : List SchemaNode) (opening : JournalState) (receivers : List ReceiverInfo) (reader : Reading) (start : ℕ) (mine : List ℕ) (worker : Worker) (box : Outbox) → schema ≡ nodes → opening ≡ first_state receivers → reader ≡ fresh_reading
    → IsIdleWorkerOf schema start receivers mine [] [] worker → box.log.items ≡ [] → box.send.sent ≡ [] → IsReady nodes opening reader.got.entries worker (box ∷ [])
opened_ready nodes schema opening receivers reader start mine worker box same begun fresh idle log sent =
    let none : reader.got.entries ≡ [] = ap (λ (r : Reading). r.got.entries) fresh in
    subst (λ (those : List SchemaNode). IsReady those opening reader.got.entries worker (box ∷ [])) same
    (subst (λ (those : List Entry). IsReady schema opening those worker (box ∷ [])) (sym none)
    (record {
      start = start;
      receivers = receivers;
      mine = mine;
      before = [];
      opened = [];
      legal = tt;
      begun = begun;
      ready = record {
        run = first_run;
        since = [];
        done = refl;
        idle = idle;
        reaches = opened;
        outboxes = (record { log = log; sent = sent; fulls = λ before a after is full. not_none before a after is }, tt);
      };
    }))

pub returns : goal.returns
returns g c =
    let nodes = g.J.Naming.nodes in
    let opening = g.J.Naming.opening in
    let box : Outbox = record { receiver = 0; send = c.in_ok-send.send; log = c.new.result } in
    let items : c.push.new.self.items ≡ box ∷ [] = c.in_ok-push.ensures.items ∙ ap (λ (those : List Outbox). those ++ box ∷ []) c.in_ok-outboxes.ensures.items in
    subst (λ (those : List Outbox). IsReady nodes opening c.args.reader.got.entries c.in_ok-worker.worker those) (sym items)
    (opened_ready nodes c.args.schema.now opening c.args.receivers.now c.args.reader c.args.start.now (numbers_of 0 1 (length c.args.receivers.now)) c.in_ok-worker.worker box c.requires.schema c.requires.opening c.requires.fresh c.in_ok-worker.ensures.idle
    c.new.ensures.items c.in_ok-send.ensures.sent)
