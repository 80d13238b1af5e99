use Rattle.std.proofs.Common.{◌++◌, ◌∷◌, []}
use Rattle.yp_attempt.specs.Attempts.{answers_in}
use Rattle.yp_attempt.specs.Runs.{Run, run_advanced}
use Rattle.yp_journal.specs.History.{first_state, state_of}
use Rattle.yp_moment.specs.Entries.{moment_of}
use Rattle.yp_moment.specs.Windows.{recorded}
use Rattle.yp_listeners.specs.Listeners.{HasServed, IsServedOn}
use Rattle.yp_listeners.proofs.Results.{when_ok}
use Rattle.yp_listeners.proofs.Going.{entered}
use Rattle.yp_listeners.proofs.serving.serve_entry.Goals as goal

pub absorb-requires-clause-idle : goal.absorb-requires-clause-idle
absorb-requires-clause-idle c =
    let is = c.requires.ready in
    record { start = is.start; receivers = is.receivers; mine = is.mine; entries = is.entries; answers = answers_in is.run.done; idle = is.served.idle }

pub answer_all-requires : goal.answer_all-requires
answer_all-requires c =
    let is = c.requires.ready in
    let nodes = c.args.schema.now in
    let entry = c.args.entry.now in
    record {
      start = is.start;
      receivers = is.receivers;
      mine = is.mine;
      entries = is.entries ++ entry ∷ [];
      run = run_advanced recorded is.mine (moment_of nodes (state_of nodes (first_state is.receivers) is.entries) entry) is.run;
      served = entered c.a_worker_offers_what_its_run_offers.ensures.idle c.one_entry_more_is_one_moment_more.ensures c.entries_of_a_legal_journal_may_follow.ensures nodes is.start is.receivers is.mine is.entries entry is.run
          c.args.worker.now c.absorb.new.self c.args.listeners.now.items is.served (c.in_ok-absorb.ensures.stands is.start is.receivers is.mine is.entries (answers_in is.run.done) is.served.idle);
    }

pub returns-clause-served : goal.returns-clause-served
returns-clause-served c =
    let nodes = c.args.schema.now in
    let entry = c.args.entry.now in
    when_ok c.answer_all.result c.answer_all.ensures.served (λ all start receivers mine entries run served.
    let next : Run = run_advanced recorded mine (moment_of nodes (state_of nodes (first_state receivers) entries) entry) run in
    let way : HasServed nodes start receivers mine (entries ++ entry ∷ []) next c.absorb.new.self c.args.listeners.now.items =
    entered c.a_worker_offers_what_its_run_offers.ensures.idle c.one_entry_more_is_one_moment_more.ensures c.entries_of_a_legal_journal_may_follow.ensures nodes start receivers mine entries entry run
    c.args.worker.now c.absorb.new.self c.args.listeners.now.items served (c.in_ok-absorb.ensures.stands start receivers mine entries (answers_in run.done) served.idle) in
    let on : IsServedOn nodes start receivers mine (entries ++ entry ∷ []) next c.answer_all.new.worker c.answer_all.new.listeners.items = all start receivers mine (entries ++ entry ∷ []) next way in
    record { run = on.run; only = record { more = on.only.more; done = on.only.done; took = on.only.took }; served = on.served })
