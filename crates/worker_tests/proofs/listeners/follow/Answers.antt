use Rattle.std.proofs.Common.{◌∙◌, ap, sym}
use Rattle.yp_journal.specs.History.{JournalState, first_state, next_state}
use Rattle.yp_listeners.proofs.Results.{when_ok}
use Rattle.yp_listeners.proofs.Going.{still_ready}
use Rattle.worker_tests.proofs.listeners.follow.Goals as goal

pub returns-clause-ready : goal.returns-clause-ready
returns-clause-ready c =
    let is = c.requires.ready in
    when_ok c.serve_entry.result c.serve_entry.ensures.served (λ served.
    still_ready c.args.schema.now is.start is.receivers is.mine _ is.run c.serve_entry.new.worker c.serve_entry.new.listeners.items (served is.start is.receivers is.mine is.entries is.run is.served))

pub returns-clause-same : goal.returns-clause-same
returns-clause-same c =
    let is = c.requires.ready in
    let nodes = c.args.schema.now in
    when_ok c.serve_entry.result c.serve_entry.ensures.served (λ served.
    (served is.start is.receivers is.mine is.entries is.run is.served).served.idle.followed.state
    ∙ (c.a_journal_goes_on_entry_by_entry.ensures.entries nodes (first_state is.receivers) is.entries _
    ∙ (ap (λ (state : JournalState). next_state nodes state c.args.command) (sym is.served.idle.followed.state ∙ c.requires.same) ∙ sym c.in_ok-outcome.ensures.state)))

pub returns-clause-receivers : goal.returns-clause-receivers
returns-clause-receivers c = when_ok c.serve_entry.result c.serve_entry.ensures.served (λ served. c.accept.ensures.receivers)

pub returns-clause-position : goal.returns-clause-position
returns-clause-position c = when_ok c.serve_entry.result c.serve_entry.ensures.served (λ served. c.in_ok-outcome.ensures.position)
