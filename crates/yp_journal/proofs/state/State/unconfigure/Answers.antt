use Rattle.std.proofs.Common.{ap}
use Rattle.yp_journal.specs.History.{JournalState}
use Rattle.yp_journal.proofs.Answering.{kept}
use Rattle.yp_journal.proofs.state.State.unconfigure.Goals as goal

pub returns-clause-kept : goal.returns-clause-kept
returns-clause-kept c = λ nodes.
    kept nodes c.args.self.now.registry c.self.inside.registry c.unconfigure-answer.new.self c.answer.new.self.registry (ap (λ (s : JournalState). s.registry) c.self.view_is) (c.unconfigure-answer.ensures.kept nodes) c.answer.ensures.registry
