use Rattle.yp_journal.specs.History.{next_state}
use Rattle.yp_moment.proofs.Doing.{refused_quiet}
use Rattle.yp_moment.proofs.acts.a_refused_command_does_nothing.Goals as goal

pub returns : goal.returns
returns c nodes state entry refused = refused_quiet entry.command entry.reply (next_state nodes state entry.command) refused
