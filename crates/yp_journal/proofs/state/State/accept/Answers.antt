use Rattle.yp_journal.specs.declared.command.Command.TheVariants.{Establish, Modify, Delete, Kill, Resync, Configure, Reconfigure, Unconfigure}
use Rattle.yp_journal.proofs.Refusals.{alone_by}
use Rattle.yp_journal.proofs.state.State.accept.Goals as goal

pub returns-in-Establish-clause-refused : goal.returns-in-Establish-clause-refused
returns-in-Establish-clause-refused c = alone_by c.establish.result c.args.schema.now c.establish.new.self c.args.self.now (Establish c.in-Establish.by c.in-Establish.ask) c.establish.ensures.state c.establish.ensures.outcome

pub returns-in-Modify-clause-refused : goal.returns-in-Modify-clause-refused
returns-in-Modify-clause-refused c = alone_by c.modify.result c.args.schema.now c.modify.new.self c.args.self.now (Modify c.in-Modify.by c.in-Modify.id c.in-Modify.amend) c.modify.ensures.state c.modify.ensures.outcome

pub returns-in-Delete-clause-refused : goal.returns-in-Delete-clause-refused
returns-in-Delete-clause-refused c = alone_by c.delete.result c.args.schema.now c.delete.new.self c.args.self.now (Delete c.in-Delete.by c.in-Delete.id) c.delete.ensures.state c.delete.ensures.outcome

pub returns-in-Kill-clause-refused : goal.returns-in-Kill-clause-refused
returns-in-Kill-clause-refused c = alone_by c.kill.result c.args.schema.now c.kill.new.self c.args.self.now (Kill c.in-Kill.by c.in-Kill.id) c.kill.ensures.state c.kill.ensures.outcome

pub returns-in-Resync-clause-refused : goal.returns-in-Resync-clause-refused
returns-in-Resync-clause-refused c = alone_by c.resync.result c.args.schema.now c.resync.new.self c.args.self.now (Resync c.in-Resync.by c.in-Resync.id) c.resync.ensures.state c.resync.ensures.outcome

pub returns-in-Configure-clause-refused : goal.returns-in-Configure-clause-refused
returns-in-Configure-clause-refused c = alone_by c.configure.result c.args.schema.now c.configure.new.self c.args.self.now (Configure c.in-Configure.id c.items.result.now c.in-Configure.ask) c.configure.ensures.state c.configure.ensures.outcome

pub returns-in-Reconfigure-clause-refused : goal.returns-in-Reconfigure-clause-refused
returns-in-Reconfigure-clause-refused c = alone_by c.reconfigure.result c.args.schema.now c.reconfigure.new.self c.args.self.now (Reconfigure c.in-Reconfigure.id c.in-Reconfigure.amend) c.reconfigure.ensures.state c.reconfigure.ensures.outcome

pub returns-in-Unconfigure-clause-refused : goal.returns-in-Unconfigure-clause-refused
returns-in-Unconfigure-clause-refused c = alone_by c.unconfigure.result c.args.schema.now c.unconfigure.new.self c.args.self.now (Unconfigure c.in-Unconfigure.id) c.unconfigure.ensures.state c.unconfigure.ensures.outcome

pub returns-in-Delete-clause-registry : goal.returns-in-Delete-clause-registry
returns-in-Delete-clause-registry c = c.delete.ensures.kept c.args.schema.now

pub returns-in-Kill-clause-registry : goal.returns-in-Kill-clause-registry
returns-in-Kill-clause-registry c = c.kill.ensures.kept c.args.schema.now

pub returns-in-Unconfigure-clause-registry : goal.returns-in-Unconfigure-clause-registry
returns-in-Unconfigure-clause-registry c = c.unconfigure.ensures.kept c.args.schema.now
