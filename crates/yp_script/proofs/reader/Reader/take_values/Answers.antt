use Rattle.yp_script.proofs.StepLaws.{adds_takes}
use Rattle.yp_script.proofs.reader.Reader.take_values.Goals as goal

pub returns-in-Start : goal.returns-in-Start
returns-in-Start c = rw c.in-Start.is (adds_takes c.take_start.result c.args.self.now c.take_start.new.self c.args.line _ c.take_start.ensures)

pub returns-in-Receiver : goal.returns-in-Receiver
returns-in-Receiver c = rw c.in-Receiver.is (adds_takes c.take_receiver.result c.args.self.now c.take_receiver.new.self c.args.line _ c.take_receiver.ensures)

pub returns-in-Command : goal.returns-in-Command
returns-in-Command c = rw c.in-Command.is (adds_takes c.take_command.result c.args.self.now c.take_command.new.self c.args.line _ c.take_command.ensures)

pub returns-in-Lanes : goal.returns-in-Lanes
returns-in-Lanes c = rw c.in-Lanes.is (adds_takes c.take_lanes.result c.args.self.now c.take_lanes.new.self c.args.line _ c.take_lanes.ensures)
