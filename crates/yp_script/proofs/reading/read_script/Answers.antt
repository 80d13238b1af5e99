use Rattle.std.proofs.Common.{IfOk, List, ℕ, ◌∙◌, subst}
use Rattle.yp_script.specs.Readings.{Gives}
use Rattle.yp_script.specs.Lines.{lines_from, pieces_of}
use Rattle.yp_script.specs.Script.{AreInOrder, script_of}
use Rattle.yp_script.proofs.Counting.{read_count}
use Rattle.yp_script.proofs.Keeping.{read_keeps, read_receivers, read_lanes, read_commands, take_least}
use Rattle.yp_script.proofs.OrderLaws.{read_in_order}
use Rattle.yp_script.proofs.reading.read_script.Goals as goal

pub returns-clause-read : goal.returns-clause-read
returns-clause-read c =
    subst (λ (text : List ℕ). Gives c.read_text.result (script_of text)) (c.split_at.ensures.front ∙ take_least c.args.bytes.now 67108865 c.min.result c.min.ensures) c.read_text.ensures.read

pub returns-clause-order : goal.returns-clause-order
returns-clause-order c =
    subst (λ (text : List ℕ). IfOk c.read_text.result (λ script. AreInOrder (lines_from 0 0 (pieces_of text)))) (c.split_at.ensures.front ∙ take_least c.args.bytes.now 67108865 c.min.result c.min.ensures)
    (read_in_order c.read_text.result c.split_at.result.0.now c.read_text.ensures.read)

pub returns-clause-receivers : goal.returns-clause-receivers
returns-clause-receivers c = read_receivers c.read_text.result (read_keeps c.read_text.result c.split_at.result.0.now c.read_text.ensures.read)

pub returns-clause-lanes : goal.returns-clause-lanes
returns-clause-lanes c = read_lanes c.read_text.result (read_keeps c.read_text.result c.split_at.result.0.now c.read_text.ensures.read)

pub returns-clause-commands : goal.returns-clause-commands
returns-clause-commands c = read_commands c.a_read_command_may_come.ensures c.read_text.result (read_keeps c.read_text.result c.split_at.result.0.now c.read_text.ensures.read) c.read_text.ensures.bounds

pub returns-clause-count : goal.returns-clause-count
returns-clause-count c = read_count c.read_text.result c.split_at.result.0.now c.read_text.ensures.read
