use Rattle.push_program.specs.declared.job.Job.TheVariants.{Live}
use Rattle.push_program.specs.Making.{Writing}
use Rattle.push_program.proofs.TopLaws.{made_answers}
use Rattle.push_program.proofs.top.answer_live.Goals as goal

pub returns : goal.returns
returns g c =
    let w : Writing = record { before = g.K.Sink.written c.args.sink.now; after = g.K.Sink.written c.write_made.new.sink; faults_before = g.K.Sink.faults c.args.sink.now; faults_after = g.K.Sink.faults c.write_made.new.sink } in
    made_answers (Live c.args.workers) c.args.bytes.now w c.live_text.result c.write_made.result c.live_text.ensures c.write_made.ensures
