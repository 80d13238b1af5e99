use Rattle.std.proofs.Common.{ℕ, List, refl, subst}
use Rattle.push_program.specs.declared.job.Job.TheVariants.{Live}
use Rattle.push_program.specs.Answers.{Streams}
use Rattle.push_program.specs.Making.{AnswersBytes}
use Rattle.push_program.proofs.TopLaws.{with_reading, writing_of}
use Rattle.push_program.proofs.top.live_call.Goals as goal

pub returns : goal.returns
returns g c =
    let s : Streams = record {
      left_before = g.S.Source.left c.args.source.now;
      left_after = g.S.Source.left c.read_whole.new.source;
      written_before = g.K.Sink.written c.args.sink.now;
      written_after = g.K.Sink.written c.answer_live.new.sink;
      read_faults_before = g.S.Source.faults c.args.source.now;
      read_faults_after = g.S.Source.faults c.read_whole.new.source;
      write_faults_before = g.K.Sink.faults c.args.sink.now;
      write_faults_after = g.K.Sink.faults c.answer_live.new.sink;
    } in
    with_reading (Live c.args.workers) s c.in-Ok.whole.bytes c.in-Ok.whole.over c.answer_live.result refl c.in-Ok.ensures.whole c.in-Ok.ensures.cause
    (subst (λ (bytes : List ℕ). AnswersBytes (Live c.args.workers) bytes (writing_of s) c.answer_live.result) c.items.ensures c.answer_live.ensures)
