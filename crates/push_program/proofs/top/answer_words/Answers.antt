use Rattle.std.proofs.Common.{refl}
use Rattle.push_program.specs.Answers.{Streams}
use Rattle.push_program.specs.Jobs.{job_in}
use Rattle.push_program.proofs.TopLaws.{memory_answers}
use Rattle.push_program.proofs.top.answer_words.Goals as goal

pub returns-in-Err-Memory : goal.returns-in-Err-Memory
returns-in-Err-Memory g c =
    let s : Streams = record {
      left_before = g.S.Source.left c.args.source.now;
      left_after = g.S.Source.left c.args.source.now;
      written_before = g.K.Sink.written c.args.sink.now;
      written_after = g.K.Sink.written c.args.sink.now;
      read_faults_before = g.S.Source.faults c.args.source.now;
      read_faults_after = g.S.Source.faults c.args.source.now;
      write_faults_before = g.K.Sink.faults c.args.sink.now;
      write_faults_after = g.K.Sink.faults c.args.sink.now;
    } in
    memory_answers (job_in c.args.words.now) s (refl, refl) (refl, refl)
