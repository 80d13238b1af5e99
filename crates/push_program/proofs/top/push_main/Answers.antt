use Rattle.push_program.specs.Answers.{Streams}
use Rattle.push_program.specs.Jobs.{job_in}
use Rattle.push_program.proofs.StatusLaws.{words_told, unread_told, aside_told, done_told, end_told, read_told, script_told, stream_told, manual_told, reading_told, writing_told, front_told, unwritten_told, complete_told}
use Rattle.push_program.proofs.top.push_main.Goals as goal

pub returns-clause-words : goal.returns-clause-words
returns-clause-words g c =
    let s : Streams = record {
      left_before = g.S.Source.left c.args.source.now;
      left_after = g.S.Source.left c.answer_words.new.source;
      written_before = g.K.Sink.written c.args.sink.now;
      written_after = g.K.Sink.written c.answer_words.new.sink;
      read_faults_before = g.S.Source.faults c.args.source.now;
      read_faults_after = g.S.Source.faults c.answer_words.new.source;
      write_faults_before = g.K.Sink.faults c.args.sink.now;
      write_faults_after = g.K.Sink.faults c.answer_words.new.sink;
    } in
    words_told (job_in c.args.words.now) s c.answer_words.result c.answer_words.ensures

pub returns-clause-unread : goal.returns-clause-unread
returns-clause-unread g c =
    let s : Streams = record {
      left_before = g.S.Source.left c.args.source.now;
      left_after = g.S.Source.left c.answer_words.new.source;
      written_before = g.K.Sink.written c.args.sink.now;
      written_after = g.K.Sink.written c.answer_words.new.sink;
      read_faults_before = g.S.Source.faults c.args.source.now;
      read_faults_after = g.S.Source.faults c.answer_words.new.source;
      write_faults_before = g.K.Sink.faults c.args.sink.now;
      write_faults_after = g.K.Sink.faults c.answer_words.new.sink;
    } in
    unread_told (job_in c.args.words.now) s c.answer_words.result c.answer_words.ensures

pub returns-clause-aside : goal.returns-clause-aside
returns-clause-aside g c =
    let s : Streams = record {
      left_before = g.S.Source.left c.args.source.now;
      left_after = g.S.Source.left c.answer_words.new.source;
      written_before = g.K.Sink.written c.args.sink.now;
      written_after = g.K.Sink.written c.answer_words.new.sink;
      read_faults_before = g.S.Source.faults c.args.source.now;
      read_faults_after = g.S.Source.faults c.answer_words.new.source;
      write_faults_before = g.K.Sink.faults c.args.sink.now;
      write_faults_after = g.K.Sink.faults c.answer_words.new.sink;
    } in
    aside_told (job_in c.args.words.now) s c.answer_words.result c.answer_words.ensures

pub returns-clause-told : goal.returns-clause-told
returns-clause-told g c =
    let s : Streams = record {
      left_before = g.S.Source.left c.args.source.now;
      left_after = g.S.Source.left c.answer_words.new.source;
      written_before = g.K.Sink.written c.args.sink.now;
      written_after = g.K.Sink.written c.answer_words.new.sink;
      read_faults_before = g.S.Source.faults c.args.source.now;
      read_faults_after = g.S.Source.faults c.answer_words.new.source;
      write_faults_before = g.K.Sink.faults c.args.sink.now;
      write_faults_after = g.K.Sink.faults c.answer_words.new.sink;
    } in
    done_told (job_in c.args.words.now) s c.answer_words.result c.answer_words.ensures

pub returns-clause-end : goal.returns-clause-end
returns-clause-end g c =
    let s : Streams = record {
      left_before = g.S.Source.left c.args.source.now;
      left_after = g.S.Source.left c.answer_words.new.source;
      written_before = g.K.Sink.written c.args.sink.now;
      written_after = g.K.Sink.written c.answer_words.new.sink;
      read_faults_before = g.S.Source.faults c.args.source.now;
      read_faults_after = g.S.Source.faults c.answer_words.new.source;
      write_faults_before = g.K.Sink.faults c.args.sink.now;
      write_faults_after = g.K.Sink.faults c.answer_words.new.sink;
    } in
    end_told (job_in c.args.words.now) s c.answer_words.result c.answer_words.ensures

pub returns-clause-read : goal.returns-clause-read
returns-clause-read g c =
    let s : Streams = record {
      left_before = g.S.Source.left c.args.source.now;
      left_after = g.S.Source.left c.answer_words.new.source;
      written_before = g.K.Sink.written c.args.sink.now;
      written_after = g.K.Sink.written c.answer_words.new.sink;
      read_faults_before = g.S.Source.faults c.args.source.now;
      read_faults_after = g.S.Source.faults c.answer_words.new.source;
      write_faults_before = g.K.Sink.faults c.args.sink.now;
      write_faults_after = g.K.Sink.faults c.answer_words.new.sink;
    } in
    read_told (job_in c.args.words.now) s c.answer_words.result c.answer_words.ensures

pub returns-clause-script : goal.returns-clause-script
returns-clause-script g c =
    let s : Streams = record {
      left_before = g.S.Source.left c.args.source.now;
      left_after = g.S.Source.left c.answer_words.new.source;
      written_before = g.K.Sink.written c.args.sink.now;
      written_after = g.K.Sink.written c.answer_words.new.sink;
      read_faults_before = g.S.Source.faults c.args.source.now;
      read_faults_after = g.S.Source.faults c.answer_words.new.source;
      write_faults_before = g.K.Sink.faults c.args.sink.now;
      write_faults_after = g.K.Sink.faults c.answer_words.new.sink;
    } in
    script_told (job_in c.args.words.now) s c.answer_words.result c.answer_words.ensures

pub returns-clause-stream : goal.returns-clause-stream
returns-clause-stream g c =
    let s : Streams = record {
      left_before = g.S.Source.left c.args.source.now;
      left_after = g.S.Source.left c.answer_words.new.source;
      written_before = g.K.Sink.written c.args.sink.now;
      written_after = g.K.Sink.written c.answer_words.new.sink;
      read_faults_before = g.S.Source.faults c.args.source.now;
      read_faults_after = g.S.Source.faults c.answer_words.new.source;
      write_faults_before = g.K.Sink.faults c.args.sink.now;
      write_faults_after = g.K.Sink.faults c.answer_words.new.sink;
    } in
    stream_told (job_in c.args.words.now) s c.answer_words.result c.answer_words.ensures

pub returns-clause-manual : goal.returns-clause-manual
returns-clause-manual g c =
    let s : Streams = record {
      left_before = g.S.Source.left c.args.source.now;
      left_after = g.S.Source.left c.answer_words.new.source;
      written_before = g.K.Sink.written c.args.sink.now;
      written_after = g.K.Sink.written c.answer_words.new.sink;
      read_faults_before = g.S.Source.faults c.args.source.now;
      read_faults_after = g.S.Source.faults c.answer_words.new.source;
      write_faults_before = g.K.Sink.faults c.args.sink.now;
      write_faults_after = g.K.Sink.faults c.answer_words.new.sink;
    } in
    manual_told (job_in c.args.words.now) s c.answer_words.result c.answer_words.ensures

pub returns-clause-reading : goal.returns-clause-reading
returns-clause-reading g c =
    let s : Streams = record {
      left_before = g.S.Source.left c.args.source.now;
      left_after = g.S.Source.left c.answer_words.new.source;
      written_before = g.K.Sink.written c.args.sink.now;
      written_after = g.K.Sink.written c.answer_words.new.sink;
      read_faults_before = g.S.Source.faults c.args.source.now;
      read_faults_after = g.S.Source.faults c.answer_words.new.source;
      write_faults_before = g.K.Sink.faults c.args.sink.now;
      write_faults_after = g.K.Sink.faults c.answer_words.new.sink;
    } in
    reading_told (job_in c.args.words.now) s c.answer_words.result c.answer_words.ensures

pub returns-clause-writing : goal.returns-clause-writing
returns-clause-writing g c =
    let s : Streams = record {
      left_before = g.S.Source.left c.args.source.now;
      left_after = g.S.Source.left c.answer_words.new.source;
      written_before = g.K.Sink.written c.args.sink.now;
      written_after = g.K.Sink.written c.answer_words.new.sink;
      read_faults_before = g.S.Source.faults c.args.source.now;
      read_faults_after = g.S.Source.faults c.answer_words.new.source;
      write_faults_before = g.K.Sink.faults c.args.sink.now;
      write_faults_after = g.K.Sink.faults c.answer_words.new.sink;
    } in
    writing_told (job_in c.args.words.now) s c.answer_words.result c.answer_words.ensures

pub returns-clause-front : goal.returns-clause-front
returns-clause-front g c =
    let s : Streams = record {
      left_before = g.S.Source.left c.args.source.now;
      left_after = g.S.Source.left c.answer_words.new.source;
      written_before = g.K.Sink.written c.args.sink.now;
      written_after = g.K.Sink.written c.answer_words.new.sink;
      read_faults_before = g.S.Source.faults c.args.source.now;
      read_faults_after = g.S.Source.faults c.answer_words.new.source;
      write_faults_before = g.K.Sink.faults c.args.sink.now;
      write_faults_after = g.K.Sink.faults c.answer_words.new.sink;
    } in
    front_told (job_in c.args.words.now) s c.answer_words.result c.answer_words.ensures

pub returns-clause-unwritten : goal.returns-clause-unwritten
returns-clause-unwritten g c =
    let s : Streams = record {
      left_before = g.S.Source.left c.args.source.now;
      left_after = g.S.Source.left c.answer_words.new.source;
      written_before = g.K.Sink.written c.args.sink.now;
      written_after = g.K.Sink.written c.answer_words.new.sink;
      read_faults_before = g.S.Source.faults c.args.source.now;
      read_faults_after = g.S.Source.faults c.answer_words.new.source;
      write_faults_before = g.K.Sink.faults c.args.sink.now;
      write_faults_after = g.K.Sink.faults c.answer_words.new.sink;
    } in
    unwritten_told (job_in c.args.words.now) s c.answer_words.result c.answer_words.ensures

pub returns-clause-complete : goal.returns-clause-complete
returns-clause-complete g c =
    let s : Streams = record {
      left_before = g.S.Source.left c.args.source.now;
      left_after = g.S.Source.left c.answer_words.new.source;
      written_before = g.K.Sink.written c.args.sink.now;
      written_after = g.K.Sink.written c.answer_words.new.sink;
      read_faults_before = g.S.Source.faults c.args.source.now;
      read_faults_after = g.S.Source.faults c.answer_words.new.source;
      write_faults_before = g.K.Sink.faults c.args.sink.now;
      write_faults_after = g.K.Sink.faults c.answer_words.new.sink;
    } in
    complete_told (job_in c.args.words.now) s c.answer_words.result c.answer_words.ensures
