use Rattle.std.proofs.Common.{◌∷◌, ◌++◌, [], false}
use Rattle.yp_journal.specs.declared.entry.Entry.{Entry}
use Rattle.yp_worker.proofs.Taken.{taken, unspent}
use Rattle.yp_worker.proofs.worker.Worker.accept.Goals as goal

pub take-requires : goal.take-requires
take-requires c =
    let i = c.requires.idle in
    let entry : Entry = record { lane = c.args.lane; index = c.args.index; stamp = c.in_ok-stamp.field-0.stamp; command = c.args.command; reply = c.in_ok-stamp.field-0.reply } in
    record {
      start = i.start;
      receivers = i.receivers;
      mine = i.mine;
      entries = i.entries;
      answers = i.answers;
      taking = taken c.args.schema.now i.start i.receivers i.mine i.entries i.answers c.args.self.now entry c.in_ok-stamp.field-0.changed c.accept_into.new.state i.idle
          (c.in_ok-stamp.ensures.follows c.args.lane c.args.index) c.in_ok-stamp.ensures.state c.in_ok-stamp.ensures.sound c.in_ok-stamp.ensures.changed;
    }

pub returns-clause-stands : goal.returns-clause-stands
returns-clause-stands c = λ start receivers mine entries answers idle.
    let nodes = c.args.schema.now in
    let entry : Entry = record { lane = c.args.lane; index = c.args.index; stamp = c.in_ok-stamp.field-0.stamp; command = c.args.command; reply = c.in_ok-stamp.field-0.reply } in
    unspent nodes start receivers mine (entries ++ entry ∷ []) answers c.take.new.self false
    (c.in_ok-take.ensures.stands start receivers mine entries answers
    (taken nodes start receivers mine entries answers c.args.self.now entry c.in_ok-stamp.field-0.changed c.accept_into.new.state idle
    (c.in_ok-stamp.ensures.follows c.args.lane c.args.index) c.in_ok-stamp.ensures.state c.in_ok-stamp.ensures.sound c.in_ok-stamp.ensures.changed))
