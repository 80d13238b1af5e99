use Rattle.std.proofs.Common.{◌≡◌, ◌++◌, List}
use Rattle.yp_journal.specs.declared.entry.Entry.{Entry}
use Rattle.yp_followers.proofs.Keeping.{caught_all, ready_legal, ready_up}
use Rattle.yp_followers.proofs.Outboxes.{same_boxes}
use Rattle.yp_followers.proofs.follower.read_once.Goals as goal

pub take_all-requires-clause-ready : goal.take_all-requires-clause-ready
take_all-requires-clause-ready g c =
    let job = c.args.job.now in
    ready_up g.J.Naming.nodes g.J.Naming.opening job.reader.got.entries job.worker job.outboxes.items c.args.schema.now c.requires.schema c.requires.ready

pub take_all-requires-clause-legal : goal.take_all-requires-clause-legal
take_all-requires-clause-legal g c =
    let job = c.args.job.now in
    let fresh : List Entry = c.as_slice-fresh.result.now in
    let got : List Entry = c.catch_up.new.self.got.entries in
    let all : got ≡ job.reader.got.entries ++ fresh =
    caught_all job.reader c.catch_up.new.self c.new-fresh.result.items c.catch_up.new.into.items fresh c.in-Ok.field-0 c.in-Ok.ensures.caught c.new-fresh.ensures.items c.as_slice-fresh.ensures.value in
    ready_legal g.J.Naming.nodes g.J.Naming.opening job.reader.got.entries job.worker job.outboxes.items c.a_journal_goes_on_where_another_ends.ensures.state c.args.schema.now c.requires.schema c.requires.ready fresh got all c.legal.ensures

pub returns-in-Err-NoRead-clause-same : goal.returns-in-Err-NoRead-clause-same
returns-in-Err-NoRead-clause-same g c = same_boxes c.args.job.now.outboxes.items

pub returns-clause-same : goal.returns-clause-same
returns-clause-same g c = same_boxes c.args.job.now.outboxes.items
