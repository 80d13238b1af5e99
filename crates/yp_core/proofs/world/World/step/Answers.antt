use Rattle.std.proofs.Common.{◌≡◌, ◌∙◌, ◌+◌, ◌≤◌, ◌++◌, ◌∷◌, [], List, length, sym, ap, arith}
use Rattle.yp_journal.specs.declared.entry.Entry.{Entry}
use Rattle.yp_journal.specs.History.{JournalState, first_state}
use Rattle.yp_promise.specs.Interleaving.{world_after}
use Rattle.yp_core.specs.Events.{entries_after, event_of}
use Rattle.yp_core.proofs.Worlds.{grows, went}
use Rattle.yp_core.proofs.world.World.step.Goals as goal

pub returns-clause-stands : goal.returns-clause-stands
returns-clause-stands c = λ start receivers workers entries events is.
    went c.args.schema.now start receivers workers entries events c.args.event c.in_ok-happened.happened c.go_on.new.self (c.in_ok-happened.ensures.stepped start receivers workers entries (world_after receivers workers events) is)

pub returns-clause-serves : goal.returns-clause-serves
returns-clause-serves c = λ start receivers workers entries events is.
    let now = went c.args.schema.now start receivers workers entries events c.args.event c.in_ok-happened.happened c.go_on.new.self (c.in_ok-happened.ensures.stepped start receivers workers entries (world_after receivers workers events) is) in
    c.every_interleaving_serves_each_receiver.ensures c.args.schema.now receivers (entries_after c.args.schema.now receivers entries c.args.event) now.schema now.legal workers
    (events ++ event_of c.args.schema.now receivers entries c.args.event ∷ []) now.some now.journal

pub returns-clause-world : goal.returns-clause-world
returns-clause-world c =
    let w = c.requires.world in
    record {
      start = w.start;
      receivers = w.receivers;
      workers = w.workers;
      entries = entries_after c.args.schema.now w.receivers w.entries c.args.event;
      events = w.events ++ event_of c.args.schema.now w.receivers w.entries c.args.event ∷ [];
      is = went c.args.schema.now w.start w.receivers w.workers w.entries w.events c.args.event c.in_ok-happened.happened c.go_on.new.self (c.in_ok-happened.ensures.stepped w.start w.receivers w.workers w.entries (world_after w.receivers w.workers w.events) w.is);
    }

pub returns-clause-receivers : goal.returns-clause-receivers
returns-clause-receivers c =
    let w = c.requires.world in
    let nodes = c.args.schema.now in
    let now = went nodes w.start w.receivers w.workers w.entries w.events c.args.event c.in_ok-happened.happened c.go_on.new.self (c.in_ok-happened.ensures.stepped w.start w.receivers w.workers w.entries (world_after w.receivers w.workers w.events) w.is) in
    ap (λ (s : JournalState). s.receivers) now.state
    ∙ (c.a_journal_goes_on_entry_by_entry.ensures.receivers nodes (first_state w.receivers) (entries_after nodes w.receivers w.entries c.args.event)
    ∙ sym (ap (λ (s : JournalState). s.receivers) w.is.state ∙ c.a_journal_goes_on_entry_by_entry.ensures.receivers nodes (first_state w.receivers) w.entries))

pub returns-clause-count : goal.returns-clause-count
returns-clause-count c =
    let w = c.requires.world in
    let nodes = c.args.schema.now in
    let now = went nodes w.start w.receivers w.workers w.entries w.events c.args.event c.in_ok-happened.happened c.go_on.new.self (c.in_ok-happened.ensures.stepped w.start w.receivers w.workers w.entries (world_after w.receivers w.workers w.events) w.is) in
    let before : length c.args.self.now.entries.items ≡ length w.entries = ap (λ (es : List Entry). length es) w.is.kept in
    let after : length c.go_on.new.self.entries.items ≡ length (entries_after nodes w.receivers w.entries c.args.event) = ap (λ (es : List Entry). length es) now.kept in
    let more : length (entries_after nodes w.receivers w.entries c.args.event) ≤ length w.entries + 1 = grows nodes w.receivers w.entries c.args.event in
    omega (arith, before, after, more)

pub returns-clause-unspent : goal.returns-clause-unspent
returns-clause-unspent c =
    let w = c.requires.world in
    let now = went c.args.schema.now w.start w.receivers w.workers w.entries w.events c.args.event c.in_ok-happened.happened c.go_on.new.self (c.in_ok-happened.ensures.stepped w.start w.receivers w.workers w.entries (world_after w.receivers w.workers w.events) w.is) in
    now.unspent
