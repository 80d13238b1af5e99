use Rattle.std.proofs.Common.{◌≡◌, ◌∙◌, ◌+◌, ◌<◌, ◌^◌, false, refl, sym, ap, subst, length, arith}
use Rattle.yp_journal.specs.declared.entry.Entry.{Entry}
use Rattle.yp_journal.specs.declared.reply.Reply.{Reply}
use Rattle.yp_journal.specs.History.{JournalState, first_state, next_state, reply_to, state_of}
use Rattle.yp_core.specs.declared.event.Event.TheVariants as events
use Rattle.yp_core.specs.declared.event.Happened.TheVariants as told
use Rattle.yp_core.specs.Events.{entry_of}
use Rattle.yp_core.specs.Worlds.{HasStepped}
use Rattle.yp_core.proofs.Appended.{appended}
use Rattle.yp_core.proofs.world.World.append.Goals as goal

pub returns-clause-stepped : goal.returns-clause-stepped
returns-clause-stepped c = λ start receivers workers entries world is.
    let nodes = c.args.schema.now in
    let core = c.args.self.now in
    let command = c.args.command in
    let this : Entry = entry_of nodes receivers entries command in
    let entry : Entry = record { lane = 0; index = c.len.result + 1; stamp = c.in_ok-stamp.field-0.stamp; command = command; reply = c.in_ok-stamp.field-0.reply } in
    let left = record core { entries = c.push.new.self; state = c.accept.new.self; spent = false } in
    let kept : length core.entries.items ≡ length entries = ap length is.kept in
    let count : c.len.result ≡ length entries = omega (arith, c.len.ensures, core.entries.ok.0, kept) in
    let before : JournalState = state_of nodes (first_state receivers) entries in
    let after : c.accept.new.self ≡ next_state nodes core.state command = c.in_ok-stamp.ensures.state in
    let stamp : c.in_ok-stamp.field-0.stamp ≡ this.stamp = c.in_ok-stamp.ensures.stamp ∙ (ap (λ (s : JournalState). s.stamp) after ∙ ap (λ (s : JournalState). (next_state nodes s command).stamp) is.state) in
    let reply : c.in_ok-stamp.field-0.reply ≡ this.reply = c.in_ok-stamp.ensures.reply ∙ ap (λ (s : JournalState). reply_to nodes s command) is.state in
    let made : entry ≡ this = λ i. record { lane = 0; index = count i + 1; stamp = stamp i; command = command; reply = reply i } in
    let room : length entries + 1 < 2 ^ 32 = omega (arith, c.requires.room, kept) in
    subst (λ (r : Reply). HasStepped nodes start receivers workers entries world (events.Append command) (told.Appended r) left) (sym (c.in_ok-told.ensures ∙ reply))
    (appended nodes start receivers workers entries world core is command c.nothing_happens_where_an_event_cannot_be_done.ensures.exactly c.every_list_of_events_keeps_what_holds.ensures.step
    c.one_entry_more_is_one_moment_more.ensures c.a_journal_goes_on_entry_by_entry.ensures.entries c.a_legal_journal_goes_on.ensures.legal_more c.entries_of_a_legal_journal_may_follow.ensures c.requires.command room entry made left
    c.in_ok-push.ensures.items after refl refl refl)
