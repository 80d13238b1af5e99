use Rattle.std.proofs.Common.{◌∙◌, ◌++◌, ◌∷◌, [], List, Vec, Global, ap, sym, length}
use Rattle.std.proofs.lemmas.List.{length-append}
use Rattle.yp_journal.specs.declared.command.Command.{Command}
use Rattle.yp_attempt.specs.Attempts.{answers_in}
use Rattle.yp_promise.specs.Serving.{all_numbers, run_entered, run_of}
use Rattle.yp_report.specs.declared.replied.Replied.{Replied}
use Rattle.yp_live.specs.Desks.{DeskState}
use Rattle.yp_live.specs.Runs.{IsOnItsWay, desks_took}
use Rattle.yp_live.proofs.Results.{when_ok}
use Rattle.yp_live.proofs.Turning.{entered, run_length, turned}
use Rattle.yp_live.proofs.run.run_turn.Goals as goal

pub take_by-requires : goal.take_by-requires
take_by-requires c =
    let s = c.args.setting.now in
    (s.schema.now, (s.receivers.now, (c.requires.may, run_length s.schema.now s.start.now s.receivers.now c.requires.run.entries c.args.run.now c.requires.run.is)))

pub answer_all-requires : goal.answer_all-requires
answer_all-requires c =
    let nodes = c.args.setting.now.schema.now in
    let start = c.args.setting.now.start.now in
    let receivers = c.args.setting.now.receivers.now in
    let entries = c.requires.run.entries in
    let is = c.requires.run.is in
    let entry = c.in_ok-entry.entry in
    let before : List DeskState = c.args.run.now.desks.items in
    record {
      start = start;
      receivers = receivers;
      entries = entries ++ entry ∷ [];
      served = run_entered nodes receivers entries entry;
      is =
          entered c.a_serial_run_goes_on_offer_by_offer.ensures.enters c.queues_hold_what_was_not_taken.ensures.run c.queues_hold_what_was_not_taken.ensures.enters nodes start receivers entries entry c.args.run.now c.accept.new.self
          c.take_by.new.desks.items is
          (c.in_ok-take_by.ensures ∙ ap (λ (k : Command). desks_took k 0 before) (sym c.in_ok-entry.ensures.command))
          (c.in_ok-entry.ensures.stands start receivers (all_numbers receivers) entries (answers_in (run_of nodes receivers entries).run.done) is.worker);
    }

pub returns-clause-run : goal.returns-clause-run
returns-clause-run c =
    let nodes = c.args.setting.now.schema.now in
    let start = c.args.setting.now.start.now in
    let receivers = c.args.setting.now.receivers.now in
    let entry = c.in_ok-entry.entry in
    let before : List DeskState = c.args.run.now.desks.items in
    when_ok c.answer_all.result c.answer_all.ensures.through
    (λ through entries is.
    let way : IsOnItsWay nodes start receivers (entries ++ entry ∷ []) (run_entered nodes receivers entries entry) c.accept.new.self c.take_by.new.desks.items =
    entered c.a_serial_run_goes_on_offer_by_offer.ensures.enters c.queues_hold_what_was_not_taken.ensures.run c.queues_hold_what_was_not_taken.ensures.enters nodes start receivers entries entry c.args.run.now c.accept.new.self
    c.take_by.new.desks.items is
    (c.in_ok-take_by.ensures ∙ ap (λ (k : Command). desks_took k 0 before) (sym c.in_ok-entry.ensures.command))
    (c.in_ok-entry.ensures.stands start receivers (all_numbers receivers) entries (answers_in (run_of nodes receivers entries).run.done) is.worker) in (
      entry,
      (
        λ i. record { lane = c.in_ok-entry.ensures.lane i; index = c.in_ok-entry.ensures.index i; command = c.in_ok-entry.ensures.command i },
        turned nodes start receivers entries entry c.args.run.now c.answer_all.new.run is
            (through start receivers (entries ++ entry ∷ []) (run_entered nodes receivers entries entry) way)
            (ap (λ (those : Vec Replied Global). those.items) c.answer_all.ensures.replies ∙ (c.in_ok-push.ensures.items ∙ ap (λ (one : Replied). c.args.run.now.replies.items ++ one ∷ []) c.replied_by.ensures)),
      ),
    ))

pub returns-clause-count : goal.returns-clause-count
returns-clause-count c =
    let before : List Replied = c.args.run.now.replies.items in
    when_ok c.answer_all.result c.answer_all.ensures.through
    (λ through.
    ap (λ (those : Vec Replied Global). length those.items) c.answer_all.ensures.replies
    ∙ (ap (λ (those : List Replied). length those) c.in_ok-push.ensures.items ∙ length-append before (c.replied_by.result ∷ [])))
