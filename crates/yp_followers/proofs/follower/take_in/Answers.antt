use Rattle.std.proofs.Common.{◌++◌, ◌∷◌, []}
use Rattle.yp_attempt.specs.Attempts.{answers_in}
use Rattle.yp_followers.proofs.Following.{entered, next_there}
use Rattle.yp_followers.proofs.Outboxes.{same_boxes}
use Rattle.yp_followers.proofs.Results.{when_ok}
use Rattle.yp_followers.proofs.follower.take_in.Goals as goal

pub absorb-requires-clause-idle : goal.absorb-requires-clause-idle
absorb-requires-clause-idle g c =
    let w = c.requires.ready in
    record { start = w.start; receivers = w.receivers; mine = w.mine; entries = w.before ++ w.absorbed; answers = answers_in w.is.run.done; idle = w.is.idle }

pub answer_all-requires : goal.answer_all-requires
answer_all-requires g c =
    let w = c.requires.ready in
    let entry = c.args.entry.now in
    record {
      start = w.start;
      receivers = w.receivers;
      mine = w.mine;
      before = w.before;
      absorbed = w.absorbed ++ entry ∷ [];
      opened = w.opened;
      is =
          entered c.args.schema.now w.start w.receivers w.mine w.before w.absorbed w.opened c.one_entry_more_is_one_moment_more.ensures c.entries_of_a_legal_journal_may_follow.ensures c.a_worker_offers_what_its_run_offers.ensures.idle
          c.args.worker.now c.absorb.new.self c.args.outboxes.now.items entry w.is (c.in_ok-absorb.ensures.stands w.start w.receivers w.mine (w.before ++ w.absorbed) (answers_in w.is.run.done) w.is.idle);
    }

pub returns-clause-taken : goal.returns-clause-taken
returns-clause-taken g c =
    when_ok c.answer_all.result c.answer_all.ensures.through
    (λ through start receivers mine before absorbed opened up.
    through start receivers mine before (absorbed ++ c.args.entry.now ∷ []) opened
    (entered c.args.schema.now start receivers mine before absorbed opened c.one_entry_more_is_one_moment_more.ensures c.entries_of_a_legal_journal_may_follow.ensures c.a_worker_offers_what_its_run_offers.ensures.idle
    c.args.worker.now c.absorb.new.self c.args.outboxes.now.items c.args.entry.now up (c.in_ok-absorb.ensures.stands start receivers mine (before ++ absorbed) (answers_in up.run.done) up.idle)))

pub returns-clause-state : goal.returns-clause-state
returns-clause-state g c =
    let w = c.requires.ready in
    let entry = c.args.entry.now in
    let nodes = c.args.schema.now in
    when_ok c.answer_all.result c.answer_all.ensures.through
    (λ through.
    next_there nodes w.start w.receivers w.mine w.before w.absorbed w.opened c.a_journal_goes_on_entry_by_entry.ensures.entries c.args.worker.now c.answer_all.new.worker c.args.outboxes.now.items c.answer_all.new.outboxes.items entry w.is
    (through w.start w.receivers w.mine w.before (w.absorbed ++ entry ∷ []) w.opened
    (entered nodes w.start w.receivers w.mine w.before w.absorbed w.opened c.one_entry_more_is_one_moment_more.ensures c.entries_of_a_legal_journal_may_follow.ensures c.a_worker_offers_what_its_run_offers.ensures.idle
    c.args.worker.now c.absorb.new.self c.args.outboxes.now.items entry w.is (c.in_ok-absorb.ensures.stands w.start w.receivers w.mine (w.before ++ w.absorbed) (answers_in w.is.run.done) w.is.idle))))

pub returns-then-position-clause-same : goal.returns-then-position-clause-same
returns-then-position-clause-same g c = same_boxes c.args.outboxes.now.items

pub returns-in_err-absorb-clause-same : goal.returns-in_err-absorb-clause-same
returns-in_err-absorb-clause-same g c = same_boxes c.args.outboxes.now.items
