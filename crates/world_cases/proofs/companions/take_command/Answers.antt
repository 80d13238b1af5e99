use Rattle.std.proofs.Common.{◌≡◌, ◌∙◌, List, Some, length, refl, sym, ap, subst}
use Rattle.std.proofs.lemmas.List.Elements.{All-get_or}
use Rattle.std.proofs.lemmas.Option.{slice_get_read}
use Rattle.yp_journal.specs.declared.command.Command.{Command}
use Rattle.yp_journal.specs.declared.receiver.ReceiverInfo.{ReceiverInfo}
use Rattle.yp_journal.specs.History.{MayCome}
use Rattle.yp_slot.specs.declared.settling.Settled.TheVariants.{Full}
use Rattle.world_cases.proofs.Following.{follows_answer, follows_entry, follows_still, idle, offering, same_receivers}
use Rattle.world_cases.proofs.companions.take_command.Goals as goal
use Rattle.world_cases.proofs.companions.take_command.Goals.{in-Some, in-None+in-Some-get+in_ok-command-in-None+in_ok-entry-in-None}

pub settle-requires : goal.settle-requires
settle-requires c =
    let j = c.requires.journal in
    (c.args.schema.now, offering c.args.schema.now j.0 c.args.worker.now j.1.0 c.in_ok-next_offer.field-0 c.next_offer.new.self c.in_ok-next_offer.ensures.found c.in-Some.field-0 c.in-Some.is)

pub returns-in_default-clause-follows : goal.returns-in_default-clause-follows
returns-in_default-clause-follows c = λ receivers is.
    follows_still c.args.schema.now receivers c.args.worker.now is c.in_ok-next_offer.field-0 c.next_offer.new.self c.in_ok-next_offer.ensures.found c.in-None.is

pub accept-requires-clause-command : goal.accept-requires-clause-command
accept-requires-clause-command c =
    let j = c.requires.journal in
    let command = c.in_ok-command-in-None.command in
    let same : c.next_offer.new.self.state.receivers ≡ j.0 =
    same_receivers c.args.schema.now j.0 c.args.worker.now j.1.0 c.in_ok-next_offer.field-0 c.next_offer.new.self c.in_ok-next_offer.ensures.found c.in-None.is c.a_journal_goes_on_entry_by_entry.ensures.receivers in
    let there = c.in-Some-get.ensures.lookup in
    let may : MayCome c.args.schema.now j.0 command =
    subst (λ (k : Command). MayCome c.args.schema.now j.0 k) (sym (c.in_ok-command-in-None.ensures ∙ there.1))
    (All-get_or (MayCome c.args.schema.now j.0) c.args.commands.now c.position-position.result c.in-Some-get.command.now there.3.0 j.1.1) in
    subst (λ (receivers : List ReceiverInfo). MayCome c.args.schema.now receivers command) (sym same) may

pub accept-requires-clause-idle : goal.accept-requires-clause-idle
accept-requires-clause-idle c =
    let j = c.requires.journal in
    idle c.args.schema.now j.0 c.args.worker.now j.1.0 c.in_ok-next_offer.field-0 c.next_offer.new.self c.in_ok-next_offer.ensures.found c.in-None.is

pub returns-clause-follows : goal.returns-clause-follows
returns-clause-follows c =
    elim c.match-branch-2.branch [
      | in-Some w ↦ rw (w.result-is, w.worker-is)
          (λ receivers is. follows_answer c.args.schema.now receivers c.args.worker.now is c.in_ok-next_offer.field-0 c.next_offer.new.self c.in_ok-next_offer.ensures.found w.in-Some.field-0 w.in-Some.is Full w.settle.new.self w.settle.ensures.stands)
      | in-None+in-Some-get+in_ok-command-in-None+in_ok-entry-in-None w ↦ rw (w.result-is, w.worker-is)
          (λ receivers is. follows_entry c.args.schema.now receivers c.args.worker.now is c.in_ok-next_offer.field-0 c.next_offer.new.self c.in_ok-next_offer.ensures.found w.in-None.is w.in_ok-entry-in-None.entry w.accept.new.self w.in_ok-entry-in-None.ensures.stands)
    ]

pub returns-clause-command : goal.returns-clause-command
returns-clause-command c =
    elim c.match-branch-2.branch [
      | in-Some w ↦ rw w.result-is tt
      | in-None+in-Some-get+in_ok-command-in-None+in_ok-entry-in-None w ↦
          let there = w.in-Some-get.ensures.lookup in
          rw w.result-is
          (record {
            position = w.position-position.result;
            number = w.in_ok-entry-in-None.ensures.index;
            command = slice_get_read c.args.commands.now (length c.args.commands.now) w.position-position.result w.in-Some-get.command.now refl there.3.0 there.1
                ∙ ap (λ (k : Command). Some k) (sym (w.in_ok-entry-in-None.ensures.command ∙ w.in_ok-command-in-None.ensures));
          })
    ]
