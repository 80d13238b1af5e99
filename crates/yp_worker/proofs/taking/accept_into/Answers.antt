use Rattle.std.proofs.Common.{sym, subst, ◌∙◌, ap, List, map}
use Rattle.yp_journal.specs.declared.receiver.ReceiverInfo.{ReceiverInfo}
use Rattle.yp_journal.specs.History.{JournalState}
use Rattle.yp_registry.specs.Ids.{HasRisingIds}
use Rattle.yp_worker.proofs.States.{IdsRise, ids_kept}
use Rattle.yp_worker.proofs.taking.accept_into.Goals as goal

pub returns-clause-sound : goal.returns-clause-sound
returns-clause-sound c =
    let nodes = c.args.schema.now in
    let before : JournalState = c.args.state.now in
    let after : JournalState = c.accept.new.self in
    let left = c.in_ok-outcome.ensures.state in
    let rise = c.ids_rise_after_each_call.ensures in
    let laws : IdsRise = record { established = c.ids_rise.ensures.kept; modified = rise.modified; reconfigured = rise.reconfigured; deleted = rise.deleted; killed = rise.killed; unconfigured = rise.unconfigured; configured = rise.configured } in
    record {
      datastore = c.accept.ensures.datastore c.requires.sound.datastore;
      registry = c.accept.ensures.registry c.requires.sound.registry;
      ids = subst (λ (s : JournalState). HasRisingIds s.registry) (sym left) (ids_kept laws nodes before c.args.command.now c.requires.sound.ids);
      users =
          ap (λ (s : JournalState). s.registry.users) left
          ∙ c.a_journal_keeps_users_and_names.ensures.next_users nodes before c.args.command.now
          ∙ c.requires.sound.users
          ∙ ap (λ (rs : List ReceiverInfo). map (λ receiver. receiver.user) rs) (sym c.accept.ensures.receivers);
    }
