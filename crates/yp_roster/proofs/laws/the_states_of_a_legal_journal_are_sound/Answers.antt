use Rattle.std.proofs.Common.{ℕ, List, ap, length, sym, ◌∙◌}
use Rattle.std.proofs.lemmas.List.{length-map}
use Rattle.yp_journal.specs.declared.receiver.ReceiverInfo.{ReceiverInfo}
use Rattle.yp_journal.specs.History.{first_state}
use Rattle.yp_roster.proofs.laws.the_states_of_a_legal_journal_are_sound.Goals as goal

pub returns : goal.returns
returns c = λ nodes receivers entries legal.
    let kept = c.a_legal_journal_keeps_its_registry.ensures in
    let state = first_state receivers in
    record {
      ids = kept.ids nodes receivers entries;
      registry = kept.registry nodes receivers entries legal;
      users = ap (λ (users : List (List ℕ)). length users) (c.a_journal_keeps_users_and_names.ensures.users nodes state entries) ∙ length-map receivers (λ (receiver : ReceiverInfo). receiver.user) ∙ sym (ap (λ (those : List ReceiverInfo). length those) (c.a_journal_goes_on_entry_by_entry.ensures.receivers nodes state entries));
      datastore = c.a_journal_keeps_a_datastore.ensures.entries nodes state entries (c.a_journal_keeps_a_datastore.ensures.opening nodes receivers);
      stamp = kept.stamp nodes receivers entries legal;
    }
