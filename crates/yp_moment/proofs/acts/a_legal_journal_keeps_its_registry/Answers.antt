use Rattle.yp_moment.proofs.Registries.{IdsRise, RegistriesStay, ids_rise, journal_fits}
use Rattle.yp_moment.proofs.acts.a_legal_journal_keeps_its_registry.Goals as goal

pub returns : goal.returns
returns c =
    let rise = c.ids_rise.ensures in
    let each = c.ids_rise_after_each_call.ensures in
    let establishes = c.an_establishment_keeps_a_registry.ensures in
    let amends = c.an_amendment_keeps_a_registry.ensures in
    let ends = c.an_end_keeps_a_registry.ensures in
    let ids : IdsRise = record {
      first = rise.first;
      establish = rise.kept;
      modify = each.modified;
      reconfigure = each.reconfigured;
      delete = each.deleted;
      kill = each.killed;
      unconfigure = each.unconfigured;
      configure = each.configured;
    } in
    let stays : RegistriesStay = record {
      first = establishes.first;
      establish = establishes.kept;
      modify = amends.modified;
      reconfigure = amends.reconfigured;
      delete = ends.deleted;
      kill = ends.killed;
      unconfigure = ends.unconfigured;
      configure = c.a_configuration_keeps_a_registry.ensures;
      users = c.a_journal_keeps_users_and_names.ensures.next_users;
    } in
    record {
      ids = ids_rise ids;
      registry = λ nodes receivers entries legal. (journal_fits ids stays nodes receivers entries legal).registry;
      stamp = λ nodes receivers entries legal. (journal_fits ids stays nodes receivers entries legal).stamp;
    }
