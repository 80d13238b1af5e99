use Rattle.yp_journal.specs.History.{first_state, state_of}
use Rattle.yp_moment.proofs.Doing.{EstablishLaws, act_asked}
use Rattle.yp_moment.proofs.Starting.{replied, stamped}
use Rattle.yp_moment.proofs.acts.an_establishment_starts_its_subscription.Goals as goal

pub returns : goal.returns
returns c =
    let laws : EstablishLaws = record { next = c.an_id_is_given_once.ensures.next; found = c.an_establishment_adds_one_subscription.ensures.found } in
    record {
      starts = λ nodes receivers entries schema legal before entry after by id ask is asked given.
          act_asked laws nodes (state_of nodes (first_state receivers) before) entry.command entry.reply by id ask (c.a_legal_journal_keeps_its_registry.ensures.ids nodes receivers before) asked given
          (replied nodes receivers entries legal before entry after is);
      stamp = λ nodes receivers entries schema legal before entry after is. stamped nodes receivers entries legal before entry after is;
    }
