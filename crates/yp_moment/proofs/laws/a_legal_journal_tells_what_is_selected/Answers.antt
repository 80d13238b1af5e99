use Rattle.yp_moment.specs.MomentLaws.{wanted}
use Rattle.yp_moment.proofs.Starting.{GrantLaws, goes_by}
use Rattle.yp_moment.proofs.Telling.{changed}
use Rattle.yp_moment.proofs.laws.a_legal_journal_tells_what_is_selected.Goals as goal

pub returns : goal.returns
returns c =
    let laws : GrantLaws = record {
      establish = c.an_establishment_starts_its_subscription.ensures.starts;
      configure = c.a_configuration_starts_its_subscription.ensures;
      may = c.entries_of_a_legal_journal_may_follow.ensures;
      tells = c.a_journal_tells_its_story.ensures;
    } in
    record {
      want = λ nodes receivers entries receiver id n within. wanted nodes receivers entries receiver id n;
      changes = changed;
      mirrored = λ nodes receivers entries receiver schema legal before entry after id ask is grants. (goes_by laws nodes receivers entries schema legal before entry after id ask is receiver grants).0;
      resyncing = λ nodes receivers entries receiver schema legal before entry after id ask is grants. (goes_by laws nodes receivers entries schema legal before entry after id ask is receiver grants).1;
    }
