use Rattle.yp_mirror.proofs.Promises.{journal_run}
use Rattle.yp_mirror.proofs.laws.what_a_journal_makes_is_a_run_of_its_story.Goals as goal

pub returns : goal.returns
returns c = journal_run c.a_journal_tells_its_story.ensures c.what_replaying_gives_is_reached.ensures
