use Rattle.yp_mirror.proofs.Stories.{is_story}
use Rattle.yp_mirror.proofs.laws.a_journal_tells_its_story.Goals as goal

pub returns : goal.returns
returns c = is_story
