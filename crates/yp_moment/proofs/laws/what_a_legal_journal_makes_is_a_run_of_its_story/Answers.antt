use Rattle.yp_moment.specs.Entries.{moments_of}
use Rattle.yp_moment.specs.Windows.{recorded}
use Rattle.yp_moment.proofs.laws.what_a_legal_journal_makes_is_a_run_of_its_story.Goals as goal

pub returns : goal.returns
returns c nodes receivers entries receiver answers schema legal =
    c.what_a_journal_makes_is_a_run_of_its_story.ensures recorded c.what_feeds_know_of_selections_is_lawful.ensures (moments_of nodes receivers entries) receiver answers
    (c.records_lead_from_selection_to_selection.ensures nodes receivers entries receiver schema legal) (c.entries_of_a_legal_journal_may_follow.ensures nodes receivers entries schema legal)
