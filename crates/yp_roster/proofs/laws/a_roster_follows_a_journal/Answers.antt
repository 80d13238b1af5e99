use Rattle.yp_roster.proofs.Journals.{follows, roster_of}
use Rattle.yp_roster.proofs.laws.a_roster_follows_a_journal.Goals as goal

pub returns-clause-follows : goal.returns-clause-follows
returns-clause-follows c = λ e receivers entries schema legal entered.
    follows (record { entries = c.a_journal_goes_on_entry_by_entry.ensures.entries; follow = c.entries_of_a_legal_journal_may_follow.ensures; more = c.one_entry_more_is_one_moment_more.ensures }) e receivers entries schema legal entered

pub returns-clause-roster : goal.returns-clause-roster
returns-clause-roster c = λ e receivers entries mine answers slots schema legal entered.
    roster_of (record { entries = c.a_journal_goes_on_entry_by_entry.ensures.entries; follow = c.entries_of_a_legal_journal_may_follow.ensures; more = c.one_entry_more_is_one_moment_more.ensures }) e receivers entries schema legal entered mine answers slots
