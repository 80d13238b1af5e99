use Rattle.yp_attempt.specs.Attempts.{taken_of}
use Rattle.yp_hearing.proofs.Heard.{all_told}
use Rattle.yp_hearing.proofs.Told.{ToldLaws, taken_told}
use Rattle.yp_hearing.proofs.laws.what_a_receiver_is_sent_is_told.Goals as goal

pub returns : goal.returns
returns c nodes receivers entries receiver answers run can reaches =
    let laws : ToldLaws = record {
      keeps = c.a_journal_keeps_a_datastore.ensures.entries;
      texts = c.a_journal_keeps_texts.ensures;
      windows = c.the_record_of_a_window_is_heard.ensures;
      top = c.a_datastore_is_whole.ensures.top;
      tell = c.every_attempt_tells_of_what_was_selected.ensures.made;
      handed = c.what_feeds_are_handed_can_be_followed.ensures;
      finds = c.the_first_offer_is_found.ensures;
      replays = c.what_is_reached_is_what_replaying_gives.ensures;
      runs = c.what_a_legal_journal_makes_is_a_run_of_its_story.ensures;
    } in
    all_told nodes (taken_of run.done) (taken_told laws nodes receivers entries receiver can answers run reaches)
