use Rattle.yp_moment.specs.Entries.{moments_of}
use Rattle.yp_moment.specs.Windows.{recorded}
use Rattle.yp_moment.proofs.Visible.{visibly_alike}
use Rattle.yp_moment.proofs.isolation.what_a_user_may_not_read_has_no_effect.Goals as goal

pub returns : goal.returns
returns c =
    let alike = visibly_alike c.a_journal_goes_on_entry_by_entry.ensures.receivers in
    let none = c.what_a_receiver_is_not_shown_has_no_effect.ensures in
    record {
      alike = alike;
      made = λ nodes receivers user ones twos legal other same receiver its answers.
          none.made recorded receiver (moments_of nodes receivers ones) (moments_of nodes receivers twos) answers (alike nodes receivers user ones twos legal other same receiver its);
      sent = λ nodes receivers user ones twos legal other same receiver its answers.
          none.sent recorded receiver (moments_of nodes receivers ones) (moments_of nodes receivers twos) answers (alike nodes receivers user ones twos legal other same receiver its);
    }
