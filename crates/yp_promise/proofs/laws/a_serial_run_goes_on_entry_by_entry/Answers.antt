use Rattle.std.proofs.Common.{refl}
use Rattle.yp_promise.proofs.Entering.{run_more}
use Rattle.yp_promise.proofs.laws.a_serial_run_goes_on_entry_by_entry.Goals as goal

pub returns : goal.returns
returns c = record {
  none = λ nodes receivers. refl;
  more = run_more c.a_serial_run_is_a_run.ensures.more c.one_entry_more_is_one_moment_more.ensures;
}
