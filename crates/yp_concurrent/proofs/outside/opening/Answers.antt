use Rattle.std.proofs.Common.{replicate}
use Rattle.std.proofs.lemmas.List.{length-replicate}
use Rattle.yp_attempt.specs.Runs.{first_run}
use Rattle.yp_concurrent.proofs.Filling.{first_filled}
use Rattle.yp_concurrent.proofs.outside.opening.Goals as goal

pub returns : goal.returns
returns c =
    let s = c.args.setting.now in
    record {
      legal = tt;
      state = c.in_ok-state.ensures.opening;
      replies = c.new-2.ensures.items;
      runs = replicate s.workers first_run;
      count = length-replicate s.workers first_run;
      crews = c.in_ok-crews.ensures.opened;
      filled = first_filled s.receivers.now s.workers s.workers 0;
    }
