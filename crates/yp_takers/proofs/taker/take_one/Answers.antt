use Rattle.std.proofs.Common.{[], ◌∷◌, refl, ◌∙◌}
use Rattle.yp_takers.proofs.Takers.{line_heard_so, none_kept, none_more, one_kept, one_more}
use Rattle.yp_takers.proofs.taker.take_one.Goals as goal

pub returns-in_err-reserve : goal.returns-in_err-reserve
returns-in_err-reserve g c =
    let job = c.args.job.now in
    let room = c.reserve.new.self.items in
    let same = c.reserve.ensures.items in
    record { receiver = refl; worker = refl; queue = refl; kept = none_kept job.taken.items room job.take job.take same c.requires.kept refl; more = []; took = none_more job.taken.items room same; heard = λ whole. cc }

pub returns-in-None : goal.returns-in-None
returns-in-None g c =
    let job = c.args.job.now in
    let room = c.reserve.new.self.items in
    let same = c.reserve.ensures.items in
    record {
      receiver = refl;
      worker = refl;
      queue = c.take.ensures.one;
      kept = none_kept job.taken.items room job.take c.take.new.self same c.requires.kept c.in-None.ensures.taken;
      more = [];
      took = none_more job.taken.items room same;
      heard = λ _. refl;
    }

pub returns-in-Ok : goal.returns-in-Ok
returns-in-Ok g c =
    let job = c.args.job.now in
    let packet = c.in-Some.packet in
    let now = c.push_reserved.new.self.items in
    let took = one_more job.taken.items c.reserve.new.self.items now packet c.reserve.ensures.items c.push_reserved.ensures.items in
    record {
      receiver = refl;
      worker = refl;
      queue = c.take.ensures.one;
      kept = one_kept job.taken.items now packet job.take c.take.new.self took c.requires.kept c.in-Some.ensures.taken;
      more = packet ∷ [];
      took = took;
      heard = λ _. line_heard_so c.args.schema.now packet.line c.as_bytes-bytes.result.now job.heard c.take_line-told.new.self (c.as_bytes-bytes.ensures.value ∙ c.as_str.ensures) c.in-Ok.ensures.taken;
    }

pub returns-in-Err : goal.returns-in-Err
returns-in-Err g c =
    let job = c.args.job.now in
    let packet = c.in-Some.packet in
    let now = c.push_reserved.new.self.items in
    let took = one_more job.taken.items c.reserve.new.self.items now packet c.reserve.ensures.items c.push_reserved.ensures.items in
    record {
      receiver = refl;
      worker = refl;
      queue = c.take.ensures.one;
      kept = one_kept job.taken.items now packet job.take c.take.new.self took c.requires.kept c.in-Some.ensures.taken;
      more = packet ∷ [];
      took = took;
      heard = λ whole. cc;
    }
