use Rattle.std.proofs.Common.{◌≡◌, ℕ, ◌+◌, List, [], ◌∷◌, ◌++◌, length, replicate, sym, ap, subst, arith, length-append}
use Rattle.std.proofs.lemmas.List.{replicate_more}
use Rattle.yp_attempt.specs.Runs.{Run, first_run}
use Rattle.yp_attempt.specs.Workers.{numbers_of}
use Rattle.yp_crews.specs.declared.crew.Crew.{Crew}
use Rattle.yp_crews.specs.Crews.{AreCrews, IsCrewOf}
use Rattle.yp_crews.proofs.Opening.{crews_more}
use Rattle.yp_crews.proofs.crews.open_crews.Goals as goal

pub loop-worker-preserved : goal.loop-worker-preserved
loop-worker-preserved c =
    let nodes = c.args.schema.now in
    let start = c.args.start.now in
    let receivers = c.args.receivers.now in
    let workers = c.args.workers in
    let worker : ℕ = c.loop-worker.worker in
    let crews : List Crew = c.loop-worker.crews.items in
    let one : Crew = c.in_ok-open.field-0 in
    let items : c.push.new.self.items ≡ crews ++ one ∷ [] = c.in_ok-push.ensures.items in
    let before : length crews ≡ worker = c.loop-worker.invariant.count in
    let all : length c.push.new.self.items ≡ length (crews ++ one ∷ []) = ap length items in
    let more : length (crews ++ one ∷ []) ≡ length crews + 1 = length-append crews (one ∷ []) in
    let same : worker ≡ 0 + length crews = omega (arith, before) in
    let here : IsCrewOf nodes start receivers (numbers_of (0 + length crews) workers (length receivers)) [] first_run one =
    subst (λ (n : ℕ). IsCrewOf nodes start receivers (numbers_of n workers (length receivers)) [] first_run one) same c.in_ok-open.ensures in
    let are : AreCrews nodes start receivers workers 0 [] (replicate worker first_run ++ first_run ∷ []) (crews ++ one ∷ []) =
    crews_more nodes start receivers workers 0 (replicate worker first_run) crews first_run one c.loop-worker.invariant.are here in
    record {
      count = omega (arith, before, all, more);
      are = subst (λ (those : List Crew). AreCrews nodes start receivers workers 0 [] (replicate (worker + 1) first_run) those) (sym items)
          (subst (λ (runs : List Run). AreCrews nodes start receivers workers 0 [] runs (crews ++ one ∷ [])) (replicate_more worker first_run) are);
    }
