use Rattle.std.proofs.Common.{◌≡◌, List, ap, arith, sym, subst}
use Rattle.std.specs.Prelude.{slice_set}
use Rattle.std.proofs.lemmas.List.Elements.{All-get_or, All-same, All-set}
use Rattle.yp_worker.specs.declared.worker.Worker.{Worker}
use Rattle.world_cases.specs.Companions.{Accompanies}
use Rattle.world_cases.proofs.companions.Companions.offer.Goals as goal

pub returns-in_ok-keep_by-in-Some-clause-follows :
    goal.returns-in_ok-keep_by-in-Some-clause-follows
returns-in_ok-keep_by-in-Some-clause-follows c = λ receivers all.
    let P = Accompanies c.args.schema.now receivers in
    let before : List Worker = c.args.self.now.workers.items in
    let worker : Worker = c.index_mut.result.now in
    let after : Worker = c.offer_by.new.worker in
    let items : c.keep_by.new.self.workers.items ≡ slice_set before c.args.worker after = ap (λ v. v.items) c.in_ok-keep_by-in-Some.ensures.workers in
    let there : P worker =
    subst P (sym c.index_mut.ensures.value) (All-get_or P before c.args.worker worker (omega (arith, c.len.ensures, c.args.self.now.workers.ok.0, c.if-number-len.false)) all) in
    All-same P c.keep_by.new.self.workers.items (slice_set before c.args.worker after) items
    (All-set P before c.args.worker after (c.in_ok-sent.ensures receivers there) all)
