use Rattle.std.proofs.Common.{◌∷◌, ◌++◌, [], List, subst, sym}
use Rattle.yp_crews.specs.declared.crew.Crew.{Crew}
use Rattle.yp_handover.specs.declared.closing.Followed.{Followed}
use Rattle.yp_handover.specs.declared.group.Group.{Group}
use Rattle.yp_handover.specs.Handover.{IsMadeOf, IsOfOneQueue, Pairs, Triples}
use Rattle.yp_handover.specs.ListLaws.{all_more, pairs_cut, pairs_same, triples_snoc}
use Rattle.yp_handover.proofs.closing.crews_of.Goals as goal

abbrev Go : Followed → Group → Type 0
Go one group = Pairs IsOfOneQueue one.outboxes.items group.takers.items

pub loop-one-init : goal.loop-one-init
loop-one-init g c =
    let workers = c.into_iter-one-iterator.ensures.into_iter_gives.0 in
    let took = c.into_iter-groups.ensures.rest in
    record {
      workers = [];
      took = [];
      all_workers = workers;
      all_took = took;
      left = pairs_same Go _ _ _ _ workers took c.requires;
      made = subst (λ (crews : List Crew). Triples (IsMadeOf c.args.schema.now) [] [] crews) (sym c.in_ok-crews.ensures.items) tt;
    }

pub loop-one-preserved : goal.loop-one-preserved
loop-one-preserved g c =
    let inv = c.loop-one.invariant in
    let one = c.in-Some.one in
    let group = c.in-Some-next.group in
    let worker_cut = c.in-Some.ensures.steps.0 in
    let group_cut = c.in-Some-next.ensures.items in
    record {
      workers = inv.workers ++ one ∷ [];
      took = inv.took ++ group ∷ [];
      all_workers = all_more inv.workers one _ _ _ worker_cut inv.all_workers;
      all_took = all_more inv.took group _ _ _ group_cut inv.all_took;
      left = (pairs_cut Go _ _ _ _ one group worker_cut group_cut inv.left).1;
      made = triples_snoc (IsMadeOf c.args.schema.now) inv.workers inv.took c.loop-one.crews.items one group (c.in_ok-crew_of-in-Some-next).field-0 c.push.new.self.items c.in_ok-push-in-Some-next.ensures.items inv.made (c.in_ok-crew_of-in-Some-next).ensures;
    }
