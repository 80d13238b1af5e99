use Rattle.std.proofs.Common.{◌≡◌, ◌++◌, List}
use Rattle.std.specs.Vec.Iter.{into_iter_items}
use Rattle.yp_handover.specs.declared.closing.Followed.{Followed}
use Rattle.yp_handover.specs.declared.group.Group.{Group}
use Rattle.yp_handover.specs.Handover.{IsMadeOf, IsOfOneQueue, Pairs, Triples}
use Rattle.yp_handover.proofs.closing.crews_of.Given as goal

-- the workers so far have their crews, and those that are left come after them, with their receivers
abbrev pub invariant-loop-one : goal.invariant-loop-one
invariant-loop-one g l = record {
  workers : List Followed;
  took : List Group;
  all_workers : workers ++ into_iter_items l.one-iterator ≡ l.fn.followed.items;
  all_took : took ++ into_iter_items l.groups ≡ l.fn.groups.items;
  left : Pairs (λ (one : Followed) (group : Group). Pairs IsOfOneQueue one.outboxes.items group.takers.items) (into_iter_items l.one-iterator) (into_iter_items l.groups);
  made : Triples (IsMadeOf l.schema) workers took l.crews.items;
}
