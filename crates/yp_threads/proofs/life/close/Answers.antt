use Rattle.std.proofs.Common.{◌≡◌, ℕ, true, List, length, map, ap, subst, sym, ◌∙◌}
use Rattle.std.proofs.lemmas.List.Elements.{recursion_from_All}
use Rattle.std.proofs.lemmas.Result.{IfOk-weaker}
use Rattle.yp_schema.specs.declared.schema.SchemaNode.{SchemaNode}
use Rattle.yp_journal.specs.declared.receiver.ReceiverInfo.{ReceiverInfo}
use Rattle.yp_crews.specs.declared.crew.Crew.{Crew}
use Rattle.yp_log_share.specs.Seats.{AreOfLanesFrom, Seat}
use Rattle.yp_threads.specs.Beside.{HasAll}
use Rattle.yp_published.specs.Histories.{Begins, Known}
use Rattle.yp_published.specs.Reads.{Reading}
use Rattle.yp_handover.specs.Handover.{AreBack, AreHandedBack, GoesOnByThreads, IsMadeOf, Pairs, Triples}
use Rattle.yp_turns.specs.Journal.{Interleaves, turn_of}
use Rattle.yp_threads.proofs.Interleaving.{interleaves}
use Rattle.yp_threads.proofs.Lists.{with_both}
use Rattle.yp_threads.proofs.life.close.Goals as goal

pub made_of-requires : goal.made_of-requires
made_of-requires g c =
    let known : Known = record { entries = (c.in-Ok).closed.entries.items; ended = true } in
    let back = c.requires.back in
    c.each_receiver_took_from_its_queue.ensures g.J.Naming.nodes g.J.Naming.opening back.0 back.1 known.entries back.2 c.args.back.followed.items c.args.back.groups.items
    (c.workers_that_are_back_got_all.ensures g.J.Naming.nodes g.J.Naming.opening back.0 back.1 known back.2 c.args.back.readers.items c.args.back.followed.items c.args.back.groups.items back.3
    (recursion_from_All (λ (reader : Reading). Begins reader.got known) c.args.back.readers.items (c.in-Ok).ensures.read))

pub returns-in-Ok-clause-lanes : goal.returns-in-Ok-clause-lanes
returns-in-Ok-clause-lanes g c =
    IfOk-weaker c.made_of.result _ _
    (λ beside same lanes count has.
    let e = (c.in-Ok).ensures in
    subst (λ entries. Interleaves lanes (map turn_of entries.items)) (sym same)
    (interleaves _ _ (c.in-Ok).closed.entries.items lanes (c.in-Ok).closed.lanes.items (subst (λ (seats : List Seat). Pairs HasAll lanes seats) (sym e.seats) has.all) (subst (AreOfLanesFrom 1) (sym e.seats) has.order) e.lanes e.others count)) c.made_of.ensures.entries

pub returns-in-Ok-clause-crews : goal.returns-in-Ok-clause-crews
returns-in-Ok-clause-crews g c =
    let nodes = g.J.Naming.nodes in
    let opening = g.J.Naming.opening in
    let entries = (c.in-Ok).closed.entries.items in
    let known : Known = record { entries = entries; ended = true } in
    let followed = c.args.back.followed.items in
    let groups = c.args.back.groups.items in
    with_both c.made_of.result _ _ _
    (λ beside same made receivers workers crews are.
    let handed : AreHandedBack nodes opening receivers workers entries crews followed groups =
    c.workers_that_are_back_got_all.ensures nodes opening receivers workers known crews c.args.back.readers.items followed groups are
    (recursion_from_All (λ (reader : Reading). Begins reader.got known) c.args.back.readers.items (c.in-Ok).ensures.read) in
    let own : Triples (IsMadeOf nodes) followed groups beside.crews.items = subst (λ (those : List SchemaNode). Triples (IsMadeOf those) followed groups beside.crews.items) c.requires.schema made in
    subst (λ those. Pairs (GoesOnByThreads nodes opening receivers those.items) crews beside.crews.items) (sym same)
    (c.a_crew_goes_on_by_threads.ensures nodes opening receivers workers entries crews beside.crews.items followed groups handed own)) c.made_of.ensures.entries c.made_of.ensures.crews
