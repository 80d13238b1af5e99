use Rattle.std.proofs.Common.{◌≡◌, ◌∙◌, ◌<◌, ap, sym, subst, length, slice_set, arith}
use Rattle.yp_journal.specs.declared.command.Command.{Command}
use Rattle.yp_journal.specs.History.{IsTakeOf, MayCome}
use Rattle.yp_promise.specs.Serving.{taken_by}
use Rattle.yp_live.specs.Desks.{DeskState, desk_took}
use Rattle.yp_live.specs.Runs.{desks_took}
use Rattle.yp_live.proofs.Results.{when_ok}
use Rattle.yp_live.proofs.Turning.{none_took, number_below, one_took}
use Rattle.yp_live.proofs.run.take_by.Goals as goal

pub index_mut-requires : goal.index_mut-requires
index_mut-requires c =
    let receivers = c.requires.1.0 in
    let receiver = c.in-Take.receiver in
    let may : IsTakeOf receivers receiver c.in-Take.count = subst (λ (k : Command). MayCome c.requires.0 receivers k) c.in-Take.is c.requires.1.1.0 in
    let below : receiver < length receivers = number_below receivers receiver may.info may.there in
    let same : length receivers ≡ length c.args.desks.now.items = c.requires.1.1.1 in
    omega (arith, below, same)

pub returns-in-Take : goal.returns-in-Take
returns-in-Take c =
    let desks = c.args.desks.now.items in
    let receiver = c.in-Take.receiver in
    let count = c.in-Take.count in
    let receivers = c.requires.1.0 in
    let d : DeskState = c.index_mut.result.now in
    let may : IsTakeOf receivers receiver count = subst (λ (k : Command). MayCome c.requires.0 receivers k) c.in-Take.is c.requires.1.1.0 in
    let below : receiver < length receivers = number_below receivers receiver may.info may.there in
    let same : length receivers ≡ length desks = c.requires.1.1.1 in
    when_ok c.take.result c.take.ensures
    (λ took.
    ap (λ (desk : DeskState). slice_set desks receiver desk) (took ∙ ap (desk_took count) c.index_mut.ensures.value)
    ∙ (one_took receiver count 0 receiver desks d (omega arith) (omega (arith, below, same))
    ∙ ap (λ (k : Command). desks_took k 0 desks) (sym c.in-Take.is)))

pub returns-in-Tick : goal.returns-in-Tick
returns-in-Tick c = none_took c.args.command.now (λ n. ap (λ (k : Command). taken_by k n) c.in-Tick.is) 0 c.args.desks.now.items

pub returns-in-Edit : goal.returns-in-Edit
returns-in-Edit c = none_took c.args.command.now (λ n. ap (λ (k : Command). taken_by k n) c.in-Edit.is) 0 c.args.desks.now.items

pub returns-in-Rules : goal.returns-in-Rules
returns-in-Rules c = none_took c.args.command.now (λ n. ap (λ (k : Command). taken_by k n) c.in-Rules.is) 0 c.args.desks.now.items

pub returns-in-Establish : goal.returns-in-Establish
returns-in-Establish c = none_took c.args.command.now (λ n. ap (λ (k : Command). taken_by k n) c.in-Establish.is) 0 c.args.desks.now.items

pub returns-in-Modify : goal.returns-in-Modify
returns-in-Modify c = none_took c.args.command.now (λ n. ap (λ (k : Command). taken_by k n) c.in-Modify.is) 0 c.args.desks.now.items

pub returns-in-Delete : goal.returns-in-Delete
returns-in-Delete c = none_took c.args.command.now (λ n. ap (λ (k : Command). taken_by k n) c.in-Delete.is) 0 c.args.desks.now.items

pub returns-in-Kill : goal.returns-in-Kill
returns-in-Kill c = none_took c.args.command.now (λ n. ap (λ (k : Command). taken_by k n) c.in-Kill.is) 0 c.args.desks.now.items

pub returns-in-Resync : goal.returns-in-Resync
returns-in-Resync c = none_took c.args.command.now (λ n. ap (λ (k : Command). taken_by k n) c.in-Resync.is) 0 c.args.desks.now.items

pub returns-in-Configure : goal.returns-in-Configure
returns-in-Configure c = none_took c.args.command.now (λ n. ap (λ (k : Command). taken_by k n) c.in-Configure.is) 0 c.args.desks.now.items

pub returns-in-Reconfigure : goal.returns-in-Reconfigure
returns-in-Reconfigure c = none_took c.args.command.now (λ n. ap (λ (k : Command). taken_by k n) c.in-Reconfigure.is) 0 c.args.desks.now.items

pub returns-in-Unconfigure : goal.returns-in-Unconfigure
returns-in-Unconfigure c = none_took c.args.command.now (λ n. ap (λ (k : Command). taken_by k n) c.in-Unconfigure.is) 0 c.args.desks.now.items
