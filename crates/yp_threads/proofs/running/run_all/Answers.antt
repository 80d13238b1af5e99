use denote.Exit.{no}
use denote.Param.{param}
use denote.Struct.Declared.{shape}
use denote.Struct.Tuple.{field_at, type_at}
use denote.Param.Send.{AllSend, arg_send, param_send, recorded_send, sendable, shr_send, struct_send}
use denote.RattleType.{RattleType}
use mathlib.Core.List.{List}
use mir.Syntax.{named}
use Rattle.std.proofs.Crossing.{crosses}
use Rattle.std.proofs.alloc.Global.TheSendSync as heap
use Rattle.yp_schema.proofs.schema.Schema.TheSendSync as schema
use Rattle.yp_threads.proofs.Crossing.{jobs_send}
use Rattle.yp_threads.proofs.running.run_all.Goals as goal
use Rattle.yp_threads.proofs.running.run_all.Lts as lts

-- what the thread of workers and receivers is given may go there: their jobs by their lemma, since they hold more than the check finds
pub join-served-requires-send-F : goal.join-served-requires-send-F
join-served-requires-send-F g c κs within =
    let parts : List RattleType =
    lts.of-38 g.row.J g.row.T g.row.G g.J.laws g.T.laws g.G.laws g.J.Naming g.J.Naming-dict g.J.Ledger g.J.Ledger-dict g.T.Threads g.T.Threads-dict g.T.Wait g.T.Wait-dict g.G.Gate g.G.Gate-dict
    (record { mir = named 6; lft = κs.1.1.1.1.1.1.0 }) (record { mir = named 7; lft = κs.1.1.1.1.1.1.1.0 }) (record { mir = named 8; lft = κs.1.1.1.1.1.1.1.1.0 })
    (record { mir = named 9; lft = κs.1.1.1.1.1.1.1.1.1.0 }) (record { mir = named 10; lft = κs.1.1.1.1.1.1.1.1.1.1.0 }) in
    let name = lts.name-57 g.row.J g.row.T g.row.G g.J.laws g.T.laws g.G.laws g.J.Naming g.J.Naming-dict g.J.Ledger g.J.Ledger-dict g.T.Threads g.T.Threads-dict g.T.Wait g.T.Wait-dict g.G.Gate g.G.Gate-dict in
    let each : AllSend parts = (
      shr_send _ _ _ c.type_bounds.sync-T,
      (
        heap.the_send,
        (
          shr_send _ _ _ schema.the_sync,
          (
            shr_send _ _ _ c.type_bounds.sync-G,
            (
              search (crosses, sendable) depth 60 fits 20000,
              (search (crosses, sendable) depth 60 fits 20000, (jobs_send (param 0 g.row.J) g.J.Naming g.J.Ledger, tt)),
            ),
          ),
        ),
      ),
    ) in
    param_send _ _ (arg_send _ no _ (recorded_send (field_at name parts).row _ _ (type_at name parts).to_one (struct_send (shape (type_at name parts)) each)))

pub join-served-requires-send-A : goal.join-served-requires-send-A
join-served-requires-send-A g c κs within = search (jobs_send, crosses, sendable) depth 60 fits 20000
