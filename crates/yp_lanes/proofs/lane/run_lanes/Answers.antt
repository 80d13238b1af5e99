use denote.Exit.{no}
use denote.Param.{param}
use denote.Struct.Declared.{shape}
use denote.Struct.Tuple.{field_at, type_at}
use denote.Param.Send.{AllSync, arg_sync, param_sync, recorded_sync, shr_sync, struct_sync}
use denote.RattleType.{RattleType}
use mathlib.Core.List.{List, []}
use mir.Syntax.{named, tcons, tnil, ty_ptr, ty_struct}
use Rattle.std.proofs.alloc.Global.TheSendSync as heap
use Rattle.yp_schema.proofs.schema.Schema.TheSendSync as schema
use Rattle.yp_published.specs.contracts.store.StoreAbsorbOp.TheImpl.{ghosts, no_dict}
use Rattle.yp_lanes.proofs.Crossing.{log_sync}
use Rattle.yp_lanes.proofs.lane.run_lanes.Goals as goal
use Rattle.yp_lanes.proofs.lane.run_lanes.Lts as lts

-- what the lanes share may be shared: the journal by its lemma, since a state under its lock is more than the check finds
pub for_each_mut-requires-sync-F : goal.for_each_mut-requires-sync-F
for_each_mut-requires-sync-F g c κs within =
    let parts : List RattleType =
    lts.of-18 g.row.J g.row.T g.row.G g.J.laws g.T.laws g.G.laws g.J.Naming g.J.Naming-dict g.J.Ledger g.J.Ledger-dict g.T.Threads g.T.Threads-dict g.T.Wait g.T.Wait-dict g.G.Gate g.G.Gate-dict
    (record { mir = named 6; lft = κs.1.1.1.1.1.1.0 }) (record { mir = named 7; lft = κs.1.1.1.1.1.1.1.0 }) (record { mir = named 8; lft = κs.1.1.1.1.1.1.1.1.0 })
    (record { mir = named 9; lft = κs.1.1.1.1.1.1.1.1.1.0 }) (record { mir = named 10; lft = κs.1.1.1.1.1.1.1.1.1.1.0 }) (record { mir = named 11; lft = κs.1.1.1.1.1.1.1.1.1.1.1.0 }) in
    let name = lts.name-29 g.row.J g.row.T g.row.G g.J.laws g.T.laws g.G.laws g.J.Naming g.J.Naming-dict g.J.Ledger g.J.Ledger-dict g.T.Threads g.T.Threads-dict g.T.Wait g.T.Wait-dict g.G.Gate g.G.Gate-dict in
    let each : AllSync parts =
    (shr_sync _ _ _ c.type_bounds.sync-T, (shr_sync _ _ _ heap.the_sync, (shr_sync _ _ _ schema.the_sync, (shr_sync (named 9) κs.1.1.1.1.1.1.1.1.1.0 _ (log_sync (param 0 g.row.J) g.J.Naming g.J.Ledger (ghosts (param 0 g.row.J) g.J.Naming no_dict g.J.Ledger no_dict) (record { mir = named 10; lft = κs.1.1.1.1.1.1.1.1.1.1.0 })), (shr_sync _ _ _ c.type_bounds.sync-G, tt))))) in
    param_sync _ _ (arg_sync (ty_struct [] (tcons ty_ptr (tcons ty_ptr (tcons ty_ptr (tcons ty_ptr (tcons ty_ptr tnil)))))) no _ (recorded_sync (field_at name parts).row _ _ (type_at name parts).to_one (struct_sync (shape (type_at name parts)) each)))
