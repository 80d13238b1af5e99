use Rattle.std.proofs.Common.{◌≡◌, ◌+◌, ℕ, List, [], ◌∷◌, ◌++◌, Some, length, sym, ap, subst, arith, length-append}
use Rattle.std.specs.List.{slice_get}
use Rattle.yp_core.specs.declared.seat.Seat.{Seat}
use Rattle.yp_core.specs.Worlds.{IsOpened}
use Rattle.yp_core.proofs.Elements.{each_more}
use Rattle.yp_core.proofs.opening.open_seats.Goals as goal

pub loop-worker-preserved : goal.loop-worker-preserved
loop-worker-preserved c =
    let nodes = c.args.schema.now in
    let start = c.args.start.now in
    let receivers = c.args.receivers.now in
    let workers = c.args.workers in
    let seats : List Seat = c.loop-worker.seats.items in
    let one : Seat = c.in_ok-open.field-0 in
    let inv = c.loop-worker.invariant in
    let items : c.push.new.self.items ≡ seats ++ one ∷ [] = c.in_ok-push.ensures.items in
    let before : length seats ≡ c.loop-worker.worker = inv.count in
    let all : length c.push.new.self.items ≡ length (seats ++ one ∷ []) = ap length items in
    let more : length (seats ++ one ∷ []) ≡ length seats + 1 = length-append seats (one ∷ []) in
    let here : IsOpened nodes start receivers workers (length seats) one =
    subst (λ (n : ℕ). IsOpened nodes start receivers workers n one) (sym before) (record { position = c.in_ok-open.ensures.position; sent = c.in_ok-open.ensures.sent; idle = c.in_ok-open.ensures.idle }) in
    record {
      count = omega (arith, before, all, more);
      opened = subst (λ (those : List Seat). (number : ℕ) (seat : Seat) → slice_get those number ≡ Some seat → IsOpened nodes start receivers workers number seat) (sym items) (each_more (IsOpened nodes start receivers workers) seats one inv.opened here);
    }
