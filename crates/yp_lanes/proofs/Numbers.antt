-- One call more has the next number.
use Rattle.std.proofs.Common.{◌≡◌, ℕ, ◌+◌, true, false, List, [], ◌∷◌, ◌++◌, length, Result, Ok, Err, is_err, IfOk, OnErr, arith, refl, sym, subst}
use Rattle.yp_journal.specs.declared.command.Command.{Command}
use Rattle.yp_log_share.specs.declared.seat.Call.{Call}
use Rattle.yp_log_share.specs.declared.seat.Receipt.{Receipt}
use Rattle.yp_log_share.specs.Seats.{Seat, with_call}
use Rattle.yp_lanes.specs.Lanes.{AreNumberedFrom}

-- a command that was accepted is a call more of its seat
pub accepted : {E : Type 0} (told : Result Receipt E) (command : Command) (before after : Seat) → is_err told ≡ false → IfOk told (λ receipt. after ≡ with_call before receipt.position command receipt.reply)
    → (receipt : Receipt) × (after ≡ with_call before receipt.position command receipt.reply)
accepted (Ok receipt) command before after fine called = (receipt, called)
accepted (Err e) command before after fine called = cc

numbered_on : (number : ℕ) (calls : List Call) (call : Call) → AreNumberedFrom number calls → call.index ≡ length calls + number → AreNumberedFrom number (calls ++ call ∷ [])
numbered_on number [] call are next = (omega (arith, next), tt)
numbered_on number (first ∷ calls) call are next = (are.0, numbered_on (number + 1) calls call are.1 (omega (arith, next)))

pub call_numbered : (command : Command) (receipt : Receipt) (before after : Seat) → after ≡ with_call before receipt.position command receipt.reply → AreNumberedFrom 1 before.calls → AreNumberedFrom 1 after.calls
call_numbered command receipt before after is are =
    subst (λ (seat : Seat). AreNumberedFrom 1 seat.calls) (sym is)
    (numbered_on 1 before.calls (record { index = length before.calls + 1; position = receipt.position; command = command; reply = receipt.reply }) are refl)

-- a seat for whose command there was no memory has the calls that it had
pub same_numbered : {E : Type 0} (told : Result Receipt E) (before after : Seat) → is_err told ≡ true → OnErr told (after ≡ before) → AreNumberedFrom 1 before.calls → AreNumberedFrom 1 after.calls
same_numbered (Ok receipt) before after fails same are = cc
same_numbered (Err e) before after fails same are = subst (λ (seat : Seat). AreNumberedFrom 1 seat.calls) (sym same) are
