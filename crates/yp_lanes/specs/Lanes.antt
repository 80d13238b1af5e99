-- What a lane has written.
use Rattle.std.specs.Prelude.{◌≡◌, ℕ, ◌+◌, Bool, true, List, [], ◌∷◌, ◌++◌, map}
use Rattle.yp_journal.specs.declared.command.Command.{Command}
use Rattle.yp_log_share.specs.declared.seat.Call.{Call}
use Rattle.yp_log_share.specs.Seats.{Seat}

-- the commands of a seat that were accepted, in order
abbrev pub commands_of : Seat → List Command
commands_of seat = map (λ call. call.command) seat.calls

-- calls are numbered one after another, the first with this number
abbrev pub AreNumberedFrom : ℕ → List Call → Type 0
AreNumberedFrom number [] = Unit {0}
AreNumberedFrom number (call ∷ calls) = (call.index ≡ number) × AreNumberedFrom (number + 1) calls

-- a lane has written these commands after those of before, in order, where it is whole
pub record HasWritten (before : Seat) (commands : List Command) (after : Seat) (whole : Bool) : Type 0 where
  pub lane : after.lane ≡ before.lane
  pub all : whole ≡ true → commands_of after ≡ commands_of before ++ commands
  -- its calls are numbered one after another from 1 on, where they were so before
  pub numbered : AreNumberedFrom 1 before.calls → AreNumberedFrom 1 after.calls
