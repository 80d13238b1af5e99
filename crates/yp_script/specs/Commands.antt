-- The commands of a script.
use Rattle.std.specs.Prelude.{List, All}
use Rattle.yp_journal.specs.declared.command.Command.{Command}
use Rattle.yp_command.specs.Commands.{IsBounded}
use Rattle.yp_script.specs.declared.script.Script.{Script}

-- commands within their bounds: fewer edits than there are numbers of 32 bits, and anchors within the ticks
abbrev pub AreBounded : List Command → Type 0
AreBounded commands = All IsBounded commands

-- the same of each command of a script
pub record HasBounds (script : Script) : Type 0 where
  pub before : AreBounded script.before
  pub lanes : All AreBounded script.lanes
  pub after : AreBounded script.after
