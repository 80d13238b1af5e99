-- What readers of a script return: what the definition gives, but where memory ran out.
use Rattle.std.specs.Prelude.{◌≡◌, ℕ, List, get_or, Result, Ok, Err}
use Rattle.yp_schema.specs.declared.schema.SchemaNode.{SchemaNode}
use Rattle.yp_schema.specs.Rounds.{Fault}
use Rattle.yp_command.specs.declared.fault.ScriptKind.TheVariants.{Schema}
use Rattle.yp_command.specs.declared.halt.Halt.{Halt}
use Rattle.yp_command.specs.declared.halt.Halt.TheVariants as halts
use Rattle.yp_script.specs.declared.fault.ScriptFault.{ScriptFault}
use Rattle.yp_script.specs.declared.fault.ScriptFault.TheVariants.{At, Memory}
use Rattle.yp_script.specs.Faults.{LineFault}

-- a fault is that of the definition
abbrev pub IsFault : {X : Type 0} → ScriptFault → Result X LineFault → Type 0
IsFault (At line kind) read = read ≡ Err (record { line = line; kind = kind })
IsFault Memory read = Unit {0}

-- what stops the reading of a line at this fault of the script
abbrev pub halt_of : ScriptFault → Halt
halt_of (At line kind) = halts.Fault kind
halt_of Memory = halts.Memory

-- what was read, or its fault
abbrev pub Gives : {X : Type 0} → Result X ScriptFault → Result X LineFault → Type 0
Gives (Ok x) read = read ≡ Ok x
Gives (Err fault) read = IsFault fault read

-- a fault of a part of the schema is one of its line
abbrev pub at_part : List ℕ → Result (List SchemaNode) Fault → Result (List SchemaNode) LineFault
at_part numbers (Ok nodes) = Ok nodes
at_part numbers (Err fault) = Err (record { line = get_or numbers fault.part 0; kind = Schema })
