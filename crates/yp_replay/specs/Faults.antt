-- Why a stream is not replayed.
use Rattle.std.specs.Prelude.{ℕ}
use Rattle.yp_decode.specs.declared.fault.StreamFault.{StreamFault}
use Rattle.yp_decode.specs.declared.fault.StreamFault.TheVariants as lines
use Rattle.yp_script.specs.declared.fault.ScriptFault.{ScriptFault}
use Rattle.yp_script.specs.declared.fault.ScriptFault.TheVariants as scripts
use Rattle.yp_script.specs.Faults.{LineFault}
use Rattle.yp_replay.specs.declared.fault.ReplayFault.{ReplayFault}
use Rattle.yp_replay.specs.declared.fault.ReplayFault.TheVariants.{Script, Stream, Memory}
use Rattle.yp_replay.specs.declared.fault.StreamKind.{StreamKind}
use Rattle.yp_replay.specs.declared.fault.StreamKind.TheVariants.{NotJson, Envelope, UnknownNotice, Member, Target, Data}

abbrev pub stream_kind_number : StreamKind → ℕ
stream_kind_number NotJson = 1
stream_kind_number Envelope = 2
stream_kind_number UnknownNotice = 3
stream_kind_number Member = 4
stream_kind_number Target = 5
stream_kind_number Data = 6

-- what is told of a notification line of this number with this fault; that memory ran out is no line's
abbrev pub line_fault : ℕ → StreamFault → ReplayFault
line_fault number lines.NotJson = Stream number NotJson
line_fault number lines.Envelope = Stream number Envelope
line_fault number lines.UnknownNotice = Stream number UnknownNotice
line_fault number lines.Member = Stream number Member
line_fault number (lines.Target fault) = Stream number Target
line_fault number (lines.Data fault) = Stream number Data
line_fault number lines.Memory = Memory

-- what is told of a line with a script's fault
abbrev pub script_fault : LineFault → ReplayFault
script_fault fault = Script fault.line fault.kind

-- what is told of the first lines, of a stream without a schema
abbrev pub first_lines_fault : ScriptFault → ReplayFault
first_lines_fault (scripts.At line kind) = Script line kind
first_lines_fault scripts.Memory = Memory
