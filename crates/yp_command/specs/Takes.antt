-- What the lines say by which receivers take packets from their queues.
use Rattle.std.specs.Prelude.{ℕ, List, Bool, false, not, Option, Some, None, option_and_then, codes}
use Rattle.std.specs.List.{slice_get}
use Rattle.serde_json.specs.Data.{Data}
use Rattle.yp_value.specs.Json.{member_of}
use Rattle.yp_base.specs.Results.{or_fault}
use Rattle.yp_journal.specs.declared.command.Command.{Command}
use Rattle.yp_journal.specs.declared.command.Command.TheVariants.{Take}
use Rattle.yp_journal.specs.declared.receiver.ReceiverInfo.{ReceiverInfo}
use Rattle.yp_journal.specs.History.{take_limit}
use Rattle.yp_command.specs.declared.fault.ScriptKind.TheVariants.{Member}
use Rattle.yp_command.specs.Faults.{Said, said_map, holding, both}
use Rattle.yp_command.specs.Names.{receiver_number}
use Rattle.yp_command.specs.Words.{has_count, text_at, where_true, whole_there}

-- ---- {"take":{"receiver":NAME,"count":N}}

-- whether there is a receiver, and it takes its packets by commands
abbrev pub is_taker : Option ReceiverInfo → Bool
is_taker None = false
is_taker (Some receiver) = not receiver.auto

-- the number of the receiver of a name, where it takes its packets by commands
abbrev pub taker_number : List ReceiverInfo → List ℕ → Option ℕ
taker_number receivers name = where_true (λ number. is_taker (slice_get receivers number)) (receiver_number receivers name)

-- and of the receiver that a line names
abbrev pub taker_said : List ReceiverInfo → Data → Said ℕ
taker_said receivers json = or_fault Member (option_and_then (taker_number receivers) (text_at (codes "receiver") json))

-- how many packets it takes at most
abbrev pub count_said : Data → Said ℕ
count_said json = whole_there 1 take_limit (member_of (codes "count") json)

-- the take that a line asks for, or the least of its faults
abbrev pub take_said : List ReceiverInfo → Data → Said Command
take_said receivers json = said_map (λ said. Take said.0 said.1) (holding Member (has_count 2 json) (both (taker_said receivers json) (count_said json)))
