-- What is known of each command that a line asks for.
use Rattle.std.specs.Prelude.{◌≡◌, ℕ, ◌<◌, ◌≤◌, ◌^◌, ℤ, List, length, Option, Some, None, option_and_then, Ok}
use Rattle.std.specs.Option.{ForSome}
use Rattle.serde_json.specs.Data.{Data}
use Rattle.yp_base.specs.declared.notice.Trigger.{Trigger}
use Rattle.yp_base.specs.declared.notice.Trigger.TheVariants.{Periodic, OnChange}
use Rattle.yp_schema.specs.declared.schema.SchemaNode.{SchemaNode}
use Rattle.yp_nacm_text.specs.Policies.{policy_in}
use Rattle.yp_patch.specs.Shapes.{patch_in}
use Rattle.yp_time.specs.Ticks.{tick_limit, IsAnchor}
use Rattle.yp_journal.specs.declared.command.Command.{Command}
use Rattle.yp_journal.specs.declared.command.Command.TheVariants.{Tick, Edit, Rules, Establish, Modify, Delete, Kill, Resync, Configure, Reconfigure, Unconfigure, Take}
use Rattle.yp_journal.specs.declared.receiver.ReceiverInfo.{ReceiverInfo}
use Rattle.yp_journal.specs.History.{IsTakeOf, MayCome}

-- how many edits a command has
abbrev pub count_edits : Command → ℕ
count_edits (Edit patch) = length patch.edits
count_edits other = 0

-- the anchor of a trigger, where one is given
abbrev pub anchor_of : Trigger → Option ℤ
anchor_of (Periodic period anchor) = anchor
anchor_of (OnChange dampening sync excluded) = None

-- and that of a command
abbrev pub asked_anchor : Command → Option ℤ
asked_anchor (Establish by ask) = anchor_of ask.trigger
asked_anchor (Modify by id amend) = option_and_then anchor_of amend.trigger
asked_anchor (Configure id receivers ask) = anchor_of ask.trigger
asked_anchor (Reconfigure id amend) = option_and_then anchor_of amend.trigger
asked_anchor other = None

-- fewer edits than there are numbers of 32 bits, and an anchor within the ticks
abbrev pub IsBounded : Command → Type 0
IsBounded command = (count_edits command < 2 ^ 32) × ForSome (asked_anchor command) IsAnchor

-- a command of this schema and these receivers
abbrev pub IsCommandOf : List SchemaNode → List ReceiverInfo → Command → Type 0
IsCommandOf nodes receivers (Tick tick) = tick ≤ tick_limit
IsCommandOf nodes receivers (Edit patch) = (json : Data) × (patch_in json ≡ Some patch)
IsCommandOf nodes receivers (Rules policy) = (json : Data) × (policy_in nodes json ≡ Ok policy)
IsCommandOf nodes receivers (Establish by ask) = by < length receivers
IsCommandOf nodes receivers (Modify by id amend) = by < length receivers
IsCommandOf nodes receivers (Delete by id) = by < length receivers
IsCommandOf nodes receivers (Kill by id) = by < length receivers
IsCommandOf nodes receivers (Resync by id) = by < length receivers
IsCommandOf nodes receivers (Configure id names ask) = length receivers < 2 ^ 32
IsCommandOf nodes receivers (Reconfigure id amend) = Unit {0}
IsCommandOf nodes receivers (Unconfigure id) = Unit {0}
IsCommandOf nodes receivers (Take receiver count) = IsTakeOf receivers receiver count

-- such a command within these bounds may come in a journal of its schema and its receivers
abbrev pub CommandsMayCome : Type 0
CommandsMayCome = (nodes : List SchemaNode) (receivers : List ReceiverInfo) (command : Command) → IsCommandOf nodes receivers command → IsBounded command → MayCome nodes receivers command
