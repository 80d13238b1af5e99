-- What the values of a line say, by its form, or the least of their faults.
use Rattle.std.specs.Prelude.{ℕ, ◌==◌, ◌&&◌, ◌||◌, List, [], ◌∷◌, length, Bool, true, not, Option, is_some, Err, if◌then◌else◌, nat_le, nat_lt, codes}
use Rattle.serde_json.specs.Data.{Data, string}
use Rattle.yp_value.specs.Json.{member_of}
use Rattle.yp_base.specs.Results.{◌>>=◌, or_fault}
use Rattle.yp_schema.specs.declared.schema.SchemaNode.{SchemaNode}
use Rattle.yp_journal.specs.declared.receiver.ReceiverInfo.{ReceiverInfo}
use Rattle.yp_time.specs.Instants.{start_in}
use Rattle.yp_command.specs.declared.command.Request.{Request}
use Rattle.yp_command.specs.declared.fault.ScriptKind.TheVariants as kinds
use Rattle.yp_command.specs.Faults.{Said, said_map, holding, together}
use Rattle.yp_command.specs.Names.{receiver_number}
use Rattle.yp_command.specs.Requests.{command_said}
use Rattle.yp_command.specs.Words.{has_count, text_at, says, where_true, whole_said, whole_there}
use Rattle.yp_script.specs.declared.lane.Laned.{Laned}

-- ---- {"start":T}

abbrev pub start_said : Data → Said ℕ
start_said (string text) = or_fault kinds.Instant (start_in text)
start_said other = Err kinds.Member

-- ---- {"receiver":{"name":N,"user":U,"queue":Q,"take":"auto"}}, or with "take":"command"

-- letters, digits, `_`, `-` and `.`
abbrev pub is_name_byte : ℕ → Bool
is_name_byte b = (nat_le 97 b && nat_le b 122) || (nat_le 65 b && nat_le b 90) || (nat_le 48 b && nat_le b 57) || b == 95 || b == 45 || b == 46

abbrev pub are_name_bytes : List ℕ → Bool
are_name_bytes [] = true
are_name_bytes (b ∷ bytes) = is_name_byte b && are_name_bytes bytes

abbrev pub is_receiver_name : List ℕ → Bool
is_receiver_name text = nat_le 1 (length text) && nat_le (length text) 32 && are_name_bytes text

abbrev pub is_user_name : List ℕ → Bool
is_user_name text = nat_le 1 (length text) && nat_le (length text) 64

-- a receiver's own name, which none of those before it has
abbrev pub is_new_name : List ReceiverInfo → List ℕ → Bool
is_new_name receivers text = is_receiver_name text && not (is_some (receiver_number receivers text))

-- whether it takes its packets by itself
abbrev pub takes_itself : Data → Bool
takes_itself json = says (codes "take") (codes "auto") json

-- four members, with a take that is by itself or by commands
abbrev pub has_receiver_form : Data → Bool
has_receiver_form json = has_count 4 json && (takes_itself json || says (codes "take") (codes "command") json)

abbrev pub name_said : List ReceiverInfo → Data → Said (List ℕ)
name_said receivers json = or_fault kinds.Member (where_true (is_new_name receivers) (text_at (codes "name") json))

abbrev pub user_said : Data → Said (List ℕ)
user_said json = or_fault kinds.Member (where_true is_user_name (text_at (codes "user") json))

-- how many packets the queue of one receiver more, of 16 at most, holds
abbrev pub places_said : List ReceiverInfo → Data → Said ℕ
places_said receivers json = holding kinds.Limit (nat_lt (length receivers) 16) (whole_there 1 32 (member_of (codes "queue") json))

abbrev pub receiver_of : List ℕ → List ℕ → Bool → ℕ → ReceiverInfo
receiver_of name user auto places = record { name = name; user = user; places = places; auto = auto }

-- one receiver more; a wrong member is the least fault of its line, so it is looked for first
abbrev pub receiver_said : List ReceiverInfo → Data → Said ReceiverInfo
receiver_said receivers json =
    if has_receiver_form json
    then name_said receivers json >>= (λ name. user_said json >>= (λ user. said_map (receiver_of name user (takes_itself json)) (places_said receivers json)))
    else Err kinds.Member

-- ---- {"lanes":K}, {"lane":k,"do":C}

abbrev pub lanes_said : Data → Said ℕ
lanes_said json = whole_said 1 64 json

-- a command of one of so many lanes
abbrev pub laned_said : List SchemaNode → Option ℕ → List ReceiverInfo → ℕ → Data → Request Data → Said Laned
laned_said nodes start receivers count place request =
    together (λ lane command. record { lane = lane; command = command }) (whole_said 1 count place) (command_said nodes start receivers request)
