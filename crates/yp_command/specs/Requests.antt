-- Which command a member of a line asks for, and what its value says, or the least of its faults.
use Rattle.std.specs.Prelude.{ℕ, List, Option, Some, None, option_and_then, Result, Ok, Err, if◌then◌else◌, codes}
use Rattle.std.specs.Borrow.{Bor}
use Rattle.serde_json.specs.Data.{Data}
use Rattle.serde_json.specs.View.{view}
use Rattle.serde_json.specs.declared.value.Value.{Value}
use Rattle.yp_base.specs.Results.{or_fault}
use Rattle.yp_base.specs.Types.{same_text}
use Rattle.yp_schema.specs.declared.schema.SchemaNode.{SchemaNode}
use Rattle.yp_nacm_text.specs.Faults.{Fault}
use Rattle.yp_nacm_text.specs.Policies.{policy_in}
use Rattle.yp_patch.specs.Shapes.{patch_in}
use Rattle.yp_time.specs.Ticks.{tick_limit}
use Rattle.yp_journal.specs.declared.command.Command.{Command}
use Rattle.yp_journal.specs.declared.command.Command.TheVariants as commands
use Rattle.yp_journal.specs.declared.receiver.ReceiverInfo.{ReceiverInfo}
use Rattle.yp_command.specs.declared.command.Request.{Request}
use Rattle.yp_command.specs.declared.command.Request.TheVariants.{Tick, Patch, Policy, Establish, Modify, Delete, Kill, Resync, Configure, Reconfigure, Unconfigure, Take}
use Rattle.yp_command.specs.declared.fault.ScriptKind.TheVariants as kinds
use Rattle.yp_command.specs.Asks.{establish_said}
use Rattle.yp_command.specs.Calls.{modify_said, delete_said, kill_said, resync_said, configure_said, reconfigure_said, unconfigure_said}
use Rattle.yp_command.specs.Faults.{Said, said_map}
use Rattle.yp_command.specs.Takes.{take_said}
use Rattle.yp_command.specs.Words.{sole_member, whole_said}

-- ---- which command

-- the command that a member of this name and this value asks for
abbrev pub request_named : List ℕ → Data → Option (Request Data)
request_named name value =
    if same_text name (codes "tick") then Some (Tick value)
    else (if same_text name (codes "patch") then Some (Patch value)
    else (if same_text name (codes "policy") then Some (Policy value)
    else (if same_text name (codes "establish") then Some (Establish value)
    else (if same_text name (codes "modify") then Some (Modify value)
    else (if same_text name (codes "delete") then Some (Delete value)
    else (if same_text name (codes "kill") then Some (Kill value)
    else (if same_text name (codes "resync") then Some (Resync value)
    else (if same_text name (codes "configure") then Some (Configure value)
    else (if same_text name (codes "reconfigure") then Some (Reconfigure value)
    else (if same_text name (codes "unconfigure") then Some (Unconfigure value)
    else (if same_text name (codes "take") then Some (Take value)
    else None)))))))))))

-- the command that an object of one member asks for
abbrev pub request_in : Data → Option (Request Data)
request_in json = option_and_then (λ member. request_named member.0 member.1) (sole_member json)

-- the same as a contract sees it
abbrev pub seen_request : Request (Bor Value) → Request Data
seen_request (Tick value) = Tick (view value.now)
seen_request (Patch value) = Patch (view value.now)
seen_request (Policy value) = Policy (view value.now)
seen_request (Establish value) = Establish (view value.now)
seen_request (Modify value) = Modify (view value.now)
seen_request (Delete value) = Delete (view value.now)
seen_request (Kill value) = Kill (view value.now)
seen_request (Resync value) = Resync (view value.now)
seen_request (Configure value) = Configure (view value.now)
seen_request (Reconfigure value) = Reconfigure (view value.now)
seen_request (Unconfigure value) = Unconfigure (view value.now)
seen_request (Take value) = Take (view value.now)

-- ---- {"tick":T}, {"patch":D} (RFC 8072), {"policy":D} (RFC 8341)

abbrev pub patch_said : Data → Said Command
patch_said json = said_map commands.Edit (or_fault kinds.Patch (patch_in json))

-- what is read of a policy; each of its faults is one and the same fault of the line
abbrev pub sound : {X : Type 0} → Result X Fault → Said X
sound (Ok x) = Ok x
sound (Err fault) = Err kinds.Policy

-- a policy is one of the schema that these nodes are
abbrev pub policy_said : List SchemaNode → Data → Said Command
policy_said nodes json = said_map commands.Rules (sound (policy_in nodes json))

-- a command, by the nodes of the schema, the start and the receivers so far
abbrev pub command_said : List SchemaNode → Option ℕ → List ReceiverInfo → Request Data → Said Command
command_said nodes start receivers (Tick json) = said_map commands.Tick (whole_said 0 tick_limit json)
command_said nodes start receivers (Patch json) = patch_said json
command_said nodes start receivers (Policy json) = policy_said nodes json
command_said nodes start receivers (Establish json) = establish_said start receivers json
command_said nodes start receivers (Modify json) = modify_said start receivers json
command_said nodes start receivers (Delete json) = delete_said receivers json
command_said nodes start receivers (Kill json) = kill_said receivers json
command_said nodes start receivers (Resync json) = resync_said receivers json
command_said nodes start receivers (Configure json) = configure_said start json
command_said nodes start receivers (Reconfigure json) = reconfigure_said start json
command_said nodes start receivers (Unconfigure json) = unconfigure_said json
command_said nodes start receivers (Take json) = take_said receivers json
