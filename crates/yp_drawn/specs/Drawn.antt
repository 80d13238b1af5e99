-- The script that a drawn text says: its setting, so many drawn commands, and a tick that lets every dampening period end.
use Rattle.std.specs.Prelude.{ℕ, ◌+◌, ◌*◌, List, [], ◌∷◌, ◌++◌, map, Option, Some, None, codes, decimal}
use Rattle.std.specs.List.{range_with_len}
use Rattle.serde_json.specs.Data.{unsigned, Data, boolean, number, string, array, object, no_items, item, no_members, member}
use Rattle.yp_gen.specs.declared.command.Drawn.{Drawn}
use Rattle.yp_gen.specs.declared.command.Drawn.TheVariants as drawn
use Rattle.yp_gen.specs.Commands.{drawn_by}
use Rattle.yp_gen.specs.Draws.{draw_of, drawn_state}
use Rattle.yp_patch.specs.declared.patch.EditOp.{EditOp}
use Rattle.yp_patch.specs.declared.patch.EditOp.TheVariants.{Merge, Remove}
use Rattle.yp_journal.specs.declared.command.Command.{Command}
use Rattle.yp_journal.specs.declared.command.Command.TheVariants.{Tick, Edit}
use Rattle.yp_script.specs.declared.script.Script.{Script}
use Rattle.yp_drawn.specs.Setting.{setting_start, interface_nodes, two_receivers, first_subscription, second_subscription}

-- ---- patches (RFC 8072) of one entry `eth0` to `eth63`

-- the target of an edit: the path of the entry of a number
abbrev pub entry_target : ℕ → List ℕ
entry_target entry = codes "/acme:interfaces/interface=eth" ++ decimal entry

-- the value of an edit: the entry with one leaf beside its name
abbrev pub entry_json : List ℕ → Data → ℕ → Data
entry_json leaf value entry =
    object (member (codes "acme:interface") (array (item
    (object (member leaf value (member (codes "name") (string (codes "eth" ++ decimal entry)) no_members)))
    no_items)) no_members)

-- the patch of this number, with one edit
abbrev pub numbered_patch : ℕ → EditOp → ℕ → Option Data → Command
numbered_patch k op entry value = Edit (record {
  id = decimal k;
  edits = record { id = codes "1"; op = op; target = entry_target entry; point = None; place = None; value = value } ∷ [];
})

-- ---- commands

-- the command of a number, by what it does: a tick of the k-th command is to 10 * k
abbrev pub drawn_command : ℕ → Drawn → Command
drawn_command k drawn.Tick = Tick (10 * k)
drawn_command k (drawn.Mtu entry mtu) = numbered_patch k Merge entry (Some (entry_json (codes "mtu") (number (unsigned mtu)) entry))
drawn_command k (drawn.Enabled entry enabled) = numbered_patch k Merge entry (Some (entry_json (codes "enabled") (boolean enabled) entry))
drawn_command k (drawn.Removal entry) = numbered_patch k Remove entry None

-- the command of a number by a seed
abbrev pub command_at : ℕ → ℕ → Command
command_at seed k = drawn_command k (drawn_by (draw_of (drawn_state seed k)))

-- the commands 1 to so many
abbrev pub drawn_commands : ℕ → ℕ → List Command
drawn_commands seed size = map (command_at seed) (range_with_len 1 size)

-- ---- the whole

-- the script that is drawn from a seed, with so many drawn commands; it has no lanes
abbrev pub drawn_script : ℕ → ℕ → Script
drawn_script seed size = record {
  start = setting_start;
  schema = interface_nodes;
  receivers = two_receivers;
  before = first_subscription ∷ second_subscription ∷ drawn_commands seed size ++ Tick (10 * (size + 10)) ∷ [];
  lanes = [];
  after = [];
}
