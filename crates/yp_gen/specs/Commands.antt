-- The commands that are drawn, and their lines: ticks, and patches (RFC 8072) of one entry `eth0` to `eth63`.
use Rattle.std.specs.Prelude.{ℕ, ◌+◌, ◌*◌, ◌/◌, ◌%◌, ◌==◌, Bool, List, ◌++◌, if◌then◌else◌, codes, decimal}
use Rattle.yp_gen.specs.declared.command.Drawn.{Drawn}
use Rattle.yp_gen.specs.declared.command.Drawn.TheVariants.{Tick, Mtu, Enabled, Removal}

-- what a command does to an entry, by its kind and the number that is left for the value
abbrev pub drawn_as : ℕ → ℕ → ℕ → Drawn
drawn_as kind entry rest =
    if kind == 0 then Tick else
    (if kind == 1 then Mtu entry (576 + rest % 8192) else
    (if kind == 2 then Enabled entry (rest % 2 == 0) else Removal entry))

-- what the command of a draw does: the draw has the entry modulo 64, then the kind modulo 4, then the rest
abbrev pub drawn_by : ℕ → Drawn
drawn_by draw = drawn_as (draw / 64 % 4) (draw % 64) (draw / 256)

-- the line of a tick: the time, in hundredths of a second
unfoldable pub tick_line : ℕ → List ℕ
tick_line time = codes "{\"tick\":" ++ decimal time ++ codes "}\n"

-- the line of a patch with one edit, up to its target: the operation, and the number of the entry
unfoldable pub edit_head : List ℕ → ℕ → List ℕ
edit_head operation entry = codes "{\"patch\":{\"ietf-yang-patch:yang-patch\":{\"edit\":[{\"edit-id\":\"1\",\"operation\":\"" ++ operation ++ codes "\",\"target\":\"/acme:interfaces/interface=eth" ++ decimal entry ++ codes "\""

-- what ends it: the id of the patch
unfoldable pub patch_end : ℕ → List ℕ
patch_end id = codes "}],\"patch-id\":\"" ++ decimal id ++ codes "\"}}}\n"

-- the value of an edit: the entry with one leaf, which stands before its name
unfoldable pub value_of : List ℕ → ℕ → List ℕ
value_of leaf entry = codes ",\"value\":{\"acme:interface\":[{" ++ leaf ++ codes ",\"name\":\"eth" ++ decimal entry ++ codes "\"}]}"

abbrev pub mtu_leaf : ℕ → List ℕ
mtu_leaf mtu = codes "\"mtu\":" ++ decimal mtu

abbrev pub enabled_leaf : Bool → List ℕ
enabled_leaf enabled = codes "\"enabled\":" ++ (if enabled then codes "true" else codes "false")

-- the line of the command of a number, by what it does: a tick of the k-th command is to 10 * k, and a patch has k for its id
abbrev pub command_text : ℕ → Drawn → List ℕ
command_text k Tick = tick_line (10 * k)
command_text k (Mtu entry mtu) = edit_head (codes "merge") entry ++ value_of (mtu_leaf mtu) entry ++ patch_end k
command_text k (Enabled entry enabled) = edit_head (codes "merge") entry ++ value_of (enabled_leaf enabled) entry ++ patch_end k
command_text k (Removal entry) = edit_head (codes "remove") entry ++ patch_end k
