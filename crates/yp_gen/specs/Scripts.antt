-- The script that is drawn from a seed: its head, so many drawn commands, and a tick that lets every dampening period end.
use Rattle.std.specs.Prelude.{ℕ, ◌+◌, ◌*◌, List, ◌++◌, codes}
use Rattle.std.specs.List.{flat_map, range_with_len}
use Rattle.yp_gen.specs.Commands.{command_text, drawn_by, tick_line}
use Rattle.yp_gen.specs.Draws.{draw_of, drawn_state}

-- when the script starts, the schema of a list of interfaces, and the receivers r1 of the user ann and r2 of bob
unfoldable pub setting_text : List ℕ
setting_text =
    codes "{\"start\":\"2026-01-01T00:00:00Z\"}\n"
    ++ codes "{\"schema\":[{\"path\":\"/acme:interfaces\",\"kind\":\"container\"},"
    ++ codes "{\"path\":\"/acme:interfaces/interface\",\"kind\":\"list\",\"keys\":[\"name\"]},"
    ++ codes "{\"path\":\"/acme:interfaces/interface/name\",\"kind\":\"leaf\",\"type\":\"string\"},"
    ++ codes "{\"path\":\"/acme:interfaces/interface/mtu\",\"kind\":\"leaf\",\"type\":\"uint16\"},"
    ++ codes "{\"path\":\"/acme:interfaces/interface/enabled\",\"kind\":\"leaf\",\"type\":\"boolean\"},"
    ++ codes "{\"path\":\"/acme:interfaces/interface/secret\",\"kind\":\"leaf\",\"type\":\"string\",\"deny-all\":true},"
    ++ codes "{\"path\":\"/acme:interfaces/interface/stats\",\"kind\":\"container\"},"
    ++ codes "{\"path\":\"/acme:interfaces/interface/stats/in\",\"kind\":\"leaf\",\"type\":\"uint64\"}]}\n"
    ++ codes "{\"receiver\":{\"name\":\"r1\",\"user\":\"ann\",\"queue\":8,\"take\":\"auto\"}}\n"
    ++ codes "{\"receiver\":{\"name\":\"r2\",\"user\":\"bob\",\"queue\":8,\"take\":\"auto\"}}\n"

-- the subscriptions: r1 is sent every change, and r2 those of the enabled interfaces and their mtu, at most one update in half a second
unfoldable pub subscriptions_text : List ℕ
subscriptions_text =
    codes "{\"establish\":{\"by\":\"r1\",\"datastore\":\"ietf-datastores:operational\",\"on-change\":{}}}\n"
    ++ codes "{\"establish\":{\"by\":\"r2\",\"datastore\":\"ietf-datastores:operational\","
    ++ codes "\"datastore-subtree-filter\":{\"acme:interfaces\":{\"interface\":[{\"enabled\":true,\"mtu\":[null]}]}},"
    ++ codes "\"on-change\":{\"dampening-period\":50}}}\n"

-- the line of the drawn command of a number
abbrev pub drawn_line : ℕ → ℕ → List ℕ
drawn_line seed k = command_text k (drawn_by (draw_of (drawn_state seed k)))

-- the lines of the drawn commands 1 to so many
abbrev pub drawn_lines : ℕ → ℕ → List ℕ
drawn_lines seed size = flat_map (drawn_line seed) (range_with_len 1 size)

-- the text of the script that is drawn from a seed, with so many drawn commands
abbrev pub script_text : ℕ → ℕ → List ℕ
script_text seed size = setting_text ++ subscriptions_text ++ drawn_lines seed size ++ tick_line (10 * (size + 10))
