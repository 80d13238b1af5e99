use Rattle.std.proofs.Common.{◌≡◌, ◌<◌, length, IfSome, drop}
use Rattle.serde_json.specs.View.{members_view}
use Rattle.yp_data_json.specs.Reading.{keys_found}
use Rattle.yp_data_json.proofs.KeyLaws.{after}
use Rattle.yp_data_json.proofs.keys.read_keys.Given as goal

-- the keys and the first fault so far, with what is found of the rest, are what is found of all
abbrev pub invariant-loop-node : goal.invariant-loop-node
invariant-loop-node l =
    IfSome l.first (λ fault. fault.0 < length l.schema)
    × (after l.schema l.first l.keys.items (keys_found l.schema (drop l.node-index l.nodes) (members_view l.members.entries)) ≡ keys_found l.schema l.nodes (members_view l.members.entries))
