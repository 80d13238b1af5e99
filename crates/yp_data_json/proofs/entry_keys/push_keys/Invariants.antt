use Rattle.std.proofs.Common.{◌≡◌, ◌<◌, ◌++◌, length, drop, string_bytes}
use Rattle.std.specs.List.{AllByRecursion}
use Rattle.serde_json.specs.Data.{Members}
use Rattle.serde_json.specs.Written.{members_text}
use Rattle.yp_data_json.specs.EntryKeys.{followed_by}
use Rattle.yp_data_json.proofs.entry_keys.push_keys.Given as goal

-- what stands and the keys that are left are all
abbrev pub invariant-loop-key : goal.invariant-loop-key
invariant-loop-key l = record {
  within : AllByRecursion (λ key. key.leaf < length l.schema) (drop l.key-index l.keys);
  told : (ms : Members) → string_bytes l.initial.text ++ members_text l.initial.later (followed_by l.schema l.keys ms) ≡ string_bytes l.text ++ members_text l.later (followed_by l.schema (drop l.key-index l.keys) ms);
}
