use Rattle.std.proofs.Common.{◌≡◌, ◌<◌, ◌++◌, drop}
use Rattle.std.specs.String.{string_bytes}
use Rattle.yp_path.specs.Targets.{keys_text, are_texts}
use Rattle.yp_path.proofs.target.push_keys.Given as goal

abbrev pub invariant-loop-key : goal.invariant-loop-key
invariant-loop-key l = (l.mark < 128) × (string_bytes l.text ++ keys_text l.mark (drop l.key-index l.key-items) ≡ string_bytes l.fn.text ++ keys_text 61 l.key-items) × (are_texts (drop l.key-index l.key-items) ≡ are_texts l.key-items)
