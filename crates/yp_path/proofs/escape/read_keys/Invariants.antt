use Rattle.std.proofs.Common.{◌≡◌, ◌++◌, length, option_map}
use denote.Text.{Utf8}
use denote.Shadow.{shadow}
use Rattle.yp_base.specs.Cuts.{cut}
use Rattle.yp_path.specs.Targets.{keys_read}
use Rattle.yp_path.proofs.escape.read_keys.Given as goal

abbrev pub invariant-loop-key : goal.invariant-loop-key
invariant-loop-key l = shadow (Utf8 l.rest) × (option_map (λ rest. l.texts.items ++ rest) (keys_read (cut 44 l.rest)) ≡ keys_read (cut 44 l.keys))

abbrev pub decreases-loop-key : goal.decreases-loop-key
decreases-loop-key l = length l.rest
