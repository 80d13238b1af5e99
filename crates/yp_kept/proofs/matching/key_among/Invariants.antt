use Rattle.std.proofs.Common.{◌≡◌, drop}
use Rattle.yp_kept.specs.Matches.{key_among}
use Rattle.yp_kept.proofs.matching.key_among.Given as goal

-- the keys that are left stand to the atoms that are left as all to all
abbrev pub invariant-loop-key : goal.invariant-loop-key
invariant-loop-key l = key_among l.node (drop l.key-index l.keys) l.rest ≡ key_among l.node l.keys l.atoms
