use Rattle.std.proofs.Common.{◌≡◌, ◌++◌, drop}
use Rattle.yp_schema.specs.Reading.{key_numbers}
use Rattle.yp_schema.proofs.numbers.key_numbers.Given as goal

-- the numbers so far, put before those of the rest, are all
abbrev pub invariant-loop-key : goal.invariant-loop-key
invariant-loop-key l = l.made.items ++ key_numbers l.path (drop l.key-index l.key-items) l.numbers ≡ key_numbers l.path l.keys l.numbers
