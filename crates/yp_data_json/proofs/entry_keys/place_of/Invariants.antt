use Rattle.std.proofs.Common.{◌-◌, ◌<◌, ◌≤◌, length, take, drop}
use Rattle.std.specs.List.{AllByRecursion}
use Rattle.yp_data_json.proofs.entry_keys.place_of.Given as goal

abbrev pub invariant-loop-low : goal.invariant-loop-low
invariant-loop-low l = record {
  order : l.low ≤ l.high;
  within : l.high ≤ length l.keys;
  before : AllByRecursion (λ key. key.leaf < l.leaf) (take l.low l.keys);
  after : AllByRecursion (λ key. l.leaf ≤ key.leaf) (drop l.high l.keys);
}

abbrev pub decreases-loop-low : goal.decreases-loop-low
decreases-loop-low l = l.high - l.low
