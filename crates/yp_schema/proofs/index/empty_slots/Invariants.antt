use Rattle.std.proofs.Common.{◌≡◌, ℕ, List, None, vec_len}
use Rattle.yp_schema.specs.Index.{indexed_at}
use Rattle.yp_schema.proofs.index.empty_slots.Given as goal

abbrev pub invariant-loop : goal.invariant-loop
invariant-loop l = (vec_len l.index ≡ l.counter) × ((s : ℕ) (q : List ℕ) → indexed_at s q l.index.items ≡ None)
