-- What follows of members that a name stands before.
use Rattle.std.specs.Prelude.{ℕ, List, ◌≡◌}
use Rattle.std.specs.Cmp.Lexicographic.{slice_cmp}
use Rattle.std.specs.Ordering.{nat_cmp, match_ordering}
use Rattle.std.specs.declared.cmp.Ordering.TheVariants.{Less, Equal, Greater}
use Rattle.serde_json.specs.Data.{Data, Members, no_members, member, put}
use Rattle.yp_data_json.specs.Runs.{StandsBefore}

-- a name that stands before members and before one more stands before all of them
pub before_put : (name other : List ℕ) (d : Data) (ms : Members) → slice_cmp nat_cmp name other ≡ Less → StandsBefore name ms → StandsBefore name (put other d ms)
before_put name other d no_members less before = less
before_put name other d (member first e ms) less before =
    elim (slice_cmp nat_cmp other first) as (λ o. StandsBefore name (match_ordering o (member other d (member first e ms)) (member first d ms) (member first e (put other d ms)))) [
      | Less ↦ less
      | Equal ↦ before
      | Greater ↦ before
    ]
