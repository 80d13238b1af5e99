-- What feeds are handed can be followed: an id has 32 bits, a period is no shorter than the shortest, and has its anchor (RFC 8639 section 2.4, RFC 8641 section 4.2).
use Rattle.std.specs.Prelude.{◌≤◌}
use Rattle.yp_registry.specs.Registry.{last_id}
use Rattle.yp_feed.specs.Machine.{IsTrigger, HasTerms}
use Rattle.yp_attempt.specs.Moments.{Act, Quiet, Starts, Controls, Drops}

-- what an act starts or modifies
abbrev pub CanBeFollowed : Act → Type 0
CanBeFollowed Quiet = Unit {0}
CanBeFollowed (Starts sub trigger configured names) = (sub ≤ last_id) × IsTrigger trigger
CanBeFollowed (Controls sub control) = HasTerms control
CanBeFollowed (Drops sub) = Unit {0}
