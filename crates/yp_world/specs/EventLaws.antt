-- What follows of events: an entry that may come is appended, and events go on after others.
use Rattle.std.proofs.Common.{◌≡◌, ℕ, ◌≤◌, refl, ap, ◌∙◌, Bool, true, not, List, [], ◌∷◌, ◌++◌, arith}
use Rattle.std.specs.Prelude.{◌&&◌, nat_le}
use Rattle.yp_attempt.specs.Moments.{Moment, Act, Quiet, Starts, Controls, Drops, IsUnused, MayFollow, last_stamp}
use Rattle.yp_world.specs.World.{Event, Setup, World, after_events, is_unused, may_follow, step}

-- ---- an entry that may come

unused_tells : (past : List Moment) (act : Act) → IsUnused past act → is_unused past act ≡ true
unused_tells past Quiet h = refl
unused_tells past (Starts sub trigger configured names) h = ap not h
unused_tells past (Controls sub control) h = refl
unused_tells past (Drops sub) h = refl

le_tells : (a b : ℕ) → a ≤ b → nat_le a b ≡ true
le_tells a b h = grind (arith, h)

pub may_tells : (past : List Moment) (m : Moment) → MayFollow past m → may_follow past m ≡ true
may_tells past m may =
    ap (λ (b : Bool). b && is_unused past m.act) (le_tells (last_stamp 0 past) m.stamp may.stamp) ∙ unused_tells past m.act may.unused

-- ---- events after events

pub after_both : (setup : Setup) (world : World) (ones twos : List Event) → after_events setup world (ones ++ twos) ≡ after_events setup (after_events setup world ones) twos
after_both setup world [] twos = refl
after_both setup world (event ∷ ones) twos = after_both setup (step setup world event).0 ones twos
