-- A legal journal is appended, entry by entry, and nothing else changes.
use Rattle.std.proofs.Common.{◌≡◌, sym, ap, ◌∙◌, Bool, List, [], ◌∷◌, ◌++◌, map, append-nil, append_assoc}
use Rattle.yp_attempt.specs.Moments.{Moment, AllMayFollow}
use Rattle.yp_world.specs.World.{Append, Event, Setup, World, after_events, append_if}
use Rattle.yp_world.specs.EventLaws.{may_tells}

-- the events that append entries
abbrev pub appending : List Moment → List Event
appending moments = map (λ m. Append m) moments

-- the world with another journal
abbrev pub with_journal : World → List Moment → World
with_journal world journal = record world { journal = journal }

pub all_appended : (setup : Setup) (world : World) (past rest : List Moment) → AllMayFollow past rest → after_events setup (with_journal world past) (appending rest) ≡ with_journal world (past ++ rest)
all_appended setup world past [] legal = ap (with_journal world) (sym (append-nil past))
all_appended setup world past (m ∷ rest) legal =
    ap (λ (b : Bool). after_events setup (append_if b (with_journal world past) m).0 (appending rest)) (may_tells past m legal.0)
    ∙ (all_appended setup world (past ++ m ∷ []) rest legal.1 ∙ ap (with_journal world) (append_assoc past (m ∷ []) rest))
