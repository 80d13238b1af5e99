use Rattle.std.proofs.Common.{◌∷◌, ◌++◌}
use Rattle.yp_roster.proofs.laws.a_roster_that_was_asked_stands_as_before.Goals as goal

pub returns-clause-idle : goal.returns-clause-idle
returns-clause-idle c = λ nodes state mine past answers slots idle. record { tracks = idle.tracks; stands = idle.stands; kept = idle.kept }

pub returns-clause-found : goal.returns-clause-found
returns-clause-found c = λ nodes state mine past answers offer slots found. record { tracks = found.before ++ found.track ∷ found.after; stands = found.stands; kept = found.kept }
