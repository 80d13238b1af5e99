-- What some words say, by computing it.
use Rattle.std.proofs.Common.{◌≡◌, [], ◌∷◌, Some, None, codes, refl}
use Rattle.clap.proofs.OnLiterals.{clap_on_literals}
use Rattle.yp_words.specs.declared.words.Mode.TheVariants.{Run, Live, Trial}
use Rattle.yp_words.specs.Words.{words_in}

pub mode_alone : words_in (codes "run" ∷ []) ≡ Some (record { mode = Run; workers = 2; seed = 1; size = 100 })
unfolding clap_on_literals
mode_alone = refl

pub with_workers : words_in (codes "live" ∷ codes "--workers" ∷ codes "8" ∷ []) ≡ Some (record { mode = Live; workers = 8; seed = 1; size = 100 })
unfolding clap_on_literals
with_workers = refl

pub options_around : words_in (codes "--size=1" ∷ codes "trial" ∷ codes "--seed=1" ∷ []) ≡ Some (record { mode = Trial; workers = 2; seed = 1; size = 1 })
unfolding clap_on_literals
options_around = refl

pub after_dashes : words_in (codes "--" ∷ codes "trial" ∷ []) ≡ Some (record { mode = Trial; workers = 2; seed = 1; size = 100 })
unfolding clap_on_literals
after_dashes = refl

pub with_plus : words_in (codes "trial" ∷ codes "--size" ∷ codes "+001" ∷ []) ≡ Some (record { mode = Trial; workers = 2; seed = 1; size = 1 })
unfolding clap_on_literals
with_plus = refl

pub no_words : words_in [] ≡ None
unfolding clap_on_literals
no_words = refl

pub no_mode : words_in (codes "lives" ∷ []) ≡ None
unfolding clap_on_literals
no_mode = refl

pub two_modes : words_in (codes "run" ∷ codes "run" ∷ []) ≡ None
unfolding clap_on_literals
two_modes = refl

pub past_most : words_in (codes "run" ∷ codes "--workers" ∷ codes "9" ∷ []) ≡ None
unfolding clap_on_literals
past_most = refl

pub below_least : words_in (codes "trial" ∷ codes "--size=0" ∷ []) ≡ None
unfolding clap_on_literals
below_least = refl

pub option_twice : words_in (codes "gen" ∷ codes "--seed=1" ∷ codes "--seed=1" ∷ []) ≡ None
unfolding clap_on_literals
option_twice = refl

pub help_asked : words_in (codes "run" ∷ codes "--help" ∷ []) ≡ None
unfolding clap_on_literals
help_asked = refl
