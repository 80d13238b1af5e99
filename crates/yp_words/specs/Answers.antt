-- What calls answer of words.
use Rattle.std.specs.Prelude.{◌≡◌, ◌||◌, Bool, true, false, not, Option, Some, None, Result, Ok, Err}
use Rattle.std.specs.List.{list_any}
use Rattle.clap.specs.Kinds.{Kinds}
use Rattle.clap.specs.Walk.{is_empty}
use Rattle.clap.specs.declared.error.kind.ErrorKind.{ErrorKind}
use Rattle.clap.specs.declared.error.kind.ErrorKind.TheVariants.{DisplayHelp, DisplayVersion, OutOfMemory}
use Rattle.yp_words.specs.declared.words.Words.{Words}
use Rattle.yp_words.specs.declared.words.WordsFault.{WordsFault}
use Rattle.yp_words.specs.declared.words.WordsFault.TheVariants.{BadWords, Memory}

-- what was read is what the words say, and they are bad exactly where they say nothing; where memory ran out nothing is told
abbrev pub ReadsWords : Result Words WordsFault → Option Words → Type 0
ReadsWords (Ok words) said = said ≡ Some words
ReadsWords (Err BadWords) said = said ≡ None
ReadsWords (Err Memory) said = Unit {0}

-- words are bad for every reason but memory
abbrev pub FaultBy : ErrorKind → WordsFault → Type 0
FaultBy kind BadWords = kind ≡ OutOfMemory → ⊥
FaultBy kind Memory = Unit {0}

-- a reason that is a request: for the help or for the version
abbrev pub is_request : ErrorKind → Bool
is_request DisplayHelp = true
is_request DisplayVersion = true
is_request reason = false

-- a text is given only where a request is among the reasons, and none only where there is no reason or another one
abbrev pub GivesText : {T : Type 0} → Option T → Kinds → Type 0
GivesText (Some text) reasons = list_any is_request reasons ≡ true
GivesText None reasons = (is_empty reasons || list_any (λ reason. not (is_request reason)) reasons) ≡ true
