-- Words that the command refuses say nothing.
use Rattle.std.proofs.Common.{◌≡◌, List, [], ◌∷◌, Option, None, Err, sym, ap, ◌∙◌, refl, ◌⊎◌, inl, inr}
use Rattle.clap.specs.Words.{IsAmong, Kinds, Row, Text, fault_of, matches_of}
use Rattle.clap.specs.declared.error.kind.ErrorKind.{ErrorKind}
use Rattle.clap.specs.declared.error.kind.ErrorKind.TheVariants.{OutOfMemory}
use Rattle.yp_words.specs.declared.words.Words.{Words}
use Rattle.yp_words.specs.declared.words.WordsFault.{WordsFault}
use Rattle.yp_words.specs.declared.words.WordsFault.TheVariants.{BadWords, Memory}
use Rattle.yp_words.specs.Answers.{FaultBy, ReadsWords}
use Rattle.yp_words.specs.Words.{push_app, words_in, words_unless}

refused_by : (reasons : Kinds) (reason : ErrorKind) (rows : List Row) → IsAmong reason reasons → words_unless reasons rows ≡ None
refused_by [] reason rows among = absurd among
refused_by (first ∷ reasons) reason rows among = refl

-- unless memory ran out
pub refused : (texts words : List Text) (reason : ErrorKind) → texts ≡ words → (reason ≡ OutOfMemory → ⊥) → (reason ≡ OutOfMemory) ⊎ IsAmong reason (fault_of push_app texts) → words_in words ≡ None
refused texts words reason same other among = ap words_in (sym same) ∙ by among
  where
    by : (reason ≡ OutOfMemory) ⊎ IsAmong reason (fault_of push_app texts) → words_in texts ≡ None
    by (inl memory) = absurd (other memory)
    by (inr there) = refused_by (fault_of push_app texts) reason (matches_of push_app texts) there

pub fault_told : (fault : WordsFault) (reason : ErrorKind) (said : Option Words) → FaultBy reason fault → ((reason ≡ OutOfMemory → ⊥) → said ≡ None) → ReadsWords (Err fault) said
fault_told BadWords reason said by none = none by
fault_told Memory reason said by none = tt
