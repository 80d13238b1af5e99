-- When words are answered with a text.
use Rattle.std.proofs.Common.{◌≡◌, ◌||◌, Bool, true, false, not, List, [], ◌∷◌, Option, Some, None, refl, sym, ap, ◌⊎◌, inl, inr}
use Rattle.std.specs.Prelude.{is_some}
use Rattle.std.specs.List.{list_any}
use Rattle.clap.specs.Walk.{is_empty}
use Rattle.clap.specs.Words.{IsAmong, Kinds, Row}
use Rattle.clap.specs.declared.error.kind.ErrorKind.{ErrorKind}
use Rattle.clap.specs.declared.error.kind.ErrorKind.TheVariants.{OutOfMemory}
use Rattle.yp_words.specs.Answers.{GivesText, is_request}
use Rattle.yp_words.specs.Words.{words_unless}

-- a test that one of them meets is met by some
any_of : (test : ErrorKind → Bool) (reasons : Kinds) (reason : ErrorKind) → IsAmong reason reasons → test reason ≡ true → list_any test reasons ≡ true
any_of test [] reason among met = absurd among
any_of test (first ∷ reasons) reason (inl is) met = rw (← is, met) refl
any_of test (first ∷ reasons) reason (inr there) met = rw (any_of test reasons reason there met) (or_true (test first))
  where
    or_true : (b : Bool) → (b || true) ≡ true
    or_true true = refl
    or_true false = refl

module _ {T : Type 0} where
  given : (text : Option T) (reasons : Kinds) (reason : ErrorKind) → IsAmong reason reasons → is_some text ≡ is_request reason → GivesText text reasons
  given (Some text) reasons reason among some = any_of is_request reasons reason among (sym some)
  given None reasons reason among some = rw (any_of (λ r. not (is_request r)) reasons reason among (ap not (sym some))) (or_true (is_empty reasons))
    where
      or_true : (b : Bool) → (b || true) ≡ true
      or_true true = refl
      or_true false = refl

  -- where they are refused
  pub text_told : (text : Option T) (reasons : Kinds) (reason : ErrorKind) → (reason ≡ OutOfMemory → ⊥) → (reason ≡ OutOfMemory) ⊎ IsAmong reason reasons → is_some text ≡ is_request reason → GivesText text reasons
  text_told text reasons reason other (inl memory) some = absurd (other memory)
  text_told text reasons reason other (inr among) some = given text reasons reason among some

  -- words that ask for a text say nothing
  pub requests_say_nothing : (text : Option T) (reasons : Kinds) (rows : List Row) → GivesText text reasons → is_some text ≡ true → words_unless reasons rows ≡ None
  requests_say_nothing None reasons rows given some = absurd cc
  requests_say_nothing (Some text) [] rows given some = absurd cc
  requests_say_nothing (Some text) (reason ∷ reasons) rows given some = refl
