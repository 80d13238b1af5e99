-- Why a call is refused, and what it answers then (RFC 8639 section 2.4, RFC 8641 section 4.4).
use Rattle.std.specs.Prelude.{◌≡◌, List, [], ◌∷◌, Bool, Option, Some, None, is_none, Result, Ok, Err, if◌then◌else◌}
use Rattle.yp_terms.specs.declared.refused.Refused.{Refused}
use Rattle.yp_terms.specs.declared.refused.Refused.TheVariants.{AccessDenied, EncodingUnsupported, DatastoreNotSubscribable, FilterUnsupported, PeriodUnsupported, NoSuchSubscription, OnChangeSyncUnsupported, InvalidTrigger, InvalidId, InvalidReceiver, InsufficientResources, Memory}
use Rattle.yp_terms.specs.Terms.{Terms}

-- ---- reasons

-- a reason to refuse a call, and whether it holds
abbrev pub Reason : Type 0
Reason = Bool × Refused

-- the refusal of the first reason that holds
abbrev pub first_refusal : List Reason → Option Refused
first_refusal [] = None
first_refusal (reason ∷ reasons) = if reason.0 then Some reason.1 else first_refusal reasons

-- no live subscription of the id is one that the call may be about; a call to synchronise again has a refusal of its own
abbrev pub missing : Bool → Option Terms → Reason
missing resync found = (is_none found, NoSuchSubscription resync)

-- ---- what a call answers

-- a refusal where there is one, and else what is given
abbrev pub or_refused : {X : Type 0} → Option Refused → X → Result X Refused
or_refused (Some refusal) given = Err refusal
or_refused None given = Ok given

-- a refusal that is answered is the definition's, but where memory ran out
abbrev pub Fails : {X : Type 0} → Refused → Result X Refused → Type 0
Fails AccessDenied answer = answer ≡ Err AccessDenied
Fails EncodingUnsupported answer = answer ≡ Err EncodingUnsupported
Fails DatastoreNotSubscribable answer = answer ≡ Err DatastoreNotSubscribable
Fails FilterUnsupported answer = answer ≡ Err FilterUnsupported
Fails (PeriodUnsupported hint) answer = answer ≡ Err (PeriodUnsupported hint)
Fails (NoSuchSubscription resync) answer = answer ≡ Err (NoSuchSubscription resync)
Fails OnChangeSyncUnsupported answer = answer ≡ Err OnChangeSyncUnsupported
Fails InvalidTrigger answer = answer ≡ Err InvalidTrigger
Fails InvalidId answer = answer ≡ Err InvalidId
Fails InvalidReceiver answer = answer ≡ Err InvalidReceiver
Fails InsufficientResources answer = answer ≡ Err InsufficientResources
Fails Memory answer = Unit {0}

-- what is answered says what the definition gives
abbrev pub Gives : {A X : Type 0} → (A → X) → Result A Refused → Result X Refused → Type 0
Gives says (Ok a) answer = answer ≡ Ok (says a)
Gives says (Err refusal) answer = Fails refusal answer
