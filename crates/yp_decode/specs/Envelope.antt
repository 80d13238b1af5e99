-- The envelope of a notification in JSON (RFC 8040 section 6.4): its event time, and the name and the body of what it tells.
use Rattle.std.specs.Prelude.{ℕ, ◌==◌, List, Option, Some, None, is_some, option_map, option_and_then, if◌then◌else◌, codes}
use Rattle.serde_json.specs.Data.{Data, object, Members, no_members, member}
use Rattle.serde_json.specs.Events.{members_len}
use Rattle.serde_json.specs.Find.{get_member, as_object}
use Rattle.yp_value.specs.Json.{text_member}
use Rattle.yp_base.specs.Types.{same_text}
use Rattle.yp_time.specs.Instants.{event_in}
use Rattle.yp_decode.specs.declared.envelope.StateChange.TheVariants.{Started, Modified, Suspended, Resumed, Terminated}
use Rattle.yp_decode.specs.declared.envelope.NoticeKind.{NoticeKind}
use Rattle.yp_decode.specs.declared.envelope.NoticeKind.TheVariants.{Full, Changes, State}

-- ---- members

-- the members of an object of one member, where that has this name and is an object
abbrev pub only_in : List ℕ → Data → Option Members
only_in name (object ms) = if members_len ms == 1 then option_and_then as_object (get_member name ms) else None
only_in name other = None

-- the first member of another name: its name and its value
abbrev pub other_member : List ℕ → Members → Option (List ℕ × Data)
other_member name no_members = None
other_member name (member own value more) = if same_text own name then other_member name more else Some (own, value)

-- ---- the envelope

pub record Envelope : Type 0 where
  pub time : List ℕ
  pub name : List ℕ
  pub body : Data

-- the event time as it is written, where it is one
abbrev pub event_time_in : Members → Option (List ℕ)
event_time_in ms = option_and_then (λ text. if is_some (event_in text) then Some text else None) (text_member (codes "eventTime") ms)

-- two members: the event time, and what is told
abbrev pub envelope_of : Members → Option Envelope
envelope_of ms =
    if members_len ms == 2
    then option_and_then (λ time. option_map (λ told. record { time = time; name = told.0; body = told.1 }) (other_member (codes "eventTime") ms)) (event_time_in ms)
    else None

-- the envelope that JSON is
abbrev pub envelope_in : Data → Option Envelope
envelope_in json = option_and_then envelope_of (only_in (codes "ietf-restconf:notification") json)

-- ---- what is told

-- what a notice of this name tells: an update (RFC 8641 section 3.7), or a change of the subscription's state (RFC 8639 section 2.7)
abbrev pub kind_named : List ℕ → Option NoticeKind
kind_named name =
    if same_text name (codes "ietf-yang-push:push-update") then Some Full
    else (if same_text name (codes "ietf-yang-push:push-change-update") then Some Changes
    else (if same_text name (codes "ietf-subscribed-notifications:subscription-started") then Some (State Started)
    else (if same_text name (codes "ietf-subscribed-notifications:subscription-modified") then Some (State Modified)
    else (if same_text name (codes "ietf-subscribed-notifications:subscription-suspended") then Some (State Suspended)
    else (if same_text name (codes "ietf-subscribed-notifications:subscription-resumed") then Some (State Resumed)
    else (if same_text name (codes "ietf-subscribed-notifications:subscription-terminated") then Some (State Terminated)
    else None))))))
