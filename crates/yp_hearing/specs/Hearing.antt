-- What a receiver takes, as the lines that it hears (RFC 8641 section 3.7).
use Rattle.std.specs.Prelude.{◌≡◌, ◌<◌, ◌^◌, ◌++◌, ℕ, List, [], ◌∷◌, length, map, true, Some, Ok}
use Rattle.std.specs.List.{AllByRecursion}
use Rattle.yp_base.specs.declared.notice.Notice.{Notice}
use Rattle.yp_schema.specs.declared.schema.SchemaNode.{SchemaNode}
use Rattle.yp_schema.specs.WellFormed.{IsSchema}
use Rattle.yp_time.specs.Instants.{event_text}
use Rattle.yp_encode.specs.Lines.{line_of}
use Rattle.yp_decode.specs.Grammar.{line_heard}
use Rattle.yp_terms.specs.declared.ask.Ask.{Ask}
use Rattle.yp_feed.specs.Machine.{is_mirrored}
use Rattle.yp_journal.specs.declared.entry.Entry.{Entry}
use Rattle.yp_journal.specs.declared.receiver.ReceiverInfo.{ReceiverInfo}
use Rattle.yp_journal.specs.History.{first_state, state_at, IsLegal}
use Rattle.yp_attempt.specs.Attempts.{Notification}
use Rattle.yp_moment.specs.Entries.{selected_at}
use Rattle.yp_moment.specs.Notices.{notice_of}
use Rattle.yp_world.specs.Headline.{is_update_of}
use Rattle.yp_promise.specs.Promise.{Gives}
use Rattle.yp_receiver.specs.Held.{held_of, lines_heard}
use Rattle.yp_texts.specs.Commands.{CommandHasUtf8}

-- ---- journals

-- a journal of a schema of which all can be told in lines: it is legal, its commands have UTF-8 texts, and its positions have 32 bits, as those of each script
pub record CanBeTold (nodes : List SchemaNode) (receivers : List ReceiverInfo) (entries : List Entry) : Type 0 where
  pub schema : IsSchema nodes
  pub legal : IsLegal nodes (first_state receivers) entries
  pub texts : AllByRecursion (λ entry. CommandHasUtf8 entry.command) entries
  pub few : length entries < 2 ^ 32

-- ---- notifications

-- a notification as a notice, with the tick at which it was made
abbrev pub told_of : Notification → ℕ × Notice
told_of n = (n.made.tick, notice_of n.sub n.made)

-- and as a line
abbrev pub line_for : List SchemaNode → ℕ → Notification → List ℕ
line_for nodes start n = line_of nodes start n.made.tick (notice_of n.sub n.made)

-- a receiver hears its line as just this notification, with the event time of its tick
abbrev pub IsHeardAsMade : List SchemaNode → ℕ → Notification → Type 0
IsHeardAsMade nodes start n = line_heard nodes (line_for nodes start n) ≡ Ok (record { time = event_text start n.made.tick; notice = notice_of n.sub n.made })

-- after the line of each update of a mirrored subscription, a receiver of lines alone holds what is selected at the position at which the update was made
abbrev pub LinesMirror : List SchemaNode → List ReceiverInfo → List Entry → ℕ → ℕ → List Notification → Type 0
LinesMirror nodes receivers entries receiver start got = (id : ℕ) (ask : Ask) → Gives entries id ask → is_mirrored ask.trigger ≡ true
    → (before : List Notification) (update : Notification) (after : List Notification) → got ≡ before ++ update ∷ after → is_update_of id update ≡ true
    → held_of id (lines_heard nodes [] (map (line_for nodes start) (before ++ update ∷ []))) ≡ Some (selected_at nodes (state_at nodes receivers entries update.made.position) id receiver)
