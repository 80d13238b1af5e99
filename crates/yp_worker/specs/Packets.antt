-- The packet of an attempt: its line, and what a queue has to know of it (RFC 8641 sections 3.7 and 3.11.1, RFC 8639 section 2.7).
use Rattle.std.specs.Prelude.{◌≡◌, ℕ, List, []}
use Rattle.serde_json.specs.Written.{compact_text}
use Rattle.yp_base.specs.declared.notice.Notice.{Notice as Notification}
use Rattle.yp_base.specs.declared.notice.Notice.TheVariants as notices
use Rattle.yp_schema.specs.declared.schema.SchemaNode.{SchemaNode}
use Rattle.yp_data_json.specs.Writing.{rows_json}
use Rattle.yp_encode.specs.Lines.{line_of, patch_data}
use Rattle.yp_queue.specs.declared.packet.Packet.{Packet}
use Rattle.yp_queue.specs.declared.packet.PacketKind.{PacketKind}
use Rattle.yp_queue.specs.declared.packet.PacketKind.TheVariants as kinds
use Rattle.yp_worker.specs.declared.saying.Said.{Said}
use Rattle.yp_attempt.specs.Tracks.{Body, All, Edits, Marked, Notice, Made}
use Rattle.yp_moment.specs.Notices.{notice_of}

abbrev pub kind_of : Body → PacketKind
kind_of (All rows) = kinds.Full
kind_of (Edits edits) = kinds.Changes
kind_of (Marked edits) = kinds.Incomplete
kind_of (Notice item) = kinds.Notice

-- what is said by what was made: the position and the tick at which, the kind of its packet, and the notification
abbrev pub said_of : ℕ → Made → Said
said_of sub made = record { position = made.position; tick = made.tick; kind = kind_of made.body; notice = notice_of sub made }

-- the packet of what was made for a subscription
abbrev pub packet_of : List SchemaNode → ℕ → ℕ → Made → Packet
packet_of nodes start sub made = record { sub = sub; position = made.position; kind = kind_of made.body; line = line_of nodes start made.tick (notice_of sub made) }

-- the text of what an update carries; other notifications carry nothing, and no text is wrong for them
abbrev pub IsTextOf : List SchemaNode → Notification → List ℕ → Type 0
IsTextOf nodes (notices.Full id rows) text = text ≡ compact_text (rows_json nodes [] rows)
IsTextOf nodes (notices.Changes id patch_id changes incomplete) text = text ≡ compact_text (patch_data nodes patch_id changes)
IsTextOf nodes (notices.Started id) text = Unit {0}
IsTextOf nodes (notices.Modified id) text = Unit {0}
IsTextOf nodes (notices.Suspended id) text = Unit {0}
IsTextOf nodes (notices.Resumed id) text = Unit {0}
IsTextOf nodes (notices.Terminated id) text = Unit {0}
