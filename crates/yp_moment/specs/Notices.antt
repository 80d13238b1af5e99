-- What is made for a receiver as a notification (RFC 8641 sections 3.7 and 3.11.1, RFC 8639 section 2.7).
use Rattle.std.specs.Prelude.{ℕ, [], true, false}
use Rattle.yp_base.specs.declared.notice.Notice.{Notice as Notification}
use Rattle.yp_base.specs.declared.notice.Notice.TheVariants as notices
use Rattle.yp_feed.specs.declared.item.Item.{Item}
use Rattle.yp_feed.specs.declared.item.Item.TheVariants.{Started, Modified, Incomplete, Suspended, Resumed, Sync, Terminated, Changes, Periodic}
use Rattle.yp_attempt.specs.Tracks.{Body, All, Edits, Marked, Notice, Made}

-- the notification of a change of a subscription's state; of the items that are updates none is made so, and an empty update stands for them
abbrev pub state_notice : ℕ → ℕ → Item → Notification
state_notice sub n Started = notices.Started sub
state_notice sub n Modified = notices.Modified sub
state_notice sub n Incomplete = notices.Changes sub n [] true
state_notice sub n Suspended = notices.Suspended sub
state_notice sub n Resumed = notices.Resumed sub
state_notice sub n Sync = notices.Changes sub n [] false
state_notice sub n Terminated = notices.Terminated sub
state_notice sub n Changes = notices.Changes sub n [] false
state_notice sub n Periodic = notices.Changes sub n [] false

-- the notification of a subscription that says this, made at a position
abbrev pub notice_by : ℕ → ℕ → Body → Notification
notice_by sub n (All rows) = notices.Full sub rows
notice_by sub n (Edits edits) = notices.Changes sub n edits false
notice_by sub n (Marked edits) = notices.Changes sub n edits true
notice_by sub n (Notice item) = state_notice sub n item

abbrev pub notice_of : ℕ → Made → Notification
notice_of sub made = notice_by sub made.position made.body
