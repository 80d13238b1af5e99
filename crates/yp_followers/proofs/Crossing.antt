-- A worker may go to another thread, and threads may share it. Its filters hold themselves, so this is more than the check finds by itself where something that holds a worker crosses threads.
use denote.Param.Send.{IsSend, IsSync, sendable}
use Rattle.std.proofs.Crossing.{crosses}
use Rattle.yp_base.proofs.row.Value.TheSendSync as value
use Rattle.yp_time.proofs.start.Start.TheSendSync as start
use Rattle.yp_tree.proofs.tree.Tree.TheSendSync as tree
use Rattle.yp_filter.proofs.filter.FilterNode.TheLaws.TheKnot as filters
use Rattle.yp_filter.specs.contracts.filter.Filter
use Rattle.yp_journal.proofs.Crossing.{state_send, state_sync}
use Rattle.yp_feed.proofs.feed.Feed.TheSendSync as feed
use Rattle.yp_touch.proofs.touched.Touched.TheSendSync as touched
use Rattle.yp_slot.proofs.readers.Readers.TheSendSync as readers
use Rattle.yp_slot.proofs.records.Told.TheSendSync as told
use Rattle.yp_slot.proofs.slot.Frozen.TheSendSync as frozen
use Rattle.yp_slot.specs.contracts.classes.Class
use Rattle.yp_slot.specs.contracts.classes.Classes
use Rattle.yp_slot.specs.contracts.slot.Slot
use Rattle.yp_roster.specs.contracts.roster.Roster
use Rattle.yp_worker.proofs.contents.Content.TheSendSync as content
use Rattle.yp_worker.proofs.worker.Out.TheSendSync as out
use Rattle.yp_worker.specs.contracts.contents.Selected
use Rattle.yp_worker.specs.contracts.worker.Worker

filter_send : IsSend (Filter.the_field).row
filter_send = search (value.the_field_send, crosses, filters.crosses, sendable) depth 60 fits 20000

filter_sync : IsSync (Filter.the_field).row
filter_sync = search (value.the_field_sync, crosses, filters.crosses, sendable) depth 60 fits 20000

slot_send : IsSend (Slot.the_field).row
slot_send = search (filter_send, feed.the_send, touched.the_send, frozen.the_field_send, crosses, sendable) depth 60 fits 20000

slot_sync : IsSync (Slot.the_field).row
slot_sync = search (filter_sync, feed.the_sync, touched.the_sync, frozen.the_field_sync, crosses, sendable) depth 60 fits 20000

class_send : IsSend (Class.the_field).row
class_send = search (filter_send, crosses, sendable) depth 60 fits 20000

class_sync : IsSync (Class.the_field).row
class_sync = search (filter_sync, crosses, sendable) depth 60 fits 20000

classes_send : IsSend (Classes.the_field).row
classes_send = search (class_send, told.the_send, crosses, sendable) depth 60 fits 20000

classes_sync : IsSync (Classes.the_field).row
classes_sync = search (class_sync, told.the_sync, crosses, sendable) depth 60 fits 20000

roster_send : IsSend (Roster.the_field).row
roster_send = search (slot_send, classes_send, crosses, sendable) depth 60 fits 20000

roster_sync : IsSync (Roster.the_field).row
roster_sync = search (slot_sync, classes_sync, crosses, sendable) depth 60 fits 20000

selected_send : IsSend (Selected.the_field).row
selected_send = search (filter_send, content.the_field_send, crosses, sendable) depth 60 fits 20000

selected_sync : IsSync (Selected.the_field).row
selected_sync = search (filter_sync, content.the_field_sync, crosses, sendable) depth 60 fits 20000

pub worker_send : IsSend (Worker.the_field).row
worker_send = search (start.the_send, state_send, readers.the_send, tree.the_send, roster_send, selected_send, out.the_field_send, crosses, sendable) depth 60 fits 20000

pub worker_sync : IsSync (Worker.the_field).row
worker_sync = search (start.the_sync, state_sync, readers.the_sync, tree.the_sync, roster_sync, selected_sync, out.the_field_sync, crosses, sendable) depth 60 fits 20000
