-- A state may go to another thread, and threads may share it. Its filters hold themselves, so this is more than the check finds by itself where something that holds a state crosses threads.
use denote.Param.Send.{IsSend, IsSync, sendable}
use Rattle.std.proofs.Crossing.{crosses}
use Rattle.yp_base.proofs.notice.Trigger.TheSendSync as trigger
use Rattle.yp_base.proofs.row.Value.TheSendSync as value
use Rattle.yp_base.proofs.series.Series.TheSendSync as series
use Rattle.yp_base.proofs.txt.Txt.TheSendSync as txt
use Rattle.yp_tree.proofs.tree.Tree.TheSendSync as tree
use Rattle.yp_nacm.proofs.policy.Policy.TheSendSync as policy
use Rattle.yp_filter.proofs.filter.FilterNode.TheLaws.TheKnot as filters
use Rattle.yp_terms.specs.contracts.terms.Terms
use Rattle.yp_registry.specs.contracts.registry.Registry
use Rattle.yp_journal.proofs.receiver.ReceiverInfo.TheSendSync as receiver
use Rattle.yp_journal.specs.contracts.state.State

terms_send : IsSend Terms.the_row
terms_send = search (value.the_field_send, series.the_send, trigger.the_field_send, crosses, filters.crosses, sendable) depth 60 fits 20000

terms_sync : IsSync Terms.the_row
terms_sync = search (value.the_field_sync, series.the_sync, trigger.the_field_sync, crosses, filters.crosses, sendable) depth 60 fits 20000

registry_send : IsSend Registry.the_row
registry_send = search (terms_send, txt.the_send, series.the_send, crosses, sendable) depth 60 fits 20000

registry_sync : IsSync Registry.the_row
registry_sync = search (terms_sync, txt.the_sync, series.the_sync, crosses, sendable) depth 60 fits 20000

pub state_send : IsSend State.the_row
state_send = search (registry_send, tree.the_send, policy.the_field_send, receiver.the_send, series.the_send, crosses, sendable) depth 60 fits 20000

pub state_sync : IsSync State.the_row
state_sync = search (registry_sync, tree.the_sync, policy.the_field_sync, receiver.the_sync, series.the_sync, crosses, sendable) depth 60 fits 20000
