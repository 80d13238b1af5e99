-- Threads may share a journal that they write under its lock: its state holds filters, which hold themselves, so the check does not find it.
use mathlib.Core.List.{List, [], ◌∷◌}
use denote.RattleType.{RattleType}
use denote.Builtin.{bool}
use denote.Array.{Array}
use denote.Struct.Tuple.{Tuple}
use denote.Struct.Field.{bool-field}
use denote.Struct.Declared.{shape}
use denote.Param.Send.{IsSend, IsSync, plain_send, recorded_send, struct_send, view_send, sendable}
use Rattle.std.proofs.Crossing.{crosses}
use Rattle.std.proofs.alloc.Global.TheSendSync as heap
use Rattle.std.below.std_heap.proofs.GlobalAllocator.TheSendSync.{the_frees}
use Rattle.core.specs.declared.ledger.Ledger as ledger
use Rattle.core.proofs.ledger.Book.TheSendSync as book
use Rattle.core.proofs.ledger.Share.TheSendSync as share
use Rattle.left_right.specs.declared.Absorb as absorb
use Rattle.yp_journal.specs.declared.entry.Entry.{Entry}
use Rattle.yp_journal.proofs.Crossing.{state_send}
use Rattle.yp_published.specs.declared.history.Naming as naming
use Rattle.yp_published.specs.declared.store.Store.{Store}
use Rattle.yp_published.specs.declared.store.Op.{Op}
use Rattle.std.specs.contracts.alloc.Global as heap_type
use Rattle.yp_published.specs.contracts.store.Store as store_type
use Rattle.yp_published.specs.contracts.store.Op as op_type
use Rattle.yp_published.specs.contracts.published.View
use Rattle.yp_published.specs.contracts.published.Published
use Rattle.yp_published.specs.contracts.published.PublishedProtocolStoreView.TheImpl.{ghosts, no_dict}
use Rattle.std.specs.contracts.impls.GlobalAllocator.TheImpl.{ghosts as heap_ghosts}
use Rattle.yp_journal.specs.contracts.entry.Entry as entry_type
use Rattle.yp_published.specs.contracts.board.Board
use Rattle.yp_published.specs.contracts.board.Board.TheInside as inside
use Rattle.yp_published.proofs.history.Front.TheSendSync as front
use Rattle.yp_published.proofs.history.History.TheSendSync as history
use Rattle.yp_published.proofs.store.Store.TheSendSync as store
use Rattle.yp_published.proofs.store.Op.TheSendSync as op
use Rattle.left_right.proofs.writer.Writer.TheSendSync as writer
use Rattle.core.proofs.sync.Mutex.TheSendSync as mutex
use denote.Ref.{NamedLft}
use Rattle.yp_log_share.specs.contracts.desk.Desk
use Rattle.yp_log_share.specs.contracts.log.SharedLog

module _ (T : RattleType) (g : naming.Ghosts T.Denot) (l : ledger.Ghosts T.Denot) (a : absorb.Ghosts (Store T.Denot) (Op T.Denot) (List Entry × bool-field.Value)) where
  pub board_send : IsSend (Board.the_row T g l a)
  board_send =
      view_send (inside.the_row T g l a) _ _ _ _
      (recorded_send (inside.the_field T g l a).row _ _ (inside.the_type T g l a).to_one
      (struct_send (shape (inside.the_type T g l a)) (history.the_field_send T g l, (writer.the_field_send (store_type.the_row T g l) (op_type.the_row T g l) View.the_row Published.the_row heap_type.the_row (Tuple (Array entry_type.the_row 0 ∷ bool ∷ [])) a (ghosts T g no_dict l no_dict) heap_ghosts (store.the_send T g l) (op.the_send T g l) heap.the_send (store.the_sync T g l) heap.the_sync the_frees, (front.the_send T g l, (plain_send _ _ _ _ _, tt))))))

  pub desk_send : IsSend (Desk.the_row T g l a)
  desk_send = search (board_send, state_send, book.the_send, share.the_send, crosses, sendable) depth 60 fits 20000

  pub log_sync : (κ : NamedLft) → IsSync (SharedLog.the_row κ T g l a)
  log_sync κ = search (desk_send, mutex.the_sync, crosses, sendable) depth 60 fits 20000
