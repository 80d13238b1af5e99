-- Commands leave a datastore a datastore.
use Rattle.std.proofs.Common.{◌≡◌, List, [], ◌∷◌, Result, Ok, Err, refl}
use Rattle.yp_base.specs.declared.row.Row.{Row}
use Rattle.yp_schema.specs.declared.schema.SchemaNode.{SchemaNode}
use Rattle.yp_schema.specs.Datastore.{IsDatastore}
use Rattle.yp_edit.specs.Patches.{RefusedEdit, applied}
use Rattle.yp_edit.specs.PatchLaws.{PatchesKeepDatastores}
use Rattle.yp_journal.specs.declared.command.Command.{Command}
use Rattle.yp_journal.specs.declared.command.Command.TheVariants.{Tick, Edit, Rules, Establish, Modify, Delete, Kill, Resync, Configure, Reconfigure, Unconfigure, Take}
use Rattle.yp_journal.specs.declared.entry.Entry.{Entry}
use Rattle.yp_journal.specs.History.{JournalState, rows_after, next_state, state_of}

module _ (patch_keeps : PatchesKeepDatastores) where
  -- a command leaves a datastore a datastore
  pub command_keeps : (nodes : List SchemaNode) (state : JournalState) (command : Command) → IsDatastore nodes state.rows → IsDatastore nodes (next_state nodes state command).rows
  command_keeps nodes state (Tick tick) datastore = datastore
  command_keeps nodes state (Edit patch) datastore =
      elim (applied nodes state.rows patch) as (λ (r : Result (List Row) RefusedEdit). applied nodes state.rows patch ≡ r → IsDatastore nodes (rows_after state.rows r)) [
        | Ok after ↦ λ is. patch_keeps nodes state.rows after patch datastore is
        | Err fault ↦ λ is. datastore
      ] refl
  command_keeps nodes state (Rules policy) datastore = datastore
  command_keeps nodes state (Establish by ask) datastore = datastore
  command_keeps nodes state (Modify by id amend) datastore = datastore
  command_keeps nodes state (Delete by id) datastore = datastore
  command_keeps nodes state (Kill by id) datastore = datastore
  command_keeps nodes state (Resync by id) datastore = datastore
  command_keeps nodes state (Configure id receivers ask) datastore = datastore
  command_keeps nodes state (Reconfigure id amend) datastore = datastore
  command_keeps nodes state (Unconfigure id) datastore = datastore
  command_keeps nodes state (Take receiver count) datastore = datastore

  -- and so do the entries of a journal
  pub entries_keep : (nodes : List SchemaNode) (state : JournalState) (entries : List Entry) → IsDatastore nodes state.rows → IsDatastore nodes (state_of nodes state entries).rows
  entries_keep nodes state [] datastore = datastore
  entries_keep nodes state (entry ∷ entries) datastore = entries_keep nodes (next_state nodes state entry.command) entries (command_keeps nodes state entry.command datastore)
