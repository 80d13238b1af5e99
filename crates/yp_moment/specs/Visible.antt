-- Journals by which one user sees the same rows, whatever else is in the datastore (RFC 8341 section 3.4.5, RFC 8641 section 3.9).
use Rattle.std.specs.Prelude.{◌≡◌, ◌⊎◌, ℕ, ◌≤◌, List, [], ◌∷◌, length}
use Rattle.yp_base.specs.declared.row.Row.{Row}
use Rattle.yp_schema.specs.declared.schema.SchemaNode.{SchemaNode}
use Rattle.yp_nacm.specs.Decision.{is_readable, visible_rows}
use Rattle.yp_nacm.specs.Own.{own_rules}
use Rattle.yp_patch.specs.declared.patch.Patch.{Patch}
use Rattle.yp_journal.specs.declared.command.Command.{Command}
use Rattle.yp_journal.specs.declared.command.Command.TheVariants.{Edit}
use Rattle.yp_journal.specs.declared.entry.Entry.{Entry}
use Rattle.yp_journal.specs.declared.receiver.ReceiverInfo.{ReceiverInfo}
use Rattle.yp_journal.specs.History.{JournalState, state_at}

-- the rows of a state that a user may read
abbrev pub rows_shown : List SchemaNode → List ℕ → JournalState → List Row
rows_shown nodes user state = visible_rows (is_readable nodes (own_rules state.policy user)) state.rows

-- a command that is a patch
abbrev pub IsPatch : Command → Type 0
IsPatch command = (patch : Patch) × (command ≡ Edit patch)

-- two patches, or the same command that is no patch
abbrev pub AreLikeCommands : Command → Command → Type 0
AreLikeCommands one two = (IsPatch one × IsPatch two) ⊎ ((one ≡ two) × (IsPatch one → ⊥))

-- two entries of such commands, with one stamp
pub record AreLikeEntries (one two : Entry) : Type 0 where
  pub commands : AreLikeCommands one.command two.command
  pub stamp : one.stamp ≡ two.stamp

-- as many such entries, in order
abbrev pub AreAllLike : List Entry → List Entry → Type 0
AreAllLike [] [] = Unit {0}
AreAllLike (one ∷ ones) (two ∷ twos) = AreLikeEntries one two × AreAllLike ones twos
AreAllLike [] (two ∷ twos) = ⊥
AreAllLike (one ∷ ones) [] = ⊥

-- two journals are visibly alike for a user: entry by entry they have two patches, or the same command that is no patch, with one stamp; and at each position the user may read the same rows
pub record AreVisiblyAlike (nodes : List SchemaNode) (receivers : List ReceiverInfo) (user : List ℕ) (ones twos : List Entry) : Type 0 where
  pub entries : AreAllLike ones twos
  pub rows : (n : ℕ) → n ≤ length ones → rows_shown nodes user (state_at nodes receivers ones n) ≡ rows_shown nodes user (state_at nodes receivers twos n)
