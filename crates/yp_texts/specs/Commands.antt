-- Commands whose texts are UTF-8 (RFC 8259 section 8.1).
use Rattle.std.specs.Prelude.{IfSome}
use Rattle.std.specs.List.{AllByRecursion}
use Rattle.yp_patch.specs.declared.patch.Edit.{Edit as PatchEdit}
use Rattle.yp_journal.specs.declared.command.Command.{Command}
use Rattle.yp_journal.specs.declared.command.Command.TheVariants.{Tick, Edit, Rules, Establish, Modify, Delete, Kill, Resync, Configure, Reconfigure, Unconfigure, Take}
use Rattle.yp_script.specs.declared.script.Script.{Script}
use Rattle.yp_utf8.specs.Utf8.{HasUtf8}

-- the strings of an edit's value are UTF-8; the keys of its target are read only where they are
abbrev pub EditHasUtf8 : PatchEdit → Type 0
EditHasUtf8 edit = IfSome edit.value HasUtf8

-- of the commands only a patch brings texts to rows
abbrev pub CommandHasUtf8 : Command → Type 0
CommandHasUtf8 (Tick tick) = Unit {0}
CommandHasUtf8 (Edit patch) = AllByRecursion EditHasUtf8 patch.edits
CommandHasUtf8 (Rules policy) = Unit {0}
CommandHasUtf8 (Establish by ask) = Unit {0}
CommandHasUtf8 (Modify by id amend) = Unit {0}
CommandHasUtf8 (Delete by id) = Unit {0}
CommandHasUtf8 (Kill by id) = Unit {0}
CommandHasUtf8 (Resync by id) = Unit {0}
CommandHasUtf8 (Configure id receivers ask) = Unit {0}
CommandHasUtf8 (Reconfigure id amend) = Unit {0}
CommandHasUtf8 (Unconfigure id) = Unit {0}
CommandHasUtf8 (Take receiver count) = Unit {0}

-- each command of a script
pub record ScriptHasUtf8 (script : Script) : Type 0 where
  pub before : AllByRecursion CommandHasUtf8 script.before
  pub lanes : AllByRecursion (AllByRecursion CommandHasUtf8) script.lanes
  pub after : AllByRecursion CommandHasUtf8 script.after
