use Rattle.std.proofs.Common.{drop, List}
use Rattle.yp_schema.specs.declared.schema.SchemaNode.{SchemaNode}
use Rattle.yp_journal.specs.History.{JournalState}
use Rattle.yp_worker.specs.Contents.{AreSelected}
use Rattle.yp_worker.proofs.contents.find.Given as goal

-- what is left was selected, where all was
abbrev pub invariant-loop-selected : goal.invariant-loop-selected
invariant-loop-selected l = (nodes : List SchemaNode) (state : JournalState) → AreSelected nodes state l.contents → AreSelected nodes state (drop l.selected-index l.contents)
