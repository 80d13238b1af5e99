use Rattle.std.proofs.Common.{◌≡◌, drop}
use Rattle.serde_json.specs.View.{items_view}
use Rattle.yp_command.specs.Asks.{holds}
use Rattle.yp_command.proofs.ask.holds.Given as goal

abbrev pub invariant-loop-item : goal.invariant-loop-item
invariant-loop-item l = holds l.word (items_view (drop l.item-index l.items)) ≡ holds l.word (items_view l.fn.items)
