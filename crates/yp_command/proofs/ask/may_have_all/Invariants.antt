use Rattle.std.proofs.Common.{◌≡◌}
use Rattle.serde_json.specs.View.{members_view}
use Rattle.yp_command.specs.Asks.{may_have_all}
use Rattle.yp_command.proofs.ask.may_have_all.Given as goal

abbrev pub invariant-loop-name : goal.invariant-loop-name
invariant-loop-name l = may_have_all l.part (members_view l.name-iterator) ≡ may_have_all l.part (members_view l.members.entries)
