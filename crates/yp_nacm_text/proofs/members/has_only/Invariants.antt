use Rattle.std.proofs.Common.{◌≡◌}
use Rattle.serde_json.specs.View.{members_view}
use Rattle.yp_nacm_text.specs.Members.{has_only}
use Rattle.yp_nacm_text.proofs.members.has_only.Given as goal

abbrev pub invariant-loop-name : goal.invariant-loop-name
invariant-loop-name l = has_only l.part (members_view l.name-iterator) ≡ has_only l.part (members_view l.members.entries)
