use Rattle.std.proofs.Common.{◌≡◌}
use Rattle.serde_json.specs.View.{members_view}
use Rattle.yp_decode.specs.Envelope.{other_member}
use Rattle.yp_decode.proofs.members.other_member.Given as goal

abbrev pub invariant-loop-own : goal.invariant-loop-own
invariant-loop-own l = other_member l.name (members_view l.own-iterator) ≡ other_member l.name (members_view l.members.entries)
