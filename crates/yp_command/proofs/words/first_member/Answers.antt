use Rattle.std.proofs.Common.{◌∙◌, ap, List, ℕ, Some}
use Rattle.serde_json.specs.View.{view}
use Rattle.yp_command.proofs.MemberLaws.{first_seen}
use Rattle.yp_command.proofs.words.first_member.Goals as goal

pub returns-in-Some : goal.returns-in-Some
returns-in-Some c = ap (λ (text : List ℕ). Some (text, view c.in-Some.value.now)) c.as_str.ensures.value ∙ first_seen c.args.members.now.entries (c.in-Some.name.now, c.in-Some.value.now) c.in-Some.ensures.first
