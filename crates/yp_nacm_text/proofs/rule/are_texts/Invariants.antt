use Rattle.std.proofs.Common.{◌≡◌}
use Rattle.serde_json.specs.View.{members_view}
use Rattle.yp_nacm_text.specs.Rules.{are_texts}
use Rattle.yp_nacm_text.proofs.rule.are_texts.Given as goal

abbrev pub invariant-loop-json : goal.invariant-loop-json
invariant-loop-json l = are_texts (members_view l.json-iterator) ≡ are_texts (members_view l.members.entries)
