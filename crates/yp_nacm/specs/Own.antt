-- What decides on a user's reading: the user's own rules (RFC 8341 section 3.4.5).
use Rattle.std.specs.Prelude.{ℕ, List, map, filter, Bool, true, false, ◌&&◌, Option, Some, None}
use Rattle.yp_base.specs.declared.rule_path.RuleSeg.{RuleSeg}
use Rattle.yp_nacm.specs.declared.compile.UserRule.{UserRule}
use Rattle.yp_nacm.specs.declared.compile.UserRules.{UserRules}
use Rattle.yp_nacm.specs.declared.policy.Policy.{Policy}
use Rattle.yp_nacm.specs.declared.policy.Rule.{Rule}
use Rattle.yp_nacm.specs.declared.policy.Subject.{Subject}
use Rattle.yp_nacm.specs.declared.policy.Subject.TheVariants.{Any, Path, Operation, Other}
use Rattle.yp_nacm.specs.Policies.{groups_of, rules_for}

-- whether a rule of this subject can be about a node: it has no rule type, or a path
abbrev pub is_of_data : Subject → Bool
is_of_data Any = true
is_of_data (Path path) = true
is_of_data (Operation name) = false
is_of_data Other = false

-- the path of a rule, where it has one
abbrev pub path_in : Subject → Option (List RuleSeg)
path_in Any = None
path_in (Path path) = Some path
path_in (Operation name) = None
path_in Other = None

-- whether a rule can decide on reading: read is among its operations, and it can be about a node
abbrev pub decides_reading : Rule → Bool
decides_reading rule = rule.read && is_of_data rule.subject

-- what of a rule decides
abbrev pub own_rule : Rule → UserRule
own_rule rule = record { «module» = rule.«module»; path = path_in rule.subject; permit = rule.permit }

-- a user's own rules: the switch, the default, and the rules that can decide on the user's reading, in order
abbrev pub own_rules : Policy → List ℕ → UserRules
own_rules policy user = record {
  enabled = policy.enabled;
  read_permit = policy.read_permit;
  rules = map own_rule (filter decides_reading (rules_for (groups_of policy.groups user) policy.lists));
}
