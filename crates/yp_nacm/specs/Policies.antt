-- Which rules of a policy are tried for a user (RFC 8341 section 3.4.5, steps 3 to 6).
use Rattle.std.specs.Prelude.{ℕ, List, [], ◌∷◌, ◌++◌, map, filter, Bool, true, ◌||◌, All, codes, if◌then◌else◌}
use Rattle.std.specs.List.{list_any}
use Rattle.yp_base.specs.Types.{same_text, is_among}
use Rattle.yp_schema.specs.declared.schema.SchemaNode.{SchemaNode}
use Rattle.yp_schema.specs.RulePaths.{IsRulePathOf}
use Rattle.yp_schema.specs.WellFormed.{is_empty}
use Rattle.yp_nacm.specs.declared.policy.Group.{Group}
use Rattle.yp_nacm.specs.declared.policy.Policy.{Policy}
use Rattle.yp_nacm.specs.declared.policy.RuleList.{RuleList}
use Rattle.yp_nacm.specs.declared.policy.Rule.{Rule}
use Rattle.yp_nacm.specs.declared.policy.Subject.{Subject}
use Rattle.yp_nacm.specs.declared.policy.Subject.TheVariants.{Any, Path as OfPath, Operation as OfOperation, Other}

-- the policy before any is given: enabled, without groups and rules, and both defaults permit
abbrev pub opening_policy : Policy
opening_policy = record { enabled = true; read_permit = true; exec_permit = true; groups = []; lists = [] }

-- the names of the groups that name the user
abbrev pub groups_of : List Group → List ℕ → List (List ℕ)
groups_of groups user = map (λ group. group.name) (filter (λ group. is_among user group.users) groups)

-- whether a rule list is for all groups, by the name `*`, or for one of these
abbrev pub is_for : List (List ℕ) → RuleList → Bool
is_for groups list = list_any (λ name. same_text name (codes "*") || is_among name groups) list.groups

-- the rules of rule lists, one list after the other
abbrev pub rules_in : List RuleList → List Rule
rules_in [] = []
rules_in (list ∷ lists) = list.rules ++ rules_in lists

-- the rules that are tried for a user of these groups, in order; none where there is no group
abbrev pub rules_for : List (List ℕ) → List RuleList → List Rule
rules_for groups lists = if is_empty groups then [] else rules_in (filter (is_for groups) lists)

-- ---- policies of a schema

-- a subject's path, where it has one, is a rule path of the schema
abbrev pub IsSubjectOf : List SchemaNode → Subject → Type 0
IsSubjectOf nodes Any = Unit {0}
IsSubjectOf nodes (OfPath path) = IsRulePathOf nodes path
IsSubjectOf nodes (OfOperation name) = Unit {0}
IsSubjectOf nodes Other = Unit {0}

-- each rule path of a policy is one of the schema
abbrev pub IsListOf : List SchemaNode → RuleList → Type 0
IsListOf nodes list = All (λ rule. IsSubjectOf nodes rule.subject) list.rules

abbrev pub IsPolicyOf : List SchemaNode → Policy → Type 0
IsPolicyOf nodes policy = All (IsListOf nodes) policy.lists
