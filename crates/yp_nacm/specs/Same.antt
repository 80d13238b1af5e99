-- When two users' own rules are the same.
use Rattle.std.specs.Prelude.{◌&&◌, Bool, nat_eq}
use Rattle.std.specs.Cmp.Lexicographic.{pointwise}
use Rattle.std.specs.Option.{option_eq}
use Rattle.std.specs.Ordering.{eq_by_cmp}
use Rattle.std.proofs.Math.Bool.{beq}
use Rattle.yp_base.specs.Order.{atom_cmp}
use Rattle.yp_base.specs.declared.rule_path.RuleSeg.{RuleSeg}
use Rattle.yp_nacm.specs.declared.compile.UserRule.{UserRule}
use Rattle.yp_nacm.specs.declared.compile.UserRules.{UserRules}

-- whether two steps of rules' paths are the same: they are of one node, with the same keys given
abbrev pub same_segment : RuleSeg → RuleSeg → Bool
same_segment one other = nat_eq one.node other.node && pointwise (option_eq (eq_by_cmp atom_cmp)) one.keys other.keys

-- whether two rules are the same: in module, path and effect
abbrev pub same_rule : UserRule → UserRule → Bool
same_rule one other = option_eq (pointwise nat_eq) one.«module» other.«module» && (option_eq (pointwise same_segment) one.path other.path && beq one.permit other.permit)

-- whether two users' own rules are the same: the switch, the default, and the rules in order
abbrev pub are_same_rules : UserRules → UserRules → Bool
are_same_rules one other = beq one.enabled other.enabled && (beq one.read_permit other.read_permit && pointwise same_rule one.rules other.rules)
