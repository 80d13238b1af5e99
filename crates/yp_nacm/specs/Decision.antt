-- The decisions of access control: on one place, on a path, and on an operation (RFC 8341 sections 3.4.4 and 3.4.5).
use Rattle.std.specs.Prelude.{◌≡◌, ℕ, List, [], ◌∷◌, ◌++◌, filter, find, option_map, unwrap_or, Bool, true, false, not, ◌&&◌, nat_eq, Option, Some, None, if◌then◌else◌, codes}
use Rattle.std.specs.Ordering.{is_eq}
use Rattle.yp_base.specs.declared.atom.Atom.{Atom}
use Rattle.yp_base.specs.declared.path.Seg.{Seg}
use Rattle.yp_base.specs.declared.row.Row.{Row}
use Rattle.yp_base.specs.Order.{atom_cmp}
use Rattle.yp_base.specs.Types.{same_text}
use Rattle.yp_base.specs.declared.rule_path.RuleSeg.{RuleSeg}
use Rattle.yp_schema.specs.declared.schema.SchemaNode.{SchemaNode}
use Rattle.yp_base.specs.Paths.{last_node}
use Rattle.yp_schema.specs.Nodes.{node_at, no_node}
use Rattle.yp_nacm.specs.declared.compile.UserRule.{UserRule}
use Rattle.yp_nacm.specs.declared.compile.UserRules.{UserRules}
use Rattle.yp_nacm.specs.declared.execute.Operation.{Operation}
use Rattle.yp_nacm.specs.declared.execute.Operation.TheVariants.{Establish, Modify, Delete, Kill, Resync}
use Rattle.yp_nacm.specs.declared.policy.Policy.{Policy}
use Rattle.yp_nacm.specs.declared.policy.Rule.{Rule}
use Rattle.yp_nacm.specs.declared.policy.Subject.{Subject}
use Rattle.yp_nacm.specs.declared.policy.Subject.TheVariants.{Any, Path, Operation as OfOperation, Other}
use Rattle.yp_nacm.specs.Policies.{groups_of, rules_for}

-- whether a rule's module, `None` for each, is this one
abbrev pub is_of_module : Option (List ℕ) → List ℕ → Bool
is_of_module None module_name = true
is_of_module (Some own) module_name = same_text own module_name

-- ---- reading one place (RFC 8341 section 3.4.5)

-- whether each key that a rule gives is the entry's
abbrev pub gives_keys : List (Option Atom) → List Atom → Bool
gives_keys [] [] = true
gives_keys [] (key ∷ keys) = false
gives_keys (given ∷ more) [] = false
gives_keys (None ∷ more) (key ∷ keys) = gives_keys more keys
gives_keys (Some own ∷ more) (key ∷ keys) = is_eq (atom_cmp own key) && gives_keys more keys

-- whether what a rule's path names is this place or stands above it
abbrev pub names_place : List RuleSeg → List Seg → Bool
names_place [] path = true
names_place (step ∷ steps) [] = false
names_place (step ∷ steps) (seg ∷ segs) = (nat_eq step.node seg.node && gives_keys step.keys seg.keys) && names_place steps segs

abbrev pub covers : Option (List RuleSeg) → List Seg → Bool
covers None path = true
covers (Some steps) path = names_place steps path

-- the node of a place
abbrev pub node_of : List SchemaNode → Option ℕ → SchemaNode
node_of nodes None = no_node
node_of nodes (Some n) = node_at n nodes

-- whether a rule is about a place of this module: its module is the place's, and its path names the place or one above it
abbrev pub matches : List ℕ → List Seg → UserRule → Bool
matches module_name path rule = is_of_module rule.«module» module_name && covers rule.path path

-- what the first matching rule says, where there is one
abbrev pub said : List ℕ → List Seg → List UserRule → Option Bool
said module_name path rules = option_map (λ rule. rule.permit) (find (matches module_name path) rules)

-- what is decided where no rule matches: default-deny-all denies, and else the default decides
abbrev pub by_default : Bool → Bool → Bool
by_default deny_all permit = not deny_all && permit

-- the decision on a place that ends in this node: where access control isn't enabled, everybody may read it; the first matching rule decides, and the default where there is none
abbrev pub decision_at : SchemaNode → UserRules → List Seg → Bool
decision_at node rules path = if rules.enabled then unwrap_or (said node.home path rules.rules) (by_default node.deny_all rules.read_permit) else true

-- whether a user with these rules may read the node at a place
abbrev pub decision : List SchemaNode → UserRules → List Seg → Bool
decision nodes rules path = decision_at (node_of nodes (last_node path)) rules path

-- ---- reading a path

-- the step from a place down to a leaf, where there is one
abbrev pub leaf_step : Option ℕ → List Seg
leaf_step None = []
leaf_step (Some leaf) = record { node = leaf; keys = [] } ∷ []

-- whether each of these leaves below a place may be read
abbrev pub are_open : List SchemaNode → UserRules → List Seg → List ℕ → Bool
are_open nodes rules path [] = true
are_open nodes rules path (leaf ∷ leaves) = decision nodes rules (path ++ leaf_step (Some leaf)) && are_open nodes rules path leaves

-- whether a place may be read, and each key leaf of the entry where it is one
abbrev pub is_open : List SchemaNode → UserRules → List Seg → Bool
is_open nodes rules path = decision nodes rules path && are_open nodes rules path (node_of nodes (last_node path)).keys

-- whether each place from below this one down to the end of a path is open
abbrev pub opens_down : List SchemaNode → UserRules → List Seg → List Seg → Bool
opens_down nodes rules above [] = true
opens_down nodes rules above (seg ∷ segs) = is_open nodes rules (above ++ seg ∷ []) && opens_down nodes rules (above ++ seg ∷ []) segs

-- a path may be read where each place from the top down to it is open
abbrev pub is_readable : List SchemaNode → UserRules → List Seg → Bool
is_readable nodes rules path = opens_down nodes rules [] path

-- what may be read is closed upwards: what stands above a path that may be read may be read too
abbrev pub IsClosed : (List Seg → Bool) → Type 0
IsClosed readable = (above rest : List Seg) → readable (above ++ rest) ≡ true → readable above ≡ true

-- the rows that may be read
abbrev pub visible_rows : (List Seg → Bool) → List Row → List Row
visible_rows readable rows = filter (λ row. readable row.path) rows

-- ---- calling an operation (RFC 8341 section 3.4.4)

-- the module and the name of an operation on subscriptions (RFC 8639 section 2.4 and RFC 8641 section 4.4)
abbrev pub module_of : Operation → List ℕ
module_of Establish = codes "ietf-subscribed-notifications"
module_of Modify = codes "ietf-subscribed-notifications"
module_of Delete = codes "ietf-subscribed-notifications"
module_of Kill = codes "ietf-subscribed-notifications"
module_of Resync = codes "ietf-yang-push"

abbrev pub name_of : Operation → List ℕ
name_of Establish = codes "establish-subscription"
name_of Modify = codes "modify-subscription"
name_of Delete = codes "delete-subscription"
name_of Kill = codes "kill-subscription"
name_of Resync = codes "resync-subscription"

-- only the end of somebody else's subscription has default-deny-all
abbrev pub denies_all : Operation → Bool
denies_all Establish = false
denies_all Modify = false
denies_all Delete = false
denies_all Kill = true
denies_all Resync = false

-- whether a rule of this subject can be about an operation of this name
abbrev pub is_about : Subject → List ℕ → Bool
is_about Any name = true
is_about (Path path) name = false
is_about (OfOperation own) name = is_of_module own name
is_about Other name = false

-- whether a rule is about a call of an operation
abbrev pub matches_call : Operation → Rule → Bool
matches_call op rule = (is_of_module rule.«module» (module_of op) && rule.exec) && is_about rule.subject (name_of op)

-- what the first matching rule says of a call, where there is one
abbrev pub said_of_call : Operation → List Rule → Option Bool
said_of_call op rules = option_map (λ rule. rule.permit) (find (matches_call op) rules)

-- whether a user may call an operation
abbrev pub may_call : Policy → List ℕ → Operation → Bool
may_call policy user op =
    if policy.enabled then unwrap_or (said_of_call op (rules_for (groups_of policy.groups user) policy.lists)) (by_default (denies_all op) policy.exec_permit) else true
