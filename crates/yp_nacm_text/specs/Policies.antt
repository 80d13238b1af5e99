-- A policy in JSON (RFC 8341 section 3.5), and its first fault.
use Rattle.std.specs.Prelude.{ℕ, List, [], Bool, Option, Some, option_and_then, Result, Ok, codes, length}
use Rattle.std.specs.List.{list_any}
use Rattle.serde_json.specs.Data.{Data, Items, no_items, Members}
use Rattle.serde_json.specs.Find.{get_member, as_array}
use Rattle.yp_value.specs.Json.{text_member}
use Rattle.yp_base.specs.Results.{◌>>=◌, or_fault}
use Rattle.yp_base.specs.Types.{same_text}
use Rattle.yp_schema.specs.declared.schema.SchemaNode.{SchemaNode}
use Rattle.yp_nacm.specs.declared.policy.Group.{Group}
use Rattle.yp_nacm.specs.declared.policy.Policy.{Policy}
use Rattle.yp_nacm.specs.declared.policy.Rule.{Rule}
use Rattle.yp_nacm.specs.declared.policy.RuleList.{RuleList}
use Rattle.yp_nacm_text.specs.declared.fault.Place.{Place}
use Rattle.yp_nacm_text.specs.declared.fault.Place.TheVariants.{Policy as OfPolicy, Group as OfGroup, List as OfList, Rule as OfRule}
use Rattle.yp_nacm_text.specs.declared.fault.PolicyKind.TheVariants.{Member}
use Rattle.yp_nacm_text.specs.declared.members.Part.TheVariants.{Document, Policy as ThePolicy, Groups, Group as AGroup, List as AList}
use Rattle.yp_nacm_text.specs.declared.switches.Switches.{Switches}
use Rattle.yp_nacm_text.specs.Faults.{Fault}
use Rattle.yp_nacm_text.specs.Members.{members_as, member_or, switch, default_word, texts_of, items_of, each_in}
use Rattle.yp_nacm_text.specs.Rules.{unless_taken, rule_in}

-- ---- groups

-- whether one of these groups has a name
abbrev pub names_group : List Group → List ℕ → Bool
names_group groups name = list_any (λ group. same_text name group.name) groups

-- the group that JSON is
abbrev pub group_in : Place → (List ℕ → Bool) → Data → Result Group Fault
group_in place taken d =
    or_fault (place, Member) (members_as AGroup d) >>= λ ms.
    or_fault (place, Member) (text_member (codes "name") ms) >>= λ name.
    or_fault (place, Member) (texts_of (codes "user-name") ms) >>= λ users.
    unless_taken taken place name (Ok (record { name = name; users = users }))

-- the group that JSON is after these
abbrev pub next_group : List Group → Data → Result Group Fault
next_group before d = group_in (OfGroup (length before)) (names_group before) d

-- ---- rule lists

-- whether one of these rules has a name
abbrev pub names_rule : List Rule → List ℕ → Bool
names_rule rules name = list_any (λ rule. same_text name rule.name) rules

-- the rule that JSON is after these, in the rule list of this number
abbrev pub next_rule : List SchemaNode → ℕ → List Rule → Data → Result Rule Fault
next_rule nodes list before d = rule_in nodes (OfRule list (length before)) (names_rule before) d

-- whether one of these rule lists has a name
abbrev pub names_list : List RuleList → List ℕ → Bool
names_list lists name = list_any (λ list. same_text name list.name) lists

-- the rule list of this number that JSON is; its own faults come before those of its rules
abbrev pub list_in : List SchemaNode → ℕ → (List ℕ → Bool) → Data → Result RuleList Fault
list_in nodes number taken d =
    or_fault (OfList number, Member) (members_as AList d) >>= λ ms.
    or_fault (OfList number, Member) (text_member (codes "name") ms) >>= λ name.
    or_fault (OfList number, Member) (texts_of (codes "group") ms) >>= λ groups.
    or_fault (OfList number, Member) (items_of (codes "rule") ms) >>= λ items.
    unless_taken taken (OfList number) name
    (each_in (next_rule nodes number) [] items >>= λ rules. Ok (record { name = name; groups = groups; rules = rules }))

-- the rule list that JSON is after these
abbrev pub next_list : List SchemaNode → List RuleList → Data → Result RuleList Fault
next_list nodes before d = list_in nodes (length before) (names_list before) d

-- ---- a policy

-- what a policy says itself, each word of its kind; what is said of writing and of external groups has no effect
abbrev pub switches_in : Members → Option Switches
switches_in ms =
    option_and_then (λ enabled. option_and_then (λ read. option_and_then (λ write. option_and_then (λ exec. option_and_then (λ external.
    Some (record { enabled = enabled; read_permit = read; exec_permit = exec }))
    (switch (codes "enable-external-groups") ms)) (default_word (codes "exec-default") ms)) (default_word (codes "write-default") ms)) (default_word (codes "read-default") ms))
    (switch (codes "enable-nacm") ms)

-- the members of the policy that a document has
abbrev pub policy_members : Data → Option Members
policy_members json = option_and_then (members_as ThePolicy) (option_and_then (get_member (codes "ietf-netconf-acm:nacm")) (members_as Document json))

-- the items of the groups, an object with their array; where it is left out there are none
abbrev pub group_items : Members → Option Items
group_items ms = member_or no_items (λ d. option_and_then as_array (option_and_then (get_member (codes "group")) (members_as Groups d))) (get_member (codes "groups") ms)

-- the policy that JSON is, or its first fault: what it says itself, then each group, then each rule list with its rules
abbrev pub policy_in : List SchemaNode → Data → Result Policy Fault
policy_in nodes d =
    or_fault (OfPolicy, Member) (policy_members d) >>= λ ms.
    or_fault (OfPolicy, Member) (switches_in ms) >>= λ switches.
    or_fault (OfPolicy, Member) (group_items ms) >>= λ groups.
    or_fault (OfPolicy, Member) (items_of (codes "rule-list") ms) >>= λ lists.
    each_in next_group [] groups >>= λ groups.
    each_in (next_list nodes) [] lists >>= λ lists.
    Ok (record { enabled = switches.enabled; read_permit = switches.read_permit; exec_permit = switches.exec_permit; groups = groups; lists = lists })
