-- The paths of a policy that is read are of the schema.
use Rattle.std.proofs.Common.{◌≡◌, ℕ, List, [], ◌∷◌, ◌++◌, Bool, true, false, Option, Some, None, Result, Ok, Err, length, option_and_then, refl, subst, IfOk, if◌then◌else◌, codes}
use Rattle.std.specs.List.{All}
use Rattle.std.proofs.lemmas.List.Elements.{All-push, All-nil}
use Rattle.serde_json.specs.Data.{Data, Items, no_items, item, Members}
use Rattle.yp_value.specs.Json.{text_member}
use Rattle.yp_base.specs.Results.{◌>>=◌, or_fault}
use Rattle.yp_base.specs.declared.rule_path.RuleSeg.{RuleSeg}
use Rattle.yp_schema.specs.declared.schema.SchemaNode.{SchemaNode}
use Rattle.yp_schema.specs.RulePaths.{IsRulePathOf}
use Rattle.yp_path.specs.declared.fault.PathFault.{PathFault}
use Rattle.yp_path.specs.RulePaths.{rule_path_in}
use Rattle.yp_nacm.specs.declared.policy.Group.{Group}
use Rattle.yp_nacm.specs.declared.policy.Policy.{Policy}
use Rattle.yp_nacm.specs.declared.policy.Rule.{Rule}
use Rattle.yp_nacm.specs.declared.policy.RuleList.{RuleList}
use Rattle.yp_nacm.specs.declared.policy.Subject.{Subject}
use Rattle.yp_nacm.specs.Policies.{IsSubjectOf, IsListOf, IsPolicyOf}
use Rattle.yp_nacm_text.specs.declared.fault.Place.{Place}
use Rattle.yp_nacm_text.specs.declared.fault.Place.TheVariants.{Policy as OfPolicy, List as OfList, Rule as OfRule}
use Rattle.yp_nacm_text.specs.declared.fault.PolicyKind.TheVariants.{Member, Operation, Action, DuplicateName}
use Rattle.yp_nacm_text.specs.declared.members.Part.TheVariants.{List as AList}
use Rattle.yp_nacm_text.specs.declared.operations.Operations.{Operations}
use Rattle.yp_nacm_text.specs.declared.switches.Switches.{Switches}
use Rattle.yp_nacm_text.specs.Faults.{Fault}
use Rattle.yp_nacm_text.specs.Members.{members_as, permits_by, texts_of, items_of, each_in}
use Rattle.yp_nacm_text.specs.Rules.{rule_members, unless_all, subject_named, subject_at, subject_of, subject_in, operations_in, unless_taken, rule_in}
use Rattle.yp_nacm_text.specs.Policies.{next_group, names_rule, next_rule, names_list, list_in, next_list, switches_in, policy_members, group_items, policy_in}

-- ---- steps

then_is : {X Y E : Type 0} (r : Result X E) (f : X → Result Y E) (P : X → Type 0) (Q : Y → Type 0) → IfOk r P → ((x : X) → P x → IfOk (f x) Q) → IfOk (r >>= f) Q
then_is (Ok x) f P Q is each = each x is
then_is (Err e) f P Q is each = tt

-- whatever a step gives
then_any : {X Y E : Type 0} (r : Result X E) (f : X → Result Y E) (Q : Y → Type 0) → ((x : X) → IfOk (f x) Q) → IfOk (r >>= f) Q
then_any (Ok x) f Q each = each x
then_any (Err e) f Q each = tt

-- two steps, whatever they give
both_any : {X Y Z E : Type 0} (r : Result X E) (s : X → Result Y E) (f : X → Y → Result Z E) (Q : Z → Type 0) → ((x : X) (y : Y) → IfOk (f x y) Q) → IfOk (r >>= λ x. s x >>= λ y. f x y) Q
both_any (Ok x) s f Q each = then_any (s x) (f x) Q (each x)
both_any (Err e) s f Q each = tt

unless_is : {X : Type 0} (taken : List ℕ → Bool) (place : Place) (name : List ℕ) (next : Result X Fault) (Q : X → Type 0) → IfOk next Q → IfOk (unless_taken taken place name next) Q
unless_is taken place name next Q is = at (place, DuplicateName) (taken name)
  where
    at : (fault : Fault) (b : Bool) → IfOk (if b then Err fault else next) Q
    at fault true = tt
    at fault false = is

each_is : {X : Type 0} (read : List X → Data → Result X Fault) (P : X → Type 0) → ((before : List X) (d : Data) → IfOk (read before d) P) → (before : List X) → All P before → (ds : Items) → IfOk (each_in read before ds) (All P)
each_is read P each before all no_items = all
each_is read P each before all (item d ds) = then_is (read before d) (λ x. each_in read (before ++ x ∷ []) ds) P (All P) (each before d) (λ x is. each_is read P each (before ++ x ∷ []) (All-push P before x all is) ds)

-- ---- policies

-- a rule path that is read is one of its schema
abbrev pub PathsKept : Type 0
PathsKept = (nodes : List SchemaNode) (text : List ℕ) (path : List RuleSeg) → rule_path_in nodes text ≡ Ok path → IsRulePathOf nodes path

module _ (kept : PathsKept) (nodes : List SchemaNode) where
  path_is : (text : List ℕ) → IfOk (rule_path_in nodes text) (IsRulePathOf nodes)
  path_is text = at (rule_path_in nodes text) refl
    where
      at : (r : Result (List RuleSeg) PathFault) → rule_path_in nodes text ≡ r → IfOk r (IsRulePathOf nodes)
      at (Ok path) is = kept nodes text path is
      at (Err fault) is = tt

  at_is : (place : Place) (r : Result (List RuleSeg) PathFault) → IfOk r (IsRulePathOf nodes) → IfOk (subject_at place r) (IsSubjectOf nodes)
  at_is place (Ok path) is = is
  at_is place (Err fault) is = tt

  named_is : (notification rpc : Option (List ℕ)) → IsSubjectOf nodes (subject_named notification rpc)
  named_is (Some notification) rpc = tt
  named_is None (Some rpc) = tt
  named_is None None = tt

  of_is : (place : Place) (path : Option (List ℕ)) (otherwise : Subject) → IsSubjectOf nodes otherwise → IfOk (subject_of nodes place path otherwise) (IsSubjectOf nodes)
  of_is place None otherwise is = is
  of_is place (Some path) otherwise is = at_is place (rule_path_in nodes path) (path_is path)

  subject_is : (place : Place) (ms : Members) → IfOk (subject_in nodes place ms) (IsSubjectOf nodes)
  subject_is place ms =
      let notification = text_member (codes "notification-name") ms in
      let rpc = text_member (codes "rpc-name") ms in
      of_is place (text_member (codes "path") ms) (subject_named notification rpc) (named_is notification rpc)

  rule_is : (place : Place) (taken : List ℕ → Bool) (d : Data) → IfOk (rule_in nodes place taken d) (λ rule. IsSubjectOf nodes rule.subject)
  rule_is place taken d =
      let Own = λ (rule : Rule). IsSubjectOf nodes rule.subject in
      let made = λ (ms : Members) (name : List ℕ) (subject : Subject) (operations : Operations) (permit : Bool).
      (let rule : Rule = record { name = name; «module» = unless_all (text_member (codes "module-name") ms); read = operations.read; exec = operations.exec; subject = subject; permit = permit } in
      unless_taken taken place name (Ok rule)) in
      let operations_of = λ (ms : Members). or_fault (place, Operation) (operations_in (text_member (codes "access-operations") ms)) in
      let permit_of = λ (ms : Members). or_fault (place, Action) (option_and_then permits_by (text_member (codes "action") ms)) in
      both_any (or_fault (place, Member) (rule_members d)) (λ ms. or_fault (place, Member) (text_member (codes "name") ms))
      (λ ms name. subject_in nodes place ms >>= λ subject. operations_of ms >>= λ operations. permit_of ms >>= λ permit. made ms name subject operations permit) Own (λ ms name.
      then_is (subject_in nodes place ms) (λ subject. operations_of ms >>= λ operations. permit_of ms >>= λ permit. made ms name subject operations permit) (IsSubjectOf nodes) Own (subject_is place ms) (λ subject is.
      both_any (operations_of ms) (λ operations. permit_of ms) (made ms name subject) Own (λ operations permit. unless_is taken place name _ Own is)))

  list_is : (number : ℕ) (taken : List ℕ → Bool) (d : Data) → IfOk (list_in nodes number taken d) (IsListOf nodes)
  list_is number taken d =
      let Own = λ (rule : Rule). IsSubjectOf nodes rule.subject in
      let made = λ (name : List ℕ) (groups : List (List ℕ)) (rules : List Rule). (let list : Result RuleList Fault = Ok (record { name = name; groups = groups; rules = rules }) in list) in
      let read = λ (name : List ℕ) (groups : List (List ℕ)) (items : Items). unless_taken taken (OfList number) name (each_in (next_rule nodes number) [] items >>= made name groups) in
      let groups_of = λ (ms : Members). or_fault (OfList number, Member) (texts_of (codes "group") ms) in
      let items_in = λ (ms : Members). or_fault (OfList number, Member) (items_of (codes "rule") ms) in
      both_any (or_fault (OfList number, Member) (members_as AList d)) (λ ms. or_fault (OfList number, Member) (text_member (codes "name") ms))
      (λ ms name. groups_of ms >>= λ groups. items_in ms >>= λ items. read name groups items) (IsListOf nodes) (λ ms name.
      both_any (groups_of ms) (λ groups. items_in ms) (read name) (IsListOf nodes) (λ groups items.
      unless_is taken (OfList number) name (each_in (next_rule nodes number) [] items >>= made name groups) (IsListOf nodes)
      (then_is (each_in (next_rule nodes number) [] items) (made name groups) (All Own) (IsListOf nodes) (each_is (next_rule nodes number) Own (λ before d. rule_is (OfRule number (length before)) (names_rule before) d) [] (All-nil Own) items) (λ rules are. are))))

  policy_is : (d : Data) → IfOk (policy_in nodes d) (IsPolicyOf nodes)
  policy_is d =
      let made = λ (switches : Switches) (groups : List Group) (lists : List RuleList).
      (let policy : Result Policy Fault = Ok (record { enabled = switches.enabled; read_permit = switches.read_permit; exec_permit = switches.exec_permit; groups = groups; lists = lists }) in policy) in
      let read = λ (switches : Switches) (groups lists : Items). each_in next_group [] groups >>= λ groups. each_in (next_list nodes) [] lists >>= made switches groups in
      let groups_in = λ (ms : Members). or_fault (OfPolicy, Member) (group_items ms) in
      let lists_in = λ (ms : Members). or_fault (OfPolicy, Member) (items_of (codes "rule-list") ms) in
      both_any (or_fault (OfPolicy, Member) (policy_members d)) (λ ms. or_fault (OfPolicy, Member) (switches_in ms))
      (λ ms switches. groups_in ms >>= λ groups. lists_in ms >>= λ lists. read switches groups lists) (IsPolicyOf nodes) (λ ms switches.
      both_any (groups_in ms) (λ groups. lists_in ms) (read switches) (IsPolicyOf nodes) (λ groups lists.
      then_any (each_in next_group [] groups) (λ groups. each_in (next_list nodes) [] lists >>= made switches groups) (IsPolicyOf nodes) (λ groups.
      then_is (each_in (next_list nodes) [] lists) (made switches groups) (All (IsListOf nodes)) (IsPolicyOf nodes)
      (each_is (next_list nodes) (IsListOf nodes) (λ before d. list_is (length before) (names_list before) d) [] (All-nil (IsListOf nodes)) lists) (λ lists are. are))))

  pub read_is : (d : Data) (policy : Policy) → policy_in nodes d ≡ Ok policy → IsPolicyOf nodes policy
  read_is d policy is = subst (λ (r : Result Policy Fault). IfOk r (IsPolicyOf nodes)) is (policy_is d)
