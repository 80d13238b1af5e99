-- A rule of a policy in JSON (RFC 8341 section 3.5, the list `rule`).
use Rattle.std.specs.Prelude.{ℕ, List, [], ◌∷◌, Bool, true, not, ◌&&◌, ◌==◌, Option, Some, None, is_some, option_and_then, Result, Ok, Err, if◌then◌else◌, codes}
use Rattle.std.specs.List.{slice_split}
use Rattle.serde_json.specs.Data.{Data, Members, no_members, member}
use Rattle.serde_json.specs.Find.{get_member, as_str}
use Rattle.yp_value.specs.Json.{text_member}
use Rattle.yp_base.specs.Results.{◌>>=◌, or_fault}
use Rattle.yp_base.specs.Types.{same_text, is_among}
use Rattle.yp_base.specs.declared.rule_path.RuleSeg.{RuleSeg}
use Rattle.yp_schema.specs.declared.schema.SchemaNode.{SchemaNode}
use Rattle.yp_path.specs.declared.fault.PathFault.{PathFault}
use Rattle.yp_path.specs.RulePaths.{rule_path_in}
use Rattle.yp_nacm.specs.declared.policy.Rule.{Rule}
use Rattle.yp_nacm.specs.declared.policy.Subject.{Subject}
use Rattle.yp_nacm.specs.declared.policy.Subject.TheVariants.{Any, Path as OfPath, Operation as OfOperation, Other}
use Rattle.yp_nacm_text.specs.declared.fault.Place.{Place}
use Rattle.yp_nacm_text.specs.declared.fault.PolicyKind.TheVariants.{Member, Path, Operation, Action, DuplicateName}
use Rattle.yp_nacm_text.specs.declared.members.Part.TheVariants.{Rule as OfRule}
use Rattle.yp_nacm_text.specs.declared.operations.Operations.{Operations}
use Rattle.yp_nacm_text.specs.Faults.{Fault}
use Rattle.yp_nacm_text.specs.Members.{members_as, permits_by}

-- ---- the form of a rule

abbrev pub are_texts : Members → Bool
are_texts no_members = true
are_texts (member name d ms) = is_some (as_str d) && are_texts ms

abbrev pub has : List ℕ → Members → Bool
has name ms = is_some (get_member name ms)

-- at most one rule type is there
abbrev pub has_one_type : Members → Bool
has_one_type ms =
    not (has (codes "rpc-name") ms && has (codes "notification-name") ms) && not (has (codes "rpc-name") ms && has (codes "path") ms) && not (has (codes "notification-name") ms && has (codes "path") ms)

-- the members of a rule: each is a text, and at most one is a rule type
abbrev pub rule_members : Data → Option Members
rule_members d = option_and_then (λ ms. if are_texts ms && has_one_type ms then Some ms else None) (members_as OfRule d)

-- ---- what its texts say

-- `*` stands for all, and so does a text that is left out
abbrev pub unless_all : Option (List ℕ) → Option (List ℕ)
unless_all None = None
unless_all (Some text) = if same_text text (codes "*") then None else Some text

-- what a rule without a path is about: a notification or an operation of a name, or everything
abbrev pub subject_named : Option (List ℕ) → Option (List ℕ) → Subject
subject_named (Some notification) rpc = Other
subject_named None (Some rpc) = OfOperation (unless_all (Some rpc))
subject_named None None = Any

abbrev pub subject_at : Place → Result (List RuleSeg) PathFault → Result Subject Fault
subject_at place (Ok path) = Ok (OfPath path)
subject_at place (Err fault) = Err (place, Path fault)

abbrev pub subject_of : List SchemaNode → Place → Option (List ℕ) → Subject → Result Subject Fault
subject_of nodes place (Some path) otherwise = subject_at place (rule_path_in nodes path)
subject_of nodes place None otherwise = Ok otherwise

-- what a rule is about: what its path names, or what it is about without one
abbrev pub subject_in : List SchemaNode → Place → Members → Result Subject Fault
subject_in nodes place ms = subject_of nodes place (text_member (codes "path") ms) (subject_named (text_member (codes "notification-name") ms) (text_member (codes "rpc-name") ms))

-- the words of a text, with a space between each two
abbrev pub words_in : List ℕ → List (List ℕ)
words_in text = slice_split (λ b. b == 32) text

abbrev pub operation_words : List (List ℕ)
operation_words = codes "create" ∷ codes "read" ∷ codes "update" ∷ codes "delete" ∷ codes "exec" ∷ []

-- whether each word is an operation, and none stands twice
abbrev pub are_operations : List (List ℕ) → Bool
are_operations [] = true
are_operations (word ∷ words) = (is_among word operation_words && not (is_among word words)) && are_operations words

-- the operations of a text: all by `*`, or those that its words name
abbrev pub operations_by : List ℕ → Option Operations
operations_by text =
    if same_text text (codes "*") then Some (record { read = true; exec = true })
    else (if are_operations (words_in text) then Some (record { read = is_among (codes "read") (words_in text); exec = is_among (codes "exec") (words_in text) }) else None)

-- the operations that a rule is about; all where they are left out
abbrev pub operations_in : Option (List ℕ) → Option Operations
operations_in None = Some (record { read = true; exec = true })
operations_in (Some text) = operations_by text

-- ---- a rule

-- what comes next, unless a name is taken
abbrev pub unless_taken : {X : Type 0} → (List ℕ → Bool) → Place → List ℕ → Result X Fault → Result X Fault
unless_taken taken place name next = if taken name then Err (place, DuplicateName) else next

-- the rule that JSON is, or the first of its faults in this order: a member, the path, the operations, the action, a name that is taken
abbrev pub rule_in : List SchemaNode → Place → (List ℕ → Bool) → Data → Result Rule Fault
rule_in nodes place taken d =
    or_fault (place, Member) (rule_members d) >>= λ ms.
    or_fault (place, Member) (text_member (codes "name") ms) >>= λ name.
    subject_in nodes place ms >>= λ subject.
    or_fault (place, Operation) (operations_in (text_member (codes "access-operations") ms)) >>= λ operations.
    or_fault (place, Action) (option_and_then permits_by (text_member (codes "action") ms)) >>= λ permit.
    unless_taken taken place name
    (Ok (record { name = name; «module» = unless_all (text_member (codes "module-name") ms); read = operations.read; exec = operations.exec; subject = subject; permit = permit }))
