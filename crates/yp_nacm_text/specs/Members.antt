-- The members of the objects in a policy: which may stand there, and what they are (RFC 8341 section 3.5).
use Rattle.std.specs.Prelude.{ℕ, List, [], ◌∷◌, ◌++◌, Bool, true, false, ◌&&◌, Option, Some, None, option_and_then, if◌then◌else◌, codes}
use Rattle.serde_json.specs.Data.{Data, Items, no_items, item, Members, no_members, member}
use Rattle.serde_json.specs.Find.{get_member, as_bool, as_str, as_array, as_object}
use Rattle.yp_base.specs.Results.{◌>>=◌}
use Rattle.yp_base.specs.Types.{same_text, is_among}
use Rattle.yp_value.specs.Json.{texts_in}
use Rattle.yp_nacm_text.specs.declared.members.Part.{Part}
use Rattle.yp_nacm_text.specs.declared.members.Part.TheVariants.{Document, Policy, Groups, Group, List as OfList, Rule}
use Rattle.std.specs.Prelude.{Result, Ok}
use Rattle.yp_nacm_text.specs.Faults.{Fault}

-- the names of the members that a part may have
abbrev pub names_of : Part → List (List ℕ)
names_of Document = codes "ietf-netconf-acm:nacm" ∷ []
names_of Policy =
    codes "enable-nacm" ∷ codes "read-default" ∷ codes "write-default" ∷ codes "exec-default" ∷ codes "enable-external-groups" ∷ codes "groups" ∷ codes "rule-list" ∷ []
names_of Groups = codes "group" ∷ []
names_of Group = codes "name" ∷ codes "user-name" ∷ []
names_of OfList = codes "name" ∷ codes "group" ∷ codes "rule" ∷ []
names_of Rule = codes "name" ∷ codes "module-name" ∷ codes "rpc-name" ∷ codes "notification-name" ∷ codes "path" ∷ codes "access-operations" ∷ codes "action" ∷ codes "comment" ∷ []

-- whether all members have a name that this part may have
abbrev pub has_only : Part → Members → Bool
has_only part no_members = true
has_only part (member name d ms) = is_among name (names_of part) && has_only part ms

-- the members of a part: an object, with no members but those that it may have
abbrev pub members_as : Part → Data → Option Members
members_as part d = option_and_then (λ ms. if has_only part ms then Some ms else None) (as_object d)

-- a member as it is read, and this value where it is left out
abbrev pub member_or : {X : Type 0} → X → (Data → Option X) → Option Data → Option X
member_or default read None = Some default
member_or default read (Some d) = read d

-- a switch, which is true or false; where it is left out it is true
abbrev pub switch : List ℕ → Members → Option Bool
switch name ms = member_or true as_bool (get_member name ms)

-- whether a word permits: `permit` or `deny`
abbrev pub permits_by : List ℕ → Option Bool
permits_by word = if same_text word (codes "permit") then Some true else (if same_text word (codes "deny") then Some false else None)

-- a default, which is one of these words; where it is left out it permits
abbrev pub default_word : List ℕ → Members → Option Bool
default_word name ms = member_or true (λ d. option_and_then permits_by (as_str d)) (get_member name ms)

-- an array of texts; where it is left out there are none
abbrev pub texts_of : List ℕ → Members → Option (List (List ℕ))
texts_of name ms = member_or [] (λ d. option_and_then texts_in (as_array d)) (get_member name ms)

-- the items of an array; where it is left out there are none
abbrev pub items_of : List ℕ → Members → Option Items
items_of name ms = member_or no_items as_array (get_member name ms)

-- what the items of an array are, one after another, each read beside those before it; the first fault is the answer
abbrev pub each_in : {X : Type 0} → (List X → Data → Result X Fault) → List X → Items → Result (List X) Fault
each_in read before no_items = Ok before
each_in read before (item d ds) = read before d >>= λ x. each_in read (before ++ x ∷ []) ds
