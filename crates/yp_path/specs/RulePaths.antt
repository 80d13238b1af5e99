-- Rule paths (RFC 8341 section 3.5.2): `/` and a name for each node, and predicates `[name='value']` for those of its keys that are given.
use Rattle.std.specs.Prelude.{ℕ, List, [], ◌∷◌, Bool, true, false, ◌&&◌, ◌||◌, ◌==◌, length, nat_lt, if◌then◌else◌, codes, Option, Some, None, option_map, option_and_then, is_none, Result, Ok, Err}
use Rattle.std.specs.List.{position_or_len, before_first, after_first}
use Rattle.yp_base.specs.Types.{same_text}
use Rattle.yp_base.specs.declared.atom.Atom.{Atom}
use Rattle.yp_schema.specs.declared.schema.SchemaNode.{SchemaNode}
use Rattle.yp_base.specs.declared.rule_path.RuleSeg.{RuleSeg}
use Rattle.yp_base.specs.Paths.{same_number}
use Rattle.yp_schema.specs.Nodes.{node_at, is_in}
use Rattle.yp_schema.specs.WellFormed.{is_empty}
use Rattle.yp_path.specs.declared.fault.PathFault.{PathFault}
use Rattle.yp_path.specs.declared.fault.PathFault.TheVariants.{Syntax, UnknownNode, KeyCount, KeyValue}
use Rattle.yp_path.specs.declared.mark.Place.{Place}
use Rattle.yp_path.specs.declared.mark.Place.TheVariants.{Outside, Within, Quoted}
use Rattle.yp_path.specs.declared.predicate.Predicate.{Predicate}
use Rattle.yp_base.specs.Cuts.{onto_first}
use Rattle.yp_path.specs.Grammar.{RulePart}
use Rattle.yp_path.specs.Names.{child_named}
use Rattle.yp_base.specs.Results.{◌>>=◌, or_fault}
use Rattle.yp_path.specs.Targets.{some_name, asked, value_of}

-- ---- what stands between marks

-- an apostrophe or a quotation mark
abbrev pub is_quote : ℕ → Bool
is_quote b = b == 39 || b == 34

-- where the next byte stands
abbrev pub next_place : Place → ℕ → Place
next_place Outside b = if b == 91 then Within else Outside
next_place Within b = if b == 93 then Outside else (if is_quote b then Quoted b else Within)
next_place (Quoted q) b = if b == q then Within else Quoted q

-- whether it stands in no value
abbrev pub is_unquoted : Place → Bool
is_unquoted Outside = true
is_unquoted Within = true
is_unquoted (Quoted q) = false

-- a text cut at each mark that stands in no value; after it brackets begin anew
abbrev pub pieces : ℕ → Place → List ℕ → List (List ℕ)
pieces mark place [] = [] ∷ []
pieces mark place (b ∷ bs) = if b == mark && is_unquoted place then [] ∷ pieces mark Outside bs else onto_first b (pieces mark (next_place place b) bs)

-- ---- predicates

-- what stands after an opening bracket
abbrev pub opened : List ℕ → Option (List ℕ)
opened [] = None
opened (b ∷ bs) = if b == 91 then Some bs else None

-- what stands within brackets, by what stands after the first opening one, cut at the closing ones
abbrev pub bodies : List ℕ → List (List ℕ) → Option (List (List ℕ))
bodies body [] = None
bodies body (piece ∷ more) = option_map (λ others. body ∷ others) (if is_empty piece && is_empty more then Some [] else option_and_then (λ next. bodies next more) (opened piece))

abbrev pub all_bodies : List (List ℕ) → Option (List (List ℕ))
all_bodies [] = None
all_bodies (body ∷ more) = bodies body more

-- spaces are U+0020 alone
abbrev pub without_spaces : List ℕ → List ℕ
without_spaces [] = []
without_spaces (b ∷ bs) = if b == 32 then without_spaces bs else b ∷ bs

abbrev pub are_spaces : List ℕ → Bool
are_spaces bs = is_empty (without_spaces bs)

-- what stands before the first mark and after it, if there is one
abbrev pub around : ℕ → List ℕ → Option (List ℕ × List ℕ)
around mark bs = if nat_lt (position_or_len (λ b. b == mark) bs) (length bs) then Some (before_first (λ b. b == mark) bs, after_first (λ b. b == mark) bs) else None

-- a name, after which only spaces stand
abbrev pub name_in : List ℕ → Option (List ℕ)
name_in bs = if are_spaces (after_first (λ b. b == 32) bs) then some_name (before_first (λ b. b == 32) bs) else None

-- a value up to this quote, after which only spaces stand
abbrev pub closed : ℕ → List ℕ → Option (List ℕ)
closed q bs = option_and_then (λ (value, rest). if are_spaces rest then Some value else None) (around q bs)

-- a value between two equal quotes, after which only spaces stand
abbrev pub quoted_value : List ℕ → Option (List ℕ)
quoted_value [] = None
quoted_value (q ∷ bs) = if is_quote q then closed q bs else None

-- the name of a key and its value's text
abbrev pub predicate_in : List ℕ → Option Predicate
predicate_in body =
    option_and_then (λ (front, back).
    option_and_then (λ name. option_map (λ value. record { name = name; value = value }) (quoted_value (without_spaces back))) (name_in (without_spaces front)))
    (around 61 body)

abbrev pub predicates_in : List (List ℕ) → Option (List Predicate)
predicates_in [] = Some []
predicates_in (body ∷ others) = option_and_then (λ predicate. option_map (λ more. predicate ∷ more) (predicates_in others)) (predicate_in body)

-- the predicates after the first opening bracket
abbrev pub predicates_behind : List ℕ → Option (List Predicate)
predicates_behind text = option_and_then predicates_in (all_bodies (pieces 93 Within text))

abbrev pub is_bracket : ℕ → Bool
is_bracket b = b == 91

-- the predicates after a segment's name
abbrev pub predicates_of : List ℕ → Option (List Predicate)
predicates_of part = if nat_lt (position_or_len is_bracket part) (length part) then predicates_behind (after_first is_bracket part) else Some []

-- ---- keys

-- the node that a predicate's name stands for: a child by its member form or qualified name, and by `.` the node itself
abbrev pub node_named : List SchemaNode → ℕ → List ℕ → Option ℕ
node_named nodes n name = if same_text name (codes ".") then Some n else child_named (Some n) name nodes

-- that node, if it is one of the keys
abbrev pub among : List ℕ → Option ℕ → Option ℕ
among ks None = None
among ks (Some k) = if is_in k ks then Some k else None

abbrev pub key_named : List SchemaNode → ℕ → List ℕ → List ℕ → Option ℕ
key_named nodes n ks name = among ks (node_named nodes n name)

-- the value that the first predicate for a key gives
abbrev pub given_for : List SchemaNode → ℕ → List ℕ → ℕ → List Predicate → Option (List ℕ)
given_for nodes n ks k [] = None
given_for nodes n ks k (predicate ∷ others) = if same_number (key_named nodes n ks predicate.name) (Some k) then Some predicate.value else given_for nodes n ks k others

-- whether there is a key, for which none of these predicates stands
abbrev pub is_new : List SchemaNode → ℕ → List ℕ → List Predicate → Option ℕ → Bool
is_new nodes n ks others None = false
is_new nodes n ks others (Some k) = is_none (given_for nodes n ks k others)

-- whether each predicate names a key, and no two the same
abbrev pub each_once : List SchemaNode → ℕ → List ℕ → List Predicate → Bool
each_once nodes n ks [] = true
each_once nodes n ks (predicate ∷ others) = is_new nodes n ks others (key_named nodes n ks predicate.name) && each_once nodes n ks others

-- the value of a key, by the text that is given for it; a key without one stands for all values
abbrev pub key_value : List SchemaNode → ℕ → Option (List ℕ) → Option (Option Atom)
key_value nodes k None = Some None
key_value nodes k (Some text) = option_map (λ value. Some value) (value_of (node_at k nodes).ty text)

-- the values of these keys of a node
abbrev pub rule_keys : List SchemaNode → ℕ → List ℕ → List Predicate → List ℕ → Option (List (Option Atom))
rule_keys nodes n all predicates [] = Some []
rule_keys nodes n all predicates (k ∷ ks) = option_and_then (λ value. option_map (λ values. value ∷ values) (rule_keys nodes n all predicates ks)) (key_value nodes k (given_for nodes n all k predicates))

-- ---- the path

-- the segment at a node, by its predicates
abbrev pub with_predicates : List SchemaNode → ℕ → List ℕ → List Predicate → Result RuleSeg PathFault
with_predicates nodes n ks predicates =
    if each_once nodes n ks predicates then (or_fault KeyValue (rule_keys nodes n ks predicates ks) >>= λ keys. Ok (record { node = n; keys = keys })) else Err KeyCount

-- the segment that a part names below a node, or at the top; its least fault is the answer
abbrev pub rule_part_in : List SchemaNode → Option ℕ → RulePart → Result RuleSeg PathFault
rule_part_in nodes parent part = or_fault UnknownNode (child_named parent part.name nodes) >>= λ n. with_predicates nodes n (asked n nodes) part.predicates

-- the segments that parts name, each below the one before; the leftmost with a fault decides
abbrev pub rule_parts_in : List SchemaNode → Option ℕ → List RulePart → Result (List RuleSeg) PathFault
rule_parts_in nodes parent [] = Ok []
rule_parts_in nodes parent (part ∷ parts) = rule_part_in nodes parent part >>= λ seg. rule_parts_in nodes (Some seg.node) parts >>= λ segs. Ok (seg ∷ segs)

-- the segment that a text without its `/` is; a text that is no part comes before all other faults
abbrev pub rule_segment_in : List SchemaNode → Option ℕ → List ℕ → Result RuleSeg PathFault
rule_segment_in nodes parent part =
    or_fault Syntax (some_name (before_first is_bracket part)) >>= λ name.
    or_fault Syntax (predicates_of part) >>= λ predicates.
    rule_part_in nodes parent (record { name = name; predicates = predicates })

-- segments from the left, each below the one before; the leftmost with a fault decides
abbrev pub rule_segments_in : List SchemaNode → Option ℕ → List (List ℕ) → Result (List RuleSeg) PathFault
rule_segments_in nodes parent [] = Ok []
rule_segments_in nodes parent (part ∷ parts) = rule_segment_in nodes parent part >>= λ seg. rule_segments_in nodes (Some seg.node) parts >>= λ segs. Ok (seg ∷ segs)

-- the rule path that a text is
abbrev pub rule_path_in : List SchemaNode → List ℕ → Result (List RuleSeg) PathFault
rule_path_in nodes [] = Err Syntax
rule_path_in nodes (b ∷ bs) = if b == 47 then rule_segments_in nodes None (pieces 47 Outside bs) else Err Syntax
