-- Parts of a schema, one after another: a fault is that of the first part that has one.
use Rattle.std.proofs.Common.{◌≡◌, ℕ, ◌+◌, ◌<◌, List, [], ◌∷◌, ◌++◌, length, Option, Some, None, Result, Ok, Err, refl, sym, ap, ◌∙◌, subst, get_or, arith, add-zero}
use Rattle.std.proofs.lemmas.List.{get_or_append_left}
use Rattle.std.proofs.lemmas.Option.{slice_get_read, get_or_from_slice_get}
use Rattle.std.proofs.Math.Seq.{get_or-append_seam}
use Rattle.serde_json.specs.Data.{Data, Items, no_items, item}
use Rattle.serde_json.specs.Find.{as_array}
use Rattle.yp_base.specs.Results.{◌>>=◌, bind_same}
use Rattle.yp_schema.specs.declared.schema.SchemaNode.{SchemaNode}
use Rattle.yp_schema.specs.declared.fault.SchemaKind.{SchemaKind}
use Rattle.yp_schema.specs.Rounds.{Nodes, Fault, added, checked, at_place, first_round, second_round, part_in, parts_in}
use Rattle.yp_schema.specs.Stated.{node_in}
use Rattle.yp_schema.specs.Reading.{numbered, schema_of}
use Rattle.yp_command.specs.declared.fault.ScriptKind.TheVariants as kinds
use Rattle.yp_script.specs.Faults.{LineFault}
use Rattle.yp_script.specs.Readings.{at_part}
use Rattle.yp_script.specs.Script.{at_line, schema_said}

-- ---- the part that a fault names

-- a fault names this part
abbrev IsOf : {X : Type 0} → ℕ → Result X Fault → Type 0
IsOf part (Ok x) = Unit {0}
IsOf part (Err fault) = fault.part ≡ part

of_place : (part place : ℕ) (r : Result Nodes SchemaKind) (f : Nodes → Result Nodes Fault) → ((nodes : Nodes) → IsOf part (f nodes)) → IsOf part (at_place part place r >>= f)
of_place part place (Ok nodes) f each = each nodes
of_place part place (Err kind) f each = refl

first_of : (part place : ℕ) (ds : Items) (nodes : Nodes) → IsOf part (first_round part place ds nodes)
first_of part place no_items nodes = tt
first_of part place (item d ds) nodes = of_place part place (added (node_in d) nodes) (λ after. first_round part (place + 1) ds after) (λ after. first_of part (place + 1) ds after)

second_of : (part place : ℕ) (ds : Items) (nodes : Nodes) → IsOf part (second_round part place ds nodes)
second_of part place no_items nodes = tt
second_of part place (item d ds) nodes = of_place part place (checked (node_in d) nodes) (λ after. second_round part (place + 1) ds after) (λ after. second_of part (place + 1) ds after)

of_both : (part : ℕ) (r : Result Nodes Fault) (f : Nodes → Result Nodes Fault) → IsOf part r → ((nodes : Nodes) → IsOf part (f nodes)) → IsOf part (r >>= f)
of_both part (Ok nodes) f is each = each nodes
of_both part (Err fault) f is each = is

part_of : (part : ℕ) (ds : Option Items) (nodes : Nodes) → IsOf part (part_in part ds nodes)
part_of part None nodes = refl
part_of part (Some ds) nodes = of_both part (first_round part 0 ds nodes) (λ after. second_round part 0 ds after) (first_of part 0 ds nodes) (λ after. second_of part 0 ds after)

-- a fault names a part before this one
abbrev IsBefore : {X : Type 0} → ℕ → Result X Fault → Type 0
IsBefore part (Ok x) = Unit {0}
IsBefore part (Err fault) = fault.part < part

before_then : (part end : ℕ) (r : Result Nodes Fault) (f : Nodes → Result Nodes Fault) → part < end → IsOf part r → ((nodes : Nodes) → IsBefore end (f nodes)) → IsBefore end (r >>= f)
before_then part end (Ok nodes) f less is each = each nodes
before_then part end (Err fault) f less is each = omega (arith, is)

parts_before : (part : ℕ) (ds : List Data) (nodes : Nodes) → IsBefore (part + length ds) (parts_in part ds nodes)
parts_before part [] nodes = tt
parts_before part (d ∷ ds) nodes =
    before_then part (part + length (d ∷ ds)) (part_in part (as_array d) nodes) (λ after. parts_in (part + 1) ds after) (omega arith) (part_of part (as_array d) nodes)
    (λ after. subst (λ end. IsBefore end (parts_in (part + 1) ds after)) (let e : part + 1 + length ds ≡ part + length (d ∷ ds) = omega arith in e) (parts_before (part + 1) ds after))

-- the part that a fault of a schema names
pub fault_within : (ds : List Data) (fault : Fault) → schema_of ds ≡ Err fault → fault.part < length ds
fault_within ds fault is = named (parts_in 0 ds []) (let many : IsBefore (length ds) (parts_in 0 ds []) = subst (λ n. IsBefore n (parts_in 0 ds [])) (let e : 0 + length ds ≡ length ds = omega arith in e) (parts_before 0 ds []) in many) is
  where
    named : (r : Result Nodes Fault) → IsBefore (length ds) r → (r >>= λ nodes. Ok (numbered nodes)) ≡ Err fault → fault.part < length ds
    named (Ok nodes) less is = cc
    named (Err other) less is = let same : other ≡ fault = cc in subst (λ (f : Fault). f.part < length ds) same less

pub line_there : (numbers : List ℕ) (part line : ℕ) → part < length numbers → line ≡ get_or numbers part line → get_or numbers part 0 ≡ line
line_there numbers part line there is = get_or_from_slice_get numbers part line 0 (slice_get_read numbers (length numbers) part line refl there is)

-- ---- one part more

pub bound_twice : {A B C E : Type 0} (r : Result A E) (f : A → Result B E) (g : B → Result C E) → ((r >>= f) >>= g) ≡ (r >>= λ x. f x >>= g)
bound_twice (Ok x) f g = refl
bound_twice (Err e) f g = refl

-- next steps that agree on what there is
pub bound_where : {A B E : Type 0} (r : Result A E) (f g : A → Result B E) → ((x : A) → r ≡ Ok x → f x ≡ g x) → (r >>= f) ≡ (r >>= g)
bound_where (Ok x) f g same = same x refl
bound_where (Err e) f g same = refl

bound_whole : (r : Result Nodes Fault) → (r >>= λ after. Ok after) ≡ r
bound_whole (Ok x) = refl
bound_whole (Err fault) = refl

-- the part behind others is judged behind them
parts_more : (part : ℕ) (ds : List Data) (d : Data) (nodes : Nodes) → parts_in part (ds ++ d ∷ []) nodes ≡ (parts_in part ds nodes >>= λ after. part_in (part + length ds) (as_array d) after)
parts_more part [] d nodes = bound_whole (part_in part (as_array d) nodes) ∙ ap (λ n. part_in n (as_array d) nodes) (sym (add-zero part))
parts_more part (e ∷ ds) d nodes =
    bind_same (part_in part (as_array e) nodes) (λ after. parts_in (part + 1) (ds ++ d ∷ []) after) (λ after. parts_in (part + 1) ds after >>= λ last. part_in (part + length (e ∷ ds)) (as_array d) last)
    (λ after. parts_more (part + 1) ds d after ∙ ap (λ n. parts_in (part + 1) ds after >>= λ last. part_in n (as_array d) last) (let same : part + 1 + length ds ≡ part + length (e ∷ ds) = omega arith in same))
    ∙ sym (bound_twice (part_in part (as_array e) nodes) (λ after. parts_in (part + 1) ds after) (λ last. part_in (part + length (e ∷ ds)) (as_array d) last))

-- ---- the lines of faults

abbrev schema_fault : ℕ → Result (List SchemaNode) LineFault
schema_fault n = Err (record { line = n; kind = kinds.Schema })

abbrev numbered_in : Result Nodes Fault → Result (List SchemaNode) Fault
numbered_in r = r >>= λ nodes. Ok (numbered nodes)

last_line : (r : Result Nodes Fault) (numbers : List ℕ) (line : ℕ) → IsOf (length numbers) r → at_part (numbers ++ line ∷ []) (numbered_in r) ≡ at_line line (schema_said (numbered_in r))
last_line (Ok nodes) numbers line is = refl
last_line (Err fault) numbers line is =
    ap schema_fault (ap (λ k. get_or (numbers ++ line ∷ []) k 0) is ∙ get_or-append_seam numbers line [] 0)

each_line : (r : Result Nodes Fault) (p : Nodes → Result Nodes Fault) (numbers : List ℕ) (line : ℕ) → IsBefore (length numbers) r → ((after : Nodes) → IsOf (length numbers) (p after))
    → at_part (numbers ++ line ∷ []) (numbered_in (r >>= p)) ≡ (at_part numbers (numbered_in r) >>= λ nodes. at_line line (schema_said (numbered_in (r >>= p))))
each_line (Ok nodes) p numbers line is each = last_line (p nodes) numbers line (each nodes)
each_line (Err fault) p numbers line is each = ap schema_fault (get_or_append_left numbers (line ∷ []) 0 fault.part is)

-- a fault of parts and one more is that of a part before it, or its own
pub part_grows : (numbers : List ℕ) (line : ℕ) (ds : List Data) (d : Data) → length numbers ≡ length ds
    → at_part (numbers ++ line ∷ []) (schema_of (ds ++ d ∷ [])) ≡ (at_part numbers (schema_of ds) >>= λ nodes. at_line line (schema_said (schema_of (ds ++ d ∷ []))))
part_grows numbers line ds d many =
    let more : parts_in 0 (ds ++ d ∷ []) [] ≡ (parts_in 0 ds [] >>= λ after. part_in (0 + length ds) (as_array d) after) = parts_more 0 ds d [] in
    let before : IsBefore (length numbers) (parts_in 0 ds []) = subst (λ n. IsBefore n (parts_in 0 ds [])) (let e : 0 + length ds ≡ length numbers = omega arith in e) (parts_before 0 ds []) in
    let own : (after : Nodes) → IsOf (length numbers) (part_in (0 + length ds) (as_array d) after) = λ after. subst (λ n. IsOf n (part_in (0 + length ds) (as_array d) after)) (let e : 0 + length ds ≡ length numbers = omega arith in e) (part_of (0 + length ds) (as_array d) after) in
    subst (λ (r : Result Nodes Fault). at_part (numbers ++ line ∷ []) (numbered_in r) ≡ (at_part numbers (schema_of ds) >>= λ nodes. at_line line (schema_said (numbered_in r)))) (sym more)
    (each_line (parts_in 0 ds []) (λ after. part_in (0 + length ds) (as_array d) after) numbers line before own)
