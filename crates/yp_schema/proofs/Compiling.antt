-- What is read is what compiles.
use Rattle.std.proofs.Common.{◌≡◌, ◌↔◌, ◌+◌, ◌<◌, ◌≤◌, List, [], ◌∷◌, ◌++◌, map, length, true, refl, sym, ap, ◌∙◌, subst, Result, Ok, Err, arith, append_assoc, append-nil, length-append}
use Rattle.std.proofs.lemmas.List.Sorted.{IsPermutation-sym, Contains-permutation}
use Rattle.serde_json.specs.Data.{Data}
use Rattle.yp_schema.specs.declared.schema.SchemaNode.{SchemaNode}
use Rattle.yp_schema.specs.declared.stated.Stated.{Stated}
use Rattle.yp_base.specs.Results.{◌>>=◌}
use Rattle.yp_schema.specs.Rounds.{Nodes, is_typed, parts_in}
use Rattle.yp_schema.specs.Reading.{numbered, schema_of}
use Rattle.yp_schema.specs.Compiled.{nodes_in, EachAfter, HasNewPath, HasParent, HasModule, HasKeys, placed_node, Compiles}
use Rattle.yp_schema.proofs.After.{AllAfter, each_after, all_after, after_weaker, after_append, each_alone, all_at}
use Rattle.yp_schema.proofs.Entries.{sorted_of, rising_of, same_entries}
use Rattle.yp_schema.proofs.Admitting.{Holds, no_nodes_hold, Admits, AdmitsPart, AllParts, nodes_append, nodes_more, parts_admit, admit_parts}

-- ---- from the steps to the rules

each_node : (before parts : List (List Stated)) → AllAfter AdmitsPart before parts → AllAfter Admits (nodes_in before) (nodes_in parts)
each_node before [] all = tt
each_node before (part ∷ parts) all =
    after_append Admits (nodes_in before) part (nodes_in parts) all.0.nodes
    (subst (λ ns. AllAfter Admits ns (nodes_in parts)) (sym (nodes_more before part)) (each_node (before ++ part ∷ []) parts all.1))

few_nodes : (before nodes : List Stated) → length before ≤ 4096 → AllAfter Admits before nodes → length (before ++ nodes) ≤ 4096
few_nodes before [] few all = omega (arith, few, ap length (append-nil before))
few_nodes before (node ∷ nodes) few all =
    let room : length before < 4096 = all.0.room in
    let more : length (before ++ node ∷ []) ≡ length before + length (node ∷ []) = length-append before (node ∷ []) in
    let rest : length ((before ++ node ∷ []) ++ nodes) ≤ 4096 = few_nodes (before ++ node ∷ []) nodes (omega arith) all.1 in
    subst (λ ns. length ns ≤ 4096) (append_assoc before (node ∷ []) nodes) rest

compiles : (ds : List Data) (listed : Nodes) → parts_in 0 ds [] ≡ Ok listed → Compiles ds (numbered listed)
compiles ds listed is =
    let all : AllParts ds [] listed = parts_admit 0 ds [] [] listed no_nodes_hold is in
    let nodes : AllAfter Admits [] (nodes_in all.stated) = each_node [] all.stated all.admits in
    record {
      stated = all.stated;
      states = all.states;
      few = few_nodes [] (nodes_in all.stated) (omega arith) nodes;
      paths = each_after HasNewPath (nodes_in all.stated) (after_weaker Admits HasNewPath (λ before node a. a.path) [] (nodes_in all.stated) nodes);
      parents = each_after HasParent (nodes_in all.stated) (after_weaker Admits HasParent (λ before node a. a.parent) [] (nodes_in all.stated) nodes);
      modules = each_alone Admits HasModule (λ before node a. a.own) [] (nodes_in all.stated) nodes;
      types = each_alone Admits (λ node. is_typed node.body.kind node.body.ty ≡ true) (λ before node a. a.typed) [] (nodes_in all.stated) nodes;
      depth = each_alone Admits (λ node. length node.path ≤ 16) (λ before node a. a.depth) [] (nodes_in all.stated) nodes;
      keys = each_after HasKeys all.stated (after_weaker AdmitsPart HasKeys (λ before part a. a.keys) [] all.stated all.admits);
      listed = listed;
      each_once = all.holds.all;
      in_order = sorted_of listed all.holds.rising;
      compiled = refl;
    }

-- ---- from the rules to the steps

each_admitted : (ds : List Data) (nodes : List SchemaNode) → (c : Compiles ds nodes) → EachAfter Admits (nodes_in c.stated)
each_admitted ds nodes c before node after is =
    let few : length (nodes_in c.stated) ≤ 4096 = c.few in
    let whole : length (nodes_in c.stated) ≡ length before + length (node ∷ after) = ap length is ∙ length-append before (node ∷ after) in
    record {
      path = c.paths before node after is;
      parent = c.parents before node after is;
      own = all_at HasModule (nodes_in c.stated) c.modules before node after is;
      typed = all_at (λ node. is_typed node.body.kind node.body.ty ≡ true) (nodes_in c.stated) c.types before node after is;
      depth = all_at (λ node. length node.path ≤ 16) (nodes_in c.stated) c.depth before node after is;
      room = omega arith;
    }

each_part : (ds : List Data) (nodes : List SchemaNode) → (c : Compiles ds nodes) → EachAfter AdmitsPart c.stated
each_part ds nodes c before part after is = record {
  nodes = all_after Admits (nodes_in c.stated) (each_admitted ds nodes c) (nodes_in before) part (nodes_in after) (ap nodes_in is ∙ sym (nodes_append before (part ∷ after)));
  keys = c.keys before part after is;
}

accepted : (ds : List Data) (nodes : List SchemaNode) → Compiles ds nodes → schema_of ds ≡ Ok nodes
accepted ds nodes c =
    let admits : AllAfter AdmitsPart [] c.stated = all_after AdmitsPart c.stated (each_part ds nodes c) [] c.stated [] (sym (append-nil c.stated)) in
    let read = admit_parts 0 ds c.stated [] [] no_nodes_hold c.states admits in
    let listed : Nodes = read.0 in
    let held : Holds (nodes_in c.stated) listed = read.2 in
    let stated = map placed_node (nodes_in c.stated) in
    let same : listed ≡ c.listed
    = same_entries listed c.listed held.rising (rising_of c.listed c.in_order)
    (λ e there. Contains-permutation stated c.listed e c.each_once (Contains-permutation listed stated e (IsPermutation-sym stated listed held.all) there))
    (λ e there. Contains-permutation stated listed e held.all (Contains-permutation c.listed stated e (IsPermutation-sym stated c.listed c.each_once) there)) in
    ap (λ r. r >>= λ after. Ok (numbered after)) read.1 ∙ ap (λ after. Ok (numbered after)) same ∙ ap Ok (sym c.compiled)

pub accepted_compiles : (parts : List Data) (nodes : List SchemaNode) → schema_of parts ≡ Ok nodes ↔ Compiles parts nodes
accepted_compiles parts nodes = (read (parts_in 0 parts []) refl, accepted parts nodes)
  where
    read : (r : Result Nodes _) → parts_in 0 parts [] ≡ r → (r >>= λ listed. Ok (numbered listed)) ≡ Ok nodes → Compiles parts nodes
    read (Err e) is k = cc
    read (Ok listed) is k = let one : numbered listed ≡ nodes = cc in subst (λ ns. Compiles parts ns) one (compiles parts listed is)
