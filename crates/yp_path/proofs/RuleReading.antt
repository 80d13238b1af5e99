-- What is read of a text is a rule path of the schema.
use Rattle.std.proofs.Common.{◌≡◌, ℕ, ◌<◌, ◌==◌, List, [], ◌∷◌, length, Bool, true, false, if◌then◌else◌, refl, sym, ap, subst, ◌∙◌, Option, Some, None, option_map, Result, Ok, Err, IfOk}
use Rattle.std.proofs.lemmas.Bool.{lt-ltb, and_from, cond-true, and_parts}
use Rattle.yp_base.specs.declared.atom.Atom.{Atom}
use Rattle.yp_base.specs.Results.{◌>>=◌, or_fault}
use Rattle.yp_base.specs.declared.rule_path.RuleSeg.{RuleSeg}
use Rattle.yp_schema.specs.declared.schema.SchemaNode.{SchemaNode}
use Rattle.yp_schema.specs.declared.schema.Kind.{Kind}
use Rattle.yp_schema.specs.declared.schema.Kind.TheVariants.{Container, Presence, List as Listing, Leaf, LeafList}
use Rattle.yp_base.specs.Paths.{same_number}
use Rattle.yp_schema.specs.Nodes.{node_at}
use Rattle.yp_schema.specs.WellFormed.{is_empty}
use Rattle.yp_schema.specs.RulePaths.{is_rule_key, are_rule_keys, is_rule_value, rule_keys_of_kind, is_rule_segment, rule_goes_down, IsRulePathOf}
use Rattle.yp_path.specs.declared.fault.PathFault.{PathFault}
use Rattle.yp_path.specs.declared.fault.PathFault.TheVariants.{Syntax, UnknownNode, KeyCount, KeyValue}
use Rattle.yp_path.specs.declared.mark.Place.TheVariants.{Outside}
use Rattle.yp_path.specs.declared.predicate.Predicate.{Predicate}
use Rattle.yp_path.specs.Names.{child_named}
use Rattle.yp_path.specs.RulePaths.{pieces, given_for, each_once, key_value, rule_keys, with_predicates, rule_part_in, predicates_of, is_bracket, rule_segment_in, rule_segments_in, rule_path_in}
use Rattle.yp_path.specs.Targets.{some_name, value_of, asked_of_kind, asked, Gives}
use Rattle.std.specs.List.{before_first}
use Rattle.yp_path.specs.NameLaws.{named_at}
use Rattle.yp_path.proofs.Predicates.{some_pieces}
use Rattle.yp_path.specs.TargetLaws.{ReadFits, value_fits}
use Rattle.yp_path.specs.StepLaws.{step_ok, ok_same, there, and_then_some, map_some, some_same, cond_ok}

module _ (read_fits : ReadFits) (nodes : List SchemaNode) where
  key_fits : (k : ℕ) (given : Option (List ℕ)) (key : Option Atom) → key_value nodes k given ≡ Some key → is_rule_key (node_at k nodes).ty key ≡ true
  key_fits k None key e = subst (λ (o : Option Atom). is_rule_key (node_at k nodes).ty o ≡ true) (some_same None key e) refl
  key_fits k (Some text) key e =
      let value = map_some (value_of (node_at k nodes).ty text) (λ (value : Atom). Some value) key e in
      subst (λ (o : Option Atom). is_rule_key (node_at k nodes).ty o ≡ true) value.1.1 (value_fits read_fits nodes (node_at k nodes).ty text value.0 value.1.0)

  keys_fit : (n : ℕ) (all : List ℕ) (predicates : List Predicate) (ks : List ℕ) (keys : List (Option Atom)) → rule_keys nodes n all predicates ks ≡ Some keys → are_rule_keys nodes ks keys ≡ true
  keys_fit n all predicates [] keys e = subst (λ (l : List (Option Atom)). are_rule_keys nodes [] l ≡ true) (some_same [] keys e) refl
  keys_fit n all predicates (k ∷ ks) keys e =
      let first = and_then_some (key_value nodes k (given_for nodes n all k predicates)) (λ value. option_map (λ values. value ∷ values) (rule_keys nodes n all predicates ks)) keys e in
      let rest = map_some (rule_keys nodes n all predicates ks) (λ (values : List (Option Atom)). first.0 ∷ values) keys first.1.1 in
      subst (λ (l : List (Option Atom)). are_rule_keys nodes (k ∷ ks) l ≡ true) rest.1.1
      (and_from _ _ (key_fits k (given_for nodes n all k predicates) first.0 first.1.0) (keys_fit n all predicates ks rest.0 rest.1.0))

  no_key : (keys : List (Option Atom)) → are_rule_keys nodes [] keys ≡ true → is_empty keys ≡ true
  no_key [] e = refl
  no_key (key ∷ keys) e = let wrong : false ≡ true = e in cc

  one_key : (n : ℕ) (keys : List (Option Atom)) → are_rule_keys nodes (n ∷ []) keys ≡ true → is_rule_value (node_at n nodes).ty keys ≡ true
  one_key n [] e = let wrong : false ≡ true = e in cc
  one_key n (key ∷ []) e = (and_parts _ _ e).0
  one_key n (key ∷ next ∷ keys) e = let wrong : false ≡ true = (and_parts _ _ e).1 in cc

  asked_fit : (n : ℕ) (kind : Kind) (keys : List (Option Atom)) → are_rule_keys nodes (asked_of_kind kind n (node_at n nodes)) keys ≡ true → rule_keys_of_kind kind nodes (node_at n nodes) keys ≡ true
  asked_fit n Container keys e = no_key keys e
  asked_fit n Presence keys e = no_key keys e
  asked_fit n Listing keys e = e
  asked_fit n Leaf keys e = no_key keys e
  asked_fit n LeafList keys e = one_key n keys e

  with_fits : (n : ℕ) (predicates : List Predicate) (seg : RuleSeg) → with_predicates nodes n (asked n nodes) predicates ≡ Ok seg → (seg.node ≡ n) × (rule_keys_of_kind (node_at n nodes).kind nodes (node_at n nodes) seg.keys ≡ true)
  with_fits n predicates seg e =
      let ks = asked n nodes in
      let values = rule_keys nodes n ks predicates ks in
      let once = cond_ok (each_once nodes n ks predicates) (or_fault KeyValue values >>= λ keys. Ok (record { node = n; keys = keys })) KeyCount seg e in
      let valued = step_ok (or_fault KeyValue values) (λ keys. Ok (record { node = n; keys = keys })) seg (sym (cond-true _ _ _ once) ∙ e) in
      let made : RuleSeg = record { node = n; keys = valued.0 } in
      let same : made ≡ seg = ok_same (Ok made) made seg refl valued.1.1 in
      let fit = asked_fit n (node_at n nodes).kind valued.0 (keys_fit n ks predicates ks valued.0 (there KeyValue _ _ valued.1.0)) in
      (sym (ap (λ (s : RuleSeg). s.node) same), subst (λ (s : RuleSeg). rule_keys_of_kind (node_at n nodes).kind nodes (node_at n nodes) s.keys ≡ true) same fit)

  -- a segment that is read stands below its parent, with its keys
  segment_goes : (parent : Option ℕ) (text : List ℕ) (seg : RuleSeg) → rule_segment_in nodes parent text ≡ Ok seg → (same_number (node_at seg.node nodes).parent parent ≡ true) × (is_rule_segment nodes seg ≡ true)
  segment_goes parent text seg e =
      let name = step_ok (or_fault Syntax (some_name (before_first is_bracket text))) (λ (name : List ℕ). or_fault Syntax (predicates_of text) >>= λ predicates. rule_part_in nodes parent (record { name = name; predicates = predicates })) seg e in
      let predicates = step_ok (or_fault Syntax (predicates_of text)) (λ predicates. rule_part_in nodes parent (record { name = name.0; predicates = predicates })) seg name.1.1 in
      let found = step_ok (or_fault UnknownNode (child_named parent name.0 nodes)) (λ n. with_predicates nodes n (asked n nodes) predicates.0) seg predicates.1.1 in
      let at = named_at nodes parent name.0 found.0 (there UnknownNode _ _ found.1.0) in
      let fit = with_fits found.0 predicates.0 seg found.1.1 in
      let P : ℕ → Type 0 = λ n. (same_number (node_at n nodes).parent parent ≡ true) × ((n < length nodes) × (rule_keys_of_kind (node_at n nodes).kind nodes (node_at n nodes) seg.keys ≡ true)) in
      let here = subst P (sym fit.0) ((and_parts _ _ at.1).0, (at.0, fit.1)) in
      (here.0, and_from _ _ (lt-ltb _ _ here.1.0) here.1.1)

  segments_go : (parent : Option ℕ) (texts : List (List ℕ)) (segs : List RuleSeg) → rule_segments_in nodes parent texts ≡ Ok segs → rule_goes_down nodes parent segs ≡ true
  segments_go parent [] segs e = subst (λ (l : List RuleSeg). rule_goes_down nodes parent l ≡ true) (ok_same (Ok []) [] segs refl e) refl
  segments_go parent (text ∷ texts) segs e =
      let first = step_ok (rule_segment_in nodes parent text) (λ seg. rule_segments_in nodes (Some seg.node) texts >>= λ rest. Ok (seg ∷ rest)) segs e in
      let others = step_ok (rule_segments_in nodes (Some first.0.node) texts) (λ rest. Ok (first.0 ∷ rest)) segs first.1.1 in
      let here = segment_goes parent text first.0 first.1.0 in
      let below = segments_go (Some first.0.node) texts others.0 others.1.0 in
      subst (λ (l : List RuleSeg). rule_goes_down nodes parent l ≡ true) (ok_same (Ok (first.0 ∷ others.0)) (first.0 ∷ others.0) segs refl others.1.1) (and_from _ _ (and_from _ _ here.0 here.1) below)

  some_go : (text : List ℕ) (texts : List (List ℕ)) (segs : List RuleSeg) → rule_segments_in nodes None (text ∷ texts) ≡ Ok segs → rule_goes_down nodes None segs ≡ true → IsRulePathOf nodes segs
  some_go text texts [] e down =
      let first = step_ok (rule_segment_in nodes None text) (λ seg. rule_segments_in nodes (Some seg.node) texts >>= λ rest. Ok (seg ∷ rest)) [] e in
      let others = step_ok (rule_segments_in nodes (Some first.0.node) texts) (λ rest. Ok (first.0 ∷ rest)) [] first.1.1 in
      let wrong : first.0 ∷ others.0 ≡ [] = ok_same (Ok (first.0 ∷ others.0)) (first.0 ∷ others.0) [] refl others.1.1 in
      cc
  some_go text texts (seg ∷ segs) e down = down

  pub path_of_pieces : (bs : List ℕ) (segs : List RuleSeg) → rule_segments_in nodes None (pieces 47 Outside bs) ≡ Ok segs → IsRulePathOf nodes segs
  path_of_pieces bs segs e =
      let cut = some_pieces 47 Outside bs in
      some_go cut.0 cut.1.0 segs (sym (ap (rule_segments_in nodes None) cut.1.1) ∙ e) (segments_go None (pieces 47 Outside bs) segs e)

  pub path_of_text : (text : List ℕ) (path : List RuleSeg) → rule_path_in nodes text ≡ Ok path → IsRulePathOf nodes path
  path_of_text [] path e = cc
  path_of_text (b ∷ bs) path e = rooted (b == 47) e
    where
      rooted : (slash : Bool) → (if slash then rule_segments_in nodes None (pieces 47 Outside bs) else Err Syntax) ≡ Ok path → IsRulePathOf nodes path
      rooted true e = path_of_pieces bs path e
      rooted false e = cc

  -- the same of an answer
  pub path_answered : (bs : List ℕ) (answer : Result (List RuleSeg) PathFault) → Gives answer (rule_segments_in nodes None (pieces 47 Outside bs)) → IfOk answer (λ path. IsRulePathOf nodes path)
  path_answered bs (Ok path) h = path_of_pieces bs path h
  path_answered bs (Err w) h = tt
