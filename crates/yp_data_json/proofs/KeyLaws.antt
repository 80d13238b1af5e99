-- Keys that are read one after another, and the first fault among them.
use Rattle.std.proofs.Common.{◌≡◌, ℕ, ◌+◌, ◌<◌, length, get_or, drop, drop-cons, add-one, List, [], ◌∷◌, ◌++◌, true, false, refl, sym, ap, ◌∙◌, cond, append_assoc}
use Rattle.std.specs.Prelude.{Option, Some, None, Result, Ok, Err}
use Rattle.std.specs.Cmp.{IsTotalOrder}
use Rattle.std.specs.Ordering.{is_lt, ordering_reverse}
use Rattle.std.specs.declared.cmp.Ordering.{Ordering}
use Rattle.std.specs.declared.cmp.Ordering.TheVariants.{Less, Equal, Greater}
use Rattle.std.proofs.lemmas.Cmp.{alike_right, nat_list_cmp_total}
use Rattle.yp_base.specs.declared.atom.Atom.{Atom}
use Rattle.yp_schema.specs.declared.schema.SchemaNode.{SchemaNode}
use Rattle.yp_schema.specs.Nodes.{node_at}
use Rattle.serde_json.specs.Data.{Members}
use Rattle.serde_json.specs.Find.{get_member}
use Rattle.yp_data_json.specs.Reading.{KeyFault, earlier_fault, earliest, with_key, at_key, key_in, keys_found}

module _ {K : Type 0} {R : K → K → Ordering} (total : IsTotalOrder R) where
  lt_is : (o : Ordering) → is_lt o ≡ true → o ≡ Less
  lt_is Less e = refl
  lt_is Equal e = cc
  lt_is Greater e = cc

  -- what isn't before a second, which isn't before a third, isn't before the third
  not_before : (a b c : K) → is_lt (R c b) ≡ false → is_lt (R b a) ≡ false → is_lt (R c a) ≡ false
  not_before a b c h k =
      elim (R c a) as (λ r. R c a ≡ r → is_lt r ≡ false) [
        | Less ↦ λ e. elim (R a b) as (λ r. R a b ≡ r → true ≡ false) [
          | Less ↦ λ f. sym (ap is_lt (total.trans c a b e f)) ∙ h
          | Equal ↦ λ f. sym (ap is_lt e) ∙ ap is_lt (alike_right total a b c f) ∙ h
          | Greater ↦ λ f. sym (ap is_lt (total.antisymm b a ∙ ap ordering_reverse f)) ∙ k
        ] refl
        | Equal ↦ λ e. refl
        | Greater ↦ λ e. refl
      ] refl

  before : (a b c : K) → is_lt (R c b) ≡ true → is_lt (R b a) ≡ true → is_lt (R c a) ≡ true
  before a b c h k = ap is_lt (total.trans c b a (lt_is _ h) (lt_is _ k))

  -- the first of three, by twos
  pub least_assoc : {F : Type 0} (key : F → K) (a b c : F) →
      cond (is_lt (R (key (cond (is_lt (R (key c) (key b))) c b)) (key a))) (cond (is_lt (R (key c) (key b))) c b) a
      ≡ cond (is_lt (R (key c) (key (cond (is_lt (R (key b) (key a))) b a)))) c (cond (is_lt (R (key b) (key a))) b a)
  least_assoc key a b c =
      elim (is_lt (R (key c) (key b))) as (λ t. is_lt (R (key c) (key b)) ≡ t →
      cond (is_lt (R (key (cond t c b)) (key a))) (cond t c b) a
      ≡ cond (is_lt (R (key c) (key (cond (is_lt (R (key b) (key a))) b a)))) c (cond (is_lt (R (key b) (key a))) b a)) [
        | true ↦ λ h. elim (is_lt (R (key b) (key a))) as (λ t. is_lt (R (key b) (key a)) ≡ t →
            cond (is_lt (R (key c) (key a))) c a ≡ cond (is_lt (R (key c) (key (cond t b a)))) c (cond t b a)) [
              | true ↦ λ k. ap (λ t. cond t c a) (before (key a) (key b) (key c) h k) ∙ sym (ap (λ t. cond t c b) h)
              | false ↦ λ k. refl
            ] refl
        | false ↦ λ h. elim (is_lt (R (key b) (key a))) as (λ t. is_lt (R (key b) (key a)) ≡ t →
            cond t b a ≡ cond (is_lt (R (key c) (key (cond t b a)))) c (cond t b a)) [
              | true ↦ λ k. sym (ap (λ t. cond t c b) h)
              | false ↦ λ k. sym (ap (λ t. cond t c a) (not_before (key a) (key b) (key c) h k))
            ] refl
      ] refl

earlier_assoc : (nodes : List SchemaNode) (a b c : KeyFault) → earlier_fault nodes a (earlier_fault nodes b c) ≡ earlier_fault nodes (earlier_fault nodes a b) c
earlier_assoc nodes a b c = least_assoc nat_list_cmp_total {F = KeyFault} (λ f. (node_at f.0 nodes).member) a b c

abbrev good : List Atom → Result (List Atom) KeyFault
good atoms = Ok atoms

abbrev bad : KeyFault → Result (List Atom) KeyFault
bad fault = Err fault

-- the keys so far, or the first fault so far, and what is found of the rest
abbrev pub after : List SchemaNode → Option KeyFault → List Atom → Result (List Atom) KeyFault → Result (List Atom) KeyFault
after nodes None atoms (Ok rest) = Ok (atoms ++ rest)
after nodes None atoms (Err fault) = Err fault
after nodes (Some first) atoms (Ok rest) = Err first
after nodes (Some first) atoms (Err fault) = Err (earlier_fault nodes first fault)

pub after_key : (nodes : List SchemaNode) (first : Option KeyFault) (atoms : List Atom) (atom : Atom) (rest : Result (List Atom) KeyFault) →
    after nodes first atoms (with_key nodes (Ok atom) rest) ≡ after nodes first (atoms ++ atom ∷ []) rest
after_key nodes None atoms atom (Ok rest) = sym (ap good (append_assoc atoms (atom ∷ []) rest))
after_key nodes None atoms atom (Err fault) = refl
after_key nodes (Some first) atoms atom (Ok rest) = refl
after_key nodes (Some first) atoms atom (Err fault) = refl

pub after_fault : (nodes : List SchemaNode) (first : Option KeyFault) (atoms : List Atom) (fault : KeyFault) (rest : Result (List Atom) KeyFault) →
    after nodes first atoms (with_key nodes (Err fault) rest) ≡ after nodes (Some (earliest nodes first fault)) atoms rest
after_fault nodes None atoms fault (Ok rest) = refl
after_fault nodes None atoms fault (Err other) = refl
after_fault nodes (Some first) atoms fault (Ok rest) = refl
after_fault nodes (Some first) atoms fault (Err other) = ap bad (earlier_assoc nodes first fault other)

-- what is found at one key
abbrev pub found_at : List SchemaNode → ℕ → Members → Result Atom KeyFault
found_at nodes k ms = at_key k (key_in (node_at k nodes).ty (get_member (node_at k nodes).member ms))

next_keys : (nodes : List SchemaNode) (ns : List ℕ) (i : ℕ) (ms : Members) → i < length ns →
    keys_found nodes (drop i ns) ms ≡ with_key nodes (found_at nodes (get_or ns i 0) ms) (keys_found nodes (drop (i + 1) ns) ms)
next_keys nodes ns i ms h = rw (add-one, drop-cons ns i 0) refl

pub step_key : (nodes : List SchemaNode) (first : Option KeyFault) (atoms : List Atom) (ns : List ℕ) (i : ℕ) (ms : Members) (atom : Atom) (all : Result (List Atom) KeyFault) → i < length ns →
    Ok atom ≡ found_at nodes (get_or ns i 0) ms → after nodes first atoms (keys_found nodes (drop i ns) ms) ≡ all → after nodes first (atoms ++ atom ∷ []) (keys_found nodes (drop (i + 1) ns) ms) ≡ all
step_key nodes first atoms ns i ms atom all h found inv =
    sym (after_key nodes first atoms atom (keys_found nodes (drop (i + 1) ns) ms))
    ∙ ap (λ r. after nodes first atoms (with_key nodes r (keys_found nodes (drop (i + 1) ns) ms))) found
    ∙ sym (ap (after nodes first atoms) (next_keys nodes ns i ms h))
    ∙ inv

pub step_fault : (nodes : List SchemaNode) (first : Option KeyFault) (atoms : List Atom) (ns : List ℕ) (i : ℕ) (ms : Members) (fault : KeyFault) (all : Result (List Atom) KeyFault) → i < length ns →
    Err fault ≡ found_at nodes (get_or ns i 0) ms → after nodes first atoms (keys_found nodes (drop i ns) ms) ≡ all → after nodes (Some (earliest nodes first fault)) atoms (keys_found nodes (drop (i + 1) ns) ms) ≡ all
step_fault nodes first atoms ns i ms fault all h found inv =
    sym (after_fault nodes first atoms fault (keys_found nodes (drop (i + 1) ns) ms))
    ∙ ap (λ r. after nodes first atoms (with_key nodes r (keys_found nodes (drop (i + 1) ns) ms))) found
    ∙ sym (ap (after nodes first atoms) (next_keys nodes ns i ms h))
    ∙ inv
