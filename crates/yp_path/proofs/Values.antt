use Rattle.std.proofs.Common.{◌≡◌, ℕ, ◌<◌, ◌+◌, ◌==◌, List, [], ◌∷◌, ◌++◌, length, drop, get_or, append_assoc, refl, sym, ap, ◌∙◌, arith, append-nil, Option, Some, None, option_map, option_and_then, Result, Ok, Err, IfOk}
use Rattle.std.specs.List.{position_or_len, before_first, after_first}
use Rattle.std.proofs.lemmas.List.{drop_more}
use Rattle.yp_base.specs.declared.atom.Atom.{Atom}
use Rattle.yp_base.specs.declared.path.Seg.{Seg}
use Rattle.yp_path.specs.declared.fault.PathFault.{PathFault}
use Rattle.yp_schema.specs.declared.schema.SchemaNode.{SchemaNode}
use Rattle.yp_base.specs.Cuts.{cut}
use Rattle.yp_path.proofs.Cuts.{cut_found, cut_none}
use Rattle.yp_path.specs.Targets.{value_of, values_read}
use Rattle.yp_schema.specs.Nodes.{node_at}

pub no_texts : (nodes : List SchemaNode) (ks : List ℕ) → values_read nodes ks [] ≡ Some []
no_texts nodes [] = refl
no_texts nodes (k ∷ ks) = refl

-- where no text is left, what was read is all
pub stop_here : (nodes : List SchemaNode) (ks : List ℕ) (rest : List (List ℕ)) (done : List Atom) (whole : Option (List Atom)) → length rest ≡ 0 → option_map (λ more. done ++ more) (values_read nodes ks rest) ≡ whole → Some done ≡ whole
stop_here nodes ks [] done whole none is =
    ap (λ l. Some l) (sym (append-nil done)) ∙ ap (option_map (λ more. done ++ more)) (sym (no_texts nodes ks)) ∙ is
stop_here nodes ks (text ∷ texts) done whole none is = absurd (omega (arith, none))

-- a segment at a node below a limit is below it
pub below_same : (result : Result Seg PathFault) (n m : ℕ) → IfOk result (λ seg. seg.node ≡ n) → n < m → IfOk result (λ seg. seg.node < m)
below_same (Ok seg) n m e h = omega (arith, e, h)
below_same (Err e) n m is h = tt

last_at : (value : Option Atom) (done : List Atom) → option_map (λ more. done ++ more) (option_and_then (λ v. option_map (λ vs. v ∷ vs) (Some [])) value) ≡ option_map (λ v. done ++ v ∷ []) value
last_at None done = refl
last_at (Some v) done = refl

last_value : (nodes : List SchemaNode) (k : ℕ) (ks : List ℕ) (text : List ℕ) (done : List Atom) (whole : Option (List Atom)) → option_map (λ more. done ++ more) (values_read nodes (k ∷ ks) (text ∷ [])) ≡ whole
    → option_map (λ v. done ++ v ∷ []) (value_of (node_at k nodes).ty text) ≡ whole
last_value nodes k ks text done whole is =
    let value = value_of (node_at k nodes).ty text in
    sym (last_at value done) ∙ ap (λ r. option_map (λ more. done ++ more) (option_and_then (λ v. option_map (λ (vs : List Atom). v ∷ vs) r) value)) (sym (no_texts nodes ks)) ∙ is

read_more : (read : Option (List Atom)) (value : Atom) (done : List Atom) → option_map (λ more. done ++ more) (option_map (λ more. value ∷ more) read) ≡ option_map (λ more. (done ++ value ∷ []) ++ more) read
read_more None value done = refl
read_more (Some more) value done = ap (λ l. Some l) (sym (append_assoc done (value ∷ []) more))

-- keys without escapes, read one after another
module _ (nodes : List SchemaNode) (asked : List ℕ) (i : ℕ) (rest : List ℕ) (done : List Atom) (whole : Option (List Atom)) (inside : i < length asked)
    (so_far : option_map (λ more. done ++ more) (values_read nodes (drop i asked) (cut 44 rest)) ≡ whole) where
  abbrev value : List ℕ → Option Atom
  value text = value_of (node_at (get_or asked i 0) nodes).ty text

  here : (texts : List (List ℕ)) → cut 44 rest ≡ texts → option_map (λ more. done ++ more) (values_read nodes (get_or asked i 0 ∷ drop (i + 1) asked) texts) ≡ whole
  here texts is =
      ap (λ ts. option_map (λ more. done ++ more) (values_read nodes (get_or asked i 0 ∷ drop (i + 1) asked) ts)) (sym is)
      ∙ ap (λ ks. option_map (λ more. done ++ more) (values_read nodes ks (cut 44 rest))) (sym (drop_more asked i 0 inside))
      ∙ so_far

  -- the value of the last text ends what was read
  pub last_there : position_or_len (λ b. b == 44) rest ≡ length rest → option_map (λ v. done ++ v ∷ []) (value rest) ≡ whole
  last_there none = last_value nodes (get_or asked i 0) (drop (i + 1) asked) rest done whole (here (rest ∷ []) (cut_none 44 rest none))

  module _ (text more : List ℕ) (is : (text ≡ before_first (λ b. b == 44) rest) × (more ≡ after_first (λ b. b == 44) rest) × (position_or_len (λ b. b == 44) rest < length rest)) where
    split : cut 44 rest ≡ text ∷ cut 44 more
    split = cut_found 44 rest is.2 ∙ ap (λ t. t ∷ cut 44 (after_first (λ b. b == 44) rest)) (sym is.0) ∙ ap (λ m. text ∷ cut 44 m) (sym is.1)

    -- a text that is no value
    pub none_there : None ≡ value text → None ≡ whole
    none_there none =
        ap (λ v. option_map (λ more. done ++ more) (option_and_then (λ v. option_map (λ (vs : List Atom). v ∷ vs) (values_read nodes (drop (i + 1) asked) (cut 44 more))) v)) none
        ∙ here (text ∷ cut 44 more) split

    -- one more value
    pub one_there : (v : Atom) → Some v ≡ value text → option_map (λ more. (done ++ v ∷ []) ++ more) (values_read nodes (drop (i + 1) asked) (cut 44 more)) ≡ whole
    one_there v some =
        sym (read_more (values_read nodes (drop (i + 1) asked) (cut 44 more)) v done)
        ∙ ap (λ v. option_map (λ more. done ++ more) (option_and_then (λ v. option_map (λ (vs : List Atom). v ∷ vs) (values_read nodes (drop (i + 1) asked) (cut 44 more))) v)) some
        ∙ here (text ∷ cut 44 more) split
