use Rattle.std.proofs.Common.{◌≡◌, ℕ, ◌<◌, arith, IfOk, ◌==◌, List, [], ◌∷◌, ◌++◌, Bool, true, false, refl, sym, ap, subst, ◌∙◌, append_assoc, Option, Some, Result, Ok, Err}
use Rattle.yp_base.specs.declared.rule_path.RuleSeg.{RuleSeg}
use Rattle.yp_schema.specs.declared.schema.SchemaNode.{SchemaNode}
use Rattle.yp_path.specs.declared.fault.PathFault.{PathFault}
use Rattle.yp_path.specs.declared.fault.PathFault.TheVariants.{Syntax}
use Rattle.yp_path.specs.declared.mark.Place.TheVariants.{Outside}
use Rattle.yp_base.specs.Cuts.{begins}
use Rattle.yp_base.specs.Results.{◌>>=◌}
use Rattle.yp_path.specs.Targets.{Gives}
use Rattle.yp_path.specs.RulePaths.{pieces, rule_segment_in, rule_segments_in, rule_path_in}
use Rattle.yp_path.proofs.Segments.{gives_fault}

-- the segments read so far, put in front of the rest
abbrev pub behind : List RuleSeg → Result (List RuleSeg) PathFault → Result (List RuleSeg) PathFault
behind done rest = rest >>= λ segs. Ok (done ++ segs)

regroup : (r : Result (List RuleSeg) PathFault) (done : List RuleSeg) (seg : RuleSeg) → behind done (r >>= λ segs. Ok (seg ∷ segs)) ≡ behind (done ++ seg ∷ []) r
regroup (Ok segs) done seg = ap (λ l. Ok l) (sym (append_assoc done (seg ∷ []) segs))
regroup (Err e) done seg = refl

module _ (nodes : List SchemaNode) (parent : Option ℕ) (rest : List ℕ) (done : List RuleSeg) where
  pub one_segment : (seg : RuleSeg) (part more : List ℕ) → rule_segment_in nodes parent part ≡ Ok seg → pieces 47 Outside rest ≡ part ∷ pieces 47 Outside more
      → behind done (rule_segments_in nodes parent (pieces 47 Outside rest)) ≡ behind (done ++ seg ∷ []) (rule_segments_in nodes (Some seg.node) (pieces 47 Outside more))
  one_segment seg part more e h =
      let parts = pieces 47 Outside more in
      ap (λ l. behind done (rule_segments_in nodes parent l)) h
      ∙ ap (λ r. behind done (r >>= λ (s : RuleSeg). rule_segments_in nodes (Some s.node) parts >>= λ segs. Ok (s ∷ segs))) e
      ∙ regroup (rule_segments_in nodes (Some seg.node) parts) done seg

  pub last_segment : (seg : RuleSeg) → rule_segment_in nodes parent rest ≡ Ok seg → pieces 47 Outside rest ≡ rest ∷ []
      → behind done (rule_segments_in nodes parent (pieces 47 Outside rest)) ≡ Ok (done ++ seg ∷ [])
  last_segment seg e h =
      ap (λ l. behind done (rule_segments_in nodes parent l)) h
      ∙ ap (λ r. behind done (r >>= λ (s : RuleSeg). rule_segments_in nodes (Some s.node) [] >>= λ segs. Ok (s ∷ segs))) e

  pub one_fault : (e : PathFault) (whole : Result (List RuleSeg) PathFault) (part more : List ℕ) → behind done (rule_segments_in nodes parent (pieces 47 Outside rest)) ≡ whole
      → pieces 47 Outside rest ≡ part ∷ pieces 47 Outside more → Gives (Err e) (rule_segment_in nodes parent part) → Gives (Err e) whole
  one_fault e whole part more is h fault =
      let parts = pieces 47 Outside more in
      let same : behind done (rule_segments_in nodes parent (part ∷ parts)) ≡ whole = ap (λ l. behind done (rule_segments_in nodes parent l)) (sym h) ∙ is in
      subst (λ r. Gives (Err e) r) same (gives_fault e (rule_segments_in nodes parent (part ∷ parts)) (λ segs. Ok (done ++ segs)) (gives_fault e (rule_segment_in nodes parent part) (λ seg. rule_segments_in nodes (Some seg.node) parts >>= λ segs. Ok (seg ∷ segs)) fault))

  pub last_fault : (e : PathFault) (whole : Result (List RuleSeg) PathFault) → behind done (rule_segments_in nodes parent (pieces 47 Outside rest)) ≡ whole
      → pieces 47 Outside rest ≡ rest ∷ [] → Gives (Err e) (rule_segment_in nodes parent rest) → Gives (Err e) whole
  last_fault e whole is h fault =
      let same : behind done (rule_segments_in nodes parent (rest ∷ [])) ≡ whole = ap (λ l. behind done (rule_segments_in nodes parent l)) (sym h) ∙ is in
      subst (λ r. Gives (Err e) r) same (gives_fault e (rule_segments_in nodes parent (rest ∷ [])) (λ segs. Ok (done ++ segs)) (gives_fault e (rule_segment_in nodes parent rest) (λ seg. rule_segments_in nodes (Some seg.node) [] >>= λ segs. Ok (seg ∷ segs)) fault))

unrooted_at : (nodes : List SchemaNode) (t : Bool) (b : ℕ) (bs : List ℕ) → (b == 47) ≡ t → t ≡ false → rule_path_in nodes (b ∷ bs) ≡ Err Syntax
unrooted_at nodes true b bs is e = let wrong : true ≡ false = e in cc
unrooted_at nodes false b bs is e = rw is refl

pub unrooted : (nodes : List SchemaNode) (text : List ℕ) → begins 47 text ≡ false → rule_path_in nodes text ≡ Err Syntax
unrooted nodes [] e = refl
unrooted nodes (b ∷ bs) e = unrooted_at nodes (b == 47) b bs refl e

-- a segment at a node below a limit is below it
pub below_same : (result : Result RuleSeg PathFault) (n m : ℕ) → IfOk result (λ seg. seg.node ≡ n) → n < m → IfOk result (λ seg. seg.node < m)
below_same (Ok seg) n m e h = omega (arith, e, h)
below_same (Err e) n m is h = tt
