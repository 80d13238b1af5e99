use Rattle.std.proofs.Common.{◌≡◌, ℕ, suc, ◌<◌, ◌+◌, ◌==◌, List, [], ◌∷◌, ◌++◌, length, take, Bool, true, false, refl, sym, ap, subst, ◌∙◌, arith, append_assoc, Option, Some, None, Result, Ok, Err}
use Rattle.std.specs.List.{position_or_len, before_first, after_first}
use Rattle.yp_base.specs.declared.path.Seg.{Seg}
use Rattle.yp_schema.specs.declared.schema.SchemaNode.{SchemaNode}
use Rattle.yp_path.specs.declared.fault.PathFault.{PathFault}
use Rattle.yp_path.specs.declared.fault.PathFault.TheVariants.{Syntax, UnknownNode, KeyCount, KeyValue, Memory}
use Rattle.yp_base.specs.Cuts.{cut}
use Rattle.yp_base.specs.Results.{◌>>=◌}
use Rattle.yp_path.specs.Targets.{Gives, segment_in, segments_in, target_in}
use Rattle.yp_path.proofs.Cuts.{cut_found, cut_none}
use Rattle.std.proofs.lemmas.Bool.{eqb-true}

-- the segments read so far, put in front of the rest
abbrev pub behind : List Seg → Result (List Seg) PathFault → Result (List Seg) PathFault
behind done rest = rest >>= λ segs. Ok (done ++ segs)

regroup : (r : Result (List Seg) PathFault) (done : List Seg) (seg : Seg) → behind done (r >>= λ segs. Ok (seg ∷ segs)) ≡ behind (done ++ seg ∷ []) r
regroup (Ok segs) done seg = ap (λ l. Ok l) (sym (append_assoc done (seg ∷ []) segs))
regroup (Err e) done seg = refl

-- a fault at one step is the whole's
pub gives_fault : {A B : Type 0} (e : PathFault) (x : Result A PathFault) (f : A → Result B PathFault) → Gives (Err e) x → Gives (Err e) (x >>= f)
gives_fault Syntax x f h = ap (λ r. r >>= f) h
gives_fault UnknownNode x f h = ap (λ r. r >>= f) h
gives_fault KeyCount x f h = ap (λ r. r >>= f) h
gives_fault KeyValue x f h = ap (λ r. r >>= f) h
gives_fault Memory x f h = tt

module _ (nodes : List SchemaNode) (parent : Option ℕ) (rest : List ℕ) (done : List Seg) where
  pub one_segment : (seg : Seg) → segment_in nodes parent (before_first (λ b. b == 47) rest) ≡ Ok seg → position_or_len (λ b. b == 47) rest < length rest
      → behind done (segments_in nodes parent (cut 47 rest)) ≡ behind (done ++ seg ∷ []) (segments_in nodes (Some seg.node) (cut 47 (after_first (λ b. b == 47) rest)))
  one_segment seg e h =
      let parts = cut 47 (after_first (λ b. b == 47) rest) in
      ap (λ l. behind done (segments_in nodes parent l)) (cut_found 47 rest h)
      ∙ ap (λ r. behind done (r >>= λ (s : Seg). segments_in nodes (Some s.node) parts >>= λ segs. Ok (s ∷ segs))) e
      ∙ regroup (segments_in nodes (Some seg.node) parts) done seg

  pub last_segment : (seg : Seg) → segment_in nodes parent rest ≡ Ok seg → position_or_len (λ b. b == 47) rest ≡ length rest
      → behind done (segments_in nodes parent (cut 47 rest)) ≡ Ok (done ++ seg ∷ [])
  last_segment seg e h =
      ap (λ l. behind done (segments_in nodes parent l)) (cut_none 47 rest h)
      ∙ ap (λ r. behind done (r >>= λ (s : Seg). segments_in nodes (Some s.node) [] >>= λ segs. Ok (s ∷ segs))) e

  pub one_fault : (e : PathFault) (whole : Result (List Seg) PathFault) → behind done (segments_in nodes parent (cut 47 rest)) ≡ whole → position_or_len (λ b. b == 47) rest < length rest
      → Gives (Err e) (segment_in nodes parent (before_first (λ b. b == 47) rest)) → Gives (Err e) whole
  one_fault e whole is h fault =
      let part = before_first (λ b. b == 47) rest in
      let parts = cut 47 (after_first (λ b. b == 47) rest) in
      let same : behind done (segments_in nodes parent (part ∷ parts)) ≡ whole = ap (λ l. behind done (segments_in nodes parent l)) (sym (cut_found 47 rest h)) ∙ is in
      subst (λ r. Gives (Err e) r) same (gives_fault e (segments_in nodes parent (part ∷ parts)) (λ segs. Ok (done ++ segs)) (gives_fault e (segment_in nodes parent part) (λ seg. segments_in nodes (Some seg.node) parts >>= λ segs. Ok (seg ∷ segs)) fault))

  pub last_fault : (e : PathFault) (whole : Result (List Seg) PathFault) → behind done (segments_in nodes parent (cut 47 rest)) ≡ whole → position_or_len (λ b. b == 47) rest ≡ length rest
      → Gives (Err e) (segment_in nodes parent rest) → Gives (Err e) whole
  last_fault e whole is h fault =
      let same : behind done (segments_in nodes parent (rest ∷ [])) ≡ whole = ap (λ l. behind done (segments_in nodes parent l)) (sym (cut_none 47 rest h)) ∙ is in
      subst (λ r. Gives (Err e) r) same (gives_fault e (segments_in nodes parent (rest ∷ [])) (λ segs. Ok (done ++ segs)) (gives_fault e (segment_in nodes parent rest) (λ seg. segments_in nodes (Some seg.node) [] >>= λ segs. Ok (seg ∷ segs)) fault))

-- ---- the leading slash

rooted_at : (nodes : List SchemaNode) (t : Bool) (b : ℕ) (bs : List ℕ) → (b == 47) ≡ t → (length (before_first (λ b. b == 47) (b ∷ bs)) == 0) ≡ true
    → target_in nodes (b ∷ bs) ≡ segments_in nodes None (cut 47 (after_first (λ b. b == 47) (b ∷ bs)))
rooted_at nodes true b bs is h = rw is refl
rooted_at nodes false b bs is h =
    let p = position_or_len (λ b. b == 47) bs in
    let one : position_or_len (λ b. b == 47) (b ∷ bs) ≡ 1 + p = rw is refl in
    let next : 1 + p ≡ suc p = omega arith in
    let front : before_first (λ b. b == 47) (b ∷ bs) ≡ b ∷ take p bs = ap (λ n. take n (b ∷ bs)) (one ∙ next) in
    let long = ap (λ (l : List ℕ). length l) front in
    let none = eqb-true _ _ h in
    absurd (omega (arith, long, none))

pub rooted : (nodes : List SchemaNode) (text : List ℕ) → position_or_len (λ b. b == 47) text < length text → (length (before_first (λ b. b == 47) text) == 0) ≡ true
    → target_in nodes text ≡ segments_in nodes None (cut 47 (after_first (λ b. b == 47) text))
rooted nodes [] h e = absurd (omega (arith, h))
rooted nodes (b ∷ bs) h e = rooted_at nodes (b == 47) b bs refl e

unrooted_at : (nodes : List SchemaNode) (t : Bool) (b : ℕ) (bs : List ℕ) → (b == 47) ≡ t → (length (before_first (λ b. b == 47) (b ∷ bs)) == 0) ≡ false → target_in nodes (b ∷ bs) ≡ Err Syntax
unrooted_at nodes true b bs is h =
    let zero_at : position_or_len (λ b. b == 47) (b ∷ bs) ≡ 0 = rw is refl in
    let front : before_first (λ b. b == 47) (b ∷ bs) ≡ [] = ap (λ n. take n (b ∷ bs)) zero_at in
    let wrong : true ≡ false = sym (ap (λ (l : List ℕ). length l == 0) front) ∙ h in
    cc
unrooted_at nodes false b bs is h = rw is refl

pub unrooted : (nodes : List SchemaNode) (text : List ℕ) → (length (before_first (λ b. b == 47) text) == 0) ≡ false → target_in nodes text ≡ Err Syntax
unrooted nodes [] e = refl
unrooted nodes (b ∷ bs) e = unrooted_at nodes (b == 47) b bs refl e

rootless_at : (nodes : List SchemaNode) (t : Bool) (b : ℕ) (bs : List ℕ) → (b == 47) ≡ t → position_or_len (λ b. b == 47) (b ∷ bs) ≡ length (b ∷ bs) → target_in nodes (b ∷ bs) ≡ Err Syntax
rootless_at nodes true b bs is h = let zero_at : position_or_len (λ b. b == 47) (b ∷ bs) ≡ 0 = rw is refl in absurd (omega (arith, zero_at, h))
rootless_at nodes false b bs is h = rw is refl

pub rootless : (nodes : List SchemaNode) (text : List ℕ) → position_or_len (λ b. b == 47) text ≡ length text → target_in nodes text ≡ Err Syntax
rootless nodes [] e = refl
rootless nodes (b ∷ bs) e = rootless_at nodes (b == 47) b bs refl e
