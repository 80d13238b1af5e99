-- Lists side by side, of which each goes on by one, or is taken from its front.
use Rattle.std.proofs.Common.{◌≡◌, suc, ◌+◌, get_or, arith, length-append, List, [], ◌∷◌, ◌++◌, length, map, append-nil, append_assoc, refl, sym, ap, subst, ◌∙◌}
use Rattle.std.specs.List.{All}
use Rattle.std.proofs.Math.ListN.{get_or-append}
use Rattle.std.proofs.lemmas.List.{length-map, map-append}
use Rattle.yp_handover.specs.Handover.{Pairs, Triples}

-- ---- one list

-- what is done and what is left are all, once one more is done
pub all_more : {X : Type 0} (done : List X) (x : X) (rest before all : List X) → before ≡ x ∷ rest → done ++ before ≡ all → (done ++ x ∷ []) ++ rest ≡ all
all_more {X} done x rest before all cut is = append_assoc done (x ∷ []) rest ∙ (ap (λ (more : List X). done ++ more) (sym cut) ∙ is)

-- what all have, those before the last have
pub all_popped : {X : Type 0} (P : X → Type 0) (old new : List X) (x : X) → old ≡ new ++ x ∷ [] → All P old → All P new
all_popped {X} P old new x is all =
    λ k d less. subst P (ap (λ (those : List X). get_or those k d) is ∙ get_or-append new (x ∷ []) d k less) (all k d (omega (arith, less, ap length is, length-append new (x ∷ []))))

module _ {X Y : Type 0} where
  pub mapped_all : (f : X → Y) (done : List Y) (x : X) (rest before all : List X) → before ≡ x ∷ rest → done ++ map f before ≡ map f all → (done ++ f x ∷ []) ++ map f rest ≡ map f all
  mapped_all f done x rest before all cut is = append_assoc done (f x ∷ []) (map f rest) ∙ (ap (λ (more : List X). done ++ map f more) (sym cut) ∙ is)

  -- once nothing is left, what is done is all
  pub mapped_done : (f : X → Y) (done : List Y) (before all : List X) → before ≡ [] → done ++ map f before ≡ map f all → done ≡ map f all
  mapped_done f done before all none is = sym (append-nil done) ∙ (ap (λ (more : List X). done ++ map f more) (sym none) ∙ is)

-- ---- two

module _ {X Y : Type 0} (R : X → Y → Type 0) where
  pub pairs_same : (xs others : List X) (ys more : List Y) → others ≡ xs → more ≡ ys → Pairs R xs ys → Pairs R others more
  pairs_same xs others ys more same too all = subst (λ (those : List X). Pairs R those more) (sym same) (subst (λ (those : List Y). Pairs R xs those) (sym too) all)

  -- the first of both, and the rest
  pub pairs_cut : (xs rest : List X) (ys more : List Y) (x : X) (y : Y) → xs ≡ x ∷ rest → ys ≡ y ∷ more → Pairs R xs ys → R x y × Pairs R rest more
  pairs_cut xs rest ys more x y cut too all = pairs_same xs (x ∷ rest) ys (y ∷ more) (sym cut) (sym too) all

-- ---- three

module _ {X Y Z : Type 0} (R : X → Y → Z → Type 0) where
  triples_more : (xs : List X) (ys : List Y) (zs : List Z) (x : X) (y : Y) (z : Z) → Triples R xs ys zs → R x y z → Triples R (xs ++ x ∷ []) (ys ++ y ∷ []) (zs ++ z ∷ [])
  triples_more [] [] [] x y z all one = (one, tt)
  triples_more [] [] (c ∷ zs) x y z all one = absurd all
  triples_more [] (b ∷ ys) zs x y z all one = absurd all
  triples_more (a ∷ xs) [] zs x y z all one = absurd all
  triples_more (a ∷ xs) (b ∷ ys) [] x y z all one = absurd all
  triples_more (a ∷ xs) (b ∷ ys) (c ∷ zs) x y z all one = (all.0, triples_more xs ys zs x y z all.1 one)

  pub triples_pushed : (xs : List X) (ys : List Y) (zs : List Z) (x : X) (y : Y) (z : Z) (new : List Y) (more : List Z) → new ≡ ys ++ y ∷ [] → more ≡ zs ++ z ∷ [] → Triples R xs ys zs → R x y z → Triples R (xs ++ x ∷ []) new more
  triples_pushed xs ys zs x y z new more is too all one =
      subst (λ (those : List Y). Triples R (xs ++ x ∷ []) those more) (sym is)
      (subst (λ (those : List Z). Triples R (xs ++ x ∷ []) (ys ++ y ∷ []) those) (sym too) (triples_more xs ys zs x y z all one))

  pub triples_snoc : (xs : List X) (ys : List Y) (zs : List Z) (x : X) (y : Y) (z : Z) (more : List Z) → more ≡ zs ++ z ∷ [] → Triples R xs ys zs → R x y z → Triples R (xs ++ x ∷ []) (ys ++ y ∷ []) more
  triples_snoc xs ys zs x y z more too all one = triples_pushed xs ys zs x y z (ys ++ y ∷ []) more refl too all one

  triples_count : (xs : List X) (ys : List Y) (zs : List Z) → Triples R xs ys zs → length ys ≡ length xs
  triples_count [] [] [] all = refl
  triples_count [] [] (c ∷ zs) all = absurd all
  triples_count [] (b ∷ ys) zs all = absurd all
  triples_count (a ∷ xs) [] zs all = absurd all
  triples_count (a ∷ xs) (b ∷ ys) [] all = absurd all
  triples_count (a ∷ xs) (b ∷ ys) (c ∷ zs) all = ap suc (triples_count xs ys zs all.1)

  -- where the second are made of others
  pub mapped_count : {W : Type 0} (f : W → Y) (xs : List X) (ws : List W) (zs : List Z) → Triples R xs (map f ws) zs → length ws ≡ length xs
  mapped_count f xs ws zs all = sym (length-map ws f) ∙ triples_count xs (map f ws) zs all

  pub mapped_pushed : {W : Type 0} (f : W → Y) (xs : List X) (ws : List W) (zs : List Z) (x : X) (w : W) (z : Z) (new : List W) (more : List Z) → new ≡ ws ++ w ∷ [] → more ≡ zs ++ z ∷ [] → Triples R xs (map f ws) zs → R x (f w) z
      → Triples R (xs ++ x ∷ []) (map f new) more
  mapped_pushed {W} f xs ws zs x w z new more is too all one =
      triples_pushed xs (map f ws) zs x (f w) z (map f new) more (ap (λ (those : List W). map f those) is ∙ map-append f ws (w ∷ [])) too all one
