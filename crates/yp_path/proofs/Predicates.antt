use Rattle.std.proofs.Common.{◌≡◌, ℕ, ◌==◌, List, [], ◌∷◌, ◌++◌, length, Bool, true, false, ◌&&◌, cond, refl, sym, ap, ◌∙◌, arith, append_assoc, Option, Some, None, option_map, option_and_then}
use Rattle.std.proofs.lemmas.Bool.{eqb-true}
use Rattle.yp_base.specs.Cuts.{begins, onto_first}
use Rattle.yp_path.specs.declared.mark.Place.{Place}
use Rattle.yp_path.specs.declared.mark.Place.TheVariants.{Outside, Within}
use Rattle.yp_path.specs.declared.predicate.Predicate.{Predicate}
use Rattle.yp_path.specs.RulePaths.{is_unquoted, next_place, pieces, bodies, all_bodies, without_spaces, predicate_in, predicates_in, predicates_behind}

no_spaces_at : (t : Bool) (b : ℕ) (bs : List ℕ) → (b == 32) ≡ t → t ≡ false → without_spaces (b ∷ bs) ≡ b ∷ bs
no_spaces_at true b bs is e = let wrong : true ≡ false = e in cc
no_spaces_at false b bs is e = rw is refl

pub no_spaces : (bs : List ℕ) → begins 32 bs ≡ false → without_spaces bs ≡ bs
no_spaces [] e = refl
no_spaces (b ∷ bs) e = no_spaces_at (b == 32) b bs refl e

-- ---- what is cut at closing brackets

-- predicates behind a body
abbrev pub after_body : List ℕ → Option (List (List ℕ)) → Option (List Predicate)
after_body body others = option_and_then predicates_in (option_map (λ l. body ∷ l) others)

after_broken : (body : List ℕ) (others : Option (List (List ℕ))) → predicate_in body ≡ None → after_body body others ≡ None
after_broken body None e = refl
after_broken body (Some l) e = ap (option_and_then (λ predicate. option_map (λ more. predicate ∷ more) (predicates_in l))) e

pub after_read : (body : List ℕ) (others : Option (List (List ℕ))) (p : Predicate) → predicate_in body ≡ Some p → after_body body others ≡ option_map (λ more. p ∷ more) (option_and_then predicates_in others)
after_read body None p e = refl
after_read body (Some l) p e = ap (option_and_then (λ predicate. option_map (λ more. predicate ∷ more) (predicates_in l))) e

-- pieces are never none
abbrev pub Cut : List (List ℕ) → Type 0
Cut l = (piece : List ℕ) × ((more : List (List ℕ)) × (l ≡ piece ∷ more))

cut_onto : (b : ℕ) (l : List (List ℕ)) → Cut (onto_first b l)
cut_onto b [] = (b ∷ [], ([], refl))
cut_onto b (piece ∷ more) = (b ∷ piece, (more, refl))

pub some_pieces : (mark : ℕ) (place : Place) (bs : List ℕ) → Cut (pieces mark place bs)
some_pieces mark place [] = ([], ([], refl))
some_pieces mark place (b ∷ bs) = at (b == mark && is_unquoted place) (pieces mark Outside bs) (pieces mark (next_place place b) bs)
  where
    at : (t : Bool) (l m : List (List ℕ)) → Cut (cond t ([] ∷ l) (onto_first b m))
    at true l m = ([], (l, refl))
    at false l m = cut_onto b m

bodies_opened : (body : List ℕ) (l : List (List ℕ)) → Cut l → bodies body (onto_first 91 l) ≡ option_map (λ others. body ∷ others) (all_bodies l)
bodies_opened body l (piece, (more, e)) = rw e refl

-- behind a body another one is opened
pub bodies_next : (body next : List ℕ) → bodies body (pieces 93 Outside (91 ∷ next)) ≡ option_map (λ others. body ∷ others) (all_bodies (pieces 93 Within next))
bodies_next body next = bodies_opened body (pieces 93 Within next) (some_pieces 93 Within next)

bodies_wrong : (body : List ℕ) (b : ℕ) (l m : List (List ℕ)) (t : Bool) → Cut l → (b == 91) ≡ false → bodies body (cond t ([] ∷ l) (onto_first b m)) ≡ None
bodies_wrong body b l m true (piece, (more, e)) h = rw e refl
bodies_wrong body b l [] false cut h = rw h refl
bodies_wrong body b l (piece ∷ more) false cut h = rw h refl

-- behind a body something else stands
bodies_none : (body more : List ℕ) → (length more == 0) ≡ false → begins 91 more ≡ false → bodies body (pieces 93 Outside more) ≡ None
bodies_none body [] some h = let wrong : true ≡ false = some in cc
bodies_none body (b ∷ bs) some h = bodies_wrong body b (pieces 93 Outside bs) (pieces 93 (next_place Outside b) bs) (b == 93 && true) (some_pieces 93 Outside bs) h

-- ---- predicates read so far, in front of the rest

regroup : (done : List Predicate) (p : Predicate) (o : Option (List Predicate)) → option_map (λ others. done ++ others) (option_map (λ more. p ∷ more) o) ≡ option_map (λ others. (done ++ p ∷ []) ++ others) o
regroup done p None = refl
regroup done p (Some l) = ap (λ x. Some x) (sym (append_assoc done (p ∷ []) l))

module _ (done : List Predicate) (rest : List ℕ) (whole : Option (List Predicate)) (is : option_map (λ others. done ++ others) (predicates_behind rest) ≡ whole) where
  so_far : (o : Option (List Predicate)) → predicates_behind rest ≡ o → option_map (λ others. done ++ others) o ≡ whole
  so_far o e = ap (option_map (λ others. done ++ others)) (sym e) ∙ is

  pub unclosed : pieces 93 Within rest ≡ rest ∷ [] → None ≡ whole
  unclosed e = so_far None (ap (λ l. option_and_then predicates_in (all_bodies l)) e)

  module _ (body more : List ℕ) (e : pieces 93 Within rest ≡ body ∷ pieces 93 Outside more) where
    behind_body : (others : Option (List (List ℕ))) → bodies body (pieces 93 Outside more) ≡ others → predicates_behind rest ≡ option_and_then predicates_in others
    behind_body others h = ap (λ l. option_and_then predicates_in (all_bodies l)) e ∙ ap (option_and_then predicates_in) h

    broken_at : (piece : List ℕ) (l : List (List ℕ)) → pieces 93 Outside more ≡ piece ∷ l → predicate_in body ≡ None → predicates_behind rest ≡ None
    broken_at piece l h no_predicate =
        behind_body (bodies body (piece ∷ l)) (ap (bodies body) h) ∙ after_broken body _ no_predicate

    pub broken : None ≡ predicate_in body → None ≡ whole
    broken h = let cut = some_pieces 93 Outside more in so_far None (broken_at cut.0 cut.1.0 cut.1.1 (sym h))

    pub last_one : (p : Predicate) → Some p ≡ predicate_in body → (length more == 0) ≡ true → Some (done ++ p ∷ []) ≡ whole
    last_one p h ends =
        let none : more ≡ [] = nothing more ends in
        so_far (Some (p ∷ [])) (behind_body (Some (body ∷ [])) (ap (λ l. bodies body (pieces 93 Outside l)) none) ∙ after_read body (Some []) p (sym h))
      where
        nothing : (l : List ℕ) → (length l == 0) ≡ true → l ≡ []
        nothing [] e = refl
        nothing (b ∷ bs) e = let same = eqb-true (length (b ∷ bs)) 0 e in absurd (omega (arith, same))

    pub unopened : (length more == 0) ≡ false → begins 91 more ≡ false → None ≡ whole
    unopened some h = so_far None (behind_body None (bodies_none body more some h))

    pub one_more : (p : Predicate) (next : List ℕ) → Some p ≡ predicate_in body → more ≡ 91 ∷ next
        → option_map (λ others. (done ++ p ∷ []) ++ others) (predicates_behind next) ≡ whole
    one_more p next h opens =
        sym (regroup done p (predicates_behind next))
        ∙ so_far (option_map (λ l. p ∷ l) (predicates_behind next))
        (behind_body (option_map (λ others. body ∷ others) (all_bodies (pieces 93 Within next))) (ap (λ l. bodies body (pieces 93 Outside l)) opens ∙ bodies_next body next)
        ∙ after_read body (all_bodies (pieces 93 Within next)) p (sym h))
