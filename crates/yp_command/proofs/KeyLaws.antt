-- Receivers by name: the places of names among keys, and one receiver more.
use Rattle.std.proofs.Common.{◌≡◌, ℕ, ◌+◌, Bool, List, [], ◌∷◌, ◌++◌, length, map, Some, None, is_some, cond, nat_lt, not, refl, sym, ap, ◌∙◌}
use Rattle.std.specs.List.{position, prefix_len}
use Rattle.std.specs.Map.{keys_of, values_of, lookup}
use Rattle.std.proofs.lemmas.List.{map-append, length-map}
use Rattle.std.proofs.lemmas.Map.Made.{is_some-lookup}
use Rattle.yp_base.specs.Results.{none_is}
use Rattle.yp_command.specs.NameLaws.{none_there}

prefix_of_map : {X Y : Type 0} (f : X → Y) (test : Y → Bool) (xs : List X) → prefix_len (λ x. test (f x)) xs ≡ prefix_len test (map f xs)
prefix_of_map f test [] = refl
prefix_of_map f test (x ∷ xs) = ap (λ n. cond (test (f x)) (1 + n) 0) (prefix_of_map f test xs)

-- the first place of a test in a mapped list is that of the mapped test
position_of_map : {X Y : Type 0} (f : X → Y) (test : Y → Bool) (xs : List X) → position (λ x. test (f x)) xs ≡ position test (map f xs)
position_of_map f test xs =
    (λ i. cond (nat_lt (prefix_of_map f (λ y. not (test y)) xs i) (length xs)) (Some (prefix_of_map f (λ y. not (test y)) xs i)) None)
    ∙ (λ i. cond (nat_lt (prefix_len (λ y. not (test y)) (map f xs)) (sym (length-map xs f) i)) (Some (prefix_len (λ y. not (test y)) (map f xs))) None)

module _ {K X : Type 0} (bytes : K → List ℕ) (name : X → List ℕ) where
  -- the place of a name is that of its key
  pub place_of_key : (test : List ℕ → Bool) (es : List (K × X)) → map bytes (keys_of es) ≡ map name (values_of es) → position (λ k. test (bytes k)) (keys_of es) ≡ position test (map name (values_of es))
  place_of_key test es same = position_of_map bytes test (keys_of es) ∙ ap (position test) same

  -- a name that has no place has no key
  pub no_key : (test : List ℕ → Bool) (es : List (K × X)) → map bytes (keys_of es) ≡ map name (values_of es) → position test (map name (values_of es)) ≡ None → lookup (λ k. test (bytes k)) es ≡ None
  no_key test es same none =
      none_is (lookup (λ k. test (bytes k)) es)
      (is_some-lookup (λ k. test (bytes k)) es ∙ none_there (λ k. test (bytes k)) (keys_of es) (ap is_some (place_of_key test es same ∙ none)))

  pub names_more : (es : List (K × X)) (k : K) (x : X) → map bytes (keys_of es) ≡ map name (values_of es) → bytes k ≡ name x → map bytes (keys_of (es ++ (k, x) ∷ [])) ≡ map name (values_of (es ++ (k, x) ∷ []))
  names_more es k x same is =
      ap (map bytes) (map-append (λ (e : K × X). e.0) es ((k, x) ∷ [])) ∙ map-append bytes (keys_of es) (k ∷ [])
      ∙ (λ i. same i ++ is i ∷ [])
      ∙ sym (ap (map name) (map-append (λ (e : K × X). e.1) es ((k, x) ∷ [])) ∙ map-append name (values_of es) (x ∷ []))

  pub values_more : (es : List (K × X)) (k : K) (x : X) → values_of (es ++ (k, x) ∷ []) ≡ values_of es ++ x ∷ []
  values_more es k x = map-append (λ (e : K × X). e.1) es ((k, x) ∷ [])
