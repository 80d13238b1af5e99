-- The grammar of rule paths: absolute instance identifiers whose keys may be left out (RFC 8341 section 3.5.2, RFC 7950 sections 9.13 and 14).
use Rattle.std.specs.Prelude.{◌≡◌, ℕ, zero, suc, List, [], ◌∷◌, ◌++◌, Bool, true, not, ◌&&◌, ◌==◌, ◌⊎◌, codes}
use Rattle.yp_names.specs.Names.{is_identifier}
use Rattle.yp_path.specs.declared.predicate.Predicate.{Predicate}

-- ---- names

-- a name with its module's before it, `module:name`
pub record IsQualified (text : List ℕ) : Type 0 where
  pub home : List ℕ
  pub name : List ℕ
  pub written : text ≡ home ++ (58 ∷ name)
  pub homes : is_identifier home ≡ true
  pub names : is_identifier name ≡ true

-- the name of a node
abbrev pub IsNodeName : List ℕ → Type 0
IsNodeName text = (is_identifier text ≡ true) ⊎ IsQualified text

-- the name of a key, or `.` for the value of a leaf-list
abbrev pub IsKeyName : List ℕ → Type 0
IsKeyName text = IsNodeName text ⊎ (text ≡ codes ".")

-- ---- predicates

-- whether a byte doesn't stand in a text
abbrev pub is_free : ℕ → List ℕ → Bool
is_free mark [] = true
is_free mark (b ∷ bs) = not (b == mark) && is_free mark bs

-- so many spaces, U+0020
abbrev pub spaces : ℕ → List ℕ
spaces zero = []
spaces (suc n) = 32 ∷ spaces n

-- a text with so many spaces before it and after it
abbrev pub spaced : ℕ → List ℕ → ℕ → List ℕ
spaced before text after = spaces before ++ (text ++ spaces after)

-- a value between two quotes
abbrev pub quoted : ℕ → List ℕ → List ℕ
quoted quote value = quote ∷ (value ++ (quote ∷ []))

-- an apostrophe or a quotation mark
abbrev pub IsQuote : ℕ → Type 0
IsQuote b = (b ≡ 39) ⊎ (b ≡ 34)

-- a predicate, `[name='value']`: spaces may stand around the name and around the quotes, and the value goes up to the same quote
pub record IsPredicate (text : List ℕ) (predicate : Predicate) : Type 0 where
  pub before_name : ℕ
  pub after_name : ℕ
  pub quote : ℕ
  pub before_value : ℕ
  pub after_value : ℕ
  pub written : text ≡ 91 ∷ (spaced before_name predicate.name after_name ++ (61 ∷ (spaced before_value (quoted quote predicate.value) after_value ++ (93 ∷ []))))
  pub names : IsKeyName predicate.name
  pub quotes : IsQuote quote
  pub value : is_free quote predicate.value ≡ true

-- predicates, one after another
abbrev pub ArePredicates : List ℕ → List Predicate → Type 0
ArePredicates text [] = text ≡ []
ArePredicates text (predicate ∷ others) = (first : List ℕ) × ((rest : List ℕ) × ((text ≡ first ++ rest) × IsPredicate first predicate × ArePredicates rest others))

-- ---- the path

-- a segment: the name of a node, and predicates
pub record RulePart : Type 0 where
  pub name : List ℕ
  pub predicates : List Predicate

-- the text of a segment: `/`, its name and its predicates
pub record IsSegment (text : List ℕ) (part : RulePart) : Type 0 where
  pub rest : List ℕ
  pub written : text ≡ 47 ∷ (part.name ++ rest)
  pub names : IsNodeName part.name
  pub predicates : ArePredicates rest part.predicates

-- segments, one after another
abbrev pub AreSegments : List ℕ → List RulePart → Type 0
AreSegments text [] = text ≡ []
AreSegments text (part ∷ parts) = (first : List ℕ) × ((rest : List ℕ) × ((text ≡ first ++ rest) × IsSegment first part × AreSegments rest parts))

-- the text of a rule path: one segment or more
abbrev pub IsRuleText : List ℕ → List RulePart → Type 0
IsRuleText text [] = ⊥
IsRuleText text (part ∷ parts) = AreSegments text (part ∷ parts)
