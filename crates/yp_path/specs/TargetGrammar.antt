-- The grammar of targets (RFC 8040 section 3.5.3): `/` and a name for each node, with `=` and its keys where it has any.
use Rattle.std.specs.Prelude.{◌≡◌, ℕ, List, [], ◌∷◌, ◌++◌, true, Some}
use Rattle.yp_path.specs.Escapes.{key_read}
use Rattle.yp_path.specs.Grammar.{IsNodeName, is_free}

-- a key's text, percent-encoded; `/` and `,` stand in it only as escapes
pub record IsKeyText (text key : List ℕ) : Type 0 where
  pub slashes : is_free 47 text ≡ true
  pub commas : is_free 44 text ≡ true
  pub decoded : key_read text ≡ Some key

-- the texts of keys, the first after this mark and each other after a comma
abbrev pub AreKeyTexts : ℕ → List ℕ → List (List ℕ) → Type 0
AreKeyTexts mark text [] = text ≡ []
AreKeyTexts mark text (key ∷ keys) = (first : List ℕ) × ((rest : List ℕ) × ((text ≡ mark ∷ (first ++ rest)) × IsKeyText first key × AreKeyTexts 44 rest keys))

-- a segment: the name of a node, and the texts that its keys stand for
pub record TargetPart : Type 0 where
  pub name : List ℕ
  pub keys : List (List ℕ)

-- the text of a segment: `/`, its name, and `=` and its keys, if any
pub record IsTargetSegment (text : List ℕ) (part : TargetPart) : Type 0 where
  pub rest : List ℕ
  pub written : text ≡ 47 ∷ (part.name ++ rest)
  pub names : IsNodeName part.name
  pub keyed : AreKeyTexts 61 rest part.keys

-- segments, one after another
abbrev pub AreTargetSegments : List ℕ → List TargetPart → Type 0
AreTargetSegments text [] = text ≡ []
AreTargetSegments text (part ∷ parts) = (first : List ℕ) × ((rest : List ℕ) × ((text ≡ first ++ rest) × IsTargetSegment first part × AreTargetSegments rest parts))

-- the text of a target: one segment or more
abbrev pub IsTargetText : List ℕ → List TargetPart → Type 0
IsTargetText text [] = ⊥
IsTargetText text (part ∷ parts) = AreTargetSegments text (part ∷ parts)
