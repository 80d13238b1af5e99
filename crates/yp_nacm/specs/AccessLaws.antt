-- What follows of the decision on paths.
use Rattle.std.proofs.Common.{◌≡◌, List, [], ◌∷◌, ◌++◌, true, refl}
use Rattle.std.proofs.lemmas.Bool.{and_parts, and_from}
use Rattle.yp_base.specs.declared.path.Seg.{Seg}
use Rattle.yp_schema.specs.declared.schema.SchemaNode.{SchemaNode}
use Rattle.yp_nacm.specs.declared.compile.UserRules.{UserRules}
use Rattle.yp_nacm.specs.Decision.{is_open, opens_down, is_readable, IsClosed}

opens_above : (nodes : List SchemaNode) (rules : UserRules) (above path rest : List Seg) → opens_down nodes rules above (path ++ rest) ≡ true → opens_down nodes rules above path ≡ true
opens_above nodes rules above [] rest h = refl
opens_above nodes rules above (seg ∷ segs) rest h =
    and_from (is_open nodes rules (above ++ seg ∷ [])) _ (and_parts _ _ h).0 (opens_above nodes rules (above ++ seg ∷ []) segs rest (and_parts _ _ h).1)

-- what stands above a path that may be read may be read too
pub readable_above : (nodes : List SchemaNode) (rules : UserRules) → IsClosed (is_readable nodes rules)
readable_above nodes rules above rest h = opens_above nodes rules [] above rest h
