-- What names nothing that may not be read (RFC 8641 section 3.9, RFC 8341 section 3.4.5).
use Rattle.std.specs.Prelude.{◌≡◌, List, Bool, true}
use Rattle.std.specs.List.{AllByRecursion}
use Rattle.yp_base.specs.declared.path.Seg.{Seg}
use Rattle.yp_base.specs.declared.row.Row.{Row}

-- each of these rows may be read
abbrev pub AllReadable : (List Seg → Bool) → List Row → Type 0
AllReadable readable rows = AllByRecursion (λ row. readable row.path ≡ true) rows
