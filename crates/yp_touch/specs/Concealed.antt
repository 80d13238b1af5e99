-- What an edit names: nothing that may not be read (RFC 8641 section 3.9, RFC 8341 section 3.4.5).
use Rattle.std.specs.Prelude.{◌≡◌, List, Bool, true}
use Rattle.yp_base.specs.declared.notice.Change.{Change}
use Rattle.yp_base.specs.declared.path.Seg.{Seg}
use Rattle.yp_kept.specs.Concealed.{AllReadable}

-- a change's target may be read, and each row that it carries
abbrev pub IsReadableChange : (List Seg → Bool) → Change → Type 0
IsReadableChange readable change = (readable change.target ≡ true) × AllReadable readable change.rows
