-- What is made for a receiver names nothing that its user may not read (RFC 8641 section 3.9, RFC 8341 section 3.4.5).
use Rattle.std.specs.Prelude.{List, Bool}
use Rattle.std.specs.List.{AllByRecursion}
use Rattle.yp_base.specs.declared.path.Seg.{Seg}
use Rattle.yp_kept.specs.Concealed.{AllReadable}
use Rattle.yp_touch.specs.Concealed.{IsReadableChange}
use Rattle.yp_attempt.specs.Tracks.{Body, All, Edits, Marked, Notice}

-- all that is named may be read
abbrev pub NamesReadable : (List Seg → Bool) → Body → Type 0
NamesReadable readable (All rows) = AllReadable readable rows
NamesReadable readable (Edits edits) = AllByRecursion (IsReadableChange readable) edits
NamesReadable readable (Marked edits) = AllByRecursion (IsReadableChange readable) edits
NamesReadable readable (Notice item) = Unit {0}
