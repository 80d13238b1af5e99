-- The first member of an object.
use Rattle.std.proofs.Common.{◌≡◌, List, [], ◌∷◌, Some, ap, slice_get}
use Rattle.std.specs.Prelude.{string_bytes}
use Rattle.serde_json.proofs.Views.{Entry}
use Rattle.serde_json.specs.View.{view, members_view}
use Rattle.yp_command.specs.Words.{first_member}

pub first_seen : (es : List Entry) (first : Entry) → slice_get es 0 ≡ Some first → Some (string_bytes first.0, view first.1) ≡ first_member (members_view es)
first_seen [] first is = cc
first_seen (e ∷ es) first is = let same : first ≡ e = cc in ap (λ (entry : Entry). Some (string_bytes entry.0, view entry.1)) same
