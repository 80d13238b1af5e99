-- Paths below one that may be read.
use Rattle.std.proofs.Common.{◌≡◌, ◌≤◌, ◌+◌, List, Bool, true, length, take, sym, ap, ◌∙◌, arith}
use Rattle.std.proofs.lemmas.List.{length-append}
use Rattle.std.proofs.Math.Seq.{take-append_seam}
use Rattle.yp_base.specs.declared.path.Seg.{Seg}
use Rattle.yp_base.specs.Order.{IsPrefixOf}

-- the first segments of a path are those of one above it
front_taken : (above path : List Seg) → IsPrefixOf above path → take (length above) path ≡ above
front_taken above path (rest, is) = ap (take (length above)) (sym is) ∙ take-append_seam above rest

-- so they may be read where it may
pub front_open : (may : List Seg → Bool) (above path : List Seg) → IsPrefixOf above path → may above ≡ true → may (take (length above) path) ≡ true
front_open may above path front is = ap may (front_taken above path front) ∙ is

-- and they are no more than it has
pub front_within : (above path : List Seg) → IsPrefixOf above path → length above ≤ length path
front_within above path (rest, is) = let e : length path ≡ length above + length rest = ap length (sym is) ∙ length-append above rest in omega arith
