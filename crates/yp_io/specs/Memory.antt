-- What one call of a source or a sink in memory does.
use Rattle.std.specs.Prelude.{ℕ, zero, suc, ◌-◌, Bool, ◌&&◌, ◌||◌, not, List, ◌++◌, length, take, drop, min, if◌then◌else◌}
use Rattle.std.specs.List.{list_any}
use Rattle.std.specs.Prelude.{nat_eq}
use Rattle.yp_base.specs.Counts.{one_more}
use Rattle.yp_io.specs.declared.source.Got.{Got}
use Rattle.yp_io.specs.declared.source.Got.TheVariants.{Bytes, End, Failed as ReadFailed}
use Rattle.yp_io.specs.declared.sink.Put.{Put}
use Rattle.yp_io.specs.declared.sink.Put.TheVariants.{Took, Failed as WriteFailed}

-- a source in memory: the bytes that are left, how many a call gives at most, the numbers of the calls that fail, and how many calls were made and failed
pub record Supply : Type 0 where
  pub bytes : List ℕ
  pub most : ℕ
  pub failing : List ℕ
  pub calls : ℕ
  pub failed : ℕ

-- a sink in memory: the bytes that were written, for how many more there is room, how many a call takes at most, the numbers of the calls that fail, and how many calls were made and failed
pub record Store : Type 0 where
  pub bytes : List ℕ
  pub room : ℕ
  pub most : ℕ
  pub failing : List ℕ
  pub calls : ℕ
  pub failed : ℕ

-- whether a call stands among those that fail
abbrev pub is_among : ℕ → List ℕ → Bool
is_among call failing = list_any (λ n. nat_eq n call) failing

-- as many bytes as are left, as fit and as a call may give
abbrev pub given : Supply → ℕ → ℕ
given s fit = min (min (length s.bytes) fit) s.most

abbrev pub got : ℕ → Got
got zero = End
got (suc n) = Bytes (suc n)

-- what a read answers into so many places
abbrev pub read_answer : Supply → ℕ → Got
read_answer s fit = if is_among (one_more s.calls) s.failing then ReadFailed else got (given s fit)

-- and what is left after it
abbrev pub after_read : Supply → ℕ → Supply
after_read s fit =
    if is_among (one_more s.calls) s.failing then record s { calls = one_more s.calls; failed = one_more s.failed }
    else record s { calls = one_more s.calls; bytes = drop (given s fit) s.bytes }

-- whether a write fails: its number is among those that fail, or there is a byte to write and no room
abbrev pub refuses : Store → List ℕ → Bool
refuses s piece = is_among (one_more s.calls) s.failing || (nat_eq s.room 0 && not (nat_eq (length piece) 0))

-- as many bytes as there are, as there is room for and as a call may take
abbrev pub accepted : Store → List ℕ → ℕ
accepted s piece = min (min s.room (length piece)) s.most

-- what a write answers
abbrev pub write_answer : Store → List ℕ → Put
write_answer s piece = if refuses s piece then WriteFailed else Took (accepted s piece)

-- and what is written after it
abbrev pub after_write : Store → List ℕ → Store
after_write s piece =
    if refuses s piece then record s { calls = one_more s.calls; failed = one_more s.failed }
    else record s { calls = one_more s.calls; bytes = s.bytes ++ take (accepted s piece) piece; room = s.room - accepted s piece }
