-- Two short journals of one subscription on change with sync-on-start, for a look at what the definitions give.
use Rattle.std.specs.Prelude.{ℕ, ◌-◌, true, false, List, [], ◌∷◌, map, None, length, replicate}
use Rattle.yp_base.specs.declared.row.Row.{Row}
use Rattle.yp_base.specs.Rows.{last_of}
use Rattle.yp_base.specs.declared.row.Value.TheVariants.{Present}
use Rattle.yp_base.specs.declared.notice.Change.{Change}
use Rattle.yp_base.specs.declared.notice.ChangeKind.TheVariants.{Replace}
use Rattle.yp_base.specs.declared.notice.Trigger.{Trigger}
use Rattle.yp_base.specs.declared.notice.Trigger.TheVariants.{OnChange}
use Rattle.yp_feed.specs.declared.item.Item.{Item}
use Rattle.yp_attempt.specs.Content.{Content}
use Rattle.yp_attempt.specs.Tracks.{Answer}
use Rattle.yp_attempt.specs.Moments.{Moment, Act, Quiet, Starts}
use Rattle.yp_attempt.specs.Attempts.{attempts}

-- so many rows, all alike
abbrev pub some_rows : ℕ → List Row
some_rows n = replicate n (record { path = []; value = Present })

-- the rows that a record of one edit carries
abbrev pub carried : List Row → List Change → List Row
carried rows [] = rows
carried rows (change ∷ changes) = change.rows

-- content that counts rows: each row more is a changed place, and a record has one edit, with all rows
abbrev pub counting : Content
counting = record {
  roots = λ first later. length (last_of first later) - length first;
  window_record = λ kinds first later. record { kind = Replace; target = []; rows = last_of first later; after = None } ∷ [];
  edits = length;
  received = carried;
}

-- on change, without a dampening period, with sync-on-start, and without excluded kinds
abbrev pub on_change : Trigger
on_change = OnChange 0 true (record { create = false; delete = false; insert = false; moved = false; replace = false })

-- an entry at a stamp, after which so many rows are selected
abbrev pub entry : ℕ → Act → ℕ → Moment
entry stamp act rows = record { stamp = stamp; act = act; rules = λ receiver. false; selection = λ sub receiver. some_rows rows }

-- an entry at which subscription 5 starts for every receiver; nothing is selected yet
abbrev pub begins_at : ℕ → Moment
begins_at stamp = entry stamp (Starts 5 on_change false (λ receiver. true)) 0

-- one row is new, and the queue is full at eight stamps
abbrev pub full_queue : List Moment
full_queue =
    begins_at 0 ∷ entry 0 Quiet 1 ∷ entry 1 Quiet 1 ∷ entry 2 Quiet 1 ∷ entry 3 Quiet 1 ∷ entry 4 Quiet 1 ∷ entry 5 Quiet 1 ∷ entry 6 Quiet 1 ∷ entry 7 Quiet 1 ∷ entry 8 Quiet 1 ∷ []

-- after a full queue 257 rows are new
abbrev pub many_rows : List Moment
many_rows = begins_at 0 ∷ entry 0 Quiet 1 ∷ entry 1 Quiet 257 ∷ []

-- what receiver 0 is offered, with the positions from which and at which it was made, and the answers
abbrev pub offers_of : List Moment → List Answer → List (Item × ℕ × ℕ × Answer)
offers_of journal answers = map (λ a. (a.item, a.made.from, a.made.position, a.answer)) (attempts counting (0 ∷ []) journal answers)
