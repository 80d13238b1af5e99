-- What feeds know of rows: the record of a window of selections, and its size (RFC 8641 sections 3.7 and 3.9).
use Rattle.std.specs.Prelude.{◌≡◌, ℕ, ◌<◌, true, List, []}
use Rattle.yp_base.specs.declared.row.Row.{Row}
use Rattle.yp_base.specs.declared.notice.Change.{Change}
use Rattle.yp_base.specs.declared.notice.Kinds.{Kinds}
use Rattle.yp_feed.specs.Machine.{excludes_none}

-- of a window, its first selection and the later ones: the number of changed places, and the record without edits of excluded kinds; the number of edits of a record; the rows that a receiver has after a record
pub record Content : Type 0 where
  pub roots : List Row → List (List Row) → ℕ
  pub window_record : Kinds → List Row → List (List Row) → List Change
  pub edits : List Change → ℕ
  pub received : List Row → List Change → List Row

-- in one selection alone no place changed; where no kind is excluded, a record has an edit where a place changed
pub record IsLawful (c : Content) : Type 0 where
  pub still : (first : List Row) → c.roots first [] ≡ 0
  pub edited : (kinds : Kinds) → excludes_none kinds ≡ true → (first : List Row) (later : List (List Row)) → 0 < c.roots first later → 0 < c.edits (c.window_record kinds first later)
