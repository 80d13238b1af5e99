-- What a receiver holds: the fold of the lines that it took (RFC 8641 section 3.7).
use Rattle.std.specs.Prelude.{ℕ, List, [], ◌∷◌, Option, unwrap_or, Result, Ok, Err, ◌≡◌}
use Rattle.std.specs.BTreeMap.{insert_entry, is_at}
use Rattle.std.specs.Map.{lookup}
use Rattle.std.specs.Ordering.{nat_cmp}
use Rattle.yp_base.specs.declared.row.Row.{Row}
use Rattle.yp_base.specs.declared.notice.Notice.{Notice}
use Rattle.yp_base.specs.declared.notice.Notice.TheVariants.{Full, Changes, Started, Modified, Suspended, Resumed, Terminated}
use Rattle.yp_base.specs.Rows.{changed_by, put_rows}
use Rattle.yp_schema.specs.declared.schema.SchemaNode.{SchemaNode}
use Rattle.yp_decode.specs.declared.fault.StreamFault.{StreamFault}
use Rattle.yp_decode.specs.declared.line.Heard.{Heard}
use Rattle.yp_decode.specs.Grammar.{line_heard}

-- ---- notices

-- the rows that are held of a subscription, by its id, where it had an update
abbrev pub held_of : ℕ → List (ℕ × List Row) → Option (List Row)
held_of id held = lookup (is_at (nat_cmp id)) held

-- what is held after one notification more, in the order of ids: a full update sets the rows of its subscription, a change update changes them, and nothing else does
abbrev pub hears : Notice → List (ℕ × List Row) → List (ℕ × List Row)
hears (Full id rows) held = insert_entry nat_cmp held id (put_rows rows [])
hears (Changes id patch_id changes incomplete) held = insert_entry nat_cmp held id (changed_by changes (unwrap_or (held_of id held) []))
hears (Started id) held = held
hears (Modified id) held = held
hears (Suspended id) held = held
hears (Resumed id) held = held
hears (Terminated id) held = held

-- the same after notifications, in order
abbrev pub notices_heard : List (ℕ × List Row) → List Notice → List (ℕ × List Row)
notices_heard held [] = held
notices_heard held (notice ∷ notices) = notices_heard (hears notice held) notices

-- ---- lines

-- a line that tells something is heard, and one with a fault changes nothing
abbrev pub told : Result Heard StreamFault → List (ℕ × List Row) → List (ℕ × List Row)
told (Ok heard) held = hears heard.notice held
told (Err fault) held = held

-- what is held after one line more
abbrev pub line_taken : List SchemaNode → List (ℕ × List Row) → List ℕ → List (ℕ × List Row)
line_taken nodes held line = told (line_heard nodes line) held

-- the same after lines, in order
abbrev pub lines_heard : List SchemaNode → List (ℕ × List Row) → List (List ℕ) → List (ℕ × List Row)
lines_heard nodes held [] = held
lines_heard nodes held (line ∷ lines) = lines_heard nodes (line_taken nodes held line) lines

-- ---- taking a line

-- a line was heard: it tells a notice, and this is what it leaves
pub record IsTaken (nodes : List SchemaNode) (line : List ℕ) (before after : List (ℕ × List Row)) : Type 0 where
  pub heard : Heard
  pub tells : line_heard nodes line ≡ Ok heard
  pub leaves : after ≡ hears heard.notice before
