-- What a receiver holds: the fold of the notifications that it took (RFC 8641 section 3.7).
use Rattle.std.specs.Prelude.{ℕ, List, [], ◌∷◌}
use Rattle.std.specs.List.{AllByRecursion}
use Rattle.yp_base.specs.declared.row.Row.{Row}
use Rattle.yp_schema.specs.declared.schema.SchemaNode.{SchemaNode}
use Rattle.yp_schema.specs.Datastore.{AreWritable}
use Rattle.yp_attempt.specs.Attempts.{Notification}
use Rattle.yp_moment.specs.Notices.{notice_of}
use Rattle.yp_receiver.specs.Held.{hears}

-- what is held after notifications, in order
abbrev pub received : List (ℕ × List Row) → List Notification → List (ℕ × List Row)
received held [] = held
received held (n ∷ more) = received (hears (notice_of n.sub n.made) held) more

-- what is held of each subscription can be written at the top
abbrev pub CanBeShown : List SchemaNode → List (ℕ × List Row) → Type 0
CanBeShown nodes held = AllByRecursion (λ tree. AreWritable nodes [] tree.1) held
