-- Which ids were given to subscriptions so far: none of them is given again (RFC 8639 sections 2.4.2 and 2.5).
use Rattle.std.specs.Prelude.{ℕ, Bool, nat_lt, if◌then◌else◌}
use Rattle.yp_registry.specs.Configuring.{is_configurable, is_id_taken}
use Rattle.yp_registry.specs.Registry.{Subscriptions, next_id}

-- whether an id was given: one that can be configured, where it was; another one, where it is below the next
abbrev pub was_given : ℕ → Subscriptions → Bool
was_given id registry = if is_configurable id then is_id_taken id registry else nat_lt id (next_id registry.given)
