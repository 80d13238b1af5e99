-- Ids of subscriptions: they rise, and those that are configured stay taken (RFC 8639 sections 2.4.2 and 2.5).
use Rattle.std.specs.Prelude.{◌≡◌, ◌<◌, map, true, All}
use Rattle.std.specs.List.Sorted.{IsStrictlyIncreasing}
use Rattle.yp_terms.specs.Terms.{Terms}
use Rattle.yp_registry.specs.Registry.{Subscriptions, next_id}
use Rattle.yp_registry.specs.Configuring.{is_configurable, is_id_taken}

-- the ids of the live subscriptions rise, each is below the next id of a dynamic one, and each that can be configured was
pub record HasRisingIds (registry : Subscriptions) : Type 0 where
  pub rising : IsStrictlyIncreasing (map (λ (terms : Terms). terms.id) registry.live)
  pub below : All (λ (terms : Terms). terms.id < next_id registry.given) registry.live
  pub configured : All (λ (terms : Terms). is_configurable terms.id ≡ true → is_id_taken terms.id registry ≡ true) registry.live
