-- How the logic stores a registry.
use Rattle.std.specs.Prelude.{ℕ, List, refl}
use Rattle.std.specs.Coded.{Coded, code_by, coded×, coded_ℕ, coded_list}
use Rattle.yp_terms.specs.Terms.{Terms}
use Rattle.yp_terms.specs.Coding.{coded_terms}
use Rattle.yp_registry.specs.Registry.{Subscriptions}

abbrev pub coded_subscriptions : Coded Subscriptions
coded_subscriptions =
    code_by (List (List ℕ) × (List (List ℕ) × (ℕ × (List ℕ × List Terms))))
    (coded× (coded_list (coded_list coded_ℕ)) (coded× (coded_list (coded_list coded_ℕ)) (coded× coded_ℕ (coded× (coded_list coded_ℕ) (coded_list coded_terms)))))
    (λ r. (r.users, (r.names, (r.given, (r.taken, r.live)))))
    (λ p. record { users = p.0; names = p.1.0; given = p.1.1.0; taken = p.1.1.1.0; live = p.1.1.1.1 })
    (λ _. refl)
