-- What the users of receivers may read: the own rules of each (RFC 8341 section 3.4.5).
use Rattle.std.specs.Prelude.{◌≡◌, ℕ, ◌<◌, List, length, map, slice_index}
use Rattle.std.specs.List.{slice_get}
use Rattle.yp_nacm.specs.declared.compile.UserRules.{UserRules}
use Rattle.yp_nacm.specs.declared.policy.Policy.{Policy}
use Rattle.yp_nacm.specs.Own.{own_rules}

-- the own rules of users by a policy
abbrev pub rules_of_users : Policy → List (List ℕ) → List UserRules
rules_of_users policy users = map (own_rules policy) users

-- for each receiver the number of one whose user has the same rules
abbrev pub AreShared : List UserRules → List ℕ → Type 0
AreShared rules firsts = (length firsts ≡ length rules) × ((number : ℕ) → number < length rules → slice_get rules (slice_index firsts number) ≡ slice_get rules number)
