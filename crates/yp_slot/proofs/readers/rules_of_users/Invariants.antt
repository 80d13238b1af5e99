use Rattle.std.proofs.Common.{◌≡◌, ◌++◌, drop}
use Rattle.yp_slot.specs.Readers.{rules_of_users}
use Rattle.yp_slot.proofs.readers.rules_of_users.Given as goal

-- the rules so far and those of the users that are left are all
abbrev pub invariant-loop-user : goal.invariant-loop-user
invariant-loop-user l = l.rules.items ++ rules_of_users l.policy (drop l.user-index l.users) ≡ rules_of_users l.fn.policy l.fn.users
