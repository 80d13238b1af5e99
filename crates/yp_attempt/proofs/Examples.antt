-- What the definitions give for two short journals.
use Rattle.std.proofs.Common.{◌≡◌, ℕ, ◌-◌, length, arith}
use Rattle.yp_attempt.specs.Content.{IsLawful}
use Rattle.yp_attempt.specs.Examples.{counting}

none_more : (n : ℕ) → n - n ≡ 0
none_more n = omega arith

pub counting_lawful : IsLawful counting
counting_lawful = record { still = λ first. none_more (length first); edited = λ kinds none first later h. omega arith }
