-- The numbers by which commands are drawn: a linear congruential generator modulo 2 ^ 64, with the multiplier and the increment of Knuth's MMIX.
use Rattle.std.specs.Prelude.{ℕ, ◌+◌, ◌*◌, ◌/◌, ◌%◌, ◌^◌}
use Rattle.std.specs.Fn.{iterate}

-- the state after another
abbrev pub next_state : ℕ → ℕ
next_state state = (state * 6364136223846793005 + 1442695040888963407) % 2 ^ 64

-- the state by which the command of a number is drawn, counted from 1: it begins as the seed, and moves before each command
abbrev pub drawn_state : ℕ → ℕ → ℕ
drawn_state seed k = iterate next_state k seed

-- the draw of a state: its upper 31 bits
abbrev pub draw_of : ℕ → ℕ
draw_of state = state / 2 ^ 33
