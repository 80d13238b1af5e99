use Rattle.std.proofs.Common.{◌≡◌, ◌++◌, string_bytes}
use Rattle.yp_gen.specs.Draws.{drawn_state}
use Rattle.yp_gen.specs.Scripts.{drawn_lines}
use Rattle.yp_gen.proofs.script.push_drawn.Given as goal

-- so many commands were drawn, and their lines added
abbrev pub invariant-loop-before : goal.invariant-loop-before
invariant-loop-before l = record {
  state : l.state ≡ drawn_state l.seed l.before;
  text : string_bytes l.text ≡ string_bytes l.fn.text ++ drawn_lines l.seed l.before;
}
