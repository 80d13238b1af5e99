-- One drawn command more.
use Rattle.std.proofs.Common.{◌≡◌, ℕ, zero, suc, ◌+◌, List, ◌++◌, refl, sym, ap, ◌∙◌, append_assoc, append-nil, add-one, arith}
use Rattle.std.specs.Fn.{iterate}
use Rattle.std.specs.List.{flat_map, range_with_len}
use Rattle.yp_gen.specs.declared.command.Drawn.{Drawn}
use Rattle.yp_gen.specs.Commands.{command_text, drawn_by}
use Rattle.yp_gen.specs.Draws.{draw_of, drawn_state, next_state}
use Rattle.yp_gen.specs.Scripts.{drawn_line, drawn_lines}

-- a function that is applied once more is applied last
iterate_more : {A : Type 0} (f : A → A) (n : ℕ) (x : A) → iterate f (suc n) x ≡ f (iterate f n x)
iterate_more f zero x = refl
iterate_more f (suc n) x = iterate_more f n (f x)

-- one number more at the end of a range
range_more : {X : Type 0} (f : ℕ → List X) (first n last : ℕ) → first + n ≡ last → flat_map f (range_with_len first (suc n)) ≡ flat_map f (range_with_len first n) ++ f last
range_more f first zero last is = let same : first ≡ last = omega (arith, is) in append-nil (f first) ∙ ap f same
range_more f first (suc n) last is = ap (λ (xs : List _). f first ++ xs) (range_more f (first + 1) n last (omega (arith, is))) ∙ sym (append_assoc (f first) _ (f last))

-- the state moves before each command
pub state_more : (seed k : ℕ) → next_state (drawn_state seed k) ≡ drawn_state seed (k + 1)
state_more seed k = sym (iterate_more next_state k seed) ∙ ap (λ n. drawn_state seed n) (sym (add-one k))

lines_more : (seed k : ℕ) → drawn_lines seed k ++ drawn_line seed (k + 1) ≡ drawn_lines seed (k + 1)
lines_more seed k = sym (range_more (drawn_line seed) 1 k (k + 1) (omega arith)) ∙ ap (λ n. drawn_lines seed n) (sym (add-one k))

-- the line of the next command is added
pub text_more : (seed k state draw : ℕ) (drawn : Drawn) (old text new : List ℕ) → state ≡ drawn_state seed (k + 1) → draw ≡ draw_of state → drawn ≡ drawn_by draw
    → text ≡ old ++ drawn_lines seed k → new ≡ text ++ command_text (k + 1) drawn → new ≡ old ++ drawn_lines seed (k + 1)
text_more seed k state draw drawn old text new at by is so_far added =
    added ∙ ap (λ (before : List ℕ). before ++ command_text (k + 1) drawn) so_far ∙ append_assoc old (drawn_lines seed k) (command_text (k + 1) drawn)
    ∙ ap (λ (d : Drawn). old ++ (drawn_lines seed k ++ command_text (k + 1) d)) (is ∙ ap drawn_by (by ∙ ap draw_of at)) ∙ ap (λ (lines : List ℕ). old ++ lines) (lines_more seed k)
