-- Each drawn text is a script.
use Rattle.std.proofs.Common.{◌≡◌, ℕ, ◌+◌, ◌*◌, ◌≤◌, List, [], ◌∷◌, ◌++◌, length, Ok, sym, ap, ◌∙◌, append-nil, length-append, take_all, arith}
use Rattle.std.proofs.lemmas.List.FromFn.{length-map-range_with_len}
use Rattle.yp_gen.specs.Commands.{tick_line}
use Rattle.yp_gen.specs.Scripts.{setting_text, subscriptions_text, drawn_lines, script_text}
use Rattle.yp_journal.specs.declared.command.Command.{Command}
use Rattle.yp_journal.specs.declared.command.Command.TheVariants.{Tick}
use Rattle.yp_script.specs.Lines.{pieces_of, lines_from, byte_limit}
use Rattle.yp_script.specs.Script.{no_progress, script_from, script_of, script_in, count_commands}
use Rattle.yp_drawn.specs.Setting.{first_subscription, second_subscription}
use Rattle.yp_drawn.specs.Drawn.{command_at, drawn_commands, drawn_script}
use Rattle.yp_drawn.proofs.Commands.{tick_leads, tick_short, commands_lead, lines_short}
use Rattle.yp_drawn.proofs.Setting.{running, head_leads, head_short}
use Rattle.yp_drawn.proofs.Steps.{Leads, then_leads}

abbrev asked : List Command
asked = first_subscription ∷ second_subscription ∷ []

text_leads : (seed size : ℕ) → size ≤ 10000 → Leads no_progress (running (asked ++ drawn_commands seed size ++ Tick (10 * (size + 10)) ∷ [])) (script_text seed size) (6 + size + 1)
text_leads seed size few =
    let tick = 10 * (size + 10) in
    let drawn = asked ++ drawn_commands seed size in
    let before = then_leads no_progress (running asked) (running drawn) (setting_text ++ subscriptions_text) (drawn_lines seed size) 6 size head_leads (commands_lead seed 1 size asked (omega arith)) in
    then_leads no_progress (running drawn) (running (drawn ++ Tick tick ∷ [])) (setting_text ++ subscriptions_text ++ drawn_lines seed size) (tick_line tick) (6 + size) 1 before (tick_leads drawn tick (omega arith))

text_short : (seed size : ℕ) → size ≤ 10000 → length (script_text seed size) ≤ 67108864
text_short seed size few =
    let head = setting_text ++ subscriptions_text in
    let lines = drawn_lines seed size in
    omega (
      arith,
      length-append (head ++ lines) (tick_line (10 * (size + 10))),
      length-append head lines,
      length-append setting_text subscriptions_text,
      head_short,
      lines_short seed 1 size (omega arith),
      tick_short (10 * (size + 10)) (omega arith),
    )

pub text_is_script : (seed size : ℕ) → size ≤ 10000 → script_in (script_text seed size) ≡ Ok (drawn_script seed size)
text_is_script seed size few =
    let text = script_text seed size in
    let end = length (pieces_of text) + 1 in
    let short = text_short seed size few in
    let whole = append-nil text in
    ap script_of (take_all (byte_limit + 1) text (omega (arith, short)))
    ∙ ap (λ (x : List ℕ). script_from end no_progress (lines_from 0 0 (pieces_of x))) (sym whole)
    ∙ text_leads seed size few end 0 0 [] (omega arith) (omega (arith, short, ap length whole))

pub commands_counted : (seed size : ℕ) → count_commands (drawn_script seed size) ≡ size + 3
commands_counted seed size = omega (arith, length-append (asked ++ drawn_commands seed size) (Tick (10 * (size + 10)) ∷ []), length-map-range_with_len (command_at seed) 1 size)
