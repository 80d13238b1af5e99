use Rattle.std.proofs.Common.{rules, ◌≡◌, ℕ, List, ◌++◌, ◌∷◌, [], ap, ◌∙◌}
use Rattle.std.specs.Prelude.{cond}
use Rattle.std.specs.List.{slice_get}
use Rattle.yp_registry.specs.Configuring.{is_asked}
use Rattle.yp_registry.proofs.Numbers.{named_more}
use Rattle.yp_registry.proofs.registry.Registry.numbers_named.Goals.{then-is_asked+in_ok-push, else-is_asked}
use Rattle.yp_registry.proofs.registry.Registry.numbers_named.Goals as goal

pub loop-number-preserved : goal.loop-number-preserved
loop-number-preserved c =
    let more : c.if-is_asked.numbers.items ≡ c.loop-number.numbers.items ++ cond c.is_asked.result (c.loop-number.number ∷ []) [] =
    elim c.if-is_asked.branch [
      | then-is_asked+in_ok-push w ↦ search rules
      | else-is_asked w ↦ search rules
    ] in
    named_more c.args.asked.now c.args.self.now.names c.loop-number.number _ _ c.is_asked.result (c.is_asked.ensures ∙ ap (λ (names : List (List ℕ)). is_asked c.args.asked.now (slice_get names c.loop-number.number)) c.names.ensures) c.loop-number.invariant more
