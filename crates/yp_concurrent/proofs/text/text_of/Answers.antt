use Rattle.std.proofs.Common.{◌≡◌, ℕ, List, subst, sym, string_bytes}
use Rattle.std.specs.Global.{Vec}
use Rattle.std.proofs.lemmas.Result.{IfOk-weaker}
use Rattle.yp_attempt.specs.Runs.{Run}
use Rattle.yp_listeners.specs.declared.listener.Listener.{Listener}
use Rattle.yp_concurrent.specs.Texts.{HaveLogs, text_beside}
use Rattle.yp_concurrent.proofs.text.text_of.Goals as goal

pub returns : goal.returns
returns c =
    IfOk-weaker c.whole_text.result
    (λ text. (start : ℕ) (runs : List Run) → HaveLogs c.args.schema.now start runs c.in_ok-listeners.listeners.items → string_bytes text ≡ text_beside c.args.schema.now start c.args.receivers.now c.args.standing.replies.items runs) _
    (λ text told. λ start runs have. told start runs (subst (λ (those : List (Vec Listener)). HaveLogs c.args.schema.now start runs those) (sym c.in_ok-listeners.ensures) have)) c.whole_text.ensures
