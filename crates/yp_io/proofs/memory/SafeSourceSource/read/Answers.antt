use Rattle.std.proofs.Common.{refl, arith, length-drop, ◌∙◌, sym, length, ◌<◌}
use Rattle.std.proofs.lemmas.List.{nil_from_length}
use Rattle.yp_io.proofs.memory.SafeSourceSource.read.Goals as goal

pub returns-then-count-eq0-clause-bytes : goal.returns-then-count-eq0-clause-bytes
returns-then-count-eq0-clause-bytes c =
    let fits : 0 < length c.args.into.now = c.requires in
    (sym c.self.view_is ∙ nil_from_length _ (omega (arith, length-drop c.self.inside.at c.self.inside.kept.items, fits, c.if-count-eq0.true, c.min-count.ensures, c.len.ensures, c.self.invariant)), refl)
