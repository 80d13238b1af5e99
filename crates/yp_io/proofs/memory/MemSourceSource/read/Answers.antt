use Rattle.std.proofs.Common.{arith, length-drop, ◌∙◌, ap, sym, length, ◌<◌, Some}
use Rattle.std.proofs.lemmas.List.{nil_from_length}
use Rattle.yp_io.specs.Memory.{Supply}
use Rattle.yp_io.proofs.memory.MemSourceSource.read.Goals as goal

pub returns-then-count-eq0-clause-bytes : goal.returns-then-count-eq0-clause-bytes
returns-then-count-eq0-clause-bytes c =
    let fits : 0 < length c.args.into.now = c.requires in
    let same = ap (λ (s : Supply). s.bytes) c.self.view_is in
    (sym same ∙ nil_from_length _ (omega (arith, length-drop c.self.inside.at c.self.inside.kept.items, fits, c.if-count-eq0.true, c.min.ensures, c.min-count.ensures, c.len.ensures, c.self.invariant.0, c.self.invariant.1)), ap Some same)
