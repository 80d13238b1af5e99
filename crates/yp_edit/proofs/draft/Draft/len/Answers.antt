use Rattle.std.proofs.Common.{◌+◌, length, ap, ◌∙◌}
use Rattle.yp_edit.specs.Drafts.{Drafted}
use Rattle.yp_edit.proofs.Drafts.{length_drafted}
use Rattle.yp_edit.proofs.draft.Draft.len.Goals as goal

pub returns : goal.returns
returns c =
    (λ i. c.len.ensures.count i + c.len-2.ensures.count i)
    ∙ length_drafted c.self.inside.base c.self.inside.put c.len.ensures.order c.self.invariant
    ∙ ap (λ (d : Drafted). length d.after) c.self.view_is
