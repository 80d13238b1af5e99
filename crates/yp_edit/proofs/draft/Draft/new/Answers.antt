use Rattle.std.proofs.Common.{◌∙◌}
use Rattle.yp_edit.specs.Drafts.{drafted}
use Rattle.yp_edit.proofs.Bases.{none_listed}
use Rattle.yp_edit.proofs.draft.Draft.new.Goals as goal

pub returns : goal.returns
returns c =
    (λ i. drafted (c.new.ensures i) (c.new-2.ensures i))
    ∙ (λ i. record { before = c.args.tree.now; after = none_listed c.args.tree.now i })
