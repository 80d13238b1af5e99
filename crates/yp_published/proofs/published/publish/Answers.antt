use Rattle.std.proofs.Common.{ap, ◌∙◌}
use Rattle.yp_published.specs.Histories.{after_op}
use Rattle.yp_published.proofs.Views.{in_ok, one_absorbed, one_pending, turns_one}
use Rattle.yp_published.proofs.published.publish.Goals as goal

pub publish_as-writer-requires : goal.publish_as-writer-requires
publish_as-writer-requires g c next is =
    let one = one_pending c.args.op _ _ c.requires.settled c.if-not-append.ensures.pending in
    turns_one _ _ c.append.new.writer.desk.shown.value next c.args.op _ (ap (λ d. d.shown.value.ended) c.append.ensures.desk ∙ c.requires.goes_on) one is

pub returns-in-Ok : goal.returns-in-Ok
returns-in-Ok g c =
    let one = one_pending c.args.op _ _ c.requires.settled c.if-not-append.ensures.pending in
    let values = in_ok _ _ _ _ c.in-Ok.is c.publish_as-writer.ensures.values in (
      values.1,
      one_absorbed c.append.new.writer.desk.shown.value _ c.args.op _ one values.0 ∙ ap (λ d. after_op d.shown.value c.args.op) c.append.ensures.desk,
    )
