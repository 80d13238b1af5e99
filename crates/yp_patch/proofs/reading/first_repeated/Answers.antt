use Rattle.std.proofs.Common.{refl, ap, sym, ◌∙◌, arith}
use Rattle.std.proofs.lemmas.List.{take_all}
use Rattle.yp_base.specs.Types.{are_distinct}
use Rattle.yp_patch.specs.Shapes.{ids_of}
use Rattle.yp_base.specs.DistinctLaws.{told_new, told_old}
use Rattle.yp_patch.proofs.Distinct.{is_seen, seen_more, edit_seen, still_distinct, seen_twice}
use Rattle.yp_patch.proofs.reading.first_repeated.Goals as goal

pub loop-edit-init : goal.loop-edit-init
loop-edit-init c = record {
  seen = λ text. ap (is_seen text) c.new-seen.ensures.empty;
  distinct = refl;
}

pub returns-then-not-branch : goal.returns-then-not-branch
returns-then-not-branch c =
    sym (seen_twice c.args.edits.now c.loop-edit.edit-index c.edit-item.result (omega arith) c.edit-item.is
    (told_old c.in_ok-insert.field-0 _ _ c.in_ok-insert.ensures.added (c.loop-edit.invariant.seen c.edit-item.result.id) c.if-not-branch.true))

pub loop-edit-preserved : goal.loop-edit-preserved
loop-edit-preserved c = record {
  seen = λ text.
      edit_seen c.args.edits.now c.loop-edit.edit-index c.edit-item.result text _ _ (omega arith) c.edit-item.is
      (ap (is_seen text) c.in_ok-insert.ensures.keys ∙ seen_more text _ _) (c.loop-edit.invariant.seen text);
  distinct =
      still_distinct c.args.edits.now c.loop-edit.edit-index c.edit-item.result (omega arith) c.edit-item.is
      (told_new c.in_ok-insert.field-0 _ _ c.in_ok-insert.ensures.added (c.loop-edit.invariant.seen c.edit-item.result.id) c.if-not-branch.false) c.loop-edit.invariant.distinct;
}

pub returns : goal.returns
returns c = sym (ap (λ edits. are_distinct (ids_of edits)) (sym (take_all c.loop-edit.edit-index c.args.edits.now (omega arith))) ∙ c.loop-edit.invariant.distinct)
