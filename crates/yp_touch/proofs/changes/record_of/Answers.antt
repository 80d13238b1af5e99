use Rattle.std.proofs.Common.{List, sym, subst, ◌∙◌, arith}
use Rattle.std.specs.List.{AllByRecursion}
use Rattle.std.proofs.lemmas.List.{drop_all}
use Rattle.yp_base.specs.declared.notice.Change.{Change}
use Rattle.yp_encode.specs.Sendable.{IsSendableChange}
use Rattle.yp_touch.specs.RecordLaws.{record_sendable}
use Rattle.yp_touch.proofs.Edits.{changes_to, none_made, all_made}
use Rattle.yp_touch.proofs.changes.record_of.Goals as goal

pub loop-row-init : goal.loop-row-init
loop-row-init g c = record {
  made = none_made c.args.schema.now (g.R.Readable.may c.args.readable.now c.args.schema.now) c.args.rows.now c.args.changed.now c.new-changes.result.items c.new-changes.ensures.items
      (changes_to c.args.schema.now c.requires.changed.0 c.args.rows.now c.args.changed.now c.requires.changed.1 c.requires.datastore c.requires.changed.2);
  visits = omega arith;
}

pub returns-clause-changes : goal.returns-clause-changes
returns-clause-changes g c = λ before old are.
    c.from_vec.ensures
    ∙ all_made c.args.schema.now (g.R.Readable.may c.args.readable.now c.args.schema.now) c.args.rows.now c.args.changed.now before _ _ c.loop-row.changes.items c.loop-row.invariant.made (drop_all c.loop-row.row-index c.args.changed.now c.loop-row-test.false) old are

pub returns-clause-sendable : goal.returns-clause-sendable
returns-clause-sendable g c =
    let before = c.requires.changed in
    let changes = c.from_vec.ensures
    ∙ all_made c.args.schema.now (g.R.Readable.may c.args.readable.now c.args.schema.now) c.args.rows.now c.args.changed.now before.0 _ _ c.loop-row.changes.items c.loop-row.invariant.made (drop_all c.loop-row.row-index c.args.changed.now c.loop-row-test.false) before.1 before.2 in
    subst (λ (changes : List Change). AllByRecursion (IsSendableChange c.args.schema.now) changes) (sym changes) (record_sendable c.args.schema.now (g.R.Readable.may c.args.readable.now c.args.schema.now) before.0 c.args.rows.now before.1 c.requires.datastore)
