use Rattle.std.proofs.Common.{◌≡◌, drop}
use Rattle.yp_edit.specs.Patches.{all_edited}
use Rattle.yp_edit.proofs.applying.make_all.Given as goal

abbrev pub invariant-loop-edit : goal.invariant-loop-edit
invariant-loop-edit g l = record {
  number : l.number ≡ l.edit-index;
  before : l.trial.before ≡ l.fn.trial.before;
  after : all_edited l.schema l.number l.trial.after (drop l.edit-index l.edit-items) ≡ all_edited l.schema 0 l.fn.trial.after l.edits;
}
