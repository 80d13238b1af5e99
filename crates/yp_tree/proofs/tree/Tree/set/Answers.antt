use Rattle.std.proofs.Common.{ap, sym, subst, ◌∙◌, ◌≡◌, true, false}
use Rattle.std.specs.Prelude.{is_some}
use Rattle.std.specs.Option.{option_copied_mut}
use Rattle.yp_base.specs.Rows.{AreInOrder, row_of, rows_of}
use Rattle.yp_tree.specs.declared.tree.Tree.TheInside.{Inside}
use Rattle.yp_tree.specs.Listed.{set_row}
use Rattle.yp_tree.proofs.Rows.{set_found, set_nowhere, set_order}
use Rattle.yp_tree.proofs.tree.Tree.set.Goals.{in-Some+in-Atom+in-Text-1, in-Some+in-Atom+in-Bool-1, in-Some+in-Member-1, in_default+in-Atom+in-Text-1, in_default+in-Atom+in-Bool-1, in_default+in-Member-1}
use Rattle.yp_tree.proofs.tree.Tree.set.Goals as goal

pub returns : goal.returns
returns c =
    let path = c.args.path.now in
    let value = c.args.value in
    let now = c.match-get_mut.self-inside in
    let kept = c.self.inside.kept in
    let written : now ≡ record { kept = c.get_mut.follows.lender value } → is_some (option_copied_mut c.get_mut.result) ≡ true → rows_of now.kept.entries ≡ set_row (row_of (path, value)) c.args.self.now = λ is found.
    ap (λ (t : Inside). rows_of t.kept.entries) is ∙ ap rows_of (c.get_mut.follows.holds value).0 ∙ set_found path value kept.entries c.self.invariant (ap is_some (sym c.get_mut.ensures.value) ∙ found) ∙ ap (set_row (row_of (path, value))) c.self.view_is in
    let left : now ≡ record { kept = c.get_mut.follows.lender-at-none } → is_some (option_copied_mut c.get_mut.result) ≡ false → rows_of now.kept.entries ≡ set_row (row_of (path, value)) c.args.self.now = λ is missing.
    ap (λ (t : Inside). rows_of t.kept.entries) is ∙ ap (λ m. rows_of m.entries) c.get_mut.follows.holds-at-none ∙ set_nowhere path value kept.entries (ap is_some (sym c.get_mut.ensures.value) ∙ missing) ∙ ap (set_row (row_of (path, value))) c.self.view_is in
    elim c.match-get_mut.branch [
      | in-Some+in-Atom+in-Text-1 w ↦ written w.self-inside-is (ap (λ r. is_some (option_copied_mut r)) w.in-Some.is)
      | in-Some+in-Atom+in-Bool-1 w ↦ written w.self-inside-is (ap (λ r. is_some (option_copied_mut r)) w.in-Some.is)
      | in-Some+in-Member-1 w ↦ written w.self-inside-is (ap (λ r. is_some (option_copied_mut r)) w.in-Some.is)
      | in_default+in-Atom+in-Text-1 w ↦ left w.self-inside-is (ap (λ r. is_some (option_copied_mut r)) w.in_default.is)
      | in_default+in-Atom+in-Bool-1 w ↦ left w.self-inside-is (ap (λ r. is_some (option_copied_mut r)) w.in_default.is)
      | in_default+in-Member-1 w ↦ left w.self-inside-is (ap (λ r. is_some (option_copied_mut r)) w.in_default.is)
    ]

pub invariant_of-self : goal.invariant_of-self
invariant_of-self c = subst AreInOrder (sym (returns c)) (set_order (row_of (c.args.path.now, c.args.value)) c.args.self.now (subst AreInOrder c.self.view_is c.self.invariant))
