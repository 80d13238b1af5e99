use Rattle.std.proofs.Common.{ap, sym, ◌∙◌, map}
use Rattle.yp_base.specs.Rows.{path_of, has_within}
use Rattle.yp_edit.specs.Bases.{Touched, untouched}
use Rattle.yp_edit.proofs.Bases.{more_bare}
use Rattle.yp_edit.proofs.Touching.{none_left}
use Rattle.yp_edit.proofs.base.Base.has_within.Goals as goal

pub invariant_of-self-in-Some : goal.invariant_of-self-in-Some
invariant_of-self-in-Some g c = (
  more_bare c.in_ok-copy-in-Some.field-0 c.self.inside.tree.now (map path_of c.self.inside.touched) c.self.inside.bare.keys c.insert.new.self.keys c.self.inside.count c.self.invariant.0
      (λ q. c.in_ok-insert-in-Some.ensures.updates.0 q)
      (ap (λ path. has_within path (untouched (record { rows = c.self.inside.tree.now; paths = map path_of c.self.inside.touched }))) c.in_ok-copy-in-Some.ensures
      ∙ ap (λ (b : Touched). has_within c.args.target.now (untouched b)) c.self.view_is
      ∙ sym c.finds_from.ensures ∙ c.if-finds_from.false),
  c.self.invariant.1,
  c.self.invariant.2,
  c.self.invariant.3,
)

pub clear-requires : goal.clear-requires
clear-requires g c =
    ap (λ (b : Touched). has_within c.args.target.now (untouched b)) (sym c.self.view_is)
    ∙ none_left c.args.target.now (map path_of c.self.inside.touched) c.self.inside.tree.now (sym c.in-None.ensures.there)

pub returns-in_ok-clear-in-None-clause-found : goal.returns-in_ok-clear-in-None-clause-found
returns-in_ok-clear-in-None-clause-found g c =
    sym (none_left c.args.target.now (map path_of c.self.inside.touched) c.self.inside.tree.now (sym c.in-None.ensures.there))
    ∙ ap (λ (b : Touched). has_within c.args.target.now (untouched b)) c.self.view_is
