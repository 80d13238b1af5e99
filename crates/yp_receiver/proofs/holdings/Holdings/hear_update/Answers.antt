use Rattle.std.proofs.Common.{◌≡◌, ℕ, List, [], Option, Some, ap, sym, ◌∙◌, unwrap_or}
use Rattle.std.specs.BTreeMap.{insert_entry, is_at}
use Rattle.std.specs.Map.{lookup, set_value}
use Rattle.std.specs.Option.{option_copied_mut}
use Rattle.std.specs.Ordering.{nat_cmp}
use Rattle.std.proofs.lemmas.Map.Steps.{set_value_same}
use Rattle.std.proofs.lemmas.Result.{on_err_weaker}
use Rattle.yp_base.specs.declared.row.Row.{Row}
use Rattle.yp_base.specs.Rows.{changed_by}
use Rattle.yp_receiver.specs.Held.{held_of}
use Rattle.yp_receiver.proofs.Held.{set_there, when_ok}
use Rattle.yp_receiver.proofs.holdings.Holdings.hear_update.Goals as goal

-- the rows are written where they were found
pub returns-in-Some-clause-heard : goal.returns-in-Some-clause-heard
returns-in-Some-clause-heard c =
    let id = c.args.id in
    let before : List (ℕ × List Row) = c.self.inside.kept.entries in
    let rows : List Row = c.in-Some.rows.now in
    let found : lookup (is_at (nat_cmp id)) before ≡ Some rows = sym c.get_mut.ensures.value ∙ ap option_copied_mut c.in-Some.is in
    let held : held_of id c.args.self.now ≡ Some rows = ap (held_of id) (sym c.self.view_is) ∙ found in
    when_ok c.change.result c.change.ensures.heard (λ heard.
    (c.get_mut.follows.holds c.change.new.self).0
    ∙ set_there id rows c.change.new.self before c.get_mut.ensures.ordered found
    ∙ ap (λ (es : List (ℕ × List Row)). insert_entry nat_cmp es id c.change.new.self) c.self.view_is
    ∙ ap (λ (new : List Row). insert_entry nat_cmp c.args.self.now id new) (heard ∙ ap (λ (o : Option (List Row)). changed_by c.args.changes.now (unwrap_or o [])) (sym held)))

-- what was found is written back
pub returns-in-Some-clause-unchanged : goal.returns-in-Some-clause-unchanged
returns-in-Some-clause-unchanged c =
    let before : List (ℕ × List Row) = c.self.inside.kept.entries in
    let test = is_at (nat_cmp c.args.id) in
    let found : lookup test before ≡ Some c.in-Some.rows.now = sym c.get_mut.ensures.value ∙ ap option_copied_mut c.in-Some.is in
    on_err_weaker c.change.result (λ same.
    (c.get_mut.follows.holds c.change.new.self).0
    ∙ ap (set_value test before) same
    ∙ set_value_same test before c.in-Some.rows.now found
    ∙ c.self.view_is) c.change.ensures.unchanged
