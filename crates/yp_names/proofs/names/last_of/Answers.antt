use Rattle.std.proofs.Common.{◌∙◌, ◌≡◌, ◌-◌, ap, sym, length, Some}
use Rattle.std.specs.List.{slice_get}
use Rattle.std.specs.Option.{option_copied}
use Rattle.yp_names.specs.NameLaws.{last_get}
use Rattle.yp_names.proofs.names.last_of.Goals as goal

pub returns-in-Some : goal.returns-in-Some
returns-in-Some c =
    let found : slice_get c.items.result.now (length c.items.result.now - 1) ≡ Some c.in-Some.name.now = sym c.last.ensures.value ∙ ap option_copied c.in-Some.is in
    c.as_str.ensures ∙ last_get c.args.path.now c.in-Some.name.now (sym (ap (λ xs. slice_get xs (length xs - 1)) c.items.ensures) ∙ found)
