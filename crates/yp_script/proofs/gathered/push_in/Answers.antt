use Rattle.std.proofs.Common.{◌≡◌, ℕ, ◌-◌, ◌<◌, List, ◌∷◌, [], ◌++◌, length, map, set, get_or, Result, Ok, Err, OnOk, sym, ap, ◌∙◌, arith}
use Rattle.std.proofs.lemmas.List.{map-set, get_or-map}
use Rattle.yp_journal.specs.declared.command.Command.{Command}
use Rattle.yp_script.specs.declared.gathered.Gathered.{Gathered}
use Rattle.yp_script.specs.Script.{in_lane}
use Rattle.yp_script.proofs.gathered.push_in.Goals as goal

abbrev kept : Gathered → List Command
kept lane = lane.commands.items

put : (lanes : List Gathered) (number : ℕ) (command : Command) (old new : Gathered) → number - 1 < length lanes → old ≡ get_or lanes (number - 1) old → kept new ≡ kept old ++ command ∷ []
    → map kept (set lanes (number - 1) new) ≡ in_lane number command (map kept lanes)
put lanes number command old new within is more =
    map-set kept lanes (number - 1) new
    ∙ ap (set (map kept lanes) (number - 1)) (more ∙ ap (λ commands. commands ++ command ∷ []) (ap kept is ∙ sym (get_or-map kept lanes (number - 1) old [] within)))

on_ok : {T E : Type 0} (r : Result T E) (P Q : Type 0) → OnOk r P → (P → Q) → OnOk r Q
on_ok (Ok x) P Q is then = then is
on_ok (Err e) P Q is then = tt

pub returns : goal.returns
returns c =
    let lanes = c.args.lanes.now.items in
    on_ok c.push.result (kept c.push.new.self ≡ kept c.index_mut.result.now ++ c.args.laned.command ∷ []) (map kept (set lanes (c.args.laned.lane - 1) c.push.new.self) ≡ in_lane c.args.laned.lane c.args.laned.command (map kept lanes)) c.push.ensures.ok
    (λ more. put lanes c.args.laned.lane c.args.laned.command c.index_mut.result.now c.push.new.self (omega (arith, c.args.lanes.now.ok.0)) c.index_mut.ensures.value more)
