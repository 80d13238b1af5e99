use Rattle.std.proofs.Common.{◌≡◌, ◌∙◌, ◌++◌, ◌∷◌, [], List, ap, length, map, subst, sym, arith}
use Rattle.std.specs.List.{AllByRecursion}
use Rattle.std.proofs.lemmas.List.{append-nil, append_assoc, map-append, nil_from_length}
use Rattle.std.specs.Vec.Iter.{into_iter_items}
use Rattle.yp_turns.specs.declared.turns.Turn.{Turn}
use Rattle.yp_turns.specs.Journal.{turn_of}
use Rattle.yp_turns.specs.Turns.{MayTake}
use Rattle.yp_live.proofs.run.run_turns.Goals as goal

pub loop-turn-preserved : goal.loop-turn-preserved
loop-turn-preserved c =
    let inv = c.loop-turn.invariant in
    let done : List Turn = map turn_of inv.entries in
    let rest : List Turn = into_iter_items c.next.new.self in
    let cut : into_iter_items c.loop-turn.turn-iterator ≡ c.in-Some.turn ∷ rest = c.in-Some.ensures.steps.0 in
    let count = ap (λ (turns : List Turn). length turns) cut in
    let more = c.in_ok-run_turn.ensures.run inv.entries inv.run in
    record {
      entries = inv.entries ++ more.0 ∷ [];
      run = more.1.1;
      turns = ap (λ (turns : List Turn). turns ++ rest) (map-append turn_of inv.entries (more.0 ∷ []))
          ∙ (append_assoc done (turn_of more.0 ∷ []) rest
          ∙ (ap (λ (turn : Turn). done ++ turn ∷ rest) more.1.0
          ∙ (ap (λ (turns : List Turn). done ++ turns) (sym cut) ∙ inv.turns)));
      may = (subst (AllByRecursion (MayTake c.args.setting.now.schema.now c.args.setting.now.receivers.now)) cut inv.may).1;
      count = omega (arith, count, inv.count, c.in_ok-run_turn.ensures.count);
    }

pub returns : goal.returns
returns c =
    let inv = c.loop-turn.invariant in
    let done : List Turn = map turn_of inv.entries in
    let none : into_iter_items c.loop-turn.turn-iterator ≡ [] = nil_from_length _ (sym c.loop-turn.turn-iterator.rest.ok.0 ∙ c.in-None.ensures.steps.0) in
    (inv.entries, (sym (append-nil done) ∙ (ap (λ (rest : List Turn). done ++ rest) (sym none) ∙ inv.turns), inv.run))
