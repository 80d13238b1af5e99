use Rattle.std.proofs.Common.{rules, [], ◌∷◌, ◌++◌, sym, ap, ◌∙◌, append_assoc}
use Rattle.serde_json.proofs.Views.{Entry}
use Rattle.yp_data_json.proofs.reading.+read.Goals as goal

pub read_members-loop-name-preserved-in-Continue-1 : goal.read_members-loop-name-preserved-in-Continue-1
read_members-loop-name-preserved-in-Continue-1 t c =
    let l = c.loop-name in
    let e : Entry = (c.in-Some.name.now, c.in-Some.json.now) in
    let done = l.invariant.0.0 in
    ((done ++ e ∷ [], l.invariant.0.1 ∙ ap (λ es. done ++ es) c.in-Some.ensures.steps ∙ sym (append_assoc done (e ∷ []) c.next.new.self)), search rules)

pub read_members-loop-name-preserved : goal.read_members-loop-name-preserved
read_members-loop-name-preserved t c =
    let l = c.loop-name in
    let e : Entry = (c.in-Some.name.now, c.in-Some.json.now) in
    let done = l.invariant.0.0 in
    ((done ++ e ∷ [], l.invariant.0.1 ∙ ap (λ es. done ++ es) c.in-Some.ensures.steps ∙ sym (append_assoc done (e ∷ []) c.next.new.self)), search rules)
