use Rattle.std.proofs.Common.{◌∙◌, List, sym, ap, subst, take, suc, arith}
use Rattle.std.proofs.lemmas.List.{take_all}
use Rattle.yp_kept.specs.declared.standing.Standing.{Standing}
use Rattle.yp_kept.specs.Standing.{StandOnWay}
use Rattle.yp_kept.proofs.Ways.{one_more}
use Rattle.yp_kept.proofs.OnWay.{cut_stands}
use Rattle.yp_kept.proofs.standing.keep_shared.Goals as goal

pub returns-then-shared-len-clause-stand : goal.returns-then-shared-len-clause-stand
returns-then-shared-len-clause-stand c = λ nodes rows set stand.
    let items = c.args.standings.now.items in
    let shared = c.shared_len-shared.result in
    subst (λ (xs : List Standing). StandOnWay nodes rows set c.args.path.now xs) (sym (c.truncate.ensures.items ∙ ap (λ n. take n items) (one_more shared)))
    (cut_stands nodes rows set c.args.last.now c.args.path.now items shared c.shared_len-shared.ensures.same stand)

pub returns-else-shared-len-clause-stand : goal.returns-else-shared-len-clause-stand
returns-else-shared-len-clause-stand c = λ nodes rows set stand.
    let items = c.args.standings.now.items in
    let shared = c.shared_len-shared.result in
    subst (λ (xs : List Standing). StandOnWay nodes rows set c.args.path.now xs) (take_all (suc shared) items (omega (arith, c.if-shared-len.false, c.len.ensures)))
    (cut_stands nodes rows set c.args.last.now c.args.path.now items shared c.shared_len-shared.ensures.same stand)
