use Rattle.std.proofs.Common.{◌≡◌, ◌∙◌, ap, map}
use Rattle.std.proofs.lemmas.Result.{IfOk-weaker}
use Rattle.clap.specs.Words.{found_of, kind_of, rows_of}
use Rattle.yp_words.proofs.Bounds.{bounds_told}
use Rattle.yp_words.proofs.Refused.{fault_told, refused}
use Rattle.yp_words.proofs.words.read_words.Goals as goal

pub returns-in-Ok-matches_in-clause-workers : goal.returns-in-Ok-matches_in-clause-workers
returns-in-Ok-matches_in-clause-workers c =
    IfOk-weaker c.answer.result _ _ (λ words h. h.0) (bounds_told (rows_of (found_of c.in-Ok-matches_in.matches)) c.words_of.result c.answer.result c.words_of.ensures c.answer.ensures)

pub returns-in-Ok-matches_in-clause-size : goal.returns-in-Ok-matches_in-clause-size
returns-in-Ok-matches_in-clause-size c =
    IfOk-weaker c.answer.result _ _ (λ words h. h.1) (bounds_told (rows_of (found_of c.in-Ok-matches_in.matches)) c.words_of.result c.answer.result c.words_of.ensures c.answer.ensures)

pub returns-clause-read : goal.returns-clause-read
returns-clause-read c =
    let same : map (λ s. s.now) c.as_slice.result.now ≡ c.args.words.now = ap (map (λ s. s.now)) c.as_slice.ensures.value ∙ c.in-Ok.ensures in
    fault_told c.fault.result c.kind.result _ c.fault.ensures (λ other. refused (map (λ s. s.now) c.as_slice.result.now) c.args.words.now (kind_of c.in-Err.error)
    same (λ memory. other (c.kind.ensures ∙ memory)) c.in-Err.ensures.refused)
