use Rattle.std.proofs.Common.{◌≡◌, ◌∙◌, ap, map, List, subst}
use Rattle.std.proofs.lemmas.Result.{IfOk-weaker}
use Rattle.clap.specs.Words.{HasKind, Text, fault_of, kind_of, matches_of}
use Rattle.yp_words.specs.Words.{push_app}
use Rattle.yp_words.proofs.Requests.{requests_say_nothing, text_told}
use Rattle.yp_words.proofs.help.help_text.Goals as goal

pub returns-clause-text : goal.returns-clause-text
returns-clause-text c =
    let same : map (λ s. s.now) c.as_slice.result.now ≡ c.args.words.now = ap (map (λ s. s.now)) c.as_slice.ensures.value ∙ c.in_ok-texts.ensures in
    let refused = subst (λ (words : List Text). HasKind (fault_of push_app words) c.in-Err.error) same c.in-Err.ensures.refused in
    IfOk-weaker c.text_of.result _ _ (λ text h. text_told text (fault_of push_app c.args.words.now) (kind_of c.in-Err.error) h.0 refused h.1) c.text_of.ensures

pub returns-clause-bad : goal.returns-clause-bad
returns-clause-bad c =
    IfOk-weaker c.text_of.result _ _ (λ text h. requests_say_nothing text (fault_of push_app c.args.words.now) (matches_of push_app c.args.words.now) h) (returns-clause-text c)
