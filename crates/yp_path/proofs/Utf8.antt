use Rattle.std.proofs.Common.{◌≡◌, ℕ, List, true, false, sym, ◌∙◌, ap, subst, ⊎_elim, IsUtf8, Some, None, if◌then◌else◌}
use Rattle.std.specs.Str.{is_utf8}
use Rattle.std.proofs.lemmas.Bool.{cond-true, cond-false, cases_Bool}
use Rattle.std.proofs.lemmas.Str.{is_utf8-from_IsUtf8, IsUtf8-from_is_utf8}

pub utf8_kept : (bs : List ℕ) → IsUtf8 bs → Some bs ≡ (if is_utf8 bs then Some bs else None)
utf8_kept bs h = sym (cond-true _ _ _ (is_utf8-from_IsUtf8 bs h))

pub utf8_same : (text bs : List ℕ) → IsUtf8 text → text ≡ bs → Some text ≡ (if is_utf8 bs then Some bs else None)
utf8_same text bs h e = ap (λ x. Some x) e ∙ utf8_kept bs (subst IsUtf8 e h)

pub no_utf8 : (bs : List ℕ) → (IsUtf8 bs → false ≡ true) → None ≡ (if is_utf8 bs then Some bs else None)
no_utf8 bs h = ⊎_elim (λ e. let wrong : false ≡ true = h (IsUtf8-from_is_utf8 bs e) in cc) (λ e. sym (cond-false _ _ _ e)) (cases_Bool (is_utf8 bs))
