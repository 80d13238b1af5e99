-- Texts that are appended part by part.
use Rattle.std.proofs.Common.{◌≡◌, ℕ, List, ◌++◌, true, sym, ap, ◌∙◌}
use Rattle.std.specs.Prelude.{codes}
use Rattle.std.specs.List.{list_all}
use Rattle.json.specs.Print.{quoted}
use Rattle.yp_json_text.specs.Strings.{stands_for_itself}
use Rattle.yp_json_text.specs.Parts.{both}
use Rattle.yp_json_text.proofs.Plain.{quoted_plain}

pub plain_told : (value bytes old s1 s2 new : List ℕ) → list_all stands_for_itself bytes ≡ true → bytes ≡ value → s1 ≡ old ++ codes "\"" → s2 ≡ s1 ++ value → new ≡ s2 ++ codes "\"" → new ≡ old ++ quoted value
plain_told value bytes old s1 s2 new plain is first second third =
    both old (codes "\"" ++ value) (codes "\"") s2 new (both old (codes "\"") value s1 s2 first second) third
    ∙ ap (λ x. old ++ x) (sym (quoted_plain value (sym (ap (λ (x : List ℕ). list_all stands_for_itself x) is) ∙ plain)))
