use Rattle.std.proofs.Common.{◌≡◌, ◌∙◌, ap, ap₂, codes, true}
use Rattle.std.proofs.lemmas.Result.{IfOk-weaker}
use Rattle.clap.specs.Simple.{Shape, app_of_fields, on_top}
use Rattle.clap.specs.Words.{app_of, new_app, with_rule}
use Rattle.yp_words.specs.Words.{push_settings}
use Rattle.yp_words.proofs.command.command.Goals as goal

abbrev nameless : Shape → Shape
nameless shape = record shape { no_binary_name = true }

abbrev versioned : Shape → Shape
versioned shape = record shape { has_version = true }

pub returns : goal.returns
returns c =
    let unnamed : app_of c.no_binary_name.result ≡ on_top nameless (app_of c.new.result) = ap app_of_fields c.no_binary_name.ensures in
    let version : app_of c.version.result ≡ on_top versioned (app_of c.no_binary_name.result) = ap app_of_fields c.version.ensures in
    let about : app_of c.about.result ≡ app_of c.version.result = ap app_of_fields c.about.ensures in
    let after : app_of c.after_help-command.result ≡ app_of c.about.result = ap app_of_fields c.after_help-command.ensures in
    let begun : app_of c.after_help-command.result ≡ on_top push_settings (new_app (codes "push")) =
    after ∙ about ∙ version ∙ ap (on_top versioned) unnamed ∙ ap (on_top push_settings) c.new.ensures.app in
    let first = c.in_ok-command.ensures.shape c.mode_arg.ensures.local ∙ ap₂ with_rule begun c.mode_arg.ensures.rule in
    let second = c.in_ok-command-2.ensures.shape c.workers_arg.ensures.local ∙ ap₂ with_rule first c.workers_arg.ensures.rule in
    let third = c.in_ok-command-3.ensures.shape c.seed_arg.ensures.local ∙ ap₂ with_rule second c.seed_arg.ensures.rule in
    IfOk-weaker c.arg-4.result _ _ (λ m h. h.shape c.size_arg.ensures.local ∙ ap₂ with_rule third c.size_arg.ensures.rule) c.arg-4.ensures
