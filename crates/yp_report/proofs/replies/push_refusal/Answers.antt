use Rattle.std.proofs.Common.{◌≡◌, ℕ, List, ◌++◌, sym, ap, ◌∙◌, refl, codes, string_bytes}
use Rattle.std.specs.Prelude.{Result, Ok, Err, OnOk, false, is_ok, true, if◌then◌else◌}
use Rattle.json.specs.Print.{escape_byte}
use Rattle.serde_json.specs.Written.{compact_text}
use Rattle.yp_terms.specs.declared.refused.Refused.{Refused}
use Rattle.yp_terms.specs.declared.refused.Refused.TheVariants.{AccessDenied, DatastoreNotSubscribable, NoSuchSubscription, OnChangeSyncUnsupported}
use Rattle.yp_journal.specs.declared.reply.Reply.TheVariants.{Registry}
use Rattle.yp_report.specs.Report.{reply_data}
use Rattle.yp_report.proofs.replies.push_refusal.Goals as goal

denied : compact_text (reply_data (Registry AccessDenied)) ≡ codes "{\"error\":\"access-denied\"}"
unfolding escape_byte
denied = refl

elsewhere : compact_text (reply_data (Registry DatastoreNotSubscribable)) ≡ codes "{\"error\":\"datastore-not-subscribable\"}"
unfolding escape_byte
elsewhere = refl

missing : compact_text (reply_data (Registry (NoSuchSubscription false))) ≡ codes "{\"error\":\"no-such-subscription\"}"
unfolding escape_byte
missing = refl

missing_resync : compact_text (reply_data (Registry (NoSuchSubscription true))) ≡ codes "{\"error\":\"no-such-subscription-resync\"}"
unfolding escape_byte
missing_resync = refl

without_sync : compact_text (reply_data (Registry OnChangeSyncUnsupported)) ≡ codes "{\"error\":\"on-change-sync-unsupported\"}"
unfolding escape_byte
without_sync = refl

told_as : (old text : List ℕ) (refusal one : Refused) → refusal ≡ one → compact_text (reply_data (Registry one)) ≡ text → old ++ text ≡ old ++ compact_text (reply_data (Registry refusal))
told_as old text refusal one is told = ap (λ (x : List ℕ). old ++ x) (sym told ∙ ap (λ (r : Refused). compact_text (reply_data (Registry r))) (sym is))

pushed : {X E : Type 0} (result : Result X E) (new old text wanted : List ℕ) → new ≡ (if is_ok result then old ++ text else old) → old ++ text ≡ wanted → OnOk result (new ≡ wanted)
pushed (Ok x) new old text wanted is told = is ∙ told
pushed (Err e) new old text wanted is told = tt

pub returns-in-AccessDenied : goal.returns-in-AccessDenied
returns-in-AccessDenied c =
    let old = string_bytes c.args.text.now in
    let text = codes "{\"error\":\"access-denied\"}" in
    pushed c.push_str.result (string_bytes c.push_str.new.self) old text (old ++ compact_text (reply_data (Registry c.args.refusal))) c.push_str.ensures.bytes (told_as old text c.args.refusal AccessDenied c.in-AccessDenied.is denied)

pub returns-in-DatastoreNotSubscribable : goal.returns-in-DatastoreNotSubscribable
returns-in-DatastoreNotSubscribable c =
    let old = string_bytes c.args.text.now in
    let text = codes "{\"error\":\"datastore-not-subscribable\"}" in
    pushed c.push_str-in-DatastoreNotSubscribable.result (string_bytes c.push_str-in-DatastoreNotSubscribable.new.self) old text (old ++ compact_text (reply_data (Registry c.args.refusal)))
    c.push_str-in-DatastoreNotSubscribable.ensures.bytes (told_as old text c.args.refusal DatastoreNotSubscribable c.in-DatastoreNotSubscribable.is elsewhere)

pub returns-in-NoSuchSubscription-false : goal.returns-in-NoSuchSubscription-false
returns-in-NoSuchSubscription-false c =
    let old = string_bytes c.args.text.now in
    let text = codes "{\"error\":\"no-such-subscription\"}" in
    pushed c.push_str-in-NoSuchSubscription-false.result (string_bytes c.push_str-in-NoSuchSubscription-false.new.self) old text (old ++ compact_text (reply_data (Registry c.args.refusal)))
    c.push_str-in-NoSuchSubscription-false.ensures.bytes (told_as old text c.args.refusal (NoSuchSubscription false) (c.in-NoSuchSubscription-false.is ∙ ap NoSuchSubscription c.in-NoSuchSubscription-false.resync-test) missing)

pub returns-in-NoSuchSubscription-true : goal.returns-in-NoSuchSubscription-true
returns-in-NoSuchSubscription-true c =
    let old = string_bytes c.args.text.now in
    let text = codes "{\"error\":\"no-such-subscription-resync\"}" in
    pushed c.push_str-in-NoSuchSubscription-true.result (string_bytes c.push_str-in-NoSuchSubscription-true.new.self) old text (old ++ compact_text (reply_data (Registry c.args.refusal)))
    c.push_str-in-NoSuchSubscription-true.ensures.bytes (told_as old text c.args.refusal (NoSuchSubscription true) (c.in-NoSuchSubscription-true.is ∙ ap NoSuchSubscription c.in-NoSuchSubscription-true.resync-test) missing_resync)

pub returns-in-OnChangeSyncUnsupported : goal.returns-in-OnChangeSyncUnsupported
returns-in-OnChangeSyncUnsupported c =
    let old = string_bytes c.args.text.now in
    let text = codes "{\"error\":\"on-change-sync-unsupported\"}" in
    pushed c.push_str-in-OnChangeSyncUnsupported.result (string_bytes c.push_str-in-OnChangeSyncUnsupported.new.self) old text (old ++ compact_text (reply_data (Registry c.args.refusal)))
    c.push_str-in-OnChangeSyncUnsupported.ensures.bytes (told_as old text c.args.refusal OnChangeSyncUnsupported c.in-OnChangeSyncUnsupported.is without_sync)
