use Rattle.std.proofs.Common.{◌++◌, ◌<◌, length, drop, sym, ap, subst, ◌∙◌, string_bytes}
use Rattle.std.specs.List.{AllByRecursion}
use Rattle.serde_json.specs.Data.{no_members}
use Rattle.serde_json.specs.Written.{members_text}
use Rattle.yp_data_json.specs.EntryKeys.{followed_by}
use Rattle.yp_data_json.proofs.KeysAmong.{among_none, keys_below}
use Rattle.yp_data_json.proofs.entry_keys.push_last_keys.Goals as goal

pub push_keys-requires : goal.push_keys-requires
push_keys-requires c =
    let nodes = c.args.schema.now in
    subst (AllByRecursion (λ key. key.leaf < length nodes)) (sym c.split_at.ensures.back) (keys_below nodes c.requires.below.0 (drop c.args.next c.args.keys.now) c.requires.below.1)

pub returns : goal.returns
returns c =
    let nodes = c.args.schema.now in
    let old = string_bytes c.args.text.now in
    ap (λ ms. old ++ members_text c.args.later ms)
    (among_none nodes c.requires.schema c.requires.below.0 (drop c.args.next c.args.keys.now) c.requires.below.1 c.requires.ascending ∙ sym (ap (λ keys. followed_by nodes keys no_members) c.split_at.ensures.back))
    ∙ c.in_ok-push_keys.ensures no_members
    ∙ sym c.in_ok-push_str.ensures.bytes
