use Rattle.std.proofs.Common.{◌≡◌, List, ◌∷◌, [], ◌++◌, length, map, None, sym, ap, ◌∙◌, arith, length-append}
use Rattle.std.specs.String.{string_bytes, string_eq}
use Rattle.std.specs.Map.{keys_of, values_of, lookup}
use Rattle.std.specs.List.{position}
use Rattle.indexmap.proofs.CallerLemmas.{insert_entry-new}
use Rattle.yp_base.specs.Types.{same_text}
use Rattle.yp_journal.specs.declared.receiver.ReceiverInfo.{ReceiverInfo}
use Rattle.yp_command.specs.Names.{receiver_number, names_of}
use Rattle.yp_command.proofs.KeyLaws.{no_key, names_more, values_more}
use Rattle.yp_command.proofs.receivers.Receivers.push.Goals as goal

pub returns-clause-ok : goal.returns-clause-ok
returns-clause-ok c =
    let m = c.self.inside.by_name in
    let name = c.in_ok-name.name in
    let receiver = c.args.receiver in
    let same : string_bytes name ≡ receiver.name = c.in_ok-name.ensures.ok ∙ c.as_str.ensures in
    let new : position (same_text (string_bytes name)) (names_of (values_of m.entries)) ≡ None =
    ap (λ text. position (same_text text) (names_of (values_of m.entries))) same ∙ ap (λ (receivers : List ReceiverInfo). receiver_number receivers receiver.name) c.self.view_is ∙ c.requires.new in
    let none : lookup (λ k. same_text (string_bytes name) (string_bytes k)) m.entries ≡ None =
    no_key string_bytes (λ (r : ReceiverInfo). r.name) (same_text (string_bytes name)) m.entries c.self.invariant.0 new in
    ap values_of (c.in_ok-insert.ensures.entries ∙ insert_entry-new string_eq m name receiver none)
    ∙ values_more string_bytes (λ (r : ReceiverInfo). r.name) m.entries name receiver ∙ ap (λ (receivers : List ReceiverInfo). receivers ++ receiver ∷ []) c.self.view_is

pub invariant_of-self-2 : goal.invariant_of-self-2
invariant_of-self-2 c =
    let m = c.self.inside.by_name in
    let name = c.in_ok-name.name in
    let receiver = c.args.receiver in
    let same : string_bytes name ≡ receiver.name = c.in_ok-name.ensures.ok ∙ c.as_str.ensures in
    let new : position (same_text (string_bytes name)) (names_of (values_of m.entries)) ≡ None =
    ap (λ text. position (same_text text) (names_of (values_of m.entries))) same ∙ ap (λ (receivers : List ReceiverInfo). receiver_number receivers receiver.name) c.self.view_is ∙ c.requires.new in
    let none : lookup (λ k. same_text (string_bytes name) (string_bytes k)) m.entries ≡ None =
    no_key string_bytes (λ (r : ReceiverInfo). r.name) (same_text (string_bytes name)) m.entries c.self.invariant.0 new in
    let entries : c.insert.new.self.entries ≡ m.entries ++ (name, receiver) ∷ [] = c.in_ok-insert.ensures.entries ∙ insert_entry-new string_eq m name receiver none in
    let values : values_of c.insert.new.self.entries ≡ values_of m.entries ++ receiver ∷ [] = ap values_of entries ∙ values_more string_bytes (λ (r : ReceiverInfo). r.name) m.entries name receiver in (
      ap (λ es. map string_bytes (keys_of es)) entries ∙ names_more string_bytes (λ (r : ReceiverInfo). r.name) m.entries name receiver c.self.invariant.0 same ∙ sym (ap (λ es. names_of (values_of es)) entries),
      omega (arith, ap length values, length-append (values_of m.entries) (receiver ∷ []), ap length c.self.view_is, c.requires.room),
    )
