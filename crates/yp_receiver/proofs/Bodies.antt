-- The bodies of notices are readable JSON.
use Rattle.std.proofs.Common.{◌≡◌, ℕ, ◌+◌, ◌/◌, ◌%◌, ◌<◌, ◌≤◌, ◌^◌, ◌==◌, ◌&&◌, ◌||◌, List, [], ◌∷◌, ◌++◌, length, Bool, true, false, cond, All, IsUtf8, nat_le, nat_lt, codes, decimal, refl, arith}
use Rattle.std.specs.List.{AllByRecursion}
use Rattle.std.proofs.lemmas.Bool.{and_parts, and_from, leb-true, lt-ltb}
use Rattle.std.proofs.lemmas.Fmt.{IsAscii-decimal}
use Rattle.std.proofs.lemmas.List.Elements.{All-head, All-tail}
use Rattle.std.proofs.lemmas.Str.{IsUtf8-append, IsUtf8-nil, IsUtf8-from_ascii}
use Rattle.json.proofs.Printed.Utf8.{IsUtf8-are_ascii}
use Rattle.serde_json.specs.Data.{Data, Members, object}
use Rattle.yp_base.specs.declared.atom.Atom.{Atom}
use Rattle.yp_base.specs.declared.notice.Change.{Change}
use Rattle.yp_base.specs.declared.notice.ChangeKind.{ChangeKind}
use Rattle.yp_base.specs.declared.notice.ChangeKind.TheVariants.{Create, Delete, Insert, Move, Replace}
use Rattle.yp_base.specs.declared.notice.Notice.{Notice}
use Rattle.yp_base.specs.declared.notice.Notice.TheVariants as notices
use Rattle.yp_base.specs.declared.path.Seg.{Seg}
use Rattle.yp_base.specs.declared.row.Row.{Row}
use Rattle.yp_value.specs.TextLaws.{or_else}
use Rattle.yp_value.specs.Texts.{atom_text}
use Rattle.yp_schema.specs.declared.schema.SchemaNode.{SchemaNode}
use Rattle.yp_schema.specs.Nodes.{node_at}
use Rattle.yp_schema.specs.WellFormed.{IsSchema}
use Rattle.yp_schema.specs.SchemaLaws.{path_within}
use Rattle.yp_path.specs.Escapes.{is_plain, capital_digit, byte_text, escaped}
use Rattle.yp_path.specs.Targets.{has_texts, keys_text, segment_text, target_text}
use Rattle.yp_data_json.specs.Runs.{StandsBefore}
use Rattle.yp_data_json.specs.Writing.{rows_json}
use Rattle.yp_encode.specs.Lines.{operation_word, carries_value, value_member, edit_data, edits_from, mark, patch_data, body_of}
use Rattle.yp_receiver.specs.Hearable.{HasWholeRows, IsHearableChange, AreHearable, IsHearable, HasTexts}
use Rattle.yp_receiver.specs.Readable.{HaveTexts, IsReadable, ItemsAreReadable, MembersAreReadable}
use Rattle.yp_receiver.proofs.Rows.{name_utf8, rows_readable, is_small}

-- ---- targets are ASCII

within : (low high b : ℕ) → high < 128 → (nat_le low b && nat_le b high) ≡ true → b < 128
within low high b small h = let top = leb-true b high (and_parts (nat_le low b) (nat_le b high) h).1 in omega arith

plain_small : (b : ℕ) → is_plain b ≡ true → b < 128
plain_small b h =
    let lower = nat_le 97 b && nat_le b 122 in
    let upper = nat_le 65 b && nat_le b 90 in
    let digit = nat_le 48 b && nat_le b 57 in
    or_else (b < 128) (lower || upper || digit || b == 45 || b == 46 || b == 95) (b == 126)
    (λ k. or_else (b < 128) (lower || upper || digit || b == 45 || b == 46) (b == 95)
    (λ l. or_else (b < 128) (lower || upper || digit || b == 45) (b == 46)
    (λ m. or_else (b < 128) (lower || upper || digit) (b == 45)
    (λ n. or_else (b < 128) (lower || upper) digit
    (λ o. or_else (b < 128) lower upper (within 97 122 b (omega arith)) (within 65 90 b (omega arith)) o)
    (within 48 57 b (omega arith)) n)
    (is_small b 45 (omega arith)) m)
    (is_small b 46 (omega arith)) l)
    (is_small b 95 (omega arith)) k)
    (is_small b 126 (omega arith)) h

digit_small : (t : Bool) (n : ℕ) → n < 16 → cond t (48 + n) (55 + n) < 128
digit_small true n h = omega arith
digit_small false n h = omega arith

one_utf8 : (b : ℕ) → b < 128 → IsUtf8 (b ∷ [])
one_utf8 b h = IsUtf8-are_ascii (b ∷ []) (and_from (nat_lt b 128) true (lt-ltb b 128 h) refl)

next_utf8 : (b : ℕ) (bs : List ℕ) → b < 128 → IsUtf8 bs → IsUtf8 (b ∷ bs)
next_utf8 b bs h u = IsUtf8-append (b ∷ []) bs (one_utf8 b h) u

byte_at : (t : Bool) (b : ℕ) → is_plain b ≡ t → IsUtf8 (cond t (b ∷ []) (37 ∷ capital_digit (b / 16 % 16) ∷ capital_digit (b % 16) ∷ []))
byte_at true b is = one_utf8 b (plain_small b is)
byte_at false b is =
    next_utf8 37 (capital_digit (b / 16 % 16) ∷ capital_digit (b % 16) ∷ []) (omega arith)
    (next_utf8 (capital_digit (b / 16 % 16)) (capital_digit (b % 16) ∷ []) (digit_small (nat_lt (b / 16 % 16) 10) (b / 16 % 16) (omega arith))
    (one_utf8 (capital_digit (b % 16)) (digit_small (nat_lt (b % 16) 10) (b % 16) (omega arith))))

escaped_utf8 : (text : List ℕ) → IsUtf8 (escaped text)
escaped_utf8 [] = IsUtf8-nil
escaped_utf8 (b ∷ bs) = IsUtf8-append (byte_text b) (escaped bs) (byte_at (is_plain b) b refl) (escaped_utf8 bs)

keys_utf8 : (mark : ℕ) (keys : List Atom) → mark < 128 → IsUtf8 (keys_text mark keys)
keys_utf8 mark [] low = IsUtf8-nil
keys_utf8 mark (key ∷ keys) low =
    next_utf8 mark (escaped (atom_text key) ++ keys_text 44 keys) low (IsUtf8-append (escaped (atom_text key)) (keys_text 44 keys) (escaped_utf8 (atom_text key)) (keys_utf8 44 keys (omega arith)))

word_utf8 : (kind : ChangeKind) → IsUtf8 (operation_word kind)
word_utf8 Create = IsUtf8-are_ascii (codes "create") refl
word_utf8 Delete = IsUtf8-are_ascii (codes "delete") refl
word_utf8 Insert = IsUtf8-are_ascii (codes "insert") refl
word_utf8 Move = IsUtf8-are_ascii (codes "move") refl
word_utf8 Replace = IsUtf8-are_ascii (codes "replace") refl

number_utf8 : (n : ℕ) → n < 2 ^ 64 → IsUtf8 (decimal n)
number_utf8 n low = IsUtf8-from_ascii (decimal n) (IsAscii-decimal n low)

module _ (nodes : List SchemaNode) (schema : IsSchema nodes) where
  targets_utf8 : (path : List Seg) → All (λ seg. seg.node < length nodes) path → IsUtf8 (target_text nodes path)
  targets_utf8 [] low = IsUtf8-nil
  targets_utf8 (seg ∷ path) low =
      let name = name_utf8 nodes schema seg.node (All-head (λ (s : Seg). s.node < length nodes) seg path low) in
      let keys = keys_utf8 61 seg.keys (omega arith) in
      IsUtf8-append (segment_text nodes seg) (target_text nodes path)
      (next_utf8 47 ((node_at seg.node nodes).member ++ keys_text 61 seg.keys) (omega arith) (IsUtf8-append (node_at seg.node nodes).member (keys_text 61 seg.keys) name keys))
      (targets_utf8 path (All-tail (λ (s : Seg). s.node < length nodes) seg path low))

  -- ---- change updates

  value_readable : (carries : Bool) (target : List Seg) (rows : List Row) → HasWholeRows nodes carries target rows → has_texts target ≡ true → HaveTexts rows → MembersAreReadable (value_member carries (rows_json nodes target rows))
  value_readable true target rows whole keys texts = (IsUtf8-are_ascii (codes "value") refl, (tt, (rows_readable nodes schema target rows whole.writable keys texts, tt)))
  value_readable false target rows whole keys texts = tt

  abbrev TargetStands : Members → Type 0
  TargetStands ms = StandsBefore (codes "target") ms

  target_stands : (carries : Bool) (value : Data) → TargetStands (value_member carries value)
  target_stands true value = refl
  target_stands false value = tt

  edit_readable : (n : ℕ) (change : Change) → n < 2 ^ 64 → IsHearableChange nodes change → HaveTexts change.rows → IsReadable (edit_data nodes n change)
  edit_readable n change low h texts = (
    IsUtf8-are_ascii (codes "edit-id") refl,
    (
      refl,
      (
        number_utf8 n low,
        (
          IsUtf8-are_ascii (codes "operation") refl,
          (
            refl,
            (
              word_utf8 change.kind,
              (
                IsUtf8-are_ascii (codes "target") refl,
                (
                  target_stands (carries_value change.kind) (rows_json nodes change.target change.rows),
                  (
                    targets_utf8 change.target (path_within nodes change.target h.sendable.target),
                    value_readable (carries_value change.kind) change.target change.rows h.whole h.keys texts,
                  ),
                ),
              ),
            ),
          ),
        ),
      ),
    ),
  )

  edits_readable : (n : ℕ) (changes : List Change) → n + length changes ≤ 2 ^ 64 → AllByRecursion (IsHearableChange nodes) changes → AllByRecursion (λ (change : Change). HaveTexts change.rows) changes → ItemsAreReadable (edits_from nodes n changes)
  edits_readable n [] few each texts = tt
  edits_readable n (change ∷ changes) few each texts = (edit_readable n change (omega arith) each.0 texts.0, edits_readable (n + 1) changes (omega arith) each.1 texts.1)

  patch_readable : (patch_id : ℕ) (changes : List Change) → AreHearable nodes patch_id changes → AllByRecursion (λ (change : Change). HaveTexts change.rows) changes → IsReadable (patch_data nodes patch_id changes)
  patch_readable patch_id changes h texts =
      let few = h.few in (
        IsUtf8-are_ascii (codes "yang-patch") refl,
        (
          tt,
          (
            (
              IsUtf8-are_ascii (codes "edit") refl,
              (
                refl,
                (
                  edits_readable 1 changes (omega arith) h.each texts,
                  (IsUtf8-are_ascii (codes "patch-id") refl, (tt, (number_utf8 patch_id h.patch, tt))),
                ),
              ),
            ),
            tt,
          ),
        ),
      )

  mark_readable : (incomplete : Bool) → MembersAreReadable (mark incomplete)
  mark_readable true = (IsUtf8-are_ascii (codes "incomplete-update") refl, (tt, ((tt, tt), tt)))
  mark_readable false = tt

  mark_stands : (incomplete : Bool) → StandsBefore (codes "id") (mark incomplete)
  mark_stands true = refl
  mark_stands false = tt

  -- ---- bodies

  -- the body of a notice is readable
  pub body_readable : (notice : Notice) → IsHearable nodes notice → HasTexts notice → IsReadable (object (body_of nodes notice))
  body_readable (notices.Full id rows) h texts =
      let low = h.id in
      (IsUtf8-are_ascii (codes "datastore-contents") refl, (refl, (rows_readable nodes schema [] rows h.body.writable refl texts, (IsUtf8-are_ascii (codes "id") refl, (tt, (omega arith, tt))))))
  body_readable (notices.Changes id patch_id changes incomplete) h texts =
      let low = h.id in
      (IsUtf8-are_ascii (codes "datastore-changes") refl, (refl, (patch_readable patch_id changes h.body texts, (IsUtf8-are_ascii (codes "id") refl, (mark_stands incomplete, (omega arith, mark_readable incomplete))))))
  body_readable (notices.Started id) h texts = let low = h.id in (IsUtf8-are_ascii (codes "id") refl, (tt, (omega arith, tt)))
  body_readable (notices.Modified id) h texts = let low = h.id in (IsUtf8-are_ascii (codes "id") refl, (tt, (omega arith, tt)))
  body_readable (notices.Suspended id) h texts =
      let low = h.id in
      (IsUtf8-are_ascii (codes "id") refl, (refl, (omega arith, (IsUtf8-are_ascii (codes "reason") refl, (tt, (IsUtf8-are_ascii (codes "ietf-subscribed-notifications:unsupportable-volume") refl, tt))))))
  body_readable (notices.Resumed id) h texts = let low = h.id in (IsUtf8-are_ascii (codes "id") refl, (tt, (omega arith, tt)))
  body_readable (notices.Terminated id) h texts =
      let low = h.id in
      (IsUtf8-are_ascii (codes "id") refl, (refl, (omega arith, (IsUtf8-are_ascii (codes "reason") refl, (tt, (IsUtf8-are_ascii (codes "ietf-subscribed-notifications:no-such-subscription") refl, tt))))))
