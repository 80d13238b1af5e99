-- The text of a line, part by part.
use Rattle.std.proofs.Common.{◌≡◌, ℕ, ◌+◌, ◌<◌, ◌≤◌, List, [], ◌∷◌, ◌++◌, length, drop, get_or, Bool, true, false, refl, sym, ap, ◌∙◌, append_assoc}
use Rattle.std.specs.Prelude.{codes, decimal}
use Rattle.std.proofs.lemmas.List.{drop_all}
use Rattle.json.specs.Print.{escape_byte, quoted}
use Rattle.serde_json.specs.Data.{Data, no_members}
use Rattle.serde_json.specs.Written.{compact_text, comma_if, items_text, members_text}
use Rattle.yp_base.specs.declared.notice.Change.{Change}
use Rattle.yp_base.specs.declared.notice.Notice.{Notice}
use Rattle.yp_base.specs.declared.notice.Notice.TheVariants.{Full, Changes}
use Rattle.yp_base.specs.declared.row.Row.{Row}
use Rattle.yp_schema.specs.declared.schema.SchemaNode.{SchemaNode}
use Rattle.yp_path.specs.Targets.{target_text}
use Rattle.yp_data_json.specs.Writing.{rows_json}
use Rattle.yp_time.specs.Instants.{event_text}
use Rattle.yp_encode.specs.Lines.{operation_word, carries_value, value_member, edit_data, edits_from, mark, patch_data, id_member, reason_member, name_of, body_of, line_of}
use Rattle.yp_encode.specs.Texts.{head_text, opening_text, full_text, changes_text}
use Rattle.yp_json_text.specs.Parts.{both}
use Rattle.yp_encode.proofs.Edits.{left_at}

abbrev put_in : List ℕ → List ℕ → List ℕ
put_in old x = old ++ x

-- ---- edits

pub head_told : (nodes : List SchemaNode) (n : ℕ) (change : Change) (word target old s1 s2 new : List ℕ) → word ≡ operation_word change.kind → target ≡ target_text nodes change.target
    → s1 ≡ old ++ (codes "{\"edit-id\":" ++ quoted (decimal n)) → s2 ≡ s1 ++ (codes ",\"operation\":" ++ quoted word) → new ≡ s2 ++ (codes ",\"target\":" ++ quoted target) → new ≡ old ++ head_text nodes n change
head_told nodes n change word target old s1 s2 new word_is target_is first second third =
    let q1 = quoted (decimal n) in
    let q2 = quoted (operation_word change.kind) in
    let q3 = quoted (target_text nodes change.target) in
    both old ((codes "{\"edit-id\":" ++ q1) ++ (codes ",\"operation\":" ++ q2)) (codes ",\"target\":" ++ q3) s2 new
    (both old (codes "{\"edit-id\":" ++ q1) (codes ",\"operation\":" ++ q2) s1 s2 first (second ∙ ap (λ (x : List ℕ). s1 ++ (codes ",\"operation\":" ++ quoted x)) word_is))
    (third ∙ ap (λ (x : List ℕ). s2 ++ (codes ",\"target\":" ++ quoted x)) target_is)
    ∙ ap (λ (x : List ℕ). old ++ (codes "{\"edit-id\":" ++ x)) (append_assoc q1 (codes ",\"operation\":" ++ q2) (codes ",\"target\":" ++ q3))

edit_text : (nodes : List SchemaNode) (n : ℕ) (change : Change)
    → head_text nodes n change ++ members_text true (value_member (carries_value change.kind) (rows_json nodes change.target change.rows)) ≡ compact_text (edit_data nodes n change)
unfolding escape_byte
edit_text nodes n change =
    let q1 = quoted (decimal n) in
    let q2 = quoted (operation_word change.kind) in
    let q3 = quoted (target_text nodes change.target) in
    let m = members_text true (value_member (carries_value change.kind) (rows_json nodes change.target change.rows)) in
    ap (λ (x : List ℕ). codes "{\"edit-id\":" ++ x) (append_assoc q1 (codes ",\"operation\":" ++ (q2 ++ (codes ",\"target\":" ++ q3))) m)
    ∙ ap (λ (x : List ℕ). codes "{\"edit-id\":" ++ (q1 ++ (codes ",\"operation\":" ++ x))) (append_assoc q2 (codes ",\"target\":" ++ q3) m)

with_value_text : (d : Data) → (codes ",\"value\":" ++ compact_text d) ++ codes "}" ≡ members_text true (value_member true d)
unfolding escape_byte
with_value_text d = refl

closed : (nodes : List SchemaNode) (n : ℕ) (change : Change) (b : Bool) (old s1 : List ℕ) → carries_value change.kind ≡ b → s1 ≡ old ++ head_text nodes n change
    → s1 ++ members_text true (value_member b (rows_json nodes change.target change.rows)) ≡ old ++ compact_text (edit_data nodes n change)
closed nodes n change b old s1 carries first =
    let d = rows_json nodes change.target change.rows in
    ap (λ t. s1 ++ members_text true (value_member t d)) (sym carries)
    ∙ ap (λ (x : List ℕ). x ++ members_text true (value_member (carries_value change.kind) d)) first
    ∙ append_assoc old (head_text nodes n change) (members_text true (value_member (carries_value change.kind) d))
    ∙ ap (put_in old) (edit_text nodes n change)

pub valued_told : (nodes : List SchemaNode) (n : ℕ) (change : Change) (old s1 s2 new : List ℕ) → carries_value change.kind ≡ true → s1 ≡ old ++ head_text nodes n change
    → s2 ≡ s1 ++ (codes ",\"value\":" ++ compact_text (rows_json nodes change.target change.rows)) → new ≡ s2 ++ codes "}" → new ≡ old ++ compact_text (edit_data nodes n change)
valued_told nodes n change old s1 s2 new carries first second third =
    let d = rows_json nodes change.target change.rows in
    both s1 (codes ",\"value\":" ++ compact_text d) (codes "}") s2 new second third
    ∙ ap (put_in s1) (with_value_text d)
    ∙ closed nodes n change true old s1 carries first

pub bare_told : (nodes : List SchemaNode) (n : ℕ) (change : Change) (old s1 new : List ℕ) → carries_value change.kind ≡ false → s1 ≡ old ++ head_text nodes n change
    → new ≡ s1 ++ codes "}" → new ≡ old ++ compact_text (edit_data nodes n change)
bare_told nodes n change old s1 new carries first second = second ∙ closed nodes n change false old s1 carries first

-- one more edit is told
pub one_told : (nodes : List SchemaNode) (n i : ℕ) (changes : List Change) (change : Change) (later : Bool) (old s1 new whole : List ℕ) → i < length changes → change ≡ get_or changes i change
    → s1 ≡ old ++ comma_if later → new ≡ s1 ++ compact_text (edit_data nodes n change) → old ++ items_text later (edits_from nodes n (drop i changes)) ≡ whole
    → new ++ items_text true (edits_from nodes (n + 1) (drop (i + 1) changes)) ≡ whole
one_told nodes n i changes change later old s1 new whole within is first second so_far =
    let text = compact_text (edit_data nodes n change) in
    let more = items_text true (edits_from nodes (n + 1) (drop (i + 1) changes)) in
    ap (λ (x : List ℕ). x ++ more) (both old (comma_if later) text s1 new first second)
    ∙ append_assoc old (comma_if later ++ text) more
    ∙ ap (put_in old) (append_assoc (comma_if later) text more)
    ∙ ap (λ cs. old ++ items_text later (edits_from nodes n cs)) (sym (left_at i changes change within is))
    ∙ so_far

pub all_told : (nodes : List SchemaNode) (n i : ℕ) (changes : List Change) (later : Bool) (old new whole : List ℕ) → length changes ≤ i → new ≡ old ++ codes "]" → old ++ items_text later (edits_from nodes n (drop i changes)) ≡ whole → new ≡ whole
all_told nodes n i changes later old new whole past end so_far = end ∙ ap (λ cs. old ++ items_text later (edits_from nodes n cs)) (sym (drop_all i changes past)) ∙ so_far

-- ---- bodies

pub marked : (b : Bool) → b ≡ true → codes ",\"incomplete-update\":[null]}" ≡ members_text true (mark b)
unfolding escape_byte
marked b is = sym (ap (λ t. members_text true (mark t)) is)

pub unmarked : (b : Bool) → b ≡ false → codes "}" ≡ members_text true (mark b)
unmarked b is = sym (ap (λ t. members_text true (mark t)) is)

id_text : (n : ℕ) → (codes "\"id\":" ++ decimal n) ++ codes "}" ≡ members_text false (id_member n no_members)
unfolding escape_byte
id_text n = refl

pub id_told : (n : ℕ) (old s1 new : List ℕ) → s1 ≡ old ++ (codes "\"id\":" ++ decimal n) → new ≡ s1 ++ codes "}" → new ≡ old ++ members_text false (id_member n no_members)
id_told n old s1 new first second = both old (codes "\"id\":" ++ decimal n) (codes "}") s1 new first second ∙ ap (put_in old) (id_text n)

reason_text : (n : ℕ) (reason : List ℕ) → ((codes "\"id\":" ++ decimal n) ++ (codes ",\"reason\":" ++ quoted reason)) ++ codes "}" ≡ members_text false (id_member n (reason_member reason))
unfolding escape_byte
reason_text n reason = ap (λ (x : List ℕ). codes "\"id\":" ++ x) (append_assoc (decimal n) (codes ",\"reason\":" ++ quoted reason) (codes "}"))

pub reason_told : (n : ℕ) (reason old s1 s2 new : List ℕ) → s1 ≡ old ++ (codes "\"id\":" ++ decimal n) → s2 ≡ s1 ++ (codes ",\"reason\":" ++ quoted reason) → new ≡ s2 ++ codes "}"
    → new ≡ old ++ members_text false (id_member n (reason_member reason))
reason_told n reason old s1 s2 new first second third =
    both old ((codes "\"id\":" ++ decimal n) ++ (codes ",\"reason\":" ++ quoted reason)) (codes "}") s2 new
    (both old (codes "\"id\":" ++ decimal n) (codes ",\"reason\":" ++ quoted reason) s1 s2 first second) third
    ∙ ap (put_in old) (reason_text n reason)

patch_text : (nodes : List SchemaNode) (p : ℕ) (changes : List Change)
    → ((codes "{\"yang-patch\":{\"edit\":[" ++ items_text false (edits_from nodes 1 changes)) ++ (codes ",\"patch-id\":" ++ quoted (decimal p))) ++ codes "}}" ≡ compact_text (patch_data nodes p changes)
unfolding escape_byte
patch_text nodes p changes =
    let edits = items_text false (edits_from nodes 1 changes) in
    let q = quoted (decimal p) in
    ap (λ (x : List ℕ). codes "{\"yang-patch\":{\"edit\":[" ++ x)
    (append_assoc edits (codes ",\"patch-id\":" ++ q) (codes "}}")
    ∙ ap (λ (x : List ℕ). edits ++ (codes ",\"patch-id\":" ++ x)) (sym (append_assoc q (codes "}") (codes "}")))
    ∙ sym (append_assoc edits (codes ",\"patch-id\":" ++ (q ++ codes "}")) (codes "}")))

pub patch_told : (nodes : List SchemaNode) (p : ℕ) (changes : List Change) (old s1 s2 s3 new : List ℕ) → s1 ≡ old ++ codes "{\"yang-patch\":{\"edit\":[" → s2 ≡ s1 ++ items_text false (edits_from nodes 1 changes)
    → s3 ≡ s2 ++ (codes ",\"patch-id\":" ++ quoted (decimal p)) → new ≡ s3 ++ codes "}}" → new ≡ old ++ compact_text (patch_data nodes p changes)
patch_told nodes p changes old s1 s2 s3 new first second third fourth =
    let a = codes "{\"yang-patch\":{\"edit\":[" in
    let b = items_text false (edits_from nodes 1 changes) in
    let c = codes ",\"patch-id\":" ++ quoted (decimal p) in
    both old ((a ++ b) ++ c) (codes "}}") s3 new (both old (a ++ b) c s2 s3 (both old a b s1 s2 first second) third) fourth
    ∙ ap (put_in old) (patch_text nodes p changes)

pub full_told : (contents : List ℕ) (n : ℕ) (old s1 s2 s3 new : List ℕ) → s1 ≡ old ++ codes "\"datastore-contents\":" → s2 ≡ s1 ++ contents → s3 ≡ s2 ++ (codes ",\"id\":" ++ decimal n) → new ≡ s3 ++ codes "}"
    → new ≡ old ++ full_text contents n
full_told contents n old s1 s2 s3 new first second third fourth =
    let a = codes "\"datastore-contents\":" in
    let b = codes ",\"id\":" ++ decimal n in
    both old ((a ++ contents) ++ b) (codes "}") s3 new (both old (a ++ contents) b s2 s3 (both old a contents s1 s2 first second) third) fourth
    ∙ ap (λ (x : List ℕ). old ++ (a ++ x)) (append_assoc contents b (codes "}"))

pub full_body : (nodes : List SchemaNode) (n : ℕ) (rows : List Row) (contents : List ℕ) → contents ≡ compact_text (rows_json nodes [] rows) → full_text contents n ≡ members_text false (body_of nodes (Full n rows))
unfolding escape_byte
full_body nodes n rows contents is = ap (λ (x : List ℕ). full_text x n) is

pub changes_told : (patch : List ℕ) (n : ℕ) (incomplete : Bool) (end old s1 s2 s3 new : List ℕ) → end ≡ members_text true (mark incomplete) → s1 ≡ old ++ codes "\"datastore-changes\":" → s2 ≡ s1 ++ patch
    → s3 ≡ s2 ++ (codes ",\"id\":" ++ decimal n) → new ≡ s3 ++ end → new ≡ old ++ changes_text patch n incomplete
changes_told patch n incomplete end old s1 s2 s3 new end_is first second third fourth =
    let a = codes "\"datastore-changes\":" in
    let b = codes ",\"id\":" ++ decimal n in
    let m = members_text true (mark incomplete) in
    both old ((a ++ patch) ++ b) m s3 new (both old (a ++ patch) b s2 s3 (both old a patch s1 s2 first second) third) (fourth ∙ ap (put_in s3) end_is)
    ∙ ap (λ (x : List ℕ). old ++ (a ++ x)) (append_assoc patch b m)

pub changes_body : (nodes : List SchemaNode) (n p : ℕ) (changes : List Change) (incomplete : Bool) (patch : List ℕ) → patch ≡ compact_text (patch_data nodes p changes)
    → changes_text patch n incomplete ≡ members_text false (body_of nodes (Changes n p changes incomplete))
unfolding escape_byte
changes_body nodes n p changes incomplete patch is = ap (λ (x : List ℕ). changes_text x n incomplete) is

-- ---- lines

abbrev opening : List ℕ
opening = codes "{\"ietf-restconf:notification\":{\"eventTime\":"

pub opening_told : (start tick : ℕ) (name time old s1 s2 new : List ℕ) → time ≡ event_text start tick → s1 ≡ old ++ (opening ++ quoted time) → s2 ≡ s1 ++ (codes "," ++ quoted name) → new ≡ s2 ++ codes ":{"
    → new ≡ old ++ opening_text start tick name
opening_told start tick name time old s1 s2 new is first second third =
    let q = quoted (event_text start tick) in
    let r = codes "," ++ quoted name in
    both old ((opening ++ q) ++ r) (codes ":{") s2 new (both old (opening ++ q) r s1 s2 (first ∙ ap (λ (x : List ℕ). old ++ (opening ++ quoted x)) is) second) third
    ∙ ap (λ (x : List ℕ). old ++ (opening ++ x)) (append_assoc q r (codes ":{"))

regroup : (q r b : List ℕ) → ((q ++ 44 ∷ (r ++ codes ":{")) ++ b) ++ codes "}}" ≡ (q ++ 44 ∷ (r ++ 58 ∷ 123 ∷ (b ++ codes "}"))) ++ codes "}"
regroup q r b = simp append_assoc

line_text : (nodes : List SchemaNode) (start tick : ℕ) (notice : Notice)
    → (opening_text start tick (name_of notice) ++ members_text false (body_of nodes notice)) ++ codes "}}" ≡ line_of nodes start tick notice
unfolding escape_byte
line_text nodes start tick notice =
    ap (λ (x : List ℕ). opening ++ x) (regroup (quoted (event_text start tick)) (quoted (name_of notice)) (members_text false (body_of nodes notice)))

-- a line is told part by part
pub line_told : (nodes : List SchemaNode) (start tick : ℕ) (notice : Notice) (name body old s1 s2 new : List ℕ) → name ≡ name_of notice → body ≡ members_text false (body_of nodes notice)
    → s1 ≡ old ++ opening_text start tick name → s2 ≡ s1 ++ body → new ≡ s2 ++ codes "}}" → new ≡ old ++ line_of nodes start tick notice
line_told nodes start tick notice name body old s1 s2 new name_is body_is first second third =
    let a = opening_text start tick (name_of notice) in
    let b = members_text false (body_of nodes notice) in
    both old (a ++ b) (codes "}}") s2 new (both old a b s1 s2 (first ∙ ap (λ (x : List ℕ). old ++ opening_text start tick x) name_is) (second ∙ ap (put_in s1) body_is)) third
    ∙ ap (put_in old) (line_text nodes start tick notice)
