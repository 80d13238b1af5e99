-- Texts that are appended part by part.
use Rattle.std.proofs.Common.{◌≡◌, ℕ, List, [], ◌∷◌, ◌++◌, Bool, true, false, sym, ap, ◌∙◌, append_assoc, append-nil, map}
use Rattle.std.specs.Prelude.{codes, Result, OnOk}
use Rattle.std.proofs.lemmas.Result.{on_ok_weaker}
use Rattle.json.specs.Print.{quoted}
use Rattle.serde_json.specs.Data.{Data, array, object, Items, no_items, item, Members, no_members, member}
use Rattle.serde_json.specs.View.{items_of}
use Rattle.serde_json.specs.Written.{compact_text, comma_if, items_text, members_text}
use Rattle.yp_json_text.specs.Strings.{name_text}
use Rattle.yp_json_text.specs.Parts.{both}
use Rattle.yp_data_json.specs.Writing.{Entry}

-- what follows where a call returns a value
pub where_ok : {T E P Q : Type 0} (r : Result T E) → OnOk r P → (P → Q) → OnOk r Q
where_ok r h f = on_ok_weaker r f h

regroup : (old comma quote value rest : List ℕ) → old ++ (comma ++ (quote ++ 58 ∷ (value ++ rest))) ≡ ((old ++ (comma ++ (quote ++ 58 ∷ []))) ++ value) ++ rest
regroup old comma quote value rest = simp append_assoc

-- a member's name and value, and then the other members
pub member_told : (later : Bool) (name : List ℕ) (d : Data) (ms : Members) (old mid new : List ℕ) → mid ≡ old ++ name_text later name → new ≡ mid ++ compact_text d → old ++ members_text later (member name d ms) ≡ new ++ members_text true ms
member_told later name d ms old mid new first second =
    regroup old (comma_if later) (quoted name) (compact_text d) (members_text true ms)
    ∙ sym (ap (λ x. x ++ members_text true ms) (second ∙ ap (λ x. x ++ compact_text d) first))

-- an item, and then the other items
pub item_told : (later : Bool) (d : Data) (ds : Items) (old mid new : List ℕ) → mid ≡ old ++ comma_if later → new ≡ mid ++ compact_text d → old ++ items_text later (item d ds) ≡ new ++ items_text true ds
item_told later d ds old mid new first second =
    sym (append_assoc old (comma_if later) (compact_text d ++ items_text true ds))
    ∙ sym (append_assoc (old ++ comma_if later) (compact_text d) (items_text true ds))
    ∙ sym (ap (λ x. x ++ items_text true ds) (second ∙ ap (λ x. x ++ compact_text d) first))

abbrev pub entry_items : List Entry → Items
entry_items es = items_of (map (λ e. e.json) es)

-- one more entry behind those so far
pub entry_told : (later : Bool) (es : List Entry) (e : Entry) (start old mid new : List ℕ) → mid ≡ old ++ comma_if later → new ≡ mid ++ compact_text e.json
    → ((more : List Entry) → start ++ items_text false (entry_items (es ++ more)) ≡ old ++ items_text later (entry_items more))
    → (more : List Entry) → start ++ items_text false (entry_items ((es ++ e ∷ []) ++ more)) ≡ new ++ items_text true (entry_items more)
entry_told later es e start old mid new first second so_far more =
    ap (λ xs. start ++ items_text false (entry_items xs)) (append_assoc es (e ∷ []) more)
    ∙ so_far (e ∷ more)
    ∙ item_told later e.json (entry_items more) old mid new first second

-- the bracket behind all entries
pub entries_told : (later : Bool) (es : List Entry) (start old new : List ℕ) → new ≡ old ++ codes "]" → ((more : List Entry) → start ++ items_text false (entry_items (es ++ more)) ≡ old ++ items_text later (entry_items more))
    → new ≡ start ++ items_text false (entry_items es)
entries_told later es start old new end so_far = end ∙ sym (so_far []) ∙ ap (λ xs. start ++ items_text false (entry_items xs)) (append-nil es)

-- an array of one
pub one_told : (d : Data) (old s1 s2 new : List ℕ) → s1 ≡ old ++ codes "[" → s2 ≡ s1 ++ compact_text d → new ≡ s2 ++ codes "]" → new ≡ old ++ compact_text (array (item d no_items))
one_told d old s1 s2 new first second third = both old (codes "[" ++ compact_text d) (codes "]") s2 new (both old (codes "[") (compact_text d) s1 s2 first second) third

-- an object of one member
pub named_told : (name : List ℕ) (d : Data) (old s1 s2 s3 new : List ℕ) → s1 ≡ old ++ codes "{" → s2 ≡ s1 ++ name_text false name → s3 ≡ s2 ++ compact_text d → new ≡ s3 ++ codes "}" → new ≡ old ++ compact_text (object (member name d no_members))
named_told name d old s1 s2 s3 new first second third fourth =
    both old (codes "{") (members_text false (member name d no_members)) s1 new first
    (fourth ∙ sym (member_told false name d no_members s1 s2 s3 second third))
