-- The JSON of a script's lines, and the patches that are read of it, have UTF-8 texts.
use Rattle.std.proofs.Common.{if◌then◌else◌, ◌≡◌, ℕ, zero, suc, ◌≤◌, ◌==◌, List, [], ◌∷◌, length, take, Bool, true, false, cond, Option, Some, None, option_map, option_and_then, Err, IfSome, IfOk, IsUtf8, codes, nat_le, refl, sym, subst, arith, take_all}
use Rattle.std.specs.List.{AllByRecursion}
use Rattle.std.specs.Str.{is_utf8}
use Rattle.std.specs.Str.Lossy.{valid_len_up_to, utf8_valid_len}
use Rattle.std.proofs.lemmas.Bool.{eqb-true}
use Rattle.std.proofs.lemmas.Str.{IsUtf8-nil, IsUtf8-from_is_utf8}
use Rattle.serde_json.specs.Data.{Data, null, boolean, number, string, array, object, Items, no_items, item, Members, no_members, member}
use Rattle.serde_json.specs.Events.{members_len}
use Rattle.serde_json.specs.Find.{get_member, as_object, as_array}
use Rattle.serde_json.specs.Read.{read}
use Rattle.yp_value.specs.Json.{member_of, text_member, json_of}
use Rattle.yp_base.specs.Results.{or_fault}
use Rattle.yp_base.specs.Types.{same_text, are_distinct}
use Rattle.yp_patch.specs.declared.patch.Edit.{Edit}
use Rattle.yp_patch.specs.declared.patch.Patch.{Patch}
use Rattle.yp_patch.specs.Shapes.{some_text, op_in, some_place, has_parts, parts_of, edit_of, edit_in, edits_in, ids_of, distinct, some_edits, members_of_patch, patch_of, sole, patch_in}
use Rattle.yp_command.specs.declared.command.Request.{Request}
use Rattle.yp_command.specs.declared.command.Request.TheVariants.{Tick, Patch as PatchRequest, Policy, Establish, Modify, Delete, Kill, Resync, Configure, Reconfigure, Unconfigure, Take}
use Rattle.yp_command.specs.declared.fault.ScriptKind.TheVariants as kinds
use Rattle.yp_command.specs.Requests.{request_named, request_in}
use Rattle.yp_command.specs.SaidLaws.{if_is, or_is, then_some as any_then}
use Rattle.yp_command.specs.Words.{has_count, sole_member}
use Rattle.yp_script.specs.declared.form.Form.{Form}
use Rattle.yp_script.specs.declared.form.Form.TheVariants as forms
use Rattle.yp_script.specs.Forms.{form_named, lane_form, form_by, line_form}
use Rattle.yp_script.specs.Lines.{json_in}
use Rattle.yp_utf8.specs.Utf8.{HasUtf8, ItemsHaveUtf8, MembersHaveUtf8}
use Rattle.yp_texts.specs.Commands.{EditHasUtf8}
use Rattle.yp_texts.proofs.Reading.{member_utf8}
use Rattle.yp_utf8.proofs.Tokens.{read_utf8}

-- ---- the JSON of a line

at_most : (b : Bool) (n before : ℕ) → before ≤ n → cond b (suc n) before ≤ suc n
at_most true n before h = omega arith
at_most false n before h = omega (arith, h)

up_to : (bs : List ℕ) (n : ℕ) → valid_len_up_to bs n ≤ n
up_to bs zero = omega arith
up_to bs (suc n) = at_most (is_utf8 (take (suc n) bs)) n (valid_len_up_to bs n) (up_to bs n)

valid_all : (bs : List ℕ) (n : ℕ) → valid_len_up_to bs n ≡ n → IsUtf8 (take n bs)
valid_all bs zero e = subst IsUtf8 (sym (take_zero bs)) IsUtf8-nil
  where
    take_zero : (xs : List ℕ) → take 0 xs ≡ []
    take_zero [] = refl
    take_zero (x ∷ xs) = refl
valid_all bs (suc n) e = at (is_utf8 (take (suc n) bs)) refl e
  where
    at : (b : Bool) → is_utf8 (take (suc n) bs) ≡ b → cond b (suc n) (valid_len_up_to bs n) ≡ suc n → IsUtf8 (take (suc n) bs)
    at true is same = IsUtf8-from_is_utf8 (take (suc n) bs) is
    at false is same = absurd (omega (arith, same, up_to bs n))

-- bytes that are UTF-8 to their end are a text
valid_text : (text : List ℕ) → (utf8_valid_len text == length text) ≡ true → IsUtf8 text
unfolding utf8_valid_len
valid_text text h = subst IsUtf8 (take_all (length text) text (omega arith)) (valid_all text (length text) (eqb-true (utf8_valid_len text) (length text) h))

if_valid : (b : Bool) (text : List ℕ) → (utf8_valid_len text == length text) ≡ b → IfSome (cond b (read text) None) HasUtf8
if_valid true text is = read_utf8 text (valid_text text is)
if_valid false text is = tt

json_utf8 : (text : List ℕ) → IfSome (json_of text) HasUtf8
json_utf8 text = if_valid (utf8_valid_len text == length text) text refl

-- the JSON of a line, if it has one
pub line_utf8 : (within : Bool) (text : List ℕ) → IfOk (json_in within text) HasUtf8
line_utf8 within text =
    let short = nat_le (length text) 65536 in
    if_is kinds.Limit within (if short then or_fault kinds.NotJson (json_of text) else Err kinds.TooLong) HasUtf8
    (λ w. if_is kinds.TooLong short (or_fault kinds.NotJson (json_of text)) HasUtf8 (λ s. or_is kinds.NotJson (json_of text) HasUtf8 (json_utf8 text)))

-- ---- its form

then_some : {X Y : Type 0} (f : X → Option Y) (o : Option X) (P : X → Type 0) (Q : Y → Type 0) → IfSome o P → ((x : X) → P x → IfSome (f x) Q) → IfSome (option_and_then f o) Q
then_some f None P Q h each = tt
then_some f (Some x) P Q h each = each x h

map_some : {X Y : Type 0} (f : X → Y) (o : Option X) (P : X → Type 0) (Q : Y → Type 0) → IfSome o P → ((x : X) → P x → Q (f x)) → IfSome (option_map f o) Q
map_some f None P Q h each = tt
map_some f (Some x) P Q h each = each x h

any_some : {X : Type 0} (o : Option X) → IfSome o (λ x. Unit {0})
any_some None = tt
any_some (Some x) = tt

if_some : {X : Type 0} (b : Bool) (one two : Option X) (P : X → Type 0) → IfSome one P → IfSome two P → IfSome (cond b one two) P
if_some true one two P h k = h
if_some false one two P h k = k

-- a request whose patch has UTF-8 texts
abbrev pub RequestHasUtf8 : Request Data → Type 0
RequestHasUtf8 (Tick value) = Unit {0}
RequestHasUtf8 (PatchRequest value) = HasUtf8 value
RequestHasUtf8 (Policy value) = Unit {0}
RequestHasUtf8 (Establish value) = Unit {0}
RequestHasUtf8 (Modify value) = Unit {0}
RequestHasUtf8 (Delete value) = Unit {0}
RequestHasUtf8 (Kill value) = Unit {0}
RequestHasUtf8 (Resync value) = Unit {0}
RequestHasUtf8 (Configure value) = Unit {0}
RequestHasUtf8 (Reconfigure value) = Unit {0}
RequestHasUtf8 (Unconfigure value) = Unit {0}
RequestHasUtf8 (Take value) = Unit {0}

abbrev pub FormHasUtf8 : Form Data → Type 0
FormHasUtf8 (forms.Start value) = Unit {0}
FormHasUtf8 (forms.Schema value) = Unit {0}
FormHasUtf8 (forms.Receiver value) = Unit {0}
FormHasUtf8 (forms.Command request) = RequestHasUtf8 request
FormHasUtf8 (forms.Lanes value) = Unit {0}
FormHasUtf8 (forms.Lane lane request) = RequestHasUtf8 request
FormHasUtf8 (forms.Join value) = Unit {0}

member_of_utf8 : (name : List ℕ) (d : Data) → HasUtf8 d → IfSome (member_of name d) HasUtf8
member_of_utf8 name null u = tt
member_of_utf8 name (boolean b) u = tt
member_of_utf8 name (number n) u = tt
member_of_utf8 name (string s) u = tt
member_of_utf8 name (array ds) u = tt
member_of_utf8 name (object ms) u = member_utf8 name ms u

-- the value of a member
abbrev ValueHasUtf8 : List ℕ × Data → Type 0
ValueHasUtf8 found = HasUtf8 found.1

sole_utf8 : (d : Data) → HasUtf8 d → IfSome (sole_member d) ValueHasUtf8
sole_utf8 null u = tt
sole_utf8 (boolean b) u = tt
sole_utf8 (number n) u = tt
sole_utf8 (string s) u = tt
sole_utf8 (array ds) u = tt
sole_utf8 (object no_members) u = tt
sole_utf8 (object (member name value no_members)) u = u.0
sole_utf8 (object (member name value (member next more ms))) u = tt

named_utf8 : (name : List ℕ) (value : Data) → HasUtf8 value → IfSome (request_named name value) RequestHasUtf8
named_utf8 name value u =
    if_some (same_text name (codes "tick")) (Some (Tick value)) _ RequestHasUtf8 tt
    (if_some (same_text name (codes "patch")) (Some (PatchRequest value)) _ RequestHasUtf8 u
    (if_some (same_text name (codes "policy")) (Some (Policy value)) _ RequestHasUtf8 tt
    (if_some (same_text name (codes "establish")) (Some (Establish value)) _ RequestHasUtf8 tt
    (if_some (same_text name (codes "modify")) (Some (Modify value)) _ RequestHasUtf8 tt
    (if_some (same_text name (codes "delete")) (Some (Delete value)) _ RequestHasUtf8 tt
    (if_some (same_text name (codes "kill")) (Some (Kill value)) _ RequestHasUtf8 tt
    (if_some (same_text name (codes "resync")) (Some (Resync value)) _ RequestHasUtf8 tt
    (if_some (same_text name (codes "configure")) (Some (Configure value)) _ RequestHasUtf8 tt
    (if_some (same_text name (codes "reconfigure")) (Some (Reconfigure value)) _ RequestHasUtf8 tt
    (if_some (same_text name (codes "unconfigure")) (Some (Unconfigure value)) _ RequestHasUtf8 tt
    (if_some (same_text name (codes "take")) (Some (Take value)) None RequestHasUtf8 tt tt)))))))))))

request_utf8 : (d : Data) → HasUtf8 d → IfSome (request_in d) RequestHasUtf8
request_utf8 d u = then_some (λ found. request_named found.0 found.1) (sole_member d) ValueHasUtf8 RequestHasUtf8 (sole_utf8 d u) (λ found v. named_utf8 found.0 found.1 v)

form_named_utf8 : (name : List ℕ) (value : Data) → HasUtf8 value → IfSome (form_named name value) FormHasUtf8
form_named_utf8 name value u =
    if_some (same_text name (codes "start")) (Some (forms.Start value)) _ FormHasUtf8 tt
    (if_some (same_text name (codes "schema")) (Some (forms.Schema value)) _ FormHasUtf8 tt
    (if_some (same_text name (codes "receiver")) (Some (forms.Receiver value)) _ FormHasUtf8 tt
    (if_some (same_text name (codes "lanes")) (Some (forms.Lanes value)) _ FormHasUtf8 tt
    (if_some (same_text name (codes "join")) (Some (forms.Join value)) (option_map forms.Command (request_named name value)) FormHasUtf8 tt
    (map_some forms.Command (request_named name value) RequestHasUtf8 FormHasUtf8 (named_utf8 name value u) (λ request v. v))))))

lane_utf8 : (d : Data) → HasUtf8 d → IfSome (lane_form d) FormHasUtf8
lane_utf8 d u =
    let asked = option_and_then request_in (member_of (codes "do") d) in
    if_some (has_count 2 d) (option_and_then (λ lane. option_map (forms.Lane lane) asked) (member_of (codes "lane") d)) None FormHasUtf8
    (then_some (λ lane. option_map (forms.Lane lane) asked) (member_of (codes "lane") d) (λ lane. Unit {0}) FormHasUtf8 (any_some (member_of (codes "lane") d))
    (λ lane any.
    map_some (forms.Lane lane) asked RequestHasUtf8 FormHasUtf8 (then_some request_in (member_of (codes "do") d) HasUtf8 RequestHasUtf8 (member_of_utf8 (codes "do") d u) request_utf8) (λ request v. v)))
    tt

form_by_utf8 : (found : Option (List ℕ × Data)) (d : Data) → IfSome found ValueHasUtf8 → HasUtf8 d → IfSome (form_by found d) FormHasUtf8
form_by_utf8 None d h u = lane_utf8 d u
form_by_utf8 (Some found) d h u = form_named_utf8 found.0 found.1 h

pub form_utf8 : (d : Data) → HasUtf8 d → IfSome (line_form d) FormHasUtf8
form_utf8 d u = form_by_utf8 (sole_member d) d (sole_utf8 d u) u

-- ---- patches

abbrev AllEdits : List Edit → Type 0
AllEdits edits = AllByRecursion EditHasUtf8 edits

object_utf8 : (d : Data) → HasUtf8 d → IfSome (as_object d) MembersHaveUtf8
object_utf8 null u = tt
object_utf8 (boolean b) u = tt
object_utf8 (number n) u = tt
object_utf8 (string s) u = tt
object_utf8 (array ds) u = tt
object_utf8 (object ms) u = u

array_utf8 : (d : Data) → HasUtf8 d → IfSome (as_array d) ItemsHaveUtf8
array_utf8 null u = tt
array_utf8 (boolean b) u = tt
array_utf8 (number n) u = tt
array_utf8 (string s) u = tt
array_utf8 (array ds) u = u
array_utf8 (object ms) u = tt

edit_of_utf8 : (count : ℕ) (edit : Edit) → EditHasUtf8 edit → IfSome (edit_of count edit) EditHasUtf8
edit_of_utf8 count edit u = if_some (has_parts edit) (if count == parts_of edit then Some edit else None) None EditHasUtf8 (if_some (count == parts_of edit) (Some edit) None EditHasUtf8 u tt) tt

edit_utf8 : (ms : Members) → MembersHaveUtf8 ms → IfSome (edit_in ms) EditHasUtf8
edit_utf8 ms u =
    any_then _ (text_member (codes "edit-id") ms) EditHasUtf8 (λ id.
    any_then _ (op_in ms) EditHasUtf8 (λ op.
    any_then _ (text_member (codes "target") ms) EditHasUtf8 (λ target.
    any_then _ (some_text (codes "point") ms) EditHasUtf8 (λ point.
    any_then _ (some_place ms) EditHasUtf8 (λ place.
    edit_of_utf8 (members_len ms) (record { id = id; op = op; target = target; point = point; place = place; value = get_member (codes "value") ms }) (member_utf8 (codes "value") ms u))))))

edits_utf8 : (ds : Items) → ItemsHaveUtf8 ds → IfSome (edits_in ds) AllEdits
edits_utf8 no_items u = tt
edits_utf8 (item d ds) u =
    let one = option_and_then edit_in (as_object d) in
    then_some (λ edit. option_map (λ edits. edit ∷ edits) (edits_in ds)) one EditHasUtf8 AllEdits (then_some edit_in (as_object d) MembersHaveUtf8 EditHasUtf8 (object_utf8 d u.0) edit_utf8)
    (λ edit e. map_some (λ edits. edit ∷ edits) (edits_in ds) AllEdits AllEdits (edits_utf8 ds u.1) (λ edits es. (e, es)))

distinct_utf8 : (edits : List Edit) → AllEdits edits → IfSome (distinct edits) AllEdits
distinct_utf8 edits u = if_some (are_distinct (ids_of edits)) (Some edits) None AllEdits u tt

some_edits_utf8 : (found : Option Data) → IfSome found HasUtf8 → IfSome (some_edits found) AllEdits
some_edits_utf8 None u = tt
some_edits_utf8 (Some d) u =
    then_some distinct (option_and_then edits_in (as_array d)) AllEdits AllEdits (then_some edits_in (as_array d) ItemsHaveUtf8 AllEdits (array_utf8 d u) edits_utf8) distinct_utf8

abbrev PatchHasUtf8 : Patch → Type 0
PatchHasUtf8 patch = AllByRecursion EditHasUtf8 patch.edits

patch_of_utf8 : (ms : Members) → MembersHaveUtf8 ms → IfSome (patch_of ms) PatchHasUtf8
patch_of_utf8 ms u =
    let found = some_edits (get_member (codes "edit") ms) in
    any_then _ (text_member (codes "patch-id") ms) PatchHasUtf8 (λ id.
    any_then _ (some_text (codes "comment") ms) PatchHasUtf8 (λ comment.
    then_some _ found AllEdits PatchHasUtf8 (some_edits_utf8 (get_member (codes "edit") ms) (member_utf8 (codes "edit") ms u))
    (λ edits es. if_some (members_len ms == members_of_patch ms) (Some (record { id = id; edits = edits })) None PatchHasUtf8 es tt)))

sole_members : (name : List ℕ) (d : Data) → HasUtf8 d → IfSome (sole name d) MembersHaveUtf8
sole_members name null u = tt
sole_members name (boolean b) u = tt
sole_members name (number n) u = tt
sole_members name (string s) u = tt
sole_members name (array ds) u = tt
sole_members name (object ms) u =
    if_some (members_len ms == 1) (option_and_then as_object (get_member name ms)) None MembersHaveUtf8 (then_some as_object (get_member name ms) HasUtf8 MembersHaveUtf8 (member_utf8 name ms u) object_utf8) tt

-- the patch that is read of JSON with UTF-8 texts
pub patch_utf8 : (d : Data) → HasUtf8 d → IfSome (patch_in d) (λ patch. AllByRecursion EditHasUtf8 patch.edits)
patch_utf8 d u =
    let name = codes "ietf-yang-patch:yang-patch" in
    then_some patch_of (sole name d) MembersHaveUtf8 PatchHasUtf8 (sole_members name d u) patch_of_utf8
