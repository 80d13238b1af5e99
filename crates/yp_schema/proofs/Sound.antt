-- What is so of each node that the JSON of a part states.
use Rattle.std.proofs.Common.{◌≡◌, ℕ, ◌+◌, ◌-◌, ◌==◌, ◌&&◌, List, [], ◌∷◌, ◌++◌, length, Bool, true, false, cond, refl, ap, ◌∙◌, subst, Option, Some, None, option_map, option_and_then, arith, nat_le, nat_lt, codes}
use Rattle.std.specs.List.{position_or_len, before_first, after_first}
use Rattle.std.proofs.lemmas.Bool.Decides.{nat_tests}
use Rattle.serde_json.specs.Data.{Data, Members}
use Rattle.serde_json.specs.Find.{as_object}
use Rattle.std.proofs.lemmas.Bool.{and_parts}
use Rattle.yp_base.specs.Types.{same_text, is_type, are_names}
use Rattle.yp_base.specs.declared.leaf_type.LeafType.{LeafType}
use Rattle.yp_base.specs.declared.leaf_type.LeafType.TheVariants.{Dec, Names as Enumeration}
use Rattle.yp_schema.specs.declared.schema.Kind.{Kind}
use Rattle.yp_schema.specs.declared.schema.Kind.TheVariants.{Container, Presence, List as Listing, Leaf, LeafList}
use Rattle.yp_schema.specs.declared.stated.Shape.{Shape}
use Rattle.yp_schema.specs.declared.stated.Shape.TheVariants as shapes
use Rattle.yp_schema.specs.declared.stated.Body.{Body}
use Rattle.yp_schema.specs.declared.stated.Stated.{Stated}
use Rattle.yp_base.specs.Cuts.{cut}
use Rattle.yp_names.specs.Names.{Names, front, last, rooted, names_in, around_colon, is_name}
use Rattle.yp_schema.specs.WellFormed.{is_empty, has_none}
use Rattle.yp_value.specs.Enumerations.{in_byte_order}
use Rattle.yp_value.specs.Json.{text_member}
use Rattle.yp_base.specs.Results.{tested}
use Rattle.yp_schema.specs.Stated.{with_shape, has_only, flag_member, are_key_names, texts_member, container_in, container_kind, list_in, enumeration_in, typed_in, leaf_in, of_kind, body_in, body, type_in, integer_in, decimal_at, places_in, form_of, form_in, stated_in, stated, node_in}
use Rattle.yp_names.specs.NameLaws.{colon_found}

-- ---- types

abbrev pub type_fits : Option LeafType → Bool
type_fits None = true
type_fits (Some ty) = is_type ty

abbrev pub kind_fits : Kind → Names → Option LeafType → Bool
kind_fits Container keys ty = is_empty keys && has_none ty
kind_fits Presence keys ty = is_empty keys && has_none ty
kind_fits Listing keys ty = are_key_names keys && has_none ty
kind_fits Leaf keys ty = is_empty keys && type_fits ty
kind_fits LeafList keys ty = is_empty keys && type_fits ty

-- of a node whose type, if it has one, was found
abbrev pub body_fits : Body → Bool
body_fits b = kind_fits b.kind b.keys b.ty

-- what holds of what an option has
abbrev pub Has : {X : Type 0} → (X → Type 0) → Option X → Type 0
Has P None = Unit {0}
Has P (Some x) = P x

pub has_if : {X : Type 0} (P : X → Type 0) (t : Bool) (x y : Option X) → (t ≡ true → Has P x) → Has P y → Has P (cond t x y)
has_if P true x y h k = h refl
has_if P false x y h k = k

pub has_then : {X Y : Type 0} (P : Y → Type 0) (f : X → Option Y) (o : Option X) → ((x : X) → Has P (f x)) → Has P (option_and_then f o)
has_then P f None h = tt
has_then P f (Some x) h = h x

pub has_map : {X Y : Type 0} (P : Y → Type 0) (f : X → Y) (o : Option X) → ((x : X) → P (f x)) → Has P (option_map f o)
has_map P f None h = tt
has_map P f (Some x) h = h x

pub has_tested : {X Y : Type 0} (P : Y → Type 0) (test : X → Bool) (f : X → Y) (o : Option X) → ((x : X) → test x ≡ true → P (f x)) → Has P (option_map f (option_and_then (tested test) o))
has_tested P test f None h = tt
has_tested {X} P test f (Some x) h =
    elim (test x) as (λ t. test x ≡ t → Has P (option_map f (cond t (Some x) None))) [ true ↦ λ is. h x is | false ↦ λ is. tt ] refl

pub has_at : {X : Type 0} (P : X → Type 0) (o : Option X) (x : X) → Has P o → o ≡ Some x → P x
has_at P None x h is = cc
has_at P (Some y) x h is = let one : y ≡ x = cc in subst P one h

type_of_option : (o : Option LeafType) → Has (λ ty. is_type ty ≡ true) o → type_fits o ≡ true
type_of_option None h = refl
type_of_option (Some ty) h = h

IsPlaces : ℕ → Type 0
IsPlaces n = (nat_le 1 n && nat_le n 18) ≡ true

one_digit : (b : ℕ) → (nat_le 49 b && nat_le b 57) ≡ true → (nat_le 1 (b - 48) && nat_le (b - 48) 18) ≡ true
one_digit b h = grind (arith, nat_tests)

two_digits : (b c : ℕ) → (b == 49 && nat_le 48 c && nat_le c 56) ≡ true → (nat_le 1 (10 + (c - 48)) && nat_le (10 + (c - 48)) 18) ≡ true
two_digits b c h = grind (arith, nat_tests)

places_fit : (text : List ℕ) → Has (λ n. (nat_le 1 n && nat_le n 18) ≡ true) (places_in text)
places_fit [] = tt
places_fit (b ∷ []) = has_if (λ (n : ℕ). (nat_le 1 n && nat_le n 18) ≡ true) (nat_le 49 b && nat_le b 57) (Some (b - 48)) None (one_digit b) tt
places_fit (b ∷ c ∷ []) = has_if (λ (n : ℕ). (nat_le 1 n && nat_le n 18) ≡ true) (b == 49 && nat_le 48 c && nat_le c 56) (Some (10 + (c - 48))) None (two_digits b c) tt
places_fit (b ∷ c ∷ d ∷ rest) = tt

IsType : LeafType → Type 0
IsType ty = is_type ty ≡ true

has_dec : (o : Option ℕ) → Has (λ n. (nat_le 1 n && nat_le n 18) ≡ true) o → Has (λ ty. is_type ty ≡ true) (option_map (λ places. Dec places) o)
has_dec None h = tt
has_dec (Some n) h = h

decimal_fits : (o : Option (List ℕ × List ℕ)) → Has (λ ty. is_type ty ≡ true) (decimal_at o)
decimal_fits None = tt
decimal_fits (Some x) = has_if (λ ty. is_type ty ≡ true) (same_text x.0 (codes "decimal64")) (option_map (λ places. Dec places) (places_in x.1)) None (λ _. has_dec (places_in x.1) (places_fit x.1)) tt

integer_fits : (text : List ℕ) → Has (λ ty. is_type ty ≡ true) (integer_in text)
integer_fits text =
    let P : LeafType → Type 0 = λ ty. is_type ty ≡ true in
    has_if P (same_text text (codes "int8")) _ _ (λ _. refl)
    (has_if P (same_text text (codes "int16")) _ _ (λ _. refl)
    (has_if P (same_text text (codes "int32")) _ _ (λ _. refl)
    (has_if P (same_text text (codes "int64")) _ _ (λ _. refl)
    (has_if P (same_text text (codes "uint8")) _ _ (λ _. refl)
    (has_if P (same_text text (codes "uint16")) _ _ (λ _. refl)
    (has_if P (same_text text (codes "uint32")) _ _ (λ _. refl)
    (has_if P (same_text text (codes "uint64")) _ _ (λ _. refl)
    (decimal_fits (around_colon text)))))))))

type_in_fits : (text : List ℕ) → Has (λ ty. is_type ty ≡ true) (type_in text)
type_in_fits text =
    let P : LeafType → Type 0 = λ ty. is_type ty ≡ true in
    has_if P (same_text text (codes "boolean")) _ _ (λ _. refl)
    (has_if P (same_text text (codes "string")) _ _ (λ _. refl)
    (has_if P (same_text text (codes "empty")) _ _ (λ _. refl)
    (integer_fits text)))

-- ---- what stands beside the place of a node

shape_fits : (shape : Shape) (ms : Members) (rest : Bool → Option Body) → ((deny : Bool) → Has (λ b. body_fits b ≡ true) (rest deny)) → Has (λ b. body_fits b ≡ true) (with_shape shape ms rest)
shape_fits shape ms rest h =
    let P : Body → Type 0 = λ b. body_fits b ≡ true in
    has_if P (has_only shape ms) (option_and_then rest (flag_member (codes "deny-all") ms)) None (λ _. has_then P rest (flag_member (codes "deny-all") ms) h) tt

container_body : (presence deny : Bool) → body_fits (body (container_kind presence) [] None deny) ≡ true
container_body true deny = refl
container_body false deny = refl

list_body : (deny : Bool) (keys : Names) → are_key_names keys ≡ true → body_fits (body Listing keys None deny) ≡ true
list_body deny keys h = ap (λ t. t && true) h

-- a leaf or leaf-list
IsLeafKind : Kind → Type 0
IsLeafKind kind = (ty : Option LeafType) → kind_fits kind [] ty ≡ type_fits ty

enumeration_body : (kind : Kind) → ((ty : Option LeafType) → kind_fits kind [] ty ≡ type_fits ty) → (deny : Bool) (names : Names) → are_names names ≡ true → body_fits (body kind [] (Some (Enumeration names)) deny) ≡ true
enumeration_body kind leaf deny names h = leaf (Some (Enumeration names)) ∙ h

typed_fits : (kind : Kind) → ((ty : Option LeafType) → kind_fits kind [] ty ≡ type_fits ty) → (text : List ℕ) (ms : Members) → Has (λ b. body_fits b ≡ true) (typed_in kind text ms)
typed_fits kind leaf text ms =
    let P : Body → Type 0 = λ b. body_fits b ≡ true in
    has_if P (same_text text (codes "enumeration")) (enumeration_in kind ms) (with_shape shapes.Leaf ms (λ deny. Some (body kind [] (type_in text) deny)))
    (λ _. shape_fits shapes.Enumeration ms (λ deny. option_map (λ names. body kind [] (Some (Enumeration names)) deny) (option_and_then (tested are_names) (option_map in_byte_order (texts_member (codes "names") ms))))
    (λ deny. has_tested P are_names (λ names. body kind [] (Some (Enumeration names)) deny) (option_map in_byte_order (texts_member (codes "names") ms)) (enumeration_body kind leaf deny)))
    (shape_fits shapes.Leaf ms (λ deny. Some (body kind [] (type_in text) deny)) (λ deny. leaf (type_in text) ∙ type_of_option (type_in text) (type_in_fits text)))

leaf_fits : (kind : Kind) → ((ty : Option LeafType) → kind_fits kind [] ty ≡ type_fits ty) → (ms : Members) → Has (λ b. body_fits b ≡ true) (leaf_in kind ms)
leaf_fits kind leaf ms = has_then (λ b. body_fits b ≡ true) (λ text. typed_in kind text ms) (text_member (codes "type") ms) (λ text. typed_fits kind leaf text ms)

of_kind_fits : (word : List ℕ) (ms : Members) → Has (λ b. body_fits b ≡ true) (of_kind word ms)
of_kind_fits word ms =
    let P : Body → Type 0 = λ b. body_fits b ≡ true in
    has_if P (same_text word (codes "container")) (container_in ms) _
    (λ _. shape_fits shapes.Container ms (λ deny. option_map (λ presence. body (container_kind presence) [] None deny) (flag_member (codes "presence") ms))
    (λ deny. has_map P (λ presence. body (container_kind presence) [] None deny) (flag_member (codes "presence") ms) (λ presence. container_body presence deny)))
    (has_if P (same_text word (codes "list")) (list_in ms) _
    (λ _. shape_fits shapes.List ms (λ deny. option_map (λ keys. body Listing keys None deny) (option_and_then (tested are_key_names) (texts_member (codes "keys") ms)))
    (λ deny. has_tested P are_key_names (λ keys. body Listing keys None deny) (texts_member (codes "keys") ms) (list_body deny)))
    (has_if P (same_text word (codes "leaf")) (leaf_in Leaf ms) _ (λ _. leaf_fits Leaf (λ ty. refl) ms)
    (has_if P (same_text word (codes "leaf-list")) (leaf_in LeafList ms) None (λ _. leaf_fits LeafList (λ ty. refl) ms) tt)))

body_in_fits : (ms : Members) → Has (λ b. body_fits b ≡ true) (body_in ms)
body_in_fits ms = has_then (λ b. body_fits b ≡ true) (λ word. of_kind word ms) (text_member (codes "kind") ms) (λ word. of_kind_fits word ms)

-- ---- names

-- some names and one more
abbrev pub IsWay : Names → Type 0
IsWay path = front path ++ last path ∷ [] ≡ path

pub way_of : (name : List ℕ) (names : Names) → IsWay (name ∷ names)
way_of name [] = refl
way_of name (next ∷ names) = ap (λ xs. name ∷ xs) (way_of next names)

rooted_way : (names : Names) → Has IsWay (rooted names)
rooted_way [] = tt
rooted_way ([] ∷ []) = tt
rooted_way ([] ∷ name ∷ names) = way_of name names
rooted_way ((b ∷ bs) ∷ names) = tt

-- the text of a name with the module in front of it, if there is one
abbrev pub form_text : Option (List ℕ) → List ℕ → List ℕ
form_text None name = name
form_text (Some home) name = home ++ 58 ∷ name

abbrev pub home_fits : Option (List ℕ) → Bool
home_fits None = true
home_fits (Some home) = is_name home

-- what is so of a member form that was read
pub record IsForm (text : List ℕ) (form : Option (List ℕ) × List ℕ) : Type 0 where
  pub written : text ≡ form_text form.0 form.1
  pub home : home_fits form.0 ≡ true
  pub name : is_name form.1 ≡ true

form_is : (text : List ℕ) (o : Option (List ℕ × List ℕ)) → Has (λ x. text ≡ x.0 ++ 58 ∷ x.1) o → Has (IsForm text) (form_of text o)
form_is text None h = has_if (IsForm text) (is_name text) (Some (None, text)) None (λ is. record { written = refl; home = refl; name = is }) tt
form_is text (Some x) h = has_if (IsForm text) (is_name x.0 && is_name x.1) (Some (Some x.0, x.1)) None
    (λ is. record { written = h; home = (and_parts _ _ is).0; name = (and_parts _ _ is).1 }) tt

around_is : (text : List ℕ) → Has (λ x. text ≡ x.0 ++ 58 ∷ x.1) (around_colon text)
around_is text =
    has_if (λ (x : List ℕ × List ℕ). text ≡ x.0 ++ 58 ∷ x.1) (nat_lt (position_or_len (λ b. b == 58) text) (length text))
    (Some (before_first (λ b. b == 58) text, after_first (λ b. b == 58) text)) None (λ is. colon_found text (grind (arith, nat_tests))) tt

-- ---- a node

-- what is so of a node that a part states
pub record IsSound (node : Stated) : Type 0 where
  pub way : front node.path ++ last node.path ∷ [] ≡ node.path
  pub form : IsForm (last node.path) (node.home, node.name)
  pub body : body_fits node.body ≡ true

body_sound : (path : Names) → IsWay path → (form : Option (List ℕ) × List ℕ) → IsForm (last path) form → (o : Option Body) → Has (λ b. body_fits b ≡ true) o
    → Has IsSound (option_map (λ b. stated path form b) o)
body_sound path way form is None h = tt
body_sound path way form is (Some b) h = record { way = way; form = record { written = is.written; home = is.home; name = is.name }; body = h }

form_sound : (ms : Members) (path : Names) → IsWay path → (o : Option (Option (List ℕ) × List ℕ)) → Has (IsForm (last path)) o
    → Has IsSound (option_and_then (λ form. option_map (λ b. stated path form b) (body_in ms)) o)
form_sound ms path way None h = tt
form_sound ms path way (Some form) h = body_sound path way form h (body_in ms) (body_in_fits ms)

path_sound : (ms : Members) (o : Option Names) → Has IsWay o → Has IsSound (option_and_then (λ path. option_and_then (λ form. option_map (λ b. stated path form b) (body_in ms)) (form_in (last path))) o)
path_sound ms None h = tt
path_sound ms (Some path) h = form_sound ms path h (form_in (last path)) (form_is (last path) (around_colon (last path)) (around_is (last path)))

stated_sound : (ms : Members) → Has IsSound (stated_in ms)
stated_sound ms =
    has_then IsSound (λ text. option_and_then (λ path. option_and_then (λ form. option_map (λ b. stated path form b) (body_in ms)) (form_in (last path))) (names_in text))
    (text_member (codes "path") ms) (λ text. path_sound ms (names_in text) (rooted_way (cut 47 text)))

pub node_sound : (d : Data) → Has IsSound (node_in d)
node_sound d = has_then IsSound stated_in (as_object d) stated_sound
