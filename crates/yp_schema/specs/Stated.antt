-- What the JSON of one node says of it. Nothing is looked up.
use Rattle.std.specs.Prelude.{ℕ, ◌+◌, ◌-◌, ◌==◌, ◌&&◌, ◌||◌, List, [], ◌∷◌, Bool, true, false, Option, Some, None, option_map, option_and_then, if◌then◌else◌, codes, nat_le}
use Rattle.serde_json.specs.Data.{Data, Members, no_members, member}
use Rattle.serde_json.specs.Find.{get_member, as_bool, as_array, as_object}
use Rattle.yp_base.specs.Types.{same_text, are_distinct, are_names}
use Rattle.yp_base.specs.Results.{tested}
use Rattle.yp_value.specs.Json.{text_member, texts_in}
use Rattle.yp_base.specs.declared.leaf_type.LeafType.{LeafType}
use Rattle.yp_base.specs.declared.leaf_type.LeafType.TheVariants.{Bool as Truth, Int, Uint, Dec, Text, Names as Enumeration, Empty}
use Rattle.yp_schema.specs.declared.schema.Kind.{Kind}
use Rattle.yp_schema.specs.declared.schema.Kind.TheVariants.{Container, Presence, List as Listing, Leaf, LeafList}
use Rattle.yp_schema.specs.declared.stated.Shape.{Shape}
use Rattle.yp_schema.specs.declared.stated.Shape.TheVariants as shapes
use Rattle.yp_schema.specs.declared.stated.Body.{Body}
use Rattle.yp_schema.specs.declared.stated.Stated.{Stated}
use Rattle.yp_value.specs.Enumerations.{in_byte_order}
use Rattle.yp_names.specs.Names.{Names, last, names_in, around_colon, is_name}

-- ---- members

-- the members of a shape's own
abbrev pub is_own : Shape → List ℕ → Bool
is_own shapes.Container name = same_text name (codes "presence")
is_own shapes.List name = same_text name (codes "keys")
is_own shapes.Leaf name = same_text name (codes "type")
is_own shapes.Enumeration name = same_text name (codes "type") || same_text name (codes "names")

-- the members that a node of a shape may have
abbrev pub may_have : Shape → List ℕ → Bool
may_have shape name = same_text name (codes "path") || same_text name (codes "kind") || same_text name (codes "deny-all") || is_own shape name

abbrev pub has_only : Shape → Members → Bool
has_only shape no_members = true
has_only shape (member name d ms) = may_have shape name && has_only shape ms

-- a member that is true or false, and false where it isn't there
abbrev pub flag_of : Option Data → Option Bool
flag_of None = Some false
flag_of (Some d) = as_bool d

abbrev pub flag_member : List ℕ → Members → Option Bool
flag_member name ms = flag_of (get_member name ms)

abbrev pub texts_member : List ℕ → Members → Option Names
texts_member name ms = option_and_then (λ d. option_and_then texts_in (as_array d)) (get_member name ms)

-- ---- types (RFC 7950 section 9)

-- 1 to 18, without a leading zero
abbrev pub places_in : List ℕ → Option ℕ
places_in [] = None
places_in (b ∷ []) = if nat_le 49 b && nat_le b 57 then Some (b - 48) else None
places_in (b ∷ c ∷ []) = if b == 49 && nat_le 48 c && nat_le c 56 then Some (10 + (c - 48)) else None
places_in (b ∷ c ∷ d ∷ rest) = None

-- `decimal64:p`
abbrev pub decimal_at : Option (List ℕ × List ℕ) → Option LeafType
decimal_at None = None
decimal_at (Some x) = if same_text x.0 (codes "decimal64") then option_map (λ places. Dec places) (places_in x.1) else None

abbrev pub integer_in : List ℕ → Option LeafType
integer_in text =
    if same_text text (codes "int8") then Some (Int 8)
    else (if same_text text (codes "int16") then Some (Int 16)
    else (if same_text text (codes "int32") then Some (Int 32)
    else (if same_text text (codes "int64") then Some (Int 64)
    else (if same_text text (codes "uint8") then Some (Uint 8)
    else (if same_text text (codes "uint16") then Some (Uint 16)
    else (if same_text text (codes "uint32") then Some (Uint 32)
    else (if same_text text (codes "uint64") then Some (Uint 64)
    else decimal_at (around_colon text))))))))

-- the type of a text other than `enumeration`
abbrev pub type_in : List ℕ → Option LeafType
type_in text =
    if same_text text (codes "boolean") then Some Truth
    else (if same_text text (codes "string") then Some Text
    else (if same_text text (codes "empty") then Some Empty
    else integer_in text))

-- ---- a node by its kind

abbrev pub all_names : Names → Bool
all_names [] = true
all_names (name ∷ names) = is_name name && all_names names

-- the names of the keys of a list: one or more, distinct
abbrev pub are_key_names : Names → Bool
are_key_names [] = false
are_key_names (key ∷ keys) = all_names (key ∷ keys) && are_distinct (key ∷ keys)

abbrev pub body : Kind → Names → Option LeafType → Bool → Body
body kind keys ty deny_all = record { kind = kind; keys = keys; ty = ty; deny_all = deny_all }

abbrev pub container_kind : Bool → Kind
container_kind true = Presence
container_kind false = Container

-- where a node has only the members of its shape
abbrev pub with_shape : Shape → Members → (Bool → Option Body) → Option Body
with_shape shape ms rest = if has_only shape ms then option_and_then rest (flag_member (codes "deny-all") ms) else None

abbrev pub container_in : Members → Option Body
container_in ms = with_shape shapes.Container ms (λ deny_all. option_map (λ presence. body (container_kind presence) [] None deny_all) (flag_member (codes "presence") ms))

abbrev pub list_in : Members → Option Body
list_in ms = with_shape shapes.List ms (λ deny_all. option_map (λ keys. body Listing keys None deny_all) (option_and_then (tested are_key_names) (texts_member (codes "keys") ms)))

-- the names of an enumeration are kept in byte order
abbrev pub enumeration_in : Kind → Members → Option Body
enumeration_in kind ms =
    with_shape shapes.Enumeration ms (λ deny_all. option_map (λ names. body kind [] (Some (Enumeration names)) deny_all) (option_and_then (tested are_names) (option_map in_byte_order (texts_member (codes "names") ms))))

-- a leaf or leaf-list; a text that is no type gives none
abbrev pub typed_in : Kind → List ℕ → Members → Option Body
typed_in kind text ms =
    if same_text text (codes "enumeration") then enumeration_in kind ms
    else with_shape shapes.Leaf ms (λ deny_all. Some (body kind [] (type_in text) deny_all))

abbrev pub leaf_in : Kind → Members → Option Body
leaf_in kind ms = option_and_then (λ text. typed_in kind text ms) (text_member (codes "type") ms)

abbrev pub of_kind : List ℕ → Members → Option Body
of_kind word ms =
    if same_text word (codes "container") then container_in ms
    else (if same_text word (codes "list") then list_in ms
    else (if same_text word (codes "leaf") then leaf_in Leaf ms
    else (if same_text word (codes "leaf-list") then leaf_in LeafList ms else None)))

abbrev pub body_in : Members → Option Body
body_in ms = option_and_then (λ word. of_kind word ms) (text_member (codes "kind") ms)

-- ---- a node

abbrev pub form_of : List ℕ → Option (List ℕ × List ℕ) → Option (Option (List ℕ) × List ℕ)
form_of text None = if is_name text then Some (None, text) else None
form_of text (Some x) = if is_name x.0 && is_name x.1 then Some (Some x.0, x.1) else None

-- a member form: `name`, or `module:name`
abbrev pub form_in : List ℕ → Option (Option (List ℕ) × List ℕ)
form_in text = form_of text (around_colon text)

abbrev pub stated : Names → Option (List ℕ) × List ℕ → Body → Stated
stated path form body = record { path = path; home = form.0; name = form.1; body = body }

-- what an object says of a node; None is the fault of a bad or unknown member
abbrev pub stated_in : Members → Option Stated
stated_in ms =
    option_and_then (λ text. option_and_then (λ path. option_and_then (λ form. option_map (λ body. stated path form body) (body_in ms)) (form_in (last path))) (names_in text))
    (text_member (codes "path") ms)

abbrev pub node_in : Data → Option Stated
node_in d = option_and_then stated_in (as_object d)
