-- The names and the module of each node that an item states.
use Rattle.std.proofs.Common.{◌≡◌, List, [], ◌∷◌, ◌++◌, ℕ, codes, refl, sym, ap, ◌∙◌, true, false, cond, Option, Some, None, option_map, option_and_then}
use Rattle.serde_json.specs.Data.{Data, Members}
use Rattle.serde_json.specs.Find.{as_object}
use Rattle.yp_base.specs.PathLaws.{texts_itself}
use Rattle.yp_base.specs.Types.{same_text}
use Rattle.yp_schema.specs.declared.stated.Stated.{Stated}
use Rattle.yp_names.specs.Names.{Names, front, last, names_in}
use Rattle.yp_schema.specs.Rounds.{own_module}
use Rattle.yp_value.specs.Json.{text_member}
use Rattle.yp_schema.specs.Stated.{body_in, form_in, stated, stated_in, node_in}
use Rattle.yp_schema.specs.Compiled.{carried_by, module_below, module_along, module_of, carries, HasModule}
use Rattle.yp_schema.proofs.Sound.{Has, has_at, has_then, has_map, IsSound, node_sound}

form_carried : (ms : Members) (path : Names) (o : Option (Option (List ℕ) × List ℕ)) → form_in (last path) ≡ o → Has (λ node. carried_by (last node.path) ≡ node.home) (option_and_then (λ form. option_map (λ b. stated path form b) (body_in ms)) o)
form_carried ms path None is = tt
form_carried ms path (Some form) is = has_map (λ node. carried_by (last node.path) ≡ node.home) (λ b. stated path form b) (body_in ms) (λ b. ap (option_and_then (λ form. form.0)) is)

node_carried : (d : Data) → Has (λ node. carried_by (last node.path) ≡ node.home) (node_in d)
node_carried d =
    let P : Stated → Type 0 = λ node. carried_by (last node.path) ≡ node.home in
    has_then P stated_in (as_object d)
    (λ ms. has_then P (λ text. option_and_then (λ path. option_and_then (λ form. option_map (λ b. stated path form b) (body_in ms)) (form_in (last path))) (names_in text)) (text_member (codes "path") ms)
    (λ text. has_then P (λ path. option_and_then (λ form. option_map (λ b. stated path form b) (body_in ms)) (form_in (last path))) (names_in text) (λ path. form_carried ms path (form_in (last path)) refl)))

-- what is so of a node that an item states
pub record IsRead (node : Stated) : Type 0 where
  pub sound : IsSound node
  pub carried : carried_by (last node.path) ≡ node.home

pub node_read : (d : Data) (node : Stated) → node_in d ≡ Some node → IsRead node
node_read d node is = record {
  sound = has_at IsSound (node_in d) node (node_sound d) is;
  carried = has_at (λ node. carried_by (last node.path) ≡ node.home) (node_in d) node (node_carried d) is;
}

along_more : (above : Option (List ℕ)) (names : Names) (name : List ℕ) → module_along above (names ++ name ∷ []) ≡ module_below (module_along above names) (carried_by name)
along_more above [] name = refl
along_more above (first ∷ names) name = along_more (module_below above (carried_by first)) names name

-- the module of a node by its parent's and by what its last name carries
pub module_last : (node : Stated) → IsRead node → module_of node.path ≡ module_below (module_of (front node.path)) node.home
module_last node read = sym (ap module_of read.sound.way) ∙ along_more None (front node.path) (last node.path) ∙ ap (module_below (module_of (front node.path))) read.carried

-- what a name carries, and the module that is its own by it
own_carries : (above stated : Option (List ℕ)) (home : List ℕ) → own_module above stated ≡ Some home → (module_below above stated ≡ Some home) × (stated ≡ carries above home)
own_carries None None home is = cc
own_carries None (Some h) home is = (is, is)
own_carries (Some a) None home is =
    let one : home ≡ a = cc in
    (is, sym (ap (λ t. cond t None (Some home)) (ap (λ x. same_text x a) one ∙ texts_itself a)))
own_carries (Some a) (Some h) home is =
    elim (same_text h a) as (λ t. same_text h a ≡ t → cond t None (Some h) ≡ Some home → (Some h ≡ Some home) × (Some h ≡ carries (Some a) home)) [
      | true ↦ λ same k. cc
      | false ↦ λ same k.
          let one : home ≡ h = cc in
          (k, k ∙ sym (ap (λ t. cond t None (Some home)) (ap (λ x. same_text x a) one ∙ same)))
    ] refl is

carries_own : (above stated : Option (List ℕ)) (home : List ℕ) → module_below above stated ≡ Some home → stated ≡ carries above home → own_module above stated ≡ Some home
carries_own None stated home is written = ap (own_module None) written
carries_own (Some a) stated home is written =
    elim (same_text home a) as (λ t. same_text home a ≡ t → stated ≡ cond t None (Some home) → own_module (Some a) stated ≡ Some home) [
      | true ↦ λ same k. ap (own_module (Some a)) k ∙ sym (ap (module_below (Some a)) k) ∙ is
      | false ↦ λ same k. ap (own_module (Some a)) k ∙ ap (λ t. cond t None (Some home)) same
    ] refl written

pub has_module : (node : Stated) (home : List ℕ) → IsRead node → own_module (module_of (front node.path)) node.home ≡ Some home → (m : HasModule node) × (m.home ≡ home)
has_module node home read is =
    let says = own_carries (module_of (front node.path)) node.home home is in
    (record { home = home; own = module_last node read ∙ says.0; written = says.1 }, refl)

pub module_own : (node : Stated) → IsRead node → (m : HasModule node) → own_module (module_of (front node.path)) node.home ≡ Some m.home
module_own node read m = carries_own (module_of (front node.path)) node.home m.home (sym (module_last node read) ∙ m.own) m.written
