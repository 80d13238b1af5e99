-- What is found equal of users' own rules is one.
use Rattle.std.proofs.Common.{◌≡◌, ℕ, List, Bool, true, true≢false, Option, Some, None, refl, sym, ap}
use Rattle.std.specs.Prelude.{is_some, unwrap_or, nat_eq}
use Rattle.std.specs.Bool.{Decides}
use Rattle.std.specs.Cmp.{booleans_Decides}
use Rattle.std.specs.Cmp.Lexicographic.{pointwise}
use Rattle.std.specs.Option.{option_eq}
use Rattle.std.specs.Ordering.{eq_by_cmp}
use Rattle.std.proofs.Math.Bool.{beq}
use Rattle.std.proofs.lemmas.Bool.Decides.{Decides-eqb, Decides-and, Decides-like}
use Rattle.std.proofs.lemmas.Slice.Eq.{slice_eq-Decides}
use Rattle.yp_base.specs.Exact.{atoms_exact, order_decides}
use Rattle.yp_base.specs.Order.{atom_cmp}
use Rattle.yp_base.specs.OrderLaws.{atoms_total}
use Rattle.yp_base.specs.declared.atom.Atom.{Atom}
use Rattle.yp_base.specs.declared.path.Seg.{Seg}
use Rattle.yp_base.specs.declared.rule_path.RuleSeg.{RuleSeg}
use Rattle.yp_schema.specs.declared.schema.SchemaNode.{SchemaNode}
use Rattle.yp_nacm.specs.declared.compile.UserRule.{UserRule}
use Rattle.yp_nacm.specs.declared.compile.UserRules.{UserRules}
use Rattle.yp_nacm.specs.Decision.{is_readable}
use Rattle.yp_nacm.specs.Same.{same_segment, same_rule, are_same_rules}

-- what `==` decides of values, it decides of values that may be missing
option_decides : {A : Type 0} {E : A → A → Bool} → ((a b : A) → Decides (E a b) (a ≡ b)) → (x y : Option A) → Decides (option_eq E x y) (x ≡ y)
option_decides each None None = (λ _. refl, λ _. refl)
option_decides each None (Some b) = (λ t. absurd (true≢false (sym t)), λ e. absurd (true≢false (sym (ap is_some e))))
option_decides each (Some a) None = (λ t. absurd (true≢false (sym t)), λ e. absurd (true≢false (ap is_some e)))
option_decides {A} {E} each (Some a) (Some b) = Decides-like (E a b) (λ e. ap (λ x. Some x) e) (λ e. ap (λ o. unwrap_or o a) e) (each a b)

lists_decide : {A : Type 0} {E : A → A → Bool} → ((a b : A) → Decides (E a b) (a ≡ b)) → (xs ys : List A) → Decides (pointwise E xs ys) (xs ≡ ys)
lists_decide {A} {E} each xs ys = slice_eq-Decides each xs ys (pointwise E xs ys) refl

keys_decide : (a b : List (Option Atom)) → Decides (pointwise (option_eq (eq_by_cmp atom_cmp)) a b) (a ≡ b)
keys_decide = lists_decide (option_decides (order_decides atoms_total atoms_exact))

segments_decide : (a b : RuleSeg) → Decides (same_segment a b) (a ≡ b)
segments_decide a b =
    Decides-like (same_segment a b) (λ h i. record { node = h.0 i; keys = h.1 i }) (λ e. (ap (λ seg. seg.node) e, ap (λ seg. seg.keys) e))
    (Decides-and (nat_eq a.node b.node) _ (Decides-eqb a.node b.node) (keys_decide a.keys b.keys))

texts_decide : (a b : List ℕ) → Decides (pointwise nat_eq a b) (a ≡ b)
texts_decide = lists_decide Decides-eqb

rules_decide : (a b : UserRule) → Decides (same_rule a b) (a ≡ b)
rules_decide a b =
    Decides-like (same_rule a b) (λ h i. record { «module» = h.0 i; path = h.1.0 i; permit = h.1.1 i }) (λ e. (ap (λ rule. rule.«module») e, (ap (λ rule. rule.path) e, ap (λ rule. rule.permit) e)))
    (Decides-and (option_eq (pointwise nat_eq) a.«module» b.«module») _ (option_decides texts_decide a.«module» b.«module»)
    (Decides-and (option_eq (pointwise same_segment) a.path b.path) _ (option_decides (lists_decide segments_decide) a.path b.path) (booleans_Decides a.permit b.permit)))

-- what `==` decides of users' own rules
pub own_rules_decide : (a b : UserRules) → Decides (are_same_rules a b) (a ≡ b)
own_rules_decide a b =
    Decides-like _ (λ h i. record { enabled = h.0 i; read_permit = h.1.0 i; rules = h.1.1 i }) (λ e. (ap (λ rules. rules.enabled) e, (ap (λ rules. rules.read_permit) e, ap (λ rules. rules.rules) e)))
    (Decides-and (beq a.enabled b.enabled) _ (booleans_Decides a.enabled b.enabled)
    (Decides-and (beq a.read_permit b.read_permit) _ (booleans_Decides a.read_permit b.read_permit) (lists_decide rules_decide a.rules b.rules)))

-- rules that are found the same are one
pub same_are_one : (a b : UserRules) → are_same_rules a b ≡ true → a ≡ b
same_are_one a b = (own_rules_decide a b).0

pub same_itself : (a : UserRules) → are_same_rules a a ≡ true
same_itself a = (own_rules_decide a a).1 refl

-- and by them the same paths may be read
pub same_readable : (a b : UserRules) → are_same_rules a b ≡ true → (nodes : List SchemaNode) (path : List Seg) → is_readable nodes a path ≡ is_readable nodes b path
same_readable a b same nodes path = ap (λ rules. is_readable nodes rules path) (same_are_one a b same)
