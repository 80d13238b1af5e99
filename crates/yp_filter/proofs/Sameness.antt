-- What is found the same is one.
use Rattle.std.proofs.Common.{◌≡◌, refl, ap, ◌&&◌}
use Rattle.std.specs.Prelude.{nat_eq}
use Rattle.std.specs.Bool.{Decides}
use Rattle.std.proofs.lemmas.Bool.Decides.{Decides-eqb, Decides-and, Decides-like}
use Rattle.yp_base.specs.RowLaws.{values_decide}
use Rattle.yp_base.specs.Rows.{same_value}
use Rattle.yp_filter.specs.Filters.{Node, Nodes, select, compare, within, unknown, unknown_compare, none, more, of_set}
use Rattle.yp_filter.specs.Same.{same_node, same_set}

mutual
  pub nodes_decide : (a b : Node) → Decides (same_node a b) (a ≡ b)
  nodes_decide (select n) (select m) = Decides-like (nat_eq n m) (λ e. ap select e) (λ e. cc) (Decides-eqb n m)
  nodes_decide (compare n v) (compare m w) =
      Decides-like (nat_eq n m && same_value v w) (λ h i. compare (h.0 i) (h.1 i)) (λ e. (cc, cc)) (Decides-and (nat_eq n m) (same_value v w) (Decides-eqb n m) (values_decide v w))
  nodes_decide (within n v) (within m w) =
      Decides-like (nat_eq n m && same_set v w) (λ h i. within (h.0 i) (h.1 i)) (λ e. (cc, cc)) (Decides-and (nat_eq n m) (same_set v w) (Decides-eqb n m) (sets_decide v w))
  nodes_decide unknown unknown = (λ t. refl, λ e. refl)
  nodes_decide unknown_compare unknown_compare = (λ t. refl, λ e. refl)
  nodes_decide a b = (λ t. cc, λ e. cc)

  pub sets_decide : (a b : Nodes) → Decides (same_set a b) (a ≡ b)
  sets_decide none none = (λ t. refl, λ e. refl)
  sets_decide (more a as_) (more b bs) =
      Decides-like (same_node a b && same_set as_ bs) (λ h i. more (h.0 i) (h.1 i)) (λ e. (cc, cc)) (Decides-and (same_node a b) (same_set as_ bs) (nodes_decide a b) (sets_decide as_ bs))
  sets_decide a b = (λ t. cc, λ e. cc)

-- sets that are found the same are one filter
pub filters_decide : (a b : Nodes) → Decides (same_set a b) (of_set a ≡ of_set b)
filters_decide a b = Decides-like (same_set a b) (λ e. ap of_set e) (λ e. cc) (sets_decide a b)
