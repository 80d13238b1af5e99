use Rattle.std.proofs.Common.{List, ℕ, Some, cond, ap, ◌∙◌}
use Rattle.std.specs.BTreeMap.{get_by_text}
use Rattle.std.specs.String.{string_bytes}
use Rattle.std.proofs.lemmas.Map.Text.{btree_map_updates_text}
use Rattle.yp_base.specs.Types.{same_text}
use Rattle.yp_schema.proofs.index.enter_name.Goals as goal

pub returns : goal.returns
returns c = λ q.
    btree_map_updates_text (string_bytes c.in_ok-from_str.field-0) c.args.children.now c.insert.new.self (Some c.args.number) c.in_ok-insert.ensures.updates q
    ∙ ap (λ (bs : List ℕ). cond (same_text bs q) (Some c.args.number) (get_by_text c.args.children.now q)) c.in_ok-from_str.ensures.ok
