use Rattle.std.proofs.Common.{◌≡◌, ℕ, List, length, ◌∙◌}
use Rattle.std.proofs.lemmas.List.Elements.{All-push}
use Rattle.serde_json.specs.Data.{Data}
use Rattle.serde_json.specs.View.{view}
use Rattle.yp_base.specs.Types.{is_among}
use Rattle.yp_schema.specs.declared.schema.SchemaNode.{SchemaNode}
use Rattle.yp_nacm.specs.declared.policy.RuleList.{RuleList}
use Rattle.yp_nacm.specs.Policies.{IsListOf}
use Rattle.yp_nacm_text.specs.Policies.{list_in, next_list, names_list}
use Rattle.yp_nacm_text.proofs.Items.{each_more}
use Rattle.yp_nacm_text.proofs.TakenNames.{named_more}
use Rattle.yp_nacm_text.proofs.list.read_lists.Goals as goal

-- what is read by this number, and by the names that are taken, is the next rule list
this_list : (nodes : List SchemaNode) (n : ℕ) (before : List RuleList) (names : List (List ℕ)) (d : Data) → n ≡ length before → ((text : List ℕ) → is_among text names ≡ names_list before text)
    → list_in nodes n (λ name. is_among name names) d ≡ next_list nodes before d
this_list nodes n before names d same taken = λ i. list_in nodes (same i) (λ name. taken name i) d

pub loop-item-preserved : goal.loop-item-preserved
loop-item-preserved c =
    let one = this_list c.args.schema.now c.len-number.result c.loop-item.lists.items c.loop-item.names (view c.item-item.result) (c.len-number.ensures ∙ c.loop-item.lists.ok.0) c.loop-item.invariant.names in
    record {
      read =
          each_more (next_list c.args.schema.now) c.args.items.now c.loop-item.item-index c.item-item.result c.loop-item.lists.items
          (list_in c.args.schema.now c.len-number.result (λ name. is_among name c.loop-item.names) (view c.item-item.result)) c.loop-item-test.true c.item-item.is one c.push.new.self.items c.in_ok-read_list.field-0
          c.in_ok-read_list.ensures.read c.in_ok-push.ensures.items
          ∙ c.loop-item.invariant.read;
      names = named_more (λ (list : RuleList). list.name) c.loop-item.lists.items c.push.new.self.items c.in_ok-read_list.field-0 c.loop-item.names c.read_list.new.names c.in_ok-push.ensures.items
          c.in_ok-read_list.ensures.name c.loop-item.invariant.names;
      paths = rw c.in_ok-push.ensures.items
          (All-push (IsListOf c.args.schema.now) c.loop-item.lists.items c.in_ok-read_list.field-0 c.loop-item.invariant.paths c.in_ok-read_list.ensures.paths);
    }
