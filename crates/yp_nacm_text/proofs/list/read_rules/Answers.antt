use Rattle.std.proofs.Common.{◌≡◌, ℕ, List, length, ◌∙◌, subst}
use Rattle.std.proofs.lemmas.Result.{err_from_is_err_and}
use Rattle.std.proofs.lemmas.List.Elements.{All-push}
use Rattle.serde_json.specs.Data.{Data}
use Rattle.serde_json.specs.View.{view}
use Rattle.yp_base.specs.Types.{is_among}
use Rattle.yp_schema.specs.declared.schema.SchemaNode.{SchemaNode}
use Rattle.yp_nacm.specs.declared.policy.Rule.{Rule}
use Rattle.yp_nacm_text.specs.declared.fault.Place.TheVariants.{Rule as OfRule}
use Rattle.yp_nacm_text.specs.Faults.{Tells}
use Rattle.yp_nacm.specs.Policies.{IsSubjectOf}
use Rattle.yp_nacm_text.specs.Rules.{rule_in}
use Rattle.yp_nacm_text.specs.Policies.{next_rule, names_rule}
use Rattle.yp_nacm_text.proofs.Items.{each_more, each_fault}
use Rattle.yp_nacm_text.proofs.TakenNames.{named_more}
use Rattle.yp_nacm_text.proofs.list.read_rules.Goals as goal

-- what is read at this place, by the names that are taken, is the next rule
this_rule : (nodes : List SchemaNode) (list n : ℕ) (before : List Rule) (names : List (List ℕ)) (d : Data) → n ≡ length before → ((text : List ℕ) → is_among text names ≡ names_rule before text)
    → rule_in nodes (OfRule list n) (λ name. is_among name names) d ≡ next_rule nodes list before d
this_rule nodes list n before names d same taken = λ i. rule_in nodes (OfRule list (same i)) (λ name. taken name i) d

pub returns-in_err-read_rule-clause-read : goal.returns-in_err-read_rule-clause-read
returns-in_err-read_rule-clause-read c =
    let p = err_from_is_err_and c.from_residual.result c.from_residual.ensures.1 in
    let place = OfRule c.args.list c.len.result in
    let one = this_rule c.args.schema.now c.args.list c.len.result c.loop-item.rules.items c.loop-item.names (view c.item-item.result) (c.len.ensures ∙ c.loop-item.rules.ok.0) c.loop-item.invariant.names in
    rw (p.1, p.2)
    (subst (λ read. Tells c.in_err-read_rule.field-0.0 read) c.loop-item.invariant.read
    (each_fault (next_rule c.args.schema.now c.args.list) c.args.items.now c.loop-item.item-index c.item-item.result c.loop-item.rules.items
    (rule_in c.args.schema.now place (λ name. is_among name c.loop-item.names) (view c.item-item.result)) c.loop-item-test.true c.item-item.is one c.in_err-read_rule.field-0.0
    c.in_err-read_rule.ensures.read))

pub loop-item-preserved : goal.loop-item-preserved
loop-item-preserved c =
    let place = OfRule c.args.list c.len.result in
    let one = this_rule c.args.schema.now c.args.list c.len.result c.loop-item.rules.items c.loop-item.names (view c.item-item.result) (c.len.ensures ∙ c.loop-item.rules.ok.0) c.loop-item.invariant.names in
    record {
      read =
          each_more (next_rule c.args.schema.now c.args.list) c.args.items.now c.loop-item.item-index c.item-item.result c.loop-item.rules.items
          (rule_in c.args.schema.now place (λ name. is_among name c.loop-item.names) (view c.item-item.result)) c.loop-item-test.true c.item-item.is one c.push.new.self.items c.in_ok-read_rule.field-0
          c.in_ok-read_rule.ensures.read c.in_ok-push.ensures.items
          ∙ c.loop-item.invariant.read;
      names = named_more (λ (rule : Rule). rule.name) c.loop-item.rules.items c.push.new.self.items c.in_ok-read_rule.field-0 c.loop-item.names c.read_rule.new.names c.in_ok-push.ensures.items
          c.in_ok-read_rule.ensures.name c.loop-item.invariant.names;
      paths = rw c.in_ok-push.ensures.items
          (All-push (λ (rule : Rule). IsSubjectOf c.args.schema.now rule.subject) c.loop-item.rules.items c.in_ok-read_rule.field-0 c.loop-item.invariant.paths c.in_ok-read_rule.ensures.path);
    }
