use Rattle.std.proofs.Common.{◌<◌, length, IfSome, Some, nat_eq, sym, ap, ◌∙◌, subst}
use Rattle.std.specs.Option.{option_eq}
use Rattle.yp_schema.specs.declared.schema.SchemaNode.{SchemaNode}
use Rattle.yp_schema.specs.Nodes.{is_key}
use Rattle.yp_schema.proofs.Flags.{told_key, told_none}
use Rattle.yp_schema.proofs.schema.Schema.is_key.Goals as goal

pub returns-then-is_key_node : goal.returns-then-is_key_node
returns-then-is_key_node c =
    let nodes = c.args.self.now in
    let within = subst (λ o. IfSome o (λ p. p < length nodes)) c.in-Some.is c.requires in
    c.eq.ensures ∙ ap (λ (node : SchemaNode). option_eq nat_eq node.parent (Some c.in-Some.above)) c.node.ensures.node
    ∙ told_key nodes c.in-Some.above c.args.node c.stands.ensures within (sym c.is_key_node.ensures ∙ c.if-is_key_node.true) ∙ sym (ap (λ p. is_key c.args.node p nodes) c.in-Some.is)

pub returns-else-is_key_node : goal.returns-else-is_key_node
returns-else-is_key_node c =
    let nodes = c.args.self.now in
    let within = subst (λ o. IfSome o (λ p. p < length nodes)) c.in-Some.is c.requires in
    c.if-is_key_node.false ∙ sym (told_none nodes c.in-Some.above c.args.node c.stands.ensures within (sym c.is_key_node.ensures ∙ c.if-is_key_node.false)) ∙ sym (ap (λ p. is_key c.args.node p nodes) c.in-Some.is)
