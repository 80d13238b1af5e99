use Rattle.std.proofs.Common.{◌≡◌, List, refl, sym, subst, ◌∙◌, length}
use Rattle.std.proofs.lemmas.Result.{err_from_is_err_and}
use Rattle.serde_json.specs.View.{view}
use Rattle.yp_schema.specs.declared.schema.SchemaNode.{SchemaNode}
use Rattle.yp_command.specs.Faults.{Said}
use Rattle.yp_command.specs.Requests.{seen_request, command_said}
use Rattle.yp_command.specs.Readings.{Halts}
use Rattle.yp_script.specs.declared.lane.Laned.{Laned}
use Rattle.yp_script.specs.Readers.{progress_with}
use Rattle.yp_script.proofs.CommandLaws.{Same, laned_read, added_laned, stops_laned}
use Rattle.yp_script.proofs.reader.Reader.take_laned.Goals as goal

pub returns-in_err-laned : goal.returns-in_err-laned
returns-in_err-laned c =
    let old = c.args.self.now in
    let mid = c.read_asked-command.new.self in
    let request = seen_request c.args.request in
    let place = view c.args.number.now in
    let same : Same old mid = record { schema = c.read_asked-command.ensures.schema; held = c.read_asked-command.ensures.same } in
    let many : c.len.result ≡ length mid.lanes.items = c.len.ensures ∙ mid.lanes.ok.0 in
    let p = err_from_is_err_and c.from_residual.result c.from_residual.ensures.1 in
    rw (p.1, p.2)
    (stops_laned old mid same place request c.in_err-laned.field-0.0
    (λ (nodes : List SchemaNode) known.
    subst (λ (said : Said Laned). Halts c.in_err-laned.field-0.0 said) (sym (laned_read old mid same c.len.result c.whole-lane.result place request nodes many c.whole-lane.ensures.read))
    (c.in_err-laned.ensures.read (command_said nodes old.start old.receivers request) (c.read_asked-command.ensures.said nodes known))))

pub returns : goal.returns
returns c =
    let old = c.args.self.now in
    let mid = c.read_asked-command.new.self in
    let request = seen_request c.args.request in
    let place = view c.args.number.now in
    let same : Same old mid = record { schema = c.read_asked-command.ensures.schema; held = c.read_asked-command.ensures.same } in
    let many : c.len.result ≡ length mid.lanes.items = c.len.ensures ∙ mid.lanes.ok.0 in
    added_laned old mid _ same place request c.in_ok-laned.laned
    (λ (nodes : List SchemaNode) known.
    laned_read old mid same c.len.result c.whole-lane.result place request nodes many c.whole-lane.ensures.read
    ∙ c.in_ok-laned.ensures.read (command_said nodes old.start old.receivers request) (c.read_asked-command.ensures.said nodes known)) refl
    (λ (nodes : List SchemaNode). λ i. record (progress_with mid nodes) { lanes = c.in_ok-push_in.ensures i })
