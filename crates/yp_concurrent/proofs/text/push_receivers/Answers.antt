use Rattle.std.proofs.Common.{◌≡◌, ◌∙◌, ◌+◌, ◌++◌, ◌∷◌, ℕ, List, append-nil, drop, ap, sym, string_bytes, arith}
use Rattle.std.specs.List.{flat_map}
use Rattle.std.proofs.lemmas.List.{drop_all, drop_more}
use Rattle.yp_journal.specs.declared.receiver.ReceiverInfo.{ReceiverInfo}
use Rattle.yp_report.specs.Report.{receiver_text}
use Rattle.yp_concurrent.specs.Report.{done_for, reports_beside}
use Rattle.yp_concurrent.specs.Texts.{listener_text}
use Rattle.yp_concurrent.proofs.Told.{can_be_shown, one_told, told}
use Rattle.yp_concurrent.proofs.text.push_receivers.Goals as goal

pub listener_text-requires : goal.listener_text-requires
listener_text-requires c =
    let here = c.requires.logs in
    can_be_shown c.what_is_held_can_be_written.ensures c.args.schema.now here.start (done_for c.loop-receiver.number here.runs) c.in_ok-listener.listener
    (c.in_ok-listener.ensures.its c.args.schema.now here.start here.runs (c.loop-receiver.invariant.have here.start here.runs here.have))

pub loop-receiver-preserved : goal.loop-receiver-preserved
loop-receiver-preserved c =
    let inv = c.loop-receiver.invariant in
    let nodes = c.args.schema.now in
    let receivers : List ReceiverInfo = c.args.receivers.now in
    let index = c.loop-receiver.receiver-index in
    let receiver = c.receiver-item.result in
    let listener = c.in_ok-listener.listener in
    let cut : drop index receivers ≡ receiver ∷ drop (index + 1) receivers = drop_more receivers index receiver c.loop-receiver-test.true ∙ ap (λ (one : ReceiverInfo). one ∷ drop (index + 1) receivers) (sym c.receiver-item.is) in
    record {
      number = omega (arith, inv.number);
      count = c.take_next.ensures.count ∙ inv.count;
      have = λ start runs have. c.in_ok-listener.ensures.left nodes start runs (inv.have start runs have);
      text = λ start runs have.
          one_told string_bytes nodes start runs c.loop-receiver.number receiver (drop (index + 1) receivers) (drop index receivers) c.loop-receiver.parts.items c.push.new.self.items c.in_ok-listener_text.field-0 _ cut
          (c.in_ok-listener_text.ensures
          ∙ (ap (λ (name : List ℕ). listener_text nodes name listener) c.as_str-name.ensures
          ∙ told nodes start c.the_lines_of_a_log_are_those_of_what_is_shown.ensures runs c.loop-receiver.number receiver listener c.in_ok-listener.ensures.number
          (c.in_ok-listener.ensures.its nodes start runs (inv.have start runs have))))
          c.in_ok-push.ensures.items (inv.text start runs have);
    }

pub returns : goal.returns
returns c = λ start runs have.
    let inv = c.loop-receiver.invariant in
    let nodes = c.args.schema.now in
    let receivers : List ReceiverInfo = c.args.receivers.now in
    let index = c.loop-receiver.receiver-index in
    let done : List ℕ = flat_map string_bytes c.loop-receiver.parts.items in
    sym (append-nil done)
    ∙ (ap (λ (those : List ReceiverInfo). done ++ flat_map (receiver_text nodes start) (reports_beside nodes start runs c.loop-receiver.number those)) (sym (drop_all index receivers c.loop-receiver-test.false)) ∙ inv.text start runs have)
