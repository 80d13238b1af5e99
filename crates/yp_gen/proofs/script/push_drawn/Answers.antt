use Rattle.std.proofs.Common.{ap, ◌∙◌, string_bytes}
use Rattle.yp_gen.specs.Draws.{next_state}
use Rattle.yp_gen.proofs.Lines.{state_more, text_more}
use Rattle.yp_gen.proofs.script.push_drawn.Goals as goal

pub loop-before-preserved : goal.loop-before-preserved
loop-before-preserved c =
    let state = c.step-state.ensures ∙ ap next_state c.loop-before.invariant.state ∙ state_more c.args.seed c.loop-before.before in
    record {
      state = state;
      text = text_more c.args.seed c.loop-before.before c.step-state.result c.draw.result c.by.result (string_bytes c.args.text.now) (string_bytes c.loop-before.text) (string_bytes c.push_command.new.text)
          state c.draw.ensures c.by.ensures c.loop-before.invariant.text c.in_ok-push_command.ensures;
    }
