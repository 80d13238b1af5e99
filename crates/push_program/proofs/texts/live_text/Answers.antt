use Rattle.push_program.proofs.texts.live_text.Goals as goal

pub returns-in-Ok : goal.returns-in-Ok
returns-in-Ok g c = c.threads_text.ensures c.args.bytes.now c.in-Ok.ensures.read
