use Rattle.std.proofs.Common.{List, ℕ, ◌∙◌, subst}
use Rattle.yp_script.specs.Readings.{Gives}
use Rattle.yp_script.specs.Stream.{stream_of}
use Rattle.yp_script.proofs.Keeping.{take_least}
use Rattle.yp_script.proofs.stream.read_stream.Goals as goal

pub returns-clause-read : goal.returns-clause-read
returns-clause-read c =
    subst (λ (text : List ℕ). Gives c.read_text.result (stream_of text)) (c.split_at.ensures.front ∙ take_least c.args.bytes.now 67108865 c.min.result c.min.ensures) c.read_text.ensures.read
