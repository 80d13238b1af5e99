use Rattle.std.proofs.Common.{ap, ◌∙◌, List}
use Rattle.std.specs.String.{string_bytes}
use Rattle.yp_base.specs.Types.{same_text}
use Rattle.yp_journal.specs.declared.receiver.ReceiverInfo.{ReceiverInfo}
use Rattle.yp_command.specs.Names.{receiver_number}
use Rattle.yp_command.proofs.KeyLaws.{place_of_key}
use Rattle.yp_command.proofs.receivers.Receivers.number_of.Goals as goal

pub returns-clause-number : goal.returns-clause-number
returns-clause-number c =
    c.get_index_of.ensures.index
    ∙ place_of_key string_bytes (λ (r : ReceiverInfo). r.name) (same_text c.args.name.now) c.self.inside.by_name.entries c.self.invariant.0
    ∙ ap (λ (receivers : List ReceiverInfo). receiver_number receivers c.args.name.now) c.self.view_is
