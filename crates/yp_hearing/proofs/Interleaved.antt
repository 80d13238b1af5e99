-- What can be told of a journal can be told of its first entries.
use Rattle.std.proofs.Common.{ℕ, List, take, arith}
use Rattle.std.proofs.lemmas.List.{length-take}
use Rattle.yp_schema.specs.declared.schema.SchemaNode.{SchemaNode}
use Rattle.yp_journal.specs.declared.entry.Entry.{Entry}
use Rattle.yp_journal.specs.declared.receiver.ReceiverInfo.{ReceiverInfo}
use Rattle.yp_journal.specs.History.{first_state}
use Rattle.yp_promise.proofs.Interleaving.{first_legal}
use Rattle.yp_texts.specs.Commands.{CommandHasUtf8}
use Rattle.yp_hearing.specs.Hearing.{CanBeTold}
use Rattle.yp_hearing.proofs.Told.{all_taken_first}

pub first_can : (nodes : List SchemaNode) (receivers : List ReceiverInfo) (entries : List Entry) (n : ℕ) → CanBeTold nodes receivers entries → CanBeTold nodes receivers (take n entries)
first_can nodes receivers entries n can =
    let part = length-take n entries in
    record {
      schema = can.schema;
      legal = first_legal nodes (first_state receivers) entries n can.legal;
      texts = all_taken_first (λ (entry : Entry). CommandHasUtf8 entry.command) n entries can.texts;
      few = omega (arith, part, can.few);
    }
