-- Receivers by their names.
use Rattle.std.specs.Prelude.{ℕ, List, map, Option, position}
use Rattle.yp_base.specs.Types.{same_text}
use Rattle.yp_journal.specs.declared.receiver.ReceiverInfo.{ReceiverInfo}

abbrev pub names_of : List ReceiverInfo → List (List ℕ)
names_of receivers = map (λ receiver. receiver.name) receivers

-- the number of the receiver of a name, from 0 on in the order of their declaration
abbrev pub receiver_number : List ReceiverInfo → List ℕ → Option ℕ
receiver_number receivers name = position (same_text name) (names_of receivers)
