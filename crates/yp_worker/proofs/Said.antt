-- What is said of slots, and its packet.
use Rattle.std.proofs.Common.{◌≡◌, ◌∙◌, ℕ, ap, List}
use Rattle.std.specs.Prelude.{Result, Ok, Err, IfOk}
use Rattle.yp_schema.specs.declared.schema.SchemaNode.{SchemaNode}
use Rattle.yp_encode.specs.Lines.{line_of}
use Rattle.yp_queue.specs.declared.packet.Packet.{Packet}
use Rattle.yp_attempt.specs.Tracks.{Made}
use Rattle.yp_worker.specs.declared.saying.Said.{Said}
use Rattle.yp_worker.specs.Packets.{packet_of, said_of}

abbrev pub packet_with : ℕ → Said → List ℕ → Packet
packet_with sub said line = record { sub = sub; position = said.position; kind = said.kind; line = line }

-- what is said, with its line, makes the packet
pub packet_said : (nodes : List SchemaNode) (start sub : ℕ) (made : Made) (said : Said) (line : List ℕ) → said ≡ said_of sub made → line ≡ line_of nodes start said.tick said.notice
    → packet_with sub said line ≡ packet_of nodes start sub made
packet_said nodes start sub made said line is text =
    ap (packet_with sub said) text ∙ ap (λ (s : Said). packet_with sub s (line_of nodes start s.tick s.notice)) is

-- a result that has one thing has what follows from it
pub when_has : {X E : Type 0} {A C : X → Type 0} (r : Result X E) → IfOk r A → ((x : X) → A x → C x) → IfOk r C
when_has (Ok x) a f = f x a
when_has (Err e) a f = tt
