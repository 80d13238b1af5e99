-- Receivers that take on, one step after another.
use Rattle.std.proofs.Common.{◌≡◌, ℕ, true, List, [], ◌∷◌, ◌++◌, map, append-nil, append_assoc, refl, sym, ap, ◌∙◌}
use Rattle.yp_base.specs.declared.row.Row.{Row}
use Rattle.yp_schema.specs.declared.schema.SchemaNode.{SchemaNode}
use Rattle.yp_queue.specs.declared.packet.Packet.{Packet}
use Rattle.yp_queue_share.specs.Sides.{Taking}
use Rattle.yp_receiver.specs.Held.{told, line_taken, lines_heard, IsTaken}
use Rattle.yp_takers.specs.declared.taker.TakerJob.{TakerJob}
use Rattle.yp_takers.specs.Takers.{HasTakenOn}

-- what is kept is what the queue gave, where it gave nothing
pub none_kept : (packets now : List Packet) (before after : Taking) → now ≡ packets → packets ≡ before.taken → after ≡ before → now ≡ after.taken
none_kept packets now before after same kept none = cc

pub none_more : (packets now : List Packet) → now ≡ packets → now ≡ packets ++ []
none_more packets now same = cc (append-nil packets)

-- and where it gave a packet, for which there was room
pub one_more : (packets room now : List Packet) (packet : Packet) → room ≡ packets → now ≡ room ++ packet ∷ [] → now ≡ packets ++ packet ∷ []
one_more packets room now packet same pushed = cc

pub one_kept : (packets now : List Packet) (packet : Packet) (before after : Taking) → now ≡ packets ++ packet ∷ [] → packets ≡ before.taken → after ≡ record before { taken = before.taken ++ packet ∷ [] } → now ≡ after.taken
one_kept packets now packet before after more kept took = cc

-- a line that was taken is heard
pub line_heard_so : (nodes : List SchemaNode) (line bytes : List ℕ) (before after : List (ℕ × List Row)) → bytes ≡ line → IsTaken nodes bytes before after → after ≡ lines_heard nodes before (line ∷ [])
line_heard_so nodes line bytes before after same taken =
    taken.leaves ∙ (sym (ap (λ answer. told answer before) taken.tells) ∙ ap (line_taken nodes before) same)

-- lines are heard one part after another
heard_on : (nodes : List SchemaNode) (held : List (ℕ × List Row)) (some more : List Packet)
    → lines_heard nodes held (map (λ (packet : Packet). packet.line) (some ++ more))
    ≡ lines_heard nodes (lines_heard nodes held (map (λ (packet : Packet). packet.line) some)) (map (λ (packet : Packet). packet.line) more)
heard_on nodes held [] more = refl
heard_on nodes held (packet ∷ some) more = heard_on nodes (line_taken nodes held packet.line) some more

-- a receiver that was whole so far goes on
pub taken_on : (nodes : List SchemaNode) (first before after : TakerJob) → HasTakenOn nodes first (record before { whole = true }) → HasTakenOn nodes before after → HasTakenOn nodes first after
taken_on nodes first before after so_far next = record {
  receiver = next.receiver ∙ so_far.receiver;
  worker = next.worker ∙ so_far.worker;
  queue = next.queue ∙ so_far.queue;
  kept = next.kept;
  more = so_far.more ++ next.more;
  took = next.took ∙ (ap (λ taken. taken ++ next.more) so_far.took ∙ append_assoc first.taken.items so_far.more next.more);
  heard = λ whole. next.heard whole
      ∙ (ap (λ held. lines_heard nodes held (map (λ (packet : Packet). packet.line) next.more)) (so_far.heard refl)
      ∙ sym (heard_on nodes first.heard so_far.more next.more));
}
