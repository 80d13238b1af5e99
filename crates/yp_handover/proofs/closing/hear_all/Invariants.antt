use Rattle.std.proofs.Common.{◌≡◌, drop, map}
use Rattle.yp_receiver.specs.Held.{lines_heard}
use Rattle.yp_handover.proofs.closing.hear_all.Given as goal

-- the lines that are left make of what is held what all of them make of what was held
abbrev pub invariant-loop-packet : goal.invariant-loop-packet
invariant-loop-packet l =
    lines_heard l.schema l.heard (map (λ packet. packet.line) (drop l.packet-index l.packets)) ≡ lines_heard l.schema l.fn.heard (map (λ packet. packet.line) l.packets)
