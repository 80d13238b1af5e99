-- An offer that the queue of a desk accepts.
use Rattle.std.proofs.Common.{◌≡◌, ℕ, ◌+◌, ◌-◌, ◌<◌, Bool, true, false, List, [], ◌∷◌, ◌++◌, length, drop, refl, sym, ap, ◌∙◌, arith, length-append}
use Rattle.std.specs.Prelude.{if◌then◌else◌}
use Rattle.std.proofs.lemmas.Bool.{ltb-true}
use Rattle.circular_buffer.specs.Buffer.{keep_last}
use Rattle.yp_base.specs.declared.notice.Notice.{Notice}
use Rattle.yp_queue.specs.declared.packet.Packet.{Packet}
use Rattle.yp_queue.specs.declared.packet.Offered.TheVariants.{Took, Full}
use Rattle.yp_queue.specs.Queues.{QueueState, has_room, offer_answer, offered, with_packets}
use Rattle.yp_offer_log.specs.declared.logged.Logged.{Logged}
use Rattle.yp_offer_log.specs.declared.logged.Logged.TheVariants as logs
use Rattle.yp_live.specs.Desks.{DeskState, desk_offered, desk_offered_by, desk_served}

-- where it is accepted there is room
with_room : (room : Bool) (packet : Packet) → Took ≡ (if room then Took else Full packet) → room ≡ true
with_room true packet took = refl
with_room false packet took = absurd cc

-- the newest finds room, so all others stay
newest_stays : (capacity : ℕ) (waiting : List Notice) (notice : Notice) → length waiting < capacity → keep_last capacity (waiting ++ notice ∷ []) ≡ waiting ++ notice ∷ []
newest_stays capacity waiting notice room =
    let count : length (waiting ++ notice ∷ []) ≡ length waiting + 1 = length-append waiting (notice ∷ []) in
    let none : length (waiting ++ notice ∷ []) - capacity ≡ 0 = omega (arith, count, room) in
    ap (λ (n : ℕ). drop n (waiting ++ notice ∷ [])) none

-- the line is kept and the notification waits; and the receiver takes the packet where it does so at once
pub accepted : (desk : DeskState) (given packet : Packet) (notice : Notice) (at capacity : ℕ) (log : List Logged) (queue : QueueState) (waiting : List Notice) → given ≡ packet → Took ≡ offer_answer desk.queue given
    → length desk.waiting ≡ length desk.queue.packets → capacity ≡ desk.queue.places → log ≡ desk.log ++ logs.Line packet.kind packet.line ∷ [] → queue ≡ offered desk.queue given → waiting ≡ keep_last capacity (desk.waiting ++ notice ∷ [])
    → desk_served desk.automatic (record desk { log = log; queue = queue; waiting = waiting }) ≡ desk_offered packet notice at desk
accepted desk given packet notice at capacity log queue waiting same took count places logged put kept =
    let room : has_room desk.queue ≡ true = with_room (has_room desk.queue) given took in
    let less : length desk.queue.packets < desk.queue.places = ltb-true (length desk.queue.packets) desk.queue.places room in
    let queued : queue ≡ with_packets desk.queue (desk.queue.packets ++ packet ∷ []) =
    put ∙ (ap (λ (b : Bool). if b then with_packets desk.queue (desk.queue.packets ++ given ∷ []) else desk.queue) room ∙ ap (λ (p : Packet). with_packets desk.queue (desk.queue.packets ++ p ∷ [])) same) in
    let waits : waiting ≡ desk.waiting ++ notice ∷ [] = kept ∙ newest_stays capacity desk.waiting notice (omega (arith, less, count, places)) in
    (λ i. desk_served desk.automatic (record desk { log = logged i; queue = queued i; waiting = waits i }))
    ∙ ap (λ (b : Bool). desk_offered_by b packet notice at desk) (sym room)
