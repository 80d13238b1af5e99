use Rattle.std.proofs.Common.{◌≡◌, false, ◌∙◌, ap, sym, subst}
use Rattle.yp_feed.specs.Machine.{FeedState, is_terminated, rebases, refused, taken}
use Rattle.yp_attempt.specs.Tracks.{Answer, Took, Full}
use Rattle.yp_attempt.specs.Workers.{answered_alone}
use Rattle.yp_slot.specs.declared.slot.Slot.{Slot}
use Rattle.yp_slot.specs.Slots.{IsSlotOf}
use Rattle.yp_slot.specs.Steps.{answer_of, gone_on}
use Rattle.yp_slot.proofs.Going.{refused_on, settles_on, taken_on}
use Rattle.yp_slot.proofs.slot.Slot.settle.Goals as goal

pub returns-in-Took-clause-slot : goal.returns-in-Took-clause-slot
returns-in-Took-clause-slot c = λ nodes state track stands lives.
    let slot = c.args.self.now in
    let item = c.args.item in
    let n = c.args.n in
    let stamp = c.args.stamp in
    let answer : answer_of c.args.settled ≡ Took = ap answer_of c.in-Took.is in
    let g = taken track.feed item n stamp in
    let moved = rebases track.feed item in
    let feed : c.took.new.self ≡ g = c.took.ensures ∙ ap (λ (f : FeedState). taken f item n stamp) stands.feed in
    let base : c.rebases-moved.result ≡ moved = c.rebases-moved.ensures ∙ ap (λ (f : FeedState). rebases f item) stands.feed in
    let new : c.go_on.new.self ≡ gone_on (record slot { feed = g }) moved = c.go_on.ensures ∙ (λ i. gone_on (record slot { feed = feed i }) (base i)) in
    let ended : is_terminated item ≡ false = ap (λ (a : Answer). (answered_alone n stamp track item a).feed.ended) (sym answer) ∙ lives in
    let on = taken_on track.feed item n stamp ended in
    subst (λ (a : Answer). IsSlotOf nodes state c.go_on.new.self (answered_alone n stamp track item a)) (sym answer)
    (subst (λ (s : Slot). IsSlotOf nodes state s (answered_alone n stamp track item Took)) (sym new) (settles_on nodes state slot track g moved stands on.0 on.1))

pub returns-in-Full-clause-slot : goal.returns-in-Full-clause-slot
returns-in-Full-clause-slot c = λ nodes state track stands lives.
    let slot = c.args.self.now in
    let item = c.args.item in
    let n = c.args.n in
    let stamp = c.args.stamp in
    let answer : answer_of c.args.settled ≡ Full = ap answer_of c.in-Full.is in
    let g = refused track.feed item stamp in
    let feed : c.full.new.self ≡ g = c.full.ensures ∙ ap (λ (f : FeedState). refused f item stamp) stands.feed in
    let new : c.go_on-in-Full.new.self ≡ gone_on (record slot { feed = g }) false = c.go_on-in-Full.ensures ∙ ap (λ (f : FeedState). gone_on (record slot { feed = f }) false) feed in
    let on = refused_on track.feed item stamp in
    subst (λ (a : Answer). IsSlotOf nodes state c.go_on-in-Full.new.self (answered_alone n stamp track item a)) (sym answer)
    (subst (λ (s : Slot). IsSlotOf nodes state s (answered_alone n stamp track item Full)) (sym new) (settles_on nodes state slot track g false stands on.0 on.1))
