use Rattle.std.proofs.Common.{◌≡◌, List, not, rules, refl, ap, subst, sym, ◌∙◌}
use Rattle.std.specs.Prelude.{◌==◌, filter}
use Rattle.std.proofs.lemmas.Fn.{filter_same}
use Rattle.yp_attempt.specs.Moments.{Quiet, is_kept_by}
use Rattle.yp_attempt.specs.Tracks.{Track}
use Rattle.yp_slot.specs.declared.acts.Act.{Act as ActHere}
use Rattle.yp_slot.specs.declared.acts.Act.TheVariants as here
use Rattle.yp_slot.specs.declared.slot.Slot.{Slot}
use Rattle.yp_slot.specs.Steps.{act_said}
use Rattle.yp_roster.specs.Ordered.{AreSlotsOf}
use Rattle.yp_roster.proofs.Entered.{dropped, kept_all}
use Rattle.yp_roster.proofs.passing.let_go.Goals as goal

pub returns-in-Drops : goal.returns-in-Drops
returns-in-Drops c = λ nodes state tracks are.
    let id = c.in-Drops.id in
    let left : c.retain.new.self.items ≡ filter (λ (slot : Slot). not (slot.feed.sub == id)) c.args.slots.now.items = filter_same _ _ _ (λ x b f k. search rules) _ _ c.retain.ensures.filtered in
    let all = ap (λ (act : ActHere). filter (is_kept_by (act_said act)) tracks) c.in-Drops.is in
    subst (λ (slots : List Slot). AreSlotsOf nodes state slots (filter (is_kept_by (act_said c.args.act.now)) tracks)) (sym left)
    (subst (λ (ts : List Track). AreSlotsOf nodes state (filter (λ (slot : Slot). not (slot.feed.sub == id)) c.args.slots.now.items) ts) (sym all) (dropped nodes state id c.args.slots.now.items tracks are))

pub returns-in-Quiet : goal.returns-in-Quiet
returns-in-Quiet c = λ nodes state tracks are.
    let all = ap (λ (act : ActHere). filter (is_kept_by (act_said act)) tracks) c.in-Quiet.is in
    subst (λ (ts : List Track). AreSlotsOf nodes state c.args.slots.now.items ts) (sym (all ∙ kept_all Quiet (λ t. refl) tracks)) are

pub returns-in-Starts : goal.returns-in-Starts
returns-in-Starts c = λ nodes state tracks are.
    let all = ap (λ (act : ActHere). filter (is_kept_by (act_said act)) tracks) c.in-Starts.is in
    subst (λ (ts : List Track). AreSlotsOf nodes state c.args.slots.now.items ts) (sym (all ∙ kept_all (act_said (here.Starts c.in-Starts.field-0)) (λ t. refl) tracks)) are

pub returns-in-Amends : goal.returns-in-Amends
returns-in-Amends c = λ nodes state tracks are.
    let all = ap (λ (act : ActHere). filter (is_kept_by (act_said act)) tracks) c.in-Amends.is in
    subst (λ (ts : List Track). AreSlotsOf nodes state c.args.slots.now.items ts) (sym (all ∙ kept_all (act_said (here.Amends c.in-Amends.terms c.in-Amends.told)) (λ t. refl) tracks)) are

pub returns-in-Resyncs : goal.returns-in-Resyncs
returns-in-Resyncs c = λ nodes state tracks are.
    let all = ap (λ (act : ActHere). filter (is_kept_by (act_said act)) tracks) c.in-Resyncs.is in
    subst (λ (ts : List Track). AreSlotsOf nodes state c.args.slots.now.items ts) (sym (all ∙ kept_all (act_said (here.Resyncs c.in-Resyncs.field-0)) (λ t. refl) tracks)) are

pub returns-in-Ends : goal.returns-in-Ends
returns-in-Ends c = λ nodes state tracks are.
    let all = ap (λ (act : ActHere). filter (is_kept_by (act_said act)) tracks) c.in-Ends.is in
    subst (λ (ts : List Track). AreSlotsOf nodes state c.args.slots.now.items ts) (sym (all ∙ kept_all (act_said (here.Ends c.in-Ends.field-0)) (λ t. refl) tracks)) are
