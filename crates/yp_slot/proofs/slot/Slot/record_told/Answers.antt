use Rattle.std.proofs.Common.{◌≡◌, List, ◌∷◌, [], refl, ap, sym, subst, ◌∙◌}
use Rattle.std.specs.List.{slice_get}
use Rattle.yp_base.specs.declared.notice.Change.{Change}
use Rattle.yp_attempt.specs.ListLaws.{all_append}
use Rattle.yp_attempt.specs.Tracks.{excluded_kinds}
use Rattle.yp_journal.specs.History.{JournalState}
use Rattle.yp_slot.specs.declared.records.Told.{Told}
use Rattle.yp_slot.specs.Records.{AreTold, IsRecord, IsTold}
use Rattle.yp_slot.specs.Slots.{record_at}
use Rattle.yp_slot.specs.ListLaws.{one_of}
use Rattle.yp_slot.proofs.Classed.{told_again, told_first, was_there}
use Rattle.yp_slot.specs.ResultLaws.{when_is_ok}
use Rattle.yp_slot.proofs.slot.Slot.record_told.Goals as goal

pub returns-in-Some-clause-record_is : goal.returns-in-Some-clause-record_is
returns-in-Some-clause-record_is g c = when_is_ok c.copy.result c.copy.ensures (λ copy is.
    let present = c.args.present.now in
    let nodes = present.schema.now in
    let state : JournalState = present.state.now in
    let slot = c.args.self.now in
    let all = c.args.classes.now.all.items in
    let those = c.args.classes.now.told.items in
    let found = c.in-Some.ensures in
    let there = ap (λ (told : List Told). slice_get told c.in-Some.place) (sym c.as_slice.ensures.value) ∙ found.1 in
    let kinds = found.3 ∙ c.excluded_kinds-excluded.ensures ∙ ap excluded_kinds c.trigger.ensures in
    let told = told_again nodes state all slot c.requires.class found.0 found.2 kinds found.4 (one_of (IsTold nodes state all) those c.in-Some.place found.0 c.requires.told there) in
    let one : c.index.result.now ≡ found.0 = was_there those c.in-Some.place c.index.result.now found.0 c.index.ensures there in
    subst (IsRecord nodes state.position (record_at nodes state slot)) (sym (is ∙ ap (λ (t : Told). t.made) one)) told)

pub returns-clause-record_is : goal.returns-clause-record_is
returns-clause-record_is g c =
    let present = c.args.present.now in
    let state : JournalState = present.state.now in
    subst (λ (changes : List Change). IsRecord present.schema.now state.position changes c.in_ok-record.record) c.in_ok-changes.ensures.changes c.in_ok-record.ensures

pub returns-clause-told : goal.returns-clause-told
returns-clause-told g c =
    let present = c.args.present.now in
    let nodes = present.schema.now in
    let state : JournalState = present.state.now in
    let slot = c.args.self.now in
    let all = c.args.classes.now.all.items in
    let those = c.args.classes.now.told.items in
    let one : Told = record { class = slot.class; excluded = c.excluded_kinds-excluded.result; touched = c.in_ok-copy.field-0; made = c.in_ok-copy-2.field-0 } in
    let kinds = c.excluded_kinds-excluded.ensures ∙ ap excluded_kinds c.trigger.ensures in
    let made = subst (λ (changes : List Change). IsRecord nodes state.position changes c.in_ok-record.record) c.in_ok-changes.ensures.changes c.in_ok-record.ensures in
    let told = told_first nodes state all slot c.requires.class one refl kinds c.in_ok-copy.ensures (subst (IsRecord nodes state.position (record_at nodes state slot)) (sym c.in_ok-copy-2.ensures) made) in
    subst (λ (told : List Told). AreTold nodes state all told) (sym {A = List Told} c.in_ok-push.ensures.items) (all_append (IsTold nodes state all) those (one ∷ []) c.requires.told (told, tt))
