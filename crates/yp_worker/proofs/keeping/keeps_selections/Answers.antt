use Rattle.std.proofs.Common.{◌≡◌, ◌∙◌, ap, sym, List, [], length}
use Rattle.std.specs.Prelude.{◌==◌}
use Rattle.yp_changes.specs.declared.changed.ChangedRow.{ChangedRow}
use Rattle.yp_journal.specs.History.{JournalState, next_state}
use Rattle.yp_worker.proofs.Kept.{none_there, rows_stay, selected_still}
use Rattle.yp_worker.proofs.keeping.keeps_selections.Goals as goal

pub returns-in-Edit : goal.returns-in-Edit
returns-in-Edit c = λ yes nodes before after contents one other left differ are.
    let none : c.args.changed.now ≡ [] = none_there c.args.changed.now (ap (λ (those : List ChangedRow). length those == 0) (sym c.items.ensures) ∙ sym c.is_empty.ensures ∙ yes) in
    let state = left ∙ ap (next_state nodes before) c.in-Edit.is in
    selected_still nodes before after contents (rows_stay before.rows after.rows one other (sym differ ∙ none)) (ap (λ (s : JournalState). s.policy) state) (ap (λ (s : JournalState). s.receivers) state) are

pub returns-in-Tick : goal.returns-in-Tick
returns-in-Tick c = λ yes nodes before after contents one other left differ are.
    let state = left ∙ ap (next_state nodes before) c.in-Tick.is in
    selected_still nodes before after contents (ap (λ (s : JournalState). s.rows) state) (ap (λ (s : JournalState). s.policy) state) (ap (λ (s : JournalState). s.receivers) state) are

pub returns-in-Establish : goal.returns-in-Establish
returns-in-Establish c = λ yes nodes before after contents one other left differ are.
    let state = left ∙ ap (next_state nodes before) c.in-Establish.is in
    selected_still nodes before after contents (ap (λ (s : JournalState). s.rows) state) (ap (λ (s : JournalState). s.policy) state) (ap (λ (s : JournalState). s.receivers) state) are

pub returns-in-Take : goal.returns-in-Take
returns-in-Take c = λ yes nodes before after contents one other left differ are.
    let state = left ∙ ap (next_state nodes before) c.in-Take.is in
    selected_still nodes before after contents (ap (λ (s : JournalState). s.rows) state) (ap (λ (s : JournalState). s.policy) state) (ap (λ (s : JournalState). s.receivers) state) are

pub returns-in-Configure : goal.returns-in-Configure
returns-in-Configure c = λ yes nodes before after contents one other left differ are.
    let state = left ∙ ap (next_state nodes before) c.in-Configure.is in
    selected_still nodes before after contents (ap (λ (s : JournalState). s.rows) state) (ap (λ (s : JournalState). s.policy) state) (ap (λ (s : JournalState). s.receivers) state) are

pub returns-in-Resync : goal.returns-in-Resync
returns-in-Resync c = λ yes nodes before after contents one other left differ are.
    let state = left ∙ ap (next_state nodes before) c.in-Resync.is in
    selected_still nodes before after contents (ap (λ (s : JournalState). s.rows) state) (ap (λ (s : JournalState). s.policy) state) (ap (λ (s : JournalState). s.receivers) state) are
