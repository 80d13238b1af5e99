-- A worker that keeps up with what its reader gets.
use Rattle.std.proofs.Common.{◌≡◌, ℕ, List, [], ◌++◌, sym, ap, subst, ◌∙◌}
use Rattle.yp_schema.specs.declared.schema.SchemaNode.{SchemaNode}
use Rattle.yp_journal.specs.declared.entry.Entry.{Entry}
use Rattle.yp_journal.specs.History.{IsLegal, JournalState}
use Rattle.yp_published.specs.Reads.{IsCaughtInto, Reading}
use Rattle.yp_worker.specs.declared.worker.Worker.{Worker}
use Rattle.yp_followers.specs.declared.outbox.Outbox.{Outbox}
use Rattle.yp_followers.specs.Followers.{IsReady, IsUpToDate, IsUpToSome, KeepsUp, TakesIn}
use Rattle.yp_followers.proofs.Journals.{StateBoth, legal_left}

-- what a reader got is what it had got, and what a read gave
pub caught_all : (before after : Reading) (old new taken : List Entry) (count : ℕ) → IsCaughtInto before after old new count → old ≡ [] → taken ≡ new → after.got.entries ≡ before.got.entries ++ taken
caught_all before after old new taken count is none all =
    let fresh : taken ≡ is.fresh = all ∙ (is.appended ∙ ap (λ (those : List Entry). those ++ is.fresh) none) in
    is.caught.entries ∙ ap (λ (those : List Entry). before.got.entries ++ those) (sym fresh)

module _ (nodes : List SchemaNode) (opening : JournalState) (absorbed : List Entry) (worker : Worker) (boxes : List Outbox) where
  -- ---- before a read

  pub ready_up : (schema : List SchemaNode) → schema ≡ nodes → IsReady nodes opening absorbed worker boxes → IsUpToSome schema worker boxes
  ready_up schema same w =
      subst (λ (those : List SchemaNode). IsUpToSome those worker boxes) (sym same)
      (record { start = w.start; receivers = w.receivers; mine = w.mine; before = w.before; absorbed = absorbed; opened = w.opened; is = w.ready })

  -- what a read gives is legal from the worker's state
  pub ready_legal : StateBoth → (schema : List SchemaNode) → schema ≡ nodes → IsReady nodes opening absorbed worker boxes → (fresh got : List Entry) → got ≡ absorbed ++ fresh → IsLegal nodes opening got → IsLegal schema worker.state fresh
  ready_legal both schema same w fresh got all legal =
      subst (λ (those : List SchemaNode). IsLegal those worker.state fresh) (sym same)
      (legal_left both nodes opening worker.state w.receivers w.before absorbed fresh got w.begun w.ready.idle.followed.state all legal)

  -- ---- after it

  -- what it gave was taken in
  pub kept_up : (schema : List SchemaNode) → schema ≡ nodes → (fresh got : List Entry) (after : Worker) (left : List Outbox) → got ≡ absorbed ++ fresh → TakesIn schema fresh worker boxes after left → KeepsUp nodes opening absorbed worker boxes got after left
  kept_up schema same fresh got after left all taken start receivers mine before opened legal begun up =
      let took : TakesIn nodes fresh worker boxes after left = subst (λ (those : List SchemaNode). TakesIn those fresh worker boxes after left) same taken in
      subst (λ (those : List Entry). IsUpToDate nodes start receivers mine before those opened after left) (sym all) (took start receivers mine before absorbed opened up)

  -- it gave nothing
  pub kept_same : (got : List Entry) → got ≡ absorbed → KeepsUp nodes opening absorbed worker boxes got worker boxes
  kept_same got same start receivers mine before opened legal begun up = subst (λ (those : List Entry). IsUpToDate nodes start receivers mine before those opened worker boxes) (sym same) up

  module _ (now : List Entry) (after : Worker) (left : List Outbox) (kept : KeepsUp nodes opening absorbed worker boxes now after left) where
    -- it is ready again
    pub still_ready : IsReady nodes opening absorbed worker boxes → IsReady nodes opening now after left
    still_ready w = record {
      start = w.start;
      receivers = w.receivers;
      mine = w.mine;
      before = w.before;
      opened = w.opened;
      legal = w.legal;
      begun = w.begun;
      ready = kept w.start w.receivers w.mine w.before w.opened w.legal w.begun w.ready;
    }

    -- and keeps up by another read
    pub kept_through : (then : List Entry) (last : Worker) (at : List Outbox) → KeepsUp nodes opening now after left then last at → KeepsUp nodes opening absorbed worker boxes then last at
    kept_through then last at next start receivers mine before opened legal begun up = next start receivers mine before opened legal begun (kept start receivers mine before opened legal begun up)
