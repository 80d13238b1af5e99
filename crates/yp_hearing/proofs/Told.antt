-- Each notification that a receiver is offered by a legal journal is told, and heard again.
use Rattle.std.proofs.Common.{◌≡◌, ℕ, zero, suc, ◌<◌, ◌≤◌, ◌^◌, List, [], ◌∷◌, ◌++◌, length, take, Bool, true, false, Option, Some, None, refl, sym, subst, ◌∙◌, arith}
use Rattle.std.specs.List.{AllByRecursion}
use Rattle.yp_base.specs.declared.notice.Change.{Change}
use Rattle.yp_base.specs.declared.notice.Notice.{Notice as Message}
use Rattle.yp_base.specs.declared.notice.Notice.TheVariants as notices
use Rattle.yp_base.specs.declared.row.Row.{Row}
use Rattle.yp_schema.specs.declared.schema.SchemaNode.{SchemaNode}
use Rattle.yp_schema.specs.WellFormed.{IsSchema}
use Rattle.yp_path.specs.Targets.{has_texts}
use Rattle.yp_nacm.specs.AccessLaws.{readable_above}
use Rattle.yp_registry.specs.Registry.{live_at}
use Rattle.yp_terms.specs.Terms.{Terms}
use Rattle.yp_kept.specs.KeptLaws.{kept_datastore}
use Rattle.yp_kept.specs.Selection.{kept}
use Rattle.yp_kept.specs.SelectionLaws.{all_selected}
use Rattle.yp_nacm.specs.Decision.{visible_rows}
use Rattle.yp_touch.specs.Windows.{DatastoresAreWhole}
use Rattle.yp_feed.specs.declared.item.Item.{Item}
use Rattle.yp_feed.specs.declared.item.Item.TheVariants.{Started, Modified, Incomplete, Suspended, Resumed, Sync, Terminated, Changes, Periodic}
use Rattle.yp_journal.specs.declared.entry.Entry.{Entry}
use Rattle.yp_journal.specs.declared.receiver.ReceiverInfo.{ReceiverInfo}
use Rattle.yp_journal.specs.History.{JournalState, first_state, rules_at, may_read, state_of, state_at, IsLegal}
use Rattle.yp_journal.specs.JournalLaws.{opening_datastore}
use Rattle.yp_attempt.specs.Attempts.{Notification, Replayed, notification_of, replay, taken_of}
use Rattle.yp_attempt.specs.Content.{Content}
use Rattle.yp_attempt.specs.ListLaws.{all_weaker}
use Rattle.yp_attempt.specs.Moments.{Moment}
use Rattle.yp_attempt.specs.Runs.{Found, IsFirst, Reaches, Run, first_offer, first_run}
use Rattle.yp_attempt.specs.Tracks.{Track, Body, All, Edits, Marked, Notice, Answer, Attempt}
use Rattle.yp_mirror.specs.Following.{IsBodyOf, TellsWindow}
use Rattle.yp_mirror.specs.Heard.{of_sub}
use Rattle.yp_mirror.specs.Links.{IsRunOf}
use Rattle.yp_mirror.specs.Stories.{Story, IsWantedBetween, story_of}
use Rattle.yp_moment.specs.Entries.{moments_of, selected_by}
use Rattle.yp_moment.specs.Followed.{CanBeFollowed}
use Rattle.yp_moment.specs.Notices.{state_notice, notice_by}
use Rattle.yp_moment.specs.Windows.{recorded}
use Rattle.yp_moment.specs.MomentLaws.{wanted}
use Rattle.yp_promise.proofs.Bodies.{EntriesKeepDatastores}
use Rattle.yp_promise.proofs.Entering.{count_moments}
use Rattle.yp_promise.proofs.Own.{AttemptsTell, own_attempt}
use Rattle.yp_world.specs.TakenLaws.{all_there, all_taken, number_is, one_there}
use Rattle.yp_encode.specs.Sendable.{IsSendable, IsSendableChange}
use Rattle.yp_receiver.specs.Hearable.{IsHearableChange, IsHearable, HasTexts, HasReadableText, IsTold}
use Rattle.yp_receiver.specs.Readable.{has_value_text, HaveTexts}
use Rattle.yp_texts.specs.Commands.{CommandHasUtf8}
use Rattle.yp_hearing.specs.Hearing.{CanBeTold, told_of}
use Rattle.yp_hearing.specs.Windows.{HasOwnTexts, CanBeHeard, WindowsAreHeard}
use Rattle.yp_hearing.proofs.Depth.{sent_shallow}
use Rattle.yp_hearing.proofs.States.{journal_fits}
use Rattle.yp_hearing.proofs.Tracks.{BodyFits, MadeFits, AttemptFits, attempts_fit}

-- ---- notices

-- what is said is heard again
abbrev IsHeardBody : List SchemaNode → Body → Type 0
IsHeardBody nodes (All rows) = HasOwnTexts nodes rows
IsHeardBody nodes (Edits edits) = AllByRecursion (CanBeHeard nodes) edits
IsHeardBody nodes (Marked edits) = AllByRecursion (CanBeHeard nodes) edits
IsHeardBody nodes (Notice item) = Unit {0}

module _ (nodes : List SchemaNode) (schema : IsSchema nodes) (top : DatastoresAreWhole) (sub n : ℕ) (low : sub < 2 ^ 32) (early : n < 2 ^ 64) where
  readable : (notice : Message) → IsSendable nodes notice → HasTexts notice → HasReadableText nodes notice
  readable notice sendable texts = record { texts = texts; shallow = sent_shallow nodes schema notice sendable }

  -- a notice that is heard again
  abbrev IsHeard : Message → Type 0
  IsHeard notice = IsHearable nodes notice × HasReadableText nodes notice

  full_heard : (rows : List Row) → HasOwnTexts nodes rows → IsHeard (notices.Full sub rows)
  full_heard rows has = let whole = top nodes rows has.datastore in (record { id = low; body = whole }, readable (notices.Full sub rows) whole.writable has.texts)

  changes_heard : (edits : List Change) (incomplete : Bool) → length edits < 2 ^ 63 → AllByRecursion (CanBeHeard nodes) edits → IsHeard (notices.Changes sub n edits incomplete)
  changes_heard edits incomplete few all = (
    record { id = low; body = record { patch = early; few = few; each = all_weaker (CanBeHeard nodes) (IsHearableChange nodes) edits (λ change h. h.0) all } },
    readable (notices.Changes sub n edits incomplete) (all_weaker (CanBeHeard nodes) (IsSendableChange nodes) edits (λ change h. h.0.sendable) all)
        (all_weaker (CanBeHeard nodes) (λ (change : Change). HaveTexts change.rows) edits (λ change h. h.1) all),
  )

  none_heard : (incomplete : Bool) → IsHeard (notices.Changes sub n [] incomplete)
  none_heard incomplete = changes_heard [] incomplete (omega arith) tt

  state_heard : (item : Item) → IsHeard (state_notice sub n item)
  state_heard Started = (record { id = low; body = tt }, readable (notices.Started sub) tt tt)
  state_heard Modified = (record { id = low; body = tt }, readable (notices.Modified sub) tt tt)
  state_heard Incomplete = none_heard true
  state_heard Suspended = (record { id = low; body = tt }, readable (notices.Suspended sub) tt tt)
  state_heard Resumed = (record { id = low; body = tt }, readable (notices.Resumed sub) tt tt)
  state_heard Sync = none_heard false
  state_heard Terminated = (record { id = low; body = tt }, readable (notices.Terminated sub) tt tt)
  state_heard Changes = none_heard false
  state_heard Periodic = none_heard false

  body_heard : (most : ℕ) (body : Body) → most < 2 ^ 32 → BodyFits most body → IsHeardBody nodes body → IsHeard (notice_by sub n body)
  body_heard most (All rows) short fits heard = full_heard rows heard
  body_heard most (Edits edits) short fits heard = changes_heard edits false (omega (arith, short, fits)) heard
  body_heard most (Marked edits) short fits heard = changes_heard edits true (omega (arith, short, fits)) heard
  body_heard most (Notice item) short fits heard = state_heard item

-- what was made, as it is told
made_told : (nodes : List SchemaNode) → IsSchema nodes → DatastoresAreWhole → (most : ℕ) (n : Notification) → most < 2 ^ 32 → n.sub < 2 ^ 32 → MadeFits most n.made → IsHeardBody nodes n.made.body → IsTold nodes (told_of n)
made_told nodes schema top most n short low fits heard =
    let both = body_heard nodes schema top n.sub n.made.position low (omega (arith, short, fits.position)) most n.made.body short fits.body heard in
    record { tick = fits.tick; hearable = both.0; text = both.1 }

-- ---- what is selected

-- the law that is rested on: entries keep texts
abbrev pub EntriesKeepTexts : Type 0
EntriesKeepTexts = (nodes : List SchemaNode) (entries : List Entry) (state : JournalState) → IsSchema nodes → AllByRecursion (λ entry. CommandHasUtf8 entry.command) entries → HaveTexts state.rows
    → HaveTexts (state_of nodes state entries).rows

pub all_taken_first : {X : Type 0} (P : X → Type 0) (n : ℕ) (xs : List X) → AllByRecursion P xs → AllByRecursion P (take n xs)
all_taken_first P zero [] all = tt
all_taken_first P zero (x ∷ xs) all = tt
all_taken_first P (suc n) [] all = tt
all_taken_first P (suc n) (x ∷ xs) all = (all.0, all_taken_first P n xs all.1)

selected_texts : (nodes : List SchemaNode) (state : JournalState) (receiver : ℕ) (terms : Option Terms) → HasOwnTexts nodes state.rows → HasOwnTexts nodes (selected_by nodes state receiver terms)
selected_texts nodes state receiver None has = record { datastore = opening_datastore nodes []; texts = tt }
selected_texts nodes state receiver (Some terms) has =
    let sees = may_read nodes state receiver in
    let seen = visible_rows sees state.rows in
    let P : Row → Type 0 = λ row. (has_texts row.path ≡ true) × (has_value_text row.value ≡ true) in
    record {
      datastore = kept_datastore nodes terms.asked sees state.rows (readable_above nodes (rules_at state receiver)) has.datastore;
      texts = all_selected (kept nodes terms.asked seen) P seen (all_selected sees P state.rows has.texts);
    }

module _ (keeps : EntriesKeepDatastores) (keep_texts : EntriesKeepTexts) (heard : WindowsAreHeard) (nodes : List SchemaNode) (schema : IsSchema nodes) (receivers : List ReceiverInfo) (entries : List Entry) (receiver : ℕ)
    (texts : AllByRecursion (λ entry. CommandHasUtf8 entry.command) entries) where
  abbrev story : Story
  story = story_of (moments_of nodes receivers entries) receiver

  state_has : (k : ℕ) → HasOwnTexts nodes (state_at nodes receivers entries k).rows
  state_has k = record {
    datastore = keeps nodes (first_state receivers) (take k entries) (opening_datastore nodes receivers);
    texts = keep_texts nodes (take k entries) (first_state receivers) schema (all_taken_first (λ (entry : Entry). CommandHasUtf8 entry.command) k entries texts) tt;
  }

  wanted_has : (id k : ℕ) (rows : List Row) → rows ≡ story.want id k → HasOwnTexts nodes rows
  wanted_has id k rows is =
      let state = state_at nodes receivers entries k in
      subst (HasOwnTexts nodes) (sym (is ∙ wanted nodes receivers entries receiver id k)) (selected_texts nodes state receiver (live_at id state.registry.live) (state_has k))

  between_has : (id from to : ℕ) (rows : List Row) → IsWantedBetween story id from to rows → HasOwnTexts nodes rows
  between_has id from to rows is = wanted_has id is.0 rows is.3

  edits_heard : (id from to : ℕ) (edits : List Change) → TellsWindow recorded story id from to edits → AllByRecursion (CanBeHeard nodes) edits
  edits_heard id from to edits tells =
      subst (AllByRecursion (CanBeHeard nodes)) (sym tells.edits)
      (heard nodes tells.kinds tells.first tells.later (between_has id from to tells.first tells.begins)
      (all_weaker (IsWantedBetween story id from to) (HasOwnTexts nodes) tells.later (between_has id from to) tells.goes_on))

  told_body : (id from position : ℕ) (body : Body) → IsBodyOf recorded story id from position body → IsHeardBody nodes body
  told_body id from position (All rows) is = wanted_has id position rows is.0
  told_body id from position (Edits edits) is = edits_heard id from position edits is
  told_body id from position (Marked edits) is = edits_heard id from position edits is
  told_body id from position (Notice item) is = tt

-- ---- the attempts for a receiver

-- the laws that are rested on
pub record ToldLaws : Type 0 where
  pub keeps : EntriesKeepDatastores
  pub texts : EntriesKeepTexts
  pub windows : WindowsAreHeard
  pub top : DatastoresAreWhole
  pub tell : AttemptsTell
  pub handed : (nodes : List SchemaNode) (receivers : List ReceiverInfo) (entries : List Entry) → IsLegal nodes (first_state receivers) entries → AllByRecursion (λ m. CanBeFollowed m.act) (moments_of nodes receivers entries)
  pub finds : (c : Content) (stamp : ℕ) (tracks : List Track) (found : Found) → first_offer c stamp tracks ≡ Some found → IsFirst c stamp tracks found
  pub replays : (c : Content) (receivers : List ℕ) (past : List Moment) (answers : List Answer) (run : Run) → Reaches c receivers past answers run → replay c receivers first_run past answers ≡ record { run = run; rest = []; left = [] }
  pub runs : (nodes : List SchemaNode) (receivers : List ReceiverInfo) (entries : List Entry) (receiver : ℕ) (answers : List Answer) → IsSchema nodes → IsLegal nodes (first_state receivers) entries
      → IsRunOf recorded (story_of (moments_of nodes receivers entries) receiver) receiver (replay recorded (receiver ∷ []) first_run (moments_of nodes receivers entries) answers).run

module _ (laws : ToldLaws) (nodes : List SchemaNode) (receivers : List ReceiverInfo) (entries : List Entry) (receiver : ℕ) (can : CanBeTold nodes receivers entries) (answers : List Answer) (run : Run)
    (reaches : Reaches recorded (receiver ∷ []) (moments_of nodes receivers entries) answers run) where
  abbrev moments : List Moment
  moments = moments_of nodes receivers entries

  -- each attempt keeps within bounds
  own_fits : AllByRecursion (AttemptFits (length entries)) run.done
  own_fits =
      let few : length moments ≤ length entries = omega (arith, count_moments nodes receivers entries) in
      attempts_fit (length entries) (laws.finds recorded) (receiver ∷ []) moments answers run reaches few (journal_fits nodes receivers entries can.legal (laws.handed nodes receivers entries can.legal))

  -- it is a run of the journal's story
  of : IsRunOf recorded (story_of moments receiver) receiver run
  of = subst (λ (end : Replayed). IsRunOf recorded (story_of moments receiver) receiver end.run) (laws.replays recorded (receiver ∷ []) moments answers run reaches) (laws.runs nodes receivers entries receiver answers can.schema can.legal)

  attempt_told : (front : List Attempt) (a : Attempt) (back : List Attempt) → run.done ≡ front ++ a ∷ back → IsTold nodes (told_of (notification_of a))
  attempt_told front a back is =
      let fits = one_there (AttemptFits (length entries)) front a back (subst (AllByRecursion (AttemptFits (length entries))) is own_fits) in
      let made = laws.tell recorded (story_of moments receiver) receiver run of a.sub (of_sub a.sub front) a (own_attempt nodes receivers entries receiver run front a back is a.sub (number_is a.sub)) in
      made_told nodes can.schema laws.top (length entries) (notification_of a) can.few fits.sub fits.made
      (told_body laws.keeps laws.texts laws.windows nodes can.schema receivers entries receiver can.texts a.sub a.made.from a.made.position a.made.body made)

  -- each notification that the receiver's queue accepted is told
  pub taken_told : AllByRecursion (λ n. IsTold nodes (told_of n)) (taken_of run.done)
  taken_told = all_taken (λ n. IsTold nodes (told_of n)) run.done (all_there (λ (a : Attempt). IsTold nodes (told_of (notification_of a))) run.done [] run.done refl attempt_told)
