-- What a legal journal makes for a receiver names nothing that its user may not read.
use Rattle.std.proofs.Common.{◌≡◌, ℕ, zero, suc, ◌+◌, ◌-◌, ◌<◌, ◌≤◌, nat_le, Bool, true, false, List, length, Option, Some, None, refl, sym, ap, subst, ◌∙◌, arith}
use Rattle.std.specs.List.{AllByRecursion}
use Rattle.std.proofs.lemmas.Bool.{leb-true, leb-false, not-false}
use Rattle.std.proofs.lemmas.List.{take_all}
use Rattle.yp_base.specs.declared.row.Row.{Row}
use Rattle.yp_base.specs.declared.notice.Change.{Change}
use Rattle.yp_schema.specs.declared.schema.SchemaNode.{SchemaNode}
use Rattle.yp_nacm.specs.declared.compile.UserRules.{UserRules}
use Rattle.yp_nacm.specs.Decision.{is_readable}
use Rattle.yp_nacm.specs.Same.{are_same_rules}
use Rattle.yp_nacm.specs.SameLaws.{same_are_one}
use Rattle.yp_registry.specs.Registry.{live_at}
use Rattle.yp_terms.specs.Terms.{Terms}
use Rattle.yp_kept.specs.Concealed.{AllReadable}
use Rattle.yp_kept.specs.KeptLaws.{kept_readable}
use Rattle.yp_touch.specs.Concealed.{IsReadableChange}
use Rattle.yp_touch.specs.Windows.{WindowsConceal}
use Rattle.yp_journal.specs.declared.entry.Entry.{Entry}
use Rattle.yp_journal.specs.declared.receiver.ReceiverInfo.{ReceiverInfo}
use Rattle.yp_journal.specs.History.{JournalState, first_state, rules_at, may_read, state_of, state_at}
use Rattle.yp_attempt.specs.Content.{Content}
use Rattle.yp_attempt.specs.ListLaws.{all_weaker}
use Rattle.yp_attempt.specs.Runs.{Run}
use Rattle.yp_attempt.specs.Tracks.{Body, All, Edits, Marked, Notice, Attempt}
use Rattle.yp_mirror.specs.Following.{TellsWindow, IsBodyOf, IsMadeOf}
use Rattle.yp_mirror.specs.Links.{IsRunOf, IsAttemptOf}
use Rattle.yp_mirror.specs.Stories.{Story, Steady, IsWantedBetween, story_of}
use Rattle.yp_moment.specs.Concealed.{NamesReadable}
use Rattle.yp_moment.specs.Entries.{selected_by, selected_at, moments_of}
use Rattle.yp_moment.specs.Windows.{recorded}
use Rattle.yp_moment.specs.MomentLaws.{wanted}
use Rattle.yp_moment.proofs.Telling.{steady_rules}

-- what a subscription selects may be read
module _ (nodes : List SchemaNode) (state : JournalState) (receiver : ℕ) where
  by_readable : (terms : Option Terms) → AllReadable (may_read nodes state receiver) (selected_by nodes state receiver terms)
  by_readable None = tt
  by_readable (Some terms) = kept_readable nodes terms.asked (may_read nodes state receiver) state.rows

  selected_readable : (id : ℕ) → AllReadable (may_read nodes state receiver) (selected_at nodes state id receiver)
  selected_readable id = by_readable (live_at id state.registry.live)

module _ (nodes : List SchemaNode) (receivers : List ReceiverInfo) (entries : List Entry) (receiver : ℕ) where
  abbrev story : Story
  story = story_of (moments_of nodes receivers entries) receiver

  -- the own rules of the receiver's user at a position
  abbrev own : ℕ → UserRules
  own n = rules_at (state_at nodes receivers entries n) receiver

  -- ---- rules stay where no entry changes them

  stays_at : (id n : ℕ) (b : Bool) → nat_le (n + 1) (length entries) ≡ b → story.changes id (n + 1) ≡ false → own n ≡ own (n + 1)
  stays_at id n true is steady =
      same_are_one (own n) (own (n + 1)) (not-false (are_same_rules (own n) (own (n + 1))) (steady_rules nodes receivers entries receiver id n (leb-true (n + 1) (length entries) is) steady))
  stays_at id n false is steady =
      let last : length entries < n + 1 = leb-false (n + 1) (length entries) is in
      ap (λ (es : List Entry). rules_at (state_of nodes (first_state receivers) es) receiver) (take_all n entries (omega (arith, last)) ∙ sym (take_all (n + 1) entries (omega (arith, last))))

  stays_for : (id from to k d : ℕ) → Steady story id from to → from ≤ k → k + d ≤ to → own k ≡ own (k + d)
  stays_for id from to k zero steady late within = let same : k ≡ k + 0 = omega arith in ap own same
  stays_for id from to k (suc d) steady late within =
      let one_more : (k + d) + 1 ≡ k + suc d = omega arith in
      stays_for id from to k d steady late (omega (arith, within))
      ∙ stays_at id (k + d) (nat_le (k + d + 1) (length entries)) refl (steady (k + d + 1) (omega (arith, late)) (omega (arith, within)))
      ∙ ap own one_more

  stays : (id from to k n : ℕ) → Steady story id from to → from ≤ k → k ≤ n → n ≤ to → own k ≡ own n
  stays id from to k n steady late past within =
      let there : k + (n - k) ≡ n = omega (arith, past) in
      stays_for id from to k (n - k) steady late (omega (arith, past, within)) ∙ ap own there

  -- ---- what is named may be read at each position up to which the rules stay

  module _ (conceals : WindowsConceal) (id from position n to : ℕ) (steady : Steady story id from to) (made_by : position ≤ n) (within : n ≤ to) where
    abbrev readable_rows : UserRules → List Row → Type 0
    readable_rows rules rows = AllReadable (is_readable nodes rules) rows

    wanted_readable : (rows : List Row) → IsWantedBetween story id from position rows → AllReadable (may_read nodes (state_at nodes receivers entries n) receiver) rows
    wanted_readable rows is =
        let past : is.0 ≤ n = omega (arith, is.2, made_by) in
        subst (λ (rules : UserRules). readable_rows rules rows) (stays id from to is.0 n steady is.1 past within)
        (subst (readable_rows (own is.0)) (sym (is.3 ∙ wanted nodes receivers entries receiver id is.0)) (selected_readable nodes (state_at nodes receivers entries is.0) receiver id))

    edits_readable : (edits : List Change) → TellsWindow recorded story id from position edits → AllByRecursion (IsReadableChange (may_read nodes (state_at nodes receivers entries n) receiver)) edits
    edits_readable edits tells =
        let readable = may_read nodes (state_at nodes receivers entries n) receiver in
        subst (λ (changes : List Change). AllByRecursion (IsReadableChange readable) changes) (sym tells.edits)
        (conceals readable tells.kinds tells.first tells.later (wanted_readable tells.first tells.begins)
        (all_weaker (IsWantedBetween story id from position) (AllReadable readable) tells.later wanted_readable tells.goes_on))

    pub names_readable : (body : Body) → from ≤ position → IsBodyOf recorded story id from position body → NamesReadable (may_read nodes (state_at nodes receivers entries n) receiver) body
    names_readable (All rows) late is = wanted_readable rows (position, late, omega arith, is.0)
    names_readable (Edits edits) late is = edits_readable edits is
    names_readable (Marked edits) late is = edits_readable edits is
    names_readable (Notice item) late is = tt

-- ---- attempts

-- the laws of attempts that are rested on: what each tells of, and that nothing else changes while it waits
pub record AttemptsTell : Type 0 where
  pub made : (c : Content) (story : Story) (receiver : ℕ) (run : Run) → IsRunOf c story receiver run → (sub : ℕ) (before : List Attempt) (a : Attempt) → IsAttemptOf run sub before a → IsMadeOf c story sub a.made
  pub from : (c : Content) (story : Story) (receiver : ℕ) (run : Run) → IsRunOf c story receiver run → (sub : ℕ) (before : List Attempt) (a : Attempt) → IsAttemptOf run sub before a → a.made.from ≤ a.made.position
  pub offered : (c : Content) (story : Story) (receiver : ℕ) (run : Run) → IsRunOf c story receiver run → (sub : ℕ) (before : List Attempt) (a : Attempt) → IsAttemptOf run sub before a → a.made.position ≤ a.at
  pub steady : (c : Content) (story : Story) (receiver : ℕ) (run : Run) → IsRunOf c story receiver run → (sub : ℕ) (before : List Attempt) (a : Attempt) → IsAttemptOf run sub before a → Steady story sub a.made.from a.at

-- what an attempt names may be read at each position from the one where it was made to the one where it is offered
pub attempt_readable : AttemptsTell → WindowsConceal → (nodes : List SchemaNode) (receivers : List ReceiverInfo) (entries : List Entry) (receiver : ℕ) (run : Run) → IsRunOf recorded (story_of (moments_of nodes receivers entries) receiver) receiver run
    → (id : ℕ) (before : List Attempt) (a : Attempt) → IsAttemptOf run id before a → (n : ℕ) → a.made.position ≤ n → n ≤ a.at → NamesReadable (may_read nodes (state_at nodes receivers entries n) receiver) a.made.body
attempt_readable laws conceals nodes receivers entries receiver run of id before a is n made_by within =
    let story : Story = story_of (moments_of nodes receivers entries) receiver in
    names_readable nodes receivers entries receiver conceals id a.made.from a.made.position n a.at (laws.steady recorded story receiver run of id before a is) made_by within a.made.body
    (laws.from recorded story receiver run of id before a is) (laws.made recorded story receiver run of id before a is)
