-- Journals that are visibly alike for a user are alike for each receiver of this user.
use Rattle.std.proofs.Common.{◌≡◌, ℕ, suc, ◌≤◌, refl, sym, ap, subst, ◌∙◌, not, List, [], ◌∷◌, length, take, Option, Some, None, arith, ⊎_elim}
use Rattle.yp_base.specs.declared.row.Row.{Row}
use Rattle.yp_schema.specs.declared.schema.SchemaNode.{SchemaNode}
use Rattle.yp_nacm.specs.Decision.{visible_rows}
use Rattle.yp_nacm.specs.Same.{are_same_rules}
use Rattle.yp_registry.specs.Registry.{live_at}
use Rattle.yp_terms.specs.Terms.{Terms}
use Rattle.yp_patch.specs.declared.patch.Patch.{Patch}
use Rattle.yp_kept.specs.Selection.{kept_rows}
use Rattle.yp_journal.specs.declared.command.Command.{Command}
use Rattle.yp_journal.specs.declared.command.Command.TheVariants.{Edit, Establish}
use Rattle.yp_journal.specs.declared.entry.Entry.{Entry}
use Rattle.yp_journal.specs.declared.receiver.ReceiverInfo.{ReceiverInfo}
use Rattle.yp_journal.specs.declared.reply.Reply.{Reply}
use Rattle.yp_journal.specs.declared.reply.Reply.TheVariants.{Done, Id, Registry, Edit as EditRefused}
use Rattle.yp_journal.specs.History.{JournalState, accepted, first_state, next_state, reply_to, rules_at, may_read, state_of, user_of, IsLegal}
use Rattle.yp_attempt.specs.Alike.{AreAlike, IsSameFor}
use Rattle.yp_moment.specs.Entries.{act_of, given_by, moment_of, moments_from, selected_at, selected_by}
use Rattle.yp_moment.specs.Visible.{AreAllLike, AreLikeCommands, AreVisiblyAlike, IsPatch, rows_shown}

-- ---- what doesn't read the rows

-- a state with other rows
abbrev with_rows : JournalState → List Row → JournalState
with_rows state rows = record state { rows = rows }

-- only a patch reads or changes the rows
rows_unread : (nodes : List SchemaNode) (state : JournalState) (rows : List Row) (command : Command) → (IsPatch command → ⊥) → accepted nodes (with_rows state rows) command ≡ (with_rows (next_state nodes state command) rows, reply_to nodes state command)
rows_unread nodes state rows (Edit patch) never = absurd (never (patch, refl))
rows_unread nodes state rows command never = refl

given_unread : (reply : Reply) (after : JournalState) (rows : List Row) → given_by reply (with_rows after rows) ≡ given_by reply after
given_unread Done after rows = refl
given_unread (Id id) after rows = refl
given_unread (Registry refusal) after rows = refl
given_unread (EditRefused edit_id tag path) after rows = refl

-- and no act goes by them
act_unread : (command : Command) (reply : Reply) (after : JournalState) (rows : List Row) → act_of command reply (with_rows after rows) ≡ act_of command reply after
act_unread (Establish by ask) reply after rows = given_unread reply after rows
act_unread command reply after rows = refl

-- ---- one entry

patch_rows : (nodes : List SchemaNode) (state : JournalState) (rows : List Row) (one two : Patch) → next_state nodes (with_rows state rows) (Edit two) ≡ with_rows (next_state nodes state (Edit one)) (next_state nodes (with_rows state rows) (Edit two)).rows
patch_rows nodes state rows one two = refl

-- after commands that are like each other two states differ in their rows alone
record GoOnAlike (nodes : List SchemaNode) (state : JournalState) (rows : List Row) (one two : Entry) : Type 0 where
  pub after : List Row
  pub next : next_state nodes (with_rows state rows) two.command ≡ with_rows (next_state nodes state one.command) after
  pub act : act_of two.command two.reply (next_state nodes (with_rows state rows) two.command) ≡ act_of one.command one.reply (next_state nodes state one.command)

patches_go_on : (nodes : List SchemaNode) (state : JournalState) (rows : List Row) (one two : Entry) → IsPatch one.command → IsPatch two.command → GoOnAlike nodes state rows one two
patches_go_on nodes state rows one two is it = record {
  after = (next_state nodes (with_rows state rows) (Edit it.0)).rows;
  next = ap (next_state nodes (with_rows state rows)) it.1 ∙ (patch_rows nodes state rows is.0 it.0 ∙ ap (λ (command : Command). with_rows (next_state nodes state command) (next_state nodes (with_rows state rows) (Edit it.0)).rows) (sym is.1));
  act = ap (λ (command : Command). act_of command two.reply (next_state nodes (with_rows state rows) command)) it.1 ∙ sym (ap (λ (command : Command). act_of command one.reply (next_state nodes state command)) is.1);
}

others_go_on : (nodes : List SchemaNode) (state : JournalState) (rows : List Row) (one two : Entry) → one.command ≡ two.command → (IsPatch one.command → ⊥) → one.reply ≡ reply_to nodes state one.command → two.reply ≡ reply_to nodes (with_rows state rows) two.command → GoOnAlike nodes state rows one two
others_go_on nodes state rows one two same never is it =
    let unread : accepted nodes (with_rows state rows) two.command ≡ (with_rows (next_state nodes state one.command) rows, reply_to nodes state one.command) =
    ap (accepted nodes (with_rows state rows)) (sym same) ∙ rows_unread nodes state rows one.command never in
    let next : next_state nodes (with_rows state rows) two.command ≡ with_rows (next_state nodes state one.command) rows = ap (λ (x : JournalState × Reply). x.0) unread in
    let reply : two.reply ≡ one.reply = it ∙ (ap (λ (x : JournalState × Reply). x.1) unread ∙ sym is) in
    record {
      after = rows;
      next = next;
      act = (λ i. act_of (sym same i) (reply i) (next i)) ∙ act_unread one.command one.reply (next_state nodes state one.command) rows;
    }

goes_on : (nodes : List SchemaNode) (state : JournalState) (rows : List Row) (one two : Entry) → AreLikeCommands one.command two.command → one.reply ≡ reply_to nodes state one.command → two.reply ≡ reply_to nodes (with_rows state rows) two.command → GoOnAlike nodes state rows one two
goes_on nodes state rows one two like is it = ⊎_elim (λ patches. patches_go_on nodes state rows one two patches.0 patches.1) (λ others. others_go_on nodes state rows one two others.0 others.1 is it) like

-- ---- what is selected

selected_shown : (nodes : List SchemaNode) (state : JournalState) (rows : List Row) (receiver : ℕ) (terms : Option Terms) → visible_rows (may_read nodes state receiver) state.rows ≡ visible_rows (may_read nodes state receiver) rows
    → selected_by nodes state receiver terms ≡ selected_by nodes (with_rows state rows) receiver terms
selected_shown nodes state rows receiver None same = refl
selected_shown nodes state rows receiver (Some terms) same = ap (kept_rows nodes terms.asked) same

-- ---- journals

-- what the user of a receiver sees
shown_to : (nodes : List SchemaNode) (state : JournalState) (receiver : ℕ) (user : List ℕ) → user_of receiver state.receivers ≡ user → visible_rows (may_read nodes state receiver) state.rows ≡ rows_shown nodes user state
shown_to nodes state receiver user its = ap (λ (u : List ℕ). rows_shown nodes u state) its

-- no command changes the receivers
abbrev pub KeepsReceivers : Type 0
KeepsReceivers = (nodes : List SchemaNode) (state : JournalState) (entries : List Entry) → (state_of nodes state entries).receivers ≡ state.receivers

module _ (keep : KeepsReceivers) (nodes : List SchemaNode) (receiver : ℕ) (user : List ℕ) where
  -- the user sees the same at each position of journals that go on from two states
  abbrev ShowTheSame : JournalState → JournalState → List Entry → List Entry → Type 0
  ShowTheSame s t ones twos = (n : ℕ) → n ≤ length ones → rows_shown nodes user (state_of nodes s (take n ones)) ≡ rows_shown nodes user (state_of nodes t (take n twos))

  same_moment : (s : JournalState) (rows : List Row) (one two : Entry) → GoOnAlike nodes s rows one two → user_of receiver s.receivers ≡ user
      → rows_shown nodes user (next_state nodes s one.command) ≡ rows_shown nodes user (next_state nodes (with_rows s rows) two.command)
      → IsSameFor receiver (moment_of nodes s one) (moment_of nodes (with_rows s rows) two)
  same_moment s rows one two on its shown =
      let next : JournalState = next_state nodes s one.command in
      let its_next : user_of receiver next.receivers ≡ user = ap (user_of receiver) (keep nodes s (one ∷ [])) ∙ its in
      let same : visible_rows (may_read nodes next receiver) next.rows ≡ visible_rows (may_read nodes next receiver) on.after =
      shown_to nodes next receiver user its_next ∙ (shown ∙ (ap (rows_shown nodes user) on.next ∙ sym (shown_to nodes (with_rows next on.after) receiver user its_next))) in
      record {
        stamp = sym (ap (λ (state : JournalState). state.stamp) on.next);
        act = sym on.act;
        rules = sym (ap (λ (state : JournalState). not (are_same_rules (rules_at s receiver) (rules_at state receiver))) on.next);
        selection = λ id. selected_shown nodes next on.after receiver (live_at id next.registry.live) same ∙ sym (ap (λ (state : JournalState). selected_at nodes state id receiver) on.next);
      }

  alike_from : (s : JournalState) (rows : List Row) (ones twos : List Entry) → user_of receiver s.receivers ≡ user → IsLegal nodes s ones → IsLegal nodes (with_rows s rows) twos → AreAllLike ones twos → ShowTheSame s (with_rows s rows) ones twos
      → AreAlike receiver (moments_from nodes s ones) (moments_from nodes (with_rows s rows) twos)
  alike_from s rows [] [] its legal other like shown = tt
  alike_from s rows [] (two ∷ twos) its legal other like shown = absurd like
  alike_from s rows (one ∷ ones) [] its legal other like shown = absurd like
  alike_from s rows (one ∷ ones) (two ∷ twos) its legal other like shown =
      let on : GoOnAlike nodes s rows one two = goes_on nodes s rows one two like.0.commands legal.0.reply other.0.reply in
      let next : JournalState = next_state nodes s one.command in
      let first : rows_shown nodes user next ≡ rows_shown nodes user (next_state nodes (with_rows s rows) two.command) = shown 1 (omega arith) in
      let later : ShowTheSame next (next_state nodes (with_rows s rows) two.command) ones twos = (λ n few. shown (suc n) (omega (arith, few))) in (
        same_moment s rows one two on its first,
        subst (λ (t : JournalState). AreAlike receiver (moments_from nodes next ones) (moments_from nodes t twos)) (sym on.next)
            (alike_from next on.after ones twos (ap (user_of receiver) (keep nodes s (one ∷ [])) ∙ its) legal.1 (subst (λ (t : JournalState). IsLegal nodes t twos) on.next other.1) like.1
            (subst (λ (t : JournalState). ShowTheSame next t ones twos) on.next later)),
      )

pub visibly_alike : KeepsReceivers → (nodes : List SchemaNode) (receivers : List ReceiverInfo) (user : List ℕ) (ones twos : List Entry) → IsLegal nodes (first_state receivers) ones → IsLegal nodes (first_state receivers) twos
    → AreVisiblyAlike nodes receivers user ones twos → (receiver : ℕ) → user_of receiver receivers ≡ user → AreAlike receiver (moments_from nodes (first_state receivers) ones) (moments_from nodes (first_state receivers) twos)
visibly_alike keep nodes receivers user ones twos legal other alike receiver its = alike_from keep nodes receiver user (first_state receivers) [] ones twos its legal other alike.entries alike.rows
