-- A step that publishes more keeps what readers know.
use Rattle.std.proofs.Common.{◌≡◌, ◌≢◌, ℕ, ◌+◌, List, [], ◌∷◌, ◌++◌, Bool, false, Option, Some, None, refl, ap, sym, subst, ◌∙◌, ⊎_elim, append_assoc, fold, Result, Ok}
use Rattle.std.specs.Prelude.{MatchResult}
use Rattle.std.proofs.lemmas.List.{append-nil}
use mathlib.Core.Option.{some}
use lib.ListN.{get_elem?}
use Rattle.left_right.specs.Register.{Admits, TurnsAt}
use Rattle.atomic_table.proofs.Lists.{at_set, at_snoc}
use Rattle.yp_journal.specs.declared.entry.Entry.{Entry}
use Rattle.yp_published.specs.declared.published.View.{View}
use Rattle.yp_published.specs.Histories.{Known, Begins, after_op, pair_of, pair_after}
use Rattle.yp_published.specs.Views.{known_by, blank, Keeps, SeesAll}

pub begins_self : (known : Known) → Begins known known
begins_self known = record { entries = ([], append-nil known.entries); whole = λ ended. refl }

pub begins_trans : (a b c : Known) → Begins a b → Begins b c → Begins a c
begins_trans a b c p q = record {
  entries = (p.entries.0 ++ q.entries.0, sym (append_assoc a.entries p.entries.0 q.entries.0) ∙ (ap (λ w. w ++ q.entries.0) p.entries.1 ∙ q.entries.1));
  whole = λ ended. p.whole ended ∙ q.whole (sym (ap (λ k. k.ended) (p.whole ended)) ∙ ended);
}

pub blank_begins : (known : Known) → Begins (known_by blank) known
blank_begins known = record { entries = (known.entries, refl); whole = λ ended. absurd (cc ended) }

-- what goes on begins what is published next
pub begins_next : (known : Known) (added : Option Entry) → known.ended ≡ false → Begins known (after_op known added)
begins_next known None goes_on = record { entries = ([], append-nil known.entries); whole = λ ended. absurd (cc (sym ended ∙ goes_on)) }
begins_next known (Some entry) goes_on = record { entries = (entry ∷ [], refl); whole = λ ended. absurd (cc (sym ended ∙ goes_on)) }

pub admits : Admits Keeps blank
admits known views h seat v at = ⊎_elim (h seat v) (λ (e : blank ≡ v). subst (λ (z : View). Begins (known_by z) known) e (blank_begins known)) (at_snoc views blank v seat at)

abbrev seen_of : View → Known → View
seen_of before known = record { seen = known.entries; ended = known.ended; reads = before.reads + 1 }

pub turns : (seat : ℕ) (v : View) (x y : Known) → Begins x y → TurnsAt Keeps seat v x y (λ before x y after. SeesAll before y after)
turns seat v x y more views h at = (
  seen_of v y,
  (λ j u e. ⊎_elim (λ (t : (j ≡ seat) × (seen_of v y ≡ u)). subst (λ (z : View). Begins (known_by z) y) t.1 (begins_self y)) (λ (t : (j ≢ seat) × (get_elem? views j ≡ some u)). begins_trans (known_by u) x y (h j u t.1) more)
      (at_set views seat j (seen_of v y) u e)),
  (refl, begins_trans (known_by v) x y (h seat v at) more),
)

-- ---- what the operations come to

abbrev known_from : List Entry × Bool → Known
known_from state = record { entries = state.0; ended = state.1 }

same_known : (a b : Known) → pair_of a ≡ pair_of b → a ≡ b
same_known a b same = ap known_from same

pair_after_is : (known : Known) (added : Option Entry) → pair_after (pair_of known) added ≡ pair_of (after_op known added)
pair_after_is known None = refl
pair_after_is known (Some entry) = refl

-- one operation behind what is published
pub one_absorbed : (known next : Known) (added : Option Entry) (pending : List (Option Entry)) → pending ≡ added ∷ []
    → pair_of next ≡ fold pair_after (pair_of known) pending → next ≡ after_op known added
one_absorbed known next added pending one is = same_known next (after_op known added) (is ∙ (ap (fold pair_after (pair_of known)) one ∙ pair_after_is known added))

pub turns_one : (seat : ℕ) (v : View) (known next : Known) (added : Option Entry) (pending : List (Option Entry)) → known.ended ≡ false → pending ≡ added ∷ []
    → pair_of next ≡ fold pair_after (pair_of known) pending → TurnsAt Keeps seat v known next (λ before x y after. SeesAll before y after)
turns_one seat v known next added pending goes_on one is =
    turns seat v known next (subst (Begins known) (sym (one_absorbed known next added pending one is)) (begins_next known added goes_on))

-- the same where nothing was pending
pub one_pending : (added : Option Entry) (before pending : List (Option Entry)) → before ≡ [] → pending ≡ before ++ added ∷ [] → pending ≡ added ∷ []
one_pending added before pending none more = more ∙ ap (λ operations. operations ++ added ∷ []) none

-- what holds of a success
pub in_ok : {A E : Type 0} (F : A → Type 0) (G : E → Type 0) (result : Result A E) (x : A) → result ≡ Ok x → MatchResult result F G → F x
in_ok {A} {E} F G result x is h = subst (λ (r : Result A E). MatchResult r F G) is h

-- the front with an entry more, by its parts
pub next_is : (known next : Known) (entry : Entry) → next.entries ≡ known.entries ++ entry ∷ [] → next.ended ≡ false → known.ended ≡ false → next ≡ after_op known (Some entry)
next_is known next entry entries ended goes_on = λ i. record { entries = entries i; ended = (ended ∙ sym goes_on) i }
