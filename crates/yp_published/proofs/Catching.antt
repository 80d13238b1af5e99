-- What a read gives a reader.
use Rattle.std.proofs.Common.{◌≡◌, ◌++◌, [], false, List, length, drop, map, All, ap, sym, subst, ◌∙◌}
use Rattle.std.proofs.Math.Seq.{drop-append_seam}
use Rattle.std.proofs.lemmas.List.Elements.{All-map, All-weaker}
use mathlib.Core.List.{IsPrefix}
use Rattle.yp_journal.specs.declared.entry.Entry.{Entry}
use Rattle.yp_published.specs.declared.published.View.{View}
use Rattle.yp_published.specs.Histories.{Known, Begins}
use Rattle.yp_published.specs.Reads.{Sight, fresh_sight, reading_of, fresh_reading, IsCaught}
use Rattle.yp_published.specs.Views.{known_by, SeesAll}
use Rattle.yp_published.proofs.Views.{begins_self, begins_trans, blank_begins}

-- ---- what a view is after a read

known_after : (before after : View) (known : Known) → SeesAll before known after → known_by after ≡ known
known_after before after known sees = ap known_by sees.0

pub begins_read : (before after : View) (known : Known) → SeesAll before known after → Begins known (known_by after)
begins_read before after known sees = subst (Begins known) (sym (known_after before after known sees)) (begins_self known)

pub sees_more : (before after : View) (known : Known) → SeesAll before known after → Begins (known_by before) (known_by after)
sees_more before after known sees = subst (Begins (known_by before)) (sym (known_after before after known sees)) sees.1

pub same_more : (before after : View) → after ≡ before → Begins (known_by before) (known_by after)
same_more before after same = subst (λ (view : View). Begins (known_by before) (known_by view)) (sym same) (begins_self (known_by before))

-- ---- what was got

-- a list is a beginning of it, and what lies past that
rest_is : {A : Type 0} (xs zs : List A) → IsPrefix xs zs → zs ≡ xs ++ drop (length xs) zs
rest_is xs zs p =
    let rest : drop (length xs) zs ≡ p.0 = ap (drop (length xs)) (sym p.1) ∙ drop-append_seam xs p.0 in
    sym p.1 ∙ ap (λ r. xs ++ r) (sym rest)

pub caught_is : (got known : Known) (sight after : Sight) (fresh : List Entry) → Begins got (known_by sight.view) → SeesAll sight.view known after.view → fresh ≡ drop (length got.entries) known.entries → after.missed ≡ sight.missed
    → IsCaught (reading_of got sight) (reading_of known after) fresh
caught_is got known sight after fresh begins sees past missed = record {
  entries = rest_is got.entries known.entries (begins_trans got (known_by sight.view) known begins sees.1).entries ∙ ap (λ r. got.entries ++ r) (sym past);
  all = sym (known_after sight.view after.view known sees);
  reads = ap (λ view. view.reads) sees.0;
  missed = missed;
}

-- ---- readers that have read nothing

same_empty : (front : Known) → (front.entries ≡ []) × (front.ended ≡ false) → front ≡ record { entries = []; ended = false }
same_empty front empty = λ i. record { entries = empty.0 i; ended = empty.1 i }

pub empty_begins : (front known : Known) → (front.entries ≡ []) × (front.ended ≡ false) → Begins front known
empty_begins front known empty = subst (λ (got : Known). Begins got known) (sym (same_empty front empty)) (blank_begins known)

pub all_fresh : (front : Known) (sights : List Sight) → (front.entries ≡ []) × (front.ended ≡ false) → All (λ sight. sight ≡ fresh_sight) sights → All (λ reading. reading ≡ fresh_reading) (map (reading_of front) sights)
all_fresh front sights empty all =
    All-map (λ reading. reading ≡ fresh_reading) (reading_of front) sights
    (All-weaker (λ sight. sight ≡ fresh_sight) (λ sight. reading_of front sight ≡ fresh_reading) (λ sight same. ap (reading_of front) same ∙ ap (λ got. reading_of got fresh_sight) (same_empty front empty)) sights all)
