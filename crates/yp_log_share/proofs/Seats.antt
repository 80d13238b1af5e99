-- The calls of lanes in a journal, and seats whose calls stand there.
use Rattle.std.proofs.Common.{◌≡◌, ℕ, zero, suc, ◌+◌, ◌≤◌, ◌==◌, List, [], ◌∷◌, ◌++◌, length, Bool, true, false, refl, ap, sym, subst, ◌∙◌, arith, inl, inr, eq-eqb}
use Rattle.std.specs.Prelude.{if◌then◌else◌, leb, slice_index_or, slice_set}
use Rattle.std.specs.List.{AllByRecursion}
use Rattle.std.proofs.lemmas.Bool.Decides.{nat_tests}
use Rattle.std.proofs.lemmas.List.{append-nil, length_push, nil_from_length}
use Rattle.std.proofs.lemmas.List.Sums.{sum_by-cons, sum_by_push}
use mathlib.Core.List.{IsPrefix}
use Rattle.yp_journal.specs.declared.entry.Entry.{Entry}
use Rattle.yp_log_share.specs.declared.seat.Call.{Call}
use Rattle.yp_log_share.specs.Seats.{Seat, call_of, calls_by, StandIn, AreOfLanesFrom, AreWhole, count_calls}

-- ---- the calls of a lane

abbrev with_own : Bool → Call → List Call → List Call
with_own own call calls = if own then call ∷ calls else calls

own_added : (own : Bool) (call : Call) (xs ys : List Call) → with_own own call (xs ++ ys) ≡ with_own own call xs ++ ys
own_added true call xs ys = refl
own_added false call xs ys = refl

pub calls_added : (lane position : ℕ) (xs ys : List Entry) → calls_by lane position (xs ++ ys) ≡ calls_by lane position xs ++ calls_by lane (position + length xs) ys
calls_added lane position [] ys = let same : position + 0 ≡ position = omega arith in rw same refl
calls_added lane position (entry ∷ xs) ys =
    let next : position + 1 + length xs ≡ position + length (entry ∷ xs) = omega arith in
    let rest = calls_added lane (position + 1) xs ys ∙ ap (λ (n : ℕ). calls_by lane (position + 1) xs ++ calls_by lane n ys) next in
    ap (with_own (entry.lane == lane) (call_of position entry)) rest ∙ own_added (entry.lane == lane) (call_of position entry) (calls_by lane (position + 1) xs) (calls_by lane (position + length (entry ∷ xs)) ys)

own_call : (lane position : ℕ) (entry : Entry) → entry.lane ≡ lane → calls_by lane position (entry ∷ []) ≡ call_of position entry ∷ []
own_call lane position entry own = ap (λ (b : Bool). with_own b (call_of position entry) []) (eq-eqb entry.lane lane own)

-- ---- calls that stand in others

pub stand_more : (xs ys zs : List Call) → StandIn xs ys → StandIn xs (ys ++ zs)
stand_more [] ys zs stand = tt
stand_more (x ∷ xs) [] zs stand = absurd stand
stand_more (x ∷ xs) (y ∷ ys) zs (inl stand) = inl (stand.0, stand_more xs ys zs stand.1)
stand_more (x ∷ xs) (y ∷ ys) zs (inr stand) = inr (stand_more (x ∷ xs) ys zs stand)

pub stand_snoc : (xs ys : List Call) (x : Call) → StandIn xs ys → StandIn (xs ++ x ∷ []) (ys ++ x ∷ [])
stand_snoc [] [] x stand = inl (refl, tt)
stand_snoc [] (y ∷ ys) x stand = inr (stand_snoc [] ys x tt)
stand_snoc (z ∷ xs) [] x stand = absurd stand
stand_snoc (z ∷ xs) (y ∷ ys) x (inl stand) = inl (stand.0, stand_snoc xs ys x stand.1)
stand_snoc (z ∷ xs) (y ∷ ys) x (inr stand) = inr (stand_snoc (z ∷ xs) ys x stand)

pub stand_length : (xs ys : List Call) → StandIn xs ys → length xs ≤ length ys
stand_length [] ys stand = omega arith
stand_length (x ∷ xs) [] stand = absurd stand
stand_length (x ∷ xs) (y ∷ ys) (inl stand) = omega (arith, stand_length xs ys stand.1)
stand_length (x ∷ xs) (y ∷ ys) (inr stand) = omega (arith, stand_length (x ∷ xs) ys stand)

pub stand_whole : (xs ys : List Call) → StandIn xs ys → length ys ≤ length xs → xs ≡ ys
stand_whole [] [] stand le = refl
stand_whole [] (y ∷ ys) stand le = absurd (omega arith)
stand_whole (x ∷ xs) [] stand le = absurd stand
stand_whole (x ∷ xs) (y ∷ ys) (inl stand) le = let rest : xs ≡ ys = stand_whole xs ys stand.1 (omega arith) in cc (stand.0, rest)
stand_whole (x ∷ xs) (y ∷ ys) (inr stand) le = absurd (omega (arith, stand_length (x ∷ xs) ys stand))

-- ---- a longer journal

pub stand_longer : (lane position : ℕ) (calls : List Call) (xs ys : List Entry) → IsPrefix xs ys → StandIn calls (calls_by lane position xs) → StandIn calls (calls_by lane position ys)
stand_longer lane position calls xs ys p stand =
    subst (λ (zs : List Entry). StandIn calls (calls_by lane position zs)) p.1 (
    subst (StandIn calls) (sym (calls_added lane position xs p.0)) (stand_more calls (calls_by lane position xs) (calls_by lane (position + length xs) p.0) stand)
    )

-- the lane's next call stands in the journal that has its entry
pub called : (lane position : ℕ) (calls : List Call) (xs ys : List Entry) (entry : Entry) → IsPrefix xs ys → entry.lane ≡ lane → StandIn calls (calls_by lane position xs)
    → StandIn (calls ++ call_of (position + length ys) entry ∷ []) (calls_by lane position (ys ++ entry ∷ []))
called lane position calls xs ys entry p own stand =
    let call = call_of (position + length ys) entry in
    let all : calls_by lane position (ys ++ entry ∷ []) ≡ calls_by lane position ys ++ call ∷ [] =
    calls_added lane position ys (entry ∷ []) ∙ ap (λ (more : List Call). calls_by lane position ys ++ more) (own_call lane (position + length ys) entry own) in
    subst (StandIn (calls ++ call ∷ [])) (sym all) (stand_snoc calls (calls_by lane position ys) call (stand_longer lane position calls xs ys p stand))

-- ---- all lanes

-- how many entries are of the lanes from this one on
abbrev one_if : Bool → ℕ
one_if true = 1
one_if false = 0

abbrev count_from : ℕ → List Entry → ℕ
count_from lane [] = 0
count_from lane (entry ∷ entries) = one_if (leb lane entry.lane) + count_from lane entries

from_le : (lane : ℕ) (entries : List Entry) → count_from lane entries ≤ length entries
from_le lane [] = omega arith
from_le lane (entry ∷ entries) =
    let rest = from_le lane entries in
    let one : one_if (leb lane entry.lane) ≤ 1 = elim (leb lane entry.lane) as (λ (b : Bool). one_if b ≤ 1) [ true ↦ omega arith | false ↦ omega arith ] in
    omega (arith, rest, one)

own_length : (own : Bool) (call : Call) (calls : List Call) → length (with_own own call calls) ≡ one_if own + length calls
own_length true call calls = omega arith
own_length false call calls = omega arith

own_or_later : (lane n : ℕ) → one_if (n == lane) + one_if (leb (lane + 1) n) ≡ one_if (leb lane n)
own_or_later lane n = grind (arith, nat_tests)

-- the entries from a lane on are its calls, and those from the next lane on
from_next : (lane position : ℕ) (entries : List Entry) → length (calls_by lane position entries) + count_from (lane + 1) entries ≡ count_from lane entries
from_next lane position [] = omega arith
from_next lane position (entry ∷ entries) =
    let rest = from_next lane (position + 1) entries in
    let own = own_length (entry.lane == lane) (call_of position entry) (calls_by lane (position + 1) entries) in
    omega (arith, rest, own, own_or_later lane entry.lane)

-- ---- all seats

-- the calls of each seat stand in the journal
abbrev pub AreStanding : ℕ → List Entry → List Seat → Type 0
AreStanding position entries seats = AllByRecursion (λ seat. StandIn seat.calls (calls_by seat.lane position entries)) seats

-- seats from a lane on have together at most the calls of these lanes
count_le : (lane position : ℕ) (entries : List Entry) (seats : List Seat) → AreOfLanesFrom lane seats → AreStanding position entries seats → count_calls seats ≤ count_from lane entries
count_le lane position entries [] order stand = omega arith
count_le lane position entries (seat ∷ seats) order stand =
    let rest = count_le (lane + 1) position entries seats order.1 stand.1 in
    let own = subst (λ (n : ℕ). length seat.calls ≤ length (calls_by n position entries)) order.0 (stand_length seat.calls (calls_by seat.lane position entries) stand.0) in
    omega (arith, rest, own, from_next lane position entries, sum_by-cons (λ (s : Seat). length s.calls) seat seats)

whole_from : (lane position : ℕ) (entries : List Entry) (seats : List Seat) → AreOfLanesFrom lane seats → AreStanding position entries seats → count_from lane entries ≤ count_calls seats → AreWhole position entries seats
whole_from lane position entries [] order stand all = tt
whole_from lane position entries (seat ∷ seats) order stand all =
    let rest = count_le (lane + 1) position entries seats order.1 stand.1 in
    let own = subst (λ (n : ℕ). length seat.calls ≤ length (calls_by n position entries)) order.0 (stand_length seat.calls (calls_by seat.lane position entries) stand.0) in
    let next = from_next lane position entries in
    let sum = sum_by-cons (λ (s : Seat). length s.calls) seat seats in
    let full : length (calls_by lane position entries) ≤ length seat.calls = omega (arith, rest, own, next, sum, all) in
    let others : count_from (lane + 1) entries ≤ count_calls seats = omega (arith, rest, own, next, sum, all) in (
      stand_whole seat.calls (calls_by seat.lane position entries) stand.0 (subst (λ (n : ℕ). length (calls_by n position entries) ≤ length seat.calls) (sym order.0) full),
      whole_from (lane + 1) position entries seats order.1 stand.1 others,
    )

-- seats that have as many calls as there are entries have all calls
pub all_whole : (lane position : ℕ) (entries : List Entry) (seats : List Seat) → AreOfLanesFrom lane seats → AreStanding position entries seats → count_calls seats ≡ length entries → AreWhole position entries seats
all_whole lane position entries seats order stand all = whole_from lane position entries seats order stand (omega (arith, from_le lane entries, all))

-- the seats that were taken are all where none are left
pub all_taken : (done left all : List Seat) → done ++ left ≡ all → length left ≡ 0 → done ≡ all
all_taken done left all is none = sym (ap (λ (seats : List Seat). done ++ seats) (nil_from_length left none) ∙ append-nil done) ∙ is

-- one seat more, of the next lane
in_order_more : (lane : ℕ) (seats : List Seat) (seat : Seat) → AreOfLanesFrom lane seats → seat.lane ≡ lane + length seats → AreOfLanesFrom lane (seats ++ seat ∷ [])
in_order_more lane [] seat order next = let first : seat.lane ≡ lane = omega (arith, next) in (first, tt)
in_order_more lane (first ∷ seats) seat order next =
    let rest : seat.lane ≡ lane + 1 + length seats = omega (arith, next) in (order.0, in_order_more (lane + 1) seats seat order.1 rest)

-- the same, with no calls
pub one_seat_more : (seats new : List Seat) (seat : Seat) → new ≡ seats ++ seat ∷ [] → AreOfLanesFrom 1 seats → seat.lane ≡ length seats + 1 → count_calls seats ≡ 0 → seat.calls ≡ []
    → (length new ≡ length seats + 1) × AreOfLanesFrom 1 new × (count_calls new ≡ 0)
one_seat_more seats new seat is order next none no_calls =
    let lane : seat.lane ≡ 1 + length seats = omega (arith, next) in
    let count = ap count_calls is ∙ sum_by_push (λ (s : Seat). length s.calls) seats seat in (
      ap length is ∙ length_push seats seat,
      subst (AreOfLanesFrom 1) (sym is) (in_order_more 1 seats seat order lane),
      omega (arith, count, none, ap length no_calls),
    )

-- ---- seats in order

-- seats stay in order where one of them has more calls
pub lane_kept : (lane place : ℕ) (seats : List Seat) (old new : Seat) → AreOfLanesFrom lane seats → old ≡ slice_index_or seats place old → new.lane ≡ old.lane → AreOfLanesFrom lane (slice_set seats place new)
lane_kept lane place [] old new order is same = tt
lane_kept lane zero (seat ∷ seats) old new order is same = (same ∙ (ap (λ (s : Seat). s.lane) is ∙ order.0), order.1)
lane_kept lane (suc place) (seat ∷ seats) old new order is same = (order.0, lane_kept (lane + 1) place seats old new order.1 is same)
