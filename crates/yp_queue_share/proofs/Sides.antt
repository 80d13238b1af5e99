-- Each step keeps the rule of a queue between two threads.
use Rattle.std.proofs.Common.{◌≡◌, ◌≢◌, ℕ, zero, suc, true, false, true≢false, List, [], ◌∷◌, ◌++◌, length, set, sym, refl, ap, ◌∙◌, subst, ◌⊎◌, inl, inr, ⊎_elim, append_assoc, append-nil, length-append, arith, ◌≤◌}
use mathlib.Core.Option.{some, some-injective, some-ne-none}
use lib.ListN.{get_elem?}
use Rattle.crossbeam_queue.specs.Fifo.{Pushes, Pops, Forks, Merges, Learns}
use Rattle.crossbeam_queue.proofs.Lists.{at_set}
use Rattle.yp_queue.specs.declared.packet.Packet.{Packet}
use Rattle.yp_queue_share.specs.declared.line.Side.{Side}
use Rattle.yp_queue_share.specs.Sides.{side, sends_one, takes_one, Knows, AreInOrder, HoldsLast}

-- ---- lists of sides

-- a fact of each side and its number
abbrev Each : (ℕ → Side → Type 0) → List Side → Type 0
Each holds sides = (port : ℕ) (v : Side) → get_elem? sides port ≡ some v → holds port v

-- one side changes
one_changed : (holds : ℕ → Side → Type 0) (sides : List Side) (port : ℕ) (new : Side) → holds port new
    → ((other : ℕ) (v : Side) → other ≢ port → get_elem? sides other ≡ some v → holds other v) → Each holds (set sides port new)
one_changed holds sides port new mine others at v is = ⊎_elim
    (λ (here : (at ≡ port) × (new ≡ v)). subst (λ (w : Side). holds at w) here.1 (subst (λ (p : ℕ). holds p new) (sym here.0) mine))
    (λ (there : (at ≢ port) × (get_elem? sides at ≡ some v)). others at v there.0 there.1) (at_set sides port at new v is)

-- one side comes, as the last
last_of : (sides : List Side) (new v : Side) (at : ℕ) → get_elem? (sides ++ new ∷ []) at ≡ some v → (get_elem? sides at ≡ some v) ⊎ ((at ≡ length sides) × (new ≡ v))
last_of [] new v zero is = inr (refl, some-injective new v is)
last_of [] new v (suc at) is = absurd (some-ne-none v (sym is))
last_of (x ∷ xs) new v zero is = inl is
last_of (x ∷ xs) new v (suc at) is = ⊎_elim (λ (there : get_elem? xs at ≡ some v). inl there) (λ (last : (at ≡ length xs) × (new ≡ v)). inr (ap suc last.0, last.1)) (last_of xs new v at is)

-- ---- the steps

pub begins : AreInOrder [] (side true true [] [] ∷ [])
begins = let new = side true true [] [] in record {
  all_sent = [];
  all_taken = [];
  taker = 0;
  whole = refl;
  known = λ port v is. ⊎_elim (λ (none : get_elem? [] port ≡ some v). absurd (some-ne-none v (sym none)))
      (λ (last : (port ≡ 0) × (new ≡ v)). subst (λ (w : Side). Knows [] [] 0 port w) last.1 (record { sends = λ _. (last.0, refl); takes = λ _. (last.0, refl) })) (last_of [] new v port is);
}

pub sends : (n port : ℕ) (v : Side) (packet : Packet) → v.sends ≡ true → Pushes AreInOrder n port v packet (λ w. w ≡ sends_one v packet)
sends n port v packet may items sides room rule at =
    let mine = rule.known port v at in
    let all = rule.all_sent ++ packet ∷ [] in (
      sends_one v packet,
      record {
        all_sent = all;
        all_taken = rule.all_taken;
        taker = rule.taker;
        whole = ap (λ sent. sent ++ packet ∷ []) rule.whole ∙ append_assoc rule.all_taken items (packet ∷ []);
        known = one_changed (Knows all rule.all_taken rule.taker) sides port (sends_one v packet)
            (record { sends = λ _. ((mine.sends may).0, ap (λ sent. sent ++ packet ∷ []) (mine.sends may).1); takes = mine.takes })
            (λ other w apart is. record { sends = λ too. absurd (apart (((rule.known other w is).sends too).0 ∙ sym (mine.sends may).0)); takes = (rule.known other w is).takes });
      },
      refl,
    )

pub takes : (port : ℕ) (v : Side) → v.takes ≡ true → Pops AreInOrder port v (λ packet w. w ≡ takes_one v packet)
takes port v may packet items sides rule at =
    let mine = rule.known port v at in
    let all = rule.all_taken ++ packet ∷ [] in (
      takes_one v packet,
      record {
        all_sent = rule.all_sent;
        all_taken = all;
        taker = rule.taker;
        whole = rule.whole ∙ sym (append_assoc rule.all_taken (packet ∷ []) items);
        known = one_changed (Knows rule.all_sent all rule.taker) sides port (takes_one v packet)
            (record { sends = mine.sends; takes = λ _. ((mine.takes may).0, ap (λ taken. taken ++ packet ∷ []) (mine.takes may).1) })
            (λ other w apart is. record { sends = (rule.known other w is).sends; takes = λ too. absurd (apart (((rule.known other w is).takes too).0 ∙ sym (mine.takes may).0)) });
      },
      refl,
    )

-- the one side that there is becomes two
pub parts : (port : ℕ) (v : Side) → v.sends ≡ true → v.takes ≡ true → Forks AreInOrder port v (side true false v.sent []) (side false true [] v.taken)
parts port v sending taking items sides rule at =
    let mine = rule.known port v at in
    let first = side true false v.sent [] in
    let second = side false true [] v.taken in
    let before = set sides port first in
    let Sends : ℕ → Side → Type 0 = λ p w. (w.sends ≡ true → (p ≡ 0) × (w.sent ≡ rule.all_sent)) × (w.takes ≢ true) in
    let old : Each Sends before = one_changed Sends sides port first ((λ _. mine.sends sending), λ no. true≢false (sym no))
    (λ other w apart is. ((rule.known other w is).sends, λ too. apart (((rule.known other w is).takes too).0 ∙ sym (mine.takes taking).0))) in record {
      all_sent = rule.all_sent;
      all_taken = rule.all_taken;
      taker = length before;
      whole = rule.whole;
      known = λ p w is. ⊎_elim (λ (there : get_elem? before p ≡ some w). record { sends = (old p w there).0; takes = λ too. absurd ((old p w there).1 too) })
          (λ (last : (p ≡ length before) × (second ≡ w)). subst (λ (x : Side). Knows rule.all_sent rule.all_taken (length before) p x) last.1
          (record { sends = λ no. absurd (true≢false (sym no)); takes = λ _. (last.0, (mine.takes taking).1) })) (last_of before second w p is);
    }

-- the two sides become one
pub joins : (port : ℕ) (v : Side) (other : ℕ) (w : Side) → v.sends ≡ true → w.takes ≡ true → Merges AreInOrder port v other w (side true true v.sent w.taken) (side false false [] [])
joins port v other w sending taking items sides rule at apart at_other =
    let mine = rule.known port v at in
    let both = side true true v.sent w.taken in
    let joined = set sides port both in
    let was : get_elem? sides other ≡ some w = ⊎_elim (λ (here : (other ≡ port) × (both ≡ w)). absurd (apart here.0)) (λ (there : (other ≢ port) × (get_elem? sides other ≡ some w)). there.1) (at_set sides port other both w at_other) in
    let theirs = (rule.known other w was).takes taking in
    let Now : ℕ → Side → Type 0 = λ p x. p ≢ other → Knows rule.all_sent rule.all_taken port p x in
    let now : Each Now joined = one_changed Now sides port both (λ _. record { sends = λ _. mine.sends sending; takes = λ _. (refl, theirs.1) })
    (λ p x else is not_other. record { sends = (rule.known p x is).sends; takes = λ too. absurd (not_other (((rule.known p x is).takes too).0 ∙ sym theirs.0)) }) in record {
      all_sent = rule.all_sent;
      all_taken = rule.all_taken;
      taker = port;
      whole = rule.whole;
      known = one_changed (Knows rule.all_sent rule.all_taken port) joined other (side false false [] [])
          (record { sends = λ no. absurd (true≢false (sym no)); takes = λ no. absurd (true≢false (sym no)) }) (λ p x else is. now p x is else);
    }

-- ---- what the sides learn

pub holds_rest : (port : ℕ) (v : Side) → v.sends ≡ true → v.takes ≡ true → Learns AreInOrder port v (λ items. v.sent ≡ v.taken ++ items)
holds_rest port v sending taking items sides rule at =
    let mine = rule.known port v at in
    (mine.sends sending).1 ∙ (rule.whole ∙ ap (λ taken. taken ++ items) (sym (mine.takes taking).1))

pub holds_last : (port : ℕ) (v : Side) → v.sends ≡ true → Learns AreInOrder port v (λ items. HoldsLast v.sent items)
holds_last port v sending items sides rule at = (rule.all_taken, ((rule.known port v at).sends sending).1 ∙ rule.whole)

-- what was left was taken, where as many were taken as were left
pub all_left : (sent taken items rest more : List Packet) → sent ≡ taken ++ items → sent ≡ (taken ++ rest) ++ more → length items ≤ length rest → sent ≡ taken ++ rest
all_left sent taken items rest [] before after enough = after ∙ append-nil (taken ++ rest)
all_left sent taken items rest (x ∷ more) before after enough =
    let no : ⊥ = omega (arith, ap length before, ap length after, length-append taken items, length-append (taken ++ rest) (x ∷ more), length-append taken rest, enough) in
    absurd no
