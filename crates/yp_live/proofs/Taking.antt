-- What takes make of a desk.
use Rattle.std.proofs.Common.{◌≡◌, ℕ, ◌+◌, ◌-◌, ◌≤◌, min, List, [], ◌∷◌, ◌++◌, length, map, take, drop, refl, sym, ap, ◌∙◌, arith}
use Rattle.std.proofs.lemmas.List.{drop-drop, drop-take, drop_min, length-drop, take-append-drop, take-take, take_min}
use Rattle.yp_base.specs.declared.notice.Notice.{Notice}
use Rattle.yp_base.specs.declared.row.Row.{Row}
use Rattle.yp_attempt.specs.Attempts.{Notification}
use Rattle.yp_moment.specs.Notices.{notice_of}
use Rattle.yp_receiver.specs.Held.{hears}
use Rattle.yp_promise.specs.Received.{received}
use Rattle.yp_live.specs.Desks.{DeskState, desk_took, hears_all}

-- ---- lists

-- the first ones, and of the others the first ones again
pub take_twice : {X : Type 0} (n m : ℕ) (xs : List X) → take n xs ++ take m (drop n xs) ≡ take (n + m) xs
take_twice n m xs =
    let few : n ≤ n + m = omega arith in
    (λ i. sym (take-take n (n + m) xs few) i ++ sym (drop-take n m xs) i) ∙ take-append-drop n (take (n + m) xs)

-- no more than there are
pub take_most : {X : Type 0} (n m : ℕ) (xs : List X) → take n xs ++ take m (drop n xs) ≡ take (n + min m (length (drop n xs))) xs
take_most n m xs = ap (λ ys. take n xs ++ ys) (sym (take_min m (drop n xs))) ∙ take_twice n (min m (length (drop n xs))) xs

pub drop_most : {X : Type 0} (n m : ℕ) (xs : List X) → drop m (drop n xs) ≡ drop (n + min m (length (drop n xs))) xs
drop_most n m xs = sym (drop_min m (drop n xs)) ∙ drop-drop (min m (length (drop n xs))) n xs

-- ---- what is heard

abbrev pub notice_in : Notification → Notice
notice_in n = notice_of n.sub n.made

pub received_more : (held : List (ℕ × List Row)) (xs ys : List Notification) → received held (xs ++ ys) ≡ received (received held xs) ys
received_more held [] ys = refl
received_more held (x ∷ xs) ys = received_more (hears (notice_of x.sub x.made) held) xs ys

pub hears_received : (held : List (ℕ × List Row)) (ns : List Notification) → hears_all (map notice_in ns) held ≡ received held ns
hears_received held [] = refl
hears_received held (n ∷ ns) = hears_received (hears (notice_of n.sub n.made) held) ns

hears_more : (xs ys : List Notice) (held : List (ℕ × List Row)) → hears_all (xs ++ ys) held ≡ hears_all ys (hears_all xs held)
hears_more [] ys held = refl
hears_more (x ∷ xs) ys held = hears_more xs ys (hears x held)

-- ---- takes

pub took_none : (desk : DeskState) → desk_took 0 desk ≡ desk
took_none desk =
    let none : desk.taken + min 0 (length desk.queue.packets) ≡ desk.taken = omega arith in
    ap (λ (n : ℕ). record desk { taken = n }) none

-- one more is taken
pub took_more : (count : ℕ) (desk : DeskState) → desk_took 1 (desk_took count desk) ≡ desk_took (count + 1) desk
took_more count desk =
    let left : length (drop count desk.queue.packets) ≡ length desk.queue.packets - count = length-drop count desk.queue.packets in
    let taken : (desk.taken + min count (length desk.queue.packets)) + min 1 (length (drop count desk.queue.packets)) ≡ desk.taken + min (count + 1) (length desk.queue.packets) = omega (arith, left) in
    let trees : hears_all (take 1 (drop count desk.waiting)) (hears_all (take count desk.waiting) desk.trees) ≡ hears_all (take (count + 1) desk.waiting) desk.trees =
    sym (hears_more (take count desk.waiting) (take 1 (drop count desk.waiting)) desk.trees) ∙ ap (λ (ns : List Notice). hears_all ns desk.trees) (take_twice count 1 desk.waiting) in
    λ i. record desk {
      taken = taken i;
      queue = record { packets = drop-drop 1 count desk.queue.packets i; places = desk.queue.places };
      waiting = drop-drop 1 count desk.waiting i;
      trees = trees i;
    }
