-- Each answer to an offer leaves the tracks together fewer: those of a run, and those of a worker that looks at them.
use Rattle.std.proofs.Common.{◌≡◌, ℕ, ◌+◌, ◌<◌, ◌≤◌, refl, sym, ap, subst, ◌∙◌, Bool, true, false, List, [], ◌∷◌, ◌++◌, map, Some, get_or, arith}
use Rattle.std.specs.Prelude.{if◌then◌else◌}
use Rattle.std.specs.List.{AllByRecursion}
use Rattle.std.proofs.lemmas.List.{map-append}
use Rattle.yp_feed.specs.declared.item.Item.{Item}
use Rattle.yp_attempt.specs.Content.{Content, IsLawful}
use Rattle.yp_attempt.specs.Tracks.{Track, Answer, offered_item, rebased, after_answer}
use Rattle.yp_attempt.specs.Runs.{Standing, Found, first_offer, IsFirst, unless_ended, settled}
use Rattle.yp_attempt.specs.Workers.{ready, all_ready, answered_alone, puts}
use Rattle.yp_attempt.specs.ListLaws.{all_before, all_rest}
use Rattle.yp_attempt.specs.TrackLaws.{alone_ready}
use Rattle.yp_serial.specs.DueTicks.{HasDueTicks}
use Rattle.yp_serial.specs.Weights.{weight, weights}
use Rattle.yp_serial.proofs.Lessening.{fewer, look_no_more}

-- ---- what laws of runs say

-- what is found is the first offer
abbrev pub FindsFirst : Type 0
FindsFirst = (c : Content) (stamp : ℕ) (tracks : List Track) (found : Found) → first_offer c stamp tracks ≡ Some found → IsFirst c stamp tracks found

-- a second look changes nothing
abbrev pub LooksTwice : Type 0
LooksTwice = (c : Content) → IsLawful c → (n stamp : ℕ) (looked others : List Track) → map (ready c n stamp) (map (ready c n stamp) looked ++ others) ≡ map (ready c n stamp) (looked ++ others)

-- ---- a run

weights_append : (c : Content) (stamp : ℕ) (xs ys : List Track) → weights c stamp (xs ++ ys) ≡ weights c stamp xs + weights c stamp ys
weights_append c stamp [] ys = omega arith
weights_append c stamp (x ∷ xs) ys = let h : weights c stamp (xs ++ ys) ≡ weights c stamp xs + weights c stamp ys = weights_append c stamp xs ys in omega (arith, h)

weights_unless : (c : Content) (stamp : ℕ) (t : Track) (after : List Track) (b : Bool) → weights c stamp ((if b then [] else t ∷ []) ++ after) ≤ weight c stamp t + weights c stamp after
weights_unless c stamp t after true = omega arith
weights_unless c stamp t after false = omega arith

-- the tracks with a lighter one, which may have ended, in the place of another
put_lighter : (c : Content) (stamp : ℕ) (before after : List Track) (old new : Track) → weight c stamp new < weight c stamp old → weights c stamp (before ++ (unless_ended new ++ after)) < weights c stamp (before ++ old ∷ after)
put_lighter c stamp before after old new less =
    let a : weights c stamp (before ++ old ∷ after) ≡ weights c stamp before + (weight c stamp old + weights c stamp after) = weights_append c stamp before (old ∷ after) in
    let b : weights c stamp (before ++ (unless_ended new ++ after)) ≡ weights c stamp before + weights c stamp (unless_ended new ++ after) = weights_append c stamp before (unless_ended new ++ after) in
    let d : weights c stamp (unless_ended new ++ after) ≤ weight c stamp new + weights c stamp after = weights_unless c stamp new after new.feed.ended in
    omega (arith, a, b, d, less)

pub settled_fewer : FindsFirst → (c : Content) → IsLawful c → (standing : Standing) (found : Found) (answer : Answer) → HasDueTicks found.track.feed.trigger → first_offer c standing.stamp standing.tracks ≡ Some found
    → weights c standing.stamp (settled c standing found answer) < weights c standing.stamp standing.tracks
settled_fewer finds c lawful standing found answer there e =
    let is : IsFirst c standing.stamp standing.tracks found = finds c standing.stamp standing.tracks found e in
    subst (λ (tracks : List Track). weights c standing.stamp (settled c standing found answer) < weights c standing.stamp tracks) (sym is.parts)
    (put_lighter c standing.stamp found.before found.after found.track (after_answer c standing.position standing.stamp found.track found.item answer)
    (fewer c lawful standing.position standing.stamp found.track found.item answer there is.offers))

-- ---- a worker

alone_fewer : (c : Content) (lawful : IsLawful c) (n stamp : ℕ) (t : Track) (item : Item) (answer : Answer) → HasDueTicks t.feed.trigger → offered_item c stamp t ≡ Some item → weight c stamp (ready c n stamp (answered_alone n stamp t item answer)) < weight c stamp t
alone_fewer c lawful n stamp t item answer there e =
    let new : Track = after_answer c n stamp t item answer in
    let same : weight c stamp (ready c n stamp (answered_alone n stamp t item answer)) ≡ weight c stamp (rebased c n stamp new) = ap (weight c stamp) (alone_ready c n stamp t item answer) in
    let no_more : weight c stamp (rebased c n stamp new) ≤ weight c stamp new = look_no_more c lawful n stamp new in
    let less : weight c stamp new < weight c stamp t = fewer c lawful n stamp t item answer there e in
    omega (arith, same, no_more, less)

looked_same : LooksTwice → (c : Content) → IsLawful c → (n stamp : ℕ) (tracks : List Track) → AllByRecursion (λ t. ready c n stamp t ≡ t) (map (ready c n stamp) tracks)
looked_same twice c lawful n stamp [] = tt
looked_same twice c lawful n stamp (t ∷ tracks) = (ap (λ (ts : List Track). get_or ts 0 t) (twice c lawful n stamp (t ∷ []) []), looked_same twice c lawful n stamp tracks)

map_same : (f : Track → Track) (tracks : List Track) → AllByRecursion (λ t. f t ≡ t) tracks → map f tracks ≡ tracks
map_same f [] h = refl
map_same f (t ∷ tracks) h = λ i. h.0 i ∷ map_same f tracks h.1 i

-- the same, looked at: those around the answered one stay
put_looked : (c : Content) (n stamp : ℕ) (before after : List Track) (old alone : Track) → map (ready c n stamp) before ≡ before → map (ready c n stamp) after ≡ after → weight c stamp (ready c n stamp alone) < weight c stamp old
    → weights c stamp (map (ready c n stamp) (before ++ (unless_ended alone ++ after))) < weights c stamp (before ++ old ∷ after)
put_looked c n stamp before after old alone b a less =
    let f : Track → Track = ready c n stamp in
    let whole : weights c stamp (before ++ old ∷ after) ≡ weights c stamp before + (weight c stamp old + weights c stamp after) = weights_append c stamp before (old ∷ after) in
    let parts : weights c stamp (map f (before ++ (unless_ended alone ++ after))) ≡ weights c stamp before + weights c stamp (map f (unless_ended alone ++ after)) =
    ap (weights c stamp) (map-append f before (unless_ended alone ++ after)) ∙ (weights_append c stamp (map f before) (map f (unless_ended alone ++ after)) ∙ ap (λ (ts : List Track). weights c stamp ts + weights c stamp (map f (unless_ended alone ++ after))) b) in
    let most : weights c stamp (map f (unless_ended alone ++ after)) ≤ weight c stamp (f alone) + weights c stamp after = by alone.feed.ended in
    omega (arith, whole, parts, most, less)
  where
    by : (ended : Bool) → weights c stamp (map (ready c n stamp) ((if ended then [] else alone ∷ []) ++ after)) ≤ weight c stamp (ready c n stamp alone) + weights c stamp after
    by true = let same : weights c stamp (map (ready c n stamp) after) ≡ weights c stamp after = ap (weights c stamp) a in omega (arith, same)
    by false = let same : weights c stamp (map (ready c n stamp) after) ≡ weights c stamp after = ap (weights c stamp) a in omega (arith, same)

pub worker_fewer : FindsFirst → LooksTwice → (c : Content) → IsLawful c → (standing : Standing) (found : Found) (answer : Answer) → HasDueTicks found.track.feed.trigger → first_offer c standing.stamp (all_ready c standing) ≡ Some found
    → weights c standing.stamp (all_ready c (puts (record standing { tracks = all_ready c standing }) found answer)) < weights c standing.stamp (all_ready c standing)
worker_fewer finds twice c lawful standing found answer there e =
    let n : ℕ = standing.position in
    let stamp : ℕ = standing.stamp in
    let is : IsFirst c stamp (all_ready c standing) found = finds c stamp (all_ready c standing) found e in
    let all : AllByRecursion (λ t. ready c n stamp t ≡ t) (found.before ++ found.track ∷ found.after) = subst (AllByRecursion (λ t. ready c n stamp t ≡ t)) is.parts (looked_same twice c lawful n stamp standing.tracks) in
    subst (λ (tracks : List Track). weights c stamp (all_ready c (puts (record standing { tracks = all_ready c standing }) found answer)) < weights c stamp tracks) (sym is.parts)
    (put_looked c n stamp found.before found.after found.track (answered_alone n stamp found.track found.item answer)
    (map_same (ready c n stamp) found.before (all_before (λ t. ready c n stamp t ≡ t) found.before (found.track ∷ found.after) all))
    (map_same (ready c n stamp) found.after (all_rest (λ t. ready c n stamp t ≡ t) found.before (found.track ∷ found.after) all).1)
    (alone_fewer c lawful n stamp found.track found.item answer there is.offers))
