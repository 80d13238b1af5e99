-- Posts throughout a serial run: kept by each entry and by each offer.
use Rattle.std.proofs.Common.{◌≡◌, ℕ, zero, suc, ◌+◌, ◌<◌, ◌≤◌, refl, sym, ap, subst, ◌∙◌, Bool, true, false, List, [], ◌∷◌, ◌++◌, length, Option, Some, None, arith, length-append}
use Rattle.std.specs.Prelude.{if◌then◌else◌, nat_lt, ◌==◌}
use Rattle.std.proofs.lemmas.Bool.{ltb-true, eqb-true, false≢true}
use Rattle.std.proofs.lemmas.List.Elements.{filter-append}
use Rattle.yp_schema.specs.declared.schema.SchemaNode.{SchemaNode}
use Rattle.yp_journal.specs.declared.entry.Entry.{Entry}
use Rattle.yp_journal.specs.declared.receiver.ReceiverInfo.{ReceiverInfo}
use Rattle.yp_journal.specs.History.{first_state, state_of}
use Rattle.yp_attempt.specs.Attempts.{Notification, if_taken, notification_of, of_receiver, taken_of}
use Rattle.yp_attempt.specs.Content.{Content}
use Rattle.yp_attempt.specs.Moments.{Moment}
use Rattle.yp_attempt.specs.Runs.{Found, waits}
use Rattle.yp_attempt.specs.Tracks.{Answer, Took, Full, Attempt, attempt}
use Rattle.yp_attempt.specs.AttemptLaws.{taken_append}
use Rattle.yp_moment.specs.Entries.{moment_of, moments_of}
use Rattle.yp_moment.specs.Windows.{recorded}
use Rattle.yp_serial.specs.Posts.{Post, Queueing, answer_by, after_offer, after_take}
use Rattle.yp_serial.specs.Serial.{Served, Taking, first_served, served_advanced, found_answer, served_settled, while_offered, offers_on, all_offered, serial}
use Rattle.yp_serial.specs.Weights.{weights}
use Rattle.yp_promise.specs.Posts.{HasPost, HavePosts}
use Rattle.yp_promise.specs.Serving.{all_numbers, queueing_of, run_entered, run_of, taken_by, taking_of}

-- ---- what was accepted

-- what the queue of a receiver accepted of one attempt more
abbrev one_accepted : Bool → Attempt → List Notification
one_accepted b a = taken_of (if b then a ∷ [] else [])

one_more : (number : ℕ) (done : List Attempt) (a : Attempt) → length (taken_of (of_receiver number (done ++ a ∷ []))) ≡ length (taken_of (of_receiver number done)) + length (one_accepted (a.receiver == number) a)
one_more number done a =
    ap (λ (those : List Attempt). length (taken_of those)) (filter-append (λ (x : Attempt). x.receiver == number) done (a ∷ []))
    ∙ (ap (λ (ns : List Notification). length ns) (taken_append (of_receiver number done) (if a.receiver == number then a ∷ [] else []))
    ∙ length-append (taken_of (of_receiver number done)) (one_accepted (a.receiver == number) a))

-- ---- posts

-- what is kept of a post by its numbers
record IsKeptPost (accepted places : ℕ) (automatic : Bool) (post : Post) : Type 0 where
  pub parts : accepted ≡ post.taken + post.held
  pub fits : post.held ≤ places
  pub none : automatic ≡ true → post.held ≡ 0

after_taking : (accepted places : ℕ) (automatic : Bool) (count : ℕ) (post : Post) → IsKeptPost accepted places automatic post → IsKeptPost accepted places automatic (after_take count post)
after_taking accepted places automatic count post is =
    let parts : accepted ≡ post.taken + post.held = is.parts in
    let fits : post.held ≤ places = is.fits in
    record {
      parts = omega (arith, parts);
      fits = omega (arith, fits);
      none = λ e. let none : post.held ≡ 0 = is.none e in omega (arith, none);
    }

-- an offer to its receiver, of whose queue it is known whether there is room
after_answer : (accepted places : ℕ) (room automatic : Bool) (post : Post) (n : Notification) → nat_lt post.held places ≡ room → IsKeptPost accepted places automatic post
    → IsKeptPost (accepted + length (if_taken (if room then Took else Full) n [])) places automatic (after_offer automatic (if room then Took else Full) post)
after_answer accepted places true true post n room is =
    let parts : accepted ≡ post.taken + post.held = is.parts in
    record { parts = omega (arith, parts); fits = is.fits; none = is.none }
after_answer accepted places true false post n room is =
    let parts : accepted ≡ post.taken + post.held = is.parts in
    let less : post.held < places = ltb-true post.held places room in
    record { parts = omega (arith, parts); fits = omega (arith, less); none = λ e. absurd (false≢true e) }
after_answer accepted places false automatic post n room is =
    let parts : accepted ≡ post.taken + post.held = is.parts in
    record { parts = omega (arith, parts); fits = is.fits; none = is.none }

-- an offer that this queue answers
after_offering : (accepted places : ℕ) (automatic : Bool) (post : Post) (n : Notification) (answer : Answer) → answer ≡ answer_by places post → IsKeptPost accepted places automatic post
    → IsKeptPost (accepted + length (if_taken answer n [])) places automatic (after_offer automatic answer post)
after_offering accepted places automatic post n answer by is =
    subst (λ (x : Answer). IsKeptPost (accepted + length (if_taken x n [])) places automatic (after_offer automatic x post)) (sym by)
    (after_answer accepted places (nat_lt post.held places) automatic post n refl is)

-- ---- a serial run

-- the same of the receiver of a number
abbrev IsKeptFor : Queueing → ℕ → Served → Type 0
IsKeptFor q number served = IsKeptPost (length (taken_of (of_receiver number served.run.done))) (q.places number) (q.automatic number) (served.posts number)

module _ (c : Content) (q : Queueing) (number : ℕ) where
  opened : IsKeptFor q number first_served
  opened = record { parts = omega arith; fits = omega arith; none = λ e. omega arith }

  advanced : (receivers : List ℕ) (takes : Taking) (m : Moment) (served : Served) → IsKeptFor q number served → IsKeptFor q number (served_advanced c receivers takes m served)
  advanced receivers takes m served is =
      after_taking (length (taken_of (of_receiver number served.run.done))) (q.places number) (q.automatic number) (takes (served.run.standing.position + 1) number) (served.posts number) is

  settled_at : (found : Found) (served : Served) → IsKeptFor q number served → IsKeptFor q number (served_settled c q found served)
  settled_at found served is =
      subst (λ (n : ℕ). IsKeptPost n (q.places number) (q.automatic number) ((served_settled c q found served).posts number)) (sym (one_more number served.run.done made))
      (by (found.track.feed.receiver == number) refl)
    where
      made : Attempt
      made = attempt c served.run.standing.position served.run.standing.stamp found.track found.item (found_answer q found served)

      accepted : ℕ
      accepted = length (taken_of (of_receiver number served.run.done))

      by : (b : Bool) → (found.track.feed.receiver == number) ≡ b
          → IsKeptPost (accepted + length (one_accepted b made)) (q.places number) (q.automatic number)
          (if b then after_offer (q.automatic number) (found_answer q found served) (served.posts number) else served.posts number)
      by true e =
          after_offering accepted (q.places number) (q.automatic number) (served.posts number) (notification_of made) (found_answer q found served)
          (ap (λ (r : ℕ). answer_by (q.places r) (served.posts r)) (eqb-true found.track.feed.receiver number e)) is
      by false e =
          let none : accepted + 0 ≡ accepted = omega arith in
          subst (λ (n : ℕ). IsKeptPost n (q.places number) (q.automatic number) (served.posts number)) (sym none) is

  kept_by : (k : ℕ) (served : Served) → IsKeptFor q number served → (o : Option Found)
      → ((next : Served) → IsKeptFor q number next → IsKeptFor q number (offers_on c q k next)) → IsKeptFor q number (while_offered o served (λ found. offers_on c q k (served_settled c q found served)))
  kept_by k served is None f = is
  kept_by k served is (Some found) f = f (served_settled c q found served) (settled_at found served is)

  kept_on : (k : ℕ) (served : Served) → IsKeptFor q number served → IsKeptFor q number (offers_on c q k served)
  kept_on zero served is = is
  kept_on (suc k) served is = kept_by k served is (waits c served.run) (λ next h. kept_on k next h)

  kept_serial : (receivers : List ℕ) (takes : Taking) (moments : List Moment) (served : Served) → IsKeptFor q number served → IsKeptFor q number (serial c receivers q takes served moments)
  kept_serial receivers takes [] served is = is
  kept_serial receivers takes (m ∷ moments) served is =
      let next : Served = served_advanced c receivers takes m served in
      kept_serial receivers takes moments (all_offered c q next) (kept_on (weights c next.run.standing.stamp next.run.standing.tracks) next (advanced receivers takes m served is))

-- ---- the serial run of a journal

has_post : (receivers : List ReceiverInfo) (served : Served) (number : ℕ) → IsKeptFor (queueing_of receivers) number served → HasPost receivers served number
has_post receivers served number is = record { parts = is.parts; fits = is.fits; none = is.none }

kept_post : (receivers : List ReceiverInfo) (served : Served) (number : ℕ) → HasPost receivers served number → IsKeptFor (queueing_of receivers) number served
kept_post receivers served number is = record { parts = is.parts; fits = is.fits; none = is.none }

run_kept : (nodes : List SchemaNode) (receivers : List ReceiverInfo) (entries : List Entry) (number : ℕ) → IsKeptFor (queueing_of receivers) number (run_of nodes receivers entries)
run_kept nodes receivers entries number =
    let q = queueing_of receivers in
    kept_serial recorded q number (all_numbers receivers) (taking_of entries) (moments_of nodes receivers entries) first_served (opened recorded q number)

pub run_posts : (nodes : List SchemaNode) (receivers : List ReceiverInfo) (entries : List Entry) → HavePosts receivers (run_of nodes receivers entries)
run_posts nodes receivers entries number = has_post receivers (run_of nodes receivers entries) number (run_kept nodes receivers entries number)

pub entered_posts : (nodes : List SchemaNode) (receivers : List ReceiverInfo) (entries : List Entry) (entry : Entry) → HavePosts receivers (run_entered nodes receivers entries entry)
entered_posts nodes receivers entries entry number =
    has_post receivers (run_entered nodes receivers entries entry) number
    (advanced recorded (queueing_of receivers) number (all_numbers receivers) (λ n number. taken_by entry.command number) (moment_of nodes (state_of nodes (first_state receivers) entries) entry) (run_of nodes receivers entries) (run_kept nodes receivers entries number))

pub settled_posts : (receivers : List ReceiverInfo) (served : Served) (found : Found) → HavePosts receivers served → HavePosts receivers (served_settled recorded (queueing_of receivers) found served)
settled_posts receivers served found have number =
    has_post receivers (served_settled recorded (queueing_of receivers) found served) number
    (settled_at recorded (queueing_of receivers) number found served (kept_post receivers served number (have number)))
