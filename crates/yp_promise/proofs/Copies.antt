-- What a receiver took: after each update of a mirrored subscription it holds what is selected where the update was made, the first update is a full one, and positions never fall.
use Rattle.std.proofs.Common.{◌≡◌, ℕ, ◌≤◌, refl, sym, ap, subst, ◌∙◌, true, false, List, [], ◌∷◌, ◌++◌, None, Option, Some, append_assoc}
use Rattle.std.specs.Prelude.{◌==◌}
use Rattle.std.specs.List.{AllByRecursion}
use Rattle.std.proofs.lemmas.Bool.{and_parts, true≢false}
use Rattle.yp_base.specs.declared.row.Row.{Row}
use Rattle.yp_schema.specs.declared.schema.SchemaNode.{SchemaNode}
use Rattle.yp_terms.specs.declared.ask.Ask.{Ask}
use Rattle.yp_feed.specs.Machine.{is_mirrored, resyncs}
use Rattle.yp_journal.specs.declared.entry.Entry.{Entry}
use Rattle.yp_journal.specs.declared.receiver.ReceiverInfo.{ReceiverInfo}
use Rattle.yp_journal.specs.History.{state_at}
use Rattle.yp_attempt.specs.Attempts.{Notification, notification_of, taken_of}
use Rattle.yp_attempt.specs.Content.{Content}
use Rattle.yp_attempt.specs.ListLaws.{all_before}
use Rattle.yp_attempt.specs.Runs.{Run}
use Rattle.yp_attempt.specs.Tracks.{Answer, Took, Full, Attempt, Body, is_taken}
use Rattle.yp_mirror.specs.Heard.{IsTakenUpdate, Told, after_attempt, after_body, heard, heard_all, is_full_update, is_update, of_sub, told_by, told_nothing}
use Rattle.yp_mirror.specs.Links.{IsAttemptOf, IsRunOf}
use Rattle.yp_mirror.specs.Stories.{Story, story_of}
use Rattle.yp_moment.specs.Entries.{moments_of, selected_at}
use Rattle.yp_moment.specs.Windows.{recorded}
use Rattle.yp_moment.specs.MomentLaws.{wanted}
use Rattle.yp_world.specs.Headline.{NeverFalls, is_update_of}
use Rattle.yp_world.specs.TakenLaws.{IsTakenAt, one_there, sub_parts, taken_at}
use Rattle.yp_promise.specs.Promise.{BeginsFull, Gives, Mirrors}
use Rattle.yp_receiver.specs.Held.{held_of}
use Rattle.yp_promise.specs.Received.{received}
use Rattle.yp_promise.proofs.Bodies.{SaysRows, rows_in_order}
use Rattle.yp_promise.proofs.Holding.{SaysInOrder, agree_on, held_received, none_told, received_last, received_of, update_sets}
use Rattle.yp_promise.proofs.Own.{own_attempt}

-- ---- the laws that are rested on

pub record CopyLaws : Type 0 where
  pub fresh : (c : Content) (story : Story) (receiver : ℕ) (run : Run) → IsRunOf c story receiver run → (sub : ℕ) (before : List Attempt) (a : Attempt) → IsAttemptOf run sub before a → IsTakenUpdate a → story.mirrored sub ≡ true
      → (told_by c (before ++ a ∷ [])).rows ≡ story.want sub a.made.position
  pub begins : (c : Content) (story : Story) (receiver : ℕ) (run : Run) → IsRunOf c story receiver run → (sub : ℕ) (before : List Attempt) (a : Attempt) → IsAttemptOf run sub before a → IsTakenUpdate a → story.mirrored sub ≡ true
      → (told_by c before).last ≡ None → is_full_update a.made.body ≡ true
  pub rising : (c : Content) (story : Story) (receiver : ℕ) (run : Run) → IsRunOf c story receiver run
      → (sub : ℕ) (before : List Attempt) (a : Attempt) (between : List Attempt) (b : Attempt) (later : List Attempt) → of_sub sub run.done ≡ before ++ a ∷ (between ++ b ∷ later) → IsTakenUpdate a → IsTakenUpdate b → a.made.position ≤ b.made.position

-- a journal tells whether a subscription that it gives is mirrored, and whether it resynchronises, by the trigger that was asked for
abbrev pub GoesByAsk : List SchemaNode → List ReceiverInfo → List Entry → ℕ → Type 0
GoesByAsk nodes receivers entries receiver = (id : ℕ) (ask : Ask) → Gives entries id ask
    → ((story_of (moments_of nodes receivers entries) receiver).mirrored id ≡ is_mirrored ask.trigger) × ((story_of (moments_of nodes receivers entries) receiver).resyncing id ≡ resyncs ask.trigger)

-- ---- one update

heard_last : (t : Told) (xs : List Attempt) (a : Attempt) → heard_all recorded t (xs ++ a ∷ []) ≡ heard recorded (heard_all recorded t xs) a
heard_last t [] a = refl
heard_last t (x ∷ xs) a = heard_last (heard recorded t x) xs a

-- an attempt that was taken is heard by what it says
heard_taken : (t : Told) (n stamp : ℕ) (body : Body) (answer : Answer) → is_taken answer ≡ true → after_attempt recorded t n body stamp answer ≡ after_body recorded t n body
heard_taken t n stamp body Took taken = refl
heard_taken t n stamp body Full taken = absurd (true≢false (sym taken))

-- after an update what is held of its subscription is what its attempts tell of
held_now : (id : ℕ) (front : List Attempt) (a : Attempt) → AllByRecursion (λ x. SaysInOrder x.made.body) front → SaysInOrder a.made.body → (a.sub == id) ≡ true → is_taken a.answer ≡ true → is_update a.made.body ≡ true
    → held_of id (received [] (taken_of front ++ notification_of a ∷ [])) ≡ Some (told_by recorded (of_sub id front ++ a ∷ [])).rows
held_now id front a order here mine taken update =
    let t : Told = heard_all recorded told_nothing (of_sub id front) in
    let h : Option (List Row) = received_of id None (taken_of front) in
    held_received id (taken_of front ++ notification_of a ∷ []) []
    ∙ received_last id None (taken_of front) (notification_of a)
    ∙ update_sets id a.sub a.made.position a.made.body h t mine update here (agree_on id front None told_nothing order refl)
    ∙ ap (λ (u : Told). Some u.rows) (sym (heard_last told_nothing (of_sub id front) a ∙ heard_taken t a.made.position a.stamp a.made.body a.answer taken))

-- ---- what was taken

module _ (nodes : List SchemaNode) (receivers : List ReceiverInfo) (entries : List Entry) (receiver : ℕ) (run : Run) (got waiting : List Notification) where
  abbrev offered : List Attempt
  offered = run.done

  abbrev story : Story
  story = story_of (moments_of nodes receivers entries) receiver

  module _ (laws : CopyLaws) (of : IsRunOf recorded story receiver run) (goes : GoesByAsk nodes receivers entries receiver)
      (rows : AllByRecursion (λ a. SaysRows nodes a.made.body) offered) (accepted : taken_of offered ≡ got ++ waiting) where
    -- where one that was taken stands among what was offered
    there : (before : List Notification) (n : Notification) (after : List Notification) → got ≡ before ++ n ∷ after → IsTakenAt offered before n (after ++ waiting)
    there before n after is = taken_at offered before n (after ++ waiting) (accepted ∙ ap (λ (ns : List Notification). ns ++ waiting) is ∙ append_assoc before (n ∷ after) waiting)

    module _ (id : ℕ) (before : List Notification) (update : Notification) (after : List Notification) (is : got ≡ before ++ update ∷ after) (updates : is_update_of id update ≡ true) where
      abbrev at : IsTakenAt offered before update (after ++ waiting)
      at = there before update after is

      said : is_update_of id (notification_of at.a) ≡ true
      said = ap (is_update_of id) at.here ∙ updates

      mine : (at.a.sub == id) ≡ true
      mine = (and_parts (at.a.sub == id) (is_update at.a.made.body) said).0

      taken_update : IsTakenUpdate at.a
      taken_update = record { taken = at.taken; update = (and_parts (at.a.sub == id) (is_update at.a.made.body) said).1 }

      of_it : IsAttemptOf run id (of_sub id at.front) at.a
      of_it = own_attempt nodes receivers entries receiver run at.front at.a at.back at.parts id mine

      abbrev Orderly : Attempt → Type 0
      Orderly a = SaysInOrder a.made.body

      all_orderly : (xs : List Attempt) → AllByRecursion (λ a. SaysRows nodes a.made.body) xs → AllByRecursion Orderly xs
      all_orderly [] all = tt
      all_orderly (x ∷ xs) all = (rows_in_order nodes x.made.body all.0, all_orderly xs all.1)

      orderly : AllByRecursion Orderly (at.front ++ at.a ∷ at.back)
      orderly = subst (λ (xs : List Attempt). AllByRecursion Orderly xs) at.parts (all_orderly offered rows)

      told_held : held_of id (received [] (before ++ update ∷ [])) ≡ Some (told_by recorded (of_sub id at.front ++ at.a ∷ [])).rows
      told_held =
          subst (λ (ns : List Notification). held_of id (received [] ns) ≡ Some (told_by recorded (of_sub id at.front ++ at.a ∷ [])).rows) (λ i. at.first i ++ at.here i ∷ [])
          (held_now id at.front at.a (all_before Orderly at.front (at.a ∷ at.back) orderly) (one_there Orderly at.front at.a at.back orderly) mine at.taken taken_update.update)

      module _ (ask : Ask) (gives : Gives entries id ask) (mirrored : is_mirrored ask.trigger ≡ true) where
        is_fresh : held_of id (received [] (before ++ update ∷ [])) ≡ Some (selected_at nodes (state_at nodes receivers entries update.made.position) id receiver)
        is_fresh =
            told_held
            ∙ ap (λ (rows : List Row). Some rows) (laws.fresh recorded story receiver run of id (of_sub id at.front) at.a of_it taken_update ((goes id ask gives).0 ∙ mirrored) ∙ wanted nodes receivers entries receiver id at.a.made.position)
            ∙ ap (λ (n : Notification). Some (selected_at nodes (state_at nodes receivers entries n.made.position) id receiver)) at.here

        is_first_full : AllByRecursion (λ n. is_update_of id n ≡ false) before → is_full_update update.made.body ≡ true
        is_first_full none =
            subst (λ (n : Notification). is_full_update n.made.body ≡ true) at.here
            (laws.begins recorded story receiver run of id (of_sub id at.front) at.a of_it taken_update ((goes id ask gives).0 ∙ mirrored)
            (none_told id at.front told_nothing refl (subst (λ (ns : List Notification). AllByRecursion (λ n. is_update_of id n ≡ false) ns) (sym at.first) none)))

    pub copies_fresh : Mirrors nodes receivers entries receiver got
    copies_fresh id ask gives mirrored before update after is updates = is_fresh id before update after is updates ask gives mirrored

    pub copies_begin : BeginsFull entries got
    copies_begin id ask gives mirrored before update after is updates none = is_first_full id before update after is updates ask gives mirrored none

    -- two updates of one subscription, one after the other
    pub positions_rise : NeverFalls got
    positions_rise id before one between other after is one_updates other_updates =
        let first : IsTakenAt offered before one ((between ++ other ∷ after) ++ waiting) = there before one (between ++ other ∷ after) is in
        let second : IsTakenAt first.back between other (after ++ waiting) = taken_at first.back between other (after ++ waiting) (first.rest ∙ append_assoc between (other ∷ after) waiting) in
        let one_said = and_parts (first.a.sub == id) (is_update first.a.made.body) (ap (is_update_of id) first.here ∙ one_updates) in
        let other_said = and_parts (second.a.sub == id) (is_update second.a.made.body) (ap (is_update_of id) second.here ∙ other_updates) in
        let parts : of_sub id offered ≡ of_sub id first.front ++ first.a ∷ (of_sub id second.front ++ second.a ∷ of_sub id second.back) =
        ap (λ (xs : List Attempt). of_sub id xs) first.parts ∙ sub_parts id first.front first.a first.back one_said.0
        ∙ ap (λ (xs : List Attempt). of_sub id first.front ++ first.a ∷ xs) (ap (λ (xs : List Attempt). of_sub id xs) second.parts ∙ sub_parts id second.front second.a second.back other_said.0) in
        let low : first.a.made.position ≤ second.a.made.position =
        laws.rising recorded story receiver run of id (of_sub id first.front) first.a (of_sub id second.front) second.a (of_sub id second.back) parts
        (record { taken = first.taken; update = one_said.1 }) (record { taken = second.taken; update = other_said.1 }) in
        subst (λ (n : ℕ). n ≤ other.made.position) (ap (λ (n : Notification). n.made.position) first.here)
        (subst (λ (n : ℕ). first.a.made.position ≤ n) (ap (λ (n : Notification). n.made.position) second.here) low)
