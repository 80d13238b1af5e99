-- What is promised of each run of a receiver, from what ties its tracks to its attempts.
use Rattle.std.proofs.Common.{◌≡◌, ℕ, ◌+◌, ◌≤◌, refl, sym, ap, subst, ◌∙◌, true, false, List, [], ◌∷◌, ◌++◌, length, None, arith}
use Rattle.std.specs.List.{AllByRecursion}
use Rattle.std.proofs.lemmas.Bool.{true≢false}
use Rattle.yp_feed.specs.declared.item.Item.TheVariants.{Suspended}
use Rattle.yp_attempt.specs.Content.{Content, IsLawful}
use Rattle.yp_attempt.specs.ListLaws.{all_weaker}
use Rattle.yp_attempt.specs.Tracks.{Track, Body, All, Edits, Marked, Notice, Answer, Took, Full, Attempt, is_taken}
use Rattle.yp_attempt.specs.Moments.{Moment, AllMayFollow}
use Rattle.yp_attempt.specs.Attempts.{IsReplayOf, replay}
use Rattle.yp_attempt.specs.Runs.{Run, Reaches, first_run}
use Rattle.yp_mirror.specs.Heard.{Told, told_nothing, heard, heard_all, told_by, of_sub, is_full_update, is_incomplete_update, IsTakenUpdate}
use Rattle.yp_mirror.specs.Stories.{Story, Steady, Leads, IsStory, story_of}
use Rattle.yp_mirror.specs.Following.{IsMadeOf, IsLessThan, IsUpdate, IsAnswered, ComesAfter, Follows, AllFollow}
use Rattle.yp_mirror.specs.Links.{LinkedIn, RunIsLinked, IsRunOf, IsAttemptOf}
use Rattle.yp_mirror.specs.FullQueues.{SuspendsAtEighth, FreezesAfterFull, HasFull, HasEightFull}
use Rattle.yp_mirror.proofs.Following.{follows_at, update_is, all_said, positions_rise}
use Rattle.yp_mirror.proofs.FullQueues.{suspends_at_eighth, freezes_after_full}
use Rattle.yp_mirror.proofs.Histories.{full_told, eight_told, incomplete_awaits, awaits_until, eight_await}
use Rattle.yp_mirror.proofs.Lists.{heard_last}

-- what a journal makes for a receiver is a run over its story
pub journal_run : ((journal : List Moment) (receiver : ℕ) → AllMayFollow [] journal → IsStory (story_of journal receiver) receiver journal)
    → ((c : Content) (receivers : List ℕ) (journal : List Moment) (answers : List Answer) → AllMayFollow [] journal → IsReplayOf c receivers journal answers (replay c receivers first_run journal answers))
    → (c : Content) → IsLawful c → (journal : List Moment) (receiver : ℕ) (answers : List Answer) → Leads c (story_of journal receiver) → AllMayFollow [] journal → IsRunOf c (story_of journal receiver) receiver (replay c (receiver ∷ []) first_run journal answers).run
journal_run tells replays c lawful journal receiver answers leads may =
    let is = replays c (receiver ∷ []) journal answers may in
    record { lawful = lawful; leads = leads; journal = journal; tells = tells journal receiver may; past = is.past; rest = (replay c (receiver ∷ []) first_run journal answers).rest; within = is.entries; answers = is.given; reaches = is.reaches }

-- every run of a receiver is linked
abbrev pub RunsAreLinked : Type 0
RunsAreLinked = (c : Content) → IsLawful c → (story : Story) → Leads c story → (receiver : ℕ) (journal : List Moment) → IsStory story receiver journal → (past : List Moment) (answers : List Answer) (run : Run) → Reaches c (receiver ∷ []) past answers run
    → (rest : List Moment) → past ++ rest ≡ journal → RunIsLinked c story receiver past run

pub linked_run : RunsAreLinked → (c : Content) (story : Story) (receiver : ℕ) (run : Run) → (of : IsRunOf c story receiver run) → RunIsLinked c story receiver of.past run
linked_run laws c story receiver run of = laws c of.lawful story of.leads receiver of.journal of.tells of.past of.answers run of.reaches of.rest of.within

follows : RunsAreLinked → (c : Content) (story : Story) (receiver : ℕ) (run : Run) → IsRunOf c story receiver run → (sub : ℕ) (before : List Attempt) (a : Attempt) → IsAttemptOf run sub before a → Follows c story sub (told_by c before) a
follows laws c story receiver run of sub before a is =
    follows_at c story sub told_nothing before a is.later (subst (λ (xs : List Attempt). AllFollow c story sub told_nothing xs) is.parts ((linked_run laws c story receiver run of).follow sub))

update : RunsAreLinked → (c : Content) (story : Story) (receiver : ℕ) (run : Run) → IsRunOf c story receiver run → (sub : ℕ) (before : List Attempt) (a : Attempt) → IsAttemptOf run sub before a → IsTakenUpdate a
    → IsUpdate story sub (told_by c before) (heard c (told_by c before) a).rows a.made.position a.at (is_full_update a.made.body)
update laws c story receiver run of sub before a is taken = update_is c story sub (told_by c before) a (follows laws c story receiver run of sub before a is) taken

-- ---- copies

pub copy_fresh : RunsAreLinked → (c : Content) (story : Story) (receiver : ℕ) (run : Run) → IsRunOf c story receiver run → (sub : ℕ) (before : List Attempt) (a : Attempt) → IsAttemptOf run sub before a → IsTakenUpdate a → story.mirrored sub ≡ true
    → (told_by c (before ++ a ∷ [])).rows ≡ story.want sub a.made.position
copy_fresh laws c story receiver run of sub before a is taken mirrored =
    ap (λ (t : Told). t.rows) (heard_last c told_nothing before a) ∙ (update laws c story receiver run of sub before a is taken).fresh mirrored

pub copy_begins : RunsAreLinked → (c : Content) (story : Story) (receiver : ℕ) (run : Run) → IsRunOf c story receiver run → (sub : ℕ) (before : List Attempt) (a : Attempt) → IsAttemptOf run sub before a → IsTakenUpdate a → story.mirrored sub ≡ true
    → (told_by c before).last ≡ None → is_full_update a.made.body ≡ true
copy_begins laws c story receiver run of sub before a is taken mirrored none = (update laws c story receiver run of sub before a is taken).begins mirrored none

pub resync_carries : RunsAreLinked → (c : Content) (story : Story) (receiver : ℕ) (run : Run) → IsRunOf c story receiver run → (sub : ℕ) (before : List Attempt) (a : Attempt) → IsAttemptOf run sub before a → IsTakenUpdate a
    → story.resyncing sub ≡ true → (told_by c before).awaits ≡ true → a.made.body ≡ All (story.want sub a.at)
resync_carries laws c story receiver run of sub before a is taken resyncs awaits =
    let full = (update laws c story receiver run of sub before a is taken).full resyncs awaits in
    all_said c (told_by c before) a.made.position a.made.body a.stamp a.answer (story.want sub a.at) taken.taken full.0 full.1

pub resync_here : RunsAreLinked → (c : Content) (story : Story) (receiver : ℕ) (run : Run) → IsRunOf c story receiver run → (sub : ℕ) (before : List Attempt) (a : Attempt) → IsAttemptOf run sub before a → IsTakenUpdate a
    → story.resyncing sub ≡ true → (told_by c before).awaits ≡ true → a.made.position ≡ a.at
resync_here laws c story receiver run of sub before a is taken resyncs awaits = ((update laws c story receiver run of sub before a is taken).full resyncs awaits).2

-- ---- positions

pub never_fall : RunsAreLinked → (c : Content) (story : Story) (receiver : ℕ) (run : Run) → IsRunOf c story receiver run
    → (sub : ℕ) (before : List Attempt) (a : Attempt) (between : List Attempt) (b : Attempt) (later : List Attempt) → of_sub sub run.done ≡ before ++ a ∷ (between ++ b ∷ later) → IsTakenUpdate a → IsTakenUpdate b → a.made.position ≤ b.made.position
never_fall laws c story receiver run of sub before a between b later parts one two =
    positions_rise c story sub told_nothing before a between b later (subst (λ (xs : List Attempt). AllFollow c story sub told_nothing xs) parts ((linked_run laws c story receiver run of).follow sub)) one two

pub not_past : RunsAreLinked → (c : Content) (story : Story) (receiver : ℕ) (run : Run) → IsRunOf c story receiver run → (sub : ℕ) (before : List Attempt) (a : Attempt) → IsAttemptOf run sub before a → IsTakenUpdate a → a.made.position ≤ a.at
not_past laws c story receiver run of sub before a is taken = (update laws c story receiver run of sub before a is taken).past

pub steady : RunsAreLinked → (c : Content) (story : Story) (receiver : ℕ) (run : Run) → IsRunOf c story receiver run → (sub : ℕ) (before : List Attempt) (a : Attempt) → IsAttemptOf run sub before a → Steady story sub a.made.from a.at
steady laws c story receiver run of sub before a is = (follows laws c story receiver run of sub before a is).steady

-- ---- what attempts are made of

pub attempt_made : RunsAreLinked → (c : Content) (story : Story) (receiver : ℕ) (run : Run) → IsRunOf c story receiver run → (sub : ℕ) (before : List Attempt) (a : Attempt) → IsAttemptOf run sub before a → IsMadeOf c story sub a.made
attempt_made laws c story receiver run of sub before a is = (follows laws c story receiver run of sub before a is).made

pub attempt_from : RunsAreLinked → (c : Content) (story : Story) (receiver : ℕ) (run : Run) → IsRunOf c story receiver run → (sub : ℕ) (before : List Attempt) (a : Attempt) → IsAttemptOf run sub before a → a.made.from ≤ a.made.position
attempt_from laws c story receiver run of sub before a is = (follows laws c story receiver run of sub before a is).within.0

pub attempt_offered : RunsAreLinked → (c : Content) (story : Story) (receiver : ℕ) (run : Run) → IsRunOf c story receiver run → (sub : ℕ) (before : List Attempt) (a : Attempt) → IsAttemptOf run sub before a → a.made.position ≤ a.at
attempt_offered laws c story receiver run of sub before a is = (follows laws c story receiver run of sub before a is).within.1

-- ---- full queues

pub suspends : RunsAreLinked → (c : Content) (story : Story) (receiver : ℕ) (run : Run) → IsRunOf c story receiver run
    → AllByRecursion (λ track. SuspendsAtEighth c run.standing.position run.standing.stamp track (told_by c (of_sub track.feed.sub run.done))) run.standing.tracks
suspends laws c story receiver run of =
    all_weaker (LinkedIn c story receiver run.standing.position run.standing.stamp run.done) (λ (track : Track). SuspendsAtEighth c run.standing.position run.standing.stamp track (told_by c (of_sub track.feed.sub run.done))) run.standing.tracks
    (λ track h. suspends_at_eighth c story receiver run.standing.position run.standing.stamp track (told_by c (of_sub track.feed.sub run.done)) h) (linked_run laws c story receiver run of).linked

pub freezes : RunsAreLinked → (c : Content) (story : Story) (receiver : ℕ) (run : Run) → IsRunOf c story receiver run
    → AllByRecursion (λ track. FreezesAfterFull c run.standing.position run.standing.stamp track (told_by c (of_sub track.feed.sub run.done))) run.standing.tracks
freezes laws c story receiver run of =
    all_weaker (LinkedIn c story receiver run.standing.position run.standing.stamp run.done) (λ (track : Track). FreezesAfterFull c run.standing.position run.standing.stamp track (told_by c (of_sub track.feed.sub run.done))) run.standing.tracks
    (λ track h. freezes_after_full c story receiver run.standing.position run.standing.stamp track (told_by c (of_sub track.feed.sub run.done)) h) (linked_run laws c story receiver run of).linked

pub suspension_told : RunsAreLinked → (c : Content) (story : Story) (receiver : ℕ) (run : Run) → IsRunOf c story receiver run → (sub : ℕ) (before : List Attempt) (a : Attempt) → IsAttemptOf run sub before a → a.made.body ≡ Notice Suspended → HasEightFull before
suspension_told laws c story receiver run of sub before a is e =
    eight_told c before (subst (λ (body : Body). ComesAfter (told_by c before) body) e (follows laws c story receiver run of sub before a is).after)

marked_after : (t : Told) (body : Body) → ComesAfter t body → is_incomplete_update body ≡ true → t.met_full ≡ true
marked_after t (All rows) h e = absurd (true≢false (sym e))
marked_after t (Edits edits) h e = absurd (true≢false (sym e))
marked_after t (Marked edits) h e = h
marked_after t (Notice item) h e = absurd (true≢false (sym e))

pub incomplete_told : RunsAreLinked → (c : Content) (story : Story) (receiver : ℕ) (run : Run) → IsRunOf c story receiver run → (sub : ℕ) (before : List Attempt) (a : Attempt) → IsAttemptOf run sub before a → is_incomplete_update a.made.body ≡ true → HasFull before
incomplete_told laws c story receiver run of sub before a is e = full_told c before (marked_after (told_by c before) a.made.body (follows laws c story receiver run of sub before a is).after e)

full_before : (c : Content) (story : Story) (sub : ℕ) (t : Told) (position at : ℕ) (body : Body) (stamp : ℕ) (answer : Answer) → IsAnswered c story sub t position at body stamp answer → is_taken answer ≡ false → IsLessThan t.last_full stamp
full_before c story sub t position at body stamp Took h e = absurd (true≢false e)
full_before c story sub t position at body stamp Full h e = h

pub stamps_rise : RunsAreLinked → (c : Content) (story : Story) (receiver : ℕ) (run : Run) → IsRunOf c story receiver run → (sub : ℕ) (before : List Attempt) (a : Attempt) → IsAttemptOf run sub before a → is_taken a.answer ≡ false → IsLessThan (told_by c before).last_full a.stamp
stamps_rise laws c story receiver run of sub before a is e =
    full_before c story sub (told_by c before) a.made.position a.at a.made.body a.stamp a.answer (follows laws c story receiver run of sub before a is).answer e

-- ---- what is still to come

pub awaits_incomplete : (c : Content) (before : List Attempt) (a : Attempt) → is_taken a.answer ≡ true → is_incomplete_update a.made.body ≡ true → (told_by c (before ++ a ∷ [])).awaits ≡ true
awaits_incomplete c before a taken marked =
    ap (λ (t : Told). t.awaits) (heard_last c told_nothing before a) ∙ incomplete_awaits c (told_by c before) a.made.position a.made.body a.stamp a.answer taken marked

pub awaits_further : (c : Content) (before : List Attempt) (a : Attempt) → is_full_update a.made.body ≡ false → (told_by c before).awaits ≡ true → (told_by c (before ++ a ∷ [])).awaits ≡ true
awaits_further c before a whole awaits =
    ap (λ (t : Told). t.awaits) (heard_last c told_nothing before a) ∙ awaits_until c (told_by c before) a.made.position a.made.body a.stamp a.answer whole awaits

heard_on : (c : Content) (t : Told) (before more : List Attempt) → heard_all c t (before ++ more) ≡ heard_all c (heard_all c t before) more
heard_on c t [] more = refl
heard_on c t (a ∷ before) more = heard_on c (heard c t a) before more

pub awaits_eight : (c : Content) (before : List Attempt) (fulls : List Attempt) → length fulls ≡ 8 → AllByRecursion (λ a. is_taken a.answer ≡ false) fulls → (told_by c (before ++ fulls)).awaits ≡ true
awaits_eight c before [] eight full = let no_way : ⊥ = omega (arith, eight) in absurd no_way
awaits_eight c before (a ∷ fulls) eight full =
    let enough : 8 ≤ (told_by c before).fulls + length (a ∷ fulls) = omega (arith, eight) in
    ap (λ (t : Told). t.awaits) (heard_on c told_nothing before (a ∷ fulls)) ∙ eight_await c (told_by c before) a fulls full enough
