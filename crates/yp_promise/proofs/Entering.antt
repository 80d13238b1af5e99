-- A serial run goes on entry by entry: what receivers take by the entries of a journal is the same where one entry more comes after them.
use Rattle.std.proofs.Common.{◌≡◌, ℕ, zero, suc, ◌+◌, ◌<◌, ◌≤◌, refl, ap, subst, ◌∙◌, List, [], ◌∷◌, ◌++◌, length, Option, Some, None, arith}
use Rattle.std.specs.List.{slice_get}
use Rattle.yp_schema.specs.declared.schema.SchemaNode.{SchemaNode}
use Rattle.yp_journal.specs.declared.entry.Entry.{Entry}
use Rattle.yp_journal.specs.declared.receiver.ReceiverInfo.{ReceiverInfo}
use Rattle.yp_journal.specs.History.{first_state, state_of}
use Rattle.yp_attempt.specs.Content.{Content}
use Rattle.yp_attempt.specs.Moments.{Moment}
use Rattle.yp_attempt.specs.Runs.{Found, run_advanced, waits}
use Rattle.yp_serial.specs.Posts.{Queueing, after_take}
use Rattle.yp_serial.specs.Serial.{Served, Taking, first_served, served_advanced, served_settled, while_offered, offers_on, all_offered, serial, serial_run}
use Rattle.yp_serial.specs.Weights.{weights}
use Rattle.yp_moment.specs.Entries.{moment_of, moments_of}
use Rattle.yp_moment.specs.Windows.{recorded}
use Rattle.yp_moment.specs.MomentLaws.{moments_count}
use Rattle.yp_promise.specs.Serving.{all_numbers, queueing_of, run_entered, run_of, taken_by, taken_in, taking_of}

-- ---- positions

-- offers leave the position
offered_by : (c : Content) (q : Queueing) (k : ℕ) (served : Served) (o : Option Found) → ((next : Served) → (offers_on c q k next).run.standing.position ≡ next.run.standing.position)
    → (while_offered o served (λ found. offers_on c q k (served_settled c q found served))).run.standing.position ≡ served.run.standing.position
offered_by c q k served None f = refl
offered_by c q k served (Some found) f = f (served_settled c q found served)

offered_there : (c : Content) (q : Queueing) (k : ℕ) (served : Served) → (offers_on c q k served).run.standing.position ≡ served.run.standing.position
offered_there c q zero served = refl
offered_there c q (suc k) served = offered_by c q k served (waits c served.run) (λ next. offered_there c q k next)

-- so by each entry the position is one further
entered_there : (c : Content) (receivers : List ℕ) (q : Queueing) (takes : Taking) (m : Moment) (served : Served) → (all_offered c q (served_advanced c receivers takes m served)).run.standing.position ≡ served.run.standing.position + 1
entered_there c receivers q takes m served =
    let next : Served = served_advanced c receivers takes m served in
    offered_there c q (weights c next.run.standing.stamp next.run.standing.tracks) next

serial_position : (c : Content) (receivers : List ℕ) (q : Queueing) (takes : Taking) (served : Served) (moments : List Moment) → (serial c receivers q takes served moments).run.standing.position ≡ served.run.standing.position + length moments
serial_position c receivers q takes served [] = omega arith
serial_position c receivers q takes served (m ∷ moments) =
    let next : Served = all_offered c q (served_advanced c receivers takes m served) in
    let one : next.run.standing.position ≡ served.run.standing.position + 1 = entered_there c receivers q takes m served in
    let rest : (serial c receivers q takes next moments).run.standing.position ≡ next.run.standing.position + length moments = serial_position c receivers q takes next moments in
    omega (arith, one, rest)

pub count_moments : (nodes : List SchemaNode) (receivers : List ReceiverInfo) (entries : List Entry) → length (moments_of nodes receivers entries) ≡ length entries
count_moments nodes receivers entries = moments_count nodes (first_state receivers) entries

pub run_position : (nodes : List SchemaNode) (receivers : List ReceiverInfo) (entries : List Entry) → (run_of nodes receivers entries).run.standing.position ≡ length entries
run_position nodes receivers entries =
    let there : (run_of nodes receivers entries).run.standing.position ≡ 0 + length (moments_of nodes receivers entries) = serial_position recorded (all_numbers receivers) (queueing_of receivers) (taking_of entries) first_served (moments_of nodes receivers entries) in
    let count : length (moments_of nodes receivers entries) ≡ length entries = count_moments nodes receivers entries in
    omega (arith, there, count)

-- ---- takes

-- one entry further, where receivers take the same by it
advanced_same : (c : Content) (receivers : List ℕ) (takes others : Taking) (m : Moment) (served : Served) → ((receiver : ℕ) → takes (served.run.standing.position + 1) receiver ≡ others (served.run.standing.position + 1) receiver)
    → served_advanced c receivers takes m served ≡ served_advanced c receivers others m served
advanced_same c receivers takes others m served same = λ i. record { run = run_advanced c receivers m served.run; posts = λ receiver. after_take (same receiver i) (served.posts receiver) }

-- the same of entries, where receivers take the same by each
serial_same : (c : Content) (receivers : List ℕ) (q : Queueing) (takes others : Taking) (served : Served) (moments : List Moment)
    → ((n receiver : ℕ) → served.run.standing.position < n → n ≤ served.run.standing.position + length moments → takes n receiver ≡ others n receiver)
    → serial c receivers q takes served moments ≡ serial c receivers q others served moments
serial_same c receivers q takes others served [] same = refl
serial_same c receivers q takes others served (m ∷ moments) same =
    let next : Served = all_offered c q (served_advanced c receivers others m served) in
    let there : next.run.standing.position ≡ served.run.standing.position + 1 = entered_there c receivers q others m served in
    ap (λ (s : Served). serial c receivers q takes (all_offered c q s) moments)
    (advanced_same c receivers takes others m served (λ receiver. same (served.run.standing.position + 1) receiver (omega arith) (omega arith)))
    ∙ serial_same c receivers q takes others next moments (λ n receiver past within. same n receiver (omega (arith, there, past)) (omega (arith, there, within)))

-- ---- takes of entries

get_before : (entries more : List Entry) (k : ℕ) → k < length entries → slice_get (entries ++ more) k ≡ slice_get entries k
get_before [] more k within = absurd (omega (arith, within))
get_before (entry ∷ entries) more zero within = refl
get_before (entry ∷ entries) more (suc k) within = get_before entries more k (omega (arith, within))

get_last : (entries : List Entry) (entry : Entry) → slice_get (entries ++ entry ∷ []) (length entries) ≡ Some entry
get_last [] entry = refl
get_last (first ∷ entries) entry = get_last entries entry

-- by the entries of a journal receivers take the same if there is one more
taking_before : (entries : List Entry) (entry : Entry) (n receiver : ℕ) → 0 < n → n ≤ length entries → taking_of (entries ++ entry ∷ []) n receiver ≡ taking_of entries n receiver
taking_before entries entry zero receiver past within = absurd (omega (arith, past))
taking_before entries entry (suc k) receiver past within = ap (λ (o : Option Entry). taken_in o receiver) (get_before entries (entry ∷ []) k (omega (arith, within)))

-- and by that one what its command takes
taking_last : (entries : List Entry) (entry : Entry) (receiver : ℕ) → taking_of (entries ++ entry ∷ []) (length entries + 1) receiver ≡ taken_by entry.command receiver
taking_last entries entry receiver =
    let next : suc (length entries) ≡ length entries + 1 = omega arith in
    subst (λ (n : ℕ). taking_of (entries ++ entry ∷ []) n receiver ≡ taken_by entry.command receiver) next (ap (λ (o : Option Entry). taken_in o receiver) (get_last entries entry))

-- ---- the run of a journal

-- the laws that are rested on: a serial run goes on by one entry more, and one entry more is one moment more
abbrev pub RunsGoOn : Type 0
RunsGoOn = (c : Content) (receivers : List ℕ) (q : Queueing) (takes : Taking) (journal : List Moment) (m : Moment)
    → serial_run c receivers q takes (journal ++ m ∷ []) ≡ all_offered c q (served_advanced c receivers takes m (serial_run c receivers q takes journal))

abbrev pub MomentsGoOn : Type 0
MomentsGoOn = (nodes : List SchemaNode) (receivers : List ReceiverInfo) (entries : List Entry) (entry : Entry)
    → moments_of nodes receivers (entries ++ entry ∷ []) ≡ moments_of nodes receivers entries ++ moment_of nodes (state_of nodes (first_state receivers) entries) entry ∷ []

pub run_more : RunsGoOn → MomentsGoOn → (nodes : List SchemaNode) (receivers : List ReceiverInfo) (entries : List Entry) (entry : Entry)
    → run_of nodes receivers (entries ++ entry ∷ []) ≡ all_offered recorded (queueing_of receivers) (run_entered nodes receivers entries entry)
run_more runs moments nodes receivers entries entry =
    let numbers : List ℕ = all_numbers receivers in
    let q : Queueing = queueing_of receivers in
    let takes : Taking = taking_of (entries ++ entry ∷ []) in
    let journal : List Moment = moments_of nodes receivers entries in
    let m : Moment = moment_of nodes (state_of nodes (first_state receivers) entries) entry in
    let count : length journal ≡ length entries = count_moments nodes receivers entries in
    let there : (run_of nodes receivers entries).run.standing.position ≡ length entries = run_position nodes receivers entries in
    let before : serial_run recorded numbers q takes journal ≡ run_of nodes receivers entries =
    serial_same recorded numbers q takes (taking_of entries) first_served journal (λ n receiver past within. taking_before entries entry n receiver past (omega (arith, count, within))) in
    ap (λ (ms : List Moment). serial_run recorded numbers q takes ms) (moments nodes receivers entries entry)
    ∙ runs recorded numbers q takes journal m
    ∙ ap (λ (s : Served). all_offered recorded q (served_advanced recorded numbers takes m s)) before
    ∙ ap (λ (s : Served). all_offered recorded q s)
    (advanced_same recorded numbers takes (λ n number. taken_by entry.command number) m (run_of nodes receivers entries)
    (λ receiver. ap (λ (n : ℕ). takes (n + 1) receiver) there ∙ taking_last entries entry receiver))
