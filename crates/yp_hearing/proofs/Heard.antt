-- To hear the lines of notifications is to receive them.
use Rattle.std.proofs.Common.{append_assoc, ◌≡◌, ◌≤◌, ℕ, List, [], ◌∷◌, ◌++◌, map, Ok, refl, sym, ap, subst, ◌∙◌}
use Rattle.std.specs.List.{AllByRecursion}
use Rattle.yp_base.specs.declared.notice.Notice.{Notice}
use Rattle.yp_base.specs.declared.row.Row.{Row}
use Rattle.yp_schema.specs.declared.schema.SchemaNode.{SchemaNode}
use Rattle.yp_schema.specs.WellFormed.{IsSchema}
use Rattle.yp_time.specs.Instants.{IsStart, event_text}
use Rattle.yp_time.specs.Ticks.{tick_limit}
use Rattle.yp_encode.specs.Lines.{line_of}
use Rattle.yp_decode.specs.Grammar.{line_heard}
use Rattle.yp_attempt.specs.Attempts.{Notification}
use Rattle.yp_attempt.specs.ListLaws.{all_before, all_map}
use Rattle.yp_moment.specs.Notices.{notice_of}
use Rattle.yp_promise.specs.Received.{received}
use Rattle.yp_receiver.specs.Hearable.{HasReadableText, IsHearable, IsTold}
use Rattle.yp_receiver.specs.Held.{hears, lines_heard, notices_heard}
use Rattle.yp_hearing.specs.Hearing.{IsHeardAsMade, told_of, line_for}

all_received : (got : List Notification) (held : List (ℕ × List Row)) → notices_heard held (map (λ (each : ℕ × Notice). each.1) (map told_of got)) ≡ received held got
all_received [] held = refl
all_received (n ∷ got) held = all_received got (hears (notice_of n.sub n.made) held)

same_lines : (nodes : List SchemaNode) (start : ℕ) (got : List Notification) → map (λ (each : ℕ × Notice). line_of nodes start each.0 each.1) (map told_of got) ≡ map (line_for nodes start) got
same_lines nodes start [] = refl
same_lines nodes start (n ∷ got) = ap (λ (lines : List (List ℕ)). line_for nodes start n ∷ lines) (same_lines nodes start got)

pub all_told : (nodes : List SchemaNode) (got : List Notification) → AllByRecursion (λ n. IsTold nodes (told_of n)) got → AllByRecursion (IsTold nodes) (map told_of got)
all_told nodes got all = all_map (λ n. IsTold nodes (told_of n)) (IsTold nodes) told_of got (λ n is. is) all

-- what the law of lines says of lines that start at a second
abbrev LinesTell : List SchemaNode → ℕ → Type 0
LinesTell nodes start = (all : List (ℕ × Notice)) (held : List (ℕ × List Row)) → IsSchema nodes → IsStart start → AllByRecursion (IsTold nodes) all
    → lines_heard nodes held (map (λ each. line_of nodes start each.0 each.1) all) ≡ notices_heard held (map (λ each. each.1) all)

map_joined : (got later : List Notification) → map told_of (got ++ later) ≡ map told_of got ++ map told_of later
map_joined [] later = refl
map_joined (n ∷ got) later = ap (λ (all : List (ℕ × Notice)). told_of n ∷ all) (map_joined got later)

-- the lines of the first so many notifications that are told leave what these do
pub first_received : (nodes : List SchemaNode) (start : ℕ) (taken got later : List Notification) → LinesTell nodes start → IsSchema nodes → IsStart start → AllByRecursion (IsTold nodes) (map told_of taken) → taken ≡ got ++ later
    → lines_heard nodes [] (map (line_for nodes start) got) ≡ received [] got
first_received nodes start taken got later tells schema begins all is =
    let first : AllByRecursion (IsTold nodes) (map told_of got)
    = all_before (IsTold nodes) (map told_of got) (map told_of later) (subst (AllByRecursion (IsTold nodes)) (ap (map told_of) is ∙ map_joined got later) all) in
    ap (lines_heard nodes []) (sym (same_lines nodes start got)) ∙ tells (map told_of got) [] schema begins first ∙ all_received got []

-- what the law of one line says of lines that start at a second
abbrev LineIsHeard : List SchemaNode → ℕ → Type 0
LineIsHeard nodes start = (tick : ℕ) (notice : Notice) → IsSchema nodes → IsStart start → tick ≤ tick_limit → IsHearable nodes notice → HasReadableText nodes notice
    → line_heard nodes (line_of nodes start tick notice) ≡ Ok (record { time = event_text start tick; notice = notice })

each_heard : (nodes : List SchemaNode) (start : ℕ) (got : List Notification) → LineIsHeard nodes start → IsSchema nodes → IsStart start → AllByRecursion (IsTold nodes) (map told_of got) → AllByRecursion (IsHeardAsMade nodes start) got
each_heard nodes start [] heard schema begins all = tt
each_heard nodes start (n ∷ got) heard schema begins all =
    (heard n.made.tick (notice_of n.sub n.made) schema begins all.0.tick all.0.hearable all.0.text, each_heard nodes start got heard schema begins all.1)

-- the line of each of the first so many notifications that are told is heard as this one
pub first_heard : (nodes : List SchemaNode) (start : ℕ) (taken got later : List Notification) → LineIsHeard nodes start → IsSchema nodes → IsStart start → AllByRecursion (IsTold nodes) (map told_of taken) → taken ≡ got ++ later
    → AllByRecursion (IsHeardAsMade nodes start) got
first_heard nodes start taken got later heard schema begins all is =
    each_heard nodes start got heard schema begins (all_before (IsTold nodes) (map told_of got) (map told_of later) (subst (AllByRecursion (IsTold nodes)) (ap (map told_of) is ∙ map_joined got later) all))

-- what came before an update and this, and what came after it
pub parted : (taken got kept before : List Notification) (update : Notification) (after : List Notification) → taken ≡ got ++ kept → got ≡ before ++ update ∷ after → taken ≡ (before ++ update ∷ []) ++ (after ++ kept)
parted taken got kept before update after is parts =
    is ∙ ap (λ (ns : List Notification). ns ++ kept) parts ∙ append_assoc before (update ∷ after) kept ∙ sym (append_assoc before (update ∷ []) (after ++ kept))
