-- A turn: what receivers take by its command, and the run once it is taken.
use Rattle.std.proofs.Common.{◌≡◌, ℕ, zero, suc, ◌+◌, ◌<◌, ◌==◌, Bool, true, false, List, [], ◌∷◌, ◌++◌, length, drop, get_or, slice_set, Some, refl, sym, ap, ◌∙◌, arith}
use Rattle.std.specs.Prelude.{if◌then◌else◌}
use Rattle.std.specs.List.{slice_get}
use Rattle.std.proofs.lemmas.List.{append_assoc, drop_more, length-map, map-append}
use Rattle.yp_schema.specs.declared.schema.SchemaNode.{SchemaNode}
use Rattle.yp_schema.specs.WellFormed.{IsSchema}
use Rattle.yp_journal.specs.declared.command.Command.{Command}
use Rattle.yp_journal.specs.declared.command.Command.TheVariants.{Take}
use Rattle.yp_journal.specs.declared.entry.Entry.{Entry}
use Rattle.yp_journal.specs.declared.receiver.ReceiverInfo.{ReceiverInfo}
use Rattle.yp_journal.specs.History.{first_state, state_of, IsLegal, JournalState}
use Rattle.yp_attempt.specs.Attempts.{answers_in}
use Rattle.yp_serial.specs.Serial.{Served}
use Rattle.yp_worker.specs.declared.worker.Worker.{Worker}
use Rattle.yp_worker.specs.Workers.{IsWorkerOf}
use Rattle.yp_promise.specs.Posts.{HavePosts}
use Rattle.yp_promise.specs.Serving.{IsServing, all_numbers, run_entered, run_of, taken_by}
use Rattle.yp_report.specs.declared.replied.Replied.{Replied}
use Rattle.yp_report.specs.Replies.{replied_of}
use Rattle.yp_live.specs.declared.run.Run.{Run}
use Rattle.yp_live.specs.Desks.{DeskState, desk_at, desk_took, desks_at}
use Rattle.yp_live.specs.Runs.{IsOnItsWay, IsRun, IsThrough, desks_took}
use Rattle.yp_live.proofs.Desks.{desks_length}
use Rattle.yp_live.proofs.Running.{Positions, desks_taken}
use Rattle.yp_live.proofs.Taking.{took_none}

-- ---- takes

-- a command by which none takes anything
pub none_took : (command : Command) → ((n : ℕ) → taken_by command n ≡ 0) → (number : ℕ) (desks : List DeskState) → desks ≡ desks_took command number desks
none_took command none number [] = refl
none_took command none number (desk ∷ desks) = λ i. (sym (took_none desk) ∙ ap (λ (count : ℕ). desk_took count desk) (sym (none number))) i ∷ none_took command none (number + 1) desks i

took_by : (receiver count number : ℕ) (b : Bool) (desk : DeskState) → (receiver == number) ≡ b → desk_took (if b then count else 0) desk ≡ desk_took (taken_by (Take receiver count) number) desk
took_by receiver count number b desk e = ap (λ (x : Bool). desk_took (if x then count else 0) desk) (sym e)

later_none : (receiver count number : ℕ) (desks : List DeskState) → receiver < number → desks ≡ desks_took (Take receiver count) number desks
later_none receiver count number [] past = refl
later_none receiver count number (desk ∷ desks) past =
    let other : (receiver == number) ≡ false = grind (arith, past) in
    λ i. (sym (took_none desk) ∙ took_by receiver count number false desk other) i ∷ later_none receiver count (number + 1) desks (omega (arith, past)) i

-- one receiver takes packets
pub one_took : (receiver count number place : ℕ) (desks : List DeskState) (d : DeskState) → receiver ≡ number + place → place < length desks
    → slice_set desks place (desk_took count (get_or desks place d)) ≡ desks_took (Take receiver count) number desks
one_took receiver count number place [] d is less = absurd (omega (arith, less))
one_took receiver count number zero (desk ∷ desks) d is less =
    let mine : (receiver == number) ≡ true = grind (arith, is) in
    λ i. took_by receiver count number true desk mine i ∷ later_none receiver count (number + 1) desks (omega (arith, is)) i
one_took receiver count number (suc place) (desk ∷ desks) d is less =
    let other : (receiver == number) ≡ false = grind (arith, is) in
    λ i. (sym (took_none desk) ∙ took_by receiver count number false desk other) i ∷ one_took receiver count (number + 1) place desks d (omega (arith, is)) (omega (arith, less)) i

-- where there is one, its number is below their count
pub number_below : {X : Type 0} (xs : List X) (number : ℕ) (x : X) → slice_get xs number ≡ Some x → number < length xs
number_below [] number x there = absurd cc
number_below (y ∷ xs) zero x there = omega arith
number_below (y ∷ xs) (suc number) x there = let less = number_below xs number x there in omega (arith, less)

-- ---- a run

abbrev pub Enters : Type 0
Enters = (nodes : List SchemaNode) (receivers : List ReceiverInfo) (entries : List Entry) (entry : Entry)
    → IsSchema nodes → IsLegal nodes (first_state receivers) (entries ++ entry ∷ []) → IsServing nodes receivers (entries ++ entry ∷ []) (run_entered nodes receivers entries entry)

abbrev pub PostsOfRun : Type 0
PostsOfRun = (nodes : List SchemaNode) (receivers : List ReceiverInfo) (entries : List Entry) → HavePosts receivers (run_of nodes receivers entries)

abbrev pub PostsEnter : Type 0
PostsEnter = (nodes : List SchemaNode) (receivers : List ReceiverInfo) (entries : List Entry) (entry : Entry) → HavePosts receivers (run_entered nodes receivers entries entry)

-- there is a desk for each receiver
pub run_length : (nodes : List SchemaNode) (start : ℕ) (receivers : List ReceiverInfo) (entries : List Entry) (run : Run) → IsRun nodes start receivers entries run → length receivers ≡ length run.desks.items
run_length nodes start receivers entries run is = sym (ap (λ (desks : List DeskState). length desks) is.desks ∙ desks_length nodes start (run_of nodes receivers entries) 0 receivers)

-- the position is the number of replies
pub run_position : Positions → (nodes : List SchemaNode) (start : ℕ) (receivers : List ReceiverInfo) (entries : List Entry) (run : Run) → IsRun nodes start receivers entries run → run.worker.state.position ≡ length run.replies.items
run_position positions nodes start receivers entries run is =
    let there : run.worker.state.position ≡ (state_of nodes (first_state receivers) entries).position = ap (λ (s : JournalState). s.position) is.worker.followed.state in
    let count : (state_of nodes (first_state receivers) entries).position ≡ 0 + length entries = positions nodes (first_state receivers) entries in
    let replies : length run.replies.items ≡ length entries = ap (λ (those : List Replied). length those) is.replies ∙ length-map entries replied_of in
    omega (arith, there, count, replies)

-- a run that took an entry, before its offers
pub entered : Enters → PostsOfRun → PostsEnter → (nodes : List SchemaNode) (start : ℕ) (receivers : List ReceiverInfo) (entries : List Entry) (entry : Entry) (run : Run) (worker : Worker) (desks : List DeskState) → IsRun nodes start receivers entries run
    → desks ≡ desks_took entry.command 0 run.desks.items → IsWorkerOf nodes start receivers (all_numbers receivers) (entries ++ entry ∷ []) (answers_in (run_of nodes receivers entries).run.done) worker
    → IsOnItsWay nodes start receivers (entries ++ entry ∷ []) (run_entered nodes receivers entries entry) worker desks
entered enters posts posts_enter nodes start receivers entries entry run worker desks is took stands = record {
  serving = enters nodes receivers entries entry stands.followed.schema stands.followed.legal;
  posts = posts_enter nodes receivers entries entry;
  stands = stands;
  are = took ∙ (ap (λ (those : List DeskState). desks_took entry.command 0 those) is.desks ∙ desks_taken nodes start receivers entries entry (posts nodes receivers entries) 0 receivers);
}

-- and after them
pub turned : (nodes : List SchemaNode) (start : ℕ) (receivers : List ReceiverInfo) (entries : List Entry) (entry : Entry) (before after : Run) → IsRun nodes start receivers entries before
    → IsThrough nodes start receivers (entries ++ entry ∷ []) after.worker after.desks.items → after.replies.items ≡ before.replies.items ++ replied_of entry ∷ [] → IsRun nodes start receivers (entries ++ entry ∷ []) after
turned nodes start receivers entries entry before after is through replies = record {
  worker = through.idle;
  replies = replies ∙ (ap (λ (those : List Replied). those ++ replied_of entry ∷ []) is.replies ∙ sym (map-append replied_of entries (entry ∷ [])));
  desks = through.are;
}

-- ---- the desks at first

-- the next receiver of those that are left
pub next_receiver : (receivers : List ReceiverInfo) (index : ℕ) (receiver : ReceiverInfo) → index < length receivers → receiver ≡ get_or receivers index receiver → drop index receivers ≡ receiver ∷ drop (index + 1) receivers
next_receiver receivers index receiver low is = drop_more receivers index receiver low ∙ ap (λ (one : ReceiverInfo). one ∷ drop (index + 1) receivers) (sym is)

-- its desk is added
pub one_desk : (nodes : List SchemaNode) (start : ℕ) (served : Served) (receivers : List ReceiverInfo) (index : ℕ) (receiver : ReceiverInfo) (desks more all : List DeskState) (desk : DeskState)
    → drop index receivers ≡ receiver ∷ drop (index + 1) receivers → desk ≡ desk_at nodes start served index receiver → more ≡ desks ++ desk ∷ []
    → desks ++ desks_at nodes start served index (drop index receivers) ≡ all → more ++ desks_at nodes start served (index + 1) (drop (index + 1) receivers) ≡ all
one_desk nodes start served receivers index receiver desks more all desk next is pushed before =
    let rest : List DeskState = desks_at nodes start served (index + 1) (drop (index + 1) receivers) in
    ap (λ (those : List DeskState). those ++ rest) pushed ∙ (append_assoc desks (desk ∷ []) rest
    ∙ (ap (λ (one : DeskState). desks ++ one ∷ rest) is
    ∙ (ap (λ (those : List ReceiverInfo). desks ++ desks_at nodes start served index those) (sym next) ∙ before)))
