-- What is told of listeners is what the report tells of what workers did.
use Rattle.std.proofs.Common.{◌≡◌, ℕ, zero, suc, ◌+◌, ◌<◌, ◌%◌, cond, List, [], ◌∷◌, ◌++◌, length, get_or, map, slice_set, refl, sym, ap, subst, ◌∙◌, append-nil, append_assoc, arith}
use Rattle.std.specs.Prelude.{Result, Ok, Err, IfOk, OnOk}
use Rattle.std.specs.List.{AllByRecursion, flat_map, slice_get}
use Rattle.std.specs.Global.{Vec}
use Rattle.std.proofs.lemmas.List.{flat_map_more}
use Rattle.std.proofs.lemmas.List.Sums.{sum_by-cons}
use Rattle.yp_base.specs.declared.row.Row.{Row}
use Rattle.yp_schema.specs.declared.schema.SchemaNode.{SchemaNode}
use Rattle.yp_journal.specs.declared.entry.Entry.{Entry}
use Rattle.yp_journal.specs.declared.receiver.ReceiverInfo.{ReceiverInfo}
use Rattle.yp_attempt.specs.Attempts.{Notification, if_taken, notification_of, of_receiver, taken_of}
use Rattle.yp_attempt.specs.Runs.{Run}
use Rattle.yp_attempt.specs.Tracks.{Answer, Took, Full, Attempt}
use Rattle.yp_worker.specs.Packets.{packet_of}
use Rattle.yp_crews.specs.declared.crew.Crew.{Crew}
use Rattle.yp_crews.specs.Crews.{AreCrews}
use Rattle.yp_hearing.specs.Hearing.{line_for}
use Rattle.yp_listeners.specs.declared.listener.Listener.{Listener}
use Rattle.yp_listeners.specs.Listeners.{IsListenerOf}
use Rattle.yp_offer_log.specs.declared.logged.Logged.{Logged}
use Rattle.yp_offer_log.specs.Logs.{log_text, logged, logged_by}
use Rattle.yp_promise.specs.Received.{CanBeShown}
use Rattle.yp_promise.specs.Shown.{shown_of}
use Rattle.yp_receiver.specs.Held.{lines_heard}
use Rattle.yp_report.specs.Report.{receiver_text, shown_text, tree_text}
use Rattle.yp_concurrent.specs.Report.{done_by, done_for, got_beside, offered_beside, report_beside, reports_beside}
use Rattle.yp_concurrent.specs.Texts.{HaveLogs, count_lines, is_line, listener_text}

-- ---- one log

-- a log has a line for each attempt that was accepted
lines_counted : (nodes : List SchemaNode) (start : ℕ) (attempts : List Attempt) → count_lines (map (logged nodes start) attempts) ≡ length (taken_of attempts)
lines_counted nodes start [] = refl
lines_counted nodes start (a ∷ attempts) = by a.answer (lines_counted nodes start attempts)
  where
    by : (answer : Answer) → count_lines (map (logged nodes start) attempts) ≡ length (taken_of attempts)
        → count_lines (logged_by answer nodes start a ∷ map (logged nodes start) attempts) ≡ length (if_taken answer (notification_of a) (taken_of attempts))
    by Took later =
        let cons : count_lines (logged_by Took nodes start a ∷ map (logged nodes start) attempts) ≡ 1 + count_lines (map (logged nodes start) attempts) =
        sum_by-cons (λ (l : Logged). cond (is_line l) 1 0) (logged_by Took nodes start a) (map (logged nodes start) attempts) in
        omega (arith, cons, later)
    by Full later =
        let cons : count_lines (logged_by Full nodes start a ∷ map (logged nodes start) attempts) ≡ 0 + count_lines (map (logged nodes start) attempts) =
        sum_by-cons (λ (l : Logged). cond (is_line l) 1 0) (logged_by Full nodes start a) (map (logged nodes start) attempts) in
        omega (arith, cons, later)

-- what a law says of the lines of a log
abbrev pub LogLaw : Type 0
LogLaw = (nodes : List SchemaNode) (start : ℕ) (name : List ℕ) (attempts : List Attempt) (taken : ℕ)
    → flat_map (shown_text nodes start name) (shown_of taken attempts) ≡ log_text name taken (map (logged nodes start) attempts)

module _ (nodes : List SchemaNode) (start : ℕ) where
  -- the lines of a listener are those of its receiver
  listener_told : LogLaw → (name : List ℕ) (offered : List Attempt) (log : List Logged) (heard trees : List (ℕ × List Row)) → log ≡ map (logged nodes start) offered → heard ≡ trees
      → log_text name (count_lines log) log ++ flat_map (tree_text nodes name) heard ≡ flat_map (shown_text nodes start name) (shown_of (length (taken_of offered)) offered) ++ flat_map (tree_text nodes name) trees
  listener_told laws name offered log heard trees log_is heard_is =
      (λ i. log_text name (count_lines (log_is i)) (log_is i) ++ flat_map (tree_text nodes name) (heard_is i))
      ∙ (λ i. (ap (λ (n : ℕ). log_text name n (map (logged nodes start) offered)) (lines_counted nodes start offered) ∙ sym (laws nodes start name offered (length (taken_of offered)))) i ++ flat_map (tree_text nodes name) trees)

  pub told : LogLaw → (runs : List Run) (number : ℕ) (receiver : ReceiverInfo) (listener : Listener) → listener.receiver ≡ number → IsListenerOf nodes start (done_for number runs) listener
      → listener_text nodes receiver.name listener ≡ receiver_text nodes start (report_beside nodes start runs number receiver)
  told laws runs number receiver listener its is =
      listener_told laws receiver.name (offered_beside number runs) listener.log.items listener.heard (lines_heard nodes [] (map (line_for nodes start) (got_beside number runs)))
      (is.log ∙ ap (λ (n : ℕ). map (logged nodes start) (of_receiver n (done_for number runs))) its)
      (is.heard ∙ ap (λ (n : ℕ). lines_heard nodes [] (map (line_for nodes start) (taken_of (of_receiver n (done_for number runs))))) its)

  -- ---- the listeners of workers

  pub logs_count : (runs : List Run) (listeners : List (Vec Listener)) → HaveLogs nodes start runs listeners → length listeners ≡ length runs
  logs_count [] [] have = refl
  logs_count [] (one ∷ listeners) have = absurd have
  logs_count (run ∷ runs) [] have = absurd have
  logs_count (run ∷ runs) (one ∷ listeners) have = ap suc (logs_count runs listeners have.1)

  -- those at one place
  logs_at : (runs : List Run) (listeners : List (Vec Listener)) (place : ℕ) (d : Vec Listener) → place < length listeners → HaveLogs nodes start runs listeners
      → AllByRecursion (IsListenerOf nodes start (done_by (slice_get runs place))) (get_or listeners place d).items
  logs_at runs [] place d below have = absurd (omega (arith, below))
  logs_at [] (one ∷ listeners) place d below have = absurd have
  logs_at (run ∷ runs) (one ∷ listeners) zero d below have = have.0
  logs_at (run ∷ runs) (one ∷ listeners) (suc place) d below have = logs_at runs listeners place d (omega (arith, below)) have.1

  logs_set : (runs : List Run) (listeners : List (Vec Listener)) (place : ℕ) (after : Vec Listener) → AllByRecursion (IsListenerOf nodes start (done_by (slice_get runs place))) after.items → HaveLogs nodes start runs listeners
      → HaveLogs nodes start runs (slice_set listeners place after)
  logs_set [] [] place after all have = have
  logs_set [] (one ∷ listeners) place after all have = absurd have
  logs_set (run ∷ runs) [] place after all have = absurd have
  logs_set (run ∷ runs) (one ∷ listeners) zero after all have = (all, have.1)
  logs_set (run ∷ runs) (one ∷ listeners) (suc place) after all have = (have.0, logs_set runs listeners place after all have.1)

  -- the first at the place of a receiver's worker is taken out
  module _ (runs : List Run) (listeners : List (Vec Listener)) (number place : ℕ) (d after : Vec Listener) (listener : Listener) (below : place < length listeners) (is : place ≡ number % length listeners)
      (cut : (get_or listeners place d).items ≡ listener ∷ after.items) (have : HaveLogs nodes start runs listeners) where
    there : AllByRecursion (IsListenerOf nodes start (done_by (slice_get runs place))) (listener ∷ after.items)
    there = subst (AllByRecursion (IsListenerOf nodes start (done_by (slice_get runs place)))) cut (logs_at runs listeners place d below have)

    pub logs_left : HaveLogs nodes start runs (slice_set listeners place after)
    logs_left = logs_set runs listeners place after there.1 have

    pub log_taken : IsListenerOf nodes start (done_for number runs) listener
    log_taken =
        subst (λ (n : ℕ). IsListenerOf nodes start (done_by (slice_get runs n)) listener) (is ∙ ap (λ (n : ℕ). number % n) (logs_count runs listeners have)) there.0

-- what follows where something was taken
pub ok_left : {X E : Type 0} {C : Type 0} (r : Result X E) (A : X → Type 0) → IfOk r A → ((x : X) → A x → C) → OnOk r C
ok_left (Ok x) A a f = f x a
ok_left (Err e) A a f = tt

-- those of crews that have served their receivers
pub crews_have : (nodes : List SchemaNode) (start : ℕ) (receivers : List ReceiverInfo) (workers worker : ℕ) (entries : List Entry) (runs : List Run) (crews : List Crew) → AreCrews nodes start receivers workers worker entries runs crews
    → HaveLogs nodes start runs (map (λ (crew : Crew). crew.listeners) crews)
crews_have nodes start receivers workers worker entries [] [] are = tt
crews_have nodes start receivers workers worker entries [] (crew ∷ crews) are = absurd are
crews_have nodes start receivers workers worker entries (run ∷ runs) [] are = absurd are
crews_have nodes start receivers workers worker entries (run ∷ runs) (crew ∷ crews) are = (are.0.served.each, crews_have nodes start receivers workers (worker + 1) entries runs crews are.1)

-- what a law says of what receivers of lines hold
abbrev pub HeldLaw : Type 0
HeldLaw = (nodes : List SchemaNode) (lines : List (List ℕ)) → CanBeShown nodes (lines_heard nodes [] lines)

pub can_be_shown : HeldLaw → (nodes : List SchemaNode) (start : ℕ) (done : List Attempt) (listener : Listener) → IsListenerOf nodes start done listener → CanBeShown nodes listener.heard
can_be_shown held nodes start done listener is = subst (CanBeShown nodes) (sym is.heard) (held nodes (map (λ (n : Notification). (packet_of nodes start n.sub n.made).line) (taken_of (of_receiver listener.receiver done))))

-- ---- the text

-- the lines of one receiver more, of those that are left
pub one_told : {X : Type 0} (bytes : X → List ℕ) (nodes : List SchemaNode) (start : ℕ) (runs : List Run) (number : ℕ) (receiver : ReceiverInfo) (rest left : List ReceiverInfo) (before after : List X) (one : X) (all : List ℕ)
    → left ≡ receiver ∷ rest → bytes one ≡ receiver_text nodes start (report_beside nodes start runs number receiver) → after ≡ before ++ one ∷ []
    → flat_map bytes before ++ flat_map (receiver_text nodes start) (reports_beside nodes start runs number left) ≡ all
    → flat_map bytes after ++ flat_map (receiver_text nodes start) (reports_beside nodes start runs (number + 1) rest) ≡ all
one_told {X} bytes nodes start runs number receiver rest left before after one all cut is pushed so_far =
    let done : List ℕ = flat_map bytes before in
    let more : List ℕ = flat_map (receiver_text nodes start) (reports_beside nodes start runs (number + 1) rest) in
    ap (λ (those : List X). flat_map bytes those ++ more) pushed
    ∙ (ap (λ (text : List ℕ). text ++ more) (sym (flat_map_more bytes [] before one))
    ∙ (append_assoc done (bytes one) more
    ∙ (ap (λ (text : List ℕ). done ++ (text ++ more)) is
    ∙ (ap (λ (those : List ReceiverInfo). done ++ flat_map (receiver_text nodes start) (reports_beside nodes start runs number those)) (sym cut) ∙ so_far))))

-- three parts, one after another
pub parts_joined : {X : Type 0} (bytes : X → List ℕ) (none first second third : List X) (one last : X) (a b c : List ℕ) → none ≡ [] → first ≡ none ++ one ∷ [] → bytes one ≡ a → flat_map bytes second ≡ flat_map bytes first ++ b
    → third ≡ second ++ last ∷ [] → bytes last ≡ c → flat_map bytes third ≡ a ++ (b ++ c)
parts_joined {X} bytes none first second third one last a b c empty pushed is more then end =
    let begun : flat_map bytes first ≡ a =
    ap (λ (those : List X). flat_map bytes those) (pushed ∙ ap (λ (those : List X). those ++ one ∷ []) empty) ∙ (append-nil (bytes one) ∙ is) in
    ap (λ (those : List X). flat_map bytes those) then
    ∙ (sym (flat_map_more bytes [] second last)
    ∙ ((λ i. (more ∙ ap (λ (text : List ℕ). text ++ b) begun) i ++ end i)
    ∙ append_assoc a b c))
