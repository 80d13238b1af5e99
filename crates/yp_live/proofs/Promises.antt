-- The report of a script's run tells of it, and can be written.
use Rattle.std.proofs.Common.{◌≡◌, ℕ, ◌<◌, ◌≤◌, ◌^◌, List, [], ◌∷◌, ◌++◌, length, map, Ok, sym, ap, ◌∙◌, subst, arith}
use Rattle.std.specs.Prelude.{codes}
use Rattle.std.specs.List.{AllByRecursion, flat_map}
use Rattle.std.proofs.lemmas.List.Elements.{recursion_from_All}
use Rattle.yp_schema.specs.declared.schema.SchemaNode.{SchemaNode}
use Rattle.yp_schema.specs.WellFormed.{IsSchema}
use Rattle.yp_time.specs.Instants.{IsStart}
use Rattle.yp_journal.specs.declared.entry.Entry.{Entry}
use Rattle.yp_journal.specs.declared.receiver.ReceiverInfo.{ReceiverInfo}
use Rattle.yp_journal.specs.History.{JournalState, first_state, IsLegal}
use Rattle.yp_script.specs.declared.script.Script.{Script}
use Rattle.yp_script.specs.Script.{AreReceivers, IsReceiver, count_commands, script_in}
use Rattle.yp_serial.specs.Serial.{Served}
use Rattle.yp_receiver.specs.Held.{lines_heard}
use Rattle.yp_promise.specs.Interleaving.{EachInterleavingServes, OneIsTheSerialRun}
use Rattle.yp_promise.specs.Posts.{HavePosts}
use Rattle.yp_promise.specs.Promise.{Serves}
use Rattle.yp_promise.specs.Received.{CanBeShown, received}
use Rattle.yp_promise.specs.Serving.{IsComplete, run_of}
use Rattle.yp_promise.specs.Shown.{got_by, offered_to}
use Rattle.yp_texts.specs.Commands.{CommandHasUtf8, ScriptHasUtf8}
use Rattle.yp_hearing.specs.Hearing.{CanBeTold, IsHeardAsMade, LinesMirror, line_for}
use Rattle.yp_hearing.specs.Interleaving.{EachInterleavingIsHeard}
use Rattle.yp_report.specs.Report.{reply_lines, reply_text}
use Rattle.yp_turns.specs.Journal.{IsJournalOf, turn_of}
use Rattle.yp_turns.specs.JournalLaws.{journal_has}
use Rattle.yp_turns.specs.Turns.{entries_from, journal_of}
use Rattle.yp_live.specs.declared.run.Run.{Run}
use Rattle.yp_live.specs.declared.script.Ran.{Ran}
use Rattle.yp_live.specs.Counts.{summary_from}
use Rattle.yp_live.specs.Promise.{IsServed, Sums, Tells}
use Rattle.yp_live.specs.Desks.{DeskState, desk_text, desks_at}
use Rattle.yp_live.specs.Runs.{IsRun, IsRunOf, CanBeWritten, text_from}
use Rattle.yp_live.proofs.CountLaws.{summary_is}
use Rattle.yp_live.proofs.Told.{ReportLaws, desks_told, desks_writable}

-- what laws say of the serial run of a legal journal
abbrev pub AreServed : Type 0
AreServed = (nodes : List SchemaNode) (receivers : List ReceiverInfo) (entries : List Entry) (receiver : ℕ)
    → IsSchema nodes → IsLegal nodes (first_state receivers) entries → receiver < length receivers
    → Serves nodes receivers entries receiver (offered_to receiver (run_of nodes receivers entries)) (got_by receiver (run_of nodes receivers entries))

-- what they say of every interleaving over one
abbrev pub AreInterleaved : Type 0
AreInterleaved = (nodes : List SchemaNode) (receivers : List ReceiverInfo) (entries : List Entry) → IsSchema nodes → IsLegal nodes (first_state receivers) entries → EachInterleavingServes nodes receivers entries

abbrev pub AreInterleavings : Type 0
AreInterleavings = (nodes : List SchemaNode) (receivers : List ReceiverInfo) (entries : List Entry) → IsSchema nodes → IsLegal nodes (first_state receivers) entries → OneIsTheSerialRun nodes receivers entries

abbrev pub AreShown : Type 0
AreShown = (nodes : List SchemaNode) (receivers : List ReceiverInfo) (entries : List Entry) (receiver : ℕ)
    → IsSchema nodes → IsLegal nodes (first_state receivers) entries → receiver < length receivers
    → CanBeShown nodes (received [] (got_by receiver (run_of nodes receivers entries)))

-- the bytes of the lines that a receiver takes of the serial run of a journal that can be told make what it takes, and its copies
abbrev pub AreHeard : Type 0
AreHeard = (nodes : List SchemaNode) (receivers : List ReceiverInfo) (entries : List Entry) (receiver start : ℕ)
    → CanBeTold nodes receivers entries → receiver < length receivers → IsStart start
    → lines_heard nodes [] (map (line_for nodes start) (got_by receiver (run_of nodes receivers entries))) ≡ received [] (got_by receiver (run_of nodes receivers entries))

-- what they say of its end, of the queues then, and of each line, also in every interleaving
pub record EndLaws : Type 0 where
  pub complete : (nodes : List SchemaNode) (receivers : List ReceiverInfo) (entries : List Entry) → IsSchema nodes → IsLegal nodes (first_state receivers) entries → IsComplete nodes receivers entries (run_of nodes receivers entries)
  pub posts : (nodes : List SchemaNode) (receivers : List ReceiverInfo) (entries : List Entry) → HavePosts receivers (run_of nodes receivers entries)
  pub heard : (nodes : List SchemaNode) (receivers : List ReceiverInfo) (entries : List Entry) (receiver start : ℕ) → CanBeTold nodes receivers entries → receiver < length receivers → IsStart start
      → AllByRecursion (IsHeardAsMade nodes start) (got_by receiver (run_of nodes receivers entries))
  pub lines : (nodes : List SchemaNode) (receivers : List ReceiverInfo) (entries : List Entry) (start : ℕ) → CanBeTold nodes receivers entries → IsStart start → EachInterleavingIsHeard nodes receivers entries start

abbrev pub AreCopies : Type 0
AreCopies = (nodes : List SchemaNode) (receivers : List ReceiverInfo) (entries : List Entry) (receiver start : ℕ)
    → CanBeTold nodes receivers entries → receiver < length receivers → IsStart start
    → LinesMirror nodes receivers entries receiver start (got_by receiver (run_of nodes receivers entries))

-- what laws say of the journals of a script
pub record JournalLaws : Type 0 where
  pub serial : (script : Script) → IsJournalOf script (journal_of script)
  pub turns : (nodes : List SchemaNode) (state : JournalState) (entries : List Entry) → IsLegal nodes state entries → entries ≡ entries_from nodes state (map turn_of entries)
  pub many : (script : Script) (entries : List Entry) → IsJournalOf script entries → length entries ≡ count_commands script

-- the texts of a script's commands are UTF-8
abbrev pub HaveUtf8 : Type 0
HaveUtf8 = (bytes : List ℕ) (script : Script) → script_in bytes ≡ Ok script → ScriptHasUtf8 script

-- the run of a script that was read
module _ (serves : AreServed) (interleaved : AreInterleaved) (interleaving : AreInterleavings) (hears : AreHeard) (copies : AreCopies) (ends : EndLaws) (journals : JournalLaws) (utf8 : HaveUtf8) (script : Script) (bytes : List ℕ) (ran : Ran) (read : script_in bytes ≡ Ok script) (is : IsRunOf script ran) where
  abbrev served : Served
  served = run_of script.schema script.receivers is.entries

  -- its entries are the journal of the script
  are_serial : is.entries ≡ journal_of script
  are_serial =
      let state = first_state script.receivers in
      journals.turns script.schema state is.entries is.is.worker.followed.legal ∙ ap (entries_from script.schema state) is.turns

  are_its : IsJournalOf script is.entries
  are_its = subst (λ (those : List Entry). IsJournalOf script those) (sym are_serial) (journals.serial script)

  -- each journal of the script can be told in lines
  each_can : (journal : List Entry) → IsJournalOf script journal → IsLegal script.schema (first_state script.receivers) journal → CanBeTold script.schema script.receivers journal
  each_can journal of legal =
      let u = utf8 bytes script read in
      let many : length journal ≡ length is.entries = journals.many script journal of ∙ sym (journals.many script is.entries are_its) in
      record {
        schema = is.is.worker.followed.schema;
        legal = legal;
        texts = journal_has CommandHasUtf8 script journal u.before u.lanes u.after of;
        few = subst (λ (n : ℕ). n < 2 ^ 32) (sym many) is.few;
      }

  -- so can that of the run
  can_be_told : CanBeTold script.schema script.receivers is.entries
  can_be_told = each_can is.entries are_its is.is.worker.followed.legal

  all_heard : (receiver : ℕ) → receiver < length script.receivers → lines_heard script.schema [] (map (line_for script.schema script.start) (got_by receiver served)) ≡ received [] (got_by receiver served)
  all_heard receiver less = hears script.schema script.receivers is.entries receiver script.start can_be_told less is.start

  -- and they are served
  is_served : IsServed script is.entries
  is_served =
      let followed = is.is.worker.followed in
      record {
        journal = are_its;
        serial = are_serial;
        legal = followed.legal;
        complete = ends.complete script.schema script.receivers is.entries followed.schema followed.legal;
        posts = ends.posts script.schema script.receivers is.entries;
        heard = λ receiver less. ends.heard script.schema script.receivers is.entries receiver script.start can_be_told less is.start;
        serves = λ receiver less. serves script.schema script.receivers is.entries receiver followed.schema followed.legal less;
        mirrored = λ receiver less. copies script.schema script.receivers is.entries receiver script.start can_be_told less is.start;
        interleaved = λ journal of legal. interleaved script.schema script.receivers journal followed.schema legal;
        lines = λ journal of legal. ends.lines script.schema script.receivers journal script.start (each_can journal of legal) is.start;
        interleaving = interleaving script.schema script.receivers is.entries followed.schema followed.legal;
      }

  -- the text of the report tells of it
  pub tells : ReportLaws → (text : List ℕ) → text ≡ text_from script.schema ran.run.replies.items ran.run.desks.items → Tells bytes text
  tells laws text told =
      let nodes = script.schema in
      let receivers = script.receivers in
      record {
        script = script;
        entries = is.entries;
        read = read;
        served = is_served;
        report =
            told
            ∙ ((λ i. text_from nodes (is.is.replies i) (is.is.desks i))
            ∙ ((λ i. flat_map reply_text (laws.replies 1 is.entries i) ++ (flat_map (desk_text nodes) (desks_at nodes script.start served 0 receivers) ++ codes "end\n"))
            ∙ ap (λ (lines : List ℕ). flat_map reply_text (reply_lines 1 is.entries) ++ (lines ++ codes "end\n")) (sym (desks_told laws nodes script.start served (length receivers) 0 receivers (omega arith) all_heard))));
      }

  -- and the text of what it comes to is that of the report
  pub sums : (text : List ℕ) → text ≡ summary_from ran.run.replies.items ran.run.desks.items → Sums bytes text
  sums text told =
      record {
        script = script;
        entries = is.entries;
        read = read;
        served = is_served;
        summary =
            told
            ∙ ((λ i. summary_from (is.is.replies i) (is.is.desks i))
            ∙ summary_is script.schema script.start script.receivers is.entries served all_heard);
      }

-- what the desks of a run hold can be written
pub run_writable : AreShown → (nodes : List SchemaNode) (start : ℕ) (receivers : List ReceiverInfo) (entries : List Entry) (run : Run) → IsRun nodes start receivers entries run → CanBeWritten nodes run.desks.items
run_writable shown nodes start receivers entries run is =
    let followed = is.worker.followed in
    subst (λ (desks : List DeskState). CanBeWritten nodes desks) (sym is.desks)
    (desks_writable nodes start (run_of nodes receivers entries) (length receivers) 0 receivers (omega arith) (λ n less. shown nodes receivers entries n followed.schema followed.legal less))

-- ---- receivers that may be declared

with_places : (receivers : List ReceiverInfo) → AllByRecursion IsReceiver receivers → AllByRecursion (λ receiver. 1 ≤ receiver.places) receivers
with_places [] all = tt
with_places (receiver ∷ receivers) all = (all.0.some, with_places receivers all.1)

-- each has room for a packet
pub have_places : (receivers : List ReceiverInfo) → AreReceivers receivers → AllByRecursion (λ receiver. 1 ≤ receiver.places) receivers
have_places receivers are = with_places receivers (recursion_from_All IsReceiver receivers are.each)
