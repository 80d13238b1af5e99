-- What is told of receivers, by what crews have of them.
use Rattle.std.specs.Prelude.{ℕ, Bool, true, false, List, [], ◌∷◌, ◌++◌, codes, count_by}
use Rattle.std.specs.List.{AllByRecursion, flat_map}
use Rattle.std.specs.Global.{Vec}
use Rattle.yp_schema.specs.declared.schema.SchemaNode.{SchemaNode}
use Rattle.yp_journal.specs.declared.receiver.ReceiverInfo.{ReceiverInfo}
use Rattle.yp_attempt.specs.Runs.{Run}
use Rattle.yp_listeners.specs.declared.listener.Listener.{Listener}
use Rattle.yp_listeners.specs.Listeners.{IsListenerOf}
use Rattle.yp_offer_log.specs.declared.logged.Logged.{Logged}
use Rattle.yp_offer_log.specs.declared.logged.Logged.TheVariants as logs
use Rattle.yp_offer_log.specs.Logs.{log_text}
use Rattle.yp_report.specs.declared.replied.Replied.{Replied}
use Rattle.yp_report.specs.Replies.{replied_lines}
use Rattle.yp_report.specs.Report.{receiver_text, reply_text, tree_text}
use Rattle.yp_concurrent.specs.Report.{reports_beside}

-- ---- one receiver

-- whether an entry of a log is a packet that was accepted
abbrev pub is_line : Logged → Bool
is_line (logs.Line kind line) = true
is_line (logs.FullAt sub position) = false

-- how many packets of a log were accepted
abbrev pub count_lines : List Logged → ℕ
count_lines log = count_by is_line log

-- the lines of a listener: those of its log, of which all packets that were accepted are taken, and then what it holds
abbrev pub listener_text : List SchemaNode → List ℕ → Listener → List ℕ
listener_text nodes name listener = log_text name (count_lines listener.log.items) listener.log.items ++ flat_map (tree_text nodes name) listener.heard

-- ---- all receivers

-- what is left of the listeners of workers: each has what the run of its worker offered to it
abbrev pub HaveLogs : List SchemaNode → ℕ → List Run → List (Vec Listener) → Type 0
HaveLogs nodes start [] [] = Unit {0}
HaveLogs nodes start [] (listeners ∷ more) = ⊥
HaveLogs nodes start (run ∷ runs) [] = ⊥
HaveLogs nodes start (run ∷ runs) (listeners ∷ more) = AllByRecursion (IsListenerOf nodes start run.done) listeners.items × HaveLogs nodes start runs more

-- they do by some runs
pub record HaveSomeLogs (nodes : List SchemaNode) (listeners : List (Vec Listener)) : Type 0 where
  pub start : ℕ
  pub runs : List Run
  pub have : HaveLogs nodes start runs listeners

-- the text of replies, and of what runs offered to receivers
abbrev pub text_beside : List SchemaNode → ℕ → List ReceiverInfo → List Replied → List Run → List ℕ
text_beside nodes start receivers replies runs = flat_map reply_text (replied_lines 1 replies) ++ (flat_map (receiver_text nodes start) (reports_beside nodes start runs 0 receivers) ++ codes "end\n")
