-- What is kept of the offers to a receiver, and what is told of it (RFC 8641 sections 3.7 and 3.11.1).
use Rattle.std.specs.Prelude.{ℕ, zero, suc, List, [], ◌∷◌, ◌++◌, codes, decimal}
use Rattle.yp_schema.specs.declared.schema.SchemaNode.{SchemaNode}
use Rattle.yp_encode.specs.Lines.{line_of}
use Rattle.yp_attempt.specs.Tracks.{Answer, Took, Full, Attempt}
use Rattle.yp_moment.specs.Notices.{notice_of}
use Rattle.yp_worker.specs.Packets.{kind_of}
use Rattle.yp_offer_log.specs.declared.logged.Logged.{Logged}
use Rattle.yp_offer_log.specs.declared.logged.Logged.TheVariants as logs

-- ---- what is kept

-- what is logged of an attempt
abbrev pub logged_by : Answer → List SchemaNode → ℕ → Attempt → Logged
logged_by Took nodes start a = logs.Line (kind_of a.made.body) (line_of nodes start a.made.tick (notice_of a.sub a.made))
logged_by Full nodes start a = logs.FullAt a.sub a.at

abbrev pub logged : List SchemaNode → ℕ → Attempt → Logged
logged nodes start a = logged_by a.answer nodes start a

-- ---- what is told

-- what is told of an offer, where so many packets that were accepted are taken and not told yet: a packet that is taken, or that the queue was full
abbrev pub logged_text : List ℕ → Logged → ℕ → List ℕ
logged_text name (logs.Line kind line) zero = []
logged_text name (logs.Line kind line) (suc taken) = codes "to " ++ name ++ codes " " ++ line ++ codes "\n"
logged_text name (logs.FullAt sub position) taken = codes "full " ++ name ++ codes " " ++ decimal sub ++ codes " " ++ decimal position ++ codes "\n"

-- how many are taken and not told after it
abbrev pub left_after : Logged → ℕ → ℕ
left_after (logs.Line kind line) zero = zero
left_after (logs.Line kind line) (suc taken) = taken
left_after (logs.FullAt sub position) taken = taken

-- what is told of a log
abbrev pub log_text : List ℕ → ℕ → List Logged → List ℕ
log_text name taken [] = []
log_text name taken (one ∷ log) = logged_text name one taken ++ log_text name (left_after one taken) log
