-- What a run keeps has the lines of its report.
use Rattle.std.proofs.Common.{◌≡◌, ℕ, zero, suc, ◌+◌, List, [], ◌∷◌, ◌++◌, map, refl, ap}
use Rattle.std.specs.List.{flat_map}
use Rattle.yp_schema.specs.declared.schema.SchemaNode.{SchemaNode}
use Rattle.yp_journal.specs.declared.entry.Entry.{Entry}
use Rattle.yp_attempt.specs.Tracks.{Answer, Took, Full, Attempt}
use Rattle.yp_promise.specs.Shown.{Shown, shown_before, shown_of}
use Rattle.yp_offer_log.specs.Logs.{left_after, log_text, logged, logged_by, logged_text}
use Rattle.yp_report.specs.Replies.{replied_lines, replied_of}
use Rattle.yp_report.specs.Report.{ReplyLine, reply_lines, shown_text}

module _ (nodes : List SchemaNode) (start : ℕ) (name : List ℕ) where
  -- one attempt before others, by what it is answered
  told_before : (answer : Answer) (taken : ℕ) (a : Attempt) (later : ℕ → List Shown) (more : ℕ → List ℕ) → ((left : ℕ) → flat_map (shown_text nodes start name) (later left) ≡ more left)
      → flat_map (shown_text nodes start name) (shown_before answer taken a later) ≡ logged_text name (logged_by answer nodes start a) taken ++ more (left_after (logged_by answer nodes start a) taken)
  unfolding shown_text
  told_before Took zero a later more same = same zero
  told_before Took (suc taken) a later more same = ap (λ (text : List ℕ). logged_text name (logged_by Took nodes start a) (suc taken) ++ text) (same taken)
  told_before Full taken a later more same = ap (λ (text : List ℕ). logged_text name (logged_by Full nodes start a) taken ++ text) (same taken)

  -- the lines of a log
  pub log_told : (attempts : List Attempt) (taken : ℕ) → flat_map (shown_text nodes start name) (shown_of taken attempts) ≡ log_text name taken (map (logged nodes start) attempts)
  log_told [] taken = refl
  log_told (a ∷ attempts) taken =
      told_before a.answer taken a (λ left. shown_of left attempts) (λ left. log_text name left (map (logged nodes start) attempts)) (λ left. log_told attempts left)

-- the lines of the replies of entries
pub replies_told : (n : ℕ) (entries : List Entry) → replied_lines n (map replied_of entries) ≡ reply_lines n entries
replies_told n [] = refl
replies_told n (entry ∷ entries) = ap (λ (lines : List ReplyLine). record { position = n; lane = entry.lane; index = entry.index; reply = entry.reply } ∷ lines) (replies_told (n + 1) entries)
