-- A script has no byte past the most that it may have, and neither has a stream without a fault.
use Rattle.std.proofs.Common.{◌≡◌, ℕ, zero, suc, ◌+◌, ◌≤◌, ◌==◌, ◌&&◌, Bool, true, false, true≢false, List, [], ◌∷◌, length, take, drop, Result, Ok, Err, refl, sym, subst, ◌∙◌, cond, arith, nat_le}
use Rattle.std.specs.Prelude.{IfOk, is_ok, option_and_then}
use Rattle.std.specs.Result.{result_ok}
use Rattle.std.specs.List.{AllByRecursion}
use Rattle.std.proofs.lemmas.Bool.{and_parts, leb-true}
use Rattle.std.proofs.lemmas.Result.{IfOk-weaker}
use Rattle.serde_json.specs.Data.{Data}
use Rattle.yp_base.specs.Cuts.{onto_first}
use Rattle.yp_base.specs.Results.{◌>>=◌}
use Rattle.yp_command.specs.Faults.{Said}
use Rattle.yp_command.specs.SaidLaws.{then_is}
use Rattle.yp_script.specs.declared.script.Script.{Script}
use Rattle.yp_script.specs.Faults.{LineFault}
use Rattle.yp_script.specs.declared.stream.Stream.{Stream}
use Rattle.yp_script.specs.Forms.{line_form}
use Rattle.yp_value.specs.Json.{json_of}
use Rattle.yp_script.specs.Lines.{Line, TextLine, pieces_of, without_feed, is_blank, is_in_script, json_in, lines_from, text_in, texts_from}
use Rattle.yp_script.specs.Script.{Progress, no_progress, line_taken, at_line, script_from, script_of, script_in}
use Rattle.yp_script.specs.SaidLaws.{line_is}
use Rattle.yp_script.specs.Stream.{before_parts, is_part, is_part_form, json_said, parts_from, stream_at, stream_from, stream_in, stream_of}

-- ---- each line of a script has its JSON

abbrev IsSaid : Line → Type 0
IsSaid line = is_ok line.json ≡ true

abbrev AllSaid : List Line → Type 0
AllSaid lines = AllByRecursion IsSaid lines

line_said : (progress : Progress) (json : Said Data) → IfOk (line_taken progress json) (λ next. is_ok json ≡ true)
line_said progress (Ok value) = any_ok (line_taken progress (Ok value))
  where
    any_ok : (r : Said Progress) → IfOk r (λ next. true ≡ true)
    any_ok (Ok next) = refl
    any_ok (Err e) = tt
line_said progress (Err e) = tt

none_said : {E : Type 0} (r : Result Script E) → IfOk r (λ script. AllSaid [])
none_said (Ok script) = tt
none_said (Err e) = tt

said_more : (line : Line) (lines : List Line) (r : Result Script LineFault) → IsSaid line → IfOk r (λ script. AllSaid lines) → IfOk r (λ script. AllSaid (line ∷ lines))
said_more line lines (Ok script) is h = (is, h)
said_more line lines (Err e) is h = tt

all_said : (end : ℕ) (progress : Progress) (lines : List Line) → IfOk (script_from end progress lines) (λ script. AllSaid lines)
all_said end progress [] = none_said (script_from end progress [])
all_said end progress (line ∷ lines) =
    then_is (at_line line.number (line_taken progress line.json)) (λ next. script_from end next lines) (λ next. is_ok line.json ≡ true) (λ script. AllSaid (line ∷ lines))
    (line_is line.number (line_taken progress line.json) (λ next. is_ok line.json ≡ true) (line_said progress line.json))
    (λ next is. said_more line lines (script_from end next lines) is (all_said end next lines))

-- ---- so none ends past the limits

abbrev total : List (List ℕ) → ℕ
total [] = 0
total (piece ∷ pieces) = length piece + total pieces

total_onto : (b : ℕ) (pieces : List (List ℕ)) → total (onto_first b pieces) ≡ total pieces + 1
total_onto b [] = refl
total_onto b (piece ∷ pieces) = omega arith

total_cut : (c : Bool) (b : ℕ) (pieces : List (List ℕ)) → total (cond c ((10 ∷ []) ∷ pieces) (onto_first b pieces)) ≡ total pieces + 1
total_cut true b pieces = omega arith
total_cut false b pieces = total_onto b pieces

total_pieces : (text : List ℕ) → total (pieces_of text) ≡ length text
total_pieces [] = refl
total_pieces (b ∷ text) = total_cut (b == 10) b (pieces_of text) ∙ omega (arith, total_pieces text)

within_at : (a : Bool) (number end : ℕ) → is_in_script number end ≡ a → a ≡ true → end ≤ 67108864
within_at true number end is h = leb-true end 67108864 (and_parts (nat_le number 100000) (nat_le end 67108864) is).1
within_at false number end is h = absurd (true≢false (sym h))

-- a line that has its JSON lies within them
here_within : (a b : Bool) (number : ℕ) (text : List ℕ) (rest : List Line) → AllSaid (cond (a && b) rest (record { number = number; json = json_in a text } ∷ rest)) → (a ≡ true) × AllSaid rest
here_within true true number text rest all = (refl, all)
here_within true false number text rest all = (refl, all.1)
here_within false b number text rest all = absurd (true≢false (sym all.0))

lines_end : (number at : ℕ) (pieces : List (List ℕ)) → AllSaid (lines_from number at pieces) → at ≤ 67108864 → at + total pieces ≤ 67108864
lines_end number at [] all here = omega (arith, here)
lines_end number at (piece ∷ pieces) all here =
    let h = here_within (is_in_script (number + 1) (at + length piece)) (is_blank (without_feed piece)) (number + 1) (without_feed piece) (lines_from (number + 1) (at + length piece) pieces) all in
    let rest = lines_end (number + 1) (at + length piece) pieces h.1 (within_at (is_in_script (number + 1) (at + length piece)) (number + 1) (at + length piece) refl h.0) in
    omega (arith, rest)

-- a script has at most so many bytes
script_fits : (text : List ℕ) (script : Script) → script_of text ≡ Ok script → length text ≤ 67108864
script_fits text script is =
    let all = subst (λ (r : Result Script LineFault). IfOk r (λ x. AllSaid (lines_from 0 0 (pieces_of text)))) is (all_said (length (pieces_of text) + 1) no_progress (lines_from 0 0 (pieces_of text))) in
    let end = lines_end 0 0 (pieces_of text) all (omega arith) in
    omega (arith, end, total_pieces text)

none_left : (n : ℕ) (bytes : List ℕ) → length (take (suc n) bytes) ≤ n → drop (suc n) bytes ≡ []
none_left zero [] h = refl
none_left zero (b ∷ bytes) h = absurd (omega (arith, h))
none_left (suc n) [] h = refl
none_left (suc n) (b ∷ bytes) h = none_left n bytes (omega (arith, h))

-- behind a script nothing is left
pub nothing_behind : (bytes : List ℕ) (script : Script) → script_in bytes ≡ Ok script → drop 67108865 bytes ≡ []
nothing_behind bytes script is = none_left 67108864 bytes (script_fits (take 67108865 bytes) script is)

-- ---- the same of streams

-- a line that doesn't pass the limit of bytes
abbrev pub IsWithin : TextLine → Type 0
IsWithin line = is_ok line.text ≡ true

abbrev pub AreWithin : List TextLine → Type 0
AreWithin lines = AllByRecursion IsWithin lines

-- a part of the schema
part_within : (line : TextLine) → is_part line ≡ true → IsWithin line
part_within line is = by line.text is
  where
    by : (text : Said (List ℕ)) → is_part_form (option_and_then line_form (option_and_then json_of (result_ok text))) ≡ true → is_ok text ≡ true
    by (Ok text) is = refl
    by (Err kind) is = absurd (true≢false (sym is))

-- a line whose JSON is said
said_within : (line : TextLine) → is_ok (json_said line) ≡ true → IsWithin line
said_within line is = by line.text is
  where
    by : (text : Said (List ℕ)) → is_ok (text >>= json_in (nat_le line.number 100000)) ≡ true → is_ok text ≡ true
    by (Ok text) is = refl
    by (Err kind) is = absurd (true≢false (sym is))

any_within : (r : Result Progress LineFault) → IfOk r (λ progress. Unit {0})
any_within (Ok progress) = tt
any_within (Err fault) = tt

-- where the notification lines are, the lines of the schema are
first_part : (progress : Progress) (line : TextLine) (lines : List TextLine) (part : Bool) → is_part line ≡ part
    → ((next : Progress) → IfOk (parts_from next lines) (λ stream. AreWithin stream.lines → AreWithin lines))
    → IfOk (cond part (at_line line.number (line_taken progress (json_said line)) >>= λ next. parts_from next lines) (Ok (stream_at progress (line ∷ lines)))) (λ stream. AreWithin stream.lines → AreWithin (line ∷ lines))
first_part progress line lines true is later =
    then_is (at_line line.number (line_taken progress (json_said line))) (λ next. parts_from next lines) (λ next. Unit {0}) (λ stream. AreWithin stream.lines → AreWithin (line ∷ lines))
    (any_within (at_line line.number (line_taken progress (json_said line))))
    (λ next any. IfOk-weaker (parts_from next lines) (λ stream. AreWithin stream.lines → AreWithin lines) (λ stream. AreWithin stream.lines → AreWithin (line ∷ lines)) (λ stream more. λ all. (part_within line is, more all)) (later next))
first_part progress line lines false is later = λ all. all

parts_within : (progress : Progress) (lines : List TextLine) → IfOk (parts_from progress lines) (λ stream. AreWithin stream.lines → AreWithin lines)
parts_within progress [] = λ all. tt
parts_within progress (line ∷ lines) = first_part progress line lines (is_part line) refl (λ next. parts_within next lines)

stream_within : (end : ℕ) (lines : List TextLine) → IfOk (stream_from end lines) (λ stream. AreWithin stream.lines → AreWithin lines)
stream_within end [] = tt
stream_within end (first ∷ lines) =
    then_is (at_line first.number (line_taken before_parts (json_said first))) (λ progress. parts_from progress lines) (λ progress. is_ok (json_said first) ≡ true) (λ stream. AreWithin stream.lines → AreWithin (first ∷ lines))
    (line_is first.number (line_taken before_parts (json_said first)) (λ progress. is_ok (json_said first) ≡ true) (line_said before_parts (json_said first)))
    (λ progress said. IfOk-weaker (parts_from progress lines) (λ stream. AreWithin stream.lines → AreWithin lines) (λ stream. AreWithin stream.lines → AreWithin (first ∷ lines)) (λ stream more. λ all. (said_within first said, more all)) (parts_within progress lines))

text_within : (a b : Bool) (number : ℕ) (text : List ℕ) (rest : List TextLine) → AreWithin (cond (a && b) rest (record { number = number; text = text_in a text } ∷ rest)) → (a ≡ true) × AreWithin rest
text_within true true number text rest all = (refl, all)
text_within true false number text rest all = (refl, all.1)
text_within false b number text rest all = absurd (true≢false (sym all.0))

texts_end : (number at : ℕ) (pieces : List (List ℕ)) → AreWithin (texts_from number at pieces) → at ≤ 67108864 → at + total pieces ≤ 67108864
texts_end number at [] all here = omega (arith, here)
texts_end number at (piece ∷ pieces) all here =
    let h = text_within (nat_le (at + length piece) 67108864) (is_blank (without_feed piece)) (number + 1) (without_feed piece) (texts_from (number + 1) (at + length piece) pieces) all in
    let rest = texts_end (number + 1) (at + length piece) pieces h.1 (leb-true (at + length piece) 67108864 h.0) in
    omega (arith, rest)

stream_fits : (text : List ℕ) (stream : Stream) → stream_of text ≡ Ok stream → AreWithin stream.lines → length text ≤ 67108864
stream_fits text stream is within =
    let lines : List TextLine = texts_from 0 0 (pieces_of text) in
    let all = subst (λ (r : Result Stream LineFault). IfOk r (λ s. AreWithin s.lines → AreWithin lines)) is (stream_within (length (pieces_of text) + 1) lines) in
    let end = texts_end 0 0 (pieces_of text) (all within) (omega arith) in
    omega (arith, end, total_pieces text)

-- behind a stream none of whose lines passes the limit nothing is left
pub nothing_behind_stream : (bytes : List ℕ) (stream : Stream) → stream_in bytes ≡ Ok stream → AreWithin stream.lines → drop 67108865 bytes ≡ []
nothing_behind_stream bytes stream is within = none_left 67108864 bytes (stream_fits (take 67108865 bytes) stream is within)
