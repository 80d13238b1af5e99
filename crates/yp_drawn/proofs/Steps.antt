-- Texts of whole lines that lead from one progress of a script to another.
use Rattle.std.proofs.Common.{◌≡◌, ℕ, ◌+◌, ◌≤◌, ◌==◌, ◌&&◌, nat_le, cond, true, false, List, [], ◌∷◌, ◌++◌, length, None, Ok, Err, refl, sym, ap, ap₂, subst, ◌∙◌, append_assoc, length-append, arith}
use Rattle.std.specs.List.{list_all}
use Rattle.std.proofs.lemmas.Bool.{and_parts, and_from, ne_eqb, eq-eqb, leb-true, le-leb}
use Rattle.std.proofs.lemmas.Str.{utf8_valid_len-IsUtf8}
use Rattle.json.specs.Tree as tree
use Rattle.serde_json.specs.Data.{Data, object, Members}
use Rattle.serde_json.specs.Read.{of_json, max_depth, read as read_text}
use Rattle.serde_json.specs.Written.{outline, compact_text}
use Rattle.yp_base.specs.Cuts.{onto_first}
use Rattle.yp_base.specs.Results.{◌>>=◌, or_fault}
use Rattle.yp_command.specs.declared.fault.ScriptKind.TheVariants.{TooLong, NotJson}
use Rattle.yp_command.specs.Faults.{Said}
use Rattle.yp_value.specs.Json.{json_of}
use Rattle.yp_script.specs.Lines.{pieces_of, without_feed, is_blank, line_limit, byte_limit, is_in_script, json_in, lines_from}
use Rattle.yp_script.specs.Script.{Progress, line_taken, at_line, script_from}
use Rattle.yp_drawn.proofs.Texts.{is_printed, is_plain_json, json_onto, text_onto, json_is_printed, printed_is_utf8, written_is_read}

-- what the text of JSON says, with the members of each object in order
abbrev pub read_back : Data → Said Data
read_back d = or_fault NotJson (of_json (outline d))

-- where so many lines of this text stand within the limits of a script, they lead from one progress to another
abbrev pub Leads : Progress → Progress → List ℕ → ℕ → Type 0
Leads from to text many =
    (end number at : ℕ) (rest : List ℕ) → number + many ≤ line_limit → at + length (text ++ rest) ≤ byte_limit
    → script_from end from (lines_from number at (pieces_of (text ++ rest))) ≡ script_from end to (lines_from (number + many) (at + length text) (pieces_of rest))

-- ---- a line is cut off

not_feed : (b : ℕ) → is_printed b ≡ true → (b == 10) ≡ false
not_feed b h = let low : 32 ≤ b = leb-true 32 b (and_parts _ _ h).0 in ne_eqb b 10 (λ e. omega arith)

first_piece : (text rest : List ℕ) → list_all is_printed text ≡ true → pieces_of (text ++ 10 ∷ rest) ≡ (text ++ 10 ∷ []) ∷ pieces_of rest
first_piece [] rest h = refl
first_piece (b ∷ text) rest h =
    let parts = and_parts (is_printed b) (list_all is_printed text) h in
    ap (λ t. cond t ((10 ∷ []) ∷ pieces_of (text ++ 10 ∷ rest)) (onto_first b (pieces_of (text ++ 10 ∷ rest)))) (not_feed b parts.0)
    ∙ ap (onto_first b) (first_piece text rest parts.1)

line_of_piece : (text : List ℕ) → list_all is_printed text ≡ true → without_feed (text ++ 10 ∷ []) ≡ text
line_of_piece [] h = refl
line_of_piece (b ∷ text) h =
    let parts = and_parts (is_printed b) (list_all is_printed text) h in
    ap (λ t. cond t [] (b ∷ without_feed (text ++ 10 ∷ []))) (not_feed b parts.0) ∙ ap (λ (xs : List ℕ). b ∷ xs) (line_of_piece text parts.1)

-- ---- and read

json_read : (d : Data) → is_plain_json d ≡ true → tree.depth (outline d) ≤ max_depth → json_of (compact_text d) ≡ of_json (outline d)
json_read d plain shallow =
    ap (λ b. cond b (read_text (compact_text d)) None) (eq-eqb _ _ (utf8_valid_len-IsUtf8 (compact_text d) (printed_is_utf8 (compact_text d) (json_is_printed d plain)))) ∙ written_is_read d plain shallow

said_of : (d : Data) → is_plain_json d ≡ true → tree.depth (outline d) ≤ max_depth → length (compact_text d) ≤ 65536 → json_in true (compact_text d) ≡ read_back d
said_of d plain shallow short =
    ap (λ b. cond b (or_fault NotJson (json_of (compact_text d))) (Err TooLong)) (le-leb (length (compact_text d)) 65536 short) ∙ ap (or_fault NotJson) (json_read d plain shallow)

first_taken : (end number at : ℕ) (from to : Progress) (piece : List ℕ) (pieces : List (List ℕ)) (said : Said Data)
    → is_in_script (number + 1) (at + length piece) ≡ true → is_blank (without_feed piece) ≡ false → json_in true (without_feed piece) ≡ said → line_taken from said ≡ Ok to
    → script_from end from (lines_from number at (piece ∷ pieces)) ≡ script_from end to (lines_from (number + 1) (at + length piece) pieces)
first_taken end number at from to piece pieces said within some is taken =
    let later = lines_from (number + 1) (at + length piece) pieces in
    ap (λ b. script_from end from (cond (b && is_blank (without_feed piece)) later (record { number = number + 1; json = json_in b (without_feed piece) } ∷ later))) within
    ∙ ap (λ b. script_from end from (cond b later (record { number = number + 1; json = json_in true (without_feed piece) } ∷ later))) some
    ∙ ap (λ (s : Said Progress). at_line (number + 1) s >>= λ next. script_from end next later) (ap (line_taken from) is ∙ taken)

-- ---- one line

pub line_leads : (from to : Progress) (ms : Members) → is_plain_json (object ms) ≡ true → nat_le (tree.depth (outline (object ms))) max_depth ≡ true → length (json_onto (object ms) (10 ∷ [])) ≤ 65536
    → line_taken from (read_back (object ms)) ≡ Ok to → Leads from to (json_onto (object ms) (10 ∷ [])) 1
line_leads from to ms plain shallow short taken end number at rest few within =
    let text = compact_text (object ms) in
    let whole = json_onto (object ms) (10 ∷ []) in
    let piece = text ++ 10 ∷ [] in
    let same : piece ≡ whole = text_onto (object ms) (10 ∷ []) plain in
    let printed = json_is_printed (object ms) plain in
    let line = line_of_piece text printed in
    let long : length piece ≡ length text + 1 = length-append text (10 ∷ []) in
    let short_text : length text ≤ 65536 = omega (arith, ap length same) in
    let here : at + length piece ≤ byte_limit = omega (arith, ap length same, length-append whole rest) in
    ap (λ (x : List ℕ). script_from end from (lines_from number at (pieces_of (x ++ rest)))) (sym same)
    ∙ ap (λ x. script_from end from (lines_from number at x)) (ap pieces_of (append_assoc text (10 ∷ []) rest) ∙ first_piece text rest printed)
    ∙ first_taken end number at from to piece (pieces_of rest) (read_back (object ms))
    (and_from (nat_le (number + 1) line_limit) (nat_le (at + length piece) byte_limit) (le-leb (number + 1) line_limit few) (le-leb (at + length piece) byte_limit here))
    (ap is_blank line) (ap (json_in true) line ∙ said_of (object ms) plain (leb-true _ _ shallow) short_text) taken
    ∙ ap (λ (x : List ℕ). script_from end to (lines_from (number + 1) (at + length x) (pieces_of rest))) same

-- ---- lines after lines

pub none_leads : (from : Progress) → Leads from from [] 0
none_leads from end number at rest few within = ap₂ (λ n a. script_from end from (lines_from n a (pieces_of rest))) (omega arith) (omega arith)

pub then_leads : (a b c : Progress) (text more : List ℕ) (m n : ℕ) → Leads a b text m → Leads b c more n → Leads a c (text ++ more) (m + n)
then_leads a b c text more m n first second end number at rest few within =
    let split = append_assoc text more rest in
    let all = length-append text (more ++ rest) in
    ap (λ (x : List ℕ). script_from end a (lines_from number at (pieces_of x))) split
    ∙ first end number at (more ++ rest) (omega arith) (omega (arith, ap length split))
    ∙ second end (number + m) (at + length text) rest (omega arith) (omega (arith, ap length split, all))
    ∙ ap₂ (λ k l. script_from end c (lines_from k l (pieces_of rest))) (omega arith) (omega (arith, length-append text more))

pub leads_same : (from to other : Progress) (text : List ℕ) (m n : ℕ) → to ≡ other → m ≡ n → Leads from to text m → Leads from other text n
leads_same from to other text m n same count leads = subst (λ k. Leads from other text k) count (subst (λ (p : Progress). Leads from p text m) same leads)
