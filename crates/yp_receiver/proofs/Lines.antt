-- The line of a notice is heard as that notice.
use Rattle.std.proofs.Common.{◌≡◌, ℕ, ◌+◌, ◌*◌, ◌/◌, ◌%◌, ◌<◌, ◌≤◌, ◌==◌, ◌^◌, ◌&&◌, suc, max, List, [], ◌∷◌, map, drop, length, Bool, true, false, true≢false, cond, Option, Some, None, is_some, option_and_then, Result, Ok, Less, nat_cmp, nat_le, nat_lt, ℤ, IsUtf8, codes, refl, sym, ap, ◌∙◌, arith}
use Rattle.std.specs.Char.{is_ascii_digit}
use Rattle.std.specs.Cmp.Lexicographic.{slice_cmp}
use Rattle.std.specs.List.{AllByRecursion}
use Rattle.std.proofs.lemmas.Bool.{and_parts, and_from, eqb-true, leb-true, ltb-true, lt-ltb}
use Rattle.std.proofs.lemmas.Str.{IsUtf8-append}
use Rattle.json.proofs.Printed.Utf8.{are_ascii, IsUtf8-are_ascii}
use Rattle.serde_json.specs.Data.{Data, object, depth}
use Rattle.yp_base.specs.declared.notice.Notice.{Notice}
use Rattle.yp_base.specs.declared.notice.Notice.TheVariants.{Full, Changes, Started, Modified, Suspended, Resumed, Terminated}
use Rattle.yp_base.specs.declared.path.Seg.{Seg}
use Rattle.yp_base.specs.declared.row.Row.{Row}
use Rattle.yp_base.specs.Results.{◌>>=◌, or_fault}
use Rattle.yp_schema.specs.declared.schema.SchemaNode.{SchemaNode}
use Rattle.yp_schema.specs.WellFormed.{IsSchema}
use Rattle.yp_schema.specs.Datastore.{AreWhole, is_path_of}
use Rattle.yp_path.specs.Targets.{target_in, target_text, has_texts}
use Rattle.yp_data_json.specs.AtPath.{rows_read}
use Rattle.yp_data_json.specs.Writing.{rows_json}
use Rattle.yp_time.specs.Ticks.{tick_limit}
use Rattle.yp_time.specs.Forms.{fits_place, after_form}
use Rattle.yp_time.specs.Instants.{clock_form, clock_in, instant_after, instant_text, event_in, event_text}
use Rattle.yp_encode.specs.Lines.{name_of, body_of, line_of}
use Rattle.yp_decode.specs.declared.fault.StreamFault.{StreamFault}
use Rattle.yp_decode.specs.declared.fault.StreamFault.TheVariants.{NotJson}
use Rattle.yp_decode.specs.declared.line.Heard.{Heard}
use Rattle.yp_decode.specs.Grammar.{heard_in, line_heard}
use Rattle.yp_receiver.specs.Held.{hears, notices_heard, told, lines_heard}
use Rattle.yp_receiver.specs.Hearable.{subscription_of, IsHearable, tells_state, HasReadableText, IsTold}
use Rattle.yp_receiver.specs.Readable.{IsReadable}
use Rattle.yp_receiver.proofs.Bodies.{body_readable}
use Rattle.yp_receiver.proofs.Again.{enveloped, json_again}
use Rattle.yp_receiver.proofs.Texts.{written_text_again}

-- ---- event times are ASCII

digit_small : (byte : ℕ) → is_ascii_digit byte ≡ true → byte < 128
digit_small byte h = let low = leb-true byte 57 (and_parts (nat_le 48 byte) (nat_le byte 57) h).1 in omega arith

place_small : (t : Bool) (place byte : ℕ) → cond t (is_ascii_digit byte) (place == byte) ≡ true → place < 128 → byte < 128
place_small true place byte h low = digit_small byte h
place_small false place byte h low = let same : place ≡ byte = eqb-true place byte h in omega arith

byte_utf8 : (byte : ℕ) → byte < 128 → IsUtf8 (byte ∷ [])
byte_utf8 byte h = IsUtf8-are_ascii (byte ∷ []) (and_from (nat_lt byte 128) true (lt-ltb byte 128 h) refl)

place_utf8 : (t : Bool) (place : ℕ) (form : List ℕ) (byte : ℕ) (text rest : List ℕ) → fits_place place byte ≡ t → are_ascii (place ∷ form) ≡ true
    → cond t (after_form form text) None ≡ Some rest → (are_ascii form ≡ true → after_form form text ≡ Some rest → IsUtf8 text) → IsUtf8 (byte ∷ text)
place_utf8 true place form byte text rest fits IsUtf8-are_ascii is further =
    let parts = and_parts (nat_lt place 128) (are_ascii form) IsUtf8-are_ascii in
    IsUtf8-append (byte ∷ []) text (byte_utf8 byte (place_small (place == 100) place byte fits (ltb-true place 128 parts.0))) (further parts.1 is)
place_utf8 false place form byte text rest fits IsUtf8-are_ascii is further = let wrong : None ≡ Some rest = is in cc

-- a text that begins with an ASCII form, whose rest is UTF-8
form_utf8 : (form text rest : List ℕ) → are_ascii form ≡ true → after_form form text ≡ Some rest → IsUtf8 (drop (length form) text) → IsUtf8 text
form_utf8 [] text rest IsUtf8-are_ascii is u = u
form_utf8 (place ∷ form) [] rest IsUtf8-are_ascii is u = let wrong : None ≡ Some rest = is in cc
form_utf8 (place ∷ form) (byte ∷ text) rest IsUtf8-are_ascii is u = place_utf8 (fits_place place byte) place form byte text rest refl IsUtf8-are_ascii is (λ fine found. form_utf8 form text rest fine found u)

some_after : (o : Option (List ℕ)) (g : List ℕ → Option ℤ) → is_some (option_and_then g o) ≡ true → (rest : List ℕ) × (o ≡ Some rest)
some_after None g h = absurd (true≢false (sym h))
some_after (Some rest) g h = (rest, refl)

-- what follows the second
fraction_utf8 : (n : ℕ) → n < 100 → IsUtf8 (46 ∷ (48 + n / 10) ∷ (48 + n % 10) ∷ 90 ∷ [])
fraction_utf8 n h =
    IsUtf8-are_ascii (46 ∷ (48 + n / 10) ∷ (48 + n % 10) ∷ 90 ∷ [])
    (and_from (nat_lt (48 + n / 10) 128) (nat_lt (48 + n % 10) 128 && true) (lt-ltb (48 + n / 10) 128 (omega arith))
    (and_from (nat_lt (48 + n % 10) 128) true (lt-ltb (48 + n % 10) 128 (omega arith)) refl))

event_utf8 : (start tick : ℕ) → is_some (event_in (event_text start tick)) ≡ true → IsUtf8 (event_text start tick)
unfolding event_in event_text
event_utf8 start tick timed =
    let h = start * 100 + tick in
    let found = some_after (after_form clock_form (instant_text h)) (λ rest. option_and_then (instant_after 2999 rest) (clock_in 2999 (instant_text h))) timed in
    form_utf8 clock_form (instant_text h) found.0 refl found.1 (fraction_utf8 (h % 100) (omega arith))

-- ---- names

name_utf8 : (notice : Notice) → IsUtf8 (name_of notice)
name_utf8 (Full id rows) = IsUtf8-are_ascii (name_of (Full id rows)) refl
name_utf8 (Changes id patch_id changes incomplete) = IsUtf8-are_ascii (name_of (Changes id patch_id changes incomplete)) refl
name_utf8 (Started id) = IsUtf8-are_ascii (name_of (Started id)) refl
name_utf8 (Modified id) = IsUtf8-are_ascii (name_of (Modified id)) refl
name_utf8 (Suspended id) = IsUtf8-are_ascii (name_of (Suspended id)) refl
name_utf8 (Resumed id) = IsUtf8-are_ascii (name_of (Resumed id)) refl
name_utf8 (Terminated id) = IsUtf8-are_ascii (name_of (Terminated id)) refl

-- the event time stands before the notice
name_later : (notice : Notice) → slice_cmp nat_cmp (codes "eventTime") (name_of notice) ≡ Less
name_later (Full id rows) = refl
name_later (Changes id patch_id changes incomplete) = refl
name_later (Started id) = refl
name_later (Modified id) = refl
name_later (Suspended id) = refl
name_later (Resumed id) = refl
name_later (Terminated id) = refl

-- ---- lines

envelope_readable : (time : List ℕ) (notice : Notice) (body : Data) → IsUtf8 time → IsReadable body → IsReadable (enveloped time (name_of notice) body)
envelope_readable time notice body timed readable = (
  IsUtf8-are_ascii (codes "ietf-restconf:notification") refl,
  (
    tt,
    (
      (IsUtf8-are_ascii (codes "eventTime") refl, (name_later notice, (timed, (name_utf8 notice, (tt, (readable, tt)))))),
      tt,
    ),
  ),
)

two_more : (n : ℕ) → n ≤ 125 → suc (max (suc (max 0 (max n 0))) 0) ≤ 127
two_more n h = omega arith

module _ (nodes : List SchemaNode) (schema : IsSchema nodes)
    (targets : (path : List Seg) → is_path_of nodes path ≡ true → has_texts path ≡ true → target_in nodes (target_text nodes path) ≡ Ok path)
    (data_read : (at : List Seg) (rows : List Row) → AreWhole nodes at rows → rows_read nodes at (rows_json nodes at rows) ≡ Ok rows) where
  abbrev heard_of : Option Data → Result Heard StreamFault
  heard_of found = or_fault NotJson found >>= heard_in nodes

  -- the line of a notice is heard as the notice
  pub line_again : (start tick : ℕ) (notice : Notice) → is_some (event_in (event_text start tick)) ≡ true → IsHearable nodes notice → HasReadableText nodes notice
      → line_heard nodes (line_of nodes start tick notice) ≡ Ok (record { time = event_text start tick; notice = notice })
  line_again start tick notice timed hearable text =
      let time = event_text start tick in
      let told_body : Data = object (body_of nodes notice) in
      let json : Data = enveloped time (name_of notice) told_body in
      ap heard_of (written_text_again json (envelope_readable time notice told_body (event_utf8 start tick timed) (body_readable nodes schema notice hearable text.texts)) (two_more (depth told_body) text.shallow))
      ∙ json_again nodes time notice targets data_read timed hearable

  -- and so for lines in order
  pub lines_again : (start : ℕ) (all : List (ℕ × Notice)) (held : List (ℕ × List Row)) → ((tick : ℕ) → tick ≤ tick_limit → is_some (event_in (event_text start tick)) ≡ true)
      → AllByRecursion (IsTold nodes) all → lines_heard nodes held (map (λ (each : ℕ × Notice). line_of nodes start each.0 each.1) all) ≡ notices_heard held (map (λ (each : ℕ × Notice). each.1) all)
  lines_again start [] held timed each = refl
  lines_again start (first ∷ rest) held timed each =
      ap (λ (heard : Result Heard StreamFault). lines_heard nodes (told heard held) (map (λ (each : ℕ × Notice). line_of nodes start each.0 each.1) rest))
      (line_again start first.0 first.1 (timed first.0 each.0.tick) each.0.hearable each.0.text)
      ∙ lines_again start rest (hears first.1 held) timed each.1

-- ---- changes of state

one_deep : 1 ≤ 125
one_deep = omega arith

state_text : (nodes : List SchemaNode) (notice : Notice) → tells_state notice ≡ true → HasReadableText nodes notice
state_text nodes (Full id rows) state = absurd (true≢false (sym state))
state_text nodes (Changes id patch_id changes incomplete) state = absurd (true≢false (sym state))
state_text nodes (Started id) state = record { texts = tt; shallow = one_deep }
state_text nodes (Modified id) state = record { texts = tt; shallow = one_deep }
state_text nodes (Suspended id) state = record { texts = tt; shallow = one_deep }
state_text nodes (Resumed id) state = record { texts = tt; shallow = one_deep }
state_text nodes (Terminated id) state = record { texts = tt; shallow = one_deep }

state_hearable : (nodes : List SchemaNode) (notice : Notice) → tells_state notice ≡ true → subscription_of notice < 2 ^ 32 → IsHearable nodes notice
state_hearable nodes (Full id rows) state low = absurd (true≢false (sym state))
state_hearable nodes (Changes id patch_id changes incomplete) state low = absurd (true≢false (sym state))
state_hearable nodes (Started id) state low = record { id = low; body = tt }
state_hearable nodes (Modified id) state low = record { id = low; body = tt }
state_hearable nodes (Suspended id) state low = record { id = low; body = tt }
state_hearable nodes (Resumed id) state low = record { id = low; body = tt }
state_hearable nodes (Terminated id) state low = record { id = low; body = tt }

-- a change of state that is told is one of them
pub told_state : (nodes : List SchemaNode) (tick : ℕ) (notice : Notice) → tick ≤ tick_limit → tells_state notice ≡ true → subscription_of notice < 2 ^ 32 → IsTold nodes (tick, notice)
told_state nodes tick notice early state low = record { tick = early; hearable = state_hearable nodes notice state low; text = state_text nodes notice state }
