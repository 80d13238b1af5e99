-- The lines of the drawn commands, and what they say.
use Rattle.std.proofs.Common.{◌≡◌, ℕ, zero, suc, ◌+◌, ◌*◌, ◌/◌, ◌%◌, ◌^◌, ◌==◌, ◌<◌, ◌≤◌, nat_le, cond, true, false, List, [], ◌∷◌, ◌++◌, length, map, flat_map, Option, Some, option_map, option_and_then, Ok, Err, codes, decimal, refl, sym, ap, subst, ◌∙◌, append_assoc, append-nil, length-append, arith}
use Rattle.std.specs.Prelude.{⊤}
use Rattle.std.specs.List.{range_with_len}
use Rattle.std.proofs.lemmas.Bool.{and_from, cond_both, le-leb, lt-ltb}
use Rattle.std.proofs.lemmas.Fmt.{length-decimal-le}
use Rattle.json.specs.Tree as tree
use Rattle.serde_json.specs.Data.{Num, unsigned, Data, boolean, number, string, array, object, no_items, item, Members, no_members, member}
use Rattle.serde_json.specs.Read.{max_depth}
use Rattle.serde_json.specs.Written.{outline}
use Rattle.serde_json.proofs.Numbers.{number_of-decimal}
use Rattle.yp_base.specs.Results.{or_fault}
use Rattle.yp_gen.specs.declared.command.Drawn.{Drawn}
use Rattle.yp_gen.specs.declared.command.Drawn.TheVariants.{Tick, Mtu, Enabled, Removal}
use Rattle.yp_gen.specs.Commands.{drawn_by, tick_line, edit_head, patch_end, value_of, mtu_leaf, enabled_leaf, command_text}
use Rattle.yp_gen.specs.Draws.{draw_of, drawn_state}
use Rattle.yp_gen.specs.Scripts.{drawn_line}
use Rattle.yp_time.specs.Ticks.{tick_limit}
use Rattle.yp_journal.specs.declared.command.Command.{Command}
use Rattle.yp_journal.specs.declared.command.Command.TheVariants as commands
use Rattle.yp_command.specs.declared.fault.ScriptKind.TheVariants.{NotJson, Limit}
use Rattle.yp_command.specs.Faults.{said_map}
use Rattle.yp_command.specs.Words.{whole_said}
use Rattle.yp_script.specs.declared.stage.Stage.TheVariants.{Before}
use Rattle.yp_script.specs.Script.{line_taken, with_command, at_stage}
use Rattle.yp_drawn.specs.Drawn.{entry_target, entry_json, drawn_command, command_at}
use Rattle.yp_drawn.proofs.Setting.{running}
use Rattle.yp_drawn.proofs.Steps.{Leads, read_back, line_leads, none_leads, then_leads, leads_same}
use Rattle.yp_drawn.proofs.Texts.{is_plain_json, decimal_is_plain, json_onto}

-- ---- their JSON

abbrev tick_json : ℕ → Members
tick_json tick = member (codes "tick") (number (unsigned tick)) no_members

abbrev edit_json : List ℕ → ℕ → Members → ℕ → Members
edit_json operation entry more k =
    member (codes "patch") (object (member (codes "ietf-yang-patch:yang-patch") (object (
    member (codes "edit") (array (item (object (member (codes "edit-id") (string (codes "1")) (member (codes "operation") (string operation) (member (codes "target") (string (entry_target entry)) more)))) no_items)) (
    member (codes "patch-id") (string (decimal k)) no_members))) no_members)) no_members

abbrev value_json : List ℕ → Data → ℕ → Members
value_json leaf value entry = member (codes "value") (entry_json leaf value entry) no_members

abbrev command_json : ℕ → Drawn → Members
command_json k Tick = tick_json (10 * k)
command_json k (Mtu entry mtu) = edit_json (codes "merge") entry (value_json (codes "mtu") (number (unsigned mtu)) entry) k
command_json k (Enabled entry enabled) = edit_json (codes "merge") entry (value_json (codes "enabled") (boolean enabled) entry) k
command_json k (Removal entry) = edit_json (codes "remove") entry no_members k

-- ---- their texts

regrouped : (a b c d e rest : List ℕ) → a ++ b ++ c ++ d ++ e ++ rest ≡ a ++ (b ++ (c ++ (d ++ (e ++ rest))))
regrouped a b c d e rest = simp append_assoc

edit_head_onto : (operation : List ℕ) (entry : ℕ) (rest : List ℕ) → edit_head operation entry ++ rest
    ≡ codes "{\"patch\":{\"ietf-yang-patch:yang-patch\":{\"edit\":[{\"edit-id\":\"1\",\"operation\":\"" ++ (operation ++ (codes "\",\"target\":\"/acme:interfaces/interface=eth" ++ (decimal entry ++ 34 ∷ rest)))
unfolding edit_head
edit_head_onto operation entry rest =
    regrouped (codes "{\"patch\":{\"ietf-yang-patch:yang-patch\":{\"edit\":[{\"edit-id\":\"1\",\"operation\":\"") operation (codes "\",\"target\":\"/acme:interfaces/interface=eth") (decimal entry) (codes "\"") rest

value_onto : (leaf : List ℕ) (entry : ℕ) (rest : List ℕ) → value_of leaf entry ++ rest
    ≡ codes ",\"value\":{\"acme:interface\":[{" ++ (leaf ++ (codes ",\"name\":\"eth" ++ (decimal entry ++ (codes "\"}]}" ++ rest))))
unfolding value_of
value_onto leaf entry rest = regrouped (codes ",\"value\":{\"acme:interface\":[{") leaf (codes ",\"name\":\"eth") (decimal entry) (codes "\"}]}") rest

merge_onto : (leaf : List ℕ) (entry : ℕ) (rest : List ℕ) → edit_head (codes "merge") entry ++ value_of leaf entry ++ rest
    ≡ codes "{\"patch\":{\"ietf-yang-patch:yang-patch\":{\"edit\":[{\"edit-id\":\"1\",\"operation\":\"merge\",\"target\":\"/acme:interfaces/interface=eth"
    ++ (decimal entry ++ (codes "\",\"value\":{\"acme:interface\":[{" ++ (leaf ++ (codes ",\"name\":\"eth" ++ (decimal entry ++ (codes "\"}]}" ++ rest))))))
merge_onto leaf entry rest =
    append_assoc (edit_head (codes "merge") entry) (value_of leaf entry) rest
    ∙ edit_head_onto (codes "merge") entry (value_of leaf entry ++ rest)
    ∙ ap (λ (t : List ℕ). codes "{\"patch\":{\"ietf-yang-patch:yang-patch\":{\"edit\":[{\"edit-id\":\"1\",\"operation\":\"merge\",\"target\":\"/acme:interfaces/interface=eth" ++ (decimal entry ++ 34 ∷ t))
    (value_onto leaf entry rest)

pub tick_written : (tick : ℕ) → tick_line tick ≡ json_onto (object (tick_json tick)) (10 ∷ [])
unfolding tick_line
tick_written tick = refl

command_written : (k : ℕ) (drawn : Drawn) → command_text k drawn ≡ json_onto (object (command_json k drawn)) (10 ∷ [])
unfolding patch_end
command_written k Tick = tick_written (10 * k)
command_written k (Mtu entry mtu) = merge_onto (mtu_leaf mtu) entry (patch_end k)
command_written k (Enabled entry true) = merge_onto (enabled_leaf true) entry (patch_end k)
command_written k (Enabled entry false) = merge_onto (enabled_leaf false) entry (patch_end k)
command_written k (Removal entry) = edit_head_onto (codes "remove") entry (patch_end k)

-- ---- the numbers in them

-- what a command does to one of 64 entries, with an mtu of 16 bits
abbrev IsSmall : Drawn → Type 0
IsSmall Tick = ⊤
IsSmall (Mtu entry mtu) = (entry < 64) × (mtu < 65536)
IsSmall (Enabled entry enabled) = entry < 64
IsSmall (Removal entry) = entry < 64

drawn_is_small : (draw : ℕ) → IsSmall (drawn_by draw)
drawn_is_small draw =
    let kind = draw / 64 % 4 in
    let entry = draw % 64 in
    let rest = draw / 256 in
    cond_both (kind == 0) Tick (cond (kind == 1) (Mtu entry (576 + rest % 8192)) (cond (kind == 2) (Enabled entry (rest % 2 == 0)) (Removal entry))) IsSmall (λ is. tt) (λ other.
    cond_both (kind == 1) (Mtu entry (576 + rest % 8192)) (cond (kind == 2) (Enabled entry (rest % 2 == 0)) (Removal entry)) IsSmall (λ is. (omega arith, omega arith)) (λ third.
    cond_both (kind == 2) (Enabled entry (rest % 2 == 0)) (Removal entry) IsSmall (λ is. omega arith) (λ last. omega arith)))

command_plain : (k : ℕ) (drawn : Drawn) → k ≤ 10000 → IsSmall drawn → is_plain_json (object (command_json k drawn)) ≡ true
command_plain k Tick low small = rw (lt-ltb (10 * k) (2 ^ 64) (omega arith))
command_plain k (Mtu entry mtu) low small =
    let few : entry < 2 ^ 64 = omega (arith, small.0) in
    rw (decimal_is_plain k (omega arith), decimal_is_plain entry few, lt-ltb mtu (2 ^ 64) (omega (arith, small.1)))
command_plain k (Enabled entry enabled) low small = rw (decimal_is_plain k (omega arith), decimal_is_plain entry (omega arith))
command_plain k (Removal entry) low small = rw (decimal_is_plain k (omega arith), decimal_is_plain entry (omega arith))

command_shallow : (k : ℕ) (drawn : Drawn) → nat_le (tree.depth (outline (object (command_json k drawn)))) max_depth ≡ true
command_shallow k Tick = refl
command_shallow k (Mtu entry mtu) = refl
command_shallow k (Enabled entry enabled) = refl
command_shallow k (Removal entry) = refl

-- ---- their lengths

five_long : (a b c d e : List ℕ) → length (a ++ b ++ c ++ d ++ e) ≡ length a + length b + length c + length d + length e
five_long a b c d e = simp length-append

short_number : (n : ℕ) → n < 1000000 → length (decimal n) ≤ 6
short_number n h = length-decimal-le 6 n (omega arith) (omega arith) (omega arith)

edit_head_short : (operation : List ℕ) (entry : ℕ) → length operation ≤ 6 → entry < 64 → length (edit_head operation entry) ≤ 200
unfolding edit_head
edit_head_short operation entry short small =
    let number = short_number entry (omega arith) in
    let all = five_long (codes "{\"patch\":{\"ietf-yang-patch:yang-patch\":{\"edit\":[{\"edit-id\":\"1\",\"operation\":\"") operation (codes "\",\"target\":\"/acme:interfaces/interface=eth") (decimal entry) (codes "\"") in
    subst (λ n. n ≤ 200) (sym all) (omega (arith, short, number))

value_short : (leaf : List ℕ) (entry : ℕ) → length leaf ≤ 20 → entry < 64 → length (value_of leaf entry) ≤ 100
unfolding value_of
value_short leaf entry short small =
    let number = short_number entry (omega arith) in
    let all = five_long (codes ",\"value\":{\"acme:interface\":[{") leaf (codes ",\"name\":\"eth") (decimal entry) (codes "\"}]}") in
    subst (λ n. n ≤ 100) (sym all) (omega (arith, short, number))

three_long : (a b c : List ℕ) → length (a ++ b ++ c) ≡ length a + length b + length c
three_long a b c = simp length-append

patch_end_short : (k : ℕ) → k ≤ 10000 → length (patch_end k) ≤ 100
unfolding patch_end
patch_end_short k low = subst (λ n. n ≤ 100) (sym (three_long (codes "}],\"patch-id\":\"") (decimal k) (codes "\"}}}\n"))) (omega (arith, short_number k (omega arith)))

pub tick_short : (tick : ℕ) → tick < 1000000 → length (tick_line tick) ≤ 100
unfolding tick_line
tick_short tick low = subst (λ n. n ≤ 100) (sym (three_long (codes "{\"tick\":") (decimal tick) (codes "}\n"))) (omega (arith, short_number tick low))

merge_short : (leaf : List ℕ) (k entry : ℕ) → k ≤ 10000 → entry < 64 → length leaf ≤ 20 → length (edit_head (codes "merge") entry ++ value_of leaf entry ++ patch_end k) ≤ 400
merge_short leaf k entry low small short =
    omega (arith, three_long (edit_head (codes "merge") entry) (value_of leaf entry) (patch_end k), edit_head_short (codes "merge") entry (omega arith) small, value_short leaf entry short small, patch_end_short k low)

mtu_leaf_short : (mtu : ℕ) → mtu < 65536 → length (mtu_leaf mtu) ≤ 20
mtu_leaf_short mtu low = omega (arith, length-append (codes "\"mtu\":") (decimal mtu), short_number mtu (omega arith))

command_short : (k : ℕ) (drawn : Drawn) → k ≤ 10000 → IsSmall drawn → length (command_text k drawn) ≤ 400
command_short k Tick low small = omega (arith, tick_short (10 * k) (omega arith))
command_short k (Mtu entry mtu) low small = merge_short (mtu_leaf mtu) k entry low small.0 (mtu_leaf_short mtu small.1)
command_short k (Enabled entry true) low small = merge_short (enabled_leaf true) k entry low small (omega arith)
command_short k (Enabled entry false) low small = merge_short (enabled_leaf false) k entry low small (omega arith)
command_short k (Removal entry) low small =
    omega (arith, length-append (edit_head (codes "remove") entry) (patch_end k), edit_head_short (codes "remove") entry (omega arith) small, patch_end_short k low)

-- ---- what they say

tick_read : (tick : ℕ) → tick < 2 ^ 64 → read_back (object (tick_json tick)) ≡ Ok (object (tick_json tick))
tick_read tick small = ap (λ (o : Option Num). or_fault NotJson (option_map object (option_and_then (λ d. Some (member (codes "tick") d no_members)) (option_map number o)))) (number_of-decimal tick small)

tick_said : (tick : ℕ) → tick ≤ tick_limit → whole_said 0 tick_limit (number (unsigned tick)) ≡ Ok tick
tick_said tick low = ap (λ b. cond b (Ok tick) (Err Limit)) (and_from (nat_le 0 tick) (nat_le tick tick_limit) (le-leb 0 tick (omega arith)) (le-leb tick tick_limit low))

tick_taken : (before : List Command) (tick : ℕ) → tick < 1000000 → line_taken (running before) (read_back (object (tick_json tick))) ≡ Ok (running (before ++ commands.Tick tick ∷ []))
tick_taken before tick low =
    ap (line_taken (running before)) (tick_read tick (omega arith))
    ∙ ap (λ s. at_stage (Some Before) (said_map (with_command (running before)) (said_map commands.Tick s))) (tick_said tick (omega arith))

mtu_read : (k entry mtu : ℕ) → mtu < 2 ^ 64 → read_back (object (command_json k (Mtu entry mtu))) ≡ Ok (object (command_json k (Mtu entry mtu)))
mtu_read k entry mtu small = rw (number_of-decimal mtu small)

command_taken : (before : List Command) (k : ℕ) (drawn : Drawn) → k ≤ 10000 → IsSmall drawn → line_taken (running before) (read_back (object (command_json k drawn))) ≡ Ok (running (before ++ drawn_command k drawn ∷ []))
command_taken before k Tick low small = tick_taken before (10 * k) (omega arith)
command_taken before k (Mtu entry mtu) low small = ap (line_taken (running before)) (mtu_read k entry mtu (omega (arith, small.1)))
command_taken before k (Enabled entry enabled) low small = refl
command_taken before k (Removal entry) low small = refl

-- ---- one, and many

pub tick_leads : (before : List Command) (tick : ℕ) → tick < 1000000 → Leads (running before) (running (before ++ commands.Tick tick ∷ [])) (tick_line tick) 1
tick_leads before tick low =
    let short : length (json_onto (object (tick_json tick)) (10 ∷ [])) ≤ 65536 = omega (arith, tick_short tick low, ap length (tick_written tick)) in
    subst (λ (text : List ℕ). Leads (running before) (running (before ++ commands.Tick tick ∷ [])) text 1) (sym (tick_written tick))
    (line_leads (running before) (running (before ++ commands.Tick tick ∷ [])) (tick_json tick) (rw (lt-ltb tick (2 ^ 64) (omega arith))) refl short (tick_taken before tick low))

command_leads : (before : List Command) (k : ℕ) (drawn : Drawn) → k ≤ 10000 → IsSmall drawn → Leads (running before) (running (before ++ drawn_command k drawn ∷ [])) (command_text k drawn) 1
command_leads before k drawn low small =
    let short : length (json_onto (object (command_json k drawn)) (10 ∷ [])) ≤ 65536 = omega (arith, command_short k drawn low small, ap length (command_written k drawn)) in
    subst (λ (text : List ℕ). Leads (running before) (running (before ++ drawn_command k drawn ∷ [])) text 1) (sym (command_written k drawn))
    (line_leads (running before) (running (before ++ drawn_command k drawn ∷ [])) (command_json k drawn) (command_plain k drawn low small) (command_shallow k drawn) short (command_taken before k drawn low small))

line_small : (seed k : ℕ) → IsSmall (drawn_by (draw_of (drawn_state seed k)))
line_small seed k = drawn_is_small (draw_of (drawn_state seed k))

pub lines_short : (seed first count : ℕ) → first + count ≤ 10001 → length (flat_map (drawn_line seed) (range_with_len first count)) ≤ 400 * count
lines_short seed first zero within = omega arith
lines_short seed first (suc count) within =
    let here = command_short first (drawn_by (draw_of (drawn_state seed first))) (omega arith) (line_small seed first) in
    omega (arith, here, lines_short seed (first + 1) count (omega arith), length-append (drawn_line seed first) (flat_map (drawn_line seed) (range_with_len (first + 1) count)))

-- so many commands from this number on
pub commands_lead : (seed first count : ℕ) (before : List Command) → first + count ≤ 10001
    → Leads (running before) (running (before ++ map (command_at seed) (range_with_len first count))) (flat_map (drawn_line seed) (range_with_len first count)) count
commands_lead seed first zero before within = leads_same (running before) (running before) (running (before ++ [])) [] 0 0 (ap running (sym (append-nil before))) refl (none_leads (running before))
commands_lead seed first (suc count) before within =
    let next = before ++ command_at seed first ∷ [] in
    let later = map (command_at seed) (range_with_len (first + 1) count) in
    let text = flat_map (drawn_line seed) (range_with_len (first + 1) count) in
    let one = command_leads before first (drawn_by (draw_of (drawn_state seed first))) (omega arith) (line_small seed first) in
    leads_same (running before) (running (next ++ later)) (running (before ++ command_at seed first ∷ later)) (drawn_line seed first ++ text) (1 + count) (suc count)
    (ap running (append_assoc before (command_at seed first ∷ []) later)) (omega arith)
    (then_leads (running before) (running next) (running (next ++ later)) (drawn_line seed first) text 1 count one (commands_lead seed (first + 1) count next (omega arith)))
