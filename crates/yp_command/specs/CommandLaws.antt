-- What follows of commands: they are of the schema and of the receivers by which they are read, and of these with further ones.
use Rattle.std.proofs.Common.{◌≡◌, ℕ, zero, suc, ◌<◌, ◌≤◌, ◌^◌, true, true≢false, List, [], ◌∷◌, ◌++◌, length, Option, Some, None, option_and_then, slice_get, Result, Ok, Err, refl, sym, arith, codes, IfOk, length-append}
use Rattle.std.proofs.lemmas.Bool.{not-true}
use Rattle.serde_json.specs.Data.{Data}
use Rattle.yp_value.specs.Json.{member_of}
use Rattle.yp_base.specs.Results.{or_fault}
use Rattle.yp_schema.specs.declared.schema.SchemaNode.{SchemaNode}
use Rattle.yp_nacm_text.specs.Faults.{Fault}
use Rattle.yp_nacm_text.specs.Policies.{policy_in}
use Rattle.yp_terms.specs.declared.ask.Ask.{Ask}
use Rattle.yp_patch.specs.Shapes.{patch_in}
use Rattle.yp_time.specs.Ticks.{tick_limit}
use Rattle.yp_journal.specs.declared.command.Command.{Command}
use Rattle.yp_journal.specs.declared.command.Command.TheVariants as commands
use Rattle.yp_journal.specs.declared.receiver.ReceiverInfo.{ReceiverInfo}
use Rattle.yp_journal.specs.History.{IsTakeOf, take_limit}
use Rattle.yp_command.specs.declared.ask.AskPart.TheVariants as parts
use Rattle.yp_command.specs.declared.command.Request.{Request}
use Rattle.yp_command.specs.declared.command.Request.TheVariants.{Tick, Patch, Policy, Establish, Modify, Delete, Kill, Resync, Configure, Reconfigure, Unconfigure, Take}
use Rattle.yp_command.specs.declared.fault.ScriptKind.TheVariants as kinds
use Rattle.yp_command.specs.Asks.{has_only, ask_said, by_said, establish_said}
use Rattle.yp_command.specs.Calls.{id_said, call_said, amend_said, modify_said, delete_said, kill_said, resync_said, receivers_said, configure_said, reconfigure_said, unconfigure_said}
use Rattle.yp_command.specs.Commands.{IsCommandOf}
use Rattle.yp_command.specs.Faults.{both, holding}
use Rattle.yp_command.specs.Names.{receiver_number}
use Rattle.yp_command.specs.NameLaws.{number_within}
use Rattle.yp_command.specs.Requests.{patch_said, sound, policy_said, command_said}
use Rattle.yp_command.specs.SaidLaws.{map_is, map_any, or_is, both_are, any_said, holding_is, where_is, itself_is, then_some, whole_is, whole_there_is}
use Rattle.yp_command.specs.Takes.{is_taker, taker_number, taker_said, count_said, take_said}
use Rattle.yp_command.specs.Words.{has_count, text_at, whole_said}

-- ---- subscriptions

-- a receiver that is named is one of those declared
by_is : (receivers : List ReceiverInfo) (json : Data) → IfOk (by_said receivers json) (λ n. n < length receivers)
by_is receivers json =
    or_is kinds.Member (option_and_then (receiver_number receivers) (text_at (codes "by") json)) (λ n. n < length receivers)
    (then_some (receiver_number receivers) (text_at (codes "by") json) (λ n. n < length receivers) (number_within receivers))

-- a subscription that a line asks for is one of a receiver
asked_is : (start : Option ℕ) (receivers : List ReceiverInfo) (json : Data) (P : ℕ → Type 0) (Q : Command → Type 0) → IfOk (by_said receivers json) P → ((by : ℕ) (ask : Ask) → P by → Q (commands.Establish by ask)) → IfOk (establish_said start receivers json) Q
asked_is start receivers json P Q by each =
    map_is (λ said. commands.Establish said.0 said.1) (holding kinds.Member (has_only parts.Establish json) (both (by_said receivers json) (ask_said start json))) (λ said. P said.0) Q
    (holding_is kinds.Member (has_only parts.Establish json) (both (by_said receivers json) (ask_said start json)) (λ said. P said.0) (λ only.
    both_are (by_said receivers json) (ask_said start json) P (λ ask. Unit {0}) (λ said. P said.0) by (any_said (ask_said start json)) (λ n ask there any. there)))
    (λ said there. each said.0 said.1 there)

-- ---- takes

taker_is : (receivers : List ReceiverInfo) (json : Data) → IfOk (taker_said receivers json) (λ number. is_taker (slice_get receivers number) ≡ true)
taker_is receivers json =
    or_is kinds.Member (option_and_then (taker_number receivers) (text_at (codes "receiver") json)) (λ number. is_taker (slice_get receivers number) ≡ true)
    (then_some (taker_number receivers) (text_at (codes "receiver") json) (λ number. is_taker (slice_get receivers number) ≡ true)
    (λ name. where_is (λ number. is_taker (slice_get receivers number)) (receiver_number receivers name)))

take_at : (receivers : List ReceiverInfo) (number count : ℕ) (found : Option ReceiverInfo) → slice_get receivers number ≡ found → is_taker found ≡ true → (1 ≤ count) × (count ≤ take_limit) → IsTakeOf receivers number count
take_at receivers number count None there is bounds = absurd (true≢false (sym is))
take_at receivers number count (Some info) there is bounds = record {
  info = info;
  there = there;
  by_command = not-true info.auto is;
  some = bounds.0;
  few = bounds.1;
}

-- a take that a line asks for is one of a receiver that takes by commands
take_is : (receivers : List ReceiverInfo) (json : Data) (Q : Command → Type 0) → ((number count : ℕ) → IsTakeOf receivers number count → Q (commands.Take number count)) → IfOk (take_said receivers json) Q
take_is receivers json Q each =
    map_is (λ said. commands.Take said.0 said.1) (holding kinds.Member (has_count 2 json) (both (taker_said receivers json) (count_said json))) (λ said. IsTakeOf receivers said.0 said.1) Q
    (holding_is kinds.Member (has_count 2 json) (both (taker_said receivers json) (count_said json)) (λ said. IsTakeOf receivers said.0 said.1) (λ two.
    both_are (taker_said receivers json) (count_said json) (λ number. is_taker (slice_get receivers number) ≡ true) (λ count. (1 ≤ count) × (count ≤ take_limit)) (λ said. IsTakeOf receivers said.0 said.1)
    (taker_is receivers json) (whole_there_is 1 take_limit (member_of (codes "count") json))
    (λ number count is bounds. take_at receivers number count (slice_get receivers number) refl is bounds)))
    (λ said is. each said.0 said.1 is)

-- ---- commands

patch_is : (nodes : List SchemaNode) (receivers : List ReceiverInfo) (json : Data) → IfOk (patch_said json) (IsCommandOf nodes receivers)
patch_is nodes receivers json =
    map_is commands.Edit (or_fault kinds.Patch (patch_in json)) (λ patch. patch_in json ≡ Some patch) (IsCommandOf nodes receivers)
    (or_is kinds.Patch (patch_in json) (λ patch. patch_in json ≡ Some patch) (itself_is (patch_in json)))
    (λ patch is. (json, is))

sound_is : {X : Type 0} (r : Result X Fault) → IfOk (sound r) (λ x. r ≡ Ok x)
sound_is (Ok x) = refl
sound_is (Err fault) = tt

policy_is : (nodes : List SchemaNode) (receivers : List ReceiverInfo) (json : Data) → IfOk (policy_said nodes json) (IsCommandOf nodes receivers)
policy_is nodes receivers json = map_is commands.Rules (sound (policy_in nodes json)) (λ policy. policy_in nodes json ≡ Ok policy) (IsCommandOf nodes receivers) (sound_is (policy_in nodes json)) (λ policy is. (json, is))

establish_is : (nodes : List SchemaNode) (start : Option ℕ) (receivers : List ReceiverInfo) (json : Data) → IfOk (establish_said start receivers json) (IsCommandOf nodes receivers)
establish_is nodes start receivers json =
    asked_is start receivers json (λ n. n < length receivers) (IsCommandOf nodes receivers) (by_is receivers json) (λ n ask there. there)

-- a call about a subscription is one of a receiver
called_is : (receivers : List ReceiverInfo) (json : Data) → IfOk (both (by_said receivers json) (id_said json)) (λ said. said.0 < length receivers)
called_is receivers json = both_are (by_said receivers json) (id_said json) (λ n. n < length receivers) (λ id. Unit {0}) (λ said. said.0 < length receivers) (by_is receivers json) (any_said (id_said json)) (λ n id there any. there)

call_is : (receivers : List ReceiverInfo) (json : Data) → IfOk (call_said receivers json) (λ said. said.0 < length receivers)
call_is receivers json = holding_is kinds.Member (has_only parts.Call json) (both (by_said receivers json) (id_said json)) (λ said. said.0 < length receivers) (λ only. called_is receivers json)

modify_is : (nodes : List SchemaNode) (start : Option ℕ) (receivers : List ReceiverInfo) (json : Data) → IfOk (modify_said start receivers json) (IsCommandOf nodes receivers)
modify_is nodes start receivers json =
    let said = both (both (by_said receivers json) (id_said json)) (amend_said start json) in
    map_is (λ said. commands.Modify said.0.0 said.0.1 said.1) (holding kinds.Member (has_only parts.Modify json) said) (λ said. said.0.0 < length receivers) (IsCommandOf nodes receivers)
    (holding_is kinds.Member (has_only parts.Modify json) said (λ said. said.0.0 < length receivers) (λ only.
    both_are (both (by_said receivers json) (id_said json)) (amend_said start json) (λ said. said.0 < length receivers) (λ amend. Unit {0}) (λ said. said.0.0 < length receivers)
    (called_is receivers json) (any_said (amend_said start json)) (λ call amend there any. there)))
    (λ said there. there)

delete_is : (nodes : List SchemaNode) (receivers : List ReceiverInfo) (json : Data) → IfOk (delete_said receivers json) (IsCommandOf nodes receivers)
delete_is nodes receivers json = map_is (λ said. commands.Delete said.0 said.1) (call_said receivers json) (λ said. said.0 < length receivers) (IsCommandOf nodes receivers) (call_is receivers json) (λ said there. there)

kill_is : (nodes : List SchemaNode) (receivers : List ReceiverInfo) (json : Data) → IfOk (kill_said receivers json) (IsCommandOf nodes receivers)
kill_is nodes receivers json = map_is (λ said. commands.Kill said.0 said.1) (call_said receivers json) (λ said. said.0 < length receivers) (IsCommandOf nodes receivers) (call_is receivers json) (λ said there. there)

resync_is : (nodes : List SchemaNode) (receivers : List ReceiverInfo) (json : Data) → IfOk (resync_said receivers json) (IsCommandOf nodes receivers)
resync_is nodes receivers json = map_is (λ said. commands.Resync said.0 said.1) (call_said receivers json) (λ said. said.0 < length receivers) (IsCommandOf nodes receivers) (call_is receivers json) (λ said there. there)

-- one is configured where there are fewer receivers than numbers of 32 bits
configure_is : (nodes : List SchemaNode) (start : Option ℕ) (receivers : List ReceiverInfo) (json : Data) → length receivers < 2 ^ 32 → IfOk (configure_said start json) (IsCommandOf nodes receivers)
configure_is nodes start receivers json few =
    map_any (λ said. commands.Configure said.0.0 said.0.1 said.1) (holding kinds.Member (has_only parts.Configure json) (both (both (id_said json) (receivers_said json)) (ask_said start json))) (IsCommandOf nodes receivers) (λ said. few)

reconfigure_is : (nodes : List SchemaNode) (start : Option ℕ) (receivers : List ReceiverInfo) (json : Data) → IfOk (reconfigure_said start json) (IsCommandOf nodes receivers)
reconfigure_is nodes start receivers json =
    map_any (λ said. commands.Reconfigure said.0 said.1) (holding kinds.Member (has_only parts.Reconfigure json) (both (id_said json) (amend_said start json))) (IsCommandOf nodes receivers) (λ said. tt)

unconfigure_is : (nodes : List SchemaNode) (receivers : List ReceiverInfo) (json : Data) → IfOk (unconfigure_said json) (IsCommandOf nodes receivers)
unconfigure_is nodes receivers json = map_any commands.Unconfigure (holding kinds.Member (has_only parts.Unconfigure json) (id_said json)) (IsCommandOf nodes receivers) (λ id. tt)

-- a command that is asked for is one of the schema and of the receivers by which it is read
pub command_is : (nodes : List SchemaNode) (start : Option ℕ) (receivers : List ReceiverInfo) (request : Request Data) → length receivers < 2 ^ 32 → IfOk (command_said nodes start receivers request) (IsCommandOf nodes receivers)
command_is nodes start receivers (Tick json) few = map_is commands.Tick (whole_said 0 tick_limit json) (λ n. (0 ≤ n) × (n ≤ tick_limit)) (IsCommandOf nodes receivers) (whole_is 0 tick_limit json) (λ n bounds. bounds.1)
command_is nodes start receivers (Patch json) few = patch_is nodes receivers json
command_is nodes start receivers (Policy json) few = policy_is nodes receivers json
command_is nodes start receivers (Establish json) few = establish_is nodes start receivers json
command_is nodes start receivers (Modify json) few = modify_is nodes start receivers json
command_is nodes start receivers (Delete json) few = delete_is nodes receivers json
command_is nodes start receivers (Kill json) few = kill_is nodes receivers json
command_is nodes start receivers (Resync json) few = resync_is nodes receivers json
command_is nodes start receivers (Configure json) few = configure_is nodes start receivers json few
command_is nodes start receivers (Reconfigure json) few = reconfigure_is nodes start receivers json
command_is nodes start receivers (Unconfigure json) few = unconfigure_is nodes receivers json
command_is nodes start receivers (Take json) few = take_is receivers json (IsCommandOf nodes receivers) (λ number count is. is)

-- ---- further receivers

-- an element stays at its place where others come after it
found_still : {X : Type 0} (xs more : List X) (i : ℕ) (x : X) → slice_get xs i ≡ Some x → slice_get (xs ++ more) i ≡ Some x
found_still [] more i x is = cc
found_still (y ∷ xs) more zero x is = is
found_still (y ∷ xs) more (suc i) x is = found_still xs more i x is

-- a number of a receiver stays one
within_more : (receivers : List ReceiverInfo) (receiver : ReceiverInfo) (by : ℕ) → by < length receivers → by < length (receivers ++ receiver ∷ [])
within_more receivers receiver by is = omega (arith, is, length-append receivers (receiver ∷ []))

-- a command stays one where a receiver is declared after it
pub of_more : (nodes : List SchemaNode) (receivers : List ReceiverInfo) (receiver : ReceiverInfo) (command : Command) → length (receivers ++ receiver ∷ []) < 2 ^ 32 → IsCommandOf nodes receivers command → IsCommandOf nodes (receivers ++ receiver ∷ []) command
of_more nodes receivers receiver (commands.Tick tick) few is = is
of_more nodes receivers receiver (commands.Edit patch) few is = is
of_more nodes receivers receiver (commands.Rules policy) few is = is
of_more nodes receivers receiver (commands.Establish by ask) few is = within_more receivers receiver by is
of_more nodes receivers receiver (commands.Modify by id amend) few is = within_more receivers receiver by is
of_more nodes receivers receiver (commands.Delete by id) few is = within_more receivers receiver by is
of_more nodes receivers receiver (commands.Kill by id) few is = within_more receivers receiver by is
of_more nodes receivers receiver (commands.Resync by id) few is = within_more receivers receiver by is
of_more nodes receivers receiver (commands.Configure id names ask) few is = few
of_more nodes receivers receiver (commands.Reconfigure id amend) few is = is
of_more nodes receivers receiver (commands.Unconfigure id) few is = is
of_more nodes receivers receiver (commands.Take number count) few is = record {
  info = is.info;
  there = found_still receivers (receiver ∷ []) number is.info is.there;
  by_command = is.by_command;
  some = is.some;
  few = is.few;
}
