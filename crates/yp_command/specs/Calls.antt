-- What the lines say that amend, end and configure subscriptions (RFC 8639 sections 2.4.3 to 2.4.5 and 2.5, RFC 8641 sections 4.4.2 to 4.4.4).
use Rattle.std.specs.Prelude.{ℕ, ◌||◌, List, [], ◌∷◌, Bool, false, Option, Some, None, is_some, Ok, if◌then◌else◌, codes}
use Rattle.serde_json.specs.Data.{Data, array}
use Rattle.yp_base.specs.declared.notice.Trigger.{Trigger}
use Rattle.yp_value.specs.Json.{member_of, texts_in}
use Rattle.yp_base.specs.Results.{or_fault}
use Rattle.yp_base.specs.Types.{are_distinct}
use Rattle.yp_terms.specs.declared.ask.Amend.{Amend}
use Rattle.yp_terms.specs.declared.ask.FilterAsk.{FilterAsk}
use Rattle.yp_journal.specs.declared.command.Command.{Command}
use Rattle.yp_journal.specs.declared.command.Command.TheVariants.{Modify, Delete, Kill, Resync, Configure, Reconfigure, Unconfigure}
use Rattle.yp_journal.specs.declared.receiver.ReceiverInfo.{ReceiverInfo}
use Rattle.yp_command.specs.declared.ask.AskPart.TheVariants as parts
use Rattle.yp_command.specs.declared.fault.ScriptKind.TheVariants as kinds
use Rattle.yp_command.specs.Asks.{has_only, number_there, trigger_said, filter_said, ask_said, by_said}
use Rattle.yp_command.specs.Faults.{Said, said_map, holding, both}
use Rattle.yp_command.specs.Words.{where_true}

-- the id of the subscription that a call is about
abbrev pub id_said : Data → Said ℕ
id_said json = number_there (member_of (codes "id") json)

-- ---- {"delete":M}, {"kill":M}, {"resync":M}

-- the number of the receiver that makes a call, and the id of the subscription that it is about
abbrev pub call_said : List ReceiverInfo → Data → Said (ℕ × ℕ)
call_said receivers json = holding kinds.Member (has_only parts.Call json) (both (by_said receivers json) (id_said json))

abbrev pub delete_said : List ReceiverInfo → Data → Said Command
delete_said receivers json = said_map (λ said. Delete said.0 said.1) (call_said receivers json)

abbrev pub kill_said : List ReceiverInfo → Data → Said Command
kill_said receivers json = said_map (λ said. Kill said.0 said.1) (call_said receivers json)

abbrev pub resync_said : List ReceiverInfo → Data → Said Command
resync_said receivers json = said_map (λ said. Resync said.0 said.1) (call_said receivers json)

-- ---- {"modify":M}

-- whether an object has a member of one of these two names
abbrev pub has_either : List ℕ → List ℕ → Data → Bool
has_either name other json = is_some (member_of name json) || is_some (member_of other json)

-- the filter, where one is given
abbrev pub given_filter_said : Data → Said (Option FilterAsk)
given_filter_said json = if has_either (codes "datastore-subtree-filter") (codes "datastore-xpath-filter") json then said_map (λ filter. Some filter) (filter_said json) else Ok None

-- the trigger, where one is given: of one on change the dampening period alone
abbrev pub given_trigger_said : Option ℕ → Data → Said (Option Trigger)
given_trigger_said start json = if has_either (codes "periodic") (codes "on-change") json then said_map (λ trigger. Some trigger) (trigger_said parts.Dampening start json) else Ok None

-- what a subscription is amended with, by its members
abbrev pub amend_of : Option FilterAsk × Option Trigger → Amend
amend_of said = record { filter = said.0; trigger = said.1 }

abbrev pub amend_said : Option ℕ → Data → Said Amend
amend_said start json = said_map amend_of (both (given_filter_said json) (given_trigger_said start json))

abbrev pub modify_said : Option ℕ → List ReceiverInfo → Data → Said Command
modify_said start receivers json =
    said_map (λ said. Modify said.0.0 said.0.1 said.1) (holding kinds.Member (has_only parts.Modify json) (both (both (by_said receivers json) (id_said json)) (amend_said start json)))

-- ---- {"configure":C}, {"reconfigure":C}, {"unconfigure":C}

-- whether these are one text or more, and none stands twice
abbrev pub are_some_distinct : List (List ℕ) → Bool
are_some_distinct [] = false
are_some_distinct (text ∷ texts) = are_distinct (text ∷ texts)

-- the texts of such an array
abbrev pub distinct_in : Option Data → Option (List (List ℕ))
distinct_in (Some (array ds)) = where_true are_some_distinct (texts_in ds)
distinct_in other = None

-- the names of the receivers that a subscription is configured for; whether each is the name of one is told when the command is done
abbrev pub receivers_said : Data → Said (List (List ℕ))
receivers_said json = or_fault kinds.Member (distinct_in (member_of (codes "receivers") json))

abbrev pub configure_said : Option ℕ → Data → Said Command
configure_said start json =
    said_map (λ said. Configure said.0.0 said.0.1 said.1) (holding kinds.Member (has_only parts.Configure json) (both (both (id_said json) (receivers_said json)) (ask_said start json)))

abbrev pub reconfigure_said : Option ℕ → Data → Said Command
reconfigure_said start json = said_map (λ said. Reconfigure said.0 said.1) (holding kinds.Member (has_only parts.Reconfigure json) (both (id_said json) (amend_said start json)))

abbrev pub unconfigure_said : Data → Said Command
unconfigure_said json = said_map Unconfigure (holding kinds.Member (has_only parts.Unconfigure json) (id_said json))
