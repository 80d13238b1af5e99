-- What the lines say that ask for subscriptions (RFC 8639 section 2.4.2, RFC 8641 sections 4.2 and 4.4.1).
use Rattle.std.specs.Prelude.{ℕ, ℤ, ◌&&◌, ◌||◌, ◌^◌, ◌-◌, List, [], ◌∷◌, Bool, true, false, not, Option, Some, None, option_and_then, Ok, Err, if◌then◌else◌, codes}
use Rattle.serde_json.specs.Data.{Data, boolean, string, array, object, Items, no_items, item, Members, no_members, member}
use Rattle.serde_json.specs.Find.{as_str}
use Rattle.yp_base.specs.declared.notice.Kinds.{Kinds}
use Rattle.yp_base.specs.declared.notice.Trigger.{Trigger}
use Rattle.yp_base.specs.declared.notice.Trigger.TheVariants.{Periodic, OnChange}
use Rattle.yp_value.specs.Json.{member_of}
use Rattle.yp_base.specs.Results.{or_fault}
use Rattle.yp_base.specs.Types.{is_among}
use Rattle.yp_terms.specs.declared.ask.Ask.{Ask}
use Rattle.yp_terms.specs.declared.ask.FilterAsk.{FilterAsk}
use Rattle.yp_terms.specs.declared.ask.FilterAsk.TheVariants.{All, Subtree, XPath}
use Rattle.yp_time.specs.Instants.{anchor_in}
use Rattle.yp_journal.specs.declared.command.Command.{Command}
use Rattle.yp_journal.specs.declared.command.Command.TheVariants.{Establish}
use Rattle.yp_journal.specs.declared.receiver.ReceiverInfo.{ReceiverInfo}
use Rattle.yp_command.specs.declared.ask.AskPart.{AskPart}
use Rattle.yp_command.specs.declared.ask.AskPart.TheVariants as parts
use Rattle.yp_command.specs.declared.fault.ScriptKind.TheVariants as kinds
use Rattle.yp_command.specs.Faults.{Said, said_map, holding, both}
use Rattle.yp_command.specs.Names.{receiver_number}
use Rattle.yp_command.specs.Words.{is_text, text_at, whole_said}

-- ---- members

-- the members for a filter and a trigger
abbrev pub terms : List (List ℕ)
terms = codes "datastore-subtree-filter" ∷ codes "datastore-xpath-filter" ∷ codes "periodic" ∷ codes "on-change" ∷ []

-- the members that a part of the line may have
abbrev pub members_of : AskPart → List (List ℕ)
members_of parts.Establish = codes "by" ∷ codes "datastore" ∷ codes "encoding" ∷ terms
members_of parts.Modify = codes "by" ∷ codes "id" ∷ terms
members_of parts.Call = codes "by" ∷ codes "id" ∷ []
members_of parts.Configure = codes "id" ∷ codes "receivers" ∷ codes "datastore" ∷ codes "encoding" ∷ terms
members_of parts.Reconfigure = codes "id" ∷ terms
members_of parts.Unconfigure = codes "id" ∷ []
members_of parts.Periodic = codes "period" ∷ codes "anchor-time" ∷ []
members_of parts.OnChange = codes "dampening-period" ∷ codes "sync-on-start" ∷ codes "excluded-change" ∷ []
members_of parts.Dampening = codes "dampening-period" ∷ []

-- whether a part may have each of these members
abbrev pub may_have_all : AskPart → Members → Bool
may_have_all part no_members = true
may_have_all part (member name value more) = is_among name (members_of part) && may_have_all part more

-- whether it is an object that has no members but those of a part
abbrev pub has_only : AskPart → Data → Bool
has_only part (object ms) = may_have_all part ms
has_only part other = false

-- a whole number of 32 bits
abbrev pub number_said : Data → Said ℕ
number_said json = whole_said 0 (2 ^ 32 - 1) json

-- one that may not be left out
abbrev pub number_there : Option Data → Said ℕ
number_there None = Err kinds.Member
number_there (Some json) = number_said json

-- ---- "periodic":{"period":N,"anchor-time":T}

-- the ticks from the start to an anchor; without a start there are none
abbrev pub anchor_at : Option ℕ → List ℕ → Option ℤ
anchor_at None text = None
anchor_at (Some start) text = anchor_in start text

abbrev pub anchor_said : Option ℕ → Option Data → Said (Option ℤ)
anchor_said start None = Ok None
anchor_said start (Some (string text)) = said_map (λ anchor. Some anchor) (or_fault kinds.Instant (anchor_at start text))
anchor_said start (Some other) = Err kinds.Member

abbrev pub periodic_said : Option ℕ → Data → Said Trigger
periodic_said start json =
    said_map (λ said. Periodic said.0 said.1)
    (holding kinds.Member (has_only parts.Periodic json) (both (number_there (member_of (codes "period") json)) (anchor_said start (member_of (codes "anchor-time") json))))

-- ---- "on-change":{"dampening-period":N,"sync-on-start":B,"excluded-change":L}

abbrev pub dampening_said : Option Data → Said ℕ
dampening_said None = Ok 0
dampening_said (Some json) = number_said json

abbrev pub sync_said : Option Data → Said Bool
sync_said None = Ok true
sync_said (Some (boolean b)) = Ok b
sync_said (Some other) = Err kinds.Member

-- whether a text is among the items of an array
abbrev pub holds : List ℕ → Items → Bool
holds word no_items = false
holds word (item json more) = is_text (as_str json) word || holds word more

-- the operations of changes (RFC 8072 section 2.5, RFC 8641 section 3.1)
abbrev pub operations : List (List ℕ)
operations = codes "create" ∷ codes "delete" ∷ codes "insert" ∷ codes "move" ∷ codes "replace" ∷ []

-- whether it is an operation that isn't among the items after it
abbrev pub is_once : Option (List ℕ) → Items → Bool
is_once None more = false
is_once (Some word) more = is_among word operations && not (holds word more)

-- whether an array has operations alone, and none twice
abbrev pub are_operations : Items → Bool
are_operations no_items = true
are_operations (item json more) = is_once (as_str json) more && are_operations more

-- the operations that an array names
abbrev pub kinds_in : Items → Kinds
kinds_in ds = record {
  create = holds (codes "create") ds;
  delete = holds (codes "delete") ds;
  insert = holds (codes "insert") ds;
  moved = holds (codes "move") ds;
  replace = holds (codes "replace") ds;
}

abbrev pub excluded_by : Items → Said Kinds
excluded_by ds = if are_operations ds then Ok (kinds_in ds) else Err kinds.Member

abbrev pub excluded_said : Option Data → Said Kinds
excluded_said None = Ok (kinds_in no_items)
excluded_said (Some (array ds)) = excluded_by ds
excluded_said (Some other) = Err kinds.Member

-- a trigger on change, which may have the members of a part
abbrev pub on_change_said : AskPart → Data → Said Trigger
on_change_said part json =
    said_map (λ said. OnChange said.0 said.1.0 said.1.1)
    (holding kinds.Member (has_only part json)
    (both (dampening_said (member_of (codes "dampening-period") json)) (both (sync_said (member_of (codes "sync-on-start") json)) (excluded_said (member_of (codes "excluded-change") json)))))

-- ---- the members of {"establish":E}

-- the trigger: just one, of which one on change may have the members of a part
abbrev pub trigger_by : AskPart → Option ℕ → Option Data → Option Data → Said Trigger
trigger_by part start (Some periodic) None = periodic_said start periodic
trigger_by part start None (Some on_change) = on_change_said part on_change
trigger_by part start None None = Err kinds.Member
trigger_by part start (Some periodic) (Some on_change) = Err kinds.Member

abbrev pub trigger_said : AskPart → Option ℕ → Data → Said Trigger
trigger_said part start json = trigger_by part start (member_of (codes "periodic") json) (member_of (codes "on-change") json)

-- an XPath filter, which is any text, or no filter
abbrev pub xpath_said : Option Data → Said FilterAsk
xpath_said None = Ok All
xpath_said (Some (string text)) = Ok XPath
xpath_said (Some other) = Err kinds.Member

-- the filter: none, an XPath filter, or a subtree filter, which may be any JSON
abbrev pub filter_by : Option Data → Option Data → Said FilterAsk
filter_by None xpath = xpath_said xpath
filter_by (Some json) None = Ok (Subtree json)
filter_by (Some json) (Some xpath) = Err kinds.Member

abbrev pub filter_said : Data → Said FilterAsk
filter_said json = filter_by (member_of (codes "datastore-subtree-filter") json) (member_of (codes "datastore-xpath-filter") json)

abbrev pub datastore_said : Data → Said (List ℕ)
datastore_said json = or_fault kinds.Member (text_at (codes "datastore") json)

-- the encoding, which is JSON where none is given
abbrev pub encoding_by : Option Data → Said (List ℕ)
encoding_by None = Ok (codes "encode-json")
encoding_by (Some json) = or_fault kinds.Member (as_str json)

abbrev pub encoding_said : Data → Said (List ℕ)
encoding_said json = encoding_by (member_of (codes "encoding") json)

-- what is asked for, by its members
abbrev pub ask_of : (List ℕ × List ℕ) × (FilterAsk × Trigger) → Ask
ask_of said = record { encoding = said.0.0; datastore = said.0.1; filter = said.1.0; trigger = said.1.1 }

abbrev pub ask_said : Option ℕ → Data → Said Ask
ask_said start json = said_map ask_of (both (both (encoding_said json) (datastore_said json)) (both (filter_said json) (trigger_said parts.OnChange start json)))

-- the number of the receiver that asks
abbrev pub by_said : List ReceiverInfo → Data → Said ℕ
by_said receivers json = or_fault kinds.Member (option_and_then (receiver_number receivers) (text_at (codes "by") json))

-- the subscription that a line asks for, where the start is at this second, or the least of its faults
abbrev pub establish_said : Option ℕ → List ReceiverInfo → Data → Said Command
establish_said start receivers json = said_map (λ said. Establish said.0 said.1) (holding kinds.Member (has_only parts.Establish json) (both (by_said receivers json) (ask_said start json)))
