-- What each drawn script begins with: its start, the schema of a list of interfaces, two receivers, and a subscription of each.
use Rattle.std.specs.Prelude.{ℕ, List, [], ◌∷◌, Bool, true, false, Option, Some, None, codes}
use Rattle.serde_json.specs.Data.{Data, null, boolean, array, object, no_items, item, no_members, member}
use Rattle.yp_base.specs.declared.leaf_type.LeafType.{LeafType}
use Rattle.yp_base.specs.declared.leaf_type.LeafType.TheVariants.{Bool as Truth, Uint, Text}
use Rattle.yp_base.specs.declared.notice.Trigger.TheVariants.{OnChange}
use Rattle.yp_schema.specs.declared.schema.Kind.{Kind}
use Rattle.yp_schema.specs.declared.schema.Kind.TheVariants.{Container, List as Listing, Leaf}
use Rattle.yp_schema.specs.declared.schema.SchemaNode.{SchemaNode}
use Rattle.yp_terms.specs.declared.ask.Ask.{Ask}
use Rattle.yp_terms.specs.declared.ask.FilterAsk.{FilterAsk}
use Rattle.yp_terms.specs.declared.ask.FilterAsk.TheVariants.{All, Subtree}
use Rattle.yp_journal.specs.declared.command.Command.{Command}
use Rattle.yp_journal.specs.declared.command.Command.TheVariants.{Establish}
use Rattle.yp_journal.specs.declared.receiver.ReceiverInfo.{ReceiverInfo}

-- 2026-01-01T00:00:00Z, in seconds from 1970-01-01T00:00:00Z
abbrev pub setting_start : ℕ
setting_start = 1_767_225_600

-- ---- the schema: its nodes in the byte order of their paths

-- a node without a type: its parent's number, its name and member form, and the numbers of its keys
abbrev pub inner_node : Option ℕ → Kind → List ℕ → List ℕ → List ℕ → SchemaNode
inner_node parent kind name form keys = record { parent = parent; kind = kind; home = codes "acme"; name = name; member = form; keys = keys; ty = None; deny_all = false }

-- a leaf: its parent's number, and whether it has default-deny-all
abbrev pub typed_node : ℕ → List ℕ → LeafType → Bool → SchemaNode
typed_node parent name ty deny_all = record { parent = Some parent; kind = Leaf; home = codes "acme"; name = name; member = name; keys = []; ty = Some ty; deny_all = deny_all }

-- the container `interfaces` with a list of interfaces by name, each with its counters below it
unfoldable pub interface_nodes : List SchemaNode
interface_nodes =
    inner_node None Container (codes "interfaces") (codes "acme:interfaces") []
    ∷ inner_node (Some 0) Listing (codes "interface") (codes "interface") (4 ∷ [])
    ∷ typed_node 1 (codes "enabled") Truth false
    ∷ typed_node 1 (codes "mtu") (Uint 16) false
    ∷ typed_node 1 (codes "name") Text false
    ∷ typed_node 1 (codes "secret") Text true
    ∷ inner_node (Some 1) Container (codes "stats") (codes "stats") []
    ∷ typed_node 6 (codes "in") (Uint 64) false
    ∷ []

-- ---- the receivers, r1 of the user ann and r2 of bob, and their subscriptions

-- a receiver that takes its packets by itself, from a queue of eight
abbrev pub auto_receiver : List ℕ → List ℕ → ReceiverInfo
auto_receiver name user = record { name = name; user = user; places = 8; auto = true }

abbrev pub two_receivers : List ReceiverInfo
two_receivers = auto_receiver (codes "r1") (codes "ann") ∷ auto_receiver (codes "r2") (codes "bob") ∷ []

-- a subscription on change of the operational datastore (RFC 8641 section 4.4.1), with its filter and dampening period
abbrev pub change_ask : FilterAsk → ℕ → Ask
change_ask filter dampening = record {
  encoding = codes "encode-json";
  datastore = codes "ietf-datastores:operational";
  filter = filter;
  trigger = OnChange dampening true (record { create = false; delete = false; insert = false; moved = false; replace = false });
}

-- the filter of the enabled interfaces and their mtu
abbrev pub enabled_filter : Data
enabled_filter =
    object (member (codes "acme:interfaces") (object (member (codes "interface") (array (item
    (object (member (codes "enabled") (boolean true) (member (codes "mtu") (array (item null no_items)) no_members)))
    no_items)) no_members)) no_members)

-- r1 is sent every change
abbrev pub first_subscription : Command
first_subscription = Establish 0 (change_ask All 0)

-- r2 is sent those that the filter keeps, at most one update in half a second
abbrev pub second_subscription : Command
second_subscription = Establish 1 (change_ask (Subtree enabled_filter) 50)
