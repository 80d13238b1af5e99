-- The lines of the setting and of the subscriptions, and what they say.
use Rattle.std.proofs.Common.{◌≡◌, ℕ, ◌+◌, ◌≤◌, true, List, [], ◌∷◌, ◌++◌, length, Some, unwrap_or, Ok, codes, refl, sym, ap, subst, ◌∙◌, arith}
use Rattle.std.specs.Fmt.{digits}
use Rattle.jiff_core.specs.Calendar.{days_from_civil, day_count, days_of_years, days_of_months}
use Rattle.serde_json.specs.Data.{unsigned, Data, null, boolean, number, string, array, object, no_items, item, Members, no_members, member}
use Rattle.serde_json.specs.Read.{of_json}
use Rattle.serde_json.specs.Written.{outline}
use Rattle.serde_json.proofs.Numbers.{number_of-decimal}
use Rattle.yp_gen.specs.Scripts.{setting_text, subscriptions_text}
use Rattle.yp_time.specs.Instants.{start_in}
use Rattle.yp_schema.specs.Reading.{schema_of}
use Rattle.yp_journal.specs.declared.command.Command.{Command}
use Rattle.yp_script.specs.declared.stage.Stage.TheVariants.{Started, Schemas, Receivers, Before}
use Rattle.yp_script.specs.Script.{Progress, no_progress, line_taken, schema_said}
use Rattle.yp_command.specs.Faults.{said_map}
use Rattle.yp_drawn.specs.Setting.{setting_start, interface_nodes, auto_receiver, two_receivers, first_subscription, second_subscription, enabled_filter}
use Rattle.yp_drawn.proofs.Steps.{Leads, read_back, line_leads, then_leads}
use Rattle.yp_drawn.proofs.Texts.{json_onto}

-- ---- the JSON of the lines, with members in the order in which they are written

abbrev with_text : List ℕ → List ℕ → Members → Members
with_text name text more = member name (string text) more

abbrev start_json : Members
start_json = with_text (codes "start") (codes "2026-01-01T00:00:00Z") no_members

abbrev node_json : List ℕ → List ℕ → Members → Data
node_json path kind more = object (with_text (codes "path") path (with_text (codes "kind") kind more))

abbrev leaf_json : List ℕ → List ℕ → Members → Data
leaf_json path ty more = node_json path (codes "leaf") (with_text (codes "type") ty more)

abbrev nodes_json : Data
nodes_json = array (
    item (node_json (codes "/acme:interfaces") (codes "container") no_members) (
    item (node_json (codes "/acme:interfaces/interface") (codes "list") (member (codes "keys") (array (item (string (codes "name")) no_items)) no_members)) (
    item (leaf_json (codes "/acme:interfaces/interface/name") (codes "string") no_members) (
    item (leaf_json (codes "/acme:interfaces/interface/mtu") (codes "uint16") no_members) (
    item (leaf_json (codes "/acme:interfaces/interface/enabled") (codes "boolean") no_members) (
    item (leaf_json (codes "/acme:interfaces/interface/secret") (codes "string") (member (codes "deny-all") (boolean true) no_members)) (
    item (node_json (codes "/acme:interfaces/interface/stats") (codes "container") no_members) (
    item (leaf_json (codes "/acme:interfaces/interface/stats/in") (codes "uint64") no_members) no_items))))))))

abbrev schema_json : Members
schema_json = member (codes "schema") nodes_json no_members

abbrev receiver_json : List ℕ → List ℕ → Members
receiver_json name user =
    member (codes "receiver") (object (with_text (codes "name") name (with_text (codes "user") user (member (codes "queue") (number (unsigned 8)) (with_text (codes "take") (codes "auto") no_members))))) no_members

abbrev establish_json : List ℕ → Members → Members
establish_json by more = member (codes "establish") (object (with_text (codes "by") by (with_text (codes "datastore") (codes "ietf-datastores:operational") more))) no_members

abbrev first_json : Members
first_json = establish_json (codes "r1") (member (codes "on-change") (object no_members) no_members)

abbrev second_json : Members
second_json = establish_json (codes "r2") (member (codes "datastore-subtree-filter") enabled_filter (member (codes "on-change") (object (member (codes "dampening-period") (number (unsigned 50)) no_members)) no_members))

-- ---- what they say

-- the part of the schema, with the members of each object in order
unfoldable pub nodes_part : Data
nodes_part = unwrap_or (of_json (outline nodes_json)) null

abbrev started : Progress
started = record no_progress { stage = Started; start = Some setting_start }

abbrev with_schema : Progress
with_schema = record started { stage = Schemas; parts = nodes_part ∷ []; schema = interface_nodes }

abbrev with_one : Progress
with_one = record with_schema { stage = Receivers; receivers = auto_receiver (codes "r1") (codes "ann") ∷ [] }

abbrev with_two : Progress
with_two = record with_schema { stage = Receivers; receivers = two_receivers }

-- the setting, and these commands
abbrev pub running : List Command → Progress
running before = record with_two { stage = Before; before = before }

start_taken : line_taken no_progress (read_back (object start_json)) ≡ Ok started
unfolding start_in days_from_civil day_count days_of_years days_of_months
start_taken = refl

nodes_read : read_back (object schema_json) ≡ Ok (object (member (codes "schema") nodes_part no_members))
unfolding nodes_part
nodes_read = refl

nodes_compiled : schema_of (nodes_part ∷ []) ≡ Ok interface_nodes
unfolding nodes_part interface_nodes
nodes_compiled = refl

schema_taken : line_taken started (read_back (object schema_json)) ≡ Ok with_schema
schema_taken =
    ap (line_taken started) nodes_read
    ∙ ap (λ s. said_map (λ (progress : Progress). record progress { stage = Schemas }) (said_map (λ nodes. record started { parts = nodes_part ∷ []; schema = nodes }) (schema_said s))) nodes_compiled

first_receiver : line_taken with_schema (read_back (object (receiver_json (codes "r1") (codes "ann")))) ≡ Ok with_one
first_receiver = rw (number_of-decimal 8 (omega arith))

second_receiver : line_taken with_one (read_back (object (receiver_json (codes "r2") (codes "bob")))) ≡ Ok with_two
second_receiver = rw (number_of-decimal 8 (omega arith))

first_taken : line_taken with_two (read_back (object first_json)) ≡ Ok (running (first_subscription ∷ []))
first_taken = refl

second_taken : line_taken (running (first_subscription ∷ [])) (read_back (object second_json)) ≡ Ok (running (first_subscription ∷ second_subscription ∷ []))
second_taken = rw (number_of-decimal 50 (omega arith))

-- ---- the texts

abbrev line_of : Members → List ℕ
line_of ms = json_onto (object ms) (10 ∷ [])

setting_lines : setting_text ≡ line_of start_json ++ line_of schema_json ++ line_of (receiver_json (codes "r1") (codes "ann")) ++ line_of (receiver_json (codes "r2") (codes "bob"))
unfolding setting_text digits
setting_lines = refl

subscription_lines : subscriptions_text ≡ line_of first_json ++ line_of second_json
unfolding subscriptions_text digits
subscription_lines = refl

start_leads : Leads no_progress started (line_of start_json) 1
start_leads = line_leads no_progress started start_json refl refl (omega arith) start_taken

schema_leads : Leads started with_schema (line_of schema_json) 1
schema_leads = line_leads started with_schema schema_json refl refl (omega arith) schema_taken

receivers_short : (length (line_of (receiver_json (codes "r1") (codes "ann"))) ≤ 65536) × (length (line_of (receiver_json (codes "r2") (codes "bob"))) ≤ 65536)
unfolding digits
receivers_short = (omega arith, omega arith)

second_short : length (line_of second_json) ≤ 65536
unfolding digits
second_short = omega arith

setting_leads : Leads no_progress with_two setting_text 4
setting_leads =
    let one = line_leads with_schema with_one (receiver_json (codes "r1") (codes "ann")) refl refl receivers_short.0 first_receiver in
    let two = line_leads with_one with_two (receiver_json (codes "r2") (codes "bob")) refl refl receivers_short.1 second_receiver in
    let begun = then_leads no_progress started with_schema (line_of start_json) (line_of schema_json) 1 1 start_leads schema_leads in
    let named = then_leads no_progress with_schema with_one (line_of start_json ++ line_of schema_json) (line_of (receiver_json (codes "r1") (codes "ann"))) 2 1 begun one in
    subst (λ (text : List ℕ). Leads no_progress with_two text 4) (sym setting_lines)
    (then_leads no_progress with_one with_two (line_of start_json ++ line_of schema_json ++ line_of (receiver_json (codes "r1") (codes "ann"))) (line_of (receiver_json (codes "r2") (codes "bob"))) 3 1 named two)

subscriptions_lead : Leads with_two (running (first_subscription ∷ second_subscription ∷ [])) subscriptions_text 2
subscriptions_lead =
    subst (λ (text : List ℕ). Leads with_two (running (first_subscription ∷ second_subscription ∷ [])) text 2) (sym subscription_lines)
    (then_leads with_two (running (first_subscription ∷ [])) (running (first_subscription ∷ second_subscription ∷ [])) (line_of first_json) (line_of second_json) 1 1
    (line_leads with_two (running (first_subscription ∷ [])) first_json refl refl (omega arith) first_taken)
    (line_leads (running (first_subscription ∷ [])) (running (first_subscription ∷ second_subscription ∷ [])) second_json refl refl second_short second_taken))

pub head_leads : Leads no_progress (running (first_subscription ∷ second_subscription ∷ [])) (setting_text ++ subscriptions_text) 6
head_leads = then_leads no_progress with_two (running (first_subscription ∷ second_subscription ∷ [])) setting_text subscriptions_text 4 2 setting_leads subscriptions_lead

pub head_short : length setting_text + length subscriptions_text ≤ 2000
unfolding setting_text subscriptions_text
head_short = omega arith
