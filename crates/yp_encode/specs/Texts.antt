-- Parts of a line, as texts.
use Rattle.std.specs.Prelude.{ℕ, List, ◌++◌, Bool, true, codes, decimal}
use Rattle.json.specs.Print.{quoted}
use Rattle.serde_json.specs.Written.{members_text}
use Rattle.yp_base.specs.declared.notice.Change.{Change}
use Rattle.yp_schema.specs.declared.schema.SchemaNode.{SchemaNode}
use Rattle.yp_path.specs.Targets.{target_text}
use Rattle.yp_time.specs.Instants.{event_text}
use Rattle.yp_encode.specs.Lines.{operation_word, mark}

-- what an edit has before its value
abbrev pub head_text : List SchemaNode → ℕ → Change → List ℕ
head_text nodes n change =
    codes "{\"edit-id\":" ++ (quoted (decimal n) ++ (codes ",\"operation\":" ++ (quoted (operation_word change.kind) ++ (codes ",\"target\":" ++ quoted (target_text nodes change.target)))))

-- what a line has before the members of its body
abbrev pub opening_text : ℕ → ℕ → List ℕ → List ℕ
opening_text start tick name = codes "{\"ietf-restconf:notification\":{\"eventTime\":" ++ (quoted (event_text start tick) ++ (codes "," ++ (quoted name ++ codes ":{")))

-- the members of a full update that carries a text, and the brace behind them
abbrev pub full_text : List ℕ → ℕ → List ℕ
full_text contents id = codes "\"datastore-contents\":" ++ (contents ++ (codes ",\"id\":" ++ (decimal id ++ codes "}")))

-- the same of a change update
abbrev pub changes_text : List ℕ → ℕ → Bool → List ℕ
changes_text patch id incomplete = codes "\"datastore-changes\":" ++ (patch ++ (codes ",\"id\":" ++ (decimal id ++ members_text true (mark incomplete))))
