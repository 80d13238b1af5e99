-- What holds of patches: the statement of a law.
use Rattle.std.specs.Prelude.{◌≡◌, List, Ok}
use Rattle.yp_base.specs.declared.row.Row.{Row}
use Rattle.yp_schema.specs.declared.schema.SchemaNode.{SchemaNode}
use Rattle.yp_schema.specs.Datastore.{IsDatastore}
use Rattle.yp_patch.specs.declared.patch.Patch.{Patch}
use Rattle.yp_edit.specs.Patches.{applied}

-- a patch leaves a datastore a datastore
abbrev pub PatchesKeepDatastores : Type 0
PatchesKeepDatastores = (nodes : List SchemaNode) (rows after : List Row) (patch : Patch) → IsDatastore nodes rows → applied nodes rows patch ≡ Ok after → IsDatastore nodes after
