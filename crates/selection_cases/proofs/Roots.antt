-- Roots end as rows of the schema do, after a step where they did before; and then they are paths of the schema.
use Rattle.std.proofs.Common.{◌≡◌, true, List, [], ◌∷◌, sym, subst}
use Rattle.std.specs.List.{All, AllByRecursion}
use Rattle.std.proofs.lemmas.List.Elements.{All-nil, All-cons}
use Rattle.yp_base.specs.declared.path.Seg.{Seg}
use Rattle.yp_base.specs.declared.row.Row.{Row}
use Rattle.yp_schema.specs.declared.schema.SchemaNode.{SchemaNode}
use Rattle.yp_schema.specs.Datastore.{IsDatastore, is_path_of}
use Rattle.yp_schema.specs.SchemaLaws.{row_path}
use Rattle.yp_filter.specs.Filters.{Asked}
use Rattle.yp_nacm.specs.declared.compile.UserRules.{UserRules}
use Rattle.yp_nacm.specs.AccessLaws.{readable_above}
use Rattle.yp_nacm.specs.Decision.{is_readable}
use Rattle.yp_kept.specs.KeptLaws.{kept_datastore}
use Rattle.yp_kept.specs.Selection.{selection}
use Rattle.yp_touch.specs.declared.root.Root.{Root}
use Rattle.yp_touch.specs.Absorbed.{EndsAsRow, absorbed, paths_of}
use Rattle.yp_touch.specs.Windows.{RootsEndAsRows}

-- what ends as a row does is a path of the schema
pub ends_are_paths : (nodes : List SchemaNode) (paths : List (List Seg)) → AllByRecursion (EndsAsRow nodes) paths → All (λ path. is_path_of nodes path ≡ true) paths
ends_are_paths nodes [] all = All-nil (λ path. is_path_of nodes path ≡ true)
ends_are_paths nodes (path ∷ paths) all =
    All-cons (λ path. is_path_of nodes path ≡ true) path paths
    (row_path nodes (record { path = path; value = all.0.0 }) (record { goes = all.0.1 }))
    (ends_are_paths nodes paths all.1)

-- roots that absorb a step of what a filter selects for a user
pub roots_end : (nodes : List SchemaNode) (asked : Asked) (rules : UserRules) (roots later : List Root) (before after : List Row) → RootsEndAsRows → IsDatastore nodes before → IsDatastore nodes after
    → AllByRecursion (EndsAsRow nodes) (paths_of roots)
    → later ≡ absorbed roots (selection nodes asked (is_readable nodes rules) before) (selection nodes asked (is_readable nodes rules) after)
    → AllByRecursion (EndsAsRow nodes) (paths_of later)
roots_end nodes asked rules roots later before after law old new ends is =
    let may = is_readable nodes rules in
    let closed = readable_above nodes rules in
    subst (λ (roots : List Root). AllByRecursion (EndsAsRow nodes) (paths_of roots)) (sym is)
    (law nodes roots (selection nodes asked may before) (selection nodes asked may after) (kept_datastore nodes asked may before closed old) (kept_datastore nodes asked may after closed new) ends)
