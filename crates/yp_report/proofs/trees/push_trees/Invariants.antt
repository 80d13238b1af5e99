use Rattle.std.proofs.Common.{◌≡◌, ◌++◌, [], string_bytes}
use Rattle.std.specs.List.{AllByRecursion, flat_map}
use Rattle.yp_schema.specs.Datastore.{AreWritable}
use Rattle.yp_report.specs.Report.{tree_text}
use Rattle.yp_report.proofs.trees.push_trees.Given as goal

-- the lines so far and those that are left are all
abbrev pub invariant-loop-id : goal.invariant-loop-id
invariant-loop-id l = record {
  can : AllByRecursion (λ tree. AreWritable l.schema [] tree.1) l.left;
  text : string_bytes l.text ++ flat_map (tree_text l.schema l.name) l.left ≡ string_bytes l.fn.text ++ flat_map (tree_text l.schema l.name) l.fn.trees;
}
