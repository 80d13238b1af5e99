use Rattle.std.proofs.Common.{◌≡◌, ◌++◌, map}
use Rattle.std.specs.Vec.Iter.{into_iter_items}
use Rattle.yp_report.specs.Replies.{replied_of}
use Rattle.yp_concurrent.proofs.lanes.add_replies.Given as goal

-- the replies so far and those of the entries that are left are all
abbrev pub invariant-loop-entry : goal.invariant-loop-entry
invariant-loop-entry l = l.replies.items ++ map replied_of (into_iter_items l.entry-iterator) ≡ l.fn.replies.items ++ map replied_of l.fn.entries.items
