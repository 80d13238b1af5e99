use Rattle.std.proofs.Common.{◌≡◌, ◌++◌, string_bytes}
use Rattle.std.specs.Vec.Iter.{into_iter_items}
use Rattle.yp_offer_log.specs.Logs.{log_text}
use Rattle.yp_offer_log.proofs.logged.log_text.Given as goal

-- the lines so far and those of what is left are all
abbrev pub invariant-loop-logged : goal.invariant-loop-logged
invariant-loop-logged l = string_bytes l.text ++ log_text l.name l.left (into_iter_items l.logged-iterator) ≡ log_text l.fn.name l.fn.taken l.fn.log.items
