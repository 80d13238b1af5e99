-- What feeds know of selections of a datastore: the roots of a window of them, its record, and what a receiver makes of that (RFC 8641 sections 3.7 and 3.9).
use Rattle.std.specs.Prelude.{[], length}
use Rattle.yp_base.specs.Paths.{topmost}
use Rattle.yp_base.specs.Rows.{changed_by}
use Rattle.yp_changes.specs.Records.{touched_paths, window_record}
use Rattle.yp_attempt.specs.Content.{Content}

-- the roots are the topmost of the paths that were touched
abbrev pub recorded : Content
recorded = record {
  roots = λ first later. length (topmost (touched_paths [] first later));
  window_record = window_record;
  edits = λ changes. length changes;
  received = λ rows changes. changed_by changes rows;
}
