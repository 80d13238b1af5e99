-- How many offers may still come at a position, so that they come to an end (RFC 8641 sections 3.1 and 3.3).
use Rattle.std.specs.Prelude.{ℕ, ◌+◌, Bool, true, false, List, [], ◌∷◌, Option, Some, None, if◌then◌else◌}
use Rattle.yp_feed.specs.declared.item.Item.{Item}
use Rattle.yp_feed.specs.declared.owed.Owed.{Owed}
use Rattle.yp_feed.specs.Machine.{due_item, is_at}
use Rattle.yp_attempt.specs.Content.{Content}
use Rattle.yp_attempt.specs.Tracks.{Track, roots_in, edit_count}

-- one where it holds
abbrev pub flag : Bool → ℕ
flag true = 1
flag false = 0

-- how many items are owed
abbrev pub owed_count : Owed → ℕ
owed_count o = flag o.started + (flag o.modified + (flag o.incomplete + (flag o.suspended + (flag o.resumed + (flag o.sync + flag o.terminated)))))

abbrev pub some_count : Option Item → ℕ
some_count None = 0
some_count (Some item) = 1

-- what is due at a stamp, where nothing is owed
abbrev pub due_in : Content → ℕ → Track → Option Item
due_in c stamp track = due_item track.feed.trigger track.feed.last_record track.feed.due (roots_in c track) (edit_count c track) stamp

-- no offer after a full attempt at this stamp; else two for each item owed, since one that is taken may make another due, and one for what is due
abbrev pub weight : Content → ℕ → Track → ℕ
weight c stamp track = if is_at track.feed.last_full stamp then 0 else (owed_count track.feed.owed + owed_count track.feed.owed) + some_count (due_in c stamp track)

-- the same of tracks together
abbrev pub weights : Content → ℕ → List Track → ℕ
weights c stamp [] = 0
weights c stamp (track ∷ tracks) = weight c stamp track + weights c stamp tracks
