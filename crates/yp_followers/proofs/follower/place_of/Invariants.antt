use Rattle.std.proofs.Common.{◌≡◌, ◌≢◌, ℕ, ◌<◌, MatchOption, slice_index_or}
use Rattle.yp_followers.specs.declared.outbox.Outbox.{Outbox}
use Rattle.yp_followers.proofs.follower.place_of.Given as goal

-- none of those so far is the receiver's, or just the one that was found
abbrev pub invariant-loop-place : goal.invariant-loop-place
invariant-loop-place l =
    MatchOption l.found ((other : ℕ) (none : Outbox) → other < l.place → (slice_index_or l.outboxes other none).receiver ≢ l.receiver)
    (λ place. (place < l.place) × ((none : Outbox) → (slice_index_or l.outboxes place none).receiver ≡ l.receiver)
    × ((other : ℕ) (none : Outbox) → other < l.place → other ≢ place → (slice_index_or l.outboxes other none).receiver ≢ l.receiver))
