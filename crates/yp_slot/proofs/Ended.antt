-- A slot that offers all that is selected: its end isn't owed.
use Rattle.std.proofs.Common.{◌≡◌, ℕ, refl, sym, ap, ◌∙◌, Bool, true, false, ◌&&◌, List, Option, Some, None}
use Rattle.std.specs.Prelude.{if◌then◌else◌}
use Rattle.yp_feed.specs.declared.item.Item.{Item}
use Rattle.yp_feed.specs.declared.item.Item.TheVariants.{Sync, Periodic}
use Rattle.yp_feed.specs.Machine.{FeedState, due_item, first_of, is_at}
use Rattle.yp_journal.specs.History.{JournalState}
use Rattle.yp_schema.specs.declared.schema.SchemaNode.{SchemaNode}
use Rattle.yp_attempt.specs.Tracks.{Track, edit_count, offered_item, roots_in}
use Rattle.yp_moment.specs.Windows.{recorded}
use Rattle.yp_slot.specs.declared.slot.Slot.{Slot}
use Rattle.yp_slot.specs.Slots.{IsSlotOf}

-- a feed that owes its end, and not all that it selects, offers no full update
never_sync : (at a b i d r : Bool) (other : Option Item) → (if at then None else first_of a b i d r false true other) ≡ Some Sync → ⊥
never_sync true a b i d r other e = cc
never_sync false true b i d r other e = cc
never_sync false false true i d r other e = cc
never_sync false false false true d r other e = cc
never_sync false false false false true r other e = cc
never_sync false false false false false true other e = cc
never_sync false false false false false false other e = cc

never_periodic : (at a b i d r : Bool) (other : Option Item) → (if at then None else first_of a b i d r false true other) ≡ Some Periodic → ⊥
never_periodic true a b i d r other e = cc
never_periodic false true b i d r other e = cc
never_periodic false false true i d r other e = cc
never_periodic false false false true d r other e = cc
never_periodic false false false false true r other e = cc
never_periodic false false false false false true other e = cc
never_periodic false false false false false false other e = cc

unsynced : (sync ends : Bool) → (sync && ends) ≡ false → ends ≡ true → sync ≡ false
unsynced true ends apart is = sym is ∙ apart
unsynced false ends apart is = refl

module _ (nodes : List SchemaNode) (state : JournalState) (slot : Slot) (track : Track) (stands : IsSlotOf nodes state slot track) (stamp : ℕ) where
  -- what is offered where the end is owed
  offered_so : track.feed.owed.terminated ≡ true
      → offered_item recorded stamp track
      ≡ (if is_at track.feed.last_full stamp then None else first_of track.feed.owed.started track.feed.owed.modified track.feed.owed.incomplete track.feed.owed.suspended track.feed.owed.resumed false true
      (due_item track.feed.trigger track.feed.last_record track.feed.due (roots_in recorded track) (edit_count recorded track) stamp))
  offered_so ends =
      let sync = unsynced track.feed.owed.sync track.feed.owed.terminated stands.apart ends in
      λ i. if is_at track.feed.last_full stamp then None else first_of track.feed.owed.started track.feed.owed.modified track.feed.owed.incomplete track.feed.owed.suspended track.feed.owed.resumed (sync i) (ends i)
      (due_item track.feed.trigger track.feed.last_record track.feed.due (roots_in recorded track) (edit_count recorded track) stamp)

  lives_by : (track.feed.owed.terminated ≡ true → ⊥) → slot.feed.owed.terminated ≡ false
  lives_by never = ap (λ (f : FeedState). f.owed.terminated) stands.feed ∙ by track.feed.owed.terminated refl
    where
      by : (b : Bool) → track.feed.owed.terminated ≡ b → b ≡ false
      by true is = absurd (never is)
      by false is = refl

  pub sync_lives : offered_item recorded stamp track ≡ Some Sync → slot.feed.owed.terminated ≡ false
  sync_lives offers = lives_by (λ ends. never_sync _ _ _ _ _ _ _ (sym (offered_so ends) ∙ offers))

  pub periodic_lives : offered_item recorded stamp track ≡ Some Periodic → slot.feed.owed.terminated ≡ false
  periodic_lives offers = lives_by (λ ends. never_periodic _ _ _ _ _ _ _ (sym (offered_so ends) ∙ offers))
