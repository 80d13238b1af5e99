-- What a look at a slot makes of it, and what it finds.
use Rattle.std.proofs.Common.{◌≡◌, ℕ, refl, sym, ap, subst, ◌∙◌, Bool, true, false, not, ◌&&◌, List, [], length, ⊎_elim, Option, Some, None}
use Rattle.std.specs.Prelude.{if◌then◌else◌, ◌==◌, nat_lt}
use Rattle.std.specs.List.{AllByRecursion}
use Rattle.std.proofs.lemmas.Bool.{and_right}
use Rattle.yp_base.specs.declared.notice.Change.{Change}
use Rattle.yp_schema.specs.declared.schema.SchemaNode.{SchemaNode}
use Rattle.yp_feed.specs.declared.item.Item.{Item}
use Rattle.yp_feed.specs.declared.item.Item.TheVariants.{Changes}
use Rattle.yp_feed.specs.Machine.{FeedState, after_freeze, freezes, frozen, looked, offer_of, resyncs}
use Rattle.yp_touch.specs.declared.root.Root.{Root}
use Rattle.yp_touch.specs.Absorbed.{EndsAsRow, paths_of}
use Rattle.yp_journal.specs.History.{JournalState}
use Rattle.yp_attempt.specs.Tracks.{Track, current, edit_count, freeze_tried, moving, offered_item, rebased, record_in, roots_in}
use Rattle.yp_moment.specs.Windows.{recorded}
use Rattle.yp_slot.specs.declared.records.Record.{Record}
use Rattle.yp_slot.specs.Records.{IsWithText}
use Rattle.yp_slot.specs.declared.slot.Frozen.{Frozen as FrozenHere}
use Rattle.yp_slot.specs.declared.slot.Slot.{Slot}
use Rattle.yp_slot.specs.Slots.{IsSendableRecord, IsRead, IsSlotOf, IsOfferOf, record_at}
use Rattle.yp_slot.proofs.Numbers.{capped, capped_some, capped_many, some_lt, unread_or, freezes_read, same_offer, same_freeze, stays_with_one, IsOther, IsSame, same_with_edits, IsDueNow, due_now, nothing_due}
use Rattle.yp_slot.proofs.Standing.{AreWindows, as_many, same_record, kept_again, unended}

-- ---- what tracks become

abbrev pub tried_as : ℕ → ℕ → Track → Bool → Track
tried_as n stamp t b = record t {
  feed = if b then frozen t.feed else t.feed;
  frozen = if b then Some (record { from = t.feed.base; position = n; tick = stamp; edits = record_in recorded t }) else t.frozen;
}

abbrev moved_as : ℕ → Track → Bool → Track
moved_as n t b = record t { feed = record t.feed { base = if b then n else t.feed.base }; first = if b then current t else t.first; later = if b then [] else t.later }

pub unmoved : (n stamp : ℕ) (t : Track) → moving recorded stamp t ≡ false → rebased recorded n stamp t ≡ t
unmoved n stamp t e = ap (moved_as n t) e

-- ---- setting aside

module _ (nodes : List SchemaNode) (state : JournalState) (slot : Slot) (track : Track) (windows : AreWindows) (stands : IsSlotOf nodes state slot track) where
  -- the machine doesn't tell the number of places, cut off, from the number of roots
  pub freezes_same : freezes slot.feed (capped (length slot.touched)) ≡ freezes track.feed (roots_in recorded track)
  freezes_same =
      ap (λ (f : FeedState). freezes f (capped (length slot.touched))) stands.feed
      ∙ ⊎_elim
      (λ u. (u 0 (capped (length slot.touched)) 0 (roots_in recorded track) 0).freeze)
      (λ r. same_freeze track.feed (length slot.touched) (capped (length slot.touched)) (capped_many (length slot.touched))
      ∙ ap (freezes track.feed) (as_many nodes state slot track stands windows (record { on_change = r.0; unowed = r.1 })))
      (unread_or track.feed)

  -- where the rule doesn't hold, all stays
  pub thaws : (f : FeedState) (n stamp q : ℕ) → q ≡ capped (length slot.touched) → freezes slot.feed q ≡ false → f ≡ after_freeze slot.feed q
      → IsSlotOf nodes state (record slot { feed = f }) (freeze_tried recorded n stamp track)
  thaws f n stamp q many thawed is =
      let none : freezes track.feed (roots_in recorded track) ≡ false = sym freezes_same ∙ ap (freezes slot.feed) (sym many) ∙ thawed in
      let same : f ≡ slot.feed = is ∙ ap (λ (b : Bool). if b then frozen slot.feed else slot.feed) thawed in
      subst (λ (t : Track). IsSlotOf nodes state (record slot { feed = f }) t) (sym (ap (tried_as n stamp track) none))
      (subst (λ (g : FeedState). IsSlotOf nodes state (record slot { feed = g }) track) (sym same) stands)

  and_not : (b : Bool) → (b && not b) ≡ false
  and_not true = refl
  and_not false = refl

  -- where it holds, the record of the window is set aside
  pub sets_aside : (f : FeedState) (n stamp q : ℕ) (aside : FrozenHere) → q ≡ capped (length slot.touched) → freezes slot.feed q ≡ true → f ≡ after_freeze slot.feed q
      → aside.from ≡ slot.feed.base → aside.position ≡ n → aside.tick ≡ stamp → aside.edits ≡ record_at nodes state (record slot { feed = f }) → IsSendableRecord nodes aside
      → IsSlotOf nodes state (record slot { feed = f; frozen = Some aside }) (freeze_tried recorded n stamp track)
  sets_aside f n stamp q aside many freezing is from position tick edits sendable =
      let holds : freezes track.feed (roots_in recorded track) ≡ true = sym freezes_same ∙ ap (freezes slot.feed) (sym many) ∙ freezing in
      let reads = freezes_read track.feed (roots_in recorded track) holds in
      let read : IsRead track = record { on_change = reads.0; unowed = reads.1 } in
      let here : f ≡ frozen slot.feed = is ∙ ap (λ (b : Bool). if b then frozen slot.feed else slot.feed) freezing in
      let there : f ≡ frozen track.feed = here ∙ ap frozen stands.feed in
      let made : aside.edits ≡ record_in recorded track = edits ∙ ap (λ (g : FeedState). record_at nodes state (record slot { feed = g })) here ∙ same_record nodes state slot track stands windows read in
      let new : Track = tried_as n stamp track true in
      let is_slot : IsSlotOf nodes state (record slot { feed = f; frozen = Some aside }) new = record {
        kept = kept_again nodes state slot (record slot { feed = f; frozen = Some aside }) stands.kept (ap (λ (g : FeedState). g.sub) here) (ap (λ (g : FeedState). g.receiver) here) (ap (λ (g : FeedState). g.owed.terminated) here) refl stands.kept.paths sendable;
        feed = there;
        frozen = λ i. Some (record { from = (from ∙ ap (λ (g : FeedState). g.base) stands.feed) i; position = position i; tick = tick i; edits = made i });
        roots = λ _. stands.roots read;
        plain = and_not (resyncs track.feed.trigger);
        apart = and_right (resyncs track.feed.trigger) track.feed.owed.terminated (ap (λ (g : FeedState). g.owed.terminated) (sym stands.feed) ∙ unended nodes state slot track stands read);
        current = stands.current;
      } in
      subst (λ (t : Track). IsSlotOf nodes state (record slot { feed = f; frozen = Some aside }) t) (sym (ap (tried_as n stamp track) holds)) is_slot

  -- ---- offers

  -- what is not of changes is offered whatever the number of edits
  pub other_same : (q : ℕ) (item : Option Item) → q ≡ capped (length slot.touched) → item ≡ offer_of slot.feed q 1 state.stamp → IsOther item → IsSame track.feed state.stamp (roots_in recorded track) (edit_count recorded track) item
  other_same q item many is other =
      let stamp = state.stamp in
      let r = roots_in recorded track in
      let e = edit_count recorded track in
      let given : item ≡ offer_of track.feed q 1 stamp = is ∙ ap (λ (g : FeedState). offer_of g q 1 stamp) stands.feed in
      ⊎_elim
      (λ u. record { offers = sym ((u stamp q 1 r e).offers) ∙ sym given; stays = sym ((u stamp q 1 r e).looks) ∙ stays_with_one track.feed q stamp })
      (λ read.
      let few : nat_lt 0 q ≡ nat_lt 0 r = ap (nat_lt 0) many ∙ capped_some (length slot.touched) ∙ ap (nat_lt 0) (as_many nodes state slot track stands windows (record { on_change = read.0; unowed = read.1 })) in
      let with_one : item ≡ offer_of track.feed r 1 stamp = given ∙ same_offer track.feed r q 1 stamp few in
      subst (IsSame track.feed stamp r e) (sym with_one) (same_with_edits track.feed stamp r e (subst IsOther with_one other)))
      (unread_or track.feed)

  -- and the track stays
  pub offers_other : (f : FeedState) (n q : ℕ) (item : Option Item) → q ≡ capped (length slot.touched) → item ≡ offer_of slot.feed q 1 state.stamp → IsOther item → f ≡ looked slot.feed q 1 n state.stamp
      → IsSlotOf nodes state (record slot { feed = f }) (rebased recorded n state.stamp track) × IsOfferOf nodes state.position state.stamp (rebased recorded n state.stamp track) (record { item = item; changes = None })
  offers_other f n q item many is other after =
      let stamp = state.stamp in
      let same = other_same q item many is other in
      let back : f ≡ slot.feed = after ∙ ap (λ (b : Bool). record slot.feed { base = if b then n else slot.feed.base }) (stays_with_one slot.feed q stamp) in
      subst (λ (t : Track). IsSlotOf nodes state (record slot { feed = f }) t × IsOfferOf nodes state.position stamp t (record { item = item; changes = None })) (sym (unmoved n stamp track same.stays)) (
        subst (λ (g : FeedState). IsSlotOf nodes state (record slot { feed = g }) track) (sym back) stands,
        record { item = sym same.offers; changes = λ are. absurd (other are); offered = tt },
      )

  -- a record that would be offered with an edit is of a track whose numbers may be read
  record Due (q : ℕ) : Type 0 where
    read : IsRead track
    made : record_at nodes state slot ≡ record_in recorded track
    now : IsDueNow track.feed state.stamp (roots_in recorded track)
    here : IsDueNow slot.feed state.stamp q

  due_there : (q : ℕ) → q ≡ capped (length slot.touched) → offer_of slot.feed q 1 state.stamp ≡ Some Changes → Due q
  due_there q many due =
      let stamp = state.stamp in
      let here = due_now slot.feed stamp q due in
      let on : IsDueNow track.feed stamp q = subst (λ (f : FeedState). IsDueNow f stamp q) stands.feed here in
      let read : IsRead track = record { on_change = on.on_change; unowed = on.unowed } in
      let few : nat_lt 0 q ≡ nat_lt 0 (roots_in recorded track) = ap (nat_lt 0) many ∙ capped_some (length slot.touched) ∙ ap (nat_lt 0) (as_many nodes state slot track stands windows read) in
      record {
        read = read;
        made = same_record nodes state slot track stands windows read;
        now = due_now track.feed stamp (roots_in recorded track) (sym (same_offer track.feed (roots_in recorded track) q 1 stamp few) ∙ ap (λ (f : FeedState). offer_of f q 1 stamp) (sym stands.feed) ∙ due);
        here = here;
      }

  -- a record with an edit is offered
  pub offers_record : (n : ℕ) (told : Record) → offer_of slot.feed (capped (length slot.touched)) 1 state.stamp ≡ Some Changes → IsWithText nodes state.position (record_at nodes state slot) told
      → IsSlotOf nodes state slot (rebased recorded n state.stamp track) × IsOfferOf nodes state.position state.stamp (rebased recorded n state.stamp track) (record { item = Some Changes; changes = Some told })
  offers_record n told due text_of =
      let stamp = state.stamp in
      let d = due_there (capped (length slot.touched)) refl due in
      let made : told.changes ≡ record_in recorded track = text_of.edits ∙ d.made in
      let edits : (edit_count recorded track == 0) ≡ false = ap (λ (those : List Change). length those == 0) (sym d.made) ∙ text_of.some in
      subst (λ (t : Track). IsSlotOf nodes state slot t × IsOfferOf nodes state.position stamp t (record { item = Some Changes; changes = Some told })) (sym (unmoved n stamp track (d.now.stays (edit_count recorded track) edits))) (
        stands,
        record { item = sym (d.now.offers (edit_count recorded track) (some_lt (edit_count recorded track) edits)); changes = λ _. ap Some made; offered = record { text = text_of.text; sendable = text_of.sendable } },
      )

  -- and one without an edit moves the base
  pub moves_base : (f : FeedState) (n q : ℕ) (item : Option Item) (touched : List Root) (changes : List Change) → offer_of slot.feed (capped (length slot.touched)) 1 state.stamp ≡ Some Changes → changes ≡ record_at nodes state slot → (length changes == 0) ≡ true
      → q ≡ capped (length slot.touched) → item ≡ offer_of slot.feed q 0 state.stamp → f ≡ looked slot.feed q 0 n state.stamp → touched ≡ []
      → IsSlotOf nodes state (record slot { feed = f; touched = touched }) (rebased recorded n state.stamp track) × IsOfferOf nodes state.position state.stamp (rebased recorded n state.stamp track) (record { item = item; changes = None })
  moves_base f n q item touched changes due is none many given after empty =
      let stamp = state.stamp in
      let d = due_there q many (ap (λ (k : ℕ). offer_of slot.feed k 1 stamp) many ∙ due) in
      let e = edit_count recorded track in
      let edits : (e == 0) ≡ true = ap (λ (those : List Change). length those == 0) (sym (is ∙ d.made)) ∙ none in
      let moving_on : moving recorded stamp track ≡ true = d.now.moves e edits in
      let here : f ≡ record slot.feed { base = n } = after ∙ ap (λ (b : Bool). record slot.feed { base = if b then n else slot.feed.base }) (d.here.moves 0 refl) in
      let new : Track = moved_as n track true in
      let nothing : item ≡ None = given ∙ d.here.none 0 refl in
      let idle : offered_item recorded stamp new ≡ None = nothing_due new.feed stamp (edit_count recorded new) d.now.on_change d.now.idle in
      let slot_is : IsSlotOf nodes state (record slot { feed = f; touched = touched }) new = record {
        kept = kept_again nodes state slot (record slot { feed = f; touched = touched }) stands.kept (ap (λ (g : FeedState). g.sub) here) (ap (λ (g : FeedState). g.receiver) here) (ap (λ (g : FeedState). g.owed.terminated) here) refl (subst (λ (roots : List Root). AllByRecursion (EndsAsRow nodes) (paths_of roots)) (sym empty) tt) stands.kept.sendable;
        feed = here ∙ ap (λ (g : FeedState). record g { base = n }) stands.feed;
        frozen = stands.frozen;
        roots = λ _. empty;
        plain = stands.plain;
        apart = stands.apart;
        current = stands.current;
      } in
      subst (λ (t : Track). IsSlotOf nodes state (record slot { feed = f; touched = touched }) t × IsOfferOf nodes state.position stamp t (record { item = item; changes = None })) (sym (ap (moved_as n track) moving_on)) (
        slot_is,
        record { item = nothing ∙ sym idle; changes = λ are. absurd (none_not (sym nothing ∙ are)); offered = tt },
      )
    where
      none_not : None ≡ Some Changes → ⊥
      none_not e = cc
