-- A track stays linked where it is asked for its offer.
use Rattle.std.proofs.Common.{◌≡◌, ℕ, ◌<◌, refl, sym, ◌∙◌, Bool, true, false, not, ◌&&◌, [], Option, arith}
use Rattle.std.specs.Prelude.{if◌then◌else◌, nat_lt, ◌==◌}
use Rattle.std.proofs.lemmas.Bool.{true≢false, and_parts}
use Rattle.yp_base.specs.declared.notice.Trigger.{Trigger}
use Rattle.yp_base.specs.declared.notice.Trigger.TheVariants.{Periodic as Every, OnChange}
use Rattle.yp_feed.specs.Machine.{excludes_none, is_at, is_past, is_empty_record, moves, owes}
use Rattle.yp_attempt.specs.Content.{Content, IsLawful}
use Rattle.yp_attempt.specs.Tracks.{Track, current, excluded_kinds, roots_in, record_in, edit_count, rebased}
use Rattle.yp_mirror.specs.Heard.{Told}
use Rattle.yp_mirror.specs.Stories.{Story}
use Rattle.yp_mirror.specs.Links.{Linked}
use Rattle.yp_mirror.proofs.Facts.{none_between}
use Rattle.yp_mirror.proofs.Links.{mirrored_whole}

positive : (n : ℕ) → nat_lt 0 n ≡ true → 0 < n
positive n e = grind (arith, e)

none_left : (n : ℕ) → (n == 0) ≡ true → n ≡ 0
none_left n e = grind (arith, e)

empty_flags : (trigger : Trigger) (last : Option ℕ) (roots edits stamp : ℕ) → is_empty_record trigger last roots edits stamp ≡ true → (0 < roots) × (edits ≡ 0)
empty_flags (Every period anchor) last roots edits stamp e = absurd (true≢false (sym e))
empty_flags (OnChange dampening sync excluded) last roots edits stamp e =
    let a = and_parts (is_past last dampening stamp) (nat_lt 0 roots && (edits == 0)) e in
    let b = and_parts (nat_lt 0 roots) (edits == 0) a.1 in
    let some : nat_lt 0 roots ≡ true = b.0 in
    let zero : (edits == 0) ≡ true = b.1 in
    (positive roots some, none_left edits zero)

rebased_linked : (c : Content) (lawful : IsLawful c) (story : Story) (receiver n stamp : ℕ) (track : Track) (t : Told) (b : Bool) → moves track.feed (roots_in c track) (edit_count c track) stamp ≡ b → Linked c story receiver n n stamp track t
    → Linked c story receiver n n stamp (record track { feed = record track.feed { base = if b then n else track.feed.base }; first = if b then current track else track.first; later = if b then [] else track.later }) t
rebased_linked c lawful story receiver n stamp track t false e h = h
rebased_linked c lawful story receiver n stamp track t true e h =
    let idle = and_parts (not (is_at track.feed.last_full stamp)) _ e in
    let due = and_parts (not (owes track.feed.owed)) _ idle.1 in
    let empty = empty_flags track.feed.trigger track.feed.last_record (roots_in c track) (edit_count c track) stamp due.1 in
    record {
      mine = h.mine;
      mirrored = h.mirrored;
      resyncing = h.resyncing;
      current = h.current;
      first = h.current;
      window = tt;
      base = omega arith;
      last = λ m on quiet.
          let whole : excludes_none (excluded_kinds track.feed.trigger) ≡ true = mirrored_whole track.feed.trigger (sym h.mirrored ∙ m) in
          let some : 0 < c.edits (record_in c track) = lawful.edited (excluded_kinds track.feed.trigger) whole track.first track.later empty.0 in
          let zero : c.edits (record_in c track) ≡ 0 = empty.1 in
          let no_way : ⊥ = omega (arith, some, zero) in absurd no_way;
      copy = h.copy;
      rises = h.rises;
      steady = λ quiet. none_between story track.feed.sub n;
      frozen = h.frozen;
      plain = h.plain;
      tries = h.tries;
      last_full = h.last_full;
      stamps = h.stamps;
      counted = h.counted;
      eight = h.eight;
      held = h.held;
      held_sync = h.held_sync;
      held_none = h.held_none;
      awaits = h.awaits;
      awaits_none = h.awaits_none;
      after_full = h.after_full;
      after_eight = h.after_eight;
    }

pub looked_linked : (c : Content) (lawful : IsLawful c) (story : Story) (receiver n stamp : ℕ) (track : Track) (t : Told) → Linked c story receiver n n stamp track t → Linked c story receiver n n stamp (rebased c n stamp track) t
looked_linked c lawful story receiver n stamp track t h = rebased_linked c lawful story receiver n stamp track t (moves track.feed (roots_in c track) (edit_count c track) stamp) refl h
