-- A worker absorbs the next entry.
use Rattle.std.proofs.Common.{◌≡◌, ℕ, ◌+◌, ◌<◌, ◌≤◌, refl, sym, ap, subst, ◌∙◌, false, List, [], ◌∷◌, ◌++◌, ◌^◌, length, take, get_or, Some, None, arith, zero-add, length-take-le}
use Rattle.std.specs.Option.{is_some}
use Rattle.std.specs.Prelude.{slice_set}
use Rattle.std.specs.List.{slice_get}
use Rattle.std.proofs.lemmas.List.{length-set}
use Rattle.std.proofs.lemmas.Option.{same_Some, slice_get_past, slice_get_read, slice_get_within}
use Rattle.yp_schema.specs.declared.schema.SchemaNode.{SchemaNode}
use Rattle.yp_journal.specs.declared.entry.Entry.{Entry}
use Rattle.yp_journal.specs.declared.receiver.ReceiverInfo.{ReceiverInfo}
use Rattle.yp_journal.specs.History.{IsLegal, JournalState, MayFollow, first_state, state_of}
use Rattle.yp_attempt.specs.Attempts.{answers_in}
use Rattle.yp_attempt.specs.Moments.{Moment}
use Rattle.yp_attempt.specs.Runs.{Reaches, Standing, advanced, advances, first_offer}
use Rattle.yp_attempt.specs.Tracks.{Answer}
use Rattle.yp_moment.specs.Entries.{moment_of, moments_of}
use Rattle.yp_moment.specs.Windows.{recorded}
use Rattle.yp_moment.specs.MomentLaws.{moments_count}
use Rattle.yp_worker.specs.declared.offering.Sent.{Sent}
use Rattle.yp_worker.specs.Workers.{HasFound, IsIdle, IsIdleWorkerOf}
use Rattle.yp_world.specs.World.{Absorb, Absorbed, Setup, World, receivers_of, step}
use Rattle.yp_promise.specs.Interleaving.{setup_of}
use Rattle.yp_core.specs.declared.event.Event.TheVariants as events
use Rattle.yp_core.specs.declared.event.Happened.TheVariants as told
use Rattle.yp_core.specs.declared.seat.Seat.{Seat}
use Rattle.yp_core.specs.declared.world.World.{World as Core}
use Rattle.yp_core.specs.Worlds.{HasStepped, IsSeatOf, IsWorldAt, StandFor}
use Rattle.yp_core.proofs.Elements.{split_at, stand_for_set}
use Rattle.yp_core.proofs.Moments.{OneMore, moment_follows, moment_there, one_entry_more}
use Rattle.yp_core.proofs.Steps.{Keeps, Unchanged, absorbs, absorbs_at_end, absorbs_none, absorbs_while_offering}
use Rattle.yp_core.proofs.Worlds.{Idle, Offers, has_stepped, holds_next, no_worker, nothing_done, seat_idle, seat_sends, seat_waits, there_is_none}

-- each entry of a legal journal may follow those before it
abbrev pub EachFollows : Type 0
EachFollows = (nodes : List SchemaNode) (state : JournalState) (entries : List Entry) (entry : Entry) (more : List Entry) → IsLegal nodes state (entries ++ entry ∷ more) → MayFollow nodes (state_of nodes state entries) entry

-- the position of a state is the number of its entries
abbrev pub Positions : Type 0
Positions = (nodes : List SchemaNode) (state : JournalState) (entries : List Entry) → (state_of nodes state entries).position ≡ state.position + length entries

-- ---- what the worker is called with

-- the worker of a number is idle, and the entry is its next
pub record IsCalled (core : Core) (number : ℕ) (first seat : Seat) (entry : Entry) : Type 0 where
  pub there : slice_get core.seats.items number ≡ Some seat
  pub same : first ≡ seat
  pub none : seat.sent ≡ None
  pub next : slice_get core.entries.items seat.position ≡ Some entry

pub called : (core : Core) (number : ℕ) (first seat : Seat) (entry : Entry) (seats count : ℕ) → seats ≡ length core.seats.items → number < seats → first ≡ get_or core.seats.items number first → seat ≡ get_or core.seats.items number seat
    → is_some first.sent ≡ false → count ≡ length core.entries.items → first.position < count → entry ≡ get_or core.entries.items first.position entry → IsCalled core number first seat entry
called core number first seat entry seats count all within is_first is_seat none longer behind is_entry =
    let there : slice_get core.seats.items number ≡ Some seat = slice_get_read core.seats.items seats number seat all within is_seat in
    let same : first ≡ seat = same_Some first seat (sym (slice_get_read core.seats.items seats number first all within is_first) ∙ there) in
    record {
      there = there;
      same = same;
      none = ap (λ (s : Seat). s.sent) (sym same) ∙ there_is_none first.sent none;
      next = ap (λ (s : Seat). slice_get core.entries.items s.position) (sym same) ∙ slice_get_read core.entries.items count first.position entry longer behind is_entry;
    }

module _ (nodes : List SchemaNode) (start : ℕ) (receivers : List ReceiverInfo) (workers : ℕ) (entries : List Entry) (world : World) (core : Core) (is : IsWorldAt nodes start receivers workers entries world core) (number : ℕ) where
  -- ---- where it can't

  -- there is no such worker
  pub absorbed_by_none : Unchanged → length core.seats.items ≤ number → HasStepped nodes start receivers workers entries world (events.Absorb number) told.Nothing core
  absorbed_by_none unchanged past =
      nothing_done nodes start receivers workers entries world (events.Absorb number) unchanged core (absorbs_none (setup_of receivers workers) world number (no_worker nodes start receivers workers entries world core is number past)) refl is

  module _ (seat : Seat) (there : slice_get core.seats.items number ≡ Some seat) where
    -- it still has something to offer
    pub absorbed_while_offering : Unchanged → Offers → (sent : Sent) → seat.sent ≡ Some sent → HasStepped nodes start receivers workers entries world (events.Absorb number) told.Nothing core
    absorbed_while_offering unchanged offers sent out =
        let at = is.seats number seat there in
        let by = seat_sends nodes start receivers workers entries number seat at.0 at.2 offers sent out in
        nothing_done nodes start receivers workers entries world (events.Absorb number) unchanged core (absorbs_while_offering (setup_of receivers workers) world number at.0 by.found at.1 by.waits) refl is

    -- it has absorbed the whole journal
    pub absorbed_at_end : Unchanged → Idle → seat.sent ≡ None → length entries ≤ seat.position → HasStepped nodes start receivers workers entries world (events.Absorb number) told.Nothing core
    absorbed_at_end unchanged idle none past =
        let at = is.seats number seat there in
        let here : seat.position ≡ at.0.position = at.2.position in
        let count : length (moments_of nodes receivers entries) ≡ length entries = moments_count nodes (first_state receivers) entries in
        let all : length world.journal ≡ length (moments_of nodes receivers entries) = ap (λ (ms : List Moment). length ms) is.journal in
        let last : slice_get world.journal at.0.position ≡ None = slice_get_past world.journal at.0.position (omega (arith, past, here, count, all)) in
        nothing_done nodes start receivers workers entries world (events.Absorb number) unchanged core
        (absorbs_at_end (setup_of receivers workers) world number at.0 at.1 (seat_waits nodes start receivers workers entries number seat at.0 at.2 idle none) last) refl is

    -- ---- what it asks for

    -- it is not far in the journal
    pub state_position : Positions → seat.sent ≡ None → seat.worker.state.position < 2 ^ 63
    state_position positions none =
        let at = is.seats number seat there in
        let past : List Entry = take at.0.position entries in
        let state : seat.worker.state ≡ state_of nodes (first_state receivers) past = (seat_idle nodes start receivers workers entries number seat at.0 at.2 none).followed.state in
        let same : seat.worker.state.position ≡ length past = ap (λ (s : JournalState). s.position) state ∙ (positions nodes (first_state receivers) past ∙ zero-add (length past)) in
        let count : length past ≡ at.0.position = length-take-le at.0.position entries at.2.within in
        let within : at.0.position ≤ length entries = at.2.within in
        let few : length entries < 2 ^ 32 = is.few in
        omega (arith, same, count, within, few)

    -- and has nothing to offer
    pub idle_there : seat.sent ≡ None → IsIdle nodes seat.worker
    idle_there none =
        let at = is.seats number seat there in
        record { start = start; receivers = receivers; mine = receivers_of (setup_of receivers workers) number; entries = take at.0.position entries; answers = answers_in at.2.done; idle = seat_idle nodes start receivers workers entries number seat at.0 at.2 none }

    module _ (entry : Entry) (next : slice_get core.entries.items seat.position ≡ Some entry) where
      entry_there : (standing : Standing) → seat.position ≡ standing.position → slice_get entries standing.position ≡ Some entry
      entry_there standing here = (λ i. slice_get (sym is.kept i) (sym here i)) ∙ next

      -- the entry may follow where the worker stands
      pub entry_follows : EachFollows → seat.sent ≡ None → MayFollow nodes seat.worker.state entry
      entry_follows follows none =
          let at = is.seats number seat there in
          let parts = split_at entries at.0.position entry (entry_there at.0 at.2.position) in
          let may : MayFollow nodes (state_of nodes (first_state receivers) (take at.0.position entries)) entry =
          follows nodes (first_state receivers) (take at.0.position entries) entry parts.0 (subst (λ (es : List Entry). IsLegal nodes (first_state receivers) es) parts.1 is.legal) in
          subst (λ (state : JournalState). MayFollow nodes state entry) (sym (seat_idle nodes start receivers workers entries number seat at.0 at.2 none).followed.state) may

      -- ---- what it makes of the world

      pub absorbed : Keeps → Idle → OneMore → seat.sent ≡ None → (after : Seat) → after.position ≡ seat.position + 1
          → ((start : ℕ) (receivers : List ReceiverInfo) (mine : List ℕ) (entries : List Entry) (answers : List Answer) → IsIdleWorkerOf nodes start receivers mine entries answers seat.worker → HasFound nodes start receivers mine (entries ++ entry ∷ []) answers after.sent after.worker)
          → (left : Core) → left.seats.items ≡ slice_set core.seats.items number after → left.entries ≡ core.entries → left.state ≡ core.state → left.deliveries ≡ core.deliveries → left.spent ≡ false
          → HasStepped nodes start receivers workers entries world (events.Absorb number) (told.Absorbed (seat.position + 1)) left
      absorbed keeps idle one_more none after moved found left seats kept state deliveries unspent =
          let setup : Setup = setup_of receivers workers in
          let mine : List ℕ = receivers_of setup number in
          let at = is.seats number seat there in
          let standing : Standing = at.0 in
          let here : IsSeatOf nodes start receivers workers entries number seat standing = at.2 in
          let past : List Entry = take standing.position entries in
          let m : Moment = moment_of nodes (state_of nodes (first_state receivers) past) entry in
          let further : Standing = advanced recorded mine m standing in
          let stood : slice_get entries standing.position ≡ Some entry = entry_there standing here.position in
          let waiting : first_offer recorded standing.stamp standing.tracks ≡ None = seat_waits nodes start receivers workers entries number seat standing here idle none in
          let m_there : slice_get world.journal standing.position ≡ Some m =
          ap (λ (ms : List Moment). slice_get ms standing.position) is.journal ∙ moment_there nodes (first_state receivers) entries standing.position entry stood in
          let next_world : World = record world { standings = slice_set world.standings number further } in
          let comes : step setup world (Absorb number) ≡ (next_world, Absorbed (standing.position + 1)) = absorbs setup world number standing m at.1 waiting m_there in
          let longer : take (standing.position + 1) entries ≡ past ++ entry ∷ [] = one_entry_more entries standing.position entry stood in
          let moments : moments_of nodes receivers (take (standing.position + 1) entries) ≡ moments_of nodes receivers past ++ m ∷ [] =
          ap (λ (es : List Entry). moments_of nodes receivers es) longer ∙ one_more nodes receivers past entry in
          let within : standing.position < length entries = slice_get_within entries standing.position entry stood in
          let seated : IsSeatOf nodes start receivers workers entries number after further = record {
            done = here.done;
            reaches = subst (λ (ms : List Moment). Reaches recorded mine ms (answers_in here.done) (record { standing = further; done = here.done })) (sym moments)
                (advances (moments_of nodes receivers past) (answers_in here.done) (record { standing = standing; done = here.done }) m here.reaches (moment_follows nodes receivers entries world.journal standing.position entry is.holds.legal is.journal stood) waiting);
            position = moved ∙ ap (λ (k : ℕ). k + 1) here.position;
            within = omega (arith, within);
            found = subst (λ (es : List Entry). HasFound nodes start receivers mine es (answers_in here.done) after.sent after.worker) (sym longer)
                (found start receivers mine past (answers_in here.done) (seat_idle nodes start receivers workers entries number seat standing here none));
          } in
          has_stepped nodes start receivers workers entries world (events.Absorb number) (told.Absorbed (seat.position + 1)) next_world (Absorbed (standing.position + 1)) left comes
          (record {
            schema = is.schema;
            legal = is.legal;
            few = is.few;
            some = is.some;
            holds = holds_next nodes start receivers workers entries world (events.Absorb number) keeps next_world (Absorbed (standing.position + 1)) comes is.holds;
            journal = is.journal;
            kept = ap (λ es. es.items) kept ∙ is.kept;
            state = state ∙ is.state;
            count = ap (λ (those : List Seat). length those) seats ∙ (length-set core.seats.items number after ∙ is.count);
            seats = subst (λ (those : List Seat). StandFor (IsSeatOf nodes start receivers workers entries) those next_world.standings) (sym seats)
                (stand_for_set (IsSeatOf nodes start receivers workers entries) core.seats.items world.standings number after further seated is.seats);
            deliveries = ap (λ ds. ds.items) deliveries ∙ is.deliveries;
            unspent = unspent;
          })
          (ap (λ (k : ℕ). told.Absorbed (k + 1)) here.position)
