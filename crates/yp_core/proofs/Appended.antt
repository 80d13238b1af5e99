-- An entry is appended to the journal.
use Rattle.std.proofs.Common.{◌≡◌, ℕ, ◌+◌, ◌<◌, ◌≤◌, ◌^◌, refl, sym, ap, subst, ◌∙◌, false, List, [], ◌∷◌, ◌++◌, length, take, arith, length-append}
use Rattle.std.specs.List.{slice_get}
use Rattle.std.proofs.lemmas.List.{take-append-le}
use Rattle.yp_schema.specs.declared.schema.SchemaNode.{SchemaNode}
use Rattle.yp_schema.specs.WellFormed.{IsSchema}
use Rattle.yp_journal.specs.declared.command.Command.{Command}
use Rattle.yp_journal.specs.declared.entry.Entry.{Entry}
use Rattle.yp_journal.specs.declared.receiver.ReceiverInfo.{ReceiverInfo}
use Rattle.yp_journal.specs.History.{IsLegal, JournalState, MayCome, MayFollow, first_state, next_state, state_of}
use Rattle.yp_attempt.specs.Attempts.{answers_in}
use Rattle.yp_attempt.specs.Moments.{Moment, AllMayFollow, MayFollow as MomentMayFollow}
use Rattle.yp_attempt.specs.Runs.{Reaches, Standing}
use Rattle.yp_moment.specs.Entries.{moment_of, moments_of}
use Rattle.yp_moment.specs.Windows.{recorded}
use Rattle.yp_worker.specs.Workers.{HasFound}
use Rattle.yp_world.specs.World.{Append, Appended, Setup, World, receivers_of, step}
use Rattle.yp_promise.specs.Interleaving.{setup_of}
use Rattle.yp_core.specs.declared.event.Event.TheVariants as events
use Rattle.yp_core.specs.declared.event.Happened.TheVariants as told
use Rattle.yp_core.specs.declared.seat.Seat.{Seat}
use Rattle.yp_core.specs.declared.world.World.{World as Core}
use Rattle.yp_core.specs.Events.{entry_of}
use Rattle.yp_core.specs.Worlds.{HasStepped, IsSeatOf, IsWorldAt}
use Rattle.yp_core.proofs.Moments.{OneMore}
use Rattle.yp_core.proofs.Steps.{Exactly, Keeps, appends, follows_there}
use Rattle.yp_core.proofs.Worlds.{has_stepped, holds_next}

-- the state after one entry more
abbrev pub StateMore : Type 0
StateMore = (nodes : List SchemaNode) (state : JournalState) (entries : List Entry) (entry : Entry) → state_of nodes state (entries ++ entry ∷ []) ≡ next_state nodes (state_of nodes state entries) entry.command

-- a legal journal goes on
abbrev pub LegalMore : Type 0
LegalMore = (nodes : List SchemaNode) (state : JournalState) (entries : List Entry) (entry : Entry) → IsLegal nodes state entries → MayFollow nodes (state_of nodes state entries) entry → IsLegal nodes state (entries ++ entry ∷ [])

-- the entries of a legal journal may follow each other
abbrev pub AllFollow : Type 0
AllFollow = (nodes : List SchemaNode) (receivers : List ReceiverInfo) (entries : List Entry) → IsSchema nodes → IsLegal nodes (first_state receivers) entries → AllMayFollow [] (moments_of nodes receivers entries)

module _ (nodes : List SchemaNode) (start : ℕ) (receivers : List ReceiverInfo) (workers : ℕ) (entries : List Entry) (world : World) (core : Core) (is : IsWorldAt nodes start receivers workers entries world core) (command : Command) where
  -- the seats stay as they are where the journal is longer
  longer_seat : (more : List Entry) (number : ℕ) (seat : Seat) (standing : Standing) → IsSeatOf nodes start receivers workers entries number seat standing → IsSeatOf nodes start receivers workers (entries ++ more) number seat standing
  longer_seat more number seat standing at =
      let same : take standing.position (entries ++ more) ≡ take standing.position entries = take-append-le standing.position entries more at.within in
      let count : length (entries ++ more) ≡ length entries + length more = length-append entries more in
      let within : standing.position ≤ length entries = at.within in
      record {
        done = at.done;
        reaches = subst (λ (es : List Entry). Reaches recorded (receivers_of (setup_of receivers workers) number) (moments_of nodes receivers es) (answers_in at.done) (record { standing = standing; done = at.done })) (sym same) at.reaches;
        position = at.position;
        within = omega (arith, within, count);
        found = subst (λ (es : List Entry). HasFound nodes start receivers (receivers_of (setup_of receivers workers) number) es (answers_in at.done) seat.sent seat.worker) (sym same) at.found;
      }

  pub appended : Exactly → Keeps → OneMore → StateMore → LegalMore → AllFollow → MayCome nodes core.state.receivers command → length entries + 1 < 2 ^ 32
      → (entry : Entry) → entry ≡ entry_of nodes receivers entries command
      → (left : Core) → left.entries.items ≡ core.entries.items ++ entry ∷ [] → left.state ≡ next_state nodes core.state command → left.seats ≡ core.seats → left.deliveries ≡ core.deliveries → left.spent ≡ false
      → HasStepped nodes start receivers workers entries world (events.Append command) (told.Appended (entry_of nodes receivers entries command).reply) left
  appended exactly keeps one_more state_more legal_more all_follow may room entry made left kept state seats deliveries unspent =
      let setup : Setup = setup_of receivers workers in
      let this : Entry = entry_of nodes receivers entries command in
      let before : JournalState = state_of nodes (first_state receivers) entries in
      let m : Moment = moment_of nodes before this in
      let follows : MayFollow nodes before this = record { command = subst (λ (s : JournalState). MayCome nodes s.receivers command) is.state may; reply = refl; stamp = refl } in
      let legal : IsLegal nodes (first_state receivers) (entries ++ this ∷ []) = legal_more nodes (first_state receivers) entries this is.legal follows in
      let moments : moments_of nodes receivers (entries ++ this ∷ []) ≡ moments_of nodes receivers entries ++ m ∷ [] = one_more nodes receivers entries this in
      let there : MomentMayFollow (moments_of nodes receivers entries) m =
      follows_there [] (moments_of nodes receivers entries) m [] (subst (λ (ms : List Moment). AllMayFollow [] ms) moments (all_follow nodes receivers (entries ++ this ∷ []) is.schema legal)) in
      let next : World = record world { journal = world.journal ++ m ∷ [] } in
      let comes : step setup world (Append m) ≡ (next, Appended) = appends exactly setup world is.holds m (subst (λ (ms : List Moment). MomentMayFollow ms m) (sym is.journal) there) in
      let count : length (entries ++ this ∷ []) ≡ length entries + 1 = length-append entries (this ∷ []) in
      has_stepped nodes start receivers workers entries world (events.Append command) (told.Appended this.reply) next Appended left comes
      (record {
        schema = is.schema;
        legal = legal;
        few = omega (arith, count, room);
        some = is.some;
        holds = holds_next nodes start receivers workers entries world (events.Append command) keeps next Appended comes is.holds;
        journal = ap (λ (ms : List Moment). ms ++ m ∷ []) is.journal ∙ sym moments;
        kept = kept ∙ (λ i. is.kept i ++ made i ∷ []);
        state = state ∙ (ap (λ (s : JournalState). next_state nodes s command) is.state ∙ sym (state_more nodes (first_state receivers) entries this));
        count = ap (λ those. length those.items) seats ∙ is.count;
        seats = λ number seat at.
            let was = is.seats number seat (ap (λ those. slice_get those.items number) (sym seats) ∙ at) in
            (was.0, was.1, longer_seat (this ∷ []) number seat was.0 was.2);
        deliveries = ap (λ ds. ds.items) deliveries ∙ is.deliveries;
        unspent = unspent;
      })
      refl
