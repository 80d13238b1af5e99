use Rattle.std.proofs.Common.{◌≡◌, ℕ, suc, ◌+◌, ◌^◌, ◌<◌, ◌≤◌, List, [], ◌∷◌, ◌++◌, length, drop, slice_set, sym, subst, ◌∙◌, arith}
use Rattle.yp_journal.specs.History.{next_state}
use Rattle.yp_crews.specs.declared.crew.Crew.{Crew}
use Rattle.yp_crews.specs.Crews.{AreCrewsOn, AreReady}
use Rattle.yp_crews.proofs.Following.{HaveFollowed, all_followed, all_written, next_can, one_more, still_ready}
use Rattle.yp_crews.proofs.crews.follow_entry.Goals as goal

pub follow-requires : goal.follow-requires
follow-requires c =
    let state = c.requires.0 in
    let ready = c.requires.1 in
    let crews : List Crew = c.loop-crew.crew-items in
    let below : c.loop-crew.crew-index < length crews = omega (arith, c.loop-crew-test.true, c.loop-crew.auto.crew-items) in
    let can =
    next_can c.args.schema.now c.args.entry.now (2 ^ 63) state c.args.crews.now.items ready c.requires.2 c.requires.3 c.loop-crew.crew-index crews c.crew-item.result below
    (c.loop-crew.invariant ready.start ready.receivers ready.workers ready.worker ready.entries ready.runs ready.are) in
    record { entry = can.entry_follows; position = can.position; ready = can.ready }

pub loop-crew-preserved : goal.loop-crew-preserved
loop-crew-preserved c = λ start receivers workers worker entries runs are.
    let nodes = c.args.schema.now in
    let entry = c.args.entry.now in
    let place : ℕ = c.loop-crew.crew-index in
    let crews : List Crew = c.loop-crew.crew-items in
    let after : Crew = c.follow.new.self in
    let more : suc place ≡ place + 1 = omega arith in
    let below : place < length crews = omega (arith, c.loop-crew-test.true, c.loop-crew.auto.crew-items) in
    subst (λ (n : ℕ). HaveFollowed nodes entry start receivers workers entries worker n runs (slice_set crews place after)) more
    (one_more nodes entry start receivers workers entries worker place runs crews c.crew-item.result after below
    (λ mine run is. c.in_ok-follow.ensures start receivers mine entries run is) (c.loop-crew.invariant start receivers workers worker entries runs are))

pub returns-clause-served : goal.returns-clause-served
returns-clause-served c = λ start receivers workers worker entries runs are.
    let nodes = c.args.schema.now in
    let entry = c.args.entry.now in
    let crews : List Crew = c.loop-crew.crew-items in
    let all : length crews ≤ c.loop-crew.crew-index = omega (arith, c.loop-crew-test.false, c.loop-crew.auto.crew-items) in
    subst (λ (those : List Crew). AreCrewsOn nodes start receivers workers worker (entries ++ entry ∷ []) runs those)
    (sym (all_written c.args.crews.now.len crews (drop (length crews) c.args.crews.now.items) (c.loop-crew.auto.crew-items ∙ c.deref_mut-crew-items.ensures.len)))
    (all_followed nodes entry start receivers workers entries worker c.loop-crew.crew-index runs crews all (c.loop-crew.invariant start receivers workers worker entries runs are))

pub returns-clause-ready : goal.returns-clause-ready
returns-clause-ready c = λ state ready.
    let nodes = c.args.schema.now in
    let entry = c.args.entry.now in
    let crews : List Crew = c.loop-crew.crew-items in
    let all : length crews ≤ c.loop-crew.crew-index = omega (arith, c.loop-crew-test.false, c.loop-crew.auto.crew-items) in
    let on : AreCrewsOn nodes ready.start ready.receivers ready.workers ready.worker (ready.entries ++ entry ∷ []) ready.runs crews =
    all_followed nodes entry ready.start ready.receivers ready.workers ready.entries ready.worker c.loop-crew.crew-index ready.runs crews all
    (c.loop-crew.invariant ready.start ready.receivers ready.workers ready.worker ready.entries ready.runs ready.are) in
    subst (λ (those : List Crew). AreReady nodes (next_state nodes state entry.command) those)
    (sym (all_written c.args.crews.now.len crews (drop (length crews) c.args.crews.now.items) (c.loop-crew.auto.crew-items ∙ c.deref_mut-crew-items.ensures.len)))
    (still_ready c.a_journal_goes_on_entry_by_entry.ensures.entries nodes entry state c.args.crews.now.items crews ready on)
