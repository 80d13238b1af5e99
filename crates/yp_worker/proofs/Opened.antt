-- A worker that was opened.
use Rattle.std.proofs.Common.{◌≡◌, ◌∙◌, ℕ, refl, sym, ap, subst, List, [], ◌∷◌, map, Option, None}
use Rattle.yp_base.specs.declared.row.Row.{Row}
use Rattle.yp_schema.specs.declared.schema.SchemaNode.{SchemaNode}
use Rattle.yp_schema.specs.Datastore.{IsDatastore}
use Rattle.yp_schema.specs.WellFormed.{IsSchema}
use Rattle.yp_registry.specs.Ids.{HasRisingIds}
use Rattle.yp_registry.specs.Registry.{IsRegistryOf}
use Rattle.yp_journal.specs.declared.receiver.ReceiverInfo.{ReceiverInfo}
use Rattle.yp_journal.specs.History.{JournalState, first_registry, first_state}
use Rattle.yp_attempt.specs.Runs.{Reaches, Run, first_run}
use Rattle.yp_attempt.specs.Tracks.{Track, rebased}
use Rattle.yp_attempt.specs.Workers.{Stands}
use Rattle.yp_moment.specs.Windows.{recorded}
use Rattle.yp_slot.specs.declared.slot.Slot.{Slot}
use Rattle.yp_roster.specs.Rosters.{IsClassed, IsIdleAt, IsRosterAt, ready_at, standing_at}
use Rattle.yp_slot.specs.Slots.{AreRulesAt}
use Rattle.yp_roster.specs.Ordered.{AreSlotsOf}
use Rattle.yp_worker.specs.declared.contents.Selected.{Selected}
use Rattle.yp_worker.specs.declared.worker.Worker.{Worker}
use Rattle.yp_worker.specs.Contents.{AreSelected}
use Rattle.yp_worker.specs.Workers.{HasFollowed, IsFormer, IsIdleWorkerOf, IsStateOf, IsWorkerOf}

none_mapped : {X Y : Type 0} (f : X → Y) (xs : List X) → map f xs ≡ [] → xs ≡ []
none_mapped f [] e = refl
none_mapped f (x ∷ xs) e = absurd cc

none_kept : (nodes : List SchemaNode) (state : JournalState) (slots : List Slot) (tracks : List Track) → tracks ≡ [] → AreSlotsOf nodes state slots tracks → slots ≡ []
none_kept nodes state [] tracks e kept = refl
none_kept nodes state (slot ∷ slots) [] e kept = absurd kept
none_kept nodes state (slot ∷ slots) (track ∷ tracks) e kept = absurd cc

-- where no entry was followed there is no slot
no_slots : (nodes : List SchemaNode) (receivers : List ReceiverInfo) (mine : List ℕ) (slots : List Slot) → ((run : Run) → Reaches recorded mine [] [] run → first_run ≡ run) → IsRosterAt nodes (first_state receivers) mine [] [] slots → slots ≡ []
no_slots nodes receivers mine slots one roster =
    let s : Stands recorded mine [] [] (standing_at (first_state receivers) roster.tracks) = roster.stands in
    let its : Run = s.run in
    let none : map (ready_at (first_state receivers)) roster.tracks ≡ [] = s.tracks ∙ ap (λ (run : Run). map (rebased recorded run.standing.position run.standing.stamp) run.standing.tracks) (sym (one its s.reaches)) in
    none_kept nodes (first_state receivers) slots roster.tracks (none_mapped (ready_at (first_state receivers)) roster.tracks none) roster.kept

module _ (nodes : List SchemaNode) (start : ℕ) (receivers : List ReceiverInfo) (mine : List ℕ) (worker : Worker) (begun : worker.start ≡ start) (served : worker.mine.items ≡ mine) (state : worker.state ≡ first_state receivers)
    (rules : AreRulesAt worker.state worker.readers) (former : worker.former ≡ None) (contents : worker.contents.items ≡ []) (classed : IsClassed nodes worker.state worker.roster)
    (one : (run : Run) → Reaches recorded mine [] [] run → first_run ≡ run) (roster : IsRosterAt nodes (first_state receivers) mine [] [] worker.roster.slots.items) (schema : IsSchema nodes) (datastore : IsDatastore nodes (first_state receivers).rows)
    (registry : IsRegistryOf nodes (first_registry receivers)) (ids : HasRisingIds (first_registry receivers)) (stands : Stands recorded mine [] [] first_run.standing) where
  followed : HasFollowed nodes start receivers mine [] worker
  followed = record {
    schema = schema;
    legal = tt;
    begun = begun;
    served = served;
    state = state;
    sound = subst (λ (s : JournalState). IsStateOf nodes s) (sym state) (record { datastore = datastore; registry = registry; ids = ids; users = refl });
    rules = rules;
    former = subst (λ (tree : Option (List Row)). IsFormer worker.state.rows tree) (sym former) tt;
    classed = classed;
    contents = subst (λ (those : List Selected). AreSelected nodes worker.state those) (sym contents) tt;
  }

  pub opened_idle : IsIdleWorkerOf nodes start receivers mine [] [] worker
  opened_idle = record {
    followed = followed;
    idle = subst (λ (s : JournalState). IsIdleAt nodes s mine [] [] worker.roster.slots.items) (sym state)
        (record { tracks = []; stands = stands; kept = subst (λ (list : List Slot). AreSlotsOf nodes (first_state receivers) list []) (sym (no_slots nodes receivers mine worker.roster.slots.items one roster)) tt; looked = refl; none = refl });
  }

  pub opened_stands : IsWorkerOf nodes start receivers mine [] [] worker
  opened_stands = record {
    followed = followed;
    stands = subst (λ (s : JournalState). IsRosterAt nodes s mine [] [] worker.roster.slots.items) (sym state) roster;
  }
