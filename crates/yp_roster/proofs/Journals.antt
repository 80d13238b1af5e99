-- Entries of a journal, one after another.
use Rattle.std.proofs.Common.{◌≡◌, ℕ, sym, ap, subst, ◌∙◌, List, [], ◌∷◌, ◌++◌, append-nil, append_assoc}
use Rattle.yp_schema.specs.declared.schema.SchemaNode.{SchemaNode}
use Rattle.yp_schema.specs.WellFormed.{IsSchema}
use Rattle.yp_journal.specs.declared.entry.Entry.{Entry}
use Rattle.yp_journal.specs.declared.receiver.ReceiverInfo.{ReceiverInfo}
use Rattle.yp_journal.specs.History.{JournalState, IsLegal, first_state, next_state, state_of}
use Rattle.yp_attempt.specs.Moments.{Moment, AllMayFollow, MayFollow}
use Rattle.yp_attempt.specs.Tracks.{Answer}
use Rattle.yp_moment.specs.Entries.{moment_between, moment_of, moments_of}
use Rattle.yp_slot.specs.declared.following.Entered.{Entered}
use Rattle.yp_slot.specs.declared.slot.Slot.{Slot}
use Rattle.yp_roster.specs.Rosters.{IsRosterAt, IsRosterOf}
use Rattle.yp_slot.specs.Steps.{IsEntered, entered_moment}

-- the laws of journals that are rested on
pub record JournalsGoOn : Type 0 where
  pub entries : (nodes : List SchemaNode) (state : JournalState) (entries : List Entry) (entry : Entry) → state_of nodes state (entries ++ entry ∷ []) ≡ next_state nodes (state_of nodes state entries) entry.command
  pub follow : (nodes : List SchemaNode) (receivers : List ReceiverInfo) (entries : List Entry) → IsSchema nodes → IsLegal nodes (first_state receivers) entries → AllMayFollow [] (moments_of nodes receivers entries)
  pub more : (nodes : List SchemaNode) (receivers : List ReceiverInfo) (entries : List Entry) (entry : Entry)
      → moments_of nodes receivers (entries ++ entry ∷ []) ≡ moments_of nodes receivers entries ++ moment_of nodes (state_of nodes (first_state receivers) entries) entry ∷ []

-- the last of moments that may follow one another may follow those before it
last_follows : (past moments : List Moment) (m : Moment) → AllMayFollow past (moments ++ m ∷ []) → MayFollow (past ++ moments) m
last_follows past [] m all = subst (λ (ms : List Moment). MayFollow ms m) (sym (append-nil past)) all.0
last_follows past (one ∷ moments) m all = subst (λ (ms : List Moment). MayFollow ms m) (append_assoc past (one ∷ []) moments) (last_follows (past ++ one ∷ []) moments m all.1)

module _ (laws : JournalsGoOn) (e : Entered) (receivers : List ReceiverInfo) (entries : List Entry) (schema : IsSchema e.present.schema.now) (legal : IsLegal e.present.schema.now (first_state receivers) (entries ++ e.entry.now ∷ []))
    (entered : IsEntered e (state_of e.present.schema.now (first_state receivers) entries)) where
  same_moment : moment_of e.present.schema.now (state_of e.present.schema.now (first_state receivers) entries) e.entry.now ≡ entered_moment e (state_of e.present.schema.now (first_state receivers) entries)
  same_moment = ap (moment_between e.present.schema.now (state_of e.present.schema.now (first_state receivers) entries) e.entry.now) (sym entered.after)

  one_more : moments_of e.present.schema.now receivers (entries ++ e.entry.now ∷ []) ≡ moments_of e.present.schema.now receivers entries ++ entered_moment e (state_of e.present.schema.now (first_state receivers) entries) ∷ []
  one_more = laws.more e.present.schema.now receivers entries e.entry.now ∙ ap (λ (m : Moment). moments_of e.present.schema.now receivers entries ++ m ∷ []) same_moment

  pub follows : MayFollow (moments_of e.present.schema.now receivers entries) (entered_moment e (state_of e.present.schema.now (first_state receivers) entries))
  follows = last_follows [] (moments_of e.present.schema.now receivers entries) (entered_moment e (state_of e.present.schema.now (first_state receivers) entries))
      (subst (AllMayFollow []) one_more (laws.follow e.present.schema.now receivers (entries ++ e.entry.now ∷ []) schema legal))

  pub roster_of : (mine : List ℕ) (answers : List Answer) (slots : List Slot)
      → IsRosterAt e.present.schema.now e.present.state.now mine (moments_of e.present.schema.now receivers entries ++ entered_moment e (state_of e.present.schema.now (first_state receivers) entries) ∷ []) answers slots
      → IsRosterOf e.present.schema.now receivers mine (entries ++ e.entry.now ∷ []) answers slots
  roster_of mine answers slots is =
      let left : e.present.state.now ≡ state_of e.present.schema.now (first_state receivers) (entries ++ e.entry.now ∷ []) = entered.after ∙ sym (laws.entries e.present.schema.now (first_state receivers) entries e.entry.now) in
      record {
        schema = schema;
        legal = legal;
        stands = subst (λ (state : JournalState). IsRosterAt e.present.schema.now state mine (moments_of e.present.schema.now receivers (entries ++ e.entry.now ∷ [])) answers slots) left
            (subst (λ (past : List Moment). IsRosterAt e.present.schema.now e.present.state.now mine past answers slots) (sym one_more) is);
      }
