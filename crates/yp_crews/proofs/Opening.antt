-- Workers before the first entry, one after another, each with its listeners.
use Rattle.std.proofs.Common.{◌≡◌, ◌≢◌, ℕ, suc, ◌+◌, ◌%◌, ◌==◌, Bool, true, false, List, [], ◌∷◌, ◌++◌, length, sym, ap, subst, ◌∙◌, arith, append-nil}
use Rattle.std.specs.Prelude.{if◌then◌else◌}
use Rattle.std.proofs.lemmas.List.{map-append}
use Rattle.yp_schema.specs.declared.schema.SchemaNode.{SchemaNode}
use Rattle.yp_journal.specs.declared.receiver.ReceiverInfo.{ReceiverInfo}
use Rattle.yp_attempt.specs.Runs.{Run}
use Rattle.yp_attempt.specs.Workers.{numbers_of}
use Rattle.yp_listeners.specs.declared.listener.Listener.{Listener}
use Rattle.yp_listeners.specs.Listeners.{numbers_in}
use Rattle.yp_crews.specs.declared.crew.Crew.{Crew}
use Rattle.yp_crews.specs.Crews.{AreCrews, IsCrewOf}

-- ---- the numbers of listeners

module _ (worker workers number : ℕ) where
  -- the numbers up to this one, by whether it is the worker's
  abbrev numbers_if : Bool → List ℕ
  numbers_if b = numbers_of worker workers number ++ (if b then number ∷ [] else [])

  one_further : numbers_of worker workers (number + 1) ≡ numbers_if (number % workers == worker)
  one_further = let more : number + 1 ≡ suc number = omega arith in ap (numbers_of worker workers) more

  pub one_listener_more : (listeners : List Listener) (listener : Listener) → numbers_in listeners ≡ numbers_of worker workers number → listener.receiver ≡ number → number % workers ≡ worker
      → numbers_in (listeners ++ listener ∷ []) ≡ numbers_of worker workers (number + 1)
  one_listener_more listeners listener same is its =
      let mine : (number % workers == worker) ≡ true = grind (arith, its) in
      map-append (λ (l : Listener). l.receiver) listeners (listener ∷ [])
      ∙ ap (λ (numbers : List ℕ). numbers ++ listener.receiver ∷ []) same
      ∙ ap (λ (n : ℕ). numbers_of worker workers number ++ n ∷ []) is
      ∙ sym (one_further ∙ ap numbers_if mine)

  pub no_listener_more : (listeners : List Listener) → numbers_in listeners ≡ numbers_of worker workers number → number % workers ≢ worker → numbers_in listeners ≡ numbers_of worker workers (number + 1)
  no_listener_more listeners same other =
      let not_mine : (number % workers == worker) ≡ false = grind (arith, other) in
      same ∙ sym (one_further ∙ (ap numbers_if not_mine ∙ append-nil (numbers_of worker workers number)))

-- ---- workers

module _ (nodes : List SchemaNode) (start : ℕ) (receivers : List ReceiverInfo) (workers : ℕ) where
  -- a worker of this number before the first entry
  abbrev IsOpened : ℕ → Run → Crew → Type 0
  IsOpened worker run crew = IsCrewOf nodes start receivers (numbers_of worker workers (length receivers)) [] run crew

  -- workers and one more
  pub crews_more : (worker : ℕ) (runs : List Run) (crews : List Crew) (run : Run) (crew : Crew) → AreCrews nodes start receivers workers worker [] runs crews
      → IsCrewOf nodes start receivers (numbers_of (worker + length crews) workers (length receivers)) [] run crew → AreCrews nodes start receivers workers worker [] (runs ++ run ∷ []) (crews ++ crew ∷ [])
  crews_more worker [] [] run crew are is =
      let same : worker + length {A = Crew} [] ≡ worker = omega arith in
      (subst (λ (n : ℕ). IsOpened n run crew) same is, tt)
  crews_more worker [] (other ∷ crews) run crew are is = absurd are
  crews_more worker (other ∷ runs) [] run crew are is = absurd are
  crews_more worker (other ∷ runs) (another ∷ crews) run crew are is =
      let same : worker + suc (length crews) ≡ worker + 1 + length crews = omega arith in
      (are.0, crews_more (worker + 1) runs crews run crew are.1 (subst (λ (n : ℕ). IsOpened n run crew) same is))
