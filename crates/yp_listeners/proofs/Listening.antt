-- What listeners have after an offer more that was accepted.
use Rattle.std.proofs.Common.{◌≡◌, ℕ, ◌==◌, Bool, true, false, List, [], ◌∷◌, ◌++◌, map, refl, sym, ap, subst, ◌∙◌}
use Rattle.std.specs.List.{AllByRecursion}
use Rattle.std.proofs.lemmas.List.{map-append}
use Rattle.yp_base.specs.declared.row.Row.{Row}
use Rattle.yp_schema.specs.declared.schema.SchemaNode.{SchemaNode}
use Rattle.yp_feed.specs.declared.item.Item.{Item}
use Rattle.yp_queue.specs.declared.packet.Packet.{Packet}
use Rattle.yp_attempt.specs.AttemptLaws.{other_more, own_more, taken_append}
use Rattle.yp_attempt.specs.Attempts.{Notification, notification_of, of_receiver, taken_of}
use Rattle.yp_attempt.specs.Tracks.{Attempt, Took, Track, attempt}
use Rattle.yp_moment.specs.Windows.{recorded}
use Rattle.yp_receiver.specs.Held.{line_taken, lines_heard}
use Rattle.yp_worker.specs.Packets.{packet_of}
use Rattle.yp_offer_log.specs.declared.logged.Logged.{Logged}
use Rattle.yp_offer_log.specs.declared.logged.Logged.TheVariants as logs
use Rattle.yp_offer_log.specs.Logs.{logged}
use Rattle.yp_listeners.specs.declared.listener.Listener.{Listener}
use Rattle.yp_listeners.specs.Listeners.{HasTaken, IsListenerOf, TakesIf, WereGiven}

-- what is held after lines and one more
heard_more : (nodes : List SchemaNode) (held : List (ℕ × List Row)) (lines : List (List ℕ)) (line : List ℕ) → lines_heard nodes held (lines ++ line ∷ []) ≡ lines_heard nodes (lines_heard nodes held lines) (line ∷ [])
heard_more nodes held [] line = refl
heard_more nodes held (first ∷ lines) line = heard_more nodes (line_taken nodes held first) lines line

module _ (nodes : List SchemaNode) (start : ℕ) (done : List Attempt) (n stamp : ℕ) (track : Track) (item : Item) where
  abbrev made : Attempt
  made = attempt recorded n stamp track item Took

  abbrev packet : Packet
  packet = packet_of nodes start made.sub made.made

  abbrev line_in : Notification → List ℕ
  line_in notification = (packet_of nodes start notification.sub notification.made).line

  -- the one that it was for has its line more
  own : (before after : Listener) → (made.receiver == before.receiver) ≡ true → HasTaken nodes packet before after → IsListenerOf nodes start done before → IsListenerOf nodes start (done ++ made ∷ []) after
  own before after its taken is =
      let mine : List Attempt = of_receiver before.receiver done in
      let more : of_receiver after.receiver (done ++ made ∷ []) ≡ mine ++ made ∷ [] = ap (λ (r : ℕ). of_receiver r (done ++ made ∷ [])) taken.receiver ∙ own_more before.receiver done made its in
      let lines : map line_in (taken_of (mine ++ made ∷ [])) ≡ map line_in (taken_of mine) ++ packet.line ∷ [] =
      ap (map line_in) (taken_append mine (made ∷ [])) ∙ map-append line_in (taken_of mine) (notification_of made ∷ []) in
      record {
        log = taken.log
            ∙ (ap (λ (log : List Logged). log ++ logs.Line packet.kind packet.line ∷ []) is.log
            ∙ (sym (map-append (logged nodes start) mine (made ∷ [])) ∙ ap (map (logged nodes start)) (sym more)));
        heard = taken.heard
            ∙ (ap (λ (held : List (ℕ × List Row)). lines_heard nodes held (packet.line ∷ [])) is.heard
            ∙ (sym (heard_more nodes [] (map line_in (taken_of mine)) packet.line)
            ∙ (ap (lines_heard nodes []) (sym lines) ∙ ap (λ (attempts : List Attempt). lines_heard nodes [] (map line_in (taken_of attempts))) (sym more))));
      }

  -- another has what it had
  other : (listener : Listener) → (made.receiver == listener.receiver) ≡ false → IsListenerOf nodes start done listener → IsListenerOf nodes start (done ++ made ∷ []) listener
  other listener not_its is =
      let same : of_receiver listener.receiver (done ++ made ∷ []) ≡ of_receiver listener.receiver done = other_more listener.receiver done made not_its in
      record {
        log = is.log ∙ ap (map (logged nodes start)) (sym same);
        heard = is.heard ∙ ap (λ (attempts : List Attempt). lines_heard nodes [] (map line_in (taken_of attempts))) (sym same);
      }

  each : (before after : Listener) (b : Bool) → (made.receiver == before.receiver) ≡ b → TakesIf b nodes packet before after → IsListenerOf nodes start done before → IsListenerOf nodes start (done ++ made ∷ []) after
  each before after true its taken is = own before after its taken is
  each before after false not_its same is = subst (λ (one : Listener). IsListenerOf nodes start (done ++ made ∷ []) one) (sym same) (other before not_its is)

  -- so all have what the run offered to them
  pub all_given : (befores afters : List Listener) → WereGiven nodes made.receiver packet befores afters → AllByRecursion (IsListenerOf nodes start done) befores → AllByRecursion (IsListenerOf nodes start (done ++ made ∷ [])) afters
  all_given [] [] given all = tt
  all_given [] (after ∷ afters) given all = absurd given
  all_given (before ∷ befores) [] given all = absurd given
  all_given (before ∷ befores) (after ∷ afters) given all = (each before after (made.receiver == before.receiver) refl given.0 all.0, all_given befores afters given.1 all.1)
