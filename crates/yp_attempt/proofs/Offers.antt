-- The first offer among tracks: all before it offer nothing.
use Rattle.std.proofs.Common.{◌≡◌, ℕ, refl, sym, ap, subst, ◌∙◌, List, [], ◌∷◌, ◌++◌, Option, Some, None}
use Rattle.std.specs.Prelude.{option_map}
use Rattle.std.specs.List.{AllByRecursion}
use Rattle.std.proofs.lemmas.Option.{same_Some, none-some}
use Rattle.yp_feed.specs.declared.item.Item.{Item}
use Rattle.yp_attempt.specs.Content.{Content}
use Rattle.yp_attempt.specs.Tracks.{Track, offered_item}
use Rattle.yp_attempt.specs.Runs.{Found, with_earlier, found_in, first_offer, IsFirst}

option_map_some : {X Y : Type 0} (f : X → Y) (o : Option X) (y : Y) → option_map f o ≡ Some y → (x : X) × (o ≡ Some x) × (f x ≡ y)
option_map_some f None y e = absurd (none-some y e)
option_map_some f (Some x) y e = (x, refl, same_Some (f x) y e)

found_first : (c : Content) (stamp : ℕ) (t : Track) (tracks : List Track) (o : Option Item) (later : Option Found) (found : Found) → offered_item c stamp t ≡ o → ((f : Found) → later ≡ Some f → IsFirst c stamp tracks f) → found_in o t tracks later ≡ Some found → IsFirst c stamp (t ∷ tracks) found
found_first c stamp t tracks (Some item) later found o h e =
    let is : record { before = []; track = t; item = item; after = tracks } ≡ found = same_Some (record { before = []; track = t; item = item; after = tracks }) found e in
    subst (λ (f : Found). IsFirst c stamp (t ∷ tracks) f) is (record { parts = refl; offers = o; idle = tt })
found_first c stamp t tracks None later found o h e =
    let m = option_map_some (with_earlier t) later found e in
    let k = h m.0 m.1 in
    subst (λ (f : Found). IsFirst c stamp (t ∷ tracks) f) m.2 (record { parts = ap (λ (xs : List Track). t ∷ xs) k.parts; offers = k.offers; idle = (o, k.idle) })

pub found_first_offer : (c : Content) (stamp : ℕ) (tracks : List Track) (found : Found) → first_offer c stamp tracks ≡ Some found → IsFirst c stamp tracks found
found_first_offer c stamp [] found e = absurd (none-some found e)
found_first_offer c stamp (t ∷ tracks) found e = found_first c stamp t tracks (offered_item c stamp t) (first_offer c stamp tracks) found refl (found_first_offer c stamp tracks) e

pub idle_first : (c : Content) (stamp : ℕ) (before : List Track) (track : Track) (item : Item) (after : List Track) → AllByRecursion (λ t. offered_item c stamp t ≡ None) before → offered_item c stamp track ≡ Some item
    → first_offer c stamp (before ++ track ∷ after) ≡ Some (record { before = before; track = track; item = item; after = after })
idle_first c stamp [] track item after h e = ap (λ (o : Option Item). found_in o track after (first_offer c stamp after)) e
idle_first c stamp (t ∷ before) track item after h e =
    ap (λ (o : Option Item). found_in o t (before ++ track ∷ after) (first_offer c stamp (before ++ track ∷ after))) h.0
    ∙ ap (λ (o : Option Found). found_in None t (before ++ track ∷ after) o) (idle_first c stamp before track item after h.1 e)

pub idle_all : (c : Content) (stamp : ℕ) (tracks : List Track) → AllByRecursion (λ t. offered_item c stamp t ≡ None) tracks → first_offer c stamp tracks ≡ None
idle_all c stamp [] h = refl
idle_all c stamp (t ∷ tracks) h =
    ap (λ (o : Option Item). found_in o t tracks (first_offer c stamp tracks)) h.0 ∙ ap (λ (o : Option Found). found_in None t tracks o) (idle_all c stamp tracks h.1)

idle_by : (c : Content) (stamp : ℕ) (t : Track) (tracks : List Track) (o : Option Item) (f : Option Found) → offered_item c stamp t ≡ o → first_offer c stamp tracks ≡ f → found_in o t tracks f ≡ None → (offered_item c stamp t ≡ None) × (first_offer c stamp tracks ≡ None)
idle_by c stamp t tracks (Some item) f e g q = absurd (none-some (record { before = []; track = t; item = item; after = tracks }) (sym q))
idle_by c stamp t tracks None (Some found) e g q = absurd (none-some (with_earlier t found) (sym q))
idle_by c stamp t tracks None None e g q = (e, g)

pub all_idle : (c : Content) (stamp : ℕ) (tracks : List Track) → first_offer c stamp tracks ≡ None → AllByRecursion (λ t. offered_item c stamp t ≡ None) tracks
all_idle c stamp [] h = tt
all_idle c stamp (t ∷ tracks) h =
    let k = idle_by c stamp t tracks (offered_item c stamp t) (first_offer c stamp tracks) refl refl h in
    (k.0, all_idle c stamp tracks k.1)
