-- What an event does, by cases: an end says something, is handed a piece or hears the clock, or the wire is cut.
use Rattle.fs_speaker.proofs.Words.{◌≡◌, ℕ, ◌==◌, Bool, true, false, if◌then◌else◌, List, [], ◌∷◌, ◌++◌, take, drop, Option, Some, None, refl}
use Rattle.fs_speaker.proofs.Words.{append_assoc, append-nil, Config, Peer, hand, Machine, Sending, Event, Send, Deliver, Cut, ticked, delivered_on}
use Rattle.fs_speaker.proofs.Words.{handed_over, taken_in, World, cuts, taker_of, teller_of, taker_comes, teller_comes, says, next_said, happens}
use Rattle.fs_speaker.proofs.Words.{runs_on}
use Rattle.fs_speaker.specs.declared.event.Event.TheVariants.{Tick}

-- the octets that an event hands to the announcing end while it is open
abbrev pub told_over : Event → World → List ℕ
told_over (Deliver to count moment) w = if to == 0 then [] else taken_in w.teller.closed (take count w.to_teller)
told_over _ w = []

module _ (config : Config) (peer : Peer) (sending : Sending) where
  abbrev taker : Machine
  taker = taker_of config peer sending

  abbrev teller : Machine
  teller = teller_of config peer sending

  -- of the event, what it hands to the receiving end and to the announcing end, and what it makes of both
  pub each_event : (w : World) (P : Event → List ℕ → List ℕ → World → Type 0) → P Send [] [] w
      → ((text : List ℕ) → next_said config peer sending w.teller w.appended ≡ Some text → P Send [] [] (says (Some text) w))
      → ((to count moment : ℕ)
      → P (Deliver to count moment) (taken_in w.taker.closed (take count w.to_taker)) []
      (taker_comes (hand taker moment w.taker (take count w.to_taker)) (drop count w.to_taker) w))
      → ((to count moment : ℕ)
      → P (Deliver to count moment) [] (taken_in w.teller.closed (take count w.to_teller))
      (teller_comes (hand teller moment w.teller (take count w.to_teller)) (drop count w.to_teller) w))
      → ((end moment : ℕ) → (end == 0) ≡ true → P (Tick end moment) [] [] (taker_comes (ticked moment w.taker) w.to_taker w))
      → ((end moment : ℕ) → (end == 0) ≡ false → P (Tick end moment) [] [] (teller_comes (ticked moment w.teller) w.to_teller w))
      → P Cut [] [] (cuts w)
      → (event : Event) → P event (handed_over event w) (told_over event w) (happens config peer sending event w)
  each_event w P none said taken told woke waked cut Send = by (next_said config peer sending w.teller w.appended) refl
    where
      by : (text : Option (List ℕ)) → next_said config peer sending w.teller w.appended ≡ text → P Send [] [] (says text w)
      by None e = none
      by (Some text) e = said text e
  each_event w P none said taken told woke waked cut (Deliver to count moment) = by (to == 0)
    where
      by : (first : Bool) → P (Deliver to count moment) (if first then taken_in w.taker.closed (take count w.to_taker) else []) (if first then []
          else taken_in w.teller.closed (take count w.to_teller))
          (if first then taker_comes (hand taker moment w.taker (take count w.to_taker)) (drop count w.to_taker) w
          else teller_comes (hand teller moment w.teller (take count w.to_teller)) (drop count w.to_teller) w)
      by true = taken to count moment
      by false = told to count moment
  each_event w P none said taken told woke waked cut (Tick end moment) = by (end == 0) refl
    where
      by : (first : Bool) → (end == 0) ≡ first
          → P (Tick end moment) [] [] (if first then taker_comes (ticked moment w.taker) w.to_taker w else teller_comes (ticked moment w.teller) w.to_teller w)
      by true e = woke end moment e
      by false e = waked end moment e
  each_event w P none said taken told woke waked cut Cut = cut

  -- so of a list of events, by the octets that were delivered
  pub each_run : (P : List ℕ → World → Type 0)
      → ((octets : List ℕ) (w : World) (event : Event) → P octets w → P (octets ++ handed_over event w) (happens config peer sending event w))
      → (events : List Event) (octets : List ℕ) (w : World) → P octets w
      → P (octets ++ delivered_on config peer sending w events) (runs_on config peer sending w events)
  each_run P on [] octets w p = rw (append-nil octets) p
  each_run P on (event ∷ events) octets w p =
      rw (← append_assoc octets (handed_over event w) (delivered_on config peer sending (happens config peer sending event w) events))
      (each_run P on events (octets ++ handed_over event w) (happens config peer sending event w) (on octets w event p))
