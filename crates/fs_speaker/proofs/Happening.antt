-- What each event makes of both ends.
use Rattle.fs_speaker.proofs.Words.{◌≡◌, ℕ, Bool, List, [], ◌++◌, take, drop, Option, Some, refl, ap, sym, ◌∙◌, subst, append-nil, unwrap_or, Config}
use Rattle.fs_speaker.proofs.Words.{Peer, Update, Tick, Quiet, Keeps, Expires, Times, Sending, Announcing, machine_in, Point, Handed, hand, needs_of}
use Rattle.fs_speaker.proofs.Words.{Lined, Live, line_of, receiver, announcer, at_moment, tick_at, Phase, Machine, Own, own_of_taker, own_of_teller}
use Rattle.fs_speaker.proofs.Words.{ticks, ticked, StandsAt, HandsOver, TicksOver, Both, both, IsTaker, IsTeller, AreIn, Flying, flying, World, sent}
use Rattle.fs_speaker.proofs.Words.{taker_of, teller_of, taker_comes, teller_comes, delivers, wakes}
use Rattle.fs_speaker.proofs.Waking.{tick_each}

-- no update comes of the clock
no_update : (tick : Tick) (waiting : List ℕ) (phase : Phase) (times : Times) → (ticks tick waiting phase times).updates ≡ []
no_update Quiet waiting phase times = refl
no_update Keeps waiting phase times = refl
no_update Expires waiting phase times = refl

nothing_taken : (moment : ℕ) (now : Point) → (ticked moment now).updates ≡ []
nothing_taken moment now =
    tick_each moment now (λ made. made.updates ≡ [])
    (λ e. no_update (tick_at now.phase.hold (at_moment moment now.times)) now.waiting now.phase (at_moment moment now.times))
    (λ why e. refl)

-- updates that are handed over into a list of their own are taken behind others
pub handed_behind : (machine : Machine) (moment : ℕ) (old new : Lined) (piece : List ℕ) (taken got all : List Update) (said : List ℕ)
    → HandsOver machine moment old new piece [] got [] said → all ≡ taken ++ got → HandsOver machine moment old new piece taken all [] said
handed_behind machine moment old new piece taken got all said hands is =
    λ now stands. let made = hands now stands in (made.0, (is ∙ ap (λ (u : List Update). taken ++ u) made.1.0, made.1.1))

module _ (config : Config) (peer : Peer) (sending : Sending) (w : World) (old : Both) (here : AreIn config peer sending old w) where
  takes_as : receiver old.taker.config old.taker.peer ≡ taker_of config peer sending
  takes_as = ap (λ (c : Config). receiver c old.taker.peer) here.first.config_is ∙ ap (λ (p : Peer). receiver config p) here.first.peer_is

  tells_as : machine_in old.teller ≡ teller_of config peer sending
  tells_as = ap (λ (c : Config). announcer c (needs_of old.teller.sending.rules)) here.second.config_is
      ∙ ap (λ (s : Sending). announcer config (needs_of s.rules)) here.second.sending_is

  -- the receiving end is another one's, and stands elsewhere
  taker_is : (taker : Live) (now : Point) → own_of_taker taker ≡ own_of_taker old.taker → StandsAt (taker_of config peer sending) (line_of taker) now
      → IsTaker config peer sending taker now
  taker_is taker now own stands = record {
    config_is = ap (λ (o : Own). o.config) own ∙ here.first.config_is;
    peer_is = ap (λ (o : Own). o.peer) own ∙ here.first.peer_is;
    stands = stands;
  }

  said_of : (teller : Announcing) → own_of_teller teller ≡ own_of_teller old.teller
      → (teller.sending ≡ old.teller.sending) × ((teller.started ≡ old.teller.started) × (teller.appended ≡ old.teller.appended))
  said_of teller own =
      let said : Sending × Bool × ℕ = (old.teller.sending, old.teller.started, old.teller.appended) in
      let same : Some (teller.sending, teller.started, teller.appended) ≡ Some said = ap (λ (o : Own). o.says) own in (
        ap (λ (o : Option (Sending × Bool × ℕ)). (unwrap_or o said).0) same,
        (ap (λ (o : Option (Sending × Bool × ℕ)). (unwrap_or o said).1) same, ap (λ (o : Option (Sending × Bool × ℕ)). (unwrap_or o said).2) same),
      )

  teller_is : (teller : Announcing) (now : Point) → own_of_teller teller ≡ own_of_teller old.teller → StandsAt (teller_of config peer sending) teller.line now
      → IsTeller config peer sending teller now w.appended
  teller_is teller now own stands =
      let said = said_of teller own in
      record {
        config_is = ap (λ (o : Own). o.config) own ∙ here.second.config_is;
        peer_is = ap (λ (o : Own). o.peer) own ∙ here.second.peer_is;
        sending_is = said.0 ∙ here.second.sending_is;
        started = said.1.0 ∙ here.second.started;
        appended_is = said.1.1 ∙ here.second.appended_is;
        stands = stands;
      }

  -- what is said is in flight
  flies : (cut : Bool) (octets said text : List ℕ) (flying : List ℕ) → cut ≡ w.cut → octets ≡ flying → said ≡ text
      → sent cut octets said ≡ sent w.cut flying text
  flies cut octets said text flying c o s = ap (λ (b : Bool). sent b octets said) c ∙ ap (λ (z : List ℕ). sent w.cut z said) o
      ∙ ap (λ (z : List ℕ). sent w.cut flying z) s

  -- the receiving end came to this, and so much of what is in flight to it is left
  taker_came : (made : Handed) (rest : List ℕ) (taker : Live) (flight : Flying) (taken : List Update) (left said : List ℕ)
      → own_of_taker taker ≡ own_of_taker old.taker
      → StandsAt (taker_of config peer sending) (line_of taker) made.point → taken ≡ old.taken ++ made.updates → said ≡ made.text → left ≡ rest
      → flight ≡ flying left (sent old.flight.cut old.flight.to_teller said) old.flight.cut
      → AreIn config peer sending (both taker old.teller flight taken) (taker_comes made rest w)
  taker_came made rest taker flight taken left said own stands takes says is put = record {
    first = taker_is taker made.point own stands;
    second = here.second;
    to_taker_is = ap (λ (f : Flying). f.to_taker) put ∙ is;
    to_teller_is = ap (λ (f : Flying). f.to_teller) put
        ∙ flies old.flight.cut old.flight.to_teller said made.text w.to_teller here.cut_is here.to_teller_is says;
    cut_is = ap (λ (f : Flying). f.cut) put ∙ here.cut_is;
    taken_is = takes ∙ ap (λ (u : List Update). u ++ made.updates) here.taken_is;
  }

  -- so the announcing end
  teller_came : (made : Handed) (rest : List ℕ) (teller : Announcing) (flight : Flying) (left said : List ℕ) → own_of_teller teller ≡ own_of_teller old.teller
      → StandsAt (teller_of config peer sending) teller.line made.point → said ≡ made.text → left ≡ rest
      → flight ≡ flying (sent old.flight.cut old.flight.to_taker said) left old.flight.cut
      → AreIn config peer sending (both old.taker teller flight old.taken) (teller_comes made rest w)
  teller_came made rest teller flight left said own stands says is put = record {
    first = here.first;
    second = teller_is teller made.point own stands;
    to_taker_is = ap (λ (f : Flying). f.to_taker) put ∙ flies old.flight.cut old.flight.to_taker said made.text w.to_taker here.cut_is here.to_taker_is says;
    to_teller_is = ap (λ (f : Flying). f.to_teller) put ∙ is;
    cut_is = ap (λ (f : Flying). f.cut) put ∙ here.cut_is;
    taken_is = here.taken_is;
  }

  pub taker_delivered : (taker : Live) (flight1 flight : Flying) (taken : List Update) (piece said : List ℕ) (count moment : ℕ)
      → piece ≡ take count old.flight.to_taker
      → flight1 ≡ flying (drop count old.flight.to_taker) old.flight.to_teller old.flight.cut → own_of_taker taker ≡ own_of_taker old.taker
      → HandsOver (receiver old.taker.config old.taker.peer) moment (line_of old.taker) (line_of taker) piece old.taken taken [] said
      → flight ≡ flying flight1.to_taker (sent flight1.cut flight1.to_teller said) flight1.cut
      → AreIn config peer sending (both taker old.teller flight taken) (delivers config peer sending 0 count moment w)
  taker_delivered taker flight1 flight taken piece said count moment front left own hands put =
      let machine : Machine = taker_of config peer sending in
      let came = subst (λ (m : Machine). HandsOver m moment (line_of old.taker) (line_of taker) piece old.taken taken [] said) takes_as hands w.taker
      here.first.stands in
      subst (λ (z : List ℕ). AreIn config peer sending (both taker old.teller flight taken)
      (taker_comes (hand machine moment w.taker z) (drop count w.to_taker) w))
      (front ∙ ap (take count) here.to_taker_is)
      (taker_came (hand machine moment w.taker piece) (drop count w.to_taker) taker flight taken
      (drop count old.flight.to_taker) said own came.0 came.1.0 came.1.1
      (ap (drop count) here.to_taker_is) (put ∙ ap (λ (f : Flying). flying f.to_taker (sent f.cut f.to_teller said) f.cut) left))

  pub teller_delivered : (teller : Announcing) (flight1 flight : Flying) (none : List Update) (piece said : List ℕ) (count moment : ℕ)
      → piece ≡ take count old.flight.to_teller
      → flight1 ≡ flying old.flight.to_taker (drop count old.flight.to_teller) old.flight.cut → own_of_teller teller ≡ own_of_teller old.teller
      → HandsOver (machine_in old.teller) moment old.teller.line teller.line piece [] none [] said
      → flight ≡ flying (sent flight1.cut flight1.to_taker said) flight1.to_teller flight1.cut
      → AreIn config peer sending (both old.taker teller flight old.taken) (delivers config peer sending 1 count moment w)
  teller_delivered teller flight1 flight none piece said count moment front left own hands put =
      let machine : Machine = teller_of config peer sending in
      let came = subst (λ (m : Machine). HandsOver m moment old.teller.line teller.line piece [] none [] said) tells_as hands w.teller here.second.stands in
      subst (λ (z : List ℕ). AreIn config peer sending (both old.taker teller flight old.taken)
      (teller_comes (hand machine moment w.teller z) (drop count w.to_teller) w))
      (front ∙ ap (take count) here.to_teller_is)
      (teller_came (hand machine moment w.teller piece) (drop count w.to_teller) teller flight (drop count old.flight.to_teller) said own came.0 came.1.1
      (ap (drop count) here.to_teller_is) (put ∙ ap (λ (f : Flying). flying (sent f.cut f.to_taker said) f.to_teller f.cut) left))

  pub taker_woke : (taker : Live) (flight : Flying) (said : List ℕ) (moment : ℕ) → own_of_taker taker ≡ own_of_taker old.taker
      → TicksOver (receiver old.taker.config old.taker.peer) moment (line_of old.taker) (line_of taker) [] said
      → flight ≡ flying old.flight.to_taker (sent old.flight.cut old.flight.to_teller said) old.flight.cut
      → AreIn config peer sending (both taker old.teller flight old.taken) (wakes config peer sending 0 moment w)
  taker_woke taker flight said moment own ticks put =
      let came = subst (λ (m : Machine). TicksOver m moment (line_of old.taker) (line_of taker) [] said) takes_as ticks w.taker here.first.stands in
      taker_came (ticked moment w.taker) w.to_taker taker flight old.taken old.flight.to_taker said own came.0
      (sym (append-nil old.taken) ∙ ap (λ (u : List Update). old.taken ++ u) (sym (nothing_taken moment w.taker))) came.1 here.to_taker_is put

  pub teller_woke : (teller : Announcing) (flight : Flying) (said : List ℕ) (moment : ℕ) → own_of_teller teller ≡ own_of_teller old.teller
      → TicksOver (machine_in old.teller) moment old.teller.line teller.line [] said
      → flight ≡ flying (sent old.flight.cut old.flight.to_taker said) old.flight.to_teller old.flight.cut
      → AreIn config peer sending (both old.taker teller flight old.taken) (wakes config peer sending 1 moment w)
  teller_woke teller flight said moment own ticks put =
      let came = subst (λ (m : Machine). TicksOver m moment old.teller.line teller.line [] said) tells_as ticks w.teller here.second.stands in
      teller_came (ticked moment w.teller) w.to_teller teller flight old.flight.to_teller said own came.0 came.1 here.to_teller_is put
