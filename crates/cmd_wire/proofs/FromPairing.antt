-- How what `pair` answers follows from its stages.
use Rattle.cmd_wire.proofs.Words.{Announcing, Arrives, CanSend, Desked, Done, EndCloses, Ending, Found, HasReason, Names, Pairs, PairsOver, PairsSo}
use Rattle.cmd_wire.proofs.Words.{Peer, Played, Refusal, Sending, Told, WireEnds, and_then, announcing, begins_with, octets_in, or_stop, peer_of}
use Rattle.cmd_wire.proofs.Words.{sender_of, sending_stage, tape_of, ◌≡◌, inl, inr, ◌∙◌, ℕ, List, Bool, false, Option, Some, None, IfSome, Result, Ok}
use Rattle.cmd_wire.proofs.Words.{Err, refl, ap, sym, subst, Config, fresh, AreJoined, of_first, of_second, played_leaves, IsBrokenOff, Conversation}
use Rattle.cmd_wire.proofs.Words.{IsListing, ListsDesk, BothBegin, Joined, Meets, sender_told, Begins, IfErr, IsErrAnd, Rejected, CanArrive, told_as}
use Rattle.cmd_wire.proofs.Words.{Carries, joining}
use Rattle.cmd_wire.proofs.{FromStages.{told_through}, Named.{arrived}}

-- what was told of both ends that were opened, spoken through, and closed

abbrev coupled : WireEnds → WireEnds → Type 0
coupled before now = now ≡ joining before

joined_so : (a b : WireEnds) → coupled a b → AreJoined b
joined_so a b d = subst AreJoined (sym d) (refl, refl, refl, refl)

-- the text lists what the receiving end took
lists_for : (config : Config) (peer : Peer) (sending : Sending) (desk : Desked) (limit : ℕ) (given text : List ℕ) (ending : Ending) (b c : WireEnds)
    → (p : Pairs ending config peer sending desk peer.number limit given b c) → ListsDesk ending desk text → ending ≡ Done
    → IsListing config (tape_of peer.number p.announced) text
lists_for config peer sending desk limit given text ending b c p lists e =
    let came : Arrives config peer sending desk peer.number limit (of_first p.events) (of_second p.events) p.announced p.replied =
    subst (λ (n : Ending). PairsSo n config peer sending desk peer.number limit p.events p.announced p.replied c) e p.ends in
    let played : Played config (tape_of peer.number p.announced) desk =
    subst (λ (z : List ℕ). Played config (tape_of peer.number z) desk) (sym came.all_is)
    (subst (λ (o : Config). Played o (tape_of peer.number (octets_in (of_first p.events))) desk) p.config_is came.receives.played) in
    record {
      held = desk.held;
      leaves = played_leaves config (tape_of peer.number p.announced) desk played;
      text_is = lists e config (tape_of peer.number p.announced) played;
    }

met : (ending : Ending) (config : Config) (peer : Peer) (sending : Sending) (desk : Desked) (limit : ℕ) (given text : List ℕ)
    → ListsDesk ending desk text → (a b c : WireEnds)
    → coupled a b → (AreJoined b → Pairs ending config peer sending desk peer.number limit given b c)
    → Meets ending config peer sending desk limit given text a c
met ending config peer sending desk limit given text lists a b c d f =
    let p : Pairs ending config peer sending desk peer.number limit given (joining a) c =
    subst (λ (e : WireEnds). Pairs ending config peer sending desk peer.number limit given e c) d (f (joined_so a b d)) in
    record { pairs = p; lists = lists_for config peer sending desk limit given text ending (joining a) c p lists }

-- as the peer that the rules are sent for
module _ {config : Config} {sending : Sending} {begun : Desked} {number : ℕ} {sender : Announcing} {started : Bool}
    (b : BothBegin config sending begun number sender started) where
  pub joined_from : (ending : Ending) (desk : Desked) (limit : ℕ) (text : List ℕ) (t1 t2 : Option WireEnds) (talk : Conversation)
      → ListsDesk ending desk text → Told coupled talk.ends t1
      → ((config : Config) (whose : Peer) (sending : Sending) → begun.config ≡ config → peer_of number config.peers ≡ Some whose
      → sender ≡ begins_with config whose sending → started ≡ false
      → PairsOver ending config whose sending desk number limit t1 t2 talk.answers talk.answers_now)
      → Told EndCloses t2 talk.ends_now → Joined ending config sending limit text talk
  joined_from ending desk limit text t1 t2 talk lists opens pairs closes =
      let over : PairsOver ending config b.peer sending desk b.peer.number limit t1 t2 talk.answers talk.answers_now =
      subst (λ (n : ℕ). PairsOver ending config b.peer sending desk n limit t1 t2 talk.answers talk.answers_now) b.number_is
      (pairs config b.peer sending b.config_is b.known b.sender_is b.unstarted) in
      record {
        peer = b.peer;
        peer_is = b.peer_is;
        desk = desk;
        given = over.given;
        grew = over.grew;
        told = told_through coupled (λ before now. AreJoined before → Pairs ending config b.peer sending desk b.peer.number limit over.given before now)
            (Meets ending config b.peer sending desk limit over.given text) (met ending config b.peer sending desk limit over.given text lists)
            talk.ends t1 t2 talk.ends_now opens over.told closes;
      }

abbrev Made : Config → Sending → Option Peer → Announcing → Bool → Type 0
Made config sending o teller started =
    IfSome o (λ peer. (teller ≡ announcing config peer sending fresh false 0) × (started ≡ false))

-- both ends before their first octets
pub both_begin : (config : Config) (sending : Sending) (desk : Desked) (number heard : ℕ) (teller : Announcing) (started : Bool)
    → Begins config desk number heard → Made config sending (sender_of config.peers) teller started
    → BothBegin config sending desk number teller started
both_begin config sending desk number heard teller started b made =
    let own : Made config sending (Some b.peer) teller started = subst (λ (o : Option Peer). Made config sending o teller started) b.peer_is made in
    record {
      peer = b.peer;
      peer_is = b.peer_is;
      number_is = b.number_is;
      known = ap (λ (n : ℕ). peer_of n config.peers) b.number_is ∙ sender_told config.peers b.peer b.peer_is;
      config_is = b.config_is;
      sender_is = own.0;
      unstarted = own.1;
    }

-- a peer that rules may be sent for is there
pub lowest_broken : {T : Type 0} (config : Config) (o : Option Peer) (sending : Sending) (r : Result T Refusal) (refusal : Refusal) → CanSend config o sending
    → HasReason (and_then {B = Config × Peer} (or_stop Rejected o) (λ peer. Found (config, peer))) ⊥ refusal → IsErrAnd r (λ e. e ≡ refusal)
    → IfErr r (IsBrokenOff ⊥)
lowest_broken config o sending (Ok t) refusal can reason e = tt
lowest_broken config None sending (Err other) refusal can reason e = absurd can
lowest_broken config (Some peer) sending (Err other) refusal can (inl h) e = absurd cc
lowest_broken config (Some peer) sending (Err other) refusal can (inr h) e = subst (IsBrokenOff ⊥) (sym e) h

-- of the files' session
pub carries : (limit : ℕ) (holds : Names) (config rules : List ℕ) (talk : Conversation) (accepted : Config) (sending : Sending) (ending : Ending)
    (text : List ℕ)
    → sending_stage limit holds config rules ≡ Found (accepted, sending) → Joined ending accepted sending limit text talk
    → Carries limit talk (accepted, sending) ending text
carries limit holds config rules talk accepted sending ending text found j = record {
  joined = j;
  can = λ done. told_as (Meets ending accepted j.peer sending j.desk limit j.given text) (λ b n. CanArrive accepted j.peer sending)
      (λ b n m.
      arrived limit holds config rules accepted sending j.peer found j.peer_is j.desk
      (of_first m.pairs.events) (of_second m.pairs.events) m.pairs.announced m.pairs.replied m.pairs.config_is
      (subst (λ (e : Ending). PairsSo e accepted j.peer sending j.desk j.peer.number limit m.pairs.events m.pairs.announced m.pairs.replied n) done
      m.pairs.ends))
      talk.ends talk.ends_now j.told;
}
