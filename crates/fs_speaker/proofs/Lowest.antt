-- The peer with the lowest number is the one that its number tells.
use Rattle.fs_speaker.proofs.Words.{◌≡◌, ◌==◌, Bool, true, false, true≢false, List, [], ◌∷◌, Option, Some, find, nat_le, unwrap_or, refl, ap, sym}
use Rattle.fs_speaker.proofs.Words.{◌∙◌, subst, if◌then◌else◌, IsSome, ℕ, eq-eqb, eqb-true, list_all, Peer, is_lowest, sender_of}
use Rattle.fs_base.specs.Config.{peer_of}

find_holds : (p : Peer → Bool) (peers : List Peer) (peer : Peer) → find p peers ≡ Some peer → p peer ≡ true
find_holds p [] peer h = absurd cc
find_holds p (first ∷ peers) peer h = by (p first) refl h (find_holds p peers peer)
  where
    by : (b : Bool) → p first ≡ b → (if b then Some first else find p peers) ≡ Some peer → (find p peers ≡ Some peer → p peer ≡ true) → p peer ≡ true
    by true e f rest = ap p (sym (ap (λ (o : Option Peer). unwrap_or o first) f)) ∙ e
    by false e f rest = rest f

same_lowest : (all : List Peer) (one other : Peer) → one.number ≡ other.number → is_lowest all one ≡ is_lowest all other
same_lowest all one other e = ap (λ (n : ℕ). list_all (λ (p : Peer). nat_le n p.number) all) e

differ : (all : List Peer) (first peer : Peer) → is_lowest all first ≡ false → is_lowest all peer ≡ true → (b : Bool)
    → (first.number == peer.number) ≡ b → b ≡ false
differ all first peer higher least true e = absurd (true≢false (sym least ∙ sym (same_lowest all first peer (eqb-true first.number peer.number e)) ∙ higher))
differ all first peer higher least false e = refl

-- the peer with the lowest number is the one that its number tells
lowest_first : (all peers : List Peer) (peer : Peer) → find (is_lowest all) peers ≡ Some peer
    → find (λ (other : Peer). other.number == peer.number) peers ≡ Some peer
lowest_first all [] peer h = absurd cc
lowest_first all (first ∷ peers) peer h = by (is_lowest all first) refl h (lowest_first all peers peer)
  where
    by : (b : Bool) → is_lowest all first ≡ b → (if b then Some first else find (is_lowest all) peers) ≡ Some peer
        → (find (is_lowest all) peers ≡ Some peer → find (λ (other : Peer). other.number == peer.number) peers ≡ Some peer)
        → (if first.number == peer.number then Some first else find (λ (other : Peer). other.number == peer.number) peers) ≡ Some peer
    by true e f rest =
        let same : first ≡ peer = ap (λ (o : Option Peer). unwrap_or o first) f in
        ap (λ (b : Bool). if b then Some first else find (λ (other : Peer). other.number == peer.number) peers)
        (eq-eqb first.number peer.number (ap (λ (p : Peer). p.number) same)) ∙ f
    by false e f rest =
        ap (λ (b : Bool). if b then Some first else find (λ (other : Peer). other.number == peer.number) peers)
        (differ all first peer e (find_holds (is_lowest all) peers peer f) (first.number == peer.number) refl)
        ∙ rest f

pub sender_told : (peers : List Peer) (peer : Peer) → sender_of peers ≡ Some peer → peer_of peer.number peers ≡ Some peer
sender_told peers peer h = lowest_first peers peers peer h

pub is_told : (peers : List Peer) (peer : Peer) → sender_of peers ≡ Some peer → IsSome (peer_of peer.number peers)
is_told peers peer h = subst (λ (o : Option Peer). IsSome o) (sym (sender_told peers peer h)) refl
