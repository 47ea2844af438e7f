-- The desk behind one more item of the tape.
use Rattle.fs_desk.proofs.Words.{◌≡◌, ◌==◌, ℕ, List, [], ◌∷◌, ◌++◌, Bool, true, false, not, ◌&&◌, cond, Option, Some, None, if◌then◌else◌, option_map}
use Rattle.fs_desk.proofs.Words.{refl, ap, sym, ◌∙◌, subst, append-nil, arith, unwrap_or, IsSome, nat_tests, nat_cmp, is_eq, IsTotalOrder}
use Rattle.fs_desk.proofs.Words.{nat_cmp_total, eq_by_cmp_equiv, IsStrictlySortedBy, remove_entry, set_value, keys_of, insert_entry, is_at}
use Rattle.fs_desk.proofs.Words.{lookup-remove_entry, lookup-set_value, keys-set_value, IsDistinct-from_sorted, peer_of, Config, Peer, eq_itself}
use Rattle.fs_desk.proofs.Words.{equal_of_eq, equal_of_is_eq, is_eq_of_nats, if_true, if_false, Noted, Held, Closed, fresh, Live, live, begins, Item}
use Rattle.fs_desk.proofs.Words.{came_up, received, was_lost, bounds_life, begins_life, sent_in, life, Changes, nothing, IsListed, without_peer}
use Rattle.fs_desk.proofs.Words.{bounded_replies_from, IsLeft, Spares, IsUp, TakesPiece, Desked, KeepsOthers, session_at, PeerIs, StandsAs}
use Rattle.fs_desk.proofs.Words.{HasExpired, PlayedBut, Played, Replied, RepliedBy, expired_after, lookup-insert_entry, sorted-insert_entry}
use Rattle.fs_desk.proofs.Words.{sorted-remove_entry, BTreeMap, Plays, RepliesBehind}
use Rattle.fs_desk.proofs.{Life.{life-bound, life-more}, Follows.{follows_none, within_none}, Replying.{replied_none}, TableChanges.{lost_to}}
use Rattle.fs_desk.proofs.Updates.{left_nothing, left_spared, spares_none, spares_others}

same_swapped : (m n : ℕ) (b : Bool) → (m == n) ≡ b → (n == m) ≡ b
same_swapped m n b h = grind (arith, nat_tests, h)

-- of the peer's session, with another put in its place or taken away
session_put : (m n : ℕ) (session : Live) (sessions : List (ℕ × Live))
    → session_at m (insert_entry nat_cmp sessions n session) ≡ (if m == n then Some session else session_at m sessions)
session_put m n session sessions =
    lookup-insert_entry nat_cmp nat_cmp_total m n session sessions
    ∙ ap (λ (b : Bool). if b then Some session else session_at m sessions) (is_eq_of_nats m n)

session_gone : (m n : ℕ) (sessions : List (ℕ × Live)) → IsStrictlySortedBy nat_cmp (keys_of sessions)
    → session_at m (remove_entry (is_at (nat_cmp n)) sessions) ≡ (if m == n then None else session_at m sessions)
session_gone m n sessions s =
    lookup-remove_entry (eq_by_cmp_equiv nat_cmp_total) (is_at (nat_cmp n))
    (λ x y h. ap is_eq (IsTotalOrder.congr nat_cmp_total n x y (equal_of_is_eq (nat_cmp n x) h))) m sessions
    (IsDistinct-from_sorted nat_cmp (keys_of sessions) s)
    ∙ ap (λ (b : Bool). cond b None (session_at m sessions)) (is_eq_of_nats n m ∙ same_swapped m n (m == n) refl)

-- a peer is lost, and with it all that it held
pub record Loses (n : ℕ) (old new : Desked) : Type 0 where
  pub config_is : new.config ≡ old.config
  pub held_is : new.held ≡ without_peer n old.held
  pub sessions_are : new.sessions ≡ remove_entry (is_at (nat_cmp n)) old.sessions

-- a new session of a peer begins
pub record Begins (n : ℕ) (session : Live) (old new : Desked) : Type 0 where
  pub config_is : new.config ≡ old.config
  pub held_is : new.held ≡ old.held
  pub begun : begins old.config n ≡ Some session
  pub sessions_are : new.sessions ≡ insert_entry nat_cmp old.sessions n session

-- the session of a peer goes on
pub record GoesOn (n : ℕ) (session session' : Live) (old new : Desked) : Type 0 where
  pub config_is : new.config ≡ old.config
  pub there : session_at n old.sessions ≡ Some session
  pub sessions_are : new.sessions ≡ set_value (is_at (nat_cmp n)) old.sessions session'

begins_at : {n : ℕ} {session : Live} {old new : Desked} → Begins n session old new → (m : ℕ)
    → session_at m new.sessions ≡ (if m == n then Some session else session_at m old.sessions)
begins_at {n} {session} {old} b m = ap (session_at m) b.sessions_are ∙ session_put m n session old.sessions

pub goes_at : {n : ℕ} {session session' : Live} {old new : Desked} → GoesOn n session session' old new → (m : ℕ)
    → session_at m new.sessions ≡ (if m == n then Some session' else session_at m old.sessions)
goes_at {n} {session} {session'} {old} g m =
    ap (session_at m) g.sessions_are
    ∙ lookup-set_value (eq_by_cmp_equiv nat_cmp_total) (is_at (nat_cmp n))
    (λ x y h. ap is_eq (IsTotalOrder.congr nat_cmp_total n x y (equal_of_is_eq (nat_cmp n x) h))) m session' old.sessions
    (subst (λ (x : Option Live). IsSome x) (sym g.there) refl)
    ∙ ap (λ (b : Bool). cond b (Some session') (session_at m old.sessions)) (is_eq_of_nats n m ∙ same_swapped m n (m == n) refl)

pub goes_own : {n : ℕ} {session session' : Live} {old new : Desked} → GoesOn n session session' old new → session_at n new.sessions ≡ Some session'
goes_own {n} g = goes_at g n ∙ if_true (n == n) _ _ (eq_itself n)

pub goes_other : {n : ℕ} {session session' : Live} {old new : Desked} → GoesOn n session session' old new → (m : ℕ) → (m == n) ≡ false
    → session_at m new.sessions ≡ session_at m old.sessions
goes_other {n} g m e = goes_at g m ∙ if_false (m == n) _ _ e

pub goes_sorted : {n : ℕ} {session session' : Live} {old new : Desked} → GoesOn n session session' old new
    → IsStrictlySortedBy nat_cmp (keys_of old.sessions) → IsStrictlySortedBy nat_cmp (keys_of new.sessions)
goes_sorted {n} {session} {session'} {old} g sorted =
    subst (λ (ks : List ℕ). IsStrictlySortedBy nat_cmp ks)
    (sym (ap keys_of g.sessions_are ∙ keys-set_value (is_at (nat_cmp n)) old.sessions session')) sorted

-- a peer whose life and session are the same, where the table spares it
peer_spared : (config : Config) (peer : Option Peer) (l l' : Option (List ℕ)) (s s' : Option Live) (n m : ℕ) (old new : Held)
    → l' ≡ l → s' ≡ s → Spares n old new → (m == n) ≡ false → PeerIs config peer l s m old → PeerIs config peer l' s' m new
peer_spared config peer l l' s s' n m old new e f spares apart p =
    subst (λ (x : Option (List ℕ)). PeerIs config peer x s' m new) (sym e)
    (subst (λ (x : Option Live). PeerIs config peer l x m new) (sym f) (at peer l s p))
  where
    at : (q : Option Peer) (x : Option (List ℕ)) (y : Option Live) → PeerIs config q x y m old → PeerIs config q x y m new
    at q None None k = left_spared n m [] old new spares apart k
    at None None (Some y) k = absurd k
    at (Some q) None (Some y) k = absurd k
    at None (Some x) None k = absurd k
    at (Some q) (Some x) None k = absurd k
    at None (Some x) (Some y) k = absurd k
    at (Some q) (Some x) (Some y) k =
        record { updates = k.updates; fed = k.fed; replied = k.replied; left = left_spared n m k.updates old new spares apart k.left }

-- likewise where its session has expired
pub stands_spared : (expired expired' : ℕ → Bool) (config : Config) (items items' : List Item) (n m : ℕ) (old new : Desked)
    → expired' m ≡ expired m → life m items' ≡ life m items → session_at m new.sessions ≡ session_at m old.sessions → Spares n old.held new.held
    → (m == n) ≡ false → PlayedBut expired config items old
    → StandsAs (expired' m) config (peer_of m config.peers) (life m items') (session_at m new.sessions) m new.held
stands_spared expired expired' config items items' n m old new a e f spares apart p =
    subst (λ (x : Bool). StandsAs x config (peer_of m config.peers) (life m items') (session_at m new.sessions) m new.held) (sym a) (by (expired m) (p.each m))
  where
    gone : (o : Option Live) → HasExpired o m old.held → HasExpired o m new.held
    gone None k = absurd k
    gone (Some session) k = (k.0, left_spared n m [] old.held new.held spares apart k.1)

    by : (x : Bool) → StandsAs x config (peer_of m config.peers) (life m items) (session_at m old.sessions) m old.held
        → StandsAs x config (peer_of m config.peers) (life m items') (session_at m new.sessions) m new.held
    by true k = subst (λ (o : Option Live). HasExpired o m new.held) (sym f) (gone (session_at m old.sessions) k)
    by false k = peer_spared config (peer_of m config.peers) (life m items) (life m items') (session_at m old.sessions) (session_at m new.sessions)
        n m old.held new.held e f spares apart k

-- an item of another peer leaves a session expired or not, and one that bounds the peer's life doesn't
stays_expired : (b bounds : Bool) → bounds ≡ false → (b && not bounds) ≡ b
stays_expired true bounds e = ap not e
stays_expired false bounds e = refl

none_expired : (b bounds : Bool) → bounds ≡ true → (b && not bounds) ≡ false
none_expired true bounds e = ap not e
none_expired false bounds e = refl

-- an item of another peer doesn't touch a life
life_other : (m : ℕ) (items : List Item) (item : Item) → bounds_life m item ≡ false → begins_life m item ≡ false → sent_in m item ≡ []
    → life m (items ++ item ∷ []) ≡ life m items
life_other m items item t u s =
    life-more m items item t u
    ∙ ap (λ (z : List ℕ). option_map (λ octets. octets ++ z) (life m items)) s
    ∙ at (life m items)
  where
    at : (o : Option (List ℕ)) → option_map (λ octets. octets ++ []) o ≡ o
    at None = refl
    at (Some octets) = ap Some (append-nil octets)

-- what holds of a peer and of all others
pub each_peer : (P : ℕ → Type 0) (n : ℕ) → P n → ((m : ℕ) → (m == n) ≡ false → P m) → (m : ℕ) → P m
each_peer P n own others m = at (m == n) refl where
  at : (b : Bool) → (m == n) ≡ b → P m
  at true e = subst P (sym (equal_of_eq m n e)) own
  at false e = others m e

lost_life : (n : ℕ) (items : List Item) → life n (items ++ was_lost n ∷ []) ≡ None
lost_life n items = life-bound n items (was_lost n) (eq_itself n)

up_life : (n : ℕ) (items : List Item) → life n (items ++ came_up n ∷ []) ≡ Some []
up_life n items = life-bound n items (came_up n) (eq_itself n) ∙ ap (λ (b : Bool). if b then Some [] else None) (eq_itself n)

-- the peer was lost
pub plays_lost : {n : ℕ} {old new : Desked} → Loses n old new → Plays (was_lost n) old new
plays_lost {n} {old} {new} l expired config items p = record {
  config_is = l.config_is ∙ p.config_is;
  held_is = gone.config_is ∙ p.held_is;
  listed = gone.listed p.listed;
  sessions = subst (λ (z : List (ℕ × Live)). IsStrictlySortedBy nat_cmp (keys_of z)) (sym l.sessions_are)
      (sorted-remove_entry nat_cmp nat_cmp_total (is_at (nat_cmp n)) old.sessions p.sessions);
  each = each_peer (λ m. StandsAs (expired_after (was_lost n) expired m) config (peer_of m config.peers) (life m (items ++ was_lost n ∷ []))
      (session_at m new.sessions) m new.held) n
      (subst (λ (b : Bool). StandsAs b config (peer_of n config.peers) (life n (items ++ was_lost n ∷ [])) (session_at n new.sessions) n new.held)
      (sym (none_expired (expired n) (n == n) (eq_itself n)))
      (subst (λ (x : Option (List ℕ)). PeerIs config (peer_of n config.peers) x (session_at n new.sessions) n new.held) (sym (lost_life n items))
      (subst (λ (x : Option Live). PeerIs config (peer_of n config.peers) None x n new.held)
      (sym (ap (session_at n) l.sessions_are ∙ session_gone n n old.sessions p.sessions ∙ if_true (n == n) _ _ (eq_itself n)))
      (left_nothing n old.held new.held gone p.listed))))
      (λ m e. stands_spared expired (expired_after (was_lost n) expired) config items (items ++ was_lost n ∷ []) n m old new
      (stays_expired (expired m) (n == m) (same_swapped m n false e))
      (life_other m items (was_lost n) (same_swapped m n false e) refl refl)
      (ap (session_at m) l.sessions_are ∙ session_gone m n old.sessions p.sessions ∙ if_false (m == n) _ _ e)
      (spares_others n nothing nothing old.held new.held gone p.listed) e p);
}
  where
    gone : Changes n nothing nothing old.held new.held
    gone = lost_to n old.held new.held l.held_is

-- a lost peer came up
left_down : (config : Config) (peer : Option Peer) (s : Option Live) (n : ℕ) (held : Held) → PeerIs config peer None s n held → IsLeft n [] held
left_down config peer None n held k = k
left_down config None (Some s) n held k = absurd k
left_down config (Some peer) (Some s) n held k = absurd k

pub plays_up : {n : ℕ} {session : Live} {mid new : Desked} → Begins n session mid new → (expired : ℕ → Bool) (config : Config) (items : List Item)
    → PlayedBut (expired_after (was_lost n) expired) config (items ++ was_lost n ∷ []) mid
    → PlayedBut (expired_after (came_up n) expired) config (items ++ came_up n ∷ []) new
plays_up {n} {session} {mid} {new} b expired config items p = record {
  config_is = b.config_is ∙ p.config_is;
  held_is = ap (λ (z : Held). z.config) b.held_is ∙ p.held_is;
  listed = subst (λ (z : Held). IsListed z) (sym b.held_is) p.listed;
  sessions = subst (λ (z : List (ℕ × Live)). IsStrictlySortedBy nat_cmp (keys_of z)) (sym b.sessions_are)
      (sorted-insert_entry nat_cmp nat_cmp_total n session mid.sessions p.sessions);
  each = each_peer (λ m. StandsAs (expired_after (came_up n) expired m) config (peer_of m config.peers) (life m (items ++ came_up n ∷ []))
      (session_at m new.sessions) m new.held) n at
      (λ m e. subst (λ (z : Held). StandsAs (expired_after (came_up n) expired m) config (peer_of m config.peers) (life m (items ++ came_up n ∷ []))
      (session_at m new.sessions) m z) (sym b.held_is)
      (subst (λ (x : Option Live). StandsAs (expired_after (came_up n) expired m) config (peer_of m config.peers)
      (life m (items ++ came_up n ∷ [])) x m mid.held)
      (sym (begins_at b m ∙ if_false (m == n) _ _ e))
      (subst (λ (x : Option (List ℕ)). StandsAs (expired_after (came_up n) expired m) config (peer_of m config.peers) x (session_at m mid.sessions) m mid.held)
      (life_other m items (was_lost n) (same_swapped m n false e) refl refl
      ∙ sym (life_other m items (came_up n) (same_swapped m n false e) (same_swapped m n false e) refl))
      (p.each m))));
}
  where
    found : (peer : Peer) × (peer_of n mid.config.peers ≡ Some peer) × (session ≡ live mid.config peer fresh)
    found = begun (peer_of n mid.config.peers) b.begun
      where
        begun : (o : Option Peer) → option_map (λ (peer : Peer). live mid.config peer fresh) o ≡ Some session
            → (peer : Peer) × (o ≡ Some peer) × (session ≡ live mid.config peer fresh)
        begun None h = absurd cc
        begun (Some peer) h = (peer, refl, ap (λ (s : Option Live). unwrap_or s session) (sym h))

    over : (expired n && not (n == n)) ≡ false
    over = none_expired (expired n) (n == n) (eq_itself n)

    down : IsLeft n [] mid.held
    down = left_down config (peer_of n config.peers) (session_at n mid.sessions) n mid.held
        (subst (λ (x : Option (List ℕ)). PeerIs config (peer_of n config.peers) x (session_at n mid.sessions) n mid.held) (lost_life n items)
        (subst (λ (x : Bool). StandsAs x config (peer_of n config.peers) (life n (items ++ was_lost n ∷ [])) (session_at n mid.sessions) n mid.held)
        over (p.each n)))

    first : IsUp config found.0 n [] session mid.held
    first = subst (λ (z : Live). IsUp config found.0 n [] z mid.held) (sym (found.2 ∙ ap (λ (c : Config). live c found.0 fresh) p.config_is))
        (record { updates = []; fed = (follows_none config found.0, within_none found.0); replied = replied_none config found.0; left = down })

    at : StandsAs (expired_after (came_up n) expired n) config (peer_of n config.peers) (life n (items ++ came_up n ∷ []))
        (session_at n new.sessions) n new.held
    at =
        subst (λ (x : Bool). StandsAs x config (peer_of n config.peers) (life n (items ++ came_up n ∷ [])) (session_at n new.sessions) n new.held) (sym over)
        (subst (λ (z : Held). PeerIs config (peer_of n config.peers) (life n (items ++ came_up n ∷ [])) (session_at n new.sessions) n z) (sym b.held_is)
        (subst (λ (x : Option Live). PeerIs config (peer_of n config.peers) (life n (items ++ came_up n ∷ [])) x n mid.held)
        (sym (begins_at b n ∙ if_true (n == n) _ _ (eq_itself n)))
        (subst (λ (x : Option (List ℕ)). PeerIs config (peer_of n config.peers) x (Some session) n mid.held) (sym (up_life n items))
        (subst (λ (x : Option Peer). PeerIs config x (Some []) (Some session) n mid.held)
        (sym (ap (λ (c : Config). peer_of n c.peers) (sym p.config_is) ∙ found.1)) first))))

received_life : (n : ℕ) (items : List Item) (piece : List ℕ) → life n (items ++ received n piece ∷ []) ≡ option_map (λ octets. octets ++ piece) (life n items)
received_life n items piece =
    life-more n items (received n piece) refl refl
    ∙ ap (λ (z : List ℕ). option_map (λ octets. octets ++ z) (life n items)) (if_true (n == n) piece [] (eq_itself n))

-- a session that has closed takes nothing of a piece
abbrev pub StaysClosed : Live → Live → Held → Held → (before now : List ℕ) → Type 0
StaysClosed session session' table table' before now =
    IsSome session.closed → (session' ≡ session) × ((table' ≡ table) × (now ≡ before))

has_closed : (session : Live) (n : ℕ) (held : Held) (sessions : Option Live) → sessions ≡ Some session → HasExpired sessions n held → IsSome session.closed
has_closed session n held sessions there k =
    let own : HasExpired (Some session) n held = subst (λ (o : Option Live). HasExpired o n held) there k in
    subst (λ (c : Option Closed). IsSome c) (sym own.0) refl

-- the session of a peer that is up takes a piece
pub record Feeds (n : ℕ) (piece before now : List ℕ) (session session' : Live) (old new : Desked) : Type 0 where
  pub on : GoesOn n session session' old new
  pub takes : TakesPiece n session session' old.held new.held piece before now
  pub stays : StaysClosed session session' old.held new.held before now

pub plays_octets : {n : ℕ} {piece before now : List ℕ} {session session' : Live} {old new : Desked} → Feeds n piece before now session session' old new
    → Plays (received n piece) old new
plays_octets {n} {piece} {before} {now} {session} {session'} {old} {new} f expired config items p =
    by_expired (expired n) refl
  where
    behind : List Item
    behind = items ++ received n piece ∷ []

    from : (own : StandsAs (expired n) config (peer_of n config.peers) (life n behind) (session_at n new.sessions) n new.held) → Spares n old.held new.held
        → PlayedBut (expired_after (received n piece) expired) config behind new
    from own spares = record {
      config_is = f.on.config_is ∙ p.config_is;
      held_is = spares.config_is ∙ p.held_is;
      listed = spares.listed;
      sessions = goes_sorted f.on p.sessions;
      each = each_peer (λ m. StandsAs (expired_after (received n piece) expired m) config (peer_of m config.peers) (life m behind)
          (session_at m new.sessions) m new.held) n
          (subst (λ (b : Bool). StandsAs b config (peer_of n config.peers) (life n behind) (session_at n new.sessions) n new.held)
          (sym (stays_expired (expired n) false refl)) own)
          (λ m e. stands_spared expired (expired_after (received n piece) expired) config items behind n m old new
          (stays_expired (expired m) false refl)
          (life_other m items (received n piece) refl refl (if_false (n == m) piece [] (same_swapped m n false e)))
          (goes_other f.on m e) spares e p);
    }

    by : expired n ≡ false → (q : Option Peer) (l : Option (List ℕ)) → peer_of n config.peers ≡ q → life n items ≡ l
        → PeerIs config q l (Some session) n old.held
        → PlayedBut (expired_after (received n piece) expired) config behind new
    by x None None h g k = absurd k
    by x (Some peer) None h g k = absurd k
    by x None (Some octets) h g k = absurd k
    by x (Some peer) (Some octets) h g k =
        let took = f.takes config peer octets p.listed k in
        from
        (subst (λ (b : Bool). StandsAs b config (peer_of n config.peers) (life n behind) (session_at n new.sessions) n new.held) (sym x)
        (subst (λ (o : Option Live). PeerIs config (peer_of n config.peers) (life n behind) o n new.held)
        (sym (goes_own f.on))
        (subst (λ (o : Option (List ℕ)). PeerIs config (peer_of n config.peers) o (Some session') n new.held)
        (sym (received_life n items piece ∙ ap (option_map (λ z. z ++ piece)) g))
        (subst (λ (o : Option Peer). PeerIs config o (Some (octets ++ piece)) (Some session') n new.held) (sym h) took.0))))
        took.1.0

    by_expired : (b : Bool) → expired n ≡ b → PlayedBut (expired_after (received n piece) expired) config behind new
    by_expired false x =
        by x (peer_of n config.peers) (life n items) refl refl
        (subst (λ (o : Option Live). PeerIs config (peer_of n config.peers) (life n items) o n old.held) f.on.there
        (subst (λ (b : Bool). StandsAs b config (peer_of n config.peers) (life n items) (session_at n old.sessions) n old.held) x (p.each n)))
    by_expired true x =
        let own : HasExpired (session_at n old.sessions) n old.held =
        subst (λ (b : Bool). StandsAs b config (peer_of n config.peers) (life n items) (session_at n old.sessions) n old.held) x (p.each n) in
        let same = f.stays (has_closed session n old.held (session_at n old.sessions) f.on.there own) in
        from
        (subst (λ (b : Bool). StandsAs b config (peer_of n config.peers) (life n behind) (session_at n new.sessions) n new.held) (sym x)
        (subst (λ (h : Held). HasExpired (session_at n new.sessions) n h) (sym same.1.0)
        (subst (λ (o : Option Live). HasExpired o n old.held)
        (f.on.there ∙ ap Some (sym same.0) ∙ sym (goes_own f.on)) own)))
        (subst (λ (h : Held). Spares n old.held h) (sym same.1.0) (spares_none n old.held p.listed))

-- and replies to it
pub replies_behind : {n : ℕ} {piece before now : List ℕ} {session session' : Live} {desk new : Desked}
    → Feeds n piece before now session session' desk new → RepliesBehind n desk piece before now
replies_behind {n} {piece} {before} {now} {session} {session'} {desk} f expired config items p = by_expired (expired n) (p.each n)
  where
    of : List ℕ → Option Peer → List ℕ
    of octets q = elim q [ None ↦ [] | Some peer ↦ bounded_replies_from config peer octets ]

    by : (q : Option Peer) (l : Option (List ℕ)) → peer_of n config.peers ≡ q → PeerIs config q l (Some session) n desk.held
        → Replied config n l piece before now
    by None None h k = absurd k
    by (Some peer) None h k = absurd k
    by None (Some octets) h k = absurd k
    by (Some peer) (Some octets) h k =
        let r = (f.takes config peer octets p.listed k).1.1 in
        (r.0, r.1, ap (of (octets ++ piece)) h ∙ r.2 ∙ ap (λ (z : List ℕ). z ++ r.0) (sym (ap (of octets) h)))

    by_expired : (b : Bool) → StandsAs b config (peer_of n config.peers) (life n items) (session_at n desk.sessions) n desk.held
        → RepliedBy b config n (life n items) piece before now
    by_expired true k = (f.stays (has_closed session n desk.held (session_at n desk.sessions) f.on.there k)).1.1
    by_expired false k = by (peer_of n config.peers) (life n items) refl
        (subst (λ (x : Option Live). PeerIs config (peer_of n config.peers) (life n items) x n desk.held) f.on.there k)

no_life : (config : Config) (peer : Option Peer) (l : Option (List ℕ)) (n : ℕ) (held : Held) → PeerIs config peer l None n held → l ≡ None
no_life config peer None n held k = refl
no_life config None (Some octets) n held k = absurd k
no_life config (Some peer) (Some octets) n held k = absurd k

no_session : (config : Config) (peer : Option Peer) (b : Bool) (l : Option (List ℕ)) (n : ℕ) (held : Held) → StandsAs b config peer l None n held → l ≡ None
no_session config peer true l n held k = absurd k
no_session config peer false l n held k = no_life config peer l n held k

is_down : {expired : ℕ → Bool} (config : Config) (items : List Item) (n : ℕ) (desk : Desked) → session_at n desk.sessions ≡ None
    → PlayedBut expired config items desk → life n items ≡ None
is_down {expired} config items n desk none p =
    no_session config (peer_of n config.peers) (expired n) (life n items) n desk.held
    (subst (λ (x : Option Live). StandsAs (expired n) config (peer_of n config.peers) (life n items) x n desk.held) none (p.each n))

-- the octets of a peer that is down are skipped
pub plays_skipped : (n : ℕ) (piece : List ℕ) {desk new : Desked} → session_at n desk.sessions ≡ None → new ≡ desk → Plays (received n piece) desk new
plays_skipped n piece {desk} none same expired config items p =
    subst (PlayedBut (expired_after (received n piece) expired) config (items ++ received n piece ∷ [])) (sym same) (record {
      config_is = p.config_is;
      held_is = p.held_is;
      listed = p.listed;
      sessions = p.sessions;
      each = λ m. subst (λ (b : Bool). StandsAs b config (peer_of m config.peers) (life m (items ++ received n piece ∷ []))
          (session_at m desk.sessions) m desk.held) (sym (stays_expired (expired m) false refl))
          (subst (λ (x : Option (List ℕ)). StandsAs (expired m) config (peer_of m config.peers) x (session_at m desk.sessions) m desk.held)
          (sym (skipped m)) (p.each m));
    })
  where
    own : life n (items ++ received n piece ∷ []) ≡ life n items
    own = received_life n items piece ∙ ap (option_map (λ z. z ++ piece)) (is_down config items n desk none p) ∙ sym (is_down config items n desk none p)

    skipped : (m : ℕ) → life m (items ++ received n piece ∷ []) ≡ life m items
    skipped = each_peer (λ m. life m (items ++ received n piece ∷ []) ≡ life m items) n own
        (λ m e. life_other m items (received n piece) refl refl (if_false (n == m) piece [] (same_swapped m n false e)))

-- and not answered
pub silent_behind : (n : ℕ) (piece before : List ℕ) {desk : Desked} → session_at n desk.sessions ≡ None → RepliesBehind n desk piece before before
silent_behind n piece before {desk} none expired config items p = by (expired n)
  where
    by : (b : Bool) → RepliedBy b config n (life n items) piece before before
    by true = refl
    by false = subst (λ (l : Option (List ℕ)). Replied config n l piece before before) (sym (is_down config items n desk none p)) refl

-- before the first item
pub played_none : (config : Config) (noted : Noted) (desk : Desked)
    → desk ≡ record { config = config; held = record { config = config; unicast = []; flows = [] }; changes = noted; sessions = [] }
    → Played config [] desk
unfolding IsStrictlySortedBy
played_none config noted desk e = subst (λ (d : Desked). Played config [] d) (sym e) first
  where
    first : Played config [] (record { config = config; held = record { config = config; unicast = []; flows = [] }; changes = noted; sessions = [] })
    first = record {
      config_is = refl;
      held_is = refl;
      listed = record { unicast = tt; flows = tt };
      sessions = tt;
      each = λ m. record { unicast = λ place h. refl; flows = λ rule. refl };
    }

pub played_new : {noted : Noted} (config : Config) (table : Held) (sessions : List (ℕ × Live))
    → table ≡ record { config = config; unicast = []; flows = [] } → sessions ≡ []
    → Played config [] (record { config = config; held = table; changes = noted; sessions = sessions })
played_new {noted} config table sessions e f =
    played_none config noted (record { config = config; held = table; changes = noted; sessions = sessions })
    (ap (λ (h : Held). let d : Desked = record { config = config; held = h; changes = noted; sessions = sessions } in d) e
    ∙ ap (λ (s : List (ℕ × Live)). let d : Desked =
    record { config = config; held = record { config = config; unicast = []; flows = [] }; changes = noted; sessions = s } in d) f)

abbrev pub desk_of : Config → Held → Noted → List (ℕ × Live) → Desked
desk_of own table noted sessions = record { config = own; held = table; changes = noted; sessions = sessions }

-- sessions that stay as they were
pub desk_same : {own : Config} {table : Held} {noted : Noted} {sessions sessions' : BTreeMap ℕ Live} {old : Desked} → sessions' ≡ sessions
    → desk_of own table noted sessions.entries ≡ old → desk_of own table noted sessions'.entries ≡ old
desk_same {own} {table} {noted} same v = ap (λ (m : BTreeMap ℕ Live). desk_of own table noted m.entries) same ∙ v

-- and a peer that is down has none
pub down_at : (n : ℕ) {own : Config} {table : Held} {noted : Noted} {sessions : List (ℕ × Live)} {old : Desked}
    → desk_of own table noted sessions ≡ old → None ≡ session_at n sessions → session_at n old.sessions ≡ None
down_at n v e = ap (λ (d : Desked). session_at n d.sessions) (sym v) ∙ sym e

-- a session that begins has heard nothing yet
pub begun_there : {n : ℕ} {session : Live} {old new : Desked} → Begins n session old new → session_at n new.sessions ≡ begins old.config n
begun_there {n} b = begins_at b n ∙ if_true (n == n) _ _ (eq_itself n) ∙ sym b.begun

-- the sessions of the other peers, where one is lost, begins, or goes on
pub others_gone : {n : ℕ} {old new : Desked} → Loses n old new → KeepsOthers n old new
others_gone {n} {old} l expired config items played number apart =
    ap (session_at number) l.sessions_are ∙ session_gone number n old.sessions played.sessions
    ∙ if_false (number == n) None (session_at number old.sessions) apart

pub others_put : {n : ℕ} {session : Live} {old mid new : Desked} → Begins n session mid new → KeepsOthers n old mid → KeepsOthers n old new
others_put {n} b before expired config items played number apart =
    begins_at b number ∙ if_false (number == n) _ _ apart ∙ before expired config items played number apart

pub others_go_on : {n : ℕ} {session session' : Live} {old new : Desked} → GoesOn n session session' old new → KeepsOthers n old new
others_go_on g expired config items played number apart = goes_other g number apart

pub others_stay : (n : ℕ) {old new : Desked} → new ≡ old → KeepsOthers n old new
others_stay n same expired config items played number apart = ap (λ (d : Desked). session_at number d.sessions) same
