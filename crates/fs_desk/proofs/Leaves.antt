-- What a desk that followed a tape holds is what the tape leaves.
use Rattle.fs_desk.proofs.Words.{◌≡◌, ◌∙◌, ℕ, Bool, true, false, if◌then◌else◌, List, [], Option, Some, None, ap, sym, subst, peer_of, Config, Peer}
use Rattle.fs_desk.proofs.Words.{eq_itself, Update, Held, still, at_start, Live, Closed, Item, Desked, session_at, PeerIs, PlayedBut, Played}
use Rattle.fs_desk.proofs.Words.{StandsAs, bounded_from, IsFed, IsLeft, Leaves, LeavesBut, counted, updates_of, updates_but, life}
use Rattle.fs_desk.proofs.Follows.{follows_session, over_session}

-- the updates that a session counts are those of all octets that it was fed with
fed_updates : (config : Config) (peer : Peer) (octets : List ℕ) (session : Live) (why : Option Closed) (updates : List Update)
    → IsFed config peer octets session why updates → counted (bounded_from config peer octets) ≡ updates
fed_updates config peer octets session None updates f = ap counted (follows_session config peer octets session updates f.0 f.1)
fed_updates config peer octets session (Some why) updates f = ap counted (over_session config peer octets why f.0) ∙ sym f.1

-- of a peer, if there is one, and its life, if it has one
left_of : (config : Config) (peer : Option Peer) (lived : Option (List ℕ)) (session : Option Live) (number : ℕ) (held : Held)
    → PeerIs config peer lived session number held
    → IsLeft number
    (elim lived [ None ↦ [] | Some octets ↦ counted (elim peer [ None ↦ ([], still at_start) | Some p ↦ bounded_from config p octets ]) ])
    held
left_of config peer None None number held k = k
left_of config None None (Some session) number held k = absurd k
left_of config (Some peer) None (Some session) number held k = absurd k
left_of config None (Some octets) None number held k = absurd k
left_of config (Some peer) (Some octets) None number held k = absurd k
left_of config None (Some octets) (Some session) number held k = absurd k
left_of config (Some peer) (Some octets) (Some session) number held k =
    subst (λ (updates : List Update). IsLeft number updates held) (sym (fed_updates config peer octets session session.closed k.updates k.fed)) k.left

left_but : (config : Config) (items : List Item) (number : ℕ) (held : Held) (b : Bool) (session : Option Live)
    → StandsAs b config (peer_of number config.peers) (life number items) session number held
    → IsLeft number (if b then [] else updates_of config items number) held
left_but config items number held true None k = absurd k
left_but config items number held true (Some session) k = k.1
left_but config items number held false session k = left_of config (peer_of number config.peers) (life number items) session number held k

pub played_leaves_but : {expired : ℕ → Bool} (config : Config) (items : List Item) (desk : Desked) → PlayedBut expired config items desk
    → LeavesBut expired config items desk.held
played_leaves_but {expired} config items desk p =
    let left : (number : ℕ) → IsLeft number (updates_but expired config items number) desk.held =
    λ number. left_but config items number desk.held (expired number) (session_at number desk.sessions) (p.each number) in
    record {
      config_is = p.held_is;
      listed = p.listed;
      unicast = λ place. (left place.peer).unicast place (eq_itself place.peer);
      flows = λ rule peer. (left peer).flows rule;
    }

pub played_leaves : (config : Config) (items : List Item) (desk : Desked) → Played config items desk → Leaves config items desk.held
played_leaves config items desk p = played_leaves_but config items desk p
