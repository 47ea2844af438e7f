-- How it stands with a peer: the sessions that a desk keeps beside those of the tape's octets.
use Rattle.fs_desk.proofs.Words.{◌≡◌, ℕ, Bool, true, false, if◌then◌else◌, List, [], Option, Some, None, refl, ap, sym, ◌∙◌, peer_of, Config, Peer}
use Rattle.fs_desk.proofs.Words.{Update, Held, Closed, Fault, Last, still, at_start, Item, life, Desked, session_at, PeerIs, PlayedBut, Played}
use Rattle.fs_desk.proofs.Words.{StandsAs, standing_but, standing_of, standing_at_desk, bounded_from, bounded_session, IsFed, Down, Ended}
use Rattle.fs_desk.proofs.Words.{standing_at, standing_by}
use Rattle.fs_desk.proofs.Follows.{follows_session, over_session}
use Rattle.fs_speaker.specs.{Session.{Live as Session}, declared.Standing.{Standing, TheVariants.{Live as LiveIn}}}

-- what a session came to is what the desk keeps of it
fed_stands : (config : Config) (peer : Peer) (octets : List ℕ) (session : Session) (updates : List Update) (why : Option Closed)
    → IsFed config peer octets session why updates
    → (elim why [ Some closed ↦ Ended closed | None ↦ LiveIn session.phase.state ]) ≡ standing_at (bounded_from config peer octets).1
fed_stands config peer octets session updates None follows =
    sym (ap (λ (r : List Update × Last). standing_at r.1) (follows_session config peer octets session updates follows.0 follows.1))
fed_stands config peer octets session updates (Some why) over =
    sym (ap (λ (r : List Update × Last). standing_at r.1) (over_session config peer octets why over.0))

-- the session of a peer, if it is configured
abbrev session_with : Config → Option Peer → List ℕ → List Update × Last
session_with config peer octets = elim peer [ None ↦ ([], still at_start) | Some whose ↦ bounded_from config whose octets ]

peer_stands : (config : Config) (number : ℕ) (held : Held) (peer : Option Peer) (octets : Option (List ℕ)) (session : Option Session)
    → PeerIs config peer octets session number held → peer_of number config.peers ≡ peer
    → standing_by session ≡ (elim octets [ None ↦ Down | Some sent ↦ standing_at (bounded_session config number sent).1 ])
peer_stands config number held peer None None left own = refl
peer_stands config number held (Some peer) (Some octets) (Some session) stands own =
    fed_stands config peer octets session stands.updates session.closed stands.fed
    ∙ sym (ap (λ (p : Option Peer). standing_at (session_with config p octets).1) own)
peer_stands config number held peer None (Some session) is own = absurd is
peer_stands config number held None (Some octets) None is own = absurd is
peer_stands config number held (Some peer) (Some octets) None is own = absurd is
peer_stands config number held None (Some octets) (Some session) is own = absurd is

expired_stands : (config : Config) (items : List Item) (number : ℕ) (held : Held) (b : Bool) (session : Option Session)
    → StandsAs b config (peer_of number config.peers) (life number items) session number held
    → standing_by session ≡ (if b then Ended (Fault 4 0) else standing_of config items number)
expired_stands config items number held true None k = absurd k
expired_stands config items number held true (Some session) k =
    ap (λ (c : Option Closed). elim c [ Some why ↦ Ended why | None ↦ LiveIn session.phase.state ]) k.0
expired_stands config items number held false session k =
    peer_stands config number held (peer_of number config.peers) (life number items) session k refl

-- how it stands with a peer is what the items that were played make of it, unless the clock has closed its session
pub desk_stands_but : {expired : ℕ → Bool} (config : Config) (items : List Item) (desk : Desked) (number : ℕ) → PlayedBut expired config items desk
    → standing_at_desk desk number ≡ standing_but expired config items number
desk_stands_but {expired} config items desk number played =
    expired_stands config items number desk.held (expired number) (session_at number desk.sessions) (played.each number)

pub desk_stands : (config : Config) (items : List Item) (desk : Desked) (number : ℕ) → Played config items desk
    → standing_at_desk desk number ≡ standing_of config items number
desk_stands config items desk number played = desk_stands_but config items desk number played

pub standing_played : (expired : ℕ → Bool) (config : Config) (items : List Item) (desk : Desked) (number : ℕ) (at : Standing)
    → at ≡ standing_at_desk desk number
    → PlayedBut expired config items desk → at ≡ standing_but expired config items number
standing_played expired config items desk number at e played = e ∙ desk_stands_but config items desk number played
