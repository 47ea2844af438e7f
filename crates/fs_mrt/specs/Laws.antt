-- What is known of all that is heard in a dump, and which octets a dump is that is done.
use Rattle.std.specs.Prelude.{ℕ, List, [], ◌∷◌, IsSome, ◌≡◌, ◌↔◌, ◌≤◌, ◌<◌, ◌^◌, length, ⊤}
use Rattle.fs_base.specs.{Config.{peer_of}, Language.{IsOctets}, declared.config.{Config.{Config}, Peer.{Peer}}}
use Rattle.fs_input.specs.{Records.{done}, Coming.{IsTextOf}}
use Rattle.fs_mrt.specs.{Dump.{dump_of}, Record.{Said, Spoken, change, message}, Written.{entry_gives, entry_text, IsEntry}}

abbrev pub IsSaid : Said → Type 0
IsSaid (message octets) = IsOctets octets × (length octets ≤ 65536)
IsSaid (change old new) = ⊤

-- of a configured peer, at a moment that doesn't lie below the last one
pub record IsHeard (peers : List Peer) (last : ℕ) (heard : Spoken) : Type 0 where
  pub known : IsSome (peer_of heard.peer peers)
  pub rises : last ≤ heard.moment
  pub room : heard.moment < 2 ^ 64
  pub said : IsSaid heard.said

-- so each, behind those before it
abbrev pub AreHeard : List Peer → (last : ℕ) → List Spoken → Type 0
AreHeard peers last [] = ⊤
AreHeard peers last (heard ∷ rest) = IsHeard peers last heard × AreHeard peers heard.moment rest

abbrev pub HeardFits : Type 0
HeardFits =
    (config : Config) (limit : ℕ) (content : List ℕ) → IsOctets content → AreHeard config.peers 0 (dump_of config limit content).0

-- A dump is done exactly where its content is the text of records and lies below the limit; what is heard is what these
-- records tell.
abbrev pub ReadsBack : Type 0
ReadsBack =
    (config : Config) (limit : ℕ) (content : List ℕ) (heard : List Spoken)
    → (dump_of config limit content ≡ (heard, done))
    ↔ IsTextOf entry_text (λ moment. IsEntry config.peers) (entry_gives config.peers) 0 limit content heard
