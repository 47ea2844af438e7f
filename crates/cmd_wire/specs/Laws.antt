-- That the rules of accepted files are read at the other end as they were said.
use Rattle.std.specs.Prelude.{◌≡◌, ℕ, ◌<◌, List, Some}
use Rattle.fs_base.specs.declared.config.{Config.{Config}, Peer.{Peer}}
use Rattle.fs_conf.specs.{Config.{config_of}, Rules.{rules_of}}
use Rattle.fs_speaker.specs.{JointLaws.{CanArrive}, Sending.{sender_of}, declared.Sending.{Sending}}

-- under an identifier that isn't 0.0.0.0, to the peer that rules are sent for
abbrev pub AcceptedArrive : Type 0
AcceptedArrive =
    (text octets : List ℕ) (config : Config) (sending : Sending) (peer : Peer) → config_of text ≡ Some config
    → rules_of config octets ≡ Some sending → sender_of config.peers ≡ Some peer → 0 < sending.id → CanArrive config peer sending
