-- What accepted files say to announce can arrive at the other end.
use Rattle.cmd_wire.{proofs.Words.{is_lowest, is_short, terms_of, ◌≡◌, true, HasPeerNumbers, accepts_numbers, found_each}, specs.Laws.{AcceptedArrive}}
use Rattle.fs_base.proofs.Lists.{each_both}
use Rattle.fs_speaker.{specs.{declared.Sent.{Sent}, Laws.{ComesBack, IsSent}}, proofs.Returning.{comes_back}}
use Rattle.fs_conf.proofs.Announced.{accepts_rules}

pub can_arrive : AcceptedArrive
can_arrive text octets config sending peer config_is sending_is peer_is named =
    let numbers = accepts_numbers text config config_is in
    let rules = accepts_rules octets config sending sending_is in
    let own = found_each HasPeerNumbers (is_lowest config.peers) config.peers peer numbers.peers peer_is in
    record {
      own = numbers.own;
      asn = own.asn;
      id = record { small = rules.id; some = named };
      read =
          each_both IsSent (λ (sent : Sent). is_short (terms_of config peer true) sending.as_path sent ≡ true) (ComesBack config peer sending)
          (λ sent is short. comes_back config peer sending rules.numbers sent is short) sending.rules rules.rules (rules.short peer peer_is);
    }
