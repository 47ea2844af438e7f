-- An announcing end that the other end stayed open for named an identifier other than 0.0.0.0.
use Rattle.cmd_wire.proofs.Words.{Arrives, CanArrive, Desked, Found, IsUnnamed, Last, Names, Peer, Pieces, Sending, at_start, bounded, bounded_from}
use Rattle.cmd_wire.proofs.Words.{bounded_session, closed, is_lowest, octets_in, peer_of, sender_of, sending_stage, session_from, still, ◌≡◌, ℕ, zero}
use Rattle.cmd_wire.proofs.Words.{suc, ◌<◌, List, [], Option, None, Some, refl, ap, sym, ◌∙◌, arith, Config, Update, HasPeerNumbers, accepts_numbers}
use Rattle.cmd_wire.proofs.Words.{found_each, closed_still, sender_told}
use Rattle.cmd_wire.proofs.Accepted.{accepted_files, arrivable}
use Rattle.fs_speaker.{specs.declared.Closed.TheVariants.{Fault}, proofs.Unnamed.{refused}}

-- a limit of routes leaves a session without updates as it is
bounded_none : (most : Option ℕ) (last : Last) → bounded most ([], last) ≡ ([], last)
bounded_none most last = refl

module _ (config : Config) (peer : Peer) (sending : Sending) (desk : Desked) (limit : ℕ) (heard told : Pieces)
    (announced replied : List ℕ) (known : peer_of peer.number config.peers ≡ Some peer) (config_is : desk.config ≡ config)
    (a : Arrives config peer sending desk peer.number limit heard told announced replied) where
  -- what the receiving end took doesn't close its session
  took_open : (bounded_from config peer announced).1 ≡ still a.receives.phase
  took_open =
      sym (ap (λ (o : Option Peer). (elim o as (λ _. List Update × Last) [ None ↦ ([], still at_start) | Some p ↦ bounded_from config p announced ]).1) known)
      ∙ ap (λ (octets : List ℕ). (bounded_session config peer.number octets).1) a.all_is
      ∙ sym (ap (λ (c : Config). (bounded_session c peer.number (octets_in heard)).1) config_is) ∙ a.receives.found

  unnamed_closes : IsUnnamed config peer sending → ⊥
  unnamed_closes un =
      let refuses : session_from config peer at_start announced ≡ ([], closed (Fault 2 3)) =
      ap (session_from config peer at_start) a.said_is ∙ refused config peer sending un _ in
      let closes : bounded_from config peer announced ≡ ([], closed (Fault 2 3)) =
      ap (bounded peer.max_routes) refuses ∙ bounded_none peer.max_routes (closed (Fault 2 3)) in
      closed_still (Fault 2 3) a.receives.phase (sym (ap (λ (x : List Update × Last). x.1) closes) ∙ took_open)

-- rules that arrived could arrive
pub arrived : (limit : ℕ) (holds : Names) (config rules : List ℕ) (accepted : Config) (sending : Sending) (peer : Peer)
    → sending_stage limit holds config rules ≡ Found (accepted, sending) → sender_of accepted.peers ≡ Some peer
    → (desk : Desked) (heard told : Pieces) (announced replied : List ℕ) → desk.config ≡ accepted
    → Arrives accepted peer sending desk peer.number limit heard told announced replied → CanArrive accepted peer sending
arrived limit holds config rules accepted sending peer found low desk heard told announced replied config_is a =
    arrivable limit holds config rules accepted sending peer found low (by sending.id refl)
  where
    by : (id : ℕ) → sending.id ≡ id → 0 < sending.id
    by zero e =
        let files = accepted_files limit holds config rules accepted sending found in
        let numbers = accepts_numbers files.text accepted files.config_is in
        let own = found_each HasPeerNumbers (is_lowest accepted.peers) accepted.peers peer numbers.peers low in
        absurd (unnamed_closes accepted peer sending desk limit heard told announced replied (sender_told accepted.peers peer low) config_is a
        (record { asn = own.asn; hold_time = numbers.own.hold_time; unnamed = e }))
    by (suc n) e = omega (arith, e)
