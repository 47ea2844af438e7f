-- What may be announced can arrive.
use Rattle.fs_peering.proofs.Words.{AreSendable, CanArrive, ComesBack, Config, IsSent, Peer, Sending, Sent, TakesFront, TakesNone, is_short, terms_of}
use Rattle.fs_peering.proofs.Words.{update_sent, ◌≡◌, ◌<◌, ◌≤◌, ◌&&◌, ℕ, zero, suc, List, [], ◌∷◌, length, map, take, nat_le, nat_lt, Bool, true}
use Rattle.fs_peering.proofs.Words.{refl, arith, nat_tests, AllByRecursion, list_all, run, AreRead, SendsFront}
use Rattle.fs_base.proofs.{Lists.{each_both}, Bools.{and_parts}}
use Rattle.fs_speaker.proofs.Returning.{comes_back}

each_true : (test : Sent → Bool) (rules : List Sent) → list_all test rules ≡ true → AllByRecursion (λ sent. test sent ≡ true) rules
each_true test [] e = tt
each_true test (sent ∷ rules) e = let b = and_parts (test sent) (list_all test rules) e in (b.0, each_true test rules b.1)

few : (n : ℕ) → nat_le n 255 ≡ true → n ≤ 255
few n e = grind (arith, nat_tests, e)

module _ (config : Config) (peer : Peer) (sending : Sending) (read : AreRead config peer sending)
    (can : ((nat_le (length sending.as_path) 255 && list_all (λ (asn : ℕ). nat_lt 0 asn) sending.as_path)
    && list_all (is_short (terms_of config peer true) sending.as_path) sending.rules) ≡ true) where
  abbrev test : Sent → Bool
  test = is_short (terms_of config peer true) sending.as_path

  pub arrives : 0 < sending.id → CanArrive config peer sending
  arrives named =
      let parts = and_parts (nat_le (length sending.as_path) 255 && list_all (λ (asn : ℕ). nat_lt 0 asn) sending.as_path) (list_all test sending.rules) can in
      let path = and_parts (nat_le (length sending.as_path) 255) (list_all (λ (asn : ℕ). nat_lt 0 asn) sending.as_path) parts.0 in
      let numbers : AreSendable sending.as_path = record { few = few _ path.0; each = read.path } in
      record {
        own = read.own;
        asn = read.asn;
        id = record { small = read.id; some = named };
        read =
            each_both IsSent (λ (sent : Sent). test sent ≡ true) (ComesBack config peer sending)
            (λ sent is short. comes_back config peer sending numbers sent is short) sending.rules read.rules (each_true _ _ parts.1);
      }

pub sends_front : TakesFront → TakesNone → SendsFront
sends_front front none config peer sending events read can = by sending.id refl
  where
    by : (id : ℕ) → sending.id ≡ id → (n : ℕ) × ((run config peer sending events).taken ≡ take n (map (update_sent config peer sending) sending.rules))
    by zero e = (
      0,
      (none config peer sending events (record { asn = read.asn; hold_time = read.own.hold_time; unnamed = e })).0,
    )
    by (suc n) e = front config peer sending events (arrives _ _ _ read can (omega (arith, e)))
