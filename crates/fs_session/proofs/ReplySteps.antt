-- One step and all that is replied: what a call replies to the octets at hand is what the replies to the whole list begin
-- with, whatever follows.
use Rattle.fs_session.proofs.Words.{◌≡◌, ℕ, List, [], ◌++◌, Option, None, ap, sym, ◌∙◌, Config, Peer, parts_end, Message, first_message, wrong_at}
use Rattle.fs_session.proofs.Words.{Update, Closed, Machine, Phase, no_times, taken_in, waits, takes, stops, Handed, reply_to, reply_at, receiver}
use Rattle.fs_session.proofs.Words.{step_of, reply_rest, replies, replies_by, replies_from}
use Rattle.fs_session.proofs.{MessageRuns.{runs_takes, runs_stops, runs_waits}, SessionSteps.{replies_none, replies_seen}}
pub use Rattle.fs_session.proofs.MessageRuns.{Shows, told, wrong_first}

pub replies_rest : (machine : Machine) (now : Phase) (octets : List ℕ) → first_message octets ≡ None
    → replies_by machine now octets ≡ reply_rest machine (wrong_at octets)
replies_rest machine now octets h =
    ap (λ (parts : List Message × List ℕ). replies machine now parts.0 (wrong_at parts.1)) (parts_end first_message octets h)
    ∙ replies_none machine now (wrong_at octets)

module _ (config : Config) (peer : Peer) (now : Phase) where
  abbrev machine : Machine
  machine = receiver config peer

  -- A message is taken at the front: it is answered, and then what stands behind it, whatever follows.
  pub replies_takes : (next : Phase) (update : Option Update) (octets behind more : List ℕ) → step_of config peer now octets ≡ takes next update behind
      → replies_from config peer now (octets ++ more) ≡ reply_to config now.state ++ replies_from config peer next (behind ++ more)
  replies_takes next update octets behind more h =
      replies_seen machine now no_times (octets ++ more) ∙ ap (λ (z : Handed). z.text) (runs_takes machine now next no_times update octets behind more h)
      ∙ ap (λ (z : List ℕ). reply_to config now.state ++ z) (sym (replies_seen machine next (taken_in now.state no_times) (behind ++ more)))

  -- The octets close the session: that is answered, and nothing behind them is.
  pub replies_stops : (why : Closed) (octets more : List ℕ) → step_of config peer now octets ≡ stops why
      → replies_from config peer now (octets ++ more) ≡ reply_at why
  replies_stops why octets more h =
      replies_seen machine now no_times (octets ++ more) ∙ ap (λ (z : Handed). z.text) (runs_stops machine now no_times why octets more h)

  -- The octets wait for more: nothing is replied yet.
  pub replies_waits : (octets : List ℕ) → step_of config peer now octets ≡ waits → replies_from config peer now octets ≡ []
  replies_waits octets h = replies_seen machine now no_times octets ∙ ap (λ (z : Handed). z.text) (runs_waits machine now no_times octets h)
