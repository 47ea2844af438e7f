use Rattle.fs_peering.proofs.{Words.{Announcing, ap, ◌∙◌}, Sending.{hears_on}}
use Rattle.fs_peering.proofs.teller.TellerSpeaker.hear.Goals as goal

pub returns-clause-hears : goal.returns-clause-hears
returns-clause-hears c =
    hears_on _ _ _ _ _ _ _ _ _ _ _ _ _ _ _ _
    c.requires c.in_ok-begin.ensures.own c.in_ok-begin.ensures.same (c.in_ok-begin.ensures.begins c.args.self.now.hears_on)
    (record {
      ticks = c.in_ok-wake.ensures.wakes;
      woke = c.wake.ensures.same;
      hand = c.wake.ensures.kept;
      says = c.in_ok-needed.ensures.says;
      took = c.take.ensures.same;
      counts = c.in_ok-needed.ensures.counts;
      shuts = c.in_ok-needed.ensures.shuts;
    }) c.is_ready-was_ready.ensures c.in_ok-self.ensures.added c.in_ok-self.ensures.kept

pub returns-clause-sent : goal.returns-clause-sent
returns-clause-sent c =
    ap (λ (n : Announcing). n.appended) c.take.ensures.same.0 ∙ ap (λ (n : Announcing). n.appended) c.wake.ensures.same.0 ∙ c.in_ok-begin.ensures.sent
