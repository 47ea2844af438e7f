use Rattle.fs_peering.proofs.Words.{standing_at_desk, ◌≡◌, ℕ, ap, subst, ◌∙◌, EndsTalk, Hearer, Teller}
use Rattle.fs_peering.proofs.{Paired.{pairs_as, pairs_on}, Sending.{says_start}}
use Rattle.fs_peering.proofs.pair.pair_over.Goals as goal

pub returns-clause-pairs : goal.returns-clause-pairs
returns-clause-pairs g c config whose sending d w e s =
    let first : Hearer = c.args.hearer.now in
    let last : Hearer = c.exchange.new.first in
    let before : Teller = c.args.teller.now in
    let after : Teller = c.exchange.new.second in
    let kept = c.in_ok-talk.ensures.own in
    let same : last.peer ≡ first.peer = ap (λ (h : Hearer). h.peer) kept.0 in
    pairs_as _ _ _ _ _ last.count _ same (ap (λ (h : Hearer). h.desk) kept.0) c.requires.fresh
    _ _ _ after.started _ after.count (ap (λ (s : Teller). s.announcer) kept.1) _ _ _ d w
    (says_start _ _ _ _ _ _ _ e s c.requires.unheard) e _ _ _ _ _ _
    (pairs_on first.desk last.desk first.peer last.peer first.count last.count c.args.limit _ _ before.announcer
    after.announcer before.started after.started before.count after.count
    (g.W.Wire.tells c.args.wire.now) (g.W.Wire.tells c.exchange.new.wire) (g.C.Clock.answers c.args.clock.now)
    (g.C.Clock.answers c.exchange.new.clock) c.in_ok-talk.talk
    c.requires.on (ap (λ (s : Teller). s.hears_on) kept.1 ∙ c.requires.on) c.in_ok-talk.ensures.talked)
    (subst (λ (n : ℕ). EndsTalk c.in_ok-talk.talk (standing_at_desk last.desk n) after.announcer.line c.ending_of.result) same c.ending_of.ensures)
