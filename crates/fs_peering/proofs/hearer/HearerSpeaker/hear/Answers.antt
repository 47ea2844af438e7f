use Rattle.std.proofs.Common.{sym, ◌∙◌}
use Rattle.fs_peering.proofs.Receiving.{hears_clock, hears_piece, on_octets}
use Rattle.fs_peering.proofs.hearer.HearerSpeaker.hear.Goals as goal

pub returns-then-is_over-clause-hears : goal.returns-then-is_over-clause-hears
returns-then-is_over-clause-hears c =
    hears_clock _ _ _ _ _ _ _ _ _
    c.tick.ensures.config c.requires c.in_ok-self.ensures c.in_ok-tick.ensures.ticked c.in_ok-tick.ensures.played (sym c.is_over.ensures ∙ c.if-is_over.true)

pub returns-clause-hears : goal.returns-clause-hears
returns-clause-hears c =
    on_octets _ c.octets.ensures.played c.octets.ensures.replied c.octets.ensures.handed (λ plays replies hands.
    hears_piece _ _ _ _ _ _ _ _ _
    c.tick.ensures.config c.requires c.in_ok-self.ensures c.in_ok-tick.ensures.ticked c.in_ok-tick.ensures.played _
    _ c.octets.ensures.config (sym c.is_over.ensures ∙ c.if-is_over.false) plays replies hands)
