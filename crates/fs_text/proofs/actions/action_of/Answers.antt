use Rattle.fs_text.proofs.Words.{◌≡◌, ◌∙◌, refl, sym, subst, true, Decides-eqb, slice_eq-Decides, IsOctets, octets_from}
use Rattle.fs_text.proofs.actions.action_of.Goals as goal

pub returns-in-Some-clause-some : goal.returns-in-Some-clause-some
returns-in-Some-clause-some c =
    let same : c.in-Some.action ≡ c.args.octets.now =
    sym c.octets.ensures ∙ (slice_eq-Decides Decides-eqb c.octets.result.now c.as_slice.result.now true c.if-eq.ensures).0 refl ∙ c.as_slice.ensures in
    (same, c.in-Some.ensures.action, subst IsOctets (sym same) (octets_from c.args.octets.now c.fits-octets))
