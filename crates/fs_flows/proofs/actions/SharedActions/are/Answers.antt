use Rattle.fs_flows.proofs.Words.{◌≡◌, ◌∙◌, refl, sym, Decides-eqb}
use Rattle.std.{proofs.lemmas.Slice.Eq.{slice_eq-Decides}, specs.Bool.{Decides}}
use Rattle.fs_flows.proofs.actions.SharedActions.are.Goals as goal

pub returns : goal.returns
returns c = (
  (λ same. sym own ∙ decides.0 same ∙ c.as_slice-2.ensures.value),
  (λ same. decides.1 (own ∙ same ∙ sym c.as_slice-2.ensures.value)),
) where
  own : c.as_slice.result.now ≡ c.args.self.now
  own = c.as_slice.ensures.value ∙ c.actions.ensures

  decides : Decides c.eq.result (c.as_slice.result.now ≡ c.as_slice-2.result.now)
  decides = slice_eq-Decides (λ a b. slice_eq-Decides Decides-eqb a b _ refl) c.as_slice.result.now c.as_slice-2.result.now c.eq.result c.eq.ensures
