use Rattle.fs_peering.proofs.{Words.{Config, begins, nobody, refl, ap, ◌∙◌}, Receiving.{open_new, receives_none}}
use Rattle.fs_peering.proofs.hearer.Hearer.new.Goals as goal

pub returns-clause-fresh : goal.returns-clause-fresh
returns-clause-fresh c =
    let config_is = c.up.ensures.config ∙ c.in_ok-desk.ensures.played.config_is in (
      config_is,
      (
        refl,
        (
          refl,
          receives_none _ _ _ _ _ c.requires config_is
              (c.in_ok-up.ensures.played nobody c.args.config.now _ c.in_ok-desk.ensures.played)
              (c.in_ok-up.ensures.begun ∙ ap (λ (d : Config). begins d c.args.peer) c.in_ok-desk.ensures.played.config_is) refl refl,
        ),
      ),
    )

pub returns-clause-open : goal.returns-clause-open
returns-clause-open c =
    open_new c.args.config.now c.args.peer c.up.new.self c.requires
    (c.in_ok-up.ensures.begun ∙ ap (λ (d : Config). begins d c.args.peer) c.in_ok-desk.ensures.played.config_is)
