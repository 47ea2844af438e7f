use Rattle.cmd_stages.proofs.Words.{◌≡◌, ◌∙◌, ℕ, None, ap, refl, sym, subst, rules, Config, Desked, Leaves, IsOpenOrDone, until, PlayerState, Stands}
use Rattle.cmd_stages.proofs.Words.{due_item}
use Rattle.cmd_stages.proofs.Stages.{match_err}
use Rattle.cmd_stages.proofs.LookingAhead.{covers_first, due_is, fewer_left, leaves_until, never_due, rose_on, stands_noted}
use Rattle.cmd_stages.proofs.player.Player.play_to.Goals as goal

pub returns-in_err-step-clause-played : goal.returns-in_err-step-clause-played
returns-in_err-step-clause-played g c = λ told items s. match_err _ _ c.from_residual.result c.from_residual.ensures.1 (λ refusal same.
    rose_on (g.F.Files.faults c.args.files.now) (g.F.Files.faults c.items.files) (g.F.Files.faults c.step.new.files) refusal c.items.invariant.stays.later
    (rw same (c.in_err-step.ensures.played told items c.args.moment
    (due_is c.items.self.ahead c.items.self.tape.moment c.args.moment c.in-Some.item (sym c.due.ensures ∙ c.in-Some.is)).1
    (subst (λ (n : ℕ). Stands items c.args.moment c.items.self (g.F.Files.left c.items.files n)) (sym c.items.invariant.stays.slot)
    (c.items.invariant.played told items s)))))

pub items-smaller : goal.items-smaller
items-smaller g c =
    fewer_left c.items.self.ahead c.step.new.self.ahead c.in-Some.item c.items.self.tape.limit c.items.self.tape.place c.step.new.self.tape.limit
    c.step.new.self.tape.place
    (due_is c.items.self.ahead c.items.self.tape.moment c.args.moment c.in-Some.item (sym c.due.ensures ∙ c.in-Some.is)).0 c.in_ok-step.ensures.limit
    c.in_ok-step.ensures.grows

pub returns-clause-played : goal.returns-clause-played
returns-clause-played g c = λ told items s.
    let stands = c.items.invariant.played told items s in (
      stands,
      subst (λ (config : Config). Leaves config (until c.args.moment items) c.items.self.desk.held) c.items.invariant.stays.config
          (leaves_until items c.args.moment c.items.self _ stands (sym c.due.ensures ∙ c.in_default.is)),
    )

pub items-init : goal.items-init
items-init g c = record {
  stays = search rules;
  ends = λ h. subst (λ (p : PlayerState). IsOpenOrDone p.tape p.ahead) (sym c.self.view_is) h;
  told = covers_first c.args.self.now.desk.held c.self.inside.desk c.watch.new.self (sym (ap (λ (p : PlayerState). p.desk.held) c.self.view_is))
      c.watch.ensures;
  calm = λ none. (
    ap (λ (d : Desked). d.changes) c.watch.ensures,
    subst (λ (p : PlayerState). due_item p.ahead p.tape.moment c.args.moment ≡ None) (sym c.self.view_is) none,
  );
  played = λ told items s. stands_noted items c.args.moment _ c.watch.new.self _ _ c.watch.ensures
      (subst (λ (p : PlayerState). Stands items c.args.moment p (g.F.Files.left c.args.files.now c.args.self.now.tape.slot)) (sym c.self.view_is) s);
}

pub items-preserved : goal.items-preserved
items-preserved g c = record {
  stays = search rules;
  ends = search rules;
  told = search rules;
  calm = λ none. never_due _ c.in-Some.item (c.items.invariant.calm none).1 (sym c.due.ensures ∙ c.in-Some.is);
  played = search rules;
}

pub returns-in_err-step-clause-calm : goal.returns-in_err-step-clause-calm
returns-in_err-step-clause-calm g c = λ none. never_due _ c.in-Some.item (c.items.invariant.calm none).1 (sym c.due.ensures ∙ c.in-Some.is)

pub returns-clause-calm : goal.returns-clause-calm
returns-clause-calm g c = λ none. (refl, (c.items.invariant.calm none).0)
