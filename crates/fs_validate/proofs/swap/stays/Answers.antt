use Rattle.std.proofs.Common.{rules, ◌≡◌, ◌∙◌, sym, true}
use Rattle.fs_validate.{specs.Laws.{stays_at}, proofs.Swapped.{stays_judged}}
use Rattle.fs_validate.proofs.swap.stays.Goals as goal

pub returns-then-covers-clause-judged : goal.returns-then-covers-clause-judged
returns-then-covers-clause-judged g c k earlier h =
    let e : c.is_alike.result ≡ stays_at c.args.config.now c.args.destination.now c.args.swap.now earlier c.args.unicast.now = search rules in
    stays_judged c.args.config.now c.args.destination.now c.args.swap.now earlier c.args.unicast.now h (sym e ∙ k)

pub returns-then-not-covers-clause-judged : goal.returns-then-not-covers-clause-judged
returns-then-not-covers-clause-judged g c k earlier h =
    let e : true ≡ stays_at c.args.config.now c.args.destination.now c.args.swap.now earlier c.args.unicast.now = search rules in
    stays_judged c.args.config.now c.args.destination.now c.args.swap.now earlier c.args.unicast.now h (sym e)

pub returns-clause-judged : goal.returns-clause-judged
returns-clause-judged g c k earlier h =
    let e : c.are_both_against.result ≡ stays_at c.args.config.now c.args.destination.now c.args.swap.now earlier c.args.unicast.now = search rules in
    stays_judged c.args.config.now c.args.destination.now c.args.swap.now earlier c.args.unicast.now h (sym e ∙ k)
