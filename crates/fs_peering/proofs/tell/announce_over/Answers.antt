use Rattle.fs_peering.proofs.{Words.{ap, sym, ◌∙◌, rules, Bool, Teller}, Announced.{done_so, ended_so, is_of, limit_so, over_limit, over_so}}
use Rattle.fs_peering.proofs.Sending.{says_start}
use Rattle.fs_peering.specs.Teller.{is_over}
use Rattle.fs_peering.proofs.tell.announce_over.Goals as goal

pub returns-in-Some-clause-tells : goal.returns-in-Some-clause-tells
returns-in-Some-clause-tells g c config peer sending e s =
    over_so _ _ _ _ _ _ _ _ _ _ _ _ c.in_ok-say_all.ensures.own c.in_ok-hear_out.ensures.own c.requires.early e s c.requires.fresh
    c.in_ok-say_all.ensures.spoke (c.in_ok-say_all.ensures.over
    ∙ c.requires.open) _ _ _ _ (rw c.in-Over.is at c.in_ok-hear_out.ensures.heard) (sym c.closed.ensures
    ∙ c.in-Some.is) _ (search rules)

pub returns-then-limit-count-clause-tells : goal.returns-then-limit-count-clause-tells
returns-then-limit-count-clause-tells g c config peer sending e s =
    over_limit _ _ _ _ _ _ _ _ _ _ _ _ c.in_ok-say_all.ensures.own c.in_ok-hear_out.ensures.own c.requires.early e s
    c.requires.fresh c.in_ok-say_all.ensures.spoke (c.in_ok-say_all.ensures.over
    ∙ c.requires.open) _ _ _ (rw c.in-Over.is at c.in_ok-hear_out.ensures.heard) c.in_ok-hear_out.ensures.sent (search rules) (search rules)

pub returns-in_ok-say_all-in-Over-clause-tells : goal.returns-in_ok-say_all-in-Over-clause-tells
returns-in_ok-say_all-in-Over-clause-tells g c config peer sending e s =
    let first : Teller = c.args.teller.now in
    let spoke : Teller = c.say_all.new.speaker in
    let heard : Teller = c.hear_out.new.speaker in
    let last : Teller = c.say_all-in-Over.new.speaker in
    let own = c.in_ok-hear_out.ensures.own ∙ c.in_ok-say_all.ensures.own in
    let on_heard = ap (λ (t : Teller). t.hears_on) own ∙ c.requires.early in
    done_so _ _ _ _ _ _ _ heard.announcer.line _ _ _ _ _ _ _ _ _ _
    (says_start _ _ _ _ _ _ _ e s c.requires.fresh) c.in_ok-say_all.ensures.spoke
    (ap (λ (t : Teller). t.hears_on) c.in_ok-say_all-in-Over.ensures.own ∙ on_heard)
    (is_of _ _ _ _ _ (ap (λ (t : Teller). t.announcer) (c.in_ok-say_all-in-Over.ensures.own ∙ own)) e)
    _ _ _ (rw c.in-Over.is at c.in_ok-hear_out.ensures.heard) c.in_ok-say_all-in-Over.ensures.spoke
    (ap (λ (o : Bool). is_over o heard.announcer.line) on_heard) (search rules) c.in_ok-say_all-in-Over.ensures.shut
    c.in_ok-say_all-in-Over.ensures.ready (search rules) c.in_ok-say_all-in-Over.ensures.all

pub returns-in-AtLimit-clause-tells : goal.returns-in-AtLimit-clause-tells
returns-in-AtLimit-clause-tells g c config peer sending e s =
    limit_so _ _ _ _ _ _ _ _ _ _ _ _ c.in_ok-say_all.ensures.own c.in_ok-hear_out.ensures.own c.requires.early e s
    c.requires.fresh c.in_ok-say_all.ensures.spoke (c.in_ok-say_all.ensures.over
    ∙ c.requires.open) _ (rw c.in-AtLimit.is at c.in_ok-hear_out.ensures.heard) c.in_ok-hear_out.ensures.sent

pub returns-in-All-clause-tells : goal.returns-in-All-clause-tells
returns-in-All-clause-tells g c config peer sending e s =
    ended_so _ _ _ _ _ _ _ _ _ _ _ _ c.in_ok-say_all.ensures.own c.in_ok-hear_out.ensures.own c.requires.early e s
    c.requires.fresh c.in_ok-say_all.ensures.spoke (c.in_ok-say_all.ensures.over
    ∙ c.requires.open) _ (rw c.in-All.is at c.in_ok-hear_out.ensures.heard) c.in_ok-hear_out.ensures.sent
