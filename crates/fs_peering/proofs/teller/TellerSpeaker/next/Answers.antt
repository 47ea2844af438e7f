use Rattle.fs_peering.proofs.{Words.{SaysText, next_text, rules, Bool, subst}, Ahead.{if_if, if_on, says_all}, Hearing.{says_same}}
use Rattle.fs_peering.proofs.{Sending.{next_on, opens_on}, Settled.{settled_up}}
use Rattle.fs_peering.proofs.teller.TellerSpeaker.next.Goals as goal

pub returns-clause-says : goal.returns-clause-says
returns-clause-says c =
    if_on c.say.result (λ had. SaysText (next_text c.args.self.now.announcer) had c.args.self.now.announcer c.say.new.announcer
    c.args.out.now.items c.say.new.out.items) c.say.ensures.says
    (λ had says. next_on c.args.self.now.hears_on c.args.self.now.announcer c.say.new.announcer c.args.self.now.started had
    c.args.self.now.count c.args.out.now.items c.say.new.out.items (search rules) (search rules) says)

pub returns-clause-all : goal.returns-clause-all
returns-clause-all c =
    if_if c.say.result (λ had. SaysText (next_text c.args.self.now.announcer) had c.args.self.now.announcer c.say.new.announcer c.args.out.now.items
    c.say.new.out.items) _ c.say.ensures.says (λ had says no up.
    says_all c.args.self.now.announcer c.say.new.announcer c.args.self.now.started c.args.out.now.items c.say.new.out.items (search rules)
    (settled_up c.args.self.now.announcer.line (search rules) up) (search rules)
    (subst (λ (b : Bool). SaysText (next_text c.args.self.now.announcer) b c.args.self.now.announcer c.say.new.announcer c.args.out.now.items
    c.say.new.out.items) no says))

pub returns-then-is_some-clause-says : goal.returns-then-is_some-clause-says
returns-then-is_some-clause-says c =
    says_same _ _

pub returns-then-not-self-clause-says : goal.returns-then-not-self-clause-says
returns-then-not-self-clause-says c =
    opens_on _ _ _ _ _ _ _
    c.in_ok-begin.ensures.own c.in_ok-begin.ensures.same (c.in_ok-begin.ensures.begins c.args.self.now.hears_on)
