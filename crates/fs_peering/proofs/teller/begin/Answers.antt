use Rattle.fs_peering.proofs.{Words.{rules, on_ok_weaker}, Sending.{begins_on, begun_on}}
use Rattle.fs_peering.proofs.teller.begin.Goals as goal

pub returns-then-started-clause-begins : goal.returns-then-started-clause-begins
returns-then-started-clause-begins c = λ hears_on. begun_on _ _ _ _ (search rules)

pub returns-clause-begins : goal.returns-clause-begins
returns-clause-begins c =
    on_ok_weaker c.start.result (λ starts hears_on. begins_on _ _ _ _ _ _ (search rules) starts) c.start.ensures.starts
