use Rattle.fs_base.proofs.Words.{rules, arith, ◌+◌, ◌-◌, ◌∙◌, sym, drop-drop, drop-put_mid}
use Rattle.fs_base.proofs.back.Back.take.Goals as goal

pub returns-clause-left : goal.returns-clause-left
returns-clause-left c =
    let count = c.min-count.result in
    let from = c.self.inside.from in
    rw (← c.self.view_is)
    (drop-put_mid from (from + count - from) c.self.inside.octets c.fill.new.self (from + count) (omega arith) (search rules) (search rules)
    ∙ sym (drop-drop count from c.self.inside.octets))
