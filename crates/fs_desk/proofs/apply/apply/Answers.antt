use Rattle.fs_desk.proofs.{Words.{◌∙◌}, Idle.{lists_nothing}, ChangesJoined.{on_ok, path_back, path_there, told_back, told_given}}
use Rattle.fs_desk.proofs.apply.apply.Goals as goal

pub returns-in_default-clause-applied : goal.returns-in_default-clause-applied
returns-in_default-clause-applied g c =
    told_back c.args.peer c.args.update c.args.watched.now.table c.withdraw.new.watched.table c.withdraw-in_default.new.watched.table
    (path_back c.args.update.as_withdraw c.args.update.path c.path_given.result c.path_given.ensures c.in_default.is) c.withdraw.ensures.changes
    c.withdraw-in_default.ensures.changes

pub returns-clause-applied : goal.returns-clause-applied
returns-clause-applied g c =
    let there = path_there c.args.update.as_withdraw c.args.update.path c.path_given.result c.in-Some.path c.path_given.ensures c.in-Some.is in
    on_ok c.give.result
    (told_given c.args.peer c.args.update c.in-Some.path c.args.watched.now.table c.withdraw.new.watched.table c.give.new.watched.table there.0 there.1
    c.withdraw.ensures.changes)
    (rw (c.in_ok-given.ensures) at c.give.ensures.changes)

pub returns-in_default-clause-told : goal.returns-in_default-clause-told
returns-in_default-clause-told g c = λ base h. c.withdraw-in_default.ensures.told base (c.withdraw.ensures.told base h)

pub returns-clause-told : goal.returns-clause-told
returns-clause-told g c = on_ok c.give.result (λ told base h. told base (c.withdraw.ensures.told base h)) c.give.ensures.told

pub returns-in_default-clause-idle : goal.returns-in_default-clause-idle
returns-in_default-clause-idle g c = λ idle.
    let none = lists_nothing c.args.update idle in
    c.withdraw-in_default.ensures.idle none.into none.rules_into ∙ c.withdraw.ensures.idle none.out none.rules_out

pub returns-clause-idle : goal.returns-clause-idle
returns-clause-idle g c = λ idle.
    let none = lists_nothing c.args.update idle in
    on_ok c.give.result (λ same. same ∙ c.withdraw.ensures.idle none.out none.rules_out) (c.give.ensures.idle none.into none.rules_into)
