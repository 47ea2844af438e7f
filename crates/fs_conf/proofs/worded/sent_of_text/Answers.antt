use Rattle.fs_conf.proofs.TextSought.{unread}
use Rattle.fs_conf.proofs.worded.sent_of_text.Goals as goal

pub returns-in-Ok-clause-ok : goal.returns-in-Ok-clause-ok
returns-in-Ok-clause-ok c =
    let told = c.in-Ok.ensures.found in
    (c.says_its_own.ensures c.args.text.now (record { rule = c.in-Ok.rule; actions = c.in-Ok.actions })).1
    (record { rule = told.0; actions = told.1; text_is = told.2 })

pub returns-in-Err-Bad-clause-refused : goal.returns-in-Err-Bad-clause-refused
returns-in-Err-Bad-clause-refused c _ =
    unread c.says_its_own.ensures c.args.text.now c.in-Err-Bad.field-0 (λ e. absurd (let same = c.in-Err-Bad.field-0-is in cc)) c.in-Err-Bad.ensures.exact

pub returns-in-Err-TooLong-clause-refused : goal.returns-in-Err-TooLong-clause-refused
returns-in-Err-TooLong-clause-refused c _ =
    unread c.says_its_own.ensures c.args.text.now c.in-Err-TooLong.field-0 (λ e. absurd (let same = c.in-Err-TooLong.field-0-is in cc))
    c.in-Err-TooLong.ensures.exact
