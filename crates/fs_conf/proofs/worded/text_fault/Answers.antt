use Rattle.fs_conf.proofs.{RulesTelling.{text_is_said}, TextSought.{unread}}
use Rattle.fs_conf.proofs.worded.text_fault.Goals as goal
use Rattle.fs_conf.proofs.worded.text_fault.Goals.{in-Ok, in-Err-Memory, in-Err-Bad, in-Err-TooLong}

pub returns : goal.returns
returns c =
    elim c.match-read.branch [
      | in-Ok w ↦ rw w.result-is (text_is_said c.says_its_own.ensures c.args.text.now w.in-Ok.field-0.0 w.in-Ok.field-0.1 w.in-Ok.ensures.found)
      | in-Err-Memory w ↦ rw w.result-is tt
      | in-Err-Bad w ↦ rw w.result-is (
        unread c.says_its_own.ensures c.args.text.now w.in-Err-Bad.field-0 (λ e. absurd (let same = w.in-Err-Bad.field-0-is in cc)) w.in-Err-Bad.ensures.exact,
        rw w.in-Err-Bad.field-0-is at w.in-Err-Bad.ensures.fault,
      )
      | in-Err-TooLong w ↦ rw w.result-is (
        unread c.says_its_own.ensures c.args.text.now w.in-Err-TooLong.field-0 (λ e. absurd (let same = w.in-Err-TooLong.field-0-is in cc))
            w.in-Err-TooLong.ensures.exact,
        rw w.in-Err-TooLong.field-0-is at w.in-Err-TooLong.ensures.fault,
      )
    ]
