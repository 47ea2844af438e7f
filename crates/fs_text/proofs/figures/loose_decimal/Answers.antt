use Rattle.fs_text.proofs.Words.{◌∙◌, ap, sym, subst, result_ok, IsUtf8, parse-decimal, IsAscii-decimal, IsUtf8-from_ascii, decimal}
use Rattle.fs_text.proofs.figures.loose_decimal.Goals as goal

pub returns-in-Ok : goal.returns-in-Ok
returns-in-Ok c = λ n small is.
    c.ok.ensures.value ∙ ap result_ok (parse-decimal 64 n c.in-Ok.text.now c.parse.result small small (c.in-Ok.ensures.cases.0 ∙ is) c.parse.ensures.value.0)

pub returns-in-Err : goal.returns-in-Err
returns-in-Err c = λ n small is. absurd (c.in-Err.ensures.cases.0 (subst IsUtf8 (sym is) (IsUtf8-from_ascii (decimal n) (IsAscii-decimal n small))))
