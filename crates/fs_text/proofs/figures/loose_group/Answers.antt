use Rattle.fs_text.proofs.{Words.{◌∙◌, ap, sym, subst, arith, result_ok, IsUtf8, IsUtf8-from_ascii, hexadecimal}, Numerals.{ascii_group, parse_group}}
use Rattle.fs_text.proofs.figures.loose_group.Goals as goal

pub returns-in-Ok : goal.returns-in-Ok
returns-in-Ok c = λ n small is.
    c.ok.ensures.value ∙ ap result_ok (parse_group 16 n c.in-Ok.text.now c.from_str_radix.result small (omega (arith, small)) (c.in-Ok.ensures.cases.0
    ∙ is) c.from_str_radix.ensures.value)

pub returns-in-Err : goal.returns-in-Err
returns-in-Err c = λ n small is. absurd
    (c.in-Err.ensures.cases.0 (subst IsUtf8 (sym is) (IsUtf8-from_ascii (hexadecimal n) (ascii_group n (omega (arith, small))))))
