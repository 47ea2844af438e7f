use Rattle.fs_text.proofs.Listed.{none_read, some_read}
use Rattle.fs_text.proofs.values.read_component.Goals as goal

pub returns-in-None : goal.returns-in-None
returns-in-None c = λ own is told.
    none_read c.args.family c.args.name.now c.args.word.now c.loose_kind.result c.in_ok-component.field-0 c.in-None.is c.loose_kind.ensures.value
    c.in_ok-component.ensures own is told

pub returns-in-Some : goal.returns-in-Some
returns-in-Some c =
    some_read c.args.family c.args.name.now c.args.word.now c.loose_kind.result c.in_ok-component.field-0 c.in-Some.component c.compared.result c.in-Some.is
    c.loose_kind.ensures.value c.in_ok-component.ensures c.compared.ensures
