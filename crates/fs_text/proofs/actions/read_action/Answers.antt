use Rattle.fs_text.proofs.{Words.{◌∙◌, ap, sym, map, as_part, parts_of}, Found.{reads_of}}
use Rattle.fs_text.proofs.actions.read_action.Goals as goal

pub returns-in-Some : goal.returns-in-Some
returns-in-Some c =
    reads_of c.args.name.now c.args.word.now c.in-Some.octets c.compared.result
    (λ action is word. sym c.in-Some.is
    ∙ c.loose_action.ensures action is (ap (map as_part) c.deref.ensures.value ∙ c.in_ok-parts.ensures
    ∙ ap parts_of (c.as_bytes.ensures.value ∙ word))) c.compared.ensures
