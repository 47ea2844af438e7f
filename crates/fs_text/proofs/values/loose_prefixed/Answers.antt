use Rattle.fs_text.proofs.{Words.{same_Some, ◌∙◌, Some, ap, map, sym, option_map, body_of, part, as_part, parts_of}, Listed.{prefixed_loosely}}
use Rattle.fs_text.proofs.values.loose_prefixed.Goals as goal

pub returns-in-Some : goal.returns-in-Some
returns-in-Some c =
    prefixed_loosely c.args.family c.args.kind c.args.word.now c.loose_prefix.result (Some c.of_prefix.result) c.requires.high
    (λ body is told. c.loose_prefix.ensures body is (ap (map as_part) c.deref.ensures.value ∙ c.in_ok-parts.ensures
    ∙ ap parts_of (c.as_bytes.ensures.value ∙ told)))
    (λ body e. ap Some (c.of_prefix.ensures ∙ ap (part c.args.kind) (same_Some _ _ (sym (ap (option_map body_of) c.in-Some.is) ∙ e))))
