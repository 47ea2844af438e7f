use Rattle.fs_attrs.proofs.Words.{◌==◌, List, sym, ap, ◌∙◌, list_all-map, afi_of, shown, Shown, are_prefixes_of}
use Rattle.fs_attrs.proofs.writable.are_of.Goals as goal

pub returns : goal.returns
returns c =
    c.are_all_of.ensures
    ∙ sym (list_all-map (λ (prefix : Shown). afi_of prefix.0 == afi_of c.args.family) shown c.as_slice.result.now)
    ∙ ap (λ (z : List Shown). are_prefixes_of c.args.family z) c.as_slice.ensures.value
