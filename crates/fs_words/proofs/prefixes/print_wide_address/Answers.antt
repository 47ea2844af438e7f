use Rattle.fs_words.proofs.Words.{◌≡◌, ◌++◌, ℕ, List, ap, subst, ◌∙◌, OnOk, string_bytes, groups_text}
use Rattle.std.specs.Net.Addr.{segments_of}
use Rattle.fs_words.proofs.prefixes.print_wide_address.Goals as goal

pub returns : goal.returns
returns c =
    subst (λ (l : List ℕ). OnOk c.print_groups.result (string_bytes c.print_groups.new.out ≡ string_bytes c.args.out.now ++ groups_text l))
    (c.segments.ensures ∙ c.from_octets.ensures ∙ ap segments_of c.to_be_bytes.ensures) c.print_groups.ensures
