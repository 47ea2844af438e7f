-- The words of the crates below, and of the specs, that lemmas here speak of.
pub use Rattle.std.proofs.Common.{Err, List, Ok, Result, [], ap, append-nil, append_assoc, drop, refl, subst, sym, ℕ, ◌++◌, ◌∙◌, ◌∷◌, ◌≡◌}
pub use Rattle.std.specs.{Prelude.{OnOk, codes, flat_map}, String.{string_bytes}}
pub use Rattle.fs_words.specs.{Prefixes.{groups_text, next_group}, Printed.{action_words, component_words, family_word, spaced, then_words}}
