-- Octets that are a document, and octets that are none.
use Rattle.fs_conf.proofs.Words.{◌≡◌, ℕ, Bool, true, false, List, Some, None, refl, sym, ◌∙◌, IsUtf8, is_utf8, Members, document_of}
use Rattle.std.proofs.lemmas.Str.{is_utf8-from_IsUtf8, IsUtf8-from_is_utf8}
use Rattle.toml.specs.Parse.{parse_document}

pub not_utf8 : (octets : List ℕ) → ¬ (IsUtf8 octets) → document_of octets ≡ None
not_utf8 octets h = by (is_utf8 octets) refl
  where
    by : (b : Bool) → is_utf8 octets ≡ b → document_of octets ≡ None
    by true e = absurd (h (IsUtf8-from_is_utf8 octets e))
    by false e = rw e refl

pub of_document : (octets text : List ℕ) (tree : Members) → text ≡ octets → IsUtf8 octets → parse_document text ≡ Some tree → document_of octets ≡ Some tree
of_document octets text tree same utf8 parsed = rw (is_utf8-from_IsUtf8 octets utf8, ← same, parsed) refl

pub unparsed : (octets text : List ℕ) → text ≡ octets → IsUtf8 octets → parse_document text ≡ None → document_of octets ≡ None
unparsed octets text same utf8 parsed = rw (is_utf8-from_IsUtf8 octets utf8, ← same, parsed) refl

pub never_utf8 : (octets : List ℕ) → IsUtf8 octets → is_utf8 octets ≡ false → ⊥
never_utf8 octets utf8 e = let both : true ≡ false = sym (is_utf8-from_IsUtf8 octets utf8) ∙ e in absurd cc
