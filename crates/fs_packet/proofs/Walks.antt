-- The walk over headers finds the headers' chain.
use Rattle.fs_packet.proofs.Words.{◌≡◌, ℕ, ◌/◌, ◌<◌, ◌≤◌, List, [], ◌∷◌, length, drop, Option, Some, None, refl, sym, ap, ◌∙◌, arith, slice_index}
use Rattle.fs_packet.proofs.Words.{Bool, true, false, ◌&&◌, ◌==◌, nat_le, if◌then◌else◌, subst, unwrap_or, nat_tests, leb-true, number_at}
use Rattle.fs_packet.proofs.Words.{behind_fragment, chain_of, extension_size, first_header, header_of, is_extension, last_field}
use Rattle.std.proofs.lemmas.List.{length-drop}
use Rattle.fs_base.{specs.Parts.{Shrinks, parts_of, with_part}, proofs.Parts.{parts_end, parts_step}}

-- what is left of the walk gives what the whole gives
pub record Walking (number : ℕ) (octets : List ℕ) (next : ℕ) (rest : List ℕ) (field : ℕ) : Type 0 where
  pub behind : (chain_of next rest).1 ≡ (chain_of number octets).1
  pub last : last_field field (chain_of next rest).0 ≡ last_field 0 (chain_of number octets).0

size_some : (number second : ℕ) → 8 ≤ extension_size number second
size_some number second = grind (arith, nat_tests)

fragment_shorter : (field : ℕ) (octets : List ℕ) → 8 ≤ length octets → length (behind_fragment field octets) < length octets
fragment_shorter field octets h = at (field / 8 == 0)
  where
    at : (b : Bool) → length (if b then drop 8 octets else []) < length octets
    at true = simp length-drop (omega arith)
    at false = omega arith

header_shorter : (number : ℕ) (octets : List ℕ) → extension_size number (slice_index octets 1) ≤ length octets
    → length (header_of number octets).1 < length (number ∷ octets)
header_shorter number octets h = at (number == 44) (size_some number (slice_index octets 1))
  where
    at : (b : Bool) → 8 ≤ extension_size number (slice_index octets 1)
        → (let header : Option ℕ × List ℕ =
        if b then (Some (number_at 2 octets 2), slice_index octets 0 ∷ behind_fragment (number_at 2 octets 2) octets)
        else (None, slice_index octets 0 ∷ drop (extension_size number (slice_index octets 1)) octets) in
        length header.1 < length (number ∷ octets))
    at true e = let shorter : length (behind_fragment (number_at 2 octets 2) octets) < length octets =
        fragment_shorter (number_at 2 octets 2) octets (omega arith) in omega arith
    at false e = let shorter : length (drop (extension_size number (slice_index octets 1)) octets) < length octets = simp length-drop (omega arith) in
        omega arith

header_shrinks : Shrinks first_header
header_shrinks [] found h = cc
header_shrinks (number ∷ octets) found h = at (is_extension number) (nat_le (extension_size number (slice_index octets 1)) (length octets)) refl h
  where
    at : (b c : Bool) → nat_le (extension_size number (slice_index octets 1)) (length octets) ≡ c
        → (if b && c then Some (header_of number octets) else None) ≡ Some found → length found.1 < length (number ∷ octets)
    at true true e h =
        let same : header_of number octets ≡ found = cc in
        subst (λ (f : Option ℕ × List ℕ). length f.1 < length (number ∷ octets)) same
        (header_shorter number octets (leb-true (extension_size number (slice_index octets 1)) (length octets) e))
    at true false e h = cc
    at false c e h = cc

one_header : (next : ℕ) (rest : List ℕ) (found : Option ℕ × List ℕ) → first_header (next ∷ rest) ≡ Some found
    → chain_of next rest ≡ with_part found.0 (parts_of first_header found.1)
one_header next rest found h = parts_step first_header header_shrinks (next ∷ rest) found h

kept_field : (field : ℕ) (o : Option ℕ) (rest : List (Option ℕ)) → last_field (unwrap_or o field) rest ≡ last_field field (o ∷ rest)
kept_field field None rest = refl
kept_field field (Some later) rest = refl

-- one header more
pub walking_more : (number : ℕ) (octets : List ℕ) (next : ℕ) (rest : List ℕ) (field : ℕ) (o : Option ℕ) (after : ℕ) (behind : List ℕ)
    → first_header (next ∷ rest) ≡ Some (o, after ∷ behind)
    → Walking number octets next rest field → Walking number octets after behind (unwrap_or o field)
walking_more number octets next rest field o after behind h w =
    let step = one_header next rest (o, after ∷ behind) h in
    record {
      behind = sym (ap (λ (c : List (Option ℕ) × List ℕ). c.1) step) ∙ w.behind;
      last = kept_field field o (chain_of after behind).0 ∙ sym (ap (λ (c : List (Option ℕ) × List ℕ). last_field field c.0) step) ∙ w.last;
    }

-- no header more
pub walked : (number : ℕ) (octets : List ℕ) (next : ℕ) (rest : List ℕ) (field : ℕ) → first_header (next ∷ rest) ≡ None → Walking number octets next rest field
    → (next ∷ rest ≡ (chain_of number octets).1) × (field ≡ last_field 0 (chain_of number octets).0)
walked number octets next rest field h w =
    let end = parts_end first_header (next ∷ rest) h in
    (sym (ap (λ (c : List (Option ℕ) × List ℕ). c.1) end) ∙ w.behind, sym (ap (λ (c : List (Option ℕ) × List ℕ). last_field field c.0) end) ∙ w.last)
