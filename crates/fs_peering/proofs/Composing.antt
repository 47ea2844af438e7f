-- What an end heard and said, part by part.
use Rattle.fs_peering.proofs.Words.{WireEnds, end_at, heard_end, other_than, ◌≡◌, ℕ, List, [], ◌++◌, refl, ap, sym, ◌∙◌, append_assoc}
use Rattle.fs_peering.proofs.Words.{flat_map-append, Part, Pieces, Stance, octets_in}
use Rattle.fs_peering.proofs.WrittenInParts.{heard_none, heard_then}
use Rattle.std.proofs.lemmas.List.{append-nil}

pub octets_then : (first later : Pieces) → octets_in (first ++ later) ≡ octets_in first ++ octets_in later
octets_then first later = flat_map-append (λ piece. piece.1) first later

-- what a stance is said of may be replaced by what is the same
pub same_stance : (stance : Stance) (heard heard' : Pieces) (said said' : List ℕ) → heard ≡ heard' → said ≡ said' → stance heard said → stance heard' said'
same_stance stance heard heard' said said' h s stands = rw (← h, ← s) stands

pub part_none : (stance : Stance) (place : ℕ) (ends : WireEnds) → Part stance stance place [] [] ends ends
part_none stance place ends = record {
  stands = λ earlier spoken s. same_stance stance _ _ _ _ (sym (append-nil earlier)) (sym (append-nil spoken)) s;
  read = refl;
  wrote = sym (append-nil (end_at place ends).written);
  tied = refl;
  other = sym (heard_none _);
}

pub part_then : (s0 s1 s2 : Stance) (place : ℕ) (heard heard' : Pieces) (said said' : List ℕ) (a b c : WireEnds)
    → Part s0 s1 place heard said a b → Part s1 s2 place heard' said' b c → Part s0 s2 place (heard ++ heard') (said ++ said') a c
part_then s0 s1 s2 place heard heard' said said' a b c first later = record {
  stands = λ earlier spoken s. same_stance s2 _ _ _ _ (append_assoc earlier heard heard') (append_assoc spoken said said')
      (later.stands (earlier ++ heard) (spoken ++ said) (first.stands earlier spoken s));
  read = first.read ∙ ap (λ (octets : List ℕ). octets_in heard ++ octets) later.read
      ∙ sym (append_assoc (octets_in heard) (octets_in heard') (end_at place c).left)
      ∙ ap (λ (octets : List ℕ). octets ++ (end_at place c).left) (sym (octets_then heard heard'));
  wrote = later.wrote ∙ ap (λ (octets : List ℕ). octets ++ said') first.wrote ∙ append_assoc (end_at place a).written said said';
  tied = later.tied ∙ first.tied;
  other = later.other ∙ ap (heard_end said') first.other ∙ heard_then (other_than place a) said said';
}
