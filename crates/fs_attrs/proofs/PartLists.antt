-- A loop that gathers the parts of an octet list.
use Rattle.fs_attrs.proofs.Words.{◌≡◌, ℕ, ◌==◌, List, [], ◌∷◌, ◌++◌, length, Option, Some, None, sym, ap, ◌∙◌, if◌then◌else◌, append-nil, Shrinks}
use Rattle.fs_attrs.proofs.Words.{parts_of, parts_step, parts_end}
use Rattle.std.proofs.lemmas.List.{append_assoc}

-- what is gathered so far, and then what the rest still gives
abbrev pub behind : {A : Type 0} → List A → List A × List ℕ → List A × List ℕ
behind front parts = (front ++ parts.0, parts.1)

pub gathered_more : {A : Type 0} (next : List ℕ → Option (A × List ℕ)) → Shrinks next → (front : List A) (octets : List ℕ) (found : A × List ℕ)
    → next octets ≡ Some found → behind (front ++ found.0 ∷ []) (parts_of next found.1) ≡ behind front (parts_of next octets)
gathered_more {A} next shrinks front octets found h =
    let rest : List A × List ℕ = parts_of next found.1 in
    let pair : List A → List A × List ℕ = λ z. (z, rest.1) in
    ap pair (append_assoc front (found.0 ∷ []) rest.0) ∙ sym (ap (behind front) (parts_step next shrinks octets found h))

pub gathered_all : {A : Type 0} (next : List ℕ → Option (A × List ℕ)) (front : List A) (octets : List ℕ)
    → next octets ≡ None → behind front (parts_of next octets) ≡ (front, octets)
gathered_all {A} next front octets h =
    let pair : List A → List A × List ℕ = λ z. (z, octets) in
    ap (behind front) (parts_end next octets h) ∙ ap pair (append-nil front)

-- the list, where nothing is left
abbrev pub if_whole : {A : Type 0} → List A × List ℕ → Option (List A)
if_whole parts = if length parts.1 == 0 then Some parts.0 else None
