use Rattle.fs_input.proofs.Words.{◌≡◌, ℕ, List, true, ◌≤◌, ◌+◌, min, length, take, drop, ap, sym, ◌∙◌, arith, nat_le, take_all, nat_tests, Fills}
use Rattle.fs_input.proofs.Words.{window, Scan, field, got, Took}

-- A field whose octets were all filled.

pub field_took : {R : Type 0} (limit taken taken' : ℕ) (left left' into : List ℕ) (count : ℕ)
    → Fills (window limit taken left) left left' into count → length into ≤ count → taken' ≡ taken + count
    → Took (field {A = List ℕ} {R = R} (length into) (λ octets. octets) taken (window limit taken left))
    (length (window limit taken left)) taken taken' left left' into
field_took {R = R} limit taken taken' left left' into count fills whole now =
    let judged = window limit taken left in
    let least : count ≡ min (length into) (length judged) = fills.count_is in
    let all : count ≡ length into = omega (arith, least, whole) in
    let held : length into ≤ length judged = omega (arith, least, whole) in
    let test : nat_le (length into) (length judged) ≡ true = grind (arith, nat_tests) in
    let same : take (length into) judged ≡ into =
    ap (λ n. take n judged) (sym all) ∙ sym fills.filled ∙ take_all count into whole in
    let gives : ◌≡◌ {A = Scan (List ℕ) R} (got (take (length into) judged) (length into)) (got into (length into)) =
    ap (λ (octets : List ℕ). got octets (length into)) same in
    record {
      count = length into;
      is = rw test gives;
      within = held;
      taken_is = omega (arith, now, all);
      left_is = fills.left ∙ ap (λ n. drop n left) all;
    }
