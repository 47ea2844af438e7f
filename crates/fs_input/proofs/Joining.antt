use Rattle.fs_input.proofs.Words.{◌≡◌, ℕ, List, Bool, true, false, Some, ◌≤◌, ◌+◌, ◌-◌, length, drop, refl, ap, sym, ◌∙◌, arith, if◌then◌else◌}
use Rattle.fs_input.proofs.Words.{length-drop, length-take, at_limit, window, limit_behind, window_behind, End, bad, limited, Fault, Read, Limit, Bad}
use Rattle.fs_input.proofs.Words.{Scan, Scanner, and, and_then, behind, fails, got, needs, partial, wrong, Fails, Took, end_of}

-- A chain of fields that is read one by one: what the first gives and what the next gives join.

-- what is judged behind so many octets
pub record IsBehind (limit taken taken' n : ℕ) (left left' : List ℕ) : Type 0 where
  pub judged : window limit taken' left' ≡ drop n (window limit taken left)
  pub size : length (window limit taken' left') ≡ length (window limit taken left) - n
  pub limited : at_limit limit taken' left' ≡ at_limit limit taken left

pub behind_took : (limit taken taken' n : ℕ) (left left' : List ℕ) → n ≤ length (window limit taken left) → taken' ≡ taken + n
    → left' ≡ drop n left → IsBehind limit taken taken' n left left'
behind_took limit taken taken' n left left' within place rest =
    let room : n ≤ limit - taken = omega (arith, within, length-take (limit - taken) left) in
    let had : n ≤ length left = omega (arith, within, length-take (limit - taken) left) in
    let judged : window limit taken' left' ≡ drop n (window limit taken left) = rw (rest, place) (window_behind limit taken n left room) in
    record {
      judged = judged;
      size = ap length judged ∙ length-drop n (window limit taken left);
      limited = rw (rest, place) (limit_behind limit taken n left room had);
    }

-- a fault of the first field is one of the chain
ends_first : {A B R : Type 0} (next : A → Scanner B R) (place : ℕ) (octets : List ℕ) (cut : R) (limit : Bool) (taken size : ℕ)
    (scan : Scan A R) (end : End R)
    → end_of cut limit taken size scan ≡ Some end → end_of cut limit taken size (and_then next place octets scan) ≡ Some end
ends_first next place octets cut limit taken size (got value count) end h = absurd cc
ends_first next place octets cut limit taken size (wrong reason at) end h = h
ends_first next place octets cut limit taken size partial end h = h

pub fails_first : {A B R : Type 0} (next : A → Scanner B R) (place : ℕ) (octets : List ℕ) (cut : R) (limit : Bool) (taken size : ℕ)
    (scan : Scan A R) (fault : Fault R)
    → Fails (end_of cut limit taken size scan) fault → Fails (end_of cut limit taken size (and_then next place octets scan)) fault
fails_first next place octets cut limit taken size scan Read h = h
fails_first next place octets cut limit taken size scan Limit h = ends_first next place octets cut limit taken size scan limited h
fails_first next place octets cut limit taken size scan (Bad reason at) h =
    ends_first next place octets cut limit taken size scan (bad reason at) h

-- how the input ends behind so many octets
pub end_behind : {A R : Type 0} (cut : R) (limit : Bool) (taken size n : ℕ) (scan : Scan A R) → n ≤ size
    → end_of cut limit taken size (behind n scan) ≡ end_of cut limit (taken + n) (size - n) scan
end_behind cut limit taken size n (got value count) within = refl
end_behind cut limit taken size n (wrong reason at) within = refl
end_behind cut limit taken size n partial within =
    let same : taken + size ≡ taken + n + (size - n) = omega arith in
    ap (λ place. Some (if limit then limited else bad cut place)) same

-- what the chain says, where its first field was taken
pub chain_is : {A B R : Type 0} (first : Scanner A R) (next : A → Scanner B R) (limit taken taken' : ℕ) (left left' : List ℕ) (value : A)
    (took : Took (first taken (window limit taken left)) (length (window limit taken left)) taken taken' left left' value)
    → and first next taken (window limit taken left) ≡ behind took.count (next value taken' (window limit taken' left'))
chain_is first next limit taken taken' left left' value took =
    let judged = window limit taken left in
    let rest = behind_took limit taken taken' took.count left left' took.within took.taken_is took.left_is in
    ap (and_then next taken judged) took.is
    ∙ (λ i. behind took.count (next value ((sym took.taken_is) i) ((sym rest.judged) i)))

-- a test that holds is passed
pub needs_true : {A R : Type 0} (test : Bool) (reason : R) (spot : ℕ) (next : Scanner A R) → test ≡ true
    → (place : ℕ) (octets : List ℕ) → next place octets ≡ needs test reason spot next place octets
needs_true test reason spot next holds place octets = rw holds refl

-- and one that fails is a fault
pub needs_false : {A R : Type 0} (test : Bool) (reason : R) (spot : ℕ) (next : Scanner A R) (at : ℕ) → test ≡ false → at ≡ spot
    → (place : ℕ) (octets : List ℕ) → fails {A = A} reason at place octets ≡ needs test reason spot next place octets
needs_false test reason spot next at fails_so same place octets = rw (fails_so, same) refl
