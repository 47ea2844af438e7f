use Rattle.fs_input.proofs.Words.{◌≡◌, ℕ, List, [], Bool, true, false, Ok, Err, None, ◌<◌, ◌+◌, ◌==◌, ◌&&◌, not, arith, if◌then◌else◌, nat_tests}
use Rattle.fs_input.proofs.Words.{Advances, short_answer, short_fault, End, done, limited, bad, ends_short, Limit, Bad}

-- What an input answers where its octets end before a record is whole.

by_short : {T B R : Type 0} (cut : R) (before : List B × End R) (behind : T → List B × End R) (limit none : Bool) (place count : ℕ)
    → before ≡ ([], (if limit then limited else if none then done else bad cut (place + count)))
    → Advances before behind (if none && not limit then Ok None else Err (if limit then Limit else Bad cut (place + count)))
by_short cut before behind true true place count h = h
by_short cut before behind true false place count h = h
by_short cut before behind false true place count h = h
by_short cut before behind false false place count h = h

pub short_advances : {T B R : Type 0} (cut : R) (before : List B × End R) (behind : T → List B × End R) (place count taken limit : ℕ)
    → before ≡ ([], ends_short cut (place + count == limit) place count) → taken ≡ place + count
    → Advances before behind (short_answer cut taken limit count)
short_advances cut before behind place count taken limit h e =
    rw e (by_short cut before behind (place + count == limit) (count == 0) place count h)

by_cut : {T B R : Type 0} (cut : R) (before : List B × End R) (behind : T → List B × End R) (limit none : Bool) (place count : ℕ)
    → none ≡ false → before ≡ ([], (if limit then limited else if none then done else bad cut (place + count)))
    → Advances before behind (Err (if limit then Limit else Bad cut (place + count)))
by_cut cut before behind true none place count some h = h
by_cut cut before behind false none place count some h = rw some at h

pub cut_advances : {T B R : Type 0} (cut : R) (before : List B × End R) (behind : T → List B × End R) (place count taken limit : ℕ)
    → before ≡ ([], ends_short cut (place + count == limit) place count) → 0 < count → taken ≡ place + count
    → Advances before behind (Err (short_fault cut taken limit))
cut_advances cut before behind place count taken limit h some e =
    let test : count == 0 ≡ false = grind (arith, nat_tests) in
    rw e (by_cut cut before behind (place + count == limit) (count == 0) place count test h)
