-- The canonical frame of a rule: how many octets it has.
use Rattle.fs_conf.proofs.Words.{ℕ, ◌+◌, ◌/◌, ◌%◌, ◌≤◌, Bool, true, false, [], ◌∷◌, length, arith, length-append, Ruled, IsRule, canonical_frame}
use Rattle.fs_conf.proofs.Words.{canonical_length, canonical_value}
use Rattle.std.specs.Prelude.{nat_lt, if◌then◌else◌}

-- one octet or two say the length
head_short : (len : ℕ) → length (canonical_length len) ≤ 2
head_short len = by (nat_lt len 240)
  where
    by : (short : Bool) → length (if short then len ∷ [] else (240 + len / 256) ∷ (len % 256) ∷ []) ≤ 2
    by true = omega arith
    by false = omega arith

pub frame_short : (rule : Ruled) → IsRule rule → length (canonical_frame rule) ≤ 4097
frame_short rule is =
    let head : length (canonical_length (length (canonical_value rule.parts))) ≤ 2 = head_short (length (canonical_value rule.parts)) in
    let value : length (canonical_value rule.parts) ≤ 4095 = is.fits in
    omega (arith, head, value, length-append (canonical_length (length (canonical_value rule.parts))) (canonical_value rule.parts))
