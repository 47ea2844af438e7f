use Rattle.fs_ops.proofs.Words.{◌≡◌, ℕ, ◌+◌, ◌<◌, List, [], ◌∷◌, ◌++◌, length, take, get_or, ap, ◌∙◌, arith, length-append, take_more}
use Rattle.fs_ops.proofs.Words.{length-bytes_high_first, width_of, canonical, pair_octets}
use Rattle.fs_ops.proofs.writing.encoded_len.Goals as goal

one_pair : (pair : ℕ × ℕ) → length (pair_octets pair) ≡ 1 + width_of pair.0
one_pair pair = omega (arith, length-bytes_high_first (width_of pair.0) pair.1)

pushed : (pairs : List (ℕ × ℕ)) (pair : ℕ × ℕ) → length (canonical (pairs ++ pair ∷ [])) ≡ length (canonical pairs) + (1 + width_of pair.0)
pushed [] pair = omega (arith, length-append (pair_octets pair) [], one_pair pair)
pushed (own ∷ pairs) pair =
    omega (arith, length-append (pair_octets own) (canonical (pairs ++ pair ∷ [])), length-append (pair_octets own) (canonical pairs), pushed pairs pair)

one_more : (pairs : List (ℕ × ℕ)) (index len size : ℕ) → index < length pairs → len ≡ length (canonical (take index pairs))
    → size ≡ width_of (get_or pairs index (0, 0)).0 → len + (1 + size) ≡ length (canonical (take (index + 1) pairs))
one_more pairs index len size inside counted sized =
    let more = ap (λ (l : List (ℕ × ℕ)). length (canonical l)) (take_more pairs index (0, 0) inside) ∙ pushed (take index pairs) (get_or pairs index (0, 0)) in
    omega arith

pub loop-operator-preserved : goal.loop-operator-preserved
loop-operator-preserved c = record {
  value = one_more c.args.pairs.now c.loop-operator.operator-index c.loop-operator.len c.width_of.result c.loop-operator-test.true
      c.loop-operator.invariant.value c.width_of.ensures.value;
  small = omega (arith, c.width_of.ensures.high);
}
