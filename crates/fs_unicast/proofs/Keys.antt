-- The last address of a prefix and its length tell the prefix.
use Rattle.fs_unicast.proofs.Words.{ℕ, ◌≡◌, ◌+◌, ◌-◌, ◌*◌, ◌^◌, ◌<◌, ◌≤◌, refl, sym, ap, subst, ◌∙◌, min, arith, nat_tests, Prefix, width_of, cleared}
use Rattle.fs_unicast.proofs.Words.{prefix_of, last_address, same_prefix, IsKey, family_of, high_of, low_of, bit_of, last_of, least, shown}
use Rattle.std.proofs.lemmas.Nat.{pow_pos}
use Rattle.fs_base.{specs.declared.prefix.Family.{Family, TheVariants.{V4, V6}}, proofs.Blocks.{IsBlock, block_of, block_meeting}}

-- the last address of a block is a block by itself
last_block : (w n b : ℕ) → IsBlock w n b → IsBlock w w (b + 2 ^ (w - n) - 1)
last_block w n b h = record {
  short = omega arith;
  count = b + 2 ^ (w - n) - 1;
  spelled = sym (one (w - w) (omega arith) (b + 2 ^ (w - n) - 1));
  within = let some : 0 < 2 ^ (w - n) = pow_pos (w - n) in let e : 2 ^ (w - w) ≡ 1 = ap (λ k. 2 ^ k) (let z : w - w ≡ 0 = omega arith in z) in
      omega (arith, h.within, e);
} where
  one : (k : ℕ) → k ≡ 0 → (x : ℕ) → x * 2 ^ k ≡ x
  one k z x = ap (λ i. x * 2 ^ i) z ∙ (let e : x * 2 ^ 0 ≡ x = omega arith in e)

first_of_last : (w n b : ℕ) → n ≤ w → b ≡ cleared w n b → cleared w n (b + 2 ^ (w - n) - 1) ≡ b
first_of_last w n b h e = let block : IsBlock w n b = block_of w n b h e in
    let some : 0 < 2 ^ (w - n) = pow_pos (w - n) in
    let more : 0 < 2 ^ (w - w) = pow_pos (w - w) in
    block_meeting w n b w (b + 2 ^ (w - n) - 1) block (last_block w n b block) h (omega (arith, some, more)) (omega (arith, some))

-- a prefix is made again from its last address
pub key_again : (p : Prefix) → prefix_of p.family (last_address p) p.length ≡ p
key_again p = same_prefix (prefix_of p.family (last_address p) p.length) p refl
    (ap (λ n. cleared (width_of p.family) n (last_address p)) short ∙ first_of_last (width_of p.family) p.length p.bits p.short p.clear) short where
      short : min p.length (width_of p.family) ≡ p.length
      short = least p.short

-- the last address lies within the width
last_within : (p : Prefix) → last_address p < 2 ^ width_of p.family
last_within p = let block = block_of (width_of p.family) p.length p.bits p.short p.clear in
    let some : 0 < 2 ^ (width_of p.family - p.length) = pow_pos (width_of p.family - p.length) in omega (arith, block.within, some)

-- an address is read again
last_again : (f : Family) (x : ℕ) → last_of f (high_of f x) (low_of f x) (bit_of f x) ≡ x
last_again V4 x = refl
last_again V6 x = omega arith

family_again : (f : Family) (x : ℕ) → x < 2 ^ width_of f → family_of (high_of f x) ≡ f
family_again V4 x h = grind (arith, nat_tests)
family_again V6 x h = grind (arith, nat_tests)

-- what a key of a prefix shows
pub shown_again : (p : Prefix) → shown (high_of p.family (last_address p)) (low_of p.family (last_address p)) (bit_of p.family (last_address p)) p.length ≡ p
shown_again p = ap (λ f. prefix_of f
    (last_of f (high_of p.family (last_address p)) (low_of p.family (last_address p)) (bit_of p.family (last_address p))) p.length)
    (family_again p.family (last_address p) (last_within p))
    ∙ ap (λ x. prefix_of p.family x p.length) (last_again p.family (last_address p)) ∙ key_again p

pub key_is : (p : Prefix) → IsKey (high_of p.family (last_address p)) (low_of p.family (last_address p)) (bit_of p.family (last_address p)) p.length
key_is p = record {
  short = subst (λ f. p.length ≤ width_of f) (sym (family_again p.family (last_address p) (last_within p))) p.short;
  high_again = ap (λ q. high_of q.family (last_address q)) (shown_again p);
  low_again = ap (λ q. low_of q.family (last_address q)) (shown_again p);
  bit_again = ap (λ q. bit_of q.family (last_address q)) (shown_again p);
}
