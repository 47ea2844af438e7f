use Rattle.fs_packet.proofs.Words.{◌≡◌, ℕ, zero, suc, ◌+◌, ◌-◌, ◌*◌, ◌<◌, ◌≤◌, List, length, Err, sym, ◌∙◌, arith, true, false, Bool, nat_lt}
use Rattle.fs_packet.proofs.Words.{if◌then◌else◌, le-ltb, number_at, behind_tags, behind_type, is_tag, Short}

-- One tag more of an Ethernet header.

-- what is left gives what the whole gives
pub record Tagged (octets : List ℕ) (tags place : ℕ) : Type 0 where
  pub same : behind_tags tags place octets ≡ behind_tags 2 12 octets
  pub near : place + 4 * tags ≤ 20

tests_known : (tags place : ℕ) (octets : List ℕ) (b c : Bool) → nat_lt (length octets) (place + 2) ≡ b → is_tag (number_at 2 octets place) ≡ c
    → behind_tags (suc tags) place octets ≡ (if b then Err Short else (if c then behind_tags tags (place + 4) octets else behind_type place (place + 2) octets))
tests_known tags place octets b c h k =
    λ i. if h i then Err Short else (if k i then behind_tags tags (place + 4) octets else behind_type place (place + 2) octets)

-- one tag more was passed
pub tagged_more : (octets : List ℕ) (tags place : ℕ) → 0 < tags → place + 2 ≤ length octets → is_tag (number_at 2 octets place) ≡ true
    → Tagged octets tags place → Tagged octets (tags - 1) (place + 4)
tagged_more octets zero place some held tag h = absurd (omega arith)
tagged_more octets (suc tags) place some held tag h =
    let one : suc tags - 1 ≡ tags = omega arith in
    record {
      same = rw one (sym (tests_known tags place octets false true (le-ltb (length octets) (place + 2) held) tag) ∙ h.same);
      near = omega (arith, h.near);
    }

-- no tag stands at the place
pub tagged_type : (octets : List ℕ) (tags place : ℕ) → 0 < tags → place + 2 ≤ length octets → is_tag (number_at 2 octets place) ≡ false
    → Tagged octets tags place → behind_type place (place + 2) octets ≡ behind_tags 2 12 octets
tagged_type octets zero place some held tag h = absurd (omega arith)
tagged_type octets (suc tags) place some held tag h = sym (tests_known tags place octets false false (le-ltb (length octets) (place + 2) held) tag) ∙ h.same
