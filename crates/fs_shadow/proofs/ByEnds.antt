-- Prefixes compared by the ends of the inner one.
use Rattle.fs_shadow.proofs.Words.{◌≡◌, ℕ, ◌+◌, ◌-◌, ◌*◌, ◌/◌, ◌%◌, ◌^◌, ◌==◌, ◌&&◌, ap, ◌∙◌, Family, V4, V6, cleared, width_of, V4Body, V6Body}
use Rattle.fs_shadow.proofs.Words.{IsSoundBody, is_prefix_of, body_lies_in, highest_with}
use Rattle.fs_shadow.proofs.Lying.{by_ends}
use Rattle.fs_shadow.proofs.Known.{known_v4, known_v6, lowest_of, shift_dropped, v4_highest, v4_lowest}

pub v4_by_ends : (f g : Family) (m a n b last : ℕ) → IsSoundBody (V4Body f m a) → IsSoundBody (V4Body g n b) → last ≡ a + 2 ^ (width_of f - m) - 1
    → ((cleared 32 n a == b) && (cleared 32 n last == b)) ≡ body_lies_in 1 (V4Body f m a) (V4Body g n b)
v4_by_ends f g m a n b last sound also e =
    (λ i. (cleared 32 n (v4_lowest m a sound.1 sound.2 i) == b)
    && (cleared 32 n (v4_highest m a last sound.1 sound.2 (e ∙ ap (λ h. a + 2 ^ (width_of h - m) - 1) sound.0) i) == b))
    ∙ by_ends 32 (λ x. is_prefix_of (V4Body f m a) (V4 x)) (λ x. is_prefix_of (V4Body g n b) (V4 x)) 0 m (32 - m) (a / 2 ^ (32 - m)) 0 n (32 - n)
    (b / 2 ^ (32 - n))
    (known_v4 f m a sound) (known_v4 g n b also)

pub v6_by_ends : (m o a n p b highest : ℕ) → IsSoundBody (V6Body m o a) → IsSoundBody (V6Body n p b)
    → highest ≡ highest_with o (m - o) (128 - m) (a / 2 ^ (128 - (m - o)))
    → ((cleared 128 (n - p) (a / 2 ^ o * 2 ^ p % 2 ^ 128) == b) && (cleared 128 (n - p) (highest * 2 ^ p % 2 ^ 128) == b))
    ≡ body_lies_in 1 (V6Body m o a) (V6Body n p b)
v6_by_ends m o a n p b highest sound also e =
    (λ i. (shift_dropped (n - p) (a / 2 ^ o * 2 ^ p) i == b) && (shift_dropped (n - p) (highest * 2 ^ p) i == b))
    ∙ (λ i. (cleared 128 (n - p) (lowest_of m o a sound i * 2 ^ p) == b) && (cleared 128 (n - p) (e i * 2 ^ p) == b))
    ∙ by_ends 128 (λ x. is_prefix_of (V6Body m o a) (V6 x)) (λ x. is_prefix_of (V6Body n p b) (V6 x)) o (m - o) (128 - m) (a / 2 ^ (128 - (m - o))) p
    (n - p) (128 - n) (b / 2 ^ (128 - (n - p)))
    (known_v6 m o a sound) (known_v6 n p b also)
