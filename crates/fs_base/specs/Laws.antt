-- What the order of prefixes is to be, in words. Its law stands in src/laws.rt.
use Rattle.std.specs.{Prelude.{◌≡◌, ◌<◌, ◌↔◌, true, false}, Cmp.{IsTotalOrder}, declared.cmp.Ordering.{Ordering, TheVariants.{Less, Equal}}}
use Rattle.fs_base.specs.{declared.prefix.{Family.TheVariants.{V4, V6}, Prefix.{Prefix}}, Prefix.{covers}}

pub record IsPrecedence (cmp : Prefix → Prefix → Ordering) : Type 0 where
  pub total : IsTotalOrder cmp
  pub families : (p q : Prefix) → p.family ≡ V4 → q.family ≡ V6 → cmp p q ≡ Less
  -- of two nested prefixes the longer stands first
  pub nested : (p q : Prefix) → covers p q ≡ true → p.length < q.length → cmp q p ≡ Less
  -- of two that aren't nested the lower stands first
  pub apart : (p q : Prefix) → p.family ≡ q.family → covers p q ≡ false → covers q p ≡ false → p.bits < q.bits → cmp p q ≡ Less
  -- only the same prefix is equal
  pub same : (p q : Prefix) → (cmp p q ≡ Equal) ↔ ((p.family ≡ q.family) × (p.bits ≡ q.bits) × (p.length ≡ q.length))
