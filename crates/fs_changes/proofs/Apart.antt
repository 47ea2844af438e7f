-- Rules whose destinations are apart are in the order of these.
use Rattle.fs_changes.proofs.Words.{IfSome, Option, Some, None, ap, refl, sym, subst, ℕ, ◌&&◌, ◌∙◌, ◌≡◌, option_map, eq-eqb, is_eq, is_gt}
use Rattle.fs_changes.proofs.Words.{ordering_then, Less, Greater, tied_itself, afi_of, Family, Prefix, IsMade, destination_of, shown}
use Rattle.fs_changes.proofs.Words.{destinations_first, rule_cmp, destination_cmp, rule_total, family_of_destination, IsRuleOf, is_to, FlowRoute}
use Rattle.fs_changes.proofs.Words.{made_destination, shown_is, place_by, span_by, span_of, target_of, act_of, is_before, is_same, same_actions}
use Rattle.fs_changes.proofs.{Same.{same_itself}, Seams.{StandApart}, Spans.{in_order}}

-- two destinations of a family stand to one another as their addresses do
placed : (family : Family) (a b : Option (Family × ℕ × ℕ)) → ((d : Family × ℕ × ℕ) → a ≡ Some d → IsMade (Some d) × (d.0 ≡ family))
    → ((d : Family × ℕ × ℕ) → b ≡ Some d → IsMade (Some d) × (d.0 ≡ family))
    → destination_cmp a b ≡ place_by (span_by b) (span_by a)
placed family None None h k = refl
placed family None (Some d) h k = refl
placed family (Some s) None h k = refl
placed family (Some s) (Some d) h k = shown_is s d (h s refl).0 (k d refl).0 ((h s refl).1 ∙ sym (k d refl).1)

made : (family : Family) (r : FlowRoute) → IsRuleOf family r → (d : Family × ℕ × ℕ) → destination_of r.rule ≡ Some d → IsMade (Some d) × (d.0 ≡ family)
made family r own d e = (made_destination r.rule d own.rule e, family_of_destination r.rule d own.rule e ∙ own.family)

-- Whether a rule has a destination is told by its addresses.
pub to_is : (family : Family) (destination : Option Prefix) (r : FlowRoute) → IfSome destination (λ p. p.family ≡ family) → IsRuleOf family r
    → is_to family destination r.rule ≡ is_eq (place_by (target_of destination) (span_of r.rule))
to_is family destination r here own =
    ap (λ b. b && is_eq (destination_cmp (destination_of r.rule) (option_map shown destination)))
    (eq-eqb (afi_of r.rule.family) (afi_of family) (ap afi_of own.family))
    ∙ ap is_eq (placed family (destination_of r.rule) (option_map shown destination) (made family r own) (of_prefix destination here)) where
      same_shown : (p : Prefix) (d : Family × ℕ × ℕ) → p.family ≡ family → Some (shown p) ≡ Some d → IsMade (Some d) × (d.0 ≡ family)
      same_shown p d f e = subst (λ o. (IsMade o) × (IfSome o (λ x. x.0 ≡ family))) e ((p.short, p.clear), f)

      of_prefix : (p : Option Prefix) → IfSome p (λ q. q.family ≡ family) → (d : Family × ℕ × ℕ) → option_map shown p ≡ Some d
          → IsMade (Some d) × (d.0 ≡ family)
      of_prefix None f d e = absurd (none_some e) where
        none_some : None ≡ Some d → ⊥
        none_some i = cc
      of_prefix (Some p) f d e = same_shown p d f e

-- of two rules that whose destination is before the other's is first
pub first_of : (family : Family) (r s : FlowRoute) → IsRuleOf family r → IsRuleOf family s → place_by (span_of s.rule) (span_of r.rule) ≡ Less
    → rule_cmp r.rule s.rule ≡ Less
first_of family r s own other e = destinations_first r.rule s.rule own.rule other.rule (own.family ∙ sym other.family)
    ∙ ap (λ o. ordering_then o (rule_cmp r.rule s.rule))
    (placed family (destination_of r.rule) (destination_of s.rule) (made family r own) (made family s other) ∙ e)

pub last_of : (family : Family) (r s : FlowRoute) → IsRuleOf family r → IsRuleOf family s → place_by (span_of s.rule) (span_of r.rule) ≡ Greater
    → rule_cmp r.rule s.rule ≡ Greater
last_of family r s own other e = destinations_first r.rule s.rule own.rule other.rule (own.family ∙ sym other.family)
    ∙ ap (λ o. ordering_then o (rule_cmp r.rule s.rule))
    (placed family (destination_of r.rule) (destination_of s.rule) (made family r own) (made family s other) ∙ e)

-- the key of a route among others
abbrev pub key : FlowRoute → Option (ℕ × ℕ)
key r = span_of r.rule

pub stand_apart : (family : Family) → StandApart place_by key act_of is_before is_same (IsRuleOf family)
stand_apart family = record {
  order = in_order;
  before_it = λ x y own other e. ap is_gt (last_of family y x other own (in_order.less (key y) (key x) e));
  not_after = λ x y own other e. ap is_gt (first_of family x y own other e);
  not_same = λ x y own other e. ap (λ o. is_eq o && same_actions x.actions y.actions) (first_of family x y own other e);
  never = λ t. ap is_gt (tied_itself rule_total t.rule);
  itself = same_itself;
}
