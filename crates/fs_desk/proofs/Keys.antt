-- The keys of unicast and flow routes as tests.
use Rattle.fs_desk.proofs.Words.{◌≡◌, ◌==◌, ℕ, Bool, true, false, ◌&&◌, refl, ap, ap₂, sym, ◌∙◌, nat_cmp, is_eq, IsTotalOrder, then_total, on_total}
use Rattle.fs_desk.proofs.Words.{nat_cmp_total, tied_then, afi_of, prefix_cmp, prefix_matches_eq, Family, Prefix, Ruled, shown, rule_cmp, rule_total}
use Rattle.fs_desk.proofs.Words.{place_cmp, Place, flow_key_cmp, FlowKey, is_prefix, is_eq_of_nats}
use Rattle.fs_base.specs.declared.prefix.Family.TheVariants.{V4, V6}
use denote.Enum.Bare.{sameb}
use Rattle.fs_base.specs.contracts.prefix.Family.{the_type}

pub flow_key_total : IsTotalOrder flow_key_cmp
flow_key_total = then_total (on_total (λ (k : FlowKey). k.0) rule_total) (on_total (λ (k : FlowKey). k.1) nat_cmp_total)

family_same : (f g : Family) → sameb the_type f g ≡ (afi_of f == afi_of g)
family_same V4 V4 = refl
family_same V4 V6 = refl
family_same V6 V4 = refl
family_same V6 V6 = refl

pub and_swapped : (a b : Bool) → (a && b) ≡ (b && a)
and_swapped false false = refl
and_swapped false true = refl
and_swapped true false = refl
and_swapped true true = refl

-- two prefixes are one by their order exactly where they show the same
pub prefix_same : (p q : Prefix) → is_eq (prefix_cmp p q) ≡ is_prefix p (shown q)
prefix_same p q =
    sym (prefix_matches_eq p q)
    ∙ ap₂ (λ (a b : Bool). a && b) (family_same p.family q.family) (and_swapped (p.length == q.length) (p.bits == q.bits))

-- a place is a prefix and a peer
pub place_same : (a b : Place) → is_eq (place_cmp a b) ≡ (is_prefix a.prefix (shown b.prefix) && (a.peer == b.peer))
place_same a b =
    sym (tied_then (prefix_cmp a.prefix b.prefix) (nat_cmp a.peer b.peer))
    ∙ ap (λ (x : Bool). x && is_eq (nat_cmp a.peer b.peer)) (prefix_same a.prefix b.prefix)
    ∙ ap (λ (x : Bool). is_prefix a.prefix (shown b.prefix) && x) (is_eq_of_nats a.peer b.peer)

pub key_same : (rule other : Ruled) (peer from : ℕ) → is_eq (flow_key_cmp (rule, peer) (other, from)) ≡ (is_eq (rule_cmp rule other) && (peer == from))
key_same rule other peer from =
    sym (tied_then (rule_cmp rule other) (nat_cmp peer from))
    ∙ ap (λ (x : Bool). is_eq (rule_cmp rule other) && x) (is_eq_of_nats peer from)
