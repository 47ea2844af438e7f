-- The tests of components stand for them.
use Rattle.fs_ranges.proofs.Words.{◌≡◌, ℕ, ◌+◌, ◌-◌, ◌^◌, ◌<◌, ◌≤◌, List, Option, Some, None, refl, sym, ap, ◌∙◌, arith, inl, inr, subst, ◌⊎◌}
use Rattle.fs_ranges.proofs.Words.{pow_pos, Family, width_of, IsBlock, block_of, ListBody, V4Body, V6Body, part, IsSoundBody, flags_hold, Pattern}
use Rattle.fs_ranges.proofs.Words.{Range, Within, TcpFlags, Destination, Source, facts_of, range, range_holds, IsPatternOf, IsTestOf, flags_pass}
use Rattle.fs_ranges.proofs.Words.{Field, DestinationAddress, SourceAddress, kind_of}
use Rattle.fs_ranges.proofs.Blocks.{in_v4, in_v6}
use Rattle.fs_base.specs.{declared.prefix.{Family.TheVariants.{V4}, Prefix.{Prefix}}, Prefix.{last_address}}
use Rattle.fs_packet.proofs.Flags.{flags_same, sound_is_wide}

v4_last : (p : Prefix) → p.family ≡ V4 → last_address p + 1 ≡ p.bits + 2 ^ (32 - p.length)
v4_last p h =
    let e : last_address p ≡ p.bits + 2 ^ (32 - p.length) - 1 = ap (λ (f : Family). p.bits + 2 ^ (width_of f - p.length) - 1) h in
    let some : 0 < 2 ^ (32 - p.length) = pow_pos (32 - p.length) in
    omega arith

pub v4_high : (p : Prefix) → IsSoundBody (V4Body p.family p.length p.bits) → last_address p < 2 ^ 32
v4_high p sound =
    let block : IsBlock 32 p.length p.bits = block_of 32 p.length p.bits sound.1 sound.2 in
    let within : p.bits + 2 ^ (32 - p.length) ≤ 2 ^ 32 = block.within in
    let last : last_address p + 1 ≡ p.bits + 2 ^ (32 - p.length) = v4_last p sound.0 in
    omega arith

pub v4_prefix : (field : Field) (p : Prefix) (r : Range) → (field ≡ DestinationAddress) ⊎ (field ≡ SourceAddress)
    → IsSoundBody (V4Body p.family p.length p.bits) → r ≡ range field p.bits (last_address p)
    → IsTestOf (part (kind_of field) (V4Body p.family p.length p.bits)) (Within r)
v4_prefix field p r (inl one) sound h = subst (λ f. IsTestOf (part (kind_of f) (V4Body p.family p.length p.bits)) (Within r)) (sym one) (λ view small.
    ap (range_holds (facts_of view)) (h ∙ ap (λ f. range f p.bits (last_address p)) one)
    ∙ in_v4 p.family p.length p.bits (last_address p) view.destination sound.1 sound.2 (v4_last p sound.0) small.destination)
v4_prefix field p r (inr two) sound h = subst (λ f. IsTestOf (part (kind_of f) (V4Body p.family p.length p.bits)) (Within r)) (sym two) (λ view small.
    ap (range_holds (facts_of view)) (h ∙ ap (λ f. range f p.bits (last_address p)) two)
    ∙ in_v4 p.family p.length p.bits (last_address p) view.source sound.1 sound.2 (v4_last p sound.0) small.source)

pub v6_destination : (len offset bits : ℕ) (pattern : Pattern) → IsSoundBody (V6Body len offset bits) → IsPatternOf len offset bits pattern
    → IsTestOf (part 1 (V6Body len offset bits)) (Destination pattern)
v6_destination len offset bits pattern sound h = λ view small. in_v6 len offset bits pattern view.destination sound h

pub v6_source : (len offset bits : ℕ) (pattern : Pattern) → IsSoundBody (V6Body len offset bits) → IsPatternOf len offset bits pattern
    → IsTestOf (part 2 (V6Body len offset bits)) (Source pattern)
v6_source len offset bits pattern sound h = λ view small. in_v6 len offset bits pattern view.source sound h

same_flags : (pairs : List (ℕ × ℕ)) (octets : Option ℕ) → IsSoundBody (ListBody pairs) → flags_pass pairs octets ≡ flags_hold pairs octets
same_flags pairs None sound = refl
same_flags pairs (Some octets) sound = sym (flags_same octets pairs (sound_is_wide pairs sound))

pub flags_are : (pairs copy : List (ℕ × ℕ)) → IsSoundBody (ListBody pairs) → copy ≡ pairs → IsTestOf (part 9 (ListBody pairs)) (TcpFlags copy)
flags_are pairs copy sound e = λ view small. ap (λ (list : List (ℕ × ℕ)). flags_pass list view.tcp_octets) e ∙ same_flags pairs view.tcp_octets sound
