-- The words of the crates below, and of the specs, that lemmas here speak of.
pub use Rattle.std.proofs.Common.{Bool, List, None, Option, Ordering, Some, [], ap, ap₂, arith, drop, false, if◌then◌else◌, inl, inr, length, refl}
pub use Rattle.std.proofs.Common.{subst, suc, sym, true, true≢false, zero, ℕ, ◌%◌, ◌*◌, ◌++◌, ◌+◌, ◌-◌, ◌/◌, ◌<◌, ◌==◌, ◌^◌, ◌∙◌, ◌∷◌, ◌≡◌, ◌≤◌, ◌⊎◌}
pub use Rattle.std.proofs.lemmas.{Bool.{cases_lt, eqb-true, Decides.{nat_tests}}, Cmp.{ranked, tied_itself}, Nat.{pow_pos}}
pub use Rattle.std.specs.{Cmp.Lexicographic.{slice_cmp}, Ordering.{is_lt, nat_cmp, ordering_then}}
pub use Rattle.std.specs.declared.cmp.Ordering.TheVariants.{Equal, Greater, Less}
pub use Rattle.fs_base.{proofs.Covers.{same_family}, specs.{Bits.{afi_of, cleared}, declared.prefix.Family.{Family, TheVariants.{V4, V6}}}}
pub use Rattle.fs_ops.specs.OperatorList.{IsNormal, canonical, pair_octets}
pub use Rattle.fs_nlri.proofs.Sound.{rule_sound, sound_part}
pub use Rattle.fs_nlri.specs.{Component.{content_body, parts_of}, Forms.{Form, ListForm, V4Form, V6Form, form_of}}
pub use Rattle.fs_nlri.specs.Parts.{Body, ListBody, Part, Ruled, V4Body, V6Body}
pub use Rattle.fs_nlri.specs.Rule.{AreNormal, IsNormalAt, IsNormalBody, IsRule, destination_body, destination_in, destination_of}
pub use Rattle.fs_nlri.specs.Sound.{AreSound, IsSoundBody}
pub use Rattle.fs_order.specs.Comparison.{Before, BodyBefore, IsWithin, OctetsBefore, PartsBefore, PrefixBefore, parts_cmp, rule_cmp}
pub use Rattle.fs_order.specs.{Component.{body_cmp, ended_cmp, part_cmp}, Ranked.{body_total, rule_total}}
